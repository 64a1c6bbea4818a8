-- Lists of conversions: the frame that each call leaves to the next, and what the maker owes.
use Rattle.std.specs.Prelude.{◌≡◌, ◌⊎◌, Bool, cond, List, [], ◌∷◌, ℕ, ◌≤◌, T}
use Rattle.cubemap.specs.Interface.{is_accepted}
use Rattle.cubemap.specs.Frames.{Frame, sample_at}
use Rattle.cubemap.specs.Rotations.{CubeRotation}
use Rattle.cubemap.specs.Checks.{ConvertSettings, target_shape, first_failed, lowest_beyond, before_samples}
use Rattle.cubemap.specs.Promises.{ConvertCall}
use Rattle.sequences.specs.Model.{Told, told, accepts}

-- ---- the frames of a list, as the calls leave them

-- what a call leaves to the next: what it wrote where it is accepted, else the frame left to it
unfoldable pub left_by : Frame → ConvertCall → Frame
left_by F c =
    cond (accepts (told c) c.source)
    (record { shape = target_shape c.settings; layout = c.settings.target_layout; bytes = c.target_after })
    F

-- "the frame that the last accepted conversion wrote, or the first"
unfoldable pub last_frame : Frame → List ConvertCall → Frame
last_frame F [] = F
last_frame F (c ∷ cs) = last_frame (left_by F c) cs

-- H holds of each call and the frame left to it
unfoldable pub Each : (Frame → ConvertCall → Type 0) → Frame → List ConvertCall → Type 0
Each H F [] = Unit {0}
Each H F (c ∷ cs) = H F c × Each H (left_by F c) cs

-- ---- what the maker owes

-- do checks 1 to 9, which look at no sample, let the call through?
abbrev pub passes_before_samples : Told → Bool
passes_before_samples c = is_accepted (first_failed (before_samples c.settings c.source_length c.target_length))

-- "each reads the frame that the last accepted one wrote, or the first where none was, nobody else writes it meanwhile"
pub record Reads (F : Frame) (c : ConvertCall) : Type 0 where
  -- the source of an accepted call holds that frame's bytes
  pub whole : T (accepts (told c) c.source) → c.source ≡ F.bytes
  -- check 10 looks at the samples from the first to the lowest one beyond the depth: these are that frame's. What lies behind is free, so a call that
  -- check 10 refuses may name another size, smaller or larger. (One that checks 1 to 9 refuse looks at no sample, and may be lent anything.)
  pub part : T (passes_before_samples (told c))
      → (i : ℕ) → i ≤ lowest_beyond c.settings.source_shape c.source → sample_at c.source i ≡ sample_at F.bytes i

-- "An accepted conversion names for its source that frame's own size, depth, format and layout"; it goes "by whole-cube turns to the first frame's own
-- size, depth and format", which the frame left to it has too, "with either sampler and any layouts"
pub record OwnCubeTurn (F : Frame) (s : ConvertSettings) : Type 0 where
  pub own-shape : s.source_shape ≡ F.shape
  pub own-layout : s.source_layout ≡ F.layout
  pub same_shape : target_shape s ≡ F.shape
  pub cube : CubeRotation s.rotation

-- "a refused one may name others"
abbrev pub AcceptedAreOwn : Frame → ConvertCall → Type 0
AcceptedAreOwn F c = T (accepts (told c) c.source) → OwnCubeTurn F c.settings

-- ---- a run: calls of a converter, for which the maker gives what is owed

-- a converter, by its histories: the lists of all calls that it may make, whoever asks for them
abbrev pub Converter : Type 1
Converter = List ConvertCall → Type 0

-- cs are some of the calls of a history, in its order: others, on other frames, may stand between them
unfoldable pub Among : List ConvertCall → List ConvertCall → Type 0
Among [] history = Unit {0}
Among (c ∷ cs) [] = ⊥
Among (c ∷ cs) (h ∷ history) = ((c ≡ h) × Among cs history) ⊎ Among (c ∷ cs) history

-- the converter each of whose calls keeps a promise, whatever came before it
unfoldable pub Keeping : (ConvertCall → Type 0) → Converter
Keeping promise [] = Unit {0}
Keeping promise (c ∷ cs) = promise c × Keeping promise cs

pub record Run (M : Converter) (first : Frame) (cs : List ConvertCall) : Type 0 where
  pub history : List ConvertCall
  pub made : M history
  pub among : Among cs history
  pub reads : Each Reads first cs
  pub own : Each AcceptedAreOwn first cs
