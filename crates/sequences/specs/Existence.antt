-- That what demand 3 speaks of exists: runs of every list of whole-cube turns, two lists whose folds give the same places, and calls that question 10
-- refuses and that name another face size than the frame's.
use Rattle.std.specs.Prelude.{◌≡◌, cond, List, [], ◌∷◌, ◌++◌, ℕ, ◌+◌, ◌*◌, ◌%◌, T, eqb, take, replicate}
use Rattle.cubemap.specs.declared.Rotation.{Rotation}
use Rattle.cubemap.specs.Interface.{answer, return_code}
use Rattle.cubemap.specs.Frames.{Frame, shape_of, framed, usual_layout}
use Rattle.cubemap.specs.Rotations.{CubeRotation}
use Rattle.cubemap.specs.Checks.{ConvertSettings, convert_settings, rotation_in_range, rotation_nonzero}
use Rattle.cubemap.specs.Outcomes.{convert_outcome}
use Rattle.cubemap.specs.Promises.{ConvertCall, convert_call, ConvertPromise}
use Rattle.cubemap.specs.Marked.{cmp, acp, rotationℕ}
use Rattle.sequences.specs.Steps.{SamePlaces}
use Rattle.sequences.specs.Model.{told, told_all, answer_to, at_start, model_of, accepted_rotations}
use Rattle.sequences.specs.Runs.{left_by, last_frame, Keeping, Run}
use Rattle.sequences.specs.Demand3.{frame_ok}

-- the call as convert's definition makes it: settings, source, target before
abbrev pub made : ConvertSettings → List ℕ → List ℕ → ConvertCall
made s source target =
    let o = convert_outcome s source target in
    convert_call s source target (return_code o.answered) s.source_layout s.target_layout source o.bytes

-- ---- a frame turned again and again

-- the call that turns a frame by t, with the cubic sampler, into a frame of the same shape and layout. (Its target holds the frame's bytes before.)
abbrev pub turning : Frame → Rotation → ConvertCall
turning F t = made (convert_settings F.shape F.shape.size F.shape.format 1 F.layout F.layout t) F.bytes F.bytes

-- by each turn of a list, each call reading what the last one left
unfoldable pub turned : Frame → List Rotation → List ConvertCall
turned F [] = []
turned F (t ∷ ts) = turning F t ∷ turned (left_by F (turning F t)) ts

-- a whole-cube turn that questions 6 and 7 let through
pub record CubeTurn (t : Rotation) : Type 0 where
  pub in-range : T (rotation_in_range t)
  pub nonzero : T (rotation_nonzero t)
  pub cube : CubeRotation t

unfoldable pub CubeTurns : List Rotation → Type 0
CubeTurns [] = Unit {0}
CubeTurns (t ∷ ts) = CubeTurn t × CubeTurns ts

pub record Turned (F : Frame) (ts : List Rotation) : Type 0 where
  pub run : Run (Keeping ConvertPromise) F (turned F ts)
  pub accepted : accepted_rotations (at_start F) (told_all (turned F ts)) ≡ ts

-- ---- two lists, in ACP at size 2: a quarter about Y twice, and a half once

abbrev pub one : Frame
one = record { shape = shape_of 2 8 acp; layout = usual_layout; bytes = framed 2 (λ i. i * i * 7 % 256) 24 }

abbrev pub two : Frame
two = record { shape = shape_of 2 8 acp; layout = usual_layout; bytes = framed 2 (λ i. i * i * 5 % 256) 24 }

abbrev pub quarters : List ConvertCall
quarters = turned one (rotationℕ 1 0 1 0 ∷ rotationℕ 1 0 1 0 ∷ [])

abbrev pub half : List ConvertCall
half = turned two (rotationℕ 0 0 1 0 ∷ [])

-- they meet what `Demand3.scored` asks, and no call is refused
pub record TwoLists : Type 0 where
  pub first : Turned one (rotationℕ 1 0 1 0 ∷ rotationℕ 1 0 1 0 ∷ [])
  pub second : Turned two (rotationℕ 0 0 1 0 ∷ [])
  pub same_shape : one.shape ≡ two.shape
  pub same-places : SamePlaces one.shape (model_of one quarters).fold (model_of two half).fold

-- ---- a frame of size 2 and depth 12, with the sample 300 at index 3; and calls that name depth 8, and size 1 or size 3

abbrev pub deep : Frame
deep = record { shape = shape_of 2 12 cmp; layout = usual_layout; bytes = framed 2 (λ i. cond (eqb i 3) 300 (10 + i)) 24 }

-- lent the first 12 of the frame's 48 bytes
abbrev pub names_smaller : ConvertCall
names_smaller = made (convert_settings (shape_of 1 8 cmp) 1 cmp 0 usual_layout usual_layout (rotationℕ 1 0 0 0)) (take 12 deep.bytes) (replicate 12 7)

-- lent the frame's bytes with 60 more
abbrev pub names_larger : ConvertCall
names_larger = made (convert_settings (shape_of 3 8 cmp) 1 cmp 0 usual_layout usual_layout (rotationℕ 1 0 0 0)) (deep.bytes ++ replicate 60 255) (replicate 12 7)

-- both are refused by 10 with index 3, by the call and by the model alike, and the frame stays
pub record OtherSizes : Type 0 where
  pub run : Run (Keeping ConvertPromise) deep (names_smaller ∷ names_larger ∷ [])
  pub returned : (names_smaller.returned ≡ 10 + 256 * 3) × (names_larger.returned ≡ 10 + 256 * 3)
  pub model : (answer_to (told names_smaller) deep.bytes ≡ answer 10 3) × (answer_to (told names_larger) deep.bytes ≡ answer 10 3)
  pub last : last_frame deep (names_smaller ∷ names_larger ∷ []) ≡ deep

pub record Existence : Type 0 where
  -- for every frame that passes the questions of its own and every list of such turns there is a run that makes just these turns
  pub turns : (F : Frame) (ts : List Rotation) → T (frame_ok F) → CubeTurns ts → Turned F ts
  pub two-lists : TwoLists
  pub other-sizes : OtherSizes
