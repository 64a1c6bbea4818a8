-- The paper, "Questions, in order". A question is a check here, a "no" a refusal.
use Rattle.std.specs.Prelude.{Bool, ◌&&◌, not, cond, List, [], ◌∷◌, ◌++◌, ℕ, leb, eqb, length, nat_abs}
use Rattle.arithmetic.specs.Searches.{lowest, all_below}
use Rattle.arithmetic.specs.Sums.{count_below}
use Rattle.cubemap.specs.declared.Ray.{Ray}
use Rattle.cubemap.specs.declared.Rotation.{Rotation}
use Rattle.cubemap.specs.declared.Shape.{Shape}
use Rattle.cubemap.specs.Interface.{Answer, answer, accepted}
use Rattle.cubemap.specs.Frames.{sample_at, within_depth, samples_in, bytes_in, face_in, quarter_turns_in}
use Rattle.cubemap.specs.Rotations.{compose}

-- ---- what a call names

-- convert: "both ends share the depth"
pub record ConvertSettings : Type 0 where
  pub source_shape : Shape
  pub target_size : ℕ
  pub target_format : ℕ
  pub sampler : ℕ
  pub source_layout : List ℕ
  pub target_layout : List ℕ
  pub rotation : Rotation

abbrev pub convert_settings : Shape → ℕ → ℕ → ℕ → List ℕ → List ℕ → Rotation → ConvertSettings
convert_settings z size format sampler source_layout target_layout t = record {
  source_shape = z;
  target_size = size;
  target_format = format;
  sampler = sampler;
  source_layout = source_layout;
  target_layout = target_layout;
  rotation = t;
}

unfoldable pub target_shape : ConvertSettings → Shape
target_shape s = record { size = s.target_size; depth = s.source_shape.depth; format = s.target_format }

-- score: "Each frame has its own layout; size, depth and format are common."
pub record ScoreSettings : Type 0 where
  pub shape : Shape
  pub first_layout : List ℕ
  pub second_layout : List ℕ

abbrev pub score_settings : Shape → List ℕ → List ℕ → ScoreSettings
score_settings z first_layout second_layout = record { shape = z; first_layout = first_layout; second_layout = second_layout }

-- ---- a check, and the first that fails

pub record Check : Type 0 where
  pub holds : Bool
  pub number : ℕ
  pub index : ℕ

-- a check that brings no index
abbrev pub check : ℕ → Bool → Check
check n b = record { holds = b; number = n; index = 0 }

-- "A "no" ends the call with that number. For 10 and 11 the lowest offending index comes with it, for the others 0."
unfoldable pub first_failed : List Check → Answer
first_failed [] = accepted
first_failed (c ∷ cs) = cond c.holds (first_failed cs) (answer c.number c.index)

-- ---- what the checks ask

abbrev pub between : ℕ → ℕ → ℕ → Bool
between low high x = leb low x && leb x high

-- 1, 2: "1 to 512"
unfoldable pub size_ok : ℕ → Bool
size_ok A = between 1 512 A

-- 3: "8 to 12"
unfoldable pub depth_ok : ℕ → Bool
depth_ok D = between 8 12 D

-- 4: "0 or 1"
unfoldable pub code_ok : ℕ → Bool
code_ok c = leb c 1

-- 5: "every face once, with turns 0 to 3", of 12 bytes: "another length is a "no" to question 5"
unfoldable pub layout_ok : List ℕ → Bool
layout_ok L =
    eqb (length L) 12
    && all_below (λ f. eqb (count_below (λ slot. eqb (face_in L slot) f) 6) 1) 6
    && all_below (λ slot. leb (quarter_turns_in L slot) 3) 6

-- 6, 12: "−31 to 31"
unfoldable pub rotation_in_range : Rotation → Bool
rotation_in_range t = leb (nat_abs t.e0) 31 && leb (nat_abs t.e1) 31 && leb (nat_abs t.e2) 31 && leb (nat_abs t.e3) 31

-- 7: "a nonzero number"
unfoldable pub rotation_nonzero : Rotation → Bool
rotation_nonzero t =
    not (eqb (nat_abs t.e0) 0 && eqb (nat_abs t.e1) 0 && eqb (nat_abs t.e2) 0 && eqb (nat_abs t.e3) 0)

-- 8, 9: "exactly the frame's bytes"
unfoldable pub length_ok : Shape → ℕ → Bool
length_ok z n = eqb n (bytes_in z)

-- 10, 11: "every sample .. within the depth"
abbrev pub sample_ok : Shape → List ℕ → ℕ → Bool
sample_ok z bytes i = within_depth z.depth (sample_at bytes i)

unfoldable pub samples_ok : Shape → List ℕ → Bool
samples_ok z bytes = all_below (sample_ok z bytes) (samples_in z)

-- "the lowest offending index"
unfoldable pub lowest_beyond : Shape → List ℕ → ℕ
lowest_beyond z bytes = lowest (λ i. not (sample_ok z bytes i)) (samples_in z)

abbrev pub samples_check : ℕ → Shape → List ℕ → Check
samples_check n z bytes = record { holds = samples_ok z bytes; number = n; index = lowest_beyond z bytes }

-- 13: "−536,870,911 to 536,870,911"
unfoldable pub ray_in_range : Ray → Bool
ray_in_range v = leb (nat_abs v.x) 536870911 && leb (nat_abs v.y) 536870911 && leb (nat_abs v.z) 536870911

-- 14: "one of them nonzero"
unfoldable pub ray_nonzero : Ray → Bool
ray_nonzero v = not (eqb (nat_abs v.x) 0 && eqb (nat_abs v.y) 0 && eqb (nat_abs v.z) 0)

-- ---- the checks of each call, in order. (15 and 16 are the listing program's: Listing.)

-- "Convert puts 1 to 10 (both ends share the depth; its second buffer is the target)": the settings, the two buffers' lengths, the source's bytes.
-- 1 and 2
unfoldable pub size_checks : ConvertSettings → List Check
size_checks s = check 1 (size_ok s.source_shape.size) ∷ check 2 (size_ok s.target_size) ∷ []

-- 3 to 7
unfoldable pub setting_checks : ConvertSettings → List Check
setting_checks s =
    check 3 (depth_ok s.source_shape.depth)
    ∷ check 4 (code_ok s.source_shape.format && code_ok s.target_format && code_ok s.sampler)
    ∷ check 5 (layout_ok s.source_layout && layout_ok s.target_layout)
    ∷ check 6 (rotation_in_range s.rotation)
    ∷ check 7 (rotation_nonzero s.rotation)
    ∷ []

-- 8 and 9
unfoldable pub length_checks : ConvertSettings → ℕ → ℕ → List Check
length_checks s source_length target_length =
    check 8 (length_ok s.source_shape source_length) ∷ check 9 (length_ok (target_shape s) target_length) ∷ []

-- 1 to 9, which look at no sample, and then 10
unfoldable pub before_samples : ConvertSettings → ℕ → ℕ → List Check
before_samples s source_length target_length = size_checks s ++ setting_checks s ++ length_checks s source_length target_length

unfoldable pub convert_checks : ConvertSettings → ℕ → ℕ → List ℕ → List Check
convert_checks s source_length target_length source =
    before_samples s source_length target_length ++ (samples_check 10 s.source_shape source ∷ [])

-- "Score puts 1, 3, 4, 5, 8 to 11."
unfoldable pub score_checks : ScoreSettings → List ℕ → List ℕ → List Check
score_checks s first second =
    check 1 (size_ok s.shape.size)
    ∷ check 3 (depth_ok s.shape.depth)
    ∷ check 4 (code_ok s.shape.format)
    ∷ check 5 (layout_ok s.first_layout && layout_ok s.second_layout)
    ∷ check 8 (length_ok s.shape (length first))
    ∷ check 9 (length_ok s.shape (length second))
    ∷ samples_check 10 s.shape first
    ∷ samples_check 11 s.shape second
    ∷ []

-- "Fold puts 6, 7, 12; equality 6, 7."
unfoldable pub equal_checks : Rotation → Rotation → List Check
equal_checks a b = check 6 (rotation_in_range a && rotation_in_range b) ∷ check 7 (rotation_nonzero a && rotation_nonzero b) ∷ []

unfoldable pub fold_checks : Rotation → Rotation → List Check
fold_checks first later = equal_checks first later ++ (check 12 (rotation_in_range (compose first later)) ∷ [])

-- "Look-up puts 1, 4, 13, 14."
unfoldable pub look_up_checks : ℕ → ℕ → Ray → List Check
look_up_checks A format v =
    check 1 (size_ok A) ∷ check 4 (code_ok format) ∷ check 13 (ray_in_range v) ∷ check 14 (ray_nonzero v) ∷ []
