-- "Questions, in order": which numbers each call puts, and what each question says at both ends of its range and next to them.
use Rattle.std.specs.Prelude.{◌≡◌, List, [], ◌∷◌, ◌++◌, map, ℕ, replicate, ℤ, pos}
use Rattle.cubemap.specs.declared.Ray.{Ray}
use Rattle.cubemap.specs.declared.Rotation.{Rotation}
use Rattle.cubemap.specs.Interface.{answer}
use Rattle.cubemap.specs.Frames.{shape_of, usual_layout}
use Rattle.cubemap.specs.PlaceToRay.{ray}
use Rattle.cubemap.specs.Rotations.{rotation}
use Rattle.cubemap.specs.Checks.{ConvertSettings, convert_settings, ScoreSettings, score_settings, Check}
use Rattle.cubemap.specs.Checks.{convert_checks, score_checks, fold_checks, equal_checks, look_up_checks}
use Rattle.cubemap.specs.Outcomes.{convert_answer, score_result, fold_result, equal_result, look_up_result}
use Rattle.cubemap.specs.Listing.{record_checks}
use Rattle.cubemap.specs.Marked.{minus, rotationℕ, flat}
use Rattle.cubemap.specs.Examples.{other_layout}

-- the numbers of checks, in order
abbrev numbers : List Check → List ℕ
numbers cs = map (λ c. c.number) cs

-- ---- the number that a call ends with. Convert and score get no byte of a frame here, so where 1 to 7 let them through they end with 8.

-- sizes of source and target, depth, the three codes, with valid layouts and the turn (1,0,0,0)
abbrev convert_number : ℕ → ℕ → ℕ → ℕ → ℕ → ℕ → ℕ
convert_number A B D format target_format sampler =
    (convert_answer (convert_settings (shape_of A D format) B target_format sampler usual_layout other_layout (rotationℕ 1 0 0 0)) 0 0 []).number

-- by layouts and turn
abbrev layout_number : List ℕ → List ℕ → ℕ
layout_number L M = (convert_answer (convert_settings (shape_of 1 8 0) 1 0 0 L M (rotationℕ 1 0 0 0)) 0 0 []).number

abbrev turn_number : Rotation → ℕ
turn_number t = (convert_answer (convert_settings (shape_of 1 8 0) 1 0 0 usual_layout other_layout t) 0 0 []).number

-- size, depth, format, layouts
abbrev score_number : ℕ → ℕ → ℕ → List ℕ → List ℕ → ℕ
score_number A D format L M = (score_result (score_settings (shape_of A D format) L M) [] []).answered.number

abbrev fold_number : Rotation → Rotation → ℕ
fold_number t u = (fold_result t u).answered.number

abbrev equal_number : Rotation → Rotation → ℕ
equal_number t u = (equal_result t u).answered.number

abbrev look_up_number : ℕ → ℕ → Ray → ℕ
look_up_number A format v = (look_up_result A format v).answered.number

-- ---- turns and rays with x in each position

abbrev for_turns : (Rotation → ℕ) → ℤ → List ℕ
for_turns number x =
    number (rotation x (pos 1) (pos 2) (pos 3)) ∷ number (rotation (pos 1) x (pos 2) (pos 3))
    ∷ number (rotation (pos 1) (pos 2) x (pos 3)) ∷ number (rotation (pos 1) (pos 2) (pos 3) x) ∷ []

abbrev for_rays : (Ray → ℕ) → ℤ → List ℕ
for_rays number x = number (ray x (pos 1) (pos 2)) ∷ number (ray (pos 1) x (pos 2)) ∷ number (ray (pos 1) (pos 2) x) ∷ []

-- "Are all numbers of each turn −31 to 31?" "Has each turn a nonzero number?": of a turn of a call that ends with `passed` where they are and it has
pub record TurnLimits (number : Rotation → ℕ) (passed : ℕ) : Type 0 where
  pub inside : for_turns number (pos 31) ++ for_turns number (minus 31) ≡ replicate 8 passed
  pub beyond : for_turns number (pos 32) ++ for_turns number (minus 32) ≡ replicate 8 6
  pub zeros : number (rotationℕ 0 0 0 0) ≡ 7

-- ---- layouts that question 5 refuses: a face twice, four quarter turns, 11 bytes, 13 bytes

abbrev face_twice : List ℕ
face_twice = 0 ∷ 1 ∷ 2 ∷ 3 ∷ 4 ∷ 4 ∷ 0 ∷ 0 ∷ 0 ∷ 0 ∷ 0 ∷ 0 ∷ []

abbrev four_turns : List ℕ
four_turns = 0 ∷ 1 ∷ 2 ∷ 3 ∷ 4 ∷ 5 ∷ 0 ∷ 0 ∷ 0 ∷ 0 ∷ 0 ∷ 4 ∷ []

abbrev eleven_bytes : List ℕ
eleven_bytes = 0 ∷ 1 ∷ 2 ∷ 3 ∷ 4 ∷ 5 ∷ 0 ∷ 0 ∷ 0 ∷ 0 ∷ 0 ∷ []

abbrev wrong_layouts : List (List ℕ)
wrong_layouts = face_twice ∷ four_turns ∷ eleven_bytes ∷ (eleven_bytes ++ (0 ∷ 0 ∷ [])) ∷ []

-- ---- frames of size 1 with n bytes, and with a last sample v

abbrev settings_of_size1 : ℕ → ConvertSettings
settings_of_size1 D = convert_settings (shape_of 1 D 0) 1 0 0 usual_layout other_layout (rotationℕ 1 0 0 0)

abbrev score_of_size1 : ℕ → ScoreSettings
score_of_size1 D = score_settings (shape_of 1 D 0) usual_layout other_layout

abbrev last_sample : ℕ → ℕ → List ℕ
last_sample low high = replicate 10 0 ++ (low ∷ high ∷ [])

pub record Limits : Type 0 where
  -- "Convert puts 1 to 10", "Score puts 1, 3, 4, 5, 8 to 11", "Fold puts 6, 7, 12; equality 6, 7", "Look-up puts 1, 4, 13, 14"; of a record 16, 15
  pub convert-puts : (s : ConvertSettings) (n m : ℕ) (source : List ℕ)
      → numbers (convert_checks s n m source) ≡ 1 ∷ 2 ∷ 3 ∷ 4 ∷ 5 ∷ 6 ∷ 7 ∷ 8 ∷ 9 ∷ 10 ∷ []
  pub score-puts : (s : ScoreSettings) (first second : List ℕ) → numbers (score_checks s first second) ≡ 1 ∷ 3 ∷ 4 ∷ 5 ∷ 8 ∷ 9 ∷ 10 ∷ 11 ∷ []
  pub fold-puts : (t u : Rotation) → numbers (fold_checks t u) ≡ 6 ∷ 7 ∷ 12 ∷ []
  pub equal-puts : (t u : Rotation) → numbers (equal_checks t u) ≡ 6 ∷ 7 ∷ []
  pub look-up-puts : (A format : ℕ) (v : Ray) → numbers (look_up_checks A format v) ≡ 1 ∷ 4 ∷ 13 ∷ 14 ∷ []
  pub record-puts : (b : List ℕ) → numbers (record_checks b) ≡ 16 ∷ 15 ∷ []
  -- 1, 2: "1 to 512"
  pub sizes :
      map (λ A. convert_number A 1 8 0 0 0) (0 ∷ 1 ∷ 512 ∷ 513 ∷ []) ++ map (λ B. convert_number 1 B 8 0 0 0) (0 ∷ 1 ∷ 512 ∷ 513 ∷ [])
      ≡ 1 ∷ 8 ∷ 8 ∷ 1 ∷ 2 ∷ 8 ∷ 8 ∷ 2 ∷ []
  pub score-sizes : map (λ A. score_number A 8 0 usual_layout other_layout) (0 ∷ 1 ∷ 512 ∷ 513 ∷ []) ≡ 1 ∷ 8 ∷ 8 ∷ 1 ∷ []
  pub look-up-sizes : map (λ A. look_up_number A 0 (ray (pos 1) (pos 0) (pos 0))) (0 ∷ 1 ∷ 512 ∷ 513 ∷ []) ≡ 1 ∷ 0 ∷ 0 ∷ 1 ∷ []
  -- 3: "8 to 12"
  pub depths : map (λ D. convert_number 1 1 D 0 0 0) (7 ∷ 8 ∷ 12 ∷ 13 ∷ []) ≡ 3 ∷ 8 ∷ 8 ∷ 3 ∷ []
  pub score-depths : map (λ D. score_number 1 D 0 usual_layout other_layout) (7 ∷ 8 ∷ 12 ∷ 13 ∷ []) ≡ 3 ∷ 8 ∷ 8 ∷ 3 ∷ []
  -- 4: "0 or 1", of each format and sampler
  pub codes :
      convert_number 1 1 8 1 1 1 ∷ convert_number 1 1 8 2 1 1 ∷ convert_number 1 1 8 1 2 1 ∷ convert_number 1 1 8 1 1 2 ∷ []
      ≡ 8 ∷ 4 ∷ 4 ∷ 4 ∷ []
  pub score-codes : map (λ c. score_number 1 8 c usual_layout other_layout) (1 ∷ 2 ∷ []) ≡ 8 ∷ 4 ∷ []
  pub look-up-codes : map (λ c. look_up_number 1 c (ray (pos 1) (pos 0) (pos 0))) (1 ∷ 2 ∷ []) ≡ 0 ∷ 4 ∷ []
  -- 5: "every face once, with turns 0 to 3", of each layout. (The other layout has turns of 0 and of 3.)
  pub layouts :
      map (λ L. layout_number L usual_layout) wrong_layouts ++ map (λ M. layout_number other_layout M) wrong_layouts ≡ replicate 8 5
  pub score-layouts :
      map (λ L. score_number 1 8 0 L usual_layout) wrong_layouts ++ map (λ M. score_number 1 8 0 other_layout M) wrong_layouts ≡ replicate 8 5
  -- 6, 7: of convert's turn, and of either turn of fold and equality
  pub convert-turns : TurnLimits turn_number 8
  pub fold-turns : TurnLimits (λ t. fold_number t (rotationℕ 1 0 0 0)) 0 × TurnLimits (λ u. fold_number (rotationℕ 1 0 0 0) u) 0
  pub equal-turns : TurnLimits (λ t. equal_number t (rotationℕ 1 0 0 0)) 0 × TurnLimits (λ u. equal_number (rotationℕ 1 0 0 0) u) 0
  -- 8, 9: "exactly the frame's bytes", 12 at size 1: source and target of convert, first and second of score
  pub lengths :
      (convert_answer (settings_of_size1 8) 11 12 (flat 0)).number ∷ (convert_answer (settings_of_size1 8) 13 12 (flat 0)).number
      ∷ (convert_answer (settings_of_size1 8) 12 11 (flat 0)).number ∷ (convert_answer (settings_of_size1 8) 12 13 (flat 0)).number
      ∷ (convert_answer (settings_of_size1 8) 12 12 (flat 0)).number ∷ []
      ≡ 8 ∷ 8 ∷ 9 ∷ 9 ∷ 0 ∷ []
  pub score-lengths :
      (second : List ℕ) → (score_result (score_of_size1 8) (replicate 11 0) second).answered ∷ (score_result (score_of_size1 8) (replicate 13 0) second).answered
      ∷ (score_result (score_of_size1 8) (flat 0) (replicate 11 0)).answered ∷ (score_result (score_of_size1 8) (flat 0) (replicate 13 0)).answered ∷ []
      ≡ answer 8 0 ∷ answer 8 0 ∷ answer 9 0 ∷ answer 9 0 ∷ []
  -- 10, 11: 0 to 2^D − 1, at 8 bits and at 12; the last sample has index 5
  pub samples :
      convert_answer (settings_of_size1 8) 12 12 (last_sample 255 0) ∷ convert_answer (settings_of_size1 8) 12 12 (last_sample 0 1)
      ∷ convert_answer (settings_of_size1 12) 12 12 (last_sample 255 15) ∷ convert_answer (settings_of_size1 12) 12 12 (last_sample 0 16) ∷ []
      ≡ answer 0 0 ∷ answer 10 5 ∷ answer 0 0 ∷ answer 10 5 ∷ []
  pub score-samples :
      (score_result (score_of_size1 8) (last_sample 0 1) (last_sample 0 1)).answered ∷ (score_result (score_of_size1 8) (last_sample 255 0) (last_sample 0 1)).answered
      ∷ (score_result (score_of_size1 12) (last_sample 255 15) (last_sample 0 16)).answered
      ∷ (score_result (score_of_size1 12) (last_sample 255 15) (last_sample 255 15)).answered ∷ []
      ≡ answer 10 5 ∷ answer 11 5 ∷ answer 11 5 ∷ answer 0 0 ∷ []
  -- 12: folds with 31 or −31 and with 32 or −32 in each position: (31,−1,0,0) and (1,−31,0,0), (32,−7,0,0) and (7,−32,0,0), and likewise e2, e3
  pub folded :
      map (λ d. fold_number (rotationℕ 6 1 0 0) (rotation (pos 5) d (pos 0) (pos 0))) (minus 1 ∷ minus 2 ∷ [])
      ++ map (λ d. fold_number (rotationℕ 1 6 0 0) (rotation (minus 5) d (pos 0) (pos 0))) (minus 1 ∷ minus 2 ∷ [])
      ++ map (λ d. fold_number (rotationℕ 1 0 6 0) (rotation (minus 5) (pos 0) d (pos 0))) (minus 1 ∷ minus 2 ∷ [])
      ++ map (λ d. fold_number (rotationℕ 1 0 0 6) (rotation (minus 5) (pos 0) (pos 0) d)) (minus 1 ∷ minus 2 ∷ [])
      ≡ 0 ∷ 12 ∷ 0 ∷ 12 ∷ 0 ∷ 12 ∷ 0 ∷ 12 ∷ []
  -- 13, 14: "−536,870,911 to 536,870,911", "one of them nonzero"
  pub rays-inside : for_rays (look_up_number 1 0) (pos 536870911) ++ for_rays (look_up_number 1 0) (minus 536870911) ≡ replicate 6 0
  pub rays-beyond : for_rays (look_up_number 1 0) (pos 536870912) ++ for_rays (look_up_number 1 0) (minus 536870912) ≡ replicate 6 13
  pub zero-ray : look_up_number 1 0 (ray (pos 0) (pos 0) (pos 0)) ≡ 14
