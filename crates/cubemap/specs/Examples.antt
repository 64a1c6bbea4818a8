-- The paper's worked examples outside its table, and cases that settle what the table leaves open: halves, the far rim, values beyond the depth, the
-- sign of a fold, short answer buffers, the lowest offending index, fields of several bytes, records that are not whole; and conversions and scores,
-- with the values that a program written from the paper alone gave for them.
use Rattle.std.specs.Prelude.{◌≡◌, cond, List, [], ◌∷◌, ◌++◌, ℕ, ◌*◌, ◌%◌, ◌^◌, leb, get_or, replicate, ℤ, pos}
use Rattle.cubemap.specs.declared.Place.{Place}
use Rattle.cubemap.specs.declared.Rotation.{Rotation}
use Rattle.cubemap.specs.declared.Sampler.{Sampler}
use Rattle.cubemap.specs.declared.Shape.{Shape}
use Rattle.cubemap.specs.Interface.{accepted, answer, return_code, little_endian, twos_complement}
use Rattle.cubemap.specs.Frames.{place, shape_of, framed, bytes_in, usual_layout, sample_at_place}
use Rattle.cubemap.specs.PlaceToRay.{ray}
use Rattle.cubemap.specs.Rotations.{rotation, CubeRotation, compose_all}
use Rattle.cubemap.specs.RayToPlace.{located}
use Rattle.cubemap.specs.Samplers.{nearest_place, base, phase, rounded, clipped_to, sample_from}
use Rattle.cubemap.specs.Checks.{ConvertSettings, convert_settings, ScoreSettings, score_settings}
use Rattle.cubemap.specs.Outcomes.{result, outcome, look_up_result, fold_result, fold_outcome, equal_result, score_result, score_outcome}
use Rattle.cubemap.specs.Outcomes.{converted_sample, convert_outcome}
use Rattle.cubemap.specs.Listing.{text, listing}
use Rattle.cubemap.specs.Marked.{cmp, acp, minus, rotationℕ, size_one, flat}

-- a record of kind 1, and one of kind 7 with an empty body
abbrev ray_record : ℕ → ℕ → ℤ → ℤ → ℤ → List ℕ
ray_record format A x y z =
    little_endian 4 15 ++ little_endian 2 1 ++ little_endian 1 format ++ little_endian 2 A
    ++ little_endian 4 (twos_complement x) ++ little_endian 4 (twos_complement y) ++ little_endian 4 (twos_complement z)

abbrev empty_record : List ℕ
empty_record = little_endian 4 0 ++ little_endian 2 7

-- faces 0 to 5, some of them turned
abbrev pub other_layout : List ℕ
other_layout = 0 ∷ 1 ∷ 2 ∷ 3 ∷ 4 ∷ 5 ∷ 3 ∷ 2 ∷ 1 ∷ 0 ∷ 1 ∷ 2 ∷ []

-- size 2, depth 8, from the usual layout into the other one, to CMP: format of the source, sampler, the turn's four numbers
abbrev settings_of_size2 : ℕ → ℕ → Rotation → ConvertSettings
settings_of_size2 format sampler t = record {
  source_shape = shape_of 2 8 format;
  target_size = 2;
  target_format = cmp;
  sampler = sampler;
  source_layout = usual_layout;
  target_layout = other_layout;
  rotation = t;
}

-- the frame of size 2 with these samples
abbrev frame_of_size2 : List ℕ → List ℕ
frame_of_size2 vs = framed 2 (λ i. get_or vs i 0) 24

abbrev pub source_of_size2 : List ℕ
source_of_size2 = framed 2 (λ i. i * i * 7 % 256) 24

abbrev pub second_of_size2 : List ℕ
second_of_size2 = framed 2 (λ i. i * i * 5 % 256) 24

-- size 2 to size 1, with the cubic sampler
abbrev smaller : ConvertSettings
smaller = convert_settings (shape_of 2 8 cmp) 1 cmp 1 usual_layout other_layout (rotationℕ 3 1 2 0)

-- CMP of size 512 to ACP of size 2, with the nearest sampler
abbrev pub to_acp : ConvertSettings
to_acp = convert_settings (shape_of 512 8 cmp) 2 acp 0 usual_layout usual_layout (rotationℕ 3 1 2 0)

-- a score of size 2 and depth 8, the first frame in the usual layout, the second in the other one: format
abbrev pub score_of_size2 : ℕ → ScoreSettings
score_of_size2 format = score_settings (shape_of 2 8 format) usual_layout other_layout

-- samples of a face with an edge from 0 to 1023 between columns 1 and 2
abbrev edge : Place → ℕ
edge P = cond (leb 2 P.column) 1023 0

-- the cubic value on such a face of size 4 and depth 10, at column T in row 1
abbrev edge_value : ℕ → ℕ
edge_value t = sample_from Sampler.Cubic 4 10 edge (located 0 (pos t) (pos 64))

pub record Examples : Type 0 where
  -- "12·A² bytes"
  pub frame-bytes : (z : Shape) → bytes_in z ≡ 12 * z.size * z.size
  -- the turn (3,1,2,0) at nearest, and from ACP at cubic
  pub converted-nearest :
      convert_outcome (settings_of_size2 cmp 0 (rotationℕ 3 1 2 0)) source_of_size2 (replicate 48 7)
      ≡ outcome accepted (frame_of_size2 (
      119 ∷ 175 ∷ 159 ∷ 240 ∷ 7 ∷ 0 ∷ 63 ∷ 188 ∷ 87 ∷ 0 ∷ 28 ∷ 119
      ∷ 159 ∷ 220 ∷ 223 ∷ 87 ∷ 92 ∷ 175 ∷ 92 ∷ 79 ∷ 55 ∷ 28 ∷ 15 ∷ 231 ∷ []))
  pub converted-cubic :
      convert_outcome (settings_of_size2 acp 1 (rotationℕ 3 1 2 0)) source_of_size2 (replicate 48 7)
      ≡ outcome accepted (frame_of_size2 (
      155 ∷ 138 ∷ 171 ∷ 255 ∷ 4 ∷ 0 ∷ 65 ∷ 195 ∷ 84 ∷ 4 ∷ 28 ∷ 125
      ∷ 199 ∷ 220 ∷ 226 ∷ 58 ∷ 114 ∷ 152 ∷ 137 ∷ 71 ∷ 57 ∷ 71 ∷ 0 ∷ 244 ∷ []))
  -- from size 2 to size 1
  pub converted-smaller :
      convert_outcome smaller source_of_size2 (replicate 12 7) ≡ outcome accepted (framed 2 (λ i. get_or (122 ∷ 220 ∷ 52 ∷ 237 ∷ 175 ∷ 36 ∷ []) i 0) 6)
  -- to ACP: this place of the target reads that one of the source. (In CMP it would read column 59 in row 354.)
  pub converted-to-acp :
      (source : List ℕ) → converted_sample to_acp source (place 0 0 1) ≡ sample_at_place source 512 usual_layout (place 5 70 324)
  -- a sampler code of 2 and no nonzero number: the earlier question's number, and the target stays
  pub convert-refused :
      (source target : List ℕ) → convert_outcome (settings_of_size2 cmp 2 (rotationℕ 0 0 0 0)) source target ≡ outcome (answer 4 0) target
  -- "Division below zero rounds down: T = −32 has base −1 and phase 32."
  pub left-rim : (base (minus 32) ≡ minus 1) × (phase (minus 32) ≡ pos 32)
  -- T = 1/2 and T = −1/2, "halves upward": column 1, row 0
  pub position-halves : look_up_result 1 cmp (ray (pos 64) (pos 1) (minus 1)) ≡ result accepted (pos 0 ∷ pos 1 ∷ pos 0 ∷ [])
  -- T half way between columns 0 and 1, and a 64th before; T at the right rim, "A becoming A−1", and at the left one
  pub nearest-halves : nearest_place 2 (located 3 (pos 32) (pos 31)) ≡ place 3 1 0
  pub nearest-rims : nearest_place 2 (located 3 (pos 96) (minus 32)) ≡ place 3 1 0
  -- the cubic values 1/2 and −1/2, "halves upward"
  pub cubic-halves : (rounded (pos (2 ^ 37)) ≡ pos 1) × (rounded (minus (2 ^ 37)) ≡ pos 0)
  -- "then clipped to 0..2^D−1": before an edge the filter goes below 0, behind it above 1023
  pub cubic-clipped : edge_value 48 ∷ edge_value 96 ∷ edge_value 144 ∷ [] ≡ 0 ∷ 512 ∷ 1023 ∷ []
  pub clipped : clipped_to 12 (pos 4095) ∷ clipped_to 12 (pos 4096) ∷ clipped_to 8 (pos 256) ∷ clipped_to 8 (minus 1) ∷ [] ≡ 4095 ∷ 4095 ∷ 255 ∷ 0 ∷ []
  -- (0,1,0,0) twice is (−1,0,0,0): "if its first nonzero number is negative, all four change sign"
  pub sign : fold_result (rotationℕ 0 1 0 0) (rotationℕ 0 1 0 0) ≡ result accepted (pos 1 ∷ pos 0 ∷ pos 0 ∷ pos 0 ∷ [])
  -- (31,1,0,0) and (31,−1,0,0) have the product (962,0,0,0): question 12 is asked of the folded turn, once divided
  pub lowest-terms :
      fold_result (rotationℕ 31 1 0 0) (rotation (pos 31) (minus 1) (pos 0) (pos 0))
      ≡ result accepted (pos 1 ∷ pos 0 ∷ pos 0 ∷ pos 0 ∷ [])
  -- "A sequence of turns folds one by one from (1,0,0,0), which is also the fold of none": P9's two turns
  pub fold-of-none : compose_all [] ≡ rotationℕ 1 0 0 0
  pub fold-of-two : compose_all (rotationℕ 1 1 0 0 ∷ rotationℕ 1 0 1 0 ∷ []) ≡ rotationℕ 1 1 1 1
  -- "nine entries .. each 0 or ± the sum of the four squares": a quarter and a third of a turn; (3,1,2,0), whose first entry is 6 of 14
  pub cube-turns : CubeRotation (rotationℕ 1 0 1 0) × CubeRotation (rotationℕ 1 1 1 1) × (CubeRotation (rotationℕ 3 1 2 0) → ⊥)
  -- turns that differ by sign, or by a factor, are equal
  pub equal-by-sign : equal_result (rotationℕ 1 0 1 0) (rotation (minus 1) (pos 0) (minus 1) (pos 0)) ≡ result accepted (pos 1 ∷ [])
  pub equal-by-factor : equal_result (rotationℕ 1 0 1 0) (rotationℕ 31 0 31 0) ≡ result accepted (pos 1 ∷ [])
  pub not_equal : equal_result (rotationℕ 1 0 1 0) (rotationℕ 1 1 0 0) ≡ result accepted (pos 0 ∷ [])
  -- turns that differ in one number only
  pub not-equal-in-one :
      equal_result (rotationℕ 1 2 3 4) (rotationℕ 5 2 3 4) ∷ equal_result (rotationℕ 1 2 3 4) (rotationℕ 1 5 3 4)
      ∷ equal_result (rotationℕ 1 2 3 4) (rotationℕ 1 2 5 4) ∷ equal_result (rotationℕ 1 2 3 4) (rotationℕ 1 2 3 5) ∷ []
      ≡ replicate 4 (result accepted (pos 0 ∷ []))
  -- frames in different layouts, and the same in ACP: "ACP frames use the same weight at the same m, n."
  pub scored-layouts : score_result (score_of_size2 cmp) source_of_size2 second_of_size2 ≡ result accepted (pos 10_719_165_732 ∷ pos 856_152 ∷ [])
  pub scored-acp : score_result (score_of_size2 acp) source_of_size2 second_of_size2 ≡ result accepted (pos 10_719_165_732 ∷ pos 856_152 ∷ [])
  -- "A number that does not fit whole is not written, and every other byte stays": 20 bytes take two of fold's four numbers
  pub short-answer :
      fold_outcome (rotationℕ 1 1 0 0) (rotationℕ 1 0 1 0) (replicate 20 9)
      ≡ outcome accepted (little_endian 8 1 ++ little_endian 8 1 ++ replicate 4 9)
  -- samples 3 to 5 of the first frame are beyond the depth, 8: "the lowest offending index comes with it"
  pub lowest-index :
      (buffer : List ℕ)
      → score_outcome size_one (framed 2 (λ i. cond (leb 3 i) 256 255) 6) (flat 12) buffer ≡ outcome (answer 10 3) buffer
  -- "its number plus 256 × the index"
  pub returned : return_code (answer 10 3) ≡ 778
  -- the paper's four records and five lines
  pub listed :
      listing (ray_record cmp 4 (minus 1) (pos 0) (pos 0) ++ ray_record acp 4 (pos 2) (minus 1) (pos 0)
      ++ ray_record cmp 4 (pos 0) (pos 0) (pos 0) ++ empty_record)
      ≡ text "at face column row\n0 1 96 96\n1 0 96 172\n2 refused 14\n3 refused 15\n"
  -- a negative T; the look-up's other refusals; a body cut short: "its line says `refused` 16 and the run ends there"
  pub listed-refusals :
      listing (ray_record cmp 4 (pos 1) (pos 1) (pos 1) ++ ray_record cmp 0 (pos 1) (pos 1) (pos 1)
      ++ ray_record 2 4 (pos 1) (pos 1) (pos 1) ++ ray_record cmp 4 (pos 536870912) (pos 1) (pos 1)
      ++ little_endian 4 15 ++ little_endian 2 7 ++ little_endian 1 0)
      ≡ text "at face column row\n0 0 -32 -32\n1 refused 1\n2 refused 4\n3 refused 13\n4 refused 16\n"
  -- fields of several bytes, in full: face size 512 and Z = −1; the kind 257 with a body of 15; a body of 16,777,216 bytes, which is not there
  pub listed-fields :
      listing (ray_record cmp 512 (pos 2) (minus 1) (minus 1) ++ little_endian 4 15 ++ little_endian 2 257 ++ replicate 15 1
      ++ little_endian 4 16_777_216 ++ little_endian 2 1)
      ≡ text "at face column row\n0 0 24544 24544\n1 refused 15\n2 refused 16\n"
  -- "A record of one byte or more whose six leading bytes .. are cut short"
  pub listed-one-byte : listing (15 ∷ []) ≡ text "at face column row\n0 refused 16\n"
  -- "Empty input prints the header alone."
  pub listed-empty : listing [] ≡ text "at face column row\n"
