-- The paper, "Marked for proof": the thirteen cases "as a single proved table", over the definitions that the promises use.
-- The comment above a field is the paper's row: the case, and what it gives.
use Rattle.std.specs.Prelude.{◌≡◌, List, [], ◌∷◌, ◌++◌, ℕ, ◌<◌, replicate, ℤ, pos, neg_ℤ}
use Rattle.cubemap.specs.declared.Format.{Format}
use Rattle.cubemap.specs.declared.Rotation.{Rotation}
use Rattle.cubemap.specs.Interface.{accepted, answer, little_endian}
use Rattle.cubemap.specs.Frames.{place, shape_of, framed, usual_layout, index, sample_at_place}
use Rattle.cubemap.specs.PlaceToRay.{ray, curve, ray_of}
use Rattle.cubemap.specs.Rotations.{rotation, rotated}
use Rattle.cubemap.specs.RayToPlace.{located}
use Rattle.cubemap.specs.Samplers.{tap_weight, nearest_place}
use Rattle.cubemap.specs.Score.{weight}
use Rattle.cubemap.specs.Checks.{ConvertSettings, ScoreSettings}
use Rattle.cubemap.specs.Outcomes.{result, outcome, look_up_result, fold_result, fold_outcome, score_outcome, converted_sample}

-- the codes of the two formats and of a sampler
abbrev pub cmp : ℕ
cmp = 0

abbrev pub acp : ℕ
acp = 1

abbrev nearest : ℕ
nearest = 0

abbrev pub minus : ℕ → ℤ
minus n = neg_ℤ (pos n)

-- a rotation by four natural numbers
abbrev pub rotationℕ : ℕ → ℕ → ℕ → ℕ → Rotation
rotationℕ e0 e1 e2 e3 = rotation (pos e0) (pos e1) (pos e2) (pos e3)

-- P8: CMP, A = 1, depth 8, both frames in the usual layout; every sample of a frame is v
abbrev pub size_one : ScoreSettings
size_one = record { shape = shape_of 1 8 cmp; first_layout = usual_layout; second_layout = usual_layout }

abbrev pub flat : ℕ → List ℕ
flat v = framed 2 (λ i. v) 6

-- P12: A = 3 and CMP at both ends, depth 8, the usual layouts, the turn (1,0,1,0), a quarter about Y, nearest
abbrev quarter_about_y : ConvertSettings
quarter_about_y = record {
  source_shape = shape_of 3 8 cmp;
  target_size = 3;
  target_format = cmp;
  sampler = nearest;
  source_layout = usual_layout;
  target_layout = usual_layout;
  rotation = rotationℕ 1 0 1 0;
}

pub record Marked : Type 0 where
  -- P1 | ray (1,1,1), CMP, A=4 | face 0, −32, −32
  pub P1 : look_up_result 4 cmp (ray (pos 1) (pos 1) (pos 1)) ≡ result accepted (pos 0 ∷ minus 32 ∷ minus 32 ∷ [])
  -- P2 | ray (0,−5,5), CMP, A=1 | face 3, 0, −32
  pub P2 : look_up_result 1 cmp (ray (pos 0) (minus 5) (pos 5)) ≡ result accepted (pos 3 ∷ pos 0 ∷ minus 32 ∷ [])
  -- P3 | ray (2,−1,0), CMP, A=4 | face 0, 96, 160
  pub P3 : look_up_result 4 cmp (ray (pos 2) (minus 1) (pos 0)) ≡ result accepted (pos 0 ∷ pos 96 ∷ pos 160 ∷ [])
  -- P4 | the same, ACP | face 0, 96, 172
  pub P4 : look_up_result 4 acp (ray (pos 2) (minus 1) (pos 0)) ≡ result accepted (pos 0 ∷ pos 96 ∷ pos 172 ∷ [])
  -- P5 | ACP, A=2, p=1 | c = 27,049
  pub P5 : curve 2 1 ≡ 27_049
  -- P6 | weights at phase 32 | −32768, 294912, 294912, −32768
  pub P6 :
      tap_weight 0 (pos 32) ∷ tap_weight 1 (pos 32) ∷ tap_weight 2 (pos 32) ∷ tap_weight 3 (pos 32) ∷ []
      ≡ minus 32768 ∷ pos 294912 ∷ pos 294912 ∷ minus 32768 ∷ []
  -- P7 | W, CMP, A=2 / corner of A=3 / A=1 | 35673 / 25244 / 65536
  pub P7 :
      ((m n : ℕ) → m < 2 → n < 2 → weight Format.Cmp 2 m n ≡ 35673)
      × (weight Format.Cmp 3 0 0 ≡ 25244)
      × (weight Format.Cmp 1 0 0 ≡ 65536)
  -- P8 | CMP, A=1, all samples 10 against 12 | 1572864 of 393216
  pub P8 :
      score_outcome size_one (flat 10) (flat 12) (replicate 16 0)
      ≡ outcome accepted (little_endian 8 1572864 ++ little_endian 8 393216)
  -- P9 | fold (1,1,0,0), then (1,0,1,0) | (1,1,1,1)
  pub P9 : fold_result (rotationℕ 1 1 0 0) (rotationℕ 1 0 1 0) ≡ result accepted (pos 1 ∷ pos 1 ∷ pos 1 ∷ pos 1 ∷ [])
  -- P10 | the other order | (1,1,1,−1)
  pub P10 : fold_result (rotationℕ 1 0 1 0) (rotationℕ 1 1 0 0) ≡ result accepted (pos 1 ∷ pos 1 ∷ pos 1 ∷ minus 1 ∷ [])
  -- P11 | fold (31,1,0,0) with itself | refused, 12
  pub P11 : (buffer : List ℕ) → fold_outcome (rotationℕ 31 1 0 0) (rotationℕ 31 1 0 0) buffer ≡ outcome (answer 12 0) buffer
  -- P12 | A=3, turn (1,0,1,0), target face 0 m=0 n=1, nearest | source face 5 m=0 n=1
  pub P12 :
      (look_up_result 3 cmp (rotated (rotationℕ 1 0 1 0) (ray_of Format.Cmp 3 (place 0 0 1))) ≡ result accepted (pos 5 ∷ pos 0 ∷ pos 64 ∷ []))
      × (nearest_place 3 (located 5 (pos 0) (pos 64)) ≡ place 5 0 1)
      × ((source : List ℕ) → converted_sample quarter_about_y source (place 0 0 1) ≡ sample_at_place source 3 usual_layout (place 5 0 1))
  -- P13 | usual layout, A=2, face 3 m=0 n=1 | index 12
  pub P13 : index 2 usual_layout (place 3 0 1) ≡ 12
