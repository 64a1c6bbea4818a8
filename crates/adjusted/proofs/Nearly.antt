-- Equation 14's numerator from a reciprocal of the distance: how far it may be off.
use mathlib.Core.Path.{◌≡◌, ◌∙◌, ap, subst₂}
use Prim.Native.Nat.{ℕ, ◌+◌, ◌*◌, ◌-◌, ◌/◌, ◌^◌, ◌≤◌, ◌<◌}
use native.Mathlib.Nat.{div-add-mod', mod-lt, mul_comm, mul-le-mul_left, mul-le-mul_right, le_of_mul-le-mul_right, lt_of_mul-lt-mul_right}
use native.Mathlib.Omega.{arith}
use lib.Pow.{pow_pos}
use Rattle.cubemap.proofs.Curves.{bent, bent-rises, bent-slope, bent-scaled}
use Rattle.reciprocals.specs.Reciprocals.{Reciprocal}
use Rattle.adjusted.specs.Bends.{Factors, PartNear}

-- ---- k / d

-- t / 2^31 is k / d, or less than 9 / 2^31 below it
pub record RatioNear (k d t : ℕ) : Type 0 where
  pub small : t < 2147483648
  pub least : t * d ≤ 2147483648 * k
  pub most : 2147483648 * k < (t + 9) * d

pub ratio-near : (shift k d r : ℕ) → k ≤ d → 0 < d → Reciprocal shift d r → RatioNear k d (k * r / 2 ^ shift)
ratio-near shift k d r h p n =
    go (2 ^ shift) (k * r / 2 ^ shift) (pow_pos shift) n.least n.most n.below
    (omega (arith, div-add-mod' (k * r) (2 ^ shift))) (omega (arith, div-add-mod' (k * r) (2 ^ shift), mod-lt (k * r) (pow_pos shift)))
  where
    go : (s t : ℕ) → 0 < s → r * d < 2147483648 * s → 2147483648 * s ≤ r * d + 4 * d → d < 2 * s → t * s ≤ k * r → k * r < t * s + s → RatioNear k d t
    go s t q b e f l u = record {
      small = lt_of_mul-lt-mul_right (d * s) (omega (arith, mul-le-mul_right d l, mul-le-mul_left d b, mul-le-mul_right (r * d) h));
      least = le_of_mul-le-mul_right {n = 2147483648 * k} (omega (arith, mul-le-mul_right d l, mul-le-mul_left k b)) q;
      most = lt_of_mul-lt-mul_right s (omega (arith, mul-le-mul_right d u, mul-le-mul_left k e, mul-le-mul_right d f, mul-le-mul_left d h));
    }

-- ---- equation 14's numerator

module _ (k d t : ℕ) (h : k ≤ d) (n : RatioNear k d t) where
  abbrev M : ℕ
  M = 2147483648

  -- both numerators on the scale of d·M
  near-scaled : bent (d * M) (d * t) ≡ d * d * bent M t
  near-scaled = without-1 (bent (d * M) (d * t)) (bent M t) (bent-scaled 1 d t M)
    where
      without-1 : (a b : ℕ) → a * 1 ≡ d * d * (b * 1) → a ≡ d * d * b
      without-1 a b e = omega arith

  exact-scaled : bent (d * M) (M * k) ≡ M * M * bent d k
  exact-scaled = ap (λ L. bent L (M * k)) (mul_comm d M) ∙ without-1 (bent (M * d) (M * k)) (bent d k) (bent-scaled 1 M k d)
    where
      without-1 : (a b : ℕ) → a * 1 ≡ M * M * (b * 1) → a ≡ M * M * b
      without-1 a b e = omega arith

  pub bent-least : d * d * bent M t ≤ M * M * bent d k
  bent-least = subst₂ ◌≤◌ near-scaled exact-scaled (bent-rises (d * M) (d * t) (M * k) (omega (arith, n.least)) (omega arith))

  pub bent-over : M * M * bent d k ≤ d * d * bent M t + 306 * M * (d * d)
  bent-over = go (M * k - d * t) (omega (arith, n.least)) (omega (arith, n.most))
    where
      go : (w : ℕ) → d * t + w ≡ M * k → w ≤ 9 * d → M * M * bent d k ≤ d * d * bent M t + 306 * M * (d * d)
      go w e l =
          let s : bent (d * M) (d * t + w) ≤ bent (d * M) (d * t) + 34 * (d * M) * w = bent-slope (d * M) (d * t) w (omega arith) in
          let r : M * M * bent d k ≤ d * d * bent M t + 34 * (d * M) * w =
          subst₂ (λ a b. a ≤ b + 34 * (d * M) * w) (ap (bent (d * M)) e ∙ exact-scaled) near-scaled s in
          end (bent d k) (bent M t) r (mul-le-mul_left (34 * (d * M)) l)
        where
          end : (a b : ℕ) → M * M * a ≤ d * d * b + 34 * (d * M) * w → 34 * (d * M) * w ≤ 34 * (d * M) * (9 * d)
              → M * M * a ≤ d * d * b + 306 * M * (d * d)
          end a b r m = omega arith

-- ---- the same by the factors

-- the factors fit
pub factors-fit : {A slope bend : ℕ} → A ≤ 512 → Factors A slope bend → (slope < 4294967296) × (bend ≤ 2 * slope) × (bend < 2147483648)
factors-fit a n = (omega (arith, n.slope-least), omega (arith, n.slope-most, n.bend-most), omega (arith, n.bend-most))

module _ (slope bend t : ℕ) (h : t < 2147483648) where
  -- the bend takes away no more than the slope has
  pub bend-part : bend ≤ 2 * slope → bend * t / 4294967296 ≤ slope
  bend-part b = omega (arith, mul-le-mul_left bend h)

  -- t·f is t·(34·2^31 − 9·t), times 32·A / (25·2^14), at most 2^31 more and 3·2^30 less
  module _ (A f : ℕ) (n : Factors A slope bend) (e : f + bend * t / 4294967296 ≡ slope) where
    factored : (g w : ℕ) → f + g ≡ slope → g * 4294967296 ≤ bend * t → bend * t ≤ g * 4294967296 + 4294967296 → w + 9 * t ≡ 73014444032
        → (409600 * (t * f) ≤ 32 * A * (t * w) + 879609302220800) × (32 * A * (t * w) ≤ 409600 * (t * f) + 1319413953331200)
    factored g w e l u v =
        let e₂ : t * (f + g) ≡ t * slope = ap (λ m. t * m) e in
        let v₂ : A * t * (w + 9 * t) ≡ A * t * 73014444032 = ap (λ m. A * t * m) v in (
          omega (arith, mul-le-mul_left t u, mul-le-mul_left t n.slope-least, mul-le-mul_left (t * t) n.bend-least),
          omega (arith, mul-le-mul_left t l, mul-le-mul_left t n.slope-most, mul-le-mul_left (t * t) n.bend-most, mul-le-mul_left t h),
        )

    pub factors-least : 409600 * (t * f) ≤ 32 * A * bent 2147483648 t + 879609302220800
    factors-least = (factored (bend * t / 4294967296) (34 * 2147483648 - 9 * t) e (omega arith) (omega arith) (omega arith)).0

    pub factors-most : 32 * A * bent 2147483648 t ≤ 409600 * (t * f) + 1319413953331200
    factors-most = (factored (bend * t / 4294967296) (34 * 2147483648 - 9 * t) e (omega arith) (omega arith) (omega arith)).1

-- the two together
pub part-near : (A k d slope bend t f : ℕ) → Factors A slope bend → k ≤ d → RatioNear k d t → f + bend * t / 4294967296 ≡ slope → PartNear A k d (t * f)
part-near A k d slope bend t f n h r e = record {
  least = low (bent 2147483648 t) (bent d k) (t * f) (factors-least slope bend t r.small A f n e) (bent-least k d t h r);
  most = high (bent 2147483648 t) (bent d k) (t * f) (factors-most slope bend t r.small A f n e) (bent-over k d t h r);
}
  where
    low : (G B P : ℕ) → 409600 * P ≤ 32 * A * G + 879609302220800 → d * d * G ≤ 2147483648 * 2147483648 * B
        → 25 * P * (d * d) ≤ 9007199254740992 * A * B + 53687091200 * (d * d)
    low G B P l g = omega (arith, mul-le-mul_right (d * d) l, mul-le-mul_left A g)

    high : (G B P : ℕ) → 32 * A * G ≤ 409600 * P + 1319413953331200 → 2147483648 * 2147483648 * B ≤ d * d * G + 306 * 2147483648 * (d * d)
        → 9007199254740992 * A * B ≤ (25 * P + 80530636800 + 1283457024 * A) * (d * d)
    high G B P l g = omega (arith, mul-le-mul_right (d * d) l, mul-le-mul_left A g)
