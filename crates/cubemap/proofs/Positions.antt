-- The paper's T, a position in 64ths of a sample, one proof for both formats: it is 64 times the exact position rounded to the nearest whole
-- number, it lies within half a 64th, it runs from −32 to 64A−32, and a column's own number gives 64 times the column. T + 32 is a quotient of
-- natural numbers, rounded down: in CMP of numbers that fit 64 bits; in ACP of larger ones, or in three divisions of numbers that fit.
use mathlib.Core.Path.{◌≡◌, refl, sym, ◌∙◌, ap, ap₂, subst}
use mathlib.Core.List.{[], ◌∷◌}
use mathlib.Core.Bool.{Bool, cond}
use Prim.Native.Nat.{ℕ, suc, ◌+◌, ◌*◌, ◌-◌, ◌/◌, ◌%◌, ◌^◌, ◌≤◌, ◌<◌}
use native.Mathlib.Nat.{div-add-mod', mod-lt, mul-pos, mul-le-mul, mul-le-mul_left, mul-le-mul_right, le_of_suc-le-suc, lt_of_not-le}
use native.Mathlib.Nat.{div-lt_iff_lt-mul, div-le_self, div-le_of_le-mul, div-eq_of_lt-le, div-div-eq-div-mul}
use native.Mathlib.Omega.{arith}
use lib.IntN.{ℤ, pos, negsuc, neg_ℤ, nat_abs, ◌+ℤ◌, ◌-ℤ◌, ◌*ℤ◌, +ℤ_invr, +ℤ_comm}
use lib.Signed.{◌≤ℤ◌}
use Rattle.arithmetic.specs.Integers.{with_sign_of, is_negative}
use Rattle.arithmetic.proofs.Integers.{by-combination}
use Rattle.arithmetic.proofs.Sizes.{pos_inj, nat_abs_mul, nat_abs-neg, pos-sub, difference-small, difference-inj, Lifted, lifted, own_sign, sign-size, sign-mul}
use Rattle.arithmetic.proofs.Ring.{Expr, var, con, ◌⊕◌, ◌⊗◌, ◌⊝◌, ⊖, solve}
use Rattle.arithmetic.proofs.Order.{le-elim, difference-le}
use Rattle.arithmetic.proofs.Floors.{floor-unique}
use Rattle.cubemap.specs.declared.Format.{Format}
use Rattle.cubemap.specs.PlaceToRay.{N, from_centre, curve, scale, face_coordinate}
use Rattle.cubemap.specs.RayToPlace.{Ratio, ratio, adjusted, exact_position, round_half_up, position64}
use Rattle.cubemap.proofs.Rounding.{IsRounded, rounded-is, rounded-only, rounded-error, rounded-near, rounded-times}
use Rattle.cubemap.proofs.Curves.{bent, bent-most, curve-is, curve-next}
use Rattle.cubemap.proofs.FaceCoordinates.{from_centre-inside}

-- T of a ratio g
abbrev position_of : ℕ → Ratio → ℤ
position_of A g = round_half_up (pos 64 *ℤ (exact_position A g).numerator) (exact_position A g).denominator

-- ---- g

-- the exact position of x / d
abbrev pub exact_of : Format → ℕ → ℤ → ℕ → Ratio
exact_of format A x d = exact_position A (adjusted format x d)

pub adjusted-positive : (format : Format) (x : ℤ) (d : ℕ) → 0 < d → 0 < (adjusted format x d).denominator
unfolding adjusted
adjusted-positive Format.Cmp x d h = h
adjusted-positive Format.Acp x d h = mul-pos (mul-pos {m = 25} (omega arith) h) h

-- equation 14's numerator
abbrev acp : ℕ → ℤ → ℤ
acp d x = x *ℤ (pos (34 * d) -ℤ pos (9 * nat_abs x))

-- of a number with the size c and the sign of p it is bent d c with that sign
acp-is : (d : ℕ) (p : ℤ) (c : ℕ) → c ≤ d → acp d (with_sign_of p c) ≡ with_sign_of p (bent d c)
acp-is d p c h =
    ap (λ m. with_sign_of p c *ℤ (pos (34 * d) -ℤ pos (9 * m))) (sign-size p c)
    ∙ ap (λ z. with_sign_of p c *ℤ z) (pos-sub (34 * d) (9 * c) (omega arith)) ∙ sign-mul p c (34 * d - 9 * c)

acp-size : (x : ℤ) (d : ℕ) → nat_abs x ≤ d → nat_abs (acp d x) ≡ bent d (nat_abs x)
acp-size x d h =
    ap (λ z. nat_abs (acp d z)) (sym (own_sign x)) ∙ ap nat_abs (acp-is d x (nat_abs x) h) ∙ sign-size x (bent d (nat_abs x))

-- |g| ≤ 1
pub adjusted-small : (format : Format) (x : ℤ) (d : ℕ) → nat_abs x ≤ d → nat_abs (adjusted format x d).numerator ≤ (adjusted format x d).denominator
unfolding adjusted
adjusted-small Format.Cmp x d h = h
adjusted-small Format.Acp x d h =
    subst (λ m. m ≤ 25 * d * d) (sym (acp-size x d h)) (bent-most d (nat_abs x) h)

-- ---- rounding

-- 2·T·den ≤ 2·64·num + den < 2·T·den + 2·den, with num / den the exact position
pub position-is : (format : Format) (A : ℕ) (x : ℤ) (d : ℕ) → 0 < d
    → IsRounded (pos 64 *ℤ (exact_of format A x d).numerator) (exact_of format A x d).denominator (position64 format A x d)
unfolding position64
position-is format A x d h =
    let p = adjusted-positive format x d h in
    rounded-is (pos 64 *ℤ (exact_of format A x d).numerator) (exact_of format A x d).denominator (omega arith)

-- and nothing else is so
pub position-only : (format : Format) (A : ℕ) (x : ℤ) (d : ℕ) (t : ℤ)
    → IsRounded (pos 64 *ℤ (exact_of format A x d).numerator) (exact_of format A x d).denominator t → position64 format A x d ≡ t
unfolding position64
position-only format A x d t g = rounded-only (pos 64 *ℤ (exact_of format A x d).numerator) (exact_of format A x d).denominator t g

-- "so T/64 lies within 1/128 of the exact position": |2·(64·num − T·den)| ≤ den
pub position-error : (format : Format) (A : ℕ) (x : ℤ) (d : ℕ) → 0 < d
    → nat_abs (pos 2 *ℤ (pos 64 *ℤ (exact_of format A x d).numerator -ℤ position64 format A x d *ℤ pos (exact_of format A x d).denominator))
    ≤ (exact_of format A x d).denominator
unfolding position64
position-error format A x d h =
    let p = adjusted-positive format x d h in
    rounded-error (pos 64 *ℤ (exact_of format A x d).numerator) (exact_of format A x d).denominator (omega arith)

-- ---- "T runs from −32 to 64A−32."

pub record InRange (A : ℕ) (t : ℤ) : Type 0 where
  pub low : negsuc 31 ≤ℤ t
  pub high : t ≤ℤ (pos (64 * A) -ℤ pos 32)

-- T + 32 from the numerator of g with its denominator added: a division of natural numbers
lifted-position : (A s e : ℕ) (n : ℤ) → 0 < e → n +ℤ pos e ≡ pos s → position_of A (ratio n e) ≡ pos ((64 * A * s + e) / (2 * e)) -ℤ pos 32
lifted-position A s e n h g =
    let u : ℕ = 64 * A * s + e in
    let q : ℕ = u / (2 * e) in
    let r : ℕ = u % (2 * e) in
    let l : r < 2 * e = mod-lt u (omega arith) in
    let D : Expr = con (pos 2) ⊗ var 2 in
    floor-unique (pos 2 *ℤ (pos 64 *ℤ (pos A *ℤ (n +ℤ pos e) -ℤ pos e)) +ℤ pos (2 * e)) (pos q -ℤ pos 32) (2 * (2 * e)) (2 * r) (omega arith)
    (ap (λ z. pos 2 *ℤ (pos 64 *ℤ (pos A *ℤ z -ℤ pos e)) +ℤ pos (2 * e)) g
    ∙ by-combination (pos 2 *ℤ (pos 64 *ℤ (pos A *ℤ pos s -ℤ pos e)) +ℤ pos (2 * e)) ((pos q -ℤ pos 32) *ℤ pos (2 * (2 * e)) +ℤ pos (2 * r))
    (pos (2 * (q * (2 * e) + r))) (pos (2 * u)) (ap (λ m. pos (2 * m)) (div-add-mod' u (2 * e)))
    (solve (pos A ∷ pos s ∷ pos e ∷ pos q ∷ pos r ∷ [])
    (con (pos 2) ⊗ (con (pos 64) ⊗ (var 0 ⊗ var 1 ⊝ var 2)) ⊕ D ⊕ con (pos 2) ⊗ (var 3 ⊗ D ⊕ var 4))
    ((var 3 ⊝ con (pos 32)) ⊗ (con (pos 2) ⊗ D) ⊕ con (pos 2) ⊗ var 4 ⊕ con (pos 2) ⊗ (con (pos 64) ⊗ var 0 ⊗ var 1 ⊕ var 2))
    tt))

-- T = q − 32 with q from 0 to 64A
pub record Shifted (A : ℕ) (t : ℤ) : Type 0 where
  pub shift : ℕ
  pub is : t ≡ pos shift -ℤ pos 32
  pub bounded : shift ≤ 64 * A

pub position-shifted : (format : Format) (A : ℕ) (x : ℤ) (d : ℕ) → nat_abs x ≤ d → 0 < d → Shifted A (position64 format A x d)
unfolding position64
position-shifted format A x d h p = record {
  shift = (64 * A * w.lift + e) / (2 * e);
  is = lifted-position A w.lift e n (adjusted-positive format x d p) w.is;
  bounded = most w.lift (omega (arith, w.high, adjusted-small format x d h));
}
  where
    n : ℤ
    n = (adjusted format x d).numerator

    e : ℕ
    e = (adjusted format x d).denominator

    w : Lifted n e
    w = lifted n e (adjusted-small format x d h)

    most : (s : ℕ) → s ≤ 2 * e → (64 * A * s + e) / (2 * e) ≤ 64 * A
    most s l =
        let a = adjusted-positive format x d p in
        let b = mul-le-mul_left (64 * A) l in
        le_of_suc-le-suc ((div-lt_iff_lt-mul {k = 2 * e} {y = suc (64 * A)} (omega arith)).1 (omega arith))

pub position-range : (format : Format) (A : ℕ) (x : ℤ) (d : ℕ) → nat_abs x ≤ d → 0 < d → InRange A (position64 format A x d)
position-range format A x d h p =
    let w = position-shifted format A x d h p in
    let q : ℕ = w.shift in
    subst (InRange A) (sym w.is) (record { low = difference-le 0 q 32 (omega arith); high = difference-le q (64 * A) 32 w.bounded })

-- the other way: what is in range is q − 32
pub in-range-shifted : (A : ℕ) (t : ℤ) → InRange A t → Shifted A t
in-range-shifted A t g =
    let p = le-elim (negsuc 31) t g.low in
    let w = le-elim t (pos (64 * A) -ℤ pos 32) g.high in
    let e : t ≡ pos p.0 -ℤ pos 32 = p.1 ∙ solve (pos p.0 ∷ []) (con (negsuc 31) ⊕ var 0) (var 0 ⊝ con (pos 32)) tt in
    let f : 64 * A ≡ p.0 + w.0 = pos_inj (64 * A) (p.0 + w.0)
    (solve (pos (64 * A) ∷ []) (var 0) (var 0 ⊝ con (pos 32) ⊕ con (pos 32)) tt
    ∙ ap (λ z. z +ℤ pos 32) (w.1 ∙ ap (λ z. z +ℤ pos w.0) e)
    ∙ solve (pos p.0 ∷ pos w.0 ∷ []) (var 0 ⊝ con (pos 32) ⊕ var 1 ⊕ con (pos 32)) (var 0 ⊕ var 1) tt) in
    record { shift = p.0; is = e; bounded = omega arith }

-- for face sizes up to 512 the size of T is at most 32,768
pub in-range-small : (A : ℕ) (t : ℤ) → A ≤ 512 → InRange A t → nat_abs t ≤ 32768
in-range-small A t h g =
    let w = in-range-shifted A t g in
    subst (λ z. nat_abs z ≤ 32768) (sym w.is) (difference-small w.shift 32 32768 (omega (arith, w.bounded)) (omega arith))

-- so whatever T is written as, T + 32 is at most 64A
pub position-fits : (format : Format) (A : ℕ) (x : ℤ) (d q : ℕ) → nat_abs x ≤ d → 0 < d → position64 format A x d ≡ pos q -ℤ pos 32 → q ≤ 64 * A
position-fits format A x d q h p e =
    let w = position-shifted format A x d h p in
    omega (arith, w.bounded, difference-inj q w.shift 32 (sym e ∙ w.is))

-- ---- T by divisions of natural numbers. CMP takes one.

pub position-cmp : (A s : ℕ) (x : ℤ) (d : ℕ) → 0 < d → x +ℤ pos d ≡ pos s → position64 Format.Cmp A x d ≡ pos ((64 * A * s + d) / (2 * d)) -ℤ pos 32
unfolding position64 adjusted
position-cmp A s x d h g = lifted-position A s d x h g

-- so does ACP, of a numerator 64·A·s + 25·d² that exceeds 64 bits, with s = num + 25·d²: of x = k and of x = −k
abbrev pub acp_lift : ℤ → ℕ → ℕ
acp_lift x d = cond (is_negative x) (25 * d * d - bent d (nat_abs x)) (bent d (nat_abs x) + 25 * d * d)

abbrev pub acp_lifted : ℕ → ℤ → ℕ → ℕ
acp_lifted A x d = 64 * A * acp_lift x d + 25 * d * d

pub position-acp-lifted : (A : ℕ) (x : ℤ) (d : ℕ) → nat_abs x ≤ d → 0 < d → position64 Format.Acp A x d ≡ pos (acp_lifted A x d / (50 * d * d)) -ℤ pos 32
unfolding position64 adjusted
position-acp-lifted A x d h p =
    lifted-position A (acp_lift x d) (25 * d * d) (acp d x) (mul-pos (mul-pos {m = 25} (omega arith) p) p) (go x h)
    ∙ ap (λ m. pos (acp_lifted A x d / m) -ℤ pos 32) w
  where
    w : 2 * (25 * d * d) ≡ 50 * d * d
    w = omega arith

    go : (x : ℤ) → nat_abs x ≤ d → acp d x +ℤ pos (25 * d * d) ≡ pos (acp_lift x d)
    go (pos k) h = ap (λ z. z +ℤ pos (25 * d * d)) (acp-is d (pos k) k h)
    go (negsuc j) h =
        ap (λ z. z +ℤ pos (25 * d * d)) (acp-is d (negsuc j) (suc j) h) ∙ +ℤ_comm (neg_ℤ (pos (bent d (suc j)))) (pos (25 * d * d))
        ∙ pos-sub (25 * d * d) (bent d (suc j)) (bent-most d (suc j) h)

-- within 64 bits ACP takes three: its numerator divided by d and rounded down, of x = k and of x = −k
abbrev acp_above : ℕ → ℕ → ℕ → ℕ
acp_above A k d = 1600 * A * d + 25 * d + 2176 * A * k - 576 * A * (k * k / d) - (576 * A * (k * k % d) + (d - 1)) / d

abbrev acp_below : ℕ → ℕ → ℕ → ℕ
acp_below A k d = 1600 * A * d + 25 * d + 576 * A * (k * k / d) + 576 * A * (k * k % d) / d - 2176 * A * k

abbrev pub acp_first : ℕ → ℤ → ℕ → ℕ
acp_first A x d = cond (is_negative x) (acp_below A (nat_abs x) d) (acp_above A (nat_abs x) d)

pub acp-first : (A : ℕ) (x : ℤ) (d k : ℕ) (b : Bool) → k ≡ nat_abs x → is_negative x ≡ b → cond b (acp_below A k d) (acp_above A k d) ≡ acp_first A x d
acp-first A x d k b e t = ap₂ (λ b k. cond b (acp_below A k d) (acp_above A k d)) (sym t) e

-- what the two signs share
module _ (A k d : ℕ) (h : k ≤ d) (p : 0 < d) where
  abbrev whole : ℕ
  whole = k * k / d

  abbrev part : ℕ
  part = k * k % d

  squares : A * (whole * d + part) ≡ A * (k * k)
  squares = ap (λ m. A * m) (div-add-mod' (k * k) d)

  part_small : A * part ≤ A * d
  part_small = mul-le-mul_left A (let l = mod-lt (k * k) p in omega arith)

  pub whole-small : A * whole ≤ A * k
  whole-small = mul-le-mul_left A (div-le_of_le-mul d (mul-le-mul_right k h))

  bent-split : A * (bent d k + 9 * (k * k)) ≡ A * (34 * k * d)
  bent-split = ap (λ m. A * m) (go (34 * d - 9 * k) (omega arith))
    where
      go : (w : ℕ) → w + 9 * k ≡ 34 * d → k * w + 9 * (k * k) ≡ 34 * k * d
      go w e = let f : k * (w + 9 * k) ≡ k * (34 * d) = ap (λ m. k * m) e in omega arith

  -- the part's quotients, rounded up and rounded down
  abbrev up : ℕ
  up = (576 * A * part + (d - 1)) / d

  abbrev low : ℕ
  low = 576 * A * part / d

  up_split : up * d + (576 * A * part + (d - 1)) % d ≡ 576 * A * part + (d - 1)
  up_split = div-add-mod' (576 * A * part + (d - 1)) d

  low-split : low * d + 576 * A * part % d ≡ 576 * A * part
  low-split = div-add-mod' (576 * A * part) d

  -- no difference goes below zero
  above_zero : 576 * A * whole + up ≤ 1600 * A * d + 25 * d + 2176 * A * k
  above_zero =
      let u : up ≤ 576 * A * part + (d - 1) = div-le_self (576 * A * part + (d - 1)) d in
      omega (arith, whole-small, part_small)

  below-zero : 2176 * A * k ≤ 1600 * A * d + 25 * d + 576 * A * whole + low
  below-zero = le_of_suc-le-suc (lt_of_not-le (λ (l : suc (1600 * A * d + 25 * d + 576 * A * whole + low) ≤ 2176 * A * k).
      let m = mul-le-mul_right d l in
      let r = mod-lt (576 * A * part) p in
      omega (arith, squares, bent-split, low-split, mul-le-mul_left A (bent-most d k h))))

  first_above : (64 * A * (bent d k + 25 * d * d) + 25 * d * d) / d ≡ acp_above A k d
  first_above = go (acp_above A k d) (omega (arith, above_zero))
    where
      go : (f : ℕ) → f + (576 * A * whole + up) ≡ 1600 * A * d + 25 * d + 2176 * A * k → (64 * A * (bent d k + 25 * d * d) + 25 * d * d) / d ≡ f
      go f e =
          let g : (f + (576 * A * whole + up)) * d ≡ (1600 * A * d + 25 * d + 2176 * A * k) * d = ap (λ m. m * d) e in
          let l = mod-lt (576 * A * part + (d - 1)) p in
          div-eq_of_lt-le d (omega (arith, squares, bent-split, up_split)) (omega (arith, squares, bent-split, up_split))

  first_below : (64 * A * (25 * d * d - bent d k) + 25 * d * d) / d ≡ acp_below A k d
  first_below = go (acp_below A k d) (25 * d * d - bent d k) (omega (arith, below-zero)) (omega (arith, bent-most d k h))
    where
      go : (f s : ℕ) → f + 2176 * A * k ≡ 1600 * A * d + 25 * d + 576 * A * whole + low → s + bent d k ≡ 25 * d * d
          → (64 * A * s + 25 * d * d) / d ≡ f
      go f s e t =
          let g : (f + 2176 * A * k) * d ≡ (1600 * A * d + 25 * d + 576 * A * whole + low) * d = ap (λ m. m * d) e in
          let v : A * (s + bent d k) ≡ A * (25 * d * d) = ap (λ m. A * m) t in
          let l = mod-lt (576 * A * part) p in
          div-eq_of_lt-le d (omega (arith, squares, bent-split, low-split)) (omega (arith, squares, bent-split, low-split))

-- and then by 50·d: dividing twice is dividing by the product
pub position-acp : (A : ℕ) (x : ℤ) (d : ℕ) → nat_abs x ≤ d → 0 < d → position64 Format.Acp A x d ≡ pos (acp_first A x d / (50 * d)) -ℤ pos 32
position-acp A x d h p = position-acp-lifted A x d h p ∙ ap (λ q. pos q -ℤ pos 32)
    (ap (λ m. acp_lifted A x d / m) w ∙ sym (div-div-eq-div-mul (acp_lifted A x d) d (50 * d)) ∙ ap (λ m. m / (50 * d)) (first x h))
  where
    w : 50 * d * d ≡ d * (50 * d)
    w = omega arith

    first : (x : ℤ) → nat_abs x ≤ d → acp_lifted A x d / d ≡ acp_first A x d
    first (pos k) h = first_above A k d h p
    first (negsuc j) h = first_below A (suc j) d h p

-- for k = |x|, every number on the way is below 2^60, and no difference goes below zero
pub record AcpFits (A k d : ℕ) : Type 0 where
  pub square : k * k < 2 ^ 60
  pub whole : 576 * A * (k * k / d) < 2 ^ 60
  pub part : 576 * A * (k * k % d) < 2 ^ 60
  pub part_low : 576 * A * (k * k % d) / d < 2 ^ 60
  pub linear : 2176 * A * k < 2 ^ 60
  pub middle : 1600 * A * d < 2 ^ 60
  pub above : 576 * A * (k * k / d) + (576 * A * (k * k % d) + (d - 1)) / d ≤ 1600 * A * d + 25 * d + 2176 * A * k
  pub below : 2176 * A * k ≤ 1600 * A * d + 25 * d + 576 * A * (k * k / d) + 576 * A * (k * k % d) / d

pub acp-fits : (A k d : ℕ) → A ≤ 512 → k ≤ d → 0 < d → d ≤ 536870911 → AcpFits A k d
acp-fits A k d a h p b =
    let s : k * k ≤ 536870911 * 536870911 = mul-le-mul {n₂ = 536870911} {m₂ = 536870911} (omega arith) (omega arith) in
    let m : A * d ≤ 512 * 536870911 = mul-le-mul {n₂ = 512} {m₂ = 536870911} a b in
    let w : A * k ≤ A * d = mul-le-mul_left A h in
    let l = div-le_self (576 * A * (k * k % d)) d in
    let q = whole-small A k d h p in
    let r = part_small A k d h p in
    record {
      square = omega arith;
      whole = omega arith;
      part = omega arith;
      part_low = omega arith;
      linear = omega arith;
      middle = omega arith;
      above = above_zero A k d h p;
      below = below-zero A k d h p;
    }

-- ---- a multiple of x and d

position_of-times : (A k : ℕ) (n : ℤ) (d : ℕ) → 0 < k → position_of A (ratio (pos k *ℤ n) (k * d)) ≡ position_of A (ratio n d)
position_of-times A k n d h = ap₂ round_half_up numerators denominators ∙ rounded-times k (top n (pos d)) (2 * d) h
  where
    top : ℤ → ℤ → ℤ
    top n d = pos 64 *ℤ (pos A *ℤ (n +ℤ d) -ℤ d)

    top_e : Expr → Expr → Expr
    top_e n d = con (pos 64) ⊗ (var 1 ⊗ (n ⊕ d) ⊝ d)

    numerators : top (pos k *ℤ n) (pos (k * d)) ≡ pos k *ℤ top n (pos d)
    numerators = solve (pos k ∷ pos A ∷ n ∷ pos d ∷ []) (top_e (var 0 ⊗ var 2) (var 0 ⊗ var 3)) (var 0 ⊗ top_e (var 2) (var 3)) tt

    denominators : 2 * (k * d) ≡ k * (2 * d)
    denominators = omega arith

pub position-times : (format : Format) (A k : ℕ) (x : ℤ) (d : ℕ) → 0 < k → position64 format A (pos k *ℤ x) (k * d) ≡ position64 format A x d
unfolding position64 adjusted
position-times Format.Cmp A k x d h = position_of-times A k x d h
position-times Format.Acp A k x d h =
    ap₂ (λ n e. position_of A (ratio n e)) numerators denominators
    ∙ position_of-times A (k * k) (acp d x) (25 * d * d) (mul-pos h h)
  where
    numerators : acp (k * d) (pos k *ℤ x) ≡ pos (k * k) *ℤ acp d x
    numerators =
        ap (λ m. pos k *ℤ x *ℤ (pos (34 * (k * d)) -ℤ pos (9 * m))) (nat_abs_mul (pos k) x)
        ∙ solve (pos k ∷ x ∷ pos d ∷ pos (nat_abs x) ∷ [])
        (var 0 ⊗ var 1 ⊗ (con (pos 34) ⊗ (var 0 ⊗ var 2) ⊝ con (pos 9) ⊗ (var 0 ⊗ var 3)))
        (var 0 ⊗ var 0 ⊗ (var 1 ⊗ (con (pos 34) ⊗ var 2 ⊝ con (pos 9) ⊗ var 3))) tt

    denominators : 25 * (k * d) * (k * d) ≡ k * k * (25 * d * d)
    denominators = omega arith

-- ---- a column's own number: 64 times the column, exactly in CMP, and within the rounding in ACP

-- with g = n / e, 64 times the exact position is off 64·m by 64·(A·n − e·p) parts of 2·e
off-by : (A m : ℕ) (n : ℤ) (e : ℕ)
    → pos 64 *ℤ (exact_position A (ratio n e)).numerator -ℤ pos (64 * m) *ℤ pos (2 * e) ≡ pos 64 *ℤ (pos A *ℤ n -ℤ pos e *ℤ from_centre A m)
off-by A m n e =
    solve (pos A ∷ pos m ∷ n ∷ pos e ∷ [])
    (con (pos 64) ⊗ (var 0 ⊗ (var 2 ⊕ var 3) ⊝ var 3) ⊝ con (pos 64) ⊗ var 1 ⊗ (con (pos 2) ⊗ var 3))
    (con (pos 64) ⊗ (var 0 ⊗ var 2 ⊝ var 3 ⊗ (con (pos 2) ⊗ var 1 ⊕ con (pos 1) ⊝ var 0))) tt

-- so T is 64·m where A·n and e·p lie nearer than a 64th of e
own-position : (A m : ℕ) (n : ℤ) (e : ℕ) → 64 * nat_abs (pos A *ℤ n -ℤ pos e *ℤ from_centre A m) < e → position_of A (ratio n e) ≡ pos (64 * m)
own-position A m n e h = rounded-near (pos 64 *ℤ (exact_position A (ratio n e)).numerator) (2 * e) (pos (64 * m))
    (subst (λ z. nat_abs (pos 2 *ℤ z) < 2 * e) (sym (off-by A m n e))
    (subst (λ k. k < 2 * e) (sym (nat_abs_mul (pos 2) (pos 64 *ℤ gap) ∙ ap (λ k. 2 * k) (nat_abs_mul (pos 64) gap))) (omega arith)))
  where
    gap : ℤ
    gap = pos A *ℤ n -ℤ pos e *ℤ from_centre A m

-- two numbers with one sign: the size of the difference of their multiples
same_sign : (p : ℤ) (a b c d : ℕ) → nat_abs (pos a *ℤ with_sign_of p c -ℤ pos b *ℤ with_sign_of p d) ≡ nat_abs (pos (a * c) -ℤ pos (b * d))
same_sign (pos n) a b c d = refl
same_sign (negsuc n) a b c d =
    ap nat_abs (solve (pos a ∷ pos b ∷ pos c ∷ pos d ∷ [])
    (var 0 ⊗ ⊖ (var 2) ⊝ var 1 ⊗ ⊖ (var 3)) (⊖ (var 0 ⊗ var 2 ⊝ var 1 ⊗ var 3)) tt)
    ∙ nat_abs-neg (pos (a * c) -ℤ pos (b * d))

-- what the curve leaves out is below 34N·A, and 64 times that is below 25N²
acp-gap : (A m : ℕ) → A ≤ 512 → m < A → let p : ℤ = from_centre A m in
    64 * nat_abs (pos A *ℤ with_sign_of p (bent N (curve A (nat_abs p))) -ℤ pos (25 * N * N) *ℤ p) < 25 * N * N
acp-gap A m a h = subst (λ k. 64 * k < 25 * N * N) (sym sizes) (near (bent N (curve A k)) low high)
  where
    p : ℤ
    p = from_centre A m

    k : ℕ
    k = nat_abs p

    low : bent N (curve A k) * A ≤ 25 * N * N * k
    low = (curve-is A k).fits

    high : 25 * N * N * k < bent N (curve A k) * A + 34 * N * A
    high = curve-next A k (from_centre-inside A m h)

    sizes : nat_abs (pos A *ℤ with_sign_of p (bent N (curve A k)) -ℤ pos (25 * N * N) *ℤ p)
        ≡ nat_abs (pos (A * bent N (curve A k)) -ℤ pos (25 * N * N * k))
    sizes = ap (λ z. nat_abs (pos A *ℤ with_sign_of p (bent N (curve A k)) -ℤ pos (25 * N * N) *ℤ z)) (sym (own_sign p))
        ∙ same_sign p A (25 * N * N) (bent N (curve A k)) k

    near : (C : ℕ) → C * A ≤ 25 * N * N * k → 25 * N * N * k < C * A + 34 * N * A
        → 64 * nat_abs (pos (A * C) -ℤ pos (25 * N * N * k)) < 25 * N * N
    near C l u = omega (arith, difference-small (A * C) (25 * N * N * k) (34 * N * A) (omega arith) (omega arith))

pub position-own : (format : Format) (A m : ℕ) → A ≤ 512 → m < A → position64 format A (face_coordinate format A m) (scale format A) ≡ pos (64 * m)
unfolding position64 adjusted
position-own Format.Cmp A m a h = own-position A m (from_centre A m) A (subst (λ z. 64 * nat_abs z < A) (sym none) (omega arith))
  where
    none : pos A *ℤ from_centre A m -ℤ pos A *ℤ from_centre A m ≡ pos 0
    none = +ℤ_invr (pos A *ℤ from_centre A m)
position-own Format.Acp A m a h =
    ap (λ z. position_of A (ratio z (25 * N * N))) (acp-is N p (curve A (nat_abs p)) (curve-is A (nat_abs p)).bounded)
    ∙ own-position A m (with_sign_of p (bent N (curve A (nat_abs p)))) (25 * N * N) (acp-gap A m a h)
  where
    p : ℤ
    p = from_centre A m

-- so no two columns have the same number
pub coordinate-apart : (format : Format) (A m n : ℕ) → A ≤ 512 → m < A → n < A → face_coordinate format A m ≡ face_coordinate format A n → m ≡ n
coordinate-apart format A m n a h k e = omega (
  arith,
  pos_inj (64 * m) (64 * n)
      (sym (position-own format A m a h) ∙ ap (λ x. position64 format A x (scale format A)) e ∙ position-own format A n a k),
)
