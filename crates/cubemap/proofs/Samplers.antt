-- The two samplers: what they read, that nothing else is read, that equal samples give themselves, that a value is within the depth, and that at the
-- middle of a place the value is the sample there.
use mathlib.Core.Path.{◌≡◌, refl, sym, ◌∙◌, ap, ap₂, subst}
use mathlib.Core.List.{[], ◌∷◌}
use Prim.Native.Nat.{ℕ, ◌*◌, ◌/◌, ◌^◌, ◌≤◌, ◌<◌}
use native.Mathlib.Nat.{one-le-pow}
use native.Mathlib.Omega.{arith}
use lib.IntN.{ℤ, pos, nat_abs, ◌+ℤ◌, ◌-ℤ◌, ◌*ℤ◌, +ℤ_invr, +ℤ-neg_ℤ_cancel}
use Rattle.arithmetic.specs.Integers.{floor_div}
use Rattle.arithmetic.proofs.Ring.{Expr, var, con, ◌⊕◌, ◌⊗◌, ◌⊝◌, ⊖, solve}
use Rattle.arithmetic.proofs.Floors.{remainder, remainder-below, floor-split, floor-times}
use Rattle.cubemap.specs.declared.Located.{Located}
use Rattle.cubemap.specs.declared.Place.{Place}
use Rattle.cubemap.specs.declared.Sampler.{Sampler}
use Rattle.cubemap.specs.Frames.{place, IsPlace}
use Rattle.cubemap.specs.Samplers.{nearest_place, base, phase, tap_at, tap_place, tap_weight, over_taps, cubic_sum}
use Rattle.cubemap.specs.Samplers.{rounded, clip, clipped_to, sample_from}
use Rattle.cubemap.proofs.Rounding.{rounded-near}
use Rattle.cubemap.proofs.Locate.{OnFace, middle_of}
use Rattle.cubemap.proofs.Nearest.{nearest_place-ok, nearest-own}
use Rattle.cubemap.proofs.Taps.{clip-below, clip-inside, tap_place-ok, tap_place-inside}

-- ---- base, phase and tap weights

-- the phase is 0 to 63, of any T
pub record Phase (k : ℤ) : Type 0 where
  pub size : ℕ
  pub is : k ≡ pos size
  pub below : size < 64

pub phase-is : (t : ℤ) → Phase (phase t)
unfolding phase base
phase-is t = record {
  size = remainder t 64;
  is = ap (λ z. z -ℤ pos 64 *ℤ floor_div t 64) (floor-split t 64 (omega arith))
      ∙ solve (floor_div t 64 ∷ pos (remainder t 64) ∷ []) (var 0 ⊗ con (pos 64) ⊕ var 1 ⊝ con (pos 64) ⊗ var 0) (var 1) tt;
  below = remainder-below t 64 (omega arith);
}

pub phase-split : (t : ℤ) → phase t ≡ t -ℤ pos 64 *ℤ floor_div t 64
unfolding phase base
phase-split t = refl

-- the first tap, and each tap from it
pub first-tap : (t : ℤ) → tap_at t 0 ≡ floor_div t 64 -ℤ pos 1
unfolding base
first-tap t = solve (floor_div t 64 ∷ []) (var 0 ⊕ con (pos 0) ⊝ con (pos 1)) (var 0 ⊝ con (pos 1)) tt

pub tap-from-first : (t : ℤ) (i : ℕ) → tap_at t i ≡ tap_at t 0 +ℤ pos i
tap-from-first t i = solve (base t ∷ pos i ∷ []) (var 0 ⊕ var 1 ⊝ con (pos 1)) (var 0 ⊕ con (pos 0) ⊝ con (pos 1) ⊕ var 1) tt

-- "each phase adding to 524,288"
pub weights-add : (k : ℤ) → over_taps (λ i. tap_weight i k) ≡ pos 524288
unfolding tap_weight
weights-add k =
    let C : Expr = var 0 ⊗ var 0 ⊗ var 0 in
    let S : Expr = var 0 ⊗ var 0 in
    solve (k ∷ [])
    (⊖ C ⊕ con (pos 128) ⊗ S ⊝ con (pos 4096) ⊗ var 0
    ⊕ (con (pos 3) ⊗ C ⊝ con (pos 320) ⊗ S ⊕ con (pos 524288))
    ⊕ (⊖ (con (pos 3) ⊗ C) ⊕ con (pos 256) ⊗ S ⊕ con (pos 4096) ⊗ var 0)
    ⊕ (C ⊝ con (pos 64) ⊗ S))
    (con (pos 524288)) tt

-- at phase 0 the weights are 0, 2^19, 0, 0
pub record OneTap (w : ℕ → ℤ) : Type 0 where
  pub tap0 : w 0 ≡ pos 0
  pub tap1 : w 1 ≡ pos 524288
  pub tap2 : w 2 ≡ pos 0
  pub tap3 : w 3 ≡ pos 0

pub weights-at-zero : OneTap (λ i. tap_weight i (pos 0))
unfolding tap_weight
weights-at-zero = record { tap0 = refl; tap1 = refl; tap2 = refl; tap3 = refl }

-- 64·m has base m and phase 0
pub base-own : (m : ℕ) → base (pos (64 * m)) ≡ pos m
unfolding base
base-own m = ap pos (whole m)
  where
    whole : (m : ℕ) → 64 * m / 64 ≡ m
    whole m = omega arith

pub phase-own : (m : ℕ) → phase (pos (64 * m)) ≡ pos 0
unfolding phase
phase-own m = ap (λ z. pos (64 * m) -ℤ pos 64 *ℤ z) (base-own m) ∙ +ℤ_invr (pos (64 * m))

tap-own : (m : ℕ) → tap_at (pos (64 * m)) 1 ≡ pos m
tap-own m = ap (λ z. z +ℤ pos 1 -ℤ pos 1) (base-own m) ∙ +ℤ-neg_ℤ_cancel (pos m) (pos 1)

-- ---- the sum over sixteen taps

-- the sum, for row weights w, column weights u and samples s
abbrev weighted : (ℕ → ℤ) → (ℕ → ℤ) → (ℕ → ℕ → ℕ) → ℤ
weighted w u s = over_taps (λ j. over_taps (λ i. w j *ℤ u i *ℤ pos (s i j)))

-- samples that agree at the sixteen taps have one sum
weighted-cong : (w u : ℕ → ℤ) (f g : ℕ → ℕ → ℕ) → ((i j : ℕ) → i < 4 → j < 4 → f i j ≡ g i j) → weighted w u f ≡ weighted w u g
weighted-cong w u f g h = taps (λ j l. taps (λ i m. ap (λ n. w j *ℤ u i *ℤ pos n) (h i j m l)))
  where
    taps : {f g : ℕ → ℤ} → ((i : ℕ) → i < 4 → f i ≡ g i) → over_taps f ≡ over_taps g
    taps h = λ i. h 0 (omega arith) i +ℤ h 1 (omega arith) i +ℤ h 2 (omega arith) i +ℤ h 3 (omega arith) i

-- one sample at all taps comes out of the sum
weighted-flat : (w u : ℕ → ℤ) (x : ℕ) → weighted w u (λ i j. x) ≡ over_taps w *ℤ over_taps u *ℤ pos x
weighted-flat w u x =
    let row : Expr → Expr = λ (e : Expr). e ⊗ var 4 ⊗ var 8 ⊕ e ⊗ var 5 ⊗ var 8 ⊕ e ⊗ var 6 ⊗ var 8 ⊕ e ⊗ var 7 ⊗ var 8 in
    solve (w 0 ∷ w 1 ∷ w 2 ∷ w 3 ∷ u 0 ∷ u 1 ∷ u 2 ∷ u 3 ∷ pos x ∷ [])
    (row (var 0) ⊕ row (var 1) ⊕ row (var 2) ⊕ row (var 3))
    ((var 0 ⊕ var 1 ⊕ var 2 ⊕ var 3) ⊗ (var 4 ⊕ var 5 ⊕ var 6 ⊕ var 7) ⊗ var 8) tt

-- weights of one tap leave its sample
weighted-one : (w : ℕ → ℤ) (s : ℕ → ℕ → ℕ) → OneTap w → weighted w w s ≡ pos (2 ^ 38 * s 1 1)
weighted-one w s o = rw (o.tap0, o.tap1, o.tap2, o.tap3) (ap pos (omega arith))

-- the sum row by row: the weight of a row comes out
pub sum-by-rows : (A : ℕ) (sample : Place → ℕ) (p : Located)
    → cubic_sum A sample p
    ≡ over_taps (λ j. tap_weight j (phase p.row) *ℤ over_taps (λ i.
    tap_weight i (phase p.column) *ℤ pos (sample (tap_place A p.face (tap_at p.column i) (tap_at p.row j)))))
unfolding cubic_sum
sum-by-rows A sample p = λ k. row 0 k +ℤ row 1 k +ℤ row 2 k +ℤ row 3 k
  where
    w : ℕ → ℤ
    w j = tap_weight j (phase p.row)

    u : ℕ → ℤ
    u i = tap_weight i (phase p.column)

    s : ℕ → ℕ → ℤ
    s j i = pos (sample (tap_place A p.face (tap_at p.column i) (tap_at p.row j)))

    row : (j : ℕ) → over_taps (λ i. w j *ℤ u i *ℤ s j i) ≡ w j *ℤ over_taps (λ i. u i *ℤ s j i)
    row j = solve (w j ∷ u 0 ∷ u 1 ∷ u 2 ∷ u 3 ∷ s j 0 ∷ s j 1 ∷ s j 2 ∷ s j 3 ∷ [])
        (var 0 ⊗ var 1 ⊗ var 5 ⊕ var 0 ⊗ var 2 ⊗ var 6 ⊕ var 0 ⊗ var 3 ⊗ var 7 ⊕ var 0 ⊗ var 4 ⊗ var 8)
        (var 0 ⊗ (var 1 ⊗ var 5 ⊕ var 2 ⊗ var 6 ⊕ var 3 ⊗ var 7 ⊕ var 4 ⊗ var 8)) tt

-- ---- rounding and clipping a sum

pub rounded-whole : (x : ℕ) → rounded (pos (2 ^ 38 * x)) ≡ pos x
unfolding rounded
rounded-whole x = rounded-near (pos (2 ^ 38 * x)) (2 ^ 38) (pos x)
    (subst (λ z. nat_abs (pos 2 *ℤ z) < 2 ^ 38) (sym none) (omega arith))
  where
    none : pos (2 ^ 38 * x) -ℤ pos x *ℤ pos (2 ^ 38) ≡ pos 0
    none = solve (pos x ∷ []) (con (pos (2 ^ 38)) ⊗ var 0 ⊝ var 0 ⊗ con (pos (2 ^ 38))) (con (pos 0)) tt

-- half of the divisor added, and rounded down
pub rounded-floor : (sum : ℤ) → rounded sum ≡ floor_div (sum +ℤ pos (2 ^ 37)) (2 ^ 38)
unfolding rounded
rounded-floor sum =
    ap (λ z. floor_div z (2 * 2 ^ 38))
    (solve (sum ∷ []) (con (pos 2) ⊗ var 0 ⊕ con (pos (2 ^ 38))) (con (pos 2) ⊗ (var 0 ⊕ con (pos (2 ^ 37)))) tt)
    ∙ floor-times 2 (2 ^ 38) (sum +ℤ pos (2 ^ 37)) (omega arith)

-- a sum of 2^38 times a sample within the depth gives the sample
whole-value : (D x : ℕ) (sum : ℤ) → x < 2 ^ D → sum ≡ pos (2 ^ 38 * x) → clipped_to D (rounded sum) ≡ x
whole-value D x sum h e = ap (λ z. clipped_to D (rounded z)) e ∙ ap (clipped_to D) (rounded-whole x) ∙ clip-inside (2 ^ D) x h

-- ---- what a sampler reads

pub nearest-value : (A D : ℕ) (sample : Place → ℕ) (p : Located) → sample (nearest_place A p) ≡ sample_from Sampler.Nearest A D sample p
unfolding sample_from
nearest-value A D sample p = refl

pub cubic-value : (A D : ℕ) (sample : Place → ℕ) (p : Located)
    → clip (2 ^ D) (rounded (cubic_sum A sample p)) ≡ sample_from Sampler.Cubic A D sample p
unfolding sample_from
cubic-value A D sample p = refl

-- the place that tap (i, j) of a sampler reads: for nearest all taps are one
abbrev pub tapped_place : Sampler → ℕ → Located → ℕ → ℕ → Place
tapped_place Sampler.Nearest A p i j = nearest_place A p
tapped_place Sampler.Cubic A p i j = tap_place A p.face (tap_at p.column i) (tap_at p.row j)

pub tapped_place-ok : (c : Sampler) (A : ℕ) (p : Located) (i j : ℕ) → 1 ≤ A → OnFace A p → IsPlace A (tapped_place c A p i j)
tapped_place-ok Sampler.Nearest A p i j h g = nearest_place-ok A p h g
tapped_place-ok Sampler.Cubic A p i j h g = tap_place-ok A p.face (tap_at p.column i) (tap_at p.row j) h g.face-ok

-- nothing else is read: samples that agree at the tapped places give one value
pub value-cong : (c : Sampler) (A D : ℕ) (one two : Place → ℕ) (p : Located)
    → ((i j : ℕ) → i < 4 → j < 4 → one (tapped_place c A p i j) ≡ two (tapped_place c A p i j)) → sample_from c A D one p ≡ sample_from c A D two p
unfolding sample_from cubic_sum
value-cong Sampler.Nearest A D one two p h = h 0 0 (omega arith) (omega arith)
value-cong Sampler.Cubic A D one two p h = ap (λ z. clipped_to D (rounded z))
    (weighted-cong (λ j. tap_weight j (phase p.row)) (λ i. tap_weight i (phase p.column))
    (λ i j. one (tapped_place Sampler.Cubic A p i j)) (λ i j. two (tapped_place Sampler.Cubic A p i j)) h)

-- equal samples give themselves
pub value-flat : (c : Sampler) (A D x : ℕ) (sample : Place → ℕ) (p : Located) → x < 2 ^ D
    → ((i j : ℕ) → i < 4 → j < 4 → sample (tapped_place c A p i j) ≡ x) → sample_from c A D sample p ≡ x
unfolding sample_from cubic_sum
value-flat Sampler.Nearest A D x sample p l h = h 0 0 (omega arith) (omega arith)
value-flat Sampler.Cubic A D x sample p l h = whole-value D x (cubic_sum A sample p) l
    (weighted-cong w u (λ i j. sample (tapped_place Sampler.Cubic A p i j)) (λ i j. x) h
    ∙ weighted-flat w u x
    ∙ ap₂ (λ a b. a *ℤ b *ℤ pos x) (weights-add (phase p.row)) (weights-add (phase p.column)))
  where
    w : ℕ → ℤ
    w j = tap_weight j (phase p.row)

    u : ℕ → ℤ
    u i = tap_weight i (phase p.column)

-- a value is within the depth
pub value-within : (c : Sampler) (A D : ℕ) (sample : Place → ℕ) (p : Located) → 1 ≤ A → OnFace A p
    → ((P : Place) → IsPlace A P → sample P < 2 ^ D) → sample_from c A D sample p < 2 ^ D
unfolding sample_from
value-within Sampler.Nearest A D sample p h g s = s (nearest_place A p) (nearest_place-ok A p h g)
value-within Sampler.Cubic A D sample p h g s = clip-below (2 ^ D) (rounded (cubic_sum A sample p)) (one-le-pow D 2 (omega arith))

-- at the middle of a place the value is the sample there
pub value-own : (c : Sampler) (A D : ℕ) (sample : Place → ℕ) (P : Place) → IsPlace A P → sample P < 2 ^ D
    → sample_from c A D sample (middle_of P) ≡ sample P
unfolding sample_from nearest_place cubic_sum
value-own Sampler.Nearest A D sample P p h =
    ap₂ (λ m n. sample (place P.face m n)) (nearest-own A P.column p.column-ok) (nearest-own A P.row p.row_ok)
value-own Sampler.Cubic A D sample P p h = whole-value D (sample P) (cubic_sum A sample (middle_of P)) h
    (ap₂ (λ y x. weighted (λ j. tap_weight j y) (λ i. tap_weight i x) (λ i j. sample (tapped_place Sampler.Cubic A (middle_of P) i j)))
    (phase-own P.row) (phase-own P.column)
    ∙ weighted-one (λ i. tap_weight i (pos 0)) (λ i j. sample (tapped_place Sampler.Cubic A (middle_of P) i j)) weights-at-zero
    ∙ ap (λ Q. pos (2 ^ 38 * sample Q)) there)
  where
    there : tapped_place Sampler.Cubic A (middle_of P) 1 1 ≡ P
    there = ap₂ (tap_place A P.face) (tap-own P.column) (tap-own P.row)
        ∙ tap_place-inside A P.face P.column P.row p.column-ok p.row_ok
