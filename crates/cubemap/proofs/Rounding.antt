-- Rounding to the nearest whole number, halves upward: what it is, that nothing else is it, and how near it is.
use mathlib.Core.Path.{◌≡◌, refl, sym, ◌∙◌, ap, ap₂, subst}
use mathlib.Core.List.{[], ◌∷◌}
use Prim.Native.Nat.{ℕ, suc, ◌+◌, ◌*◌, ◌-◌, ◌≤◌, ◌<◌}
use native.Mathlib.Omega.{arith}
use lib.IntN.{ℤ, pos, nat_abs, ◌+ℤ◌, ◌-ℤ◌, ◌*ℤ◌}
use lib.Signed.{◌≤ℤ◌, ◌<ℤ◌}
use Rattle.arithmetic.specs.Integers.{floor_div}
use Rattle.arithmetic.proofs.Integers.{by-combination}
use Rattle.arithmetic.proofs.Sizes.{pos_inj, difference-small, Lifted, lifted}
use Rattle.arithmetic.proofs.Ring.{Expr, var, con, ◌⊕◌, ◌⊗◌, ◌⊝◌, solve}
use Rattle.arithmetic.proofs.Order.{le_intro, le-elim, lt-intro, lt-elim}
use Rattle.arithmetic.proofs.Floors.{remainder, remainder-below, floor-split, floor-unique, floor-times}
use Rattle.cubemap.specs.RayToPlace.{round_half_up}

-- t is n / d to the nearest whole number, halves upward: 2·t·d ≤ 2·n + d < 2·t·d + 2·d
pub record IsRounded (n : ℤ) (d : ℕ) (t : ℤ) : Type 0 where
  pub low : (pos 2 *ℤ t *ℤ pos d) ≤ℤ (pos 2 *ℤ n +ℤ pos d)
  pub high : (pos 2 *ℤ n +ℤ pos d) <ℤ (pos 2 *ℤ t *ℤ pos d +ℤ pos 2 *ℤ pos d)

-- what the division leaves over
abbrev rest : ℤ → ℕ → ℕ
rest n d = remainder (pos 2 *ℤ n +ℤ pos d) (2 * d)

rest_below : (n : ℤ) (d : ℕ) → 0 < d → rest n d < 2 * d
rest_below n d h = remainder-below (pos 2 *ℤ n +ℤ pos d) (2 * d) (omega arith)

rest-split : (n : ℤ) (d : ℕ) → 0 < d → pos 2 *ℤ n +ℤ pos d ≡ round_half_up n d *ℤ pos (2 * d) +ℤ pos (rest n d)
rest-split n d h = floor-split (pos 2 *ℤ n +ℤ pos d) (2 * d) (omega arith)

pub rounded-is : (n : ℤ) (d : ℕ) → 0 < d → IsRounded n d (round_half_up n d)
rounded-is n d h =
    let q : ℤ = round_half_up n d in
    let r : ℕ = rest n d in
    let l = rest_below n d h in
    let e = rest-split n d h in
    let s : ℕ = 2 * d - suc r in
    let w : 2 * d ≡ r + suc s = omega arith in
    let a = solve (q ∷ pos d ∷ pos r ∷ []) (var 0 ⊗ (con (pos 2) ⊗ var 1) ⊕ var 2) (con (pos 2) ⊗ var 0 ⊗ var 1 ⊕ var 2) tt in
    let b = solve (q ∷ pos d ∷ pos r ∷ pos (suc s) ∷ [])
    (con (pos 2) ⊗ var 0 ⊗ var 1 ⊕ (var 2 ⊕ var 3)) (var 0 ⊗ (con (pos 2) ⊗ var 1) ⊕ var 2 ⊕ var 3) tt in
    record {
      low = le_intro (pos 2 *ℤ q *ℤ pos d) (pos 2 *ℤ n +ℤ pos d) r (e ∙ a);
      high = lt-intro (pos 2 *ℤ n +ℤ pos d) (pos 2 *ℤ q *ℤ pos d +ℤ pos 2 *ℤ pos d) s
          (ap (λ m. pos 2 *ℤ q *ℤ pos d +ℤ pos m) w ∙ b ∙ ap (λ z. z +ℤ pos (suc s)) (sym e));
    }

-- and nothing else is
pub rounded-only : (n : ℤ) (d : ℕ) (t : ℤ) → IsRounded n d t → round_half_up n d ≡ t
rounded-only n d t g =
    let middle : ℤ = pos 2 *ℤ t *ℤ pos d in
    let p = le-elim middle (pos 2 *ℤ n +ℤ pos d) g.low in
    let q = lt-elim (pos 2 *ℤ n +ℤ pos d) (middle +ℤ pos 2 *ℤ pos d) g.high in
    let r : ℕ = p.0 in
    let s : ℕ = q.0 in
    let w : 2 * d ≡ r + suc s = pos_inj (2 * d) (r + suc s) (by-combination (pos (2 * d)) (pos (r + suc s)) middle middle refl
    (solve (t ∷ pos d ∷ []) (con (pos 2) ⊗ var 1 ⊕ con (pos 2) ⊗ var 0 ⊗ var 1) (con (pos 2) ⊗ var 0 ⊗ var 1 ⊕ con (pos 2) ⊗ var 1) tt
    ∙ q.1 ∙ ap (λ z. z +ℤ pos (suc s)) p.1
    ∙ solve (middle ∷ pos r ∷ pos (suc s) ∷ []) (var 0 ⊕ var 1 ⊕ var 2) (var 1 ⊕ var 2 ⊕ var 0) tt)) in
    floor-unique (pos 2 *ℤ n +ℤ pos d) t (2 * d) r (omega arith)
    (p.1 ∙ solve (t ∷ pos d ∷ pos r ∷ []) (con (pos 2) ⊗ var 0 ⊗ var 1 ⊕ var 2) (var 0 ⊗ (con (pos 2) ⊗ var 1) ⊕ var 2) tt)

-- it is off by at most a half: |2·(n − t·d)| ≤ d
pub rounded-error : (n : ℤ) (d : ℕ) → 0 < d → nat_abs (pos 2 *ℤ (n -ℤ round_half_up n d *ℤ pos d)) ≤ d
rounded-error n d h =
    let q : ℤ = round_half_up n d in
    let r : ℕ = rest n d in
    let l = rest_below n d h in
    let D : Expr = con (pos 2) ⊗ var 2 in
    let f = solve (n ∷ q ∷ pos d ∷ []) (con (pos 2) ⊗ (var 0 ⊝ var 1 ⊗ var 2)) (con (pos 2) ⊗ var 0 ⊕ var 2 ⊝ var 1 ⊗ D ⊝ var 2) tt in
    let g = solve (pos r ∷ q ∷ pos d ∷ []) (var 1 ⊗ D ⊕ var 0 ⊝ var 1 ⊗ D ⊝ var 2) (var 0 ⊝ var 2) tt in
    subst (λ z. nat_abs z ≤ d) (sym (f ∙ ap (λ z. z -ℤ q *ℤ pos (2 * d) -ℤ pos d) (rest-split n d h) ∙ g))
    (difference-small r d d (omega arith) (omega arith))

-- a whole number that is nearer than a half is it, whichever way halves go
pub rounded-near : (n : ℤ) (d : ℕ) (t : ℤ) → nat_abs (pos 2 *ℤ (n -ℤ t *ℤ pos d)) < d → round_half_up n d ≡ t
rounded-near n d t h =
    let w : Lifted (pos 2 *ℤ (n -ℤ t *ℤ pos d)) d = lifted (pos 2 *ℤ (n -ℤ t *ℤ pos d)) d (omega arith) in
    let l = w.high in
    floor-unique (pos 2 *ℤ n +ℤ pos d) t (2 * d) w.lift (omega arith)
    (solve (n ∷ t ∷ pos d ∷ [])
    (con (pos 2) ⊗ var 0 ⊕ var 2) (var 1 ⊗ (con (pos 2) ⊗ var 2) ⊕ (con (pos 2) ⊗ (var 0 ⊝ var 1 ⊗ var 2) ⊕ var 2)) tt
    ∙ ap (λ z. t *ℤ pos (2 * d) +ℤ z) w.is)

-- a common factor falls out
pub rounded-times : (k : ℕ) (n : ℤ) (d : ℕ) → 0 < k → round_half_up (pos k *ℤ n) (k * d) ≡ round_half_up n d
rounded-times k n d h =
    ap₂ floor_div
    (solve (pos k ∷ n ∷ pos d ∷ []) (con (pos 2) ⊗ (var 0 ⊗ var 1) ⊕ var 0 ⊗ var 2) (var 0 ⊗ (con (pos 2) ⊗ var 1 ⊕ var 2)) tt)
    double
    ∙ floor-times k (2 * d) (pos 2 *ℤ n +ℤ pos d) h
  where
    double : 2 * (k * d) ≡ k * (2 * d)
    double = omega arith
