-- What a number rises by and what it falls by.
use mathlib.Core.Path.{◌≡◌, refl, sym, ◌∙◌, ap, subst}
use mathlib.Core.List.{[], ◌∷◌}
use Prim.Native.Nat.{ℕ, zero, suc, ◌*◌, ◌^◌, ◌≤◌}
use native.Mathlib.Nat.{add-zero}
use native.Mathlib.Omega.{arith}
use lib.Dec.{T, ltb}
use lib.IntN.{ℤ, pos, negsuc, neg_ℤ, nat_abs, ◌-ℤ◌, ◌*ℤ◌, +ℤ_idl}
use mir.Syntax.{w64}
use mir.Val.{to_z, of_z}
use Rattle.arithmetic.specs.Integers.{natural}
use Rattle.arithmetic.proofs.Held.{Held, opposite}
use Rattle.arithmetic.proofs.Ring.{var, con, ◌⊗◌, ◌⊝◌, ⊖, solve}

natural-small : (z : ℤ) {B : ℕ} → nat_abs z ≤ B → natural z ≤ B
natural-small (pos n) h = h
natural-small (negsuc n) h = omega arith

opposite-small : (z : ℤ) {B : ℕ} → nat_abs z ≤ B → natural (neg_ℤ z) ≤ B
opposite-small (pos zero) h = h
opposite-small (pos (suc n)) h = omega arith
opposite-small (negsuc n) h = h

moves : (z : ℤ) → pos (natural z) -ℤ pos (natural (neg_ℤ z)) ≡ z
moves (pos zero) = refl
moves (pos (suc n)) = ap pos (add-zero (suc n))
moves (negsuc n) = +ℤ_idl (negsuc n)

-- the opposite rises by what the number falls by
pub opposite-moves : (z : ℤ) → pos (natural (neg_ℤ z)) -ℤ pos (natural z) ≡ neg_ℤ z
opposite-moves z =
    solve (pos (natural (neg_ℤ z)) ∷ pos (natural z) ∷ []) (var 0 ⊝ var 1) (⊖ (var 1 ⊝ var 0)) tt ∙ ap neg_ℤ (moves z)

-- and so twice
pub twice-moves : (z : ℤ) → pos (2 * natural z) -ℤ pos (2 * natural (neg_ℤ z)) ≡ pos 2 *ℤ z
twice-moves z =
    solve (pos (natural z) ∷ pos (natural (neg_ℤ z)) ∷ []) (con (pos 2) ⊗ var 0 ⊝ con (pos 2) ⊗ var 1) (con (pos 2) ⊗ (var 0 ⊝ var 1)) tt
    ∙ ap (λ z. pos 2 *ℤ z) (moves z)

-- a number that is not negative
pub natural-is : (z : ℤ) → pos (nat_abs z) ≡ z → natural z ≡ nat_abs z
natural-is z e = sym (ap natural e)

-- what a call of `rise` gives of a held number, and of its opposite
module _ {n : ℕ} {x : ℤ} {B r : ℕ} (p : Held n x B) where
  pub rises : r ≡ natural (to_z w64 n) → r ≡ natural x
  rises e = e ∙ ap natural p.is

  pub rises-small : r ≡ natural (to_z w64 n) → r ≤ B
  rises-small e = subst (λ r. r ≤ B) (sym (rises e)) (natural-small x p.small)

  module _ (t : T (ltb B (2 ^ 63))) (e : r ≡ natural (to_z w64 (of_z w64 (pos 0 -ℤ to_z w64 n)))) where
    pub falls : r ≡ natural (neg_ℤ x)
    falls = e ∙ ap natural (opposite p t).is

    pub falls-small : r ≤ B
    falls-small = subst (λ r. r ≤ B) (sym falls) (opposite-small x p.small)
