-- Four rows of four samples: their columns and rows, and their indices, each a stride from the one before, as the
-- machine holds them.
use mathlib.Core.Path.{◌≡◌, subst}
use mathlib.Core.List.{[], ◌∷◌}
use Prim.Native.Nat.{ℕ, ◌+◌, ◌^◌}
use lib.Dec.{T, ltb}
use lib.IntN.{ℤ, pos, ◌+ℤ◌, ◌*ℤ◌}
use mir.Syntax.{w64}
use mir.Val.{to_z, of_z}
use Rattle.arithmetic.proofs.Held.{Held, held-literal, mul, add}
use Rattle.arithmetic.proofs.Ring.{var, con, ◌⊕◌, ◌⊗◌, solve}
use Rattle.taps.specs.Fields.{Packed}

-- four samples in one number, at equal columns and rows
pub packed-at : {n : ℕ} (s : ℤ → ℤ → ℕ → ℕ) {x y u v : ℤ} → x ≡ u → y ≡ v → Packed n (s x y) → Packed n (s u v)
packed-at {n} s e d p = subst (Packed n) (λ k. s (e k) (d k)) p

-- the first of four, as the first from itself on
pub firstℤ : (z : ℤ) → z ≡ z +ℤ pos 0
firstℤ z = solve (z ∷ []) (var 0) (var 0 ⊕ con (pos 0)) tt

same : {n B : ℕ} {x y : ℤ} → x ≡ y → Held n x B → Held n y B
same {n} {B} e p = subst (λ z. Held n z B) e p

module _ {n m A : ℕ} {z d : ℤ} (p : Held n z A) (q : Held m d 1536) where
  pub on-0 : Held n (z +ℤ pos 0 *ℤ d) A
  on-0 = same (solve (z ∷ d ∷ []) (var 0) (var 0 ⊕ con (pos 0) ⊗ var 1) tt) p

  pub on-1 : T (ltb (A + 1536) (2 ^ 63)) → Held (of_z w64 (to_z w64 n +ℤ to_z w64 m)) (z +ℤ pos 1 *ℤ d) (A + 1536)
  on-1 t = same (solve (z ∷ d ∷ []) (var 0 ⊕ var 1) (var 0 ⊕ con (pos 1) ⊗ var 1) tt) (add p q t)

  pub on-2 : T (ltb (A + 3072) (2 ^ 63)) → Held (of_z w64 (to_z w64 n +ℤ to_z w64 (of_z w64 (to_z w64 2 *ℤ to_z w64 m)))) (z +ℤ pos 2 *ℤ d) (A + 3072)
  on-2 t = add p (mul (held-literal 2 tt) q tt) t

  pub on-3 : T (ltb (A + 4608) (2 ^ 63)) → Held (of_z w64 (to_z w64 n +ℤ to_z w64 (of_z w64 (to_z w64 3 *ℤ to_z w64 m)))) (z +ℤ pos 3 *ℤ d) (A + 4608)
  on-3 t = add p (mul (held-literal 3 tt) q tt) t
