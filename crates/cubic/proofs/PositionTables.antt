-- A position from its number in a table, and how far positions reach.
use mathlib.Core.Path.{◌≡◌, sym, ◌∙◌, ap, ap₂}
use mathlib.Core.List.{[], ◌∷◌}
use Prim.Native.Nat.{ℕ, ◌+◌, ◌*◌, ◌/◌, ◌%◌, ◌≤◌}
use native.Mathlib.Nat.{div-add-mod'}
use native.Mathlib.Omega.{arith}
use lib.IntN.{pos, ◌+ℤ◌, ◌-ℤ◌, ◌*ℤ◌}
use Rattle.arithmetic.specs.Integers.{floor_div}
use Rattle.arithmetic.proofs.Floors.{floor-unique}
use Rattle.arithmetic.proofs.Ring.{var, con, ◌⊕◌, ◌⊗◌, ◌⊝◌, solve}
use Rattle.cubemap.specs.Samplers.{phase, tap_at}
use Rattle.cubemap.proofs.Samplers.{phase-split, first-tap}
use Rattle.cubic.specs.PositionTables.{position_of, Reached}

-- ---- T divided by 64 and rounded down, and what is left, by a division of q + 32 = T + 64: the quotient is one more

module _ (q : ℕ) where
  abbrev quotient : ℕ
  quotient = (q + 32) / 64

  abbrev rest : ℕ
  rest = (q + 32) % 64

  divided : position_of q ≡ (pos quotient -ℤ pos 1) *ℤ pos 64 +ℤ pos rest
  divided =
      solve (pos q ∷ []) (var 0 ⊝ con (pos 32)) (var 0 ⊕ con (pos 32) ⊝ con (pos 64)) tt
      ∙ ap (λ n. pos n -ℤ pos 64) (sym (div-add-mod' (q + 32) 64))
      ∙ solve (pos quotient ∷ pos rest ∷ []) (var 0 ⊗ con (pos 64) ⊕ var 1 ⊝ con (pos 64)) ((var 0 ⊝ con (pos 1)) ⊗ con (pos 64) ⊕ var 1) tt

  base-is : floor_div (position_of q) 64 ≡ pos quotient -ℤ pos 1
  base-is = floor-unique (position_of q) (pos quotient -ℤ pos 1) 64 rest (omega arith) divided

  pub phase-by-rest : phase (position_of q) ≡ pos rest
  phase-by-rest =
      phase-split (position_of q)
      ∙ ap₂ (λ t b. t -ℤ pos 64 *ℤ b) divided base-is
      ∙ solve (pos quotient ∷ pos rest ∷ [])
      ((var 0 ⊝ con (pos 1)) ⊗ con (pos 64) ⊕ var 1 ⊝ con (pos 64) ⊗ (var 0 ⊝ con (pos 1))) (var 1) tt

  pub tap-by-quotient : tap_at (position_of q) 0 ≡ pos quotient -ℤ pos 2
  tap-by-quotient =
      first-tap (position_of q) ∙ ap (λ z. z -ℤ pos 1) base-is
      ∙ solve (pos quotient ∷ []) (var 0 ⊝ con (pos 1) ⊝ con (pos 1)) (var 0 ⊝ con (pos 2)) tt

-- ---- how far positions reach

-- one of the face
pub reached-on-face : (A n : ℕ) → n ≤ 64 * A → Reached A n
reached-on-face A n h = omega arith

-- one of a face of twice the size, with T halved and rounded down
pub reached-halved : (B q : ℕ) → q ≤ 64 * (2 * B) → Reached B (q / 2 + 16)
reached-halved B q h = omega arith
