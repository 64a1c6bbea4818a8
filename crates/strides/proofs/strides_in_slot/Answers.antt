-- `strides_in_slot` meets its contract: the four ways that a slot is turned, and no number beyond the slot's last
-- index.
use mathlib.Core.Path.{◌≡◌, refl, sym, subst}
use Prim.Native.Nat.{ℕ, ◌+◌, ◌*◌, ◌-◌, ◌≤◌, ◌<◌}
use native.Mathlib.Omega.{arith}
use lib.IntN.{ℤ, pos}
use mir.Syntax.{w64}
use mir.Val.{to_z}
use Rattle.arithmetic.proofs.Held.{Held, held-nat, opposite}
use Rattle.cubemap.specs.Frames.{spot, quarter_turns, index_in_slot}
use Rattle.strides.specs.FaceStrides.{StridesTo}
use Rattle.strides.proofs.StrideIndices.{strides, same-strides, corner, last-below}
use Rattle.strides.proofs.StrideIndices.{strides-0, strides-1, strides-2, strides-3}
use Rattle.strides.proofs.strides_in_slot.Goals as goal

module _ {A slot turns : ℕ} (r : (1 ≤ A) × (A ≤ 512) × (slot < 6) × (turns < 4)) where
  -- no number that is computed exceeds the slot's last index
  last : corner A slot r.0 r.1 r.2 + (A - 1) * (3 * A) + (A - 1) < 1572864
  last = last-below A slot r.0 r.1 r.2

  width : Held (3 * A) (pos (3 * A)) 1536
  width = held-nat (omega (arith, r.1)) tt

  read : (n : ℕ) → n < 1572864 → to_z w64 n ≡ pos n
  read n h = (held-nat {n = n} {B = 1572864} (omega arith) tt).is

  -- the slot is turned k times, and the strides are as they are read
  turned : {b d e x y z : ℤ} (k : ℕ) → turns ≡ k → b ≡ x → d ≡ y → e ≡ z
      → StridesTo A (strides x y z) (λ m n. index_in_slot A slot (quarter_turns A k (spot m n)))
      → StridesTo A (strides b d e) (λ m n. index_in_slot A slot (quarter_turns A turns (spot m n)))
  turned {b} {d} {e} k t p q r s =
      subst (λ k. StridesTo A (strides b d e) (λ m n. index_in_slot A slot (quarter_turns A k (spot m n)))) (sym t)
      (same-strides p q r s)

pub returns-in-0 : goal.returns-in-0
returns-in-0 c =
    let r = c.requires in
    turned r 0 (omega (arith, c.in-0)) (read r _ (omega (arith, last r))) refl (width r).is
    (strides-0 _ _ r.0 r.1 r.2)

pub returns-in-1 : goal.returns-in-1
returns-in-1 c =
    let r = c.requires in
    turned r 1 (omega (arith, c.in-1)) (read r _ (omega (arith, last r))) (width r).is refl
    (strides-1 _ _ r.0 r.1 r.2)

pub returns-in-2 : goal.returns-in-2
returns-in-2 c =
    let r = c.requires in
    turned r 2 (omega (arith, c.in-2)) (read r _ (last r)) refl (opposite (width r) tt).is
    (strides-2 _ _ r.0 r.1 r.2)

pub returns-in_default : goal.returns-in_default
returns-in_default c =
    let r = c.requires in
    turned r 3 (omega arith) (read r _ (omega (arith, last r))) (opposite (width r) tt).is refl
    (strides-3 _ _ r.0 r.1 r.2)
