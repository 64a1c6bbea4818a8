-- `sign_normalized` meets its contract: all four numbers change sign, or none does.
use mathlib.Core.Path.{◌≡◌, sym, ◌∙◌}
use Prim.Native.Nat.{◌≤◌}
use lib.IntN.{ℤ, pos, neg_ℤ, nat_abs, ◌-ℤ◌}
use mir.Syntax.{w64}
use mir.Val.{to_z, of_z}
use Rattle.arithmetic.proofs.Held.{held, opposite}
use Rattle.cubemap.proofs.Rotations.{rotation-eq}
use Rattle.cubemap.proofs.Reduction.{sign-changed, sign_kept}
use Rattle.rotation.proofs.sign_normalized.Goals as goal

module _ (x : ℤ) (h : nat_abs x ≤ 3844) where
  opposite-is : to_z w64 (of_z w64 (pos 0 -ℤ to_z w64 (of_z w64 x))) ≡ neg_ℤ x
  opposite-is = (opposite (held x h tt) tt).is

pub returns-then-first_negative : goal.returns-then-first_negative
returns-then-first_negative c =
    let w = c.requires in
    let t = c.args.t in
    rotation-eq (opposite-is t.e0 w.s0) (opposite-is t.e1 w.s1) (opposite-is t.e2 w.s2) (opposite-is t.e3 w.s3)
    ∙ sym (sign-changed t (sym c.first_negative.ensures ∙ c.if-first_negative.true))

pub returns-else-first_negative : goal.returns-else-first_negative
returns-else-first_negative c = sym (sign_kept c.args.t (sym c.first_negative.ensures ∙ c.if-first_negative.false))
