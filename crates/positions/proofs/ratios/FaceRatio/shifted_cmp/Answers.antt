-- `shifted_cmp` meets its contract: x + d is a natural number.
use mathlib.Core.Path.{◌≡◌, sym, ◌∙◌, ap}
use Prim.Native.Nat.{◌+◌, ◌*◌, ◌/◌}
use native.Mathlib.Nat.{le_trans}
use lib.IntN.{pos, nat_abs, ◌+ℤ◌, ◌-ℤ◌}
use mir.Syntax.{w64}
use mir.Val.{to_z, of_z}
use Rattle.arithmetic.proofs.Held.{held, held-nat, add}
use Rattle.arithmetic.proofs.Sizes.{Lifted, lifted}
use Rattle.cubemap.proofs.Positions.{position-cmp}
use Rattle.positions.specs.declared.ratios.FaceRatio.{FaceRatio}
use Rattle.positions.proofs.ratios.FaceRatio.shifted_cmp.Goals as goal

module _ (f : FaceRatio) where
  w : Lifted f.x f.d
  w = lifted f.x f.d f.ratio.at-most-1

  -- what the machine reads as x + d
  sum_is : nat_abs (to_z w64 (of_z w64 (to_z w64 (of_z w64 f.x) +ℤ to_z w64 f.d))) ≡ w.lift
  sum_is =
      ap nat_abs
      ((add (held f.x (le_trans f.ratio.at-most-1 f.ratio.bounded) tt) (held-nat f.ratio.bounded tt) tt).is ∙ w.is)

pub returns : goal.returns
returns c =
    let f = c.args.self in
    position-cmp f.size (w f).lift f.x f.d f.ratio.positive (w f).is
    ∙ ap (λ s. pos ((64 * f.size * s + f.d) / (2 * f.d)) -ℤ pos 32) (sym (sum_is f))
