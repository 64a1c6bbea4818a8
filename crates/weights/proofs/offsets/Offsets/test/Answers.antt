-- `test` meets its contract: the two parts of K³, and the limit 4·A^6.
use mathlib.Core.Path.{◌≡◌, ◌∙◌, ap}
use Prim.Native.Nat.{◌+◌, ◌*◌, ◌/◌, ◌%◌, ◌^◌}
use native.Mathlib.Omega.{arith}
use Rattle.cubemap.proofs.Weights.{length_squared, sixth}
use Rattle.weights.proofs.Passing.{apart, test-bounds}
use Rattle.weights.proofs.offsets.Offsets.test.Goals.{After-cube}
use Rattle.weights.proofs.offsets.Offsets.test.Goals as goal

module _ (c : After-cube) where
  whole : c.cube-cubed.result / 1073741824 * 1073741824 + c.cube-cubed.result % 1073741824
      ≡ length_squared c.args.self.size c.args.self.p c.args.self.q ^ 3
  whole = apart c.cube-cubed.result ∙ c.cube-cubed.ensures.0 ∙ ap (λ K. K ^ 3) c.length_squared.ensures.value

  limit : 4 * c.cube.result ≡ 4 * c.args.self.size ^ 6
  limit = ap (λ n. 4 * n) (c.cube.ensures.0 ∙ sixth c.args.self.size)

pub invariant_of-result : goal.invariant_of-result
invariant_of-result c =
    let d = (goal.at.invariant_of-result c).After-cube in
    record { bounds = test-bounds _ _ _ _ _ _ (omega arith) (whole d) (limit d) (omega arith) (omega arith) }

pub returns : goal.returns
returns c = let d = (goal.at.returns c).After-cube in record { whole = whole d; goes_to = limit d }
