-- `value_by_places` meets its contract: the paper's sum, row by row, and its value.
use mathlib.Core.Path.{◌∙◌}
use Prim.Native.Nat.{ℕ}
use lib.ListN.{get_or}
use Rattle.arithmetic.proofs.Held.{read_result}
use Rattle.arithmetic.proofs.Narrow.{widen}
use Rattle.cubemap.specs.declared.Place.{Place}
use Rattle.taps.specs.InOrder.{in_order}
use Rattle.taps.specs.TapWeights.{TapWeights, grid_sum}
use Rattle.strides.specs.FaceStrides.{sample_by}
use Rattle.cubic.proofs.CubicValues.{tapped, cubic-is}
use Rattle.cubic.proofs.stretch.Stretch.value_by_places.Goals as goal

pub returns : goal.returns
returns c =
    let a = c.args.self in
    let p = a.source.plane in
    let column : ℕ = get_or a.columns.now c.args.j 0 in
    let row : ℕ = get_or a.rows.now c.args.j 0 in
    let sample : Place → ℕ = sample_by p.bytes.now p.strides.now in
    let u : TapWeights = in_order c.weights_at-u.result in
    let w : TapWeights = in_order c.weights_at-w.result in
    let x = widen c.first_tap-x.result c.first_tap-x.ensures.1 tt ∙ c.first_tap-x.ensures.0 in
    let y = widen c.first_tap-y.result c.first_tap-y.ensures.1 tt ∙ c.first_tap-y.ensures.0 in (
      c.value_of.ensures.0
          ∙ cubic-is p.size a.source.depth a.face sample column row {w = w} {u = u}
          c.weights_at-u.ensures
          c.weights_at-w.ensures
          ((read_result tt c.sum_by_places.ensures).0 ∙ (λ k. grid_sum w u (tapped sample p.size a.face (x k) (y k)))),
      c.value_of.ensures.1,
    )
