-- `score_planes` meets its contract: after n turns the two sums are those of the first n rows and of the n last ones.
use mathlib.Core.Path.{◌≡◌, sym, ◌∙◌, ap, subst}
use Prim.Native.Nat.{◌*◌, ◌-◌}
use native.Mathlib.Omega.{arith}
use lib.ListN.{get_or}
use Rattle.arithmetic.specs.Sums.{sum_below, both_terms}
use Rattle.arithmetic.proofs.Sums.{sum-ends}
use Rattle.cubemap.proofs.Scores.{row_errors, errors-by-rows, weights-by-rows}
use Rattle.weights.specs.RowWeights.{Weighed}
use Rattle.weights.proofs.Weighing.{row-weights, both-rows}
use Rattle.differences.specs.PairSquares.{plane_pair_squares}
use Rattle.scoring.specs.Comparing.{sample_in}
use Rattle.scoring.proofs.Summing.{running_none, running-next}
use Rattle.scoring.proofs.WeighedSums.{row-errors}
use Rattle.scoring.proofs.score_planes.Invariants.{row_weights}
use Rattle.scoring.proofs.score_planes.Goals as goal

pub loop-row-init : goal.loop-row-init
loop-row-init c =
    let ready = c.new-weights.ensures in
    (ready, record { error-sum = running_none _ 6752101308825600; weight-sum = running_none _ 67108864 })

pub loop-row-preserved : goal.loop-row-preserved
loop-row-preserved c =
    let l = c.loop-row in
    let p = c.args.planes in
    let A = p.first.plane.size in
    let weights = c.weigh.new.self.weights in
    let e = c.rows_error-errors in
    let r = c.rows_weight-sum in
    let j = A - 1 - l.row in
    let size : c.weigh.new.self.size ≡ A = c.weigh.ensures.1 ∙ l.invariant.0 in
    let weighed : Weighed c.args.format A l.row weights =
    subst (λ s. Weighed c.args.format s l.row weights) l.invariant.0 c.weigh.ensures.0 in (
      size,
      record {
        error-sum = running-next l.invariant.1.error-sum
            (subst (λ s. e.result
            ≡ both_terms (λ n. sum_below (λ m. get_or weights m 0 * plane_pair_squares p n m) s) l.row j)
            size e.ensures.0
            ∙ both-rows weighed j (λ i v. row-errors v p.first.plane.bytes.now p.first.plane.strides.now
            p.second.plane.bytes.now p.second.plane.strides.now) (omega arith)) e.ensures.1;
        weight-sum = running-next l.invariant.1.weight-sum
            (subst (λ s. r.result ≡ both_terms (λ _. sum_below (λ m. get_or weights m 0) s) l.row j) size r.ensures.0
            ∙ both-rows weighed j (λ i v. row-weights v) (omega arith)) r.ensures.1;
      },
    )

pub returns-clause-errors : goal.returns-clause-errors
returns-clause-errors c =
    let p = c.args.planes in
    let A = p.first.plane.size in
    c.loop-row.invariant.1.error-sum.is
    ∙ sum-ends (row_errors c.args.format A (sample_in p.first) (sample_in p.second)) A c.loop-row.row
    (omega arith) (omega arith)
    ∙ sym (errors-by-rows c.args.format A (sample_in p.first) (sample_in p.second))

pub returns-clause-weights : goal.returns-clause-weights
returns-clause-weights c =
    let A = c.args.planes.first.plane.size in
    ap (λ n. 6 * n) (c.loop-row.invariant.1.weight-sum.is
    ∙ sum-ends (row_weights c.args.format A) A c.loop-row.row (omega arith) (omega arith))
    ∙ sym (weights-by-rows c.args.format A)
