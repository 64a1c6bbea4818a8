-- `rows_error` meets its contract: the row and the opposite one have the same weights, so the squares are summed before
-- they are weighed.
use mathlib.Core.Path.{◌∙◌, subst}
use Rattle.arithmetic.specs.Sums.{both_terms}
use Rattle.differences.specs.RowSquares.{Squares}
use Rattle.differences.specs.PairSquares.{plane_pair_squares}
use Rattle.scoring.proofs.WeighedSums.{weighed-squares}
use Rattle.scoring.proofs.rows_error.Goals as goal

pub returns : goal.returns
returns c =
    let a = c.args in
    let w = a.weights.now in (
      c.weigh.ensures.0
          ∙ weighed-squares w.size w.weights c.squares_of.result (plane_pair_squares a.planes) a.row a.mirror
          (subst (λ A. Squares A (λ m. both_terms (λ n. plane_pair_squares a.planes n m) a.row a.mirror)
          c.squares_of.result) c.requires.one_size c.squares_of.ensures),
      c.weigh.ensures.1,
    )
