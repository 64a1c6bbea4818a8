-- `score_planes` meets its contract: after n turns the two sums are those of the first n rows and of the n last ones.
use mathlib.Core.Path.{◌≡◌}
use Prim.Native.Nat.{ℕ, suc, ◌-◌}
use Rattle.arithmetic.specs.Sums.{sum_below, both_terms}
use Rattle.cubemap.specs.declared.Format.{Format}
use Rattle.cubemap.specs.declared.Place.{Place}
use Rattle.cubemap.specs.Score.{weight}
use Rattle.cubemap.proofs.Scores.{row_errors}
use Rattle.scoring.specs.Comparing.{sample_in}
use Rattle.scoring.proofs.Summing.{Running}
use Rattle.scoring.proofs.score_planes.Given as goal

-- a row's part of the sum of the weights
abbrev pub row_weights : Format → ℕ → ℕ → ℕ
row_weights format A n = sum_below (λ m. weight format A m n) A

pub record RowsSummed (format : Format) (size : ℕ) (first second : Place → ℕ) (errors sum row : ℕ) : Type 0 where
  pub error-sum : Running (λ n. both_terms (row_errors format size first second) n (size - suc n)) 6752101308825600
      row errors
  pub weight-sum : Running (λ n. both_terms (row_weights format size) n (size - suc n)) 67108864 row sum

abbrev pub invariant-loop-row : goal.invariant-loop-row
invariant-loop-row l =
    (l.weights.size ≡ l.size)
    × RowsSummed l.format l.size (sample_in l.planes.first) (sample_in l.planes.second) l.errors l.sum l.row
