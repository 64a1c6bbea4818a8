-- Constant tables of rows and columns, checked by one computed test: `pair-at` turns the test of all entries into the rule for each of them.
use mathlib.Core.Bool.{Bool}
use Prim.Native.Nat.{ℕ, ◌<◌}
use lib.Dec.{T}
use Rattle.arithmetic.specs.Searches.{all_below}
use Rattle.arithmetic.proofs.Searches.{all-at}

-- does each row below rows pass with each column below columns?
unfoldable pub all_pairs : (ℕ → ℕ → Bool) → ℕ → ℕ → Bool
all_pairs test rows columns = all_below (λ r. all_below (test r) columns) rows

pub pair-at : (test : ℕ → ℕ → Bool) (rows columns : ℕ) → T (all_pairs test rows columns) → (r c : ℕ) → r < rows → c < columns → T (test r c)
unfolding all_pairs
pair-at test rows columns t r c h k = all-at (test r) columns (all-at (λ r. all_below (test r) columns) rows t r h) c k
