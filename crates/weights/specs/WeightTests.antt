-- What a test tests, and the number that it finds.
use Rattle.std.specs.Prelude.{◌≡◌, ℕ, ◌+◌, ◌*◌, ◌^◌, T}
use Rattle.weights.specs.declared.weight_test.WeightTest.{WeightTest}
use Rattle.weights.specs.TestNumbers.{passing}

-- the test of a place with K = A² + p² + q²
pub record TestOf (limit K : ℕ) (t : WeightTest) : Type 0 where
  pub whole : t.high * 1073741824 + t.low ≡ K ^ 3
  pub goes_to : t.limit ≡ limit

-- W passes, and the next number does not
pub record IsMost (t : WeightTest) (W : ℕ) : Type 0 where
  pub holds : T (passing t.high t.low t.limit W)
  pub over : T (passing t.high t.low t.limit (W + 1)) → ⊥
