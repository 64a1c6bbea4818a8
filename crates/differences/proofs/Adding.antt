-- Squares that are added to a table with a sum for each column, one column after the other.
use mathlib.Core.Path.{◌≡◌, ◌∙◌, ap}
use mathlib.Core.List.{List}
use Prim.Native.Nat.{ℕ, ◌+◌, ◌≤◌, ◌<◌}
use native.Mathlib.Nat.{le_refl}
use native.Mathlib.Omega.{arith}
use lib.ListN.{length, get_or, set}
use lib.Seq.{get_or-set_other}
use Rattle.arithmetic.proofs.Filling.{entries_next}
use Rattle.differences.specs.RowSquares.{Added}

-- the first n columns are done: to each sum is added a number that may be added there
pub record AddedSoFar (may : ℕ → ℕ → Type 0) (before squares : List ℕ) (n : ℕ) : Type 0 where
  pub done : (m : ℕ) → m < n → (v : ℕ) × may m v × (get_or squares m 0 ≡ get_or before m 0 + v)
  pub rest : (m : ℕ) → n ≤ m → get_or squares m 0 ≡ get_or before m 0

-- one column more
pub added_so_far-next : {n v : ℕ} {may : ℕ → ℕ → Type 0} {before squares : List ℕ}
    → AddedSoFar may before squares n → n < length squares → may n v
    → AddedSoFar may before (set squares n (get_or squares n 0 + v)) (n + 1)
added_so_far-next {n} {v} {may} {before} {squares} a h y = record {
  done = λ m k. entries_next {from = 0} squares (get_or squares n 0 + v) 0
      (λ i x. (w : ℕ) × may i w × (x ≡ get_or before i 0 + w)) h (λ i _ l. a.done i l)
      (v, y, ap (λ x. x + v) (a.rest n (le_refl n))) m (omega arith) k;
  rest = λ m k. get_or-set_other squares n m (get_or squares n 0 + v) 0 (λ d. omega arith) ∙ a.rest m (omega arith);
}

-- ---- what is added, by a function

-- what may be added is what a function says
pub added-by : {A : ℕ} {may : ℕ → ℕ → Type 0} {more : ℕ → ℕ} {before after : List ℕ}
    → ((m : ℕ) → m < A → (v : ℕ) × may m v × (get_or after m 0 ≡ get_or before m 0 + v))
    → ((m v : ℕ) → m < A → may m v → v ≡ more m) → Added A more before after
added-by {before = before} a e = record {
  entry = λ m h.
      let x = a m h in x.2 ∙ ap (λ v. get_or before m 0 + v) (e m x.0 h x.1);
}
