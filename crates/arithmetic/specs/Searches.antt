-- The largest and the lowest number that pass a test, and whether all do. (`elim` computes only the branch that it takes.)
use Rattle.std.specs.Prelude.{Bool, true, false, ◌&&◌, ℕ, zero, suc}

-- the largest number from 0 to n that passes the test; 0 where none from 1 to n does
unfoldable pub largest : (ℕ → Bool) → ℕ → ℕ
largest test zero = zero
largest test (suc n) = elim (test (suc n)) [ true ↦ suc n | false ↦ largest test n ]

-- the lowest number that passes the test, of the n numbers from i on; i + n where none does
unfoldable pub lowest_from : (ℕ → Bool) → ℕ → ℕ → ℕ
lowest_from test zero i = i
lowest_from test (suc n) i = elim (test i) [ true ↦ i | false ↦ lowest_from test n (suc i) ]

-- the lowest number below n that passes the test; n where none does
abbrev pub lowest : (ℕ → Bool) → ℕ → ℕ
lowest test n = lowest_from test n 0

-- does each number below n pass the test?
unfoldable pub all_below : (ℕ → Bool) → ℕ → Bool
all_below test zero = true
all_below test (suc n) = all_below test n && test n
