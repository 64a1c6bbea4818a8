-- Sums and counts over the numbers below a bound.
use Rattle.std.specs.Prelude.{Bool, cond, ℕ, zero, suc, ◌+◌, ltb}

-- f 0 + f 1 + .. + f (n − 1)
unfoldable pub sum_below : (ℕ → ℕ) → ℕ → ℕ
sum_below f zero = 0
sum_below f (suc n) = sum_below f n + f n

-- the terms i and j; the one term where i is j, or beyond it
abbrev pub both_terms : (ℕ → ℕ) → ℕ → ℕ → ℕ
both_terms f i j = f i + cond (ltb i j) (f j) 0

-- how many numbers below n pass the test
abbrev pub count_below : (ℕ → Bool) → ℕ → ℕ
count_below test n = sum_below (λ (i : ℕ). cond (test i) 1 0) n
