-- The test of a weight in numbers that fit 64 bits: K³ is taken apart into high·2^30 + low, and the limit is 4·A^6.
use Rattle.std.specs.Prelude.{Bool, ℕ, ◌+◌, ◌*◌, ◌≤◌, ◌<◌, T, leb}

-- W²·(high·2^30 + low)
abbrev pub left_side : ℕ → ℕ → ℕ → ℕ
left_side high low W = W * W * (high * 1073741824 + low)

-- is that at most 2^30·limit?
abbrev pub passing : ℕ → ℕ → ℕ → ℕ → Bool
passing high low limit W = leb (left_side high low W) (1073741824 * limit)

-- what the code that tests asks of a test: its numbers are small, and no number above 65,536 passes. K = A² + p² + q²
-- is at most 3·512²: its third power is at most 27·2^54, and the high part of that 27·2^24.
pub record Bounds (high low limit : ℕ) : Type 0 where
  pub high_small : high ≤ 452984832
  pub low_small : low < 1073741824
  pub top : T (passing high low limit 65537) → ⊥
