-- Equation 14 within 64 bits, on a scale of 2^48 for each 64th of a sample, and by how much it may be off.
use Rattle.std.specs.Prelude.{◌≡◌, ℕ, ◌+◌, ◌*◌, ◌≤◌}
use Rattle.cubemap.proofs.Curves.{bent}

-- the factors of t and of t² on a face of size A: 34·32·A·2^17 / 25, rounded down, and 9·32·A·2^18 / 25, rounded up
pub record Factors (A slope bend : ℕ) : Type 0 where
  pub slope-least : 25 * slope ≤ 142606336 * A
  pub slope-most : 142606336 * A ≤ 25 * slope + 24
  pub bend-least : 75497472 * A ≤ 25 * bend
  pub bend-most : 25 * bend ≤ 75497472 * A + 24

-- nearly 32·A·k·(34d − 9k) / (25·d²): at most 2^31 more, and 3·2^30 and what the slope makes of 9 less
pub record PartNear (A k d part : ℕ) : Type 0 where
  pub least : 25 * part * (d * d) ≤ 9007199254740992 * A * bent d k + 53687091200 * (d * d)
  pub most : 9007199254740992 * A * bent d k ≤ (25 * part + 80530636800 + 1283457024 * A) * (d * d)

-- the numbers of faces of size A: `slack` is the most that a bracket spans, and `middle` is 32·A + 1/2
pub record BendOf (A slope bend slack middle : ℕ) : Type 0 where
  pub factors : Factors A slope bend
  pub slack-least : 134217728000 + 1283457024 * A ≤ 25 * slack
  pub slack-most : slack ≤ 34359738368
  pub middle-is : middle ≡ (64 * A + 1) * 140737488355328
