-- T + 32 in ACP along a stretch of columns: from tables of the distances d and of the sums x + d.
use Rattle.std.specs.Prelude.{◌≡◌, List, ℕ, ◌*◌, ◌≤◌, ◌<◌, pos, ◌-ℤ◌, length, get_or}
use Rattle.cubemap.specs.declared.Format.{Format}
use Rattle.cubemap.specs.RayToPlace.{position64}
use Rattle.reciprocals.specs.Reciprocals.{Reciprocal}

-- the sums x + d of a stretch's columns: no ratio x / d exceeds 1
pub record Sums (sums distances : List ℕ) : Type 0 where
  pub ratio : (j : ℕ) → j < length sums → get_or sums j 0 ≤ 2 * get_or distances j 0

-- a column: its sum, its distance, and the reciprocal of that
pub record Column (shift sum distance reciprocal : ℕ) : Type 0 where
  pub positive : 0 < distance
  pub bounded : distance ≤ 536870911
  pub ratio : sum ≤ 2 * distance
  pub near : Reciprocal shift distance reciprocal

-- the entry is T + 32 in ACP of a column with this sum and this distance
abbrev pub IsPosition : ℕ → ℕ → ℕ → ℕ → Type 0
IsPosition A sum distance entry = position64 Format.Acp A (pos sum -ℤ pos distance) distance ≡ pos entry -ℤ pos 32

-- the table has that of each column of a stretch
pub record Adjusted (A : ℕ) (sums distances table : List ℕ) : Type 0 where
  pub entry : (j : ℕ) → j < length sums → IsPosition A (get_or sums j 0) (get_or distances j 0) (get_or table j 0)
