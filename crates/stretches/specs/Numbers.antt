-- The numbers of a line along a stretch, as natural numbers.
use Rattle.std.specs.Prelude.{◌≡◌, List, ℕ, ◌*◌, ◌≤◌, ◌<◌, ℤ, pos, nat_abs, ◌+ℤ◌, length, get_or}
use Rattle.positions.specs.declared.Line.{Line}
use Rattle.positions.specs.RayLines.{line_at, coordinate_at}

-- both numbers of a line are at most twice those within question 13
pub record Wide (l : Line) : Type 0 where
  pub start_small : nat_abs l.start ≤ 1073741822
  pub slope-small : nat_abs l.slope ≤ 1073741822

-- no number of the line is negative along a stretch
pub record Ahead (l : Line) (coordinates : List ℤ) : Type 0 where
  pub wide : Wide l
  pub few : length coordinates ≤ 512
  pub small : (j : ℕ) → j < length coordinates → nat_abs (coordinate_at coordinates j) ≤ 65536
  pub ahead : (j : ℕ) → j < length coordinates
      → pos (nat_abs (line_at l (coordinate_at coordinates j))) ≡ line_at l (coordinate_at coordinates j)
  pub most : (j : ℕ) → j < length coordinates → nat_abs (line_at l (coordinate_at coordinates j)) ≤ 1073741822

-- the table has the number of each column
pub record Numbers (l : Line) (coordinates : List ℤ) (table : List ℕ) : Type 0 where
  pub entry : (j : ℕ) → j < length coordinates → get_or table j 0 ≡ nat_abs (line_at l (coordinate_at coordinates j))

-- the columns are evenly spaced: 2 from each to the next
pub record Evenly (coordinates : List ℤ) : Type 0 where
  pub even : (i : ℕ) → i < length coordinates
      → coordinate_at coordinates i ≡ coordinate_at coordinates 0 +ℤ pos (2 * i)

-- every entry is 0
abbrev pub Zeros : List ℕ → Type 0
Zeros table = (j : ℕ) → get_or table j 0 ≡ 0
