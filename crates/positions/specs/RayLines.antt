-- Positions along a row: the numbers of its rays change evenly with the coordinate of the column.
use Rattle.std.specs.Prelude.{◌≡◌, List, ℕ, ◌≤◌, ◌<◌, ℤ, pos, nat_abs, ◌+ℤ◌, ◌-ℤ◌, ◌*ℤ◌, length, get_or}
use Rattle.cubemap.specs.declared.Format.{Format}
use Rattle.cubemap.specs.RayToPlace.{position64}
use Rattle.positions.specs.declared.Line.{Line}
use Rattle.positions.specs.Ratios.{Ratio}

-- the number where the coordinate is a
abbrev pub line_at : Line → ℤ → ℤ
line_at l a = l.start +ℤ a *ℤ l.slope

-- the sum of two lines
abbrev pub sum_line : Line → Line → Line
sum_line a b = record { start = a.start +ℤ b.start; slope = a.slope +ℤ b.slope }

-- both numbers of a line are within question 13
pub record LineInRange (l : Line) : Type 0 where
  pub start_small : nat_abs l.start ≤ 536870911
  pub slope-small : nat_abs l.slope ≤ 536870911

-- the coordinate of column j
abbrev pub coordinate_at : List ℤ → ℕ → ℤ
coordinate_at coordinates j = get_or coordinates j (pos 0)

-- a stretch, a part of a row, by the coordinates of its columns, and one number of its rays: along it the rays stay on
-- one face, so that `distance` is not negative, and `line` is no larger
pub record Stretch (A : ℕ) (line distance : Line) (coordinates : List ℤ) : Type 0 where
  pub size-most : A ≤ 512
  pub few : length coordinates ≤ 512
  pub line_ok : LineInRange line
  pub distance-ok : LineInRange distance
  pub small : (j : ℕ) → j < length coordinates → nat_abs (coordinate_at coordinates j) ≤ 65536
  pub ahead : (j : ℕ) → j < length coordinates
      → pos (nat_abs (line_at distance (coordinate_at coordinates j))) ≡ line_at distance (coordinate_at coordinates j)
  pub ratio : (j : ℕ) → j < length coordinates
      → Ratio A (line_at line (coordinate_at coordinates j)) (nat_abs (line_at distance (coordinate_at coordinates j)))

-- T of a column of a stretch
abbrev pub position_at : Format → ℕ → Line → Line → List ℤ → ℕ → ℤ
position_at format A line distance coordinates j =
    position64
    format
    A
    (line_at line (coordinate_at coordinates j))
    (nat_abs (line_at distance (coordinate_at coordinates j)))

-- the table begins with T + 32 of each column of a stretch, which is never negative. Nothing is said of the entries
-- after these.
pub record Positioned (format : Format) (A : ℕ) (line distance : Line) (coordinates : List ℤ) (table : List ℕ)
    : Type 0 where
  pub entry : (j : ℕ) → j < length coordinates
      → position_at format A line distance coordinates j ≡ pos (get_or table j 0) -ℤ pos 32
