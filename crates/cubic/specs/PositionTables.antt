-- Positions of a face in tables, one of columns and one of rows, and tables of what is found at each.
use Rattle.std.specs.Prelude.{◌≡◌, List, ℕ, ◌+◌, ◌*◌, ◌≤◌, ◌<◌, ℤ, pos, ◌-ℤ◌, length, get_or}

-- the position T that a number of a table stands for: T is at least −32, so T + 32 is a natural number
abbrev pub position_of : ℕ → ℤ
position_of n = pos n -ℤ pos 32

abbrev pub position_in : List ℕ → ℕ → ℤ
position_in table j = position_of (get_or table j 0)

-- how far a position may reach, as such a number, on a face of size A: the column or row nearest to it is at most A
abbrev pub Reached : ℕ → ℕ → Type 0
Reached A n = n < 64 * A + 64

-- positions on a face of size A, one column and one row each
pub record Positions (A : ℕ) (columns rows : List ℕ) : Type 0 where
  pub column-ok : (j : ℕ) → j < length columns → Reached A (get_or columns j 0)
  pub row_ok : (j : ℕ) → j < length columns → Reached A (get_or rows j 0)
  pub same_count : length rows ≡ length columns
  pub few : length columns ≤ 512

-- a table of what f gives for the first n columns and rows
pub record Filled (f : ℕ → ℕ → ℕ) (columns rows : List ℕ) (n : ℕ) (table : List ℕ) : Type 0 where
  pub bounded : n ≤ length columns
  pub whole : length table ≡ 512
  pub entry-is : (j : ℕ) → j < n → get_or table j 0 ≡ f (get_or columns j 0) (get_or rows j 0)
