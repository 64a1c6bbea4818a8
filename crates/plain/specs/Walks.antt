-- A stretch of evenly spaced columns, whose numbers change by the same amount from each column to the next: each is a
-- line over the column's number.
use Rattle.std.specs.Prelude.{◌≡◌, List, ℕ, ◌+◌, ◌*◌, ◌≤◌, ◌<◌, ℤ, pos, nat_abs, ◌+ℤ◌, ◌-ℤ◌, ◌*ℤ◌, get_or}
use Rattle.cubemap.specs.declared.Format.{Format}
use Rattle.cubemap.specs.RayToPlace.{position64}
use Rattle.positions.specs.declared.Line.{Line}
use Rattle.positions.specs.RayLines.{line_at}
use Rattle.plain.specs.declared.Carried.{Carried}

-- the number at column i of the stretch, and its size
abbrev pub walk_at : Line → ℕ → ℤ
walk_at w i = line_at w (pos i)

abbrev pub size_at : Line → ℕ → ℕ
size_at w i = nat_abs (walk_at w i)

abbrev pub walk : ℤ → ℤ → Line
walk start slope = record { start = start; slope = slope }

-- a walk's start is not negative, and its slope is no more than two such numbers lie apart
pub record WalkInRange (start slope : ℤ) : Type 0 where
  pub start_small : nat_abs start ≤ 1073741822
  pub start-ahead : pos (nat_abs start) ≡ start
  pub slope-small : nat_abs slope ≤ 2147483644

-- no number of a walk is negative at its first `count` columns
pub record Forward (w : Line) (count : ℕ) : Type 0 where
  pub in-range : WalkInRange w.start w.slope
  pub ahead : (i : ℕ) → i < count → pos (size_at w i) ≡ walk_at w i

-- the sums x + d and the distances d of `count` columns: no ratio x / d exceeds 1, and each distance is within question
-- 13
pub record Walks (A : ℕ) (sum distance : Line) (count : ℕ) : Type 0 where
  pub size-most : A ≤ 512
  pub count-least : 0 < count
  pub count_most : count ≤ 512
  pub sums : Forward sum count
  pub distances : Forward distance count
  pub positive : (i : ℕ) → i < count → 0 < size_at distance i
  pub bounded : (i : ℕ) → i < count → size_at distance i ≤ 536870911
  pub ratio : (i : ℕ) → i < count → size_at sum i ≤ 2 * size_at distance i

-- 2^62 − 1 less the numerator of T + 32, 64·A·(x + d) + d
abbrev pub rest_at : ℕ → Line → Line → ℕ → ℤ
rest_at A sum distance i = pos 4611686018427387903 -ℤ (pos (64 * A) *ℤ walk_at sum i +ℤ walk_at distance i)

-- 2^40 more than its denominator, 2·d
abbrev pub width_at : Line → ℕ → ℤ
width_at distance i = pos 1099511627776 +ℤ pos 2 *ℤ walk_at distance i

-- a number is carried from column to column: it begins with that of the first, and what it rises by less what it falls
-- by leads to that of the next
pub record Carries (most : ℕ) (number : ℕ → ℤ) (c : Carried) : Type 0 where
  pub first : pos c.at ≡ number 0
  pub next : (i : ℕ) → number i +ℤ (pos c.up -ℤ pos c.down) ≡ number (i + 1)
  pub few : (c.up ≤ most) × (c.down ≤ most)

-- the table begins with T + 32 in CMP of each column
pub record Plain (A : ℕ) (sum distance : Line) (count : ℕ) (table : List ℕ) : Type 0 where
  pub entry : (i : ℕ) → i < count
      → position64 Format.Cmp A (walk_at sum i -ℤ walk_at distance i) (size_at distance i)
      ≡ pos (get_or table i 0) -ℤ pos 32
