-- Sixteen taps inside a face. Where its rows run along the rows of the frame, four taps of a row lie side by side.
use Rattle.std.specs.Prelude.{◌≡◌, Bool, false, ◌&&◌, cond, List, ℕ, ◌+◌, ◌*◌, ◌-◌, ◌^◌, ◌≤◌, ◌<◌, T, ltb, ℤ, pos, negsuc, ◌+ℤ◌, ◌*ℤ◌, length, get_or}
use Rattle.std.specs.Int.Signed.{non_neg}
use Rattle.arithmetic.specs.Integers.{natural, equalℤ}
use Rattle.cubemap.specs.Frames.{sample_at}
use Rattle.cubemap.specs.Samplers.{phase, tap_at, clip, rounded}
use Rattle.frame.specs.Placing.{placed}
use Rattle.strides.specs.declared.Strides.{Strides}
use Rattle.strides.specs.FaceStrides.{index_by, sample_on_face}
use Rattle.taps.specs.TapWeights.{weights_of, grid_sum}
use Rattle.cubic.specs.PositionTables.{position_of}

-- ---- where the taps are

-- the first of four taps at a position
abbrev pub first_tap : ℕ → ℤ
first_tap n = tap_at (position_of n) 0

-- four columns, or rows, from this one on are inside a face of size A
abbrev pub in_face : ℕ → ℤ → Bool
in_face A (pos m) = ltb (m + 3) A
in_face A (negsuc m) = false

-- the sixteen taps at a column and a row are inside it
abbrev pub taps_inside : ℕ → ℕ → ℕ → Bool
taps_inside A x y = in_face A (first_tap x) && in_face A (first_tap y)

-- ---- their indices

-- do the rows of a face run ahead along the rows of the frame?
abbrev pub ahead : Strides → Bool
ahead s = equalℤ s.column (pos 1)

-- of four columns from m on, the one whose sample comes first in a row of the frame
abbrev pub first_of : Strides → ℕ → ℕ
first_of s m = cond (ahead s) m (m + 3)

-- the index of the sample, of the sixteen, that comes first in the first row; 2^32 − 1, which is none, where a tap is
-- beyond the face
abbrev pub first_index : ℕ → Strides → ℕ → ℕ → ℕ
first_index A s x y = cond (taps_inside A x y)
    (natural (index_by s (first_of s (natural (first_tap x))) (natural (first_tap y)))) 4294967295

-- a plane has four rows of four samples side by side, the first from the index z on, each a stride d from the one
-- before, and all below 2^12
pub record RowsIn (plane : List ℕ) (z d : ℤ) : Type 0 where
  pub least : (j : ℕ) → j < 4 → T (non_neg (z +ℤ pos j *ℤ d))
  pub inside : (j : ℕ) → j < 4 → 2 * (natural (z +ℤ pos j *ℤ d) + 3) + 1 < length plane
  pub small : (j i : ℕ) → j < 4 → i < 4 → sample_at plane (natural (z +ℤ pos j *ℤ d) + i) < 4096

-- ---- their value

-- tap i of row j, where all are inside the face
abbrev pub inside_tap : List ℕ → Strides → ℕ → ℕ → ℕ → ℕ → ℕ
inside_tap plane s x y j i = sample_on_face plane s (natural (first_tap x) + i) (natural (first_tap y) + j)

abbrev pub inside_value : List ℕ → Strides → ℕ → ℕ → ℕ → ℕ
inside_value plane s D x y = clip (2 ^ D)
    (rounded (grid_sum (weights_of (phase (position_of y))) (weights_of (phase (position_of x))) (inside_tap plane s x y)))

-- ---- values stored one after the other

-- bytes with the values g of the numbers from `from` up to `to`, each at the index that is its number
pub record Stored (g : ℕ → ℕ) (from to : ℕ) (before after : List ℕ) : Type 0 where
  pub from_on : from ≤ to
  pub fits : 2 * to ≤ length before
  pub holds : after ≡ placed 2 before from (λ j. g (from + j)) (to - from)

-- those of positions whose taps are all inside a face of size A
pub record StoredInside (A D : ℕ) (plane : List ℕ) (s : Strides) (columns rows : List ℕ) (from to : ℕ)
    (before after : List ℕ) : Type 0 where
  pub stored : Stored (λ j. inside_value plane s D (get_or columns j 0) (get_or rows j 0)) from to before after
  pub inside : (j : ℕ) → from ≤ j → j < to → T (taps_inside A (get_or columns j 0) (get_or rows j 0))
