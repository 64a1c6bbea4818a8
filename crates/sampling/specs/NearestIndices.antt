-- The nearest samples at the positions of a stretch, by the strides of their face.
use Rattle.std.specs.Prelude.{List, ℕ, ◌+◌, ◌*◌, ◌<◌, ℤ, length, get_or}
use Rattle.arithmetic.specs.Integers.{natural}
use Rattle.cubemap.specs.Samplers.{nearest_column}
use Rattle.strides.specs.declared.Strides.{Strides}
use Rattle.strides.specs.FaceStrides.{index_by, sample_on_face}
use Rattle.cubic.specs.PositionTables.{position_of}

-- the index of the sample at the nearest column and row
abbrev pub nearest_index : ℕ → Strides → ℕ → ℕ → ℕ
nearest_index A s x y = natural (index_by s (nearest_column A (position_of x)) (nearest_column A (position_of y)))

-- the sample there, at a column x and a row y
abbrev pub nearest_on : List ℕ → Strides → ℕ → ℤ → ℤ → ℕ
nearest_on plane s A x y = sample_on_face plane s (nearest_column A x) (nearest_column A y)

-- a plane has samples at the indices in a table
pub record InPlane (plane indices : List ℕ) : Type 0 where
  pub index_ok : (j : ℕ) → j < length indices → 2 * get_or indices j 0 + 1 < length plane
