-- The squared differences of two planes, row by row, and their sums for each column.
use Rattle.std.specs.Prelude.{◌≡◌, List, ℕ, ◌+◌, ◌*◌, ◌≤◌, ◌<◌, length, get_or}
use Rattle.arithmetic.specs.Sums.{sum_below}
use Rattle.cubemap.specs.Frames.{sample_at}
use Rattle.cubemap.specs.Score.{squared_difference}
use Rattle.strides.specs.declared.Strides.{Strides}
use Rattle.strides.specs.FaceStrides.{strides_in, sample_on_face}

-- the bytes of a row of samples, from one end to the other, each within the greatest depth
pub record ShallowRow (A : ℕ) (row : List ℕ) : Type 0 where
  pub long : 2 * A ≤ length row
  pub within : (m : ℕ) → m < A → sample_at row m < 4096

-- ---- the square at column m

-- of row n of a face, and the sum of those of all six
abbrev pub face_squares : List ℕ → Strides → List ℕ → Strides → ℕ → ℕ → ℕ
face_squares first s second t n m = squared_difference (sample_on_face first s m n) (sample_on_face second t m n)

abbrev pub faces_squares : List ℕ → List Strides → List ℕ → List Strides → ℕ → ℕ → ℕ
faces_squares first s second t n m = sum_below (λ f. face_squares first (strides_in s f) second (strides_in t f) n m) 6

-- ---- the sums of the columns

-- a table with a sum of at most B for each column
pub record SumsTo (A B : ℕ) (squares : List ℕ) : Type 0 where
  pub most : (m : ℕ) → m < A → get_or squares m 0 ≤ B

-- each sum can take two more squares: it stays within 32 bits
abbrev pub Room : ℕ → List ℕ → Type 0
Room A squares = SumsTo A 2147483648 squares

-- to the sum of each column m is added `more m`
pub record Added (A : ℕ) (more : ℕ → ℕ) (before after : List ℕ) : Type 0 where
  pub entry : (m : ℕ) → m < A → get_or after m 0 ≡ get_or before m 0 + more m

-- the sum of each column m is `sum m`: twelve squares at most, each at most 4095²
pub record Squares (A : ℕ) (sum : ℕ → ℕ) (squares : List ℕ) : Type 0 where
  pub entry : (m : ℕ) → m < A → get_or squares m 0 ≡ sum m
  pub most : (m : ℕ) → m < A → get_or squares m 0 ≤ 201228300
