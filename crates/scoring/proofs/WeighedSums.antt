-- The squares of a row, summed before they are weighed: what the table of the row's weights makes of them.
use mathlib.Core.Path.{◌≡◌, sym, ◌∙◌, ap}
use mathlib.Core.List.{List}
use Prim.Native.Nat.{ℕ, ◌*◌}
use lib.ListN.{get_or}
use Rattle.arithmetic.specs.Sums.{sum_below, both_terms}
use Rattle.arithmetic.proofs.Sums.{sum-cong, sum-scale, sum-swap, both-scale, sum_both}
use Rattle.cubemap.specs.declared.Format.{Format}
use Rattle.cubemap.specs.Score.{weight}
use Rattle.cubemap.proofs.Scores.{row_errors}
use Rattle.strides.specs.declared.Strides.{Strides}
use Rattle.strides.specs.FaceStrides.{strides_in, sample_by}
use Rattle.weights.specs.RowWeights.{Weighed}
use Rattle.differences.specs.RowSquares.{face_squares, faces_squares, Squares}

-- the squares of two rows
pub weighed-squares : (A : ℕ) (weights sums : List ℕ) (squares : ℕ → ℕ → ℕ) (i j : ℕ)
    → Squares A (λ m. both_terms (λ n. squares n m) i j) sums
    → sum_below (λ m. get_or weights m 0 * get_or sums m 0) A
    ≡ both_terms (λ n. sum_below (λ m. get_or weights m 0 * squares n m) A) i j
weighed-squares A weights sums squares i j q =
    sum-cong A (λ m. get_or weights m 0 * get_or sums m 0) (λ m. both_terms (λ n. get_or weights m 0 * squares n m) i j)
    (λ m h. ap (λ x. get_or weights m 0 * x) (q.entry m h) ∙ both-scale (get_or weights m 0) (λ n. squares n m) i j)
    ∙ sum_both A (λ n m. get_or weights m 0 * squares n m) i j

-- by the row's own weights they are its errors
pub row-errors : {format : Format} {A n : ℕ} {weights : List ℕ} → Weighed format A n weights
    → (first : List ℕ) (s : List Strides) (second : List ℕ) (t : List Strides)
    → sum_below (λ m. get_or weights m 0 * faces_squares first s second t n m) A
    ≡ row_errors format A (sample_by first s) (sample_by second t) n
row-errors {format} {A} {n} {weights} w first s second t =
    sum-cong A (λ m. get_or weights m 0 * squares m) (λ m. sum_below (λ f. weight format A m n * square f m) 6)
    (λ m h. ap (λ W. W * squares m) (w.entry m h) ∙ sym (sum-scale 6 (weight format A m n) (λ f. square f m)))
    ∙ sum-swap A 6 (λ m f. weight format A m n * square f m)
  where
    square : ℕ → ℕ → ℕ
    square f m = face_squares first (strides_in s f) second (strides_in t f) n m

    squares : ℕ → ℕ
    squares m = faces_squares first s second t n m
