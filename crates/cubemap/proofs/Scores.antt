-- A score: its sums row by row, and how large they are. And what it depends on: of each frame what the checks see, and
-- the error sum, which stays where both frames' samples move alike to places of the same weight.
use mathlib.Core.Path.{◌≡◌, refl, ◌∙◌, ap₂}
use mathlib.Core.List.{List}
use Prim.Native.Nat.{ℕ, ◌*◌, ◌^◌, ◌≤◌, ◌<◌}
use native.Mathlib.Nat.{mul-le-mul}
use native.Mathlib.Omega.{arith}
use lib.ListN.{length}
use Rattle.arithmetic.specs.Sums.{sum_below}
use Rattle.arithmetic.proofs.Sizes.{difference-small}
use Rattle.arithmetic.proofs.Sums.{sum-swap, sum_same}
use Rattle.cubemap.specs.declared.Format.{Format}
use Rattle.cubemap.specs.declared.Place.{Place}
use Rattle.cubemap.specs.declared.Shape.{Shape}
use Rattle.cubemap.specs.Frames.{place, IsPlace, plane_samples}
use Rattle.cubemap.specs.Score.{weight, difference, squared_difference, over_places, error_sum, weight_sum}
use Rattle.cubemap.specs.Checks.{score_settings, layout_ok, length_ok, samples_ok, lowest_beyond, score_checks}
use Rattle.cubemap.specs.Outcomes.{score_result}
use Rattle.cubemap.proofs.Results.{errors_of}
use Rattle.cubemap.proofs.Places.{OneToOne, same-places, over-cong, over-step, over-bounded, over-least}
use Rattle.cubemap.proofs.Weights.{Level, weight-symmetric, weight-most, weight-least}

-- ---- one squared difference

pub squared-is : (x y : ℕ) → squared_difference x y ≡ difference x y * difference x y
unfolding squared_difference
squared-is x y = refl

-- ---- the sums, row by row

module _ (format : Format) (A : ℕ) where
  -- of a row on all six faces
  abbrev pub row_errors : (Place → ℕ) → (Place → ℕ) → ℕ → ℕ
  row_errors first second n =
      sum_below (λ f. sum_below (λ m. weight format A m n * squared_difference (first (place f m n)) (second (place f m n))) A) 6

  pub errors-by-rows : (first second : Place → ℕ) → error_sum format A first second ≡ sum_below (row_errors first second) A
  unfolding error_sum over_places
  errors-by-rows first second =
      sum-swap 6 A (λ f n. sum_below (λ m. weight format A m n * squared_difference (first (place f m n)) (second (place f m n))) A)

  -- the six faces have the same weights
  pub weights-by-rows : weight_sum format A ≡ 6 * sum_below (λ n. sum_below (λ m. weight format A m n) A) A
  unfolding weight_sum over_places
  weights-by-rows = sum_same 6 (sum_below (λ n. sum_below (λ m. weight format A m n) A) A)

  -- ---- how large they are: the sum of the weights is never 0, and an error sum fits 61 bits

  pub weight-sum-least : 1 ≤ A → plane_samples A * 12612 ≤ weight_sum format A
  unfolding weight_sum
  weight-sum-least a = over-least A 12612 (λ P. weight format A P.column P.row)
      (λ P p. weight-least format A P.column P.row a p.column-ok p.row_ok)

  pub error-sum-most : (first second : Place → ℕ) → 1 ≤ A → A ≤ 512 → ((P : Place) → IsPlace A P → first P < 4096)
      → ((P : Place) → IsPlace A P → second P < 4096) → error_sum format A first second < 2 ^ 61
  unfolding error_sum squared_difference
  error-sum-most first second a b f g = omega (arith, sum, mul-le-mul b b)
    where
      term : (P : Place) → IsPlace A P → weight format A P.column P.row * squared_difference (first P) (second P) ≤ 65536 * (4095 * 4095)
      term P p =
          let d : difference (first P) (second P) ≤ 4095 =
          difference-small (first P) (second P) 4095 (omega (arith, f P p)) (omega (arith, g P p)) in
          mul-le-mul (weight-most format A P.column P.row a) (mul-le-mul d d)

      sum : error_sum format A first second ≤ plane_samples A * (65536 * (4095 * 4095))
      sum = over-bounded A (65536 * (4095 * 4095)) (λ P. weight format A P.column P.row * squared_difference (first P) (second P)) term

-- ---- the error sum of other frames

module _ (format : Format) (A : ℕ) (to back : Place → Place) (m : OneToOne A to back) (level : (P : Place) → IsPlace A P → Level A P (to P)) where
  -- where each frame has at P what it had at `to P`
  pub error-moved : (first second first' second' : Place → ℕ) → ((P : Place) → IsPlace A P → first' P ≡ first (to P))
      → ((P : Place) → IsPlace A P → second' P ≡ second (to P)) → error_sum format A first' second' ≡ error_sum format A first second
  unfolding error_sum
  error-moved first second first' second' e f =
      over-cong A (term first' second') (λ P. term first second (to P))
      (λ P p. ap₂ ◌*◌ (level P p (weight format A) (weight-symmetric format A)) (ap₂ squared_difference (e P p) (f P p)))
      ∙ over-step A to back m (term first second)
    where
      term : (Place → ℕ) → (Place → ℕ) → Place → ℕ
      term f g P = weight format A P.column P.row * squared_difference (f P) (g P)

-- frames with the same samples at each place
pub error-cong : (format : Format) (A : ℕ) (first second first' second' : Place → ℕ) → ((P : Place) → IsPlace A P → first' P ≡ first P)
    → ((P : Place) → IsPlace A P → second' P ≡ second P) → error_sum format A first' second' ≡ error_sum format A first second
error-cong format A = error-moved format A (λ P. P) (λ Q. Q) (same-places A) (λ P p w s. refl)

-- ---- two scores with the same result

-- the checks see the same of a frame in the layout L with the bytes x, and of one in the layout L' with the bytes x'
pub record SameToChecks (z : Shape) (L L' x x' : List ℕ) : Type 0 where
  pub layout : layout_ok L ≡ layout_ok L'
  pub long : length_ok z (length x) ≡ length_ok z (length x')
  pub samples : samples_ok z x ≡ samples_ok z x'
  pub beyond : lowest_beyond z x ≡ lowest_beyond z x'

pub score-same : {z : Shape} {L L' M M' x x' y y' : List ℕ} → SameToChecks z L L' x x' → SameToChecks z M M' y y'
    → errors_of (score_settings z L M) x y ≡ errors_of (score_settings z L' M') x' y'
    → score_result (score_settings z L M) x y ≡ score_result (score_settings z L' M') x' y'
unfolding score_result score_checks
score-same {z} a b e = rw (a.layout, b.layout, a.long, b.long, a.samples, a.beyond, b.samples, b.beyond, e)
