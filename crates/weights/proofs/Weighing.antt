-- The table of a row's weights: what its entries are at most, their sum, and that the opposite row has the same.
use mathlib.Core.Path.{◌≡◌, sym, ◌∙◌, ap}
use mathlib.Core.List.{List}
use Prim.Native.Nat.{ℕ, suc, ◌+◌, ◌-◌, ◌<◌}
use native.Mathlib.Omega.{arith}
use lib.ListN.{get_or}
use Rattle.arithmetic.specs.Sums.{sum_below, both_terms}
use Rattle.arithmetic.proofs.Sums.{sum-cong, both-cong}
use Rattle.cubemap.specs.declared.Format.{Format}
use Rattle.cubemap.specs.Score.{weight}
use Rattle.cubemap.proofs.Weights.{weight-symmetric, mirror-row}
use Rattle.weights.specs.RowWeights.{Weighed}

module _ {format : Format} {A n : ℕ} {weights : List ℕ} (w : Weighed format A n weights) where
  pub row-weights : sum_below (λ m. get_or weights m 0) A ≡ sum_below (λ m. weight format A m n) A
  row-weights = sum-cong A (λ m. get_or weights m 0) (λ m. weight format A m n) w.entry

  -- the opposite row has the same weights
  weighed-mirror : n < A → Weighed format A (A - suc n) weights
  weighed-mirror h = record { entry = λ m l. w.entry m l ∙ sym (mirror-row (weight-symmetric format A) m n h) }

  -- so what holds of every row with this table holds of both
  pub both-rows : {f g : ℕ → ℕ} (j : ℕ) → ((i : ℕ) → Weighed format A i weights → f i ≡ g i) → n + suc j ≡ A
      → both_terms f n j ≡ both_terms g n (A - suc n)
  both-rows {f} {g} j same e =
      ap (both_terms f n) (omega (arith, e))
      ∙ both-cong f g n (A - suc n) (same n w) (same (A - suc n) (weighed-mirror (omega (arith, e))))
