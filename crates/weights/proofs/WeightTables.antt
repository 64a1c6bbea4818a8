-- The table of a row's weights, filled from both ends, with the same weight at opposite columns.
use mathlib.Core.Path.{◌≡◌, sym, ◌∙◌, ap}
use mathlib.Core.List.{List}
use Prim.Native.Nat.{ℕ, suc, ◌+◌, ◌-◌, ◌≤◌, ◌<◌}
use native.Mathlib.Decide.{ℕ_discrete}
use native.Mathlib.Omega.{arith}
use lib.IntN.{nat_abs}
use lib.ListN.{length, get_or, set, length-set}
use lib.Seq.{get_or-set_same, get_or-set_other}
use Rattle.cubemap.specs.declared.Format.{Format}
use Rattle.cubemap.specs.PlaceToRay.{from_centre}
use Rattle.cubemap.specs.Score.{weight}
use Rattle.cubemap.proofs.FaceCoordinates.{from_centre-left}
use Rattle.cubemap.proofs.Weights.{weight-symmetric}
use Rattle.weights.specs.RowWeights.{WeightAt, Weighed}

-- the entries of the first `column` columns and of their opposite ones are there
pub record Filled (format : Format) (A n : ℕ) (weights : List ℕ) (column : ℕ) : Type 0 where
  pub whole : length weights ≡ 512
  pub entry : (m : ℕ) → m < A → (column ≤ m → A ≤ m + column) → get_or weights m 0 ≡ weight format A m n

module _ {format : Format} {A n : ℕ} {weights : List ℕ} {column : ℕ} (f : Filled format A n weights column) where
  -- both ends move on by one column
  pub filled_next : {q W : ℕ} → column + column < A → A ≤ 512 → q ≡ nat_abs (from_centre A n)
      → WeightAt format A (A - 1 - column - column) q W
      → Filled format A n (set (set weights column W) (A - 1 - column) W) (column + 1)
  filled_next {q} {W} h b e w = record {
    whole = length-set (set weights column W) last W ∙ one_set;
    entry = λ m l. go m l (ℕ_discrete m last) (ℕ_discrete m column);
  }
    where
      last : ℕ
      last = A - 1 - column

      one_set : length (set weights column W) ≡ 512
      one_set = length-set weights column W ∙ f.whole

      here : W ≡ weight format A column n
      here = w.place column n (sym (from_centre-left A column (last - column) (omega arith))) e

      there : W ≡ weight format A last n
      there =
          here ∙ sym ((weight-symmetric format A).mirror column n (omega arith))
          ∙ ap (λ m. weight format A m n) mirrored
        where
          mirrored : A - suc column ≡ A - 1 - column
          mirrored = omega arith

      go : (m : ℕ) → m < A → Dec (m ≡ last) → Dec (m ≡ column) → (column + 1 ≤ m → A ≤ m + (column + 1))
          → get_or (set (set weights column W) last W) m 0 ≡ weight format A m n
      go m l (yes d) x s =
          rw d (get_or-set_same (set weights column W) last W 0 (omega (arith, one_set)) ∙ there)
      go m l (no d) (yes x) s =
          get_or-set_other (set weights column W) last m W 0 d
          ∙ rw x (get_or-set_same weights column W 0 (omega (arith, f.whole)) ∙ here)
      go m l (no d) (no x) s =
          get_or-set_other (set weights column W) last m W 0 d ∙ get_or-set_other weights column m W 0 x
          ∙ f.entry m l (λ k. omega (arith, s (omega arith)))

  -- where the ends have met, the whole row is there
  pub filled-all : A ≤ column + column → Weighed format A n weights
  filled-all h = record { entry = λ m l. f.entry m l (λ k. omega arith) }
