-- Luma of a frame: its length, and its samples, which are those of the frame whatever is behind them.
use mathlib.Core.Path.{◌≡◌, ap₂}
use mathlib.Core.List.{List}
use Prim.Native.Nat.{ℕ, ◌+◌, ◌*◌, ◌≤◌, ◌<◌}
use native.Mathlib.Omega.{arith}
use lib.ListN.{length}
use lib.Seq.{length-take-le, get_or-take}
use Rattle.cubemap.specs.declared.Place.{Place}
use Rattle.cubemap.specs.Frames.{IsPlace, plane_samples, index, sample_at, sample_at_place}
use Rattle.cubemap.proofs.Layouts.{LayoutHolds}
use Rattle.cubemap.proofs.Indices.{index_ok}
use Rattle.frame.specs.LumaPlane.{luma_of}

module _ (A : ℕ) (bytes : List ℕ) where
  pub luma-length : 2 * plane_samples A ≤ length bytes → length (luma_of A bytes) ≡ 2 * plane_samples A
  luma-length h = length-take-le (2 * plane_samples A) bytes h

  pub luma-sample : (i : ℕ) → i < plane_samples A → sample_at (luma_of A bytes) i ≡ sample_at bytes i
  luma-sample i h = ap₂ (λ a b. a + 256 * b)
      (get_or-take (2 * plane_samples A) bytes (2 * i) 0 (omega arith))
      (get_or-take (2 * plane_samples A) bytes (2 * i + 1) 0 (omega arith))

  pub luma-place : (L : List ℕ) → LayoutHolds L → (P : Place) → IsPlace A P
      → sample_at_place (luma_of A bytes) A L P ≡ sample_at_place bytes A L P
  luma-place L o P p = luma-sample (index A L P) (index_ok A L o P p)
