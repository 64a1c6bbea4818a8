-- The error sum by strides that are aligned with those of the first frame is the one by the layouts: on some faces
-- columns and rows are exchanged in both frames, and on some the columns are in the other order.
use mathlib.Core.Path.{◌≡◌, ◌∙◌}
use mathlib.Core.List.{List}
use Prim.Native.Nat.{ℕ}
use Rattle.cubemap.specs.declared.Format.{Format}
use Rattle.cubemap.specs.Frames.{sample_at_place}
use Rattle.cubemap.specs.Score.{error_sum}
use Rattle.cubemap.proofs.Layouts.{LayoutHolds}
use Rattle.cubemap.proofs.Scores.{error-cong}
use Rattle.cubemap.proofs.Alignment.{error-aligned}
use Rattle.frame.specs.LumaPlane.{luma_of}
use Rattle.strides.specs.declared.Strides.{Strides}
use Rattle.strides.specs.FaceStrides.{LeadsTo, Aligned, sample_by}
use Rattle.strides.proofs.StrideIndices.{sample-by-layout}
use Rattle.strides.proofs.Aligning.{keeps_rows, keeps_order, sample-aligned}

module _ (format : Format) (A : ℕ) (L M first second : List ℕ) (f t x y : List Strides) where
  pub aligned-errors : LeadsTo A L f → LeadsTo A M t → Aligned A f f x → Aligned A f t y → LayoutHolds L → LayoutHolds M
      → error_sum format A (sample_by (luma_of A first) x) (sample_by (luma_of A second) y)
      ≡ error_sum format A (sample_at_place first A L) (sample_at_place second A M)
  aligned-errors p q u v h k =
      error-aligned format A (keeps_rows f) (keeps_order f)
      (sample_by (luma_of A first) f) (sample_by (luma_of A second) t)
      (sample_by (luma_of A first) x) (sample_by (luma_of A second) y)
      (sample-aligned A f f x u (luma_of A first)) (sample-aligned A f t y v (luma_of A second))
      ∙ error-cong format A (sample_at_place first A L) (sample_at_place second A M)
      (sample_by (luma_of A first) f) (sample_by (luma_of A second) t)
      (sample-by-layout A L f p h first) (sample-by-layout A M t q k second)
