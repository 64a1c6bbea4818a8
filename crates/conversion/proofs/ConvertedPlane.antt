-- A conversion that has passed its checks: its source is one that the plane converter may read, and what that writes is
-- the frame that the paper names.
use mathlib.Core.Path.{◌≡◌, sym, ◌∙◌}
use mathlib.Core.List.{List}
use Prim.Native.Nat.{ℕ, ◌*◌, ◌≤◌}
use native.Mathlib.Omega.{arith}
use lib.ListN.{length}
use Rattle.cubemap.specs.declared.Format.{Format}
use Rattle.cubemap.specs.declared.Place.{Place}
use Rattle.cubemap.specs.declared.Sampler.{Sampler}
use Rattle.cubemap.specs.Interface.{format_of, sampler_of}
use Rattle.cubemap.specs.Frames.{IsPlace, framed, plane_of, place_at, plane_samples}
use Rattle.cubemap.specs.PlaceToRay.{ray_of}
use Rattle.cubemap.specs.RayToPlace.{locate}
use Rattle.cubemap.specs.Rotations.{rotated}
use Rattle.cubemap.specs.Samplers.{sample_from}
use Rattle.cubemap.specs.Checks.{ConvertSettings}
use Rattle.cubemap.specs.Outcomes.{converted_sample, converted_bytes}
use Rattle.cubemap.proofs.Conversion.{converted-frame, converted-value, source-bytes, rotated-target-ray}
use Rattle.cubemap.proofs.Framed.{plane_of-cong}
use Rattle.cubemap.proofs.Layouts.{layout-holds}
use Rattle.cubemap.proofs.Locate.{locate-on-face}
use Rattle.cubemap.proofs.Passed.{size-range, ConvertPassed}
use Rattle.frame.specs.LumaPlane.{luma_of}
use Rattle.strides.specs.declared.Strides.{Strides}
use Rattle.strides.specs.FaceStrides.{LeadsTo, Shallow, StridedPlane, sample_by}
use Rattle.strides.proofs.StrideIndices.{shallow-luma, strided-luma}
use Rattle.sampling.proofs.ByLayout.{value-by-layout}

-- the source has luma
pub source-long : (s : ConvertSettings) (m : ℕ) (source : List ℕ) → ConvertPassed s (length source) m source
    → 2 * plane_samples s.source_shape.size ≤ length source
source-long s m source passed = omega (arith, source-bytes passed)

module _ (s : ConvertSettings) (m : ℕ) (source : List ℕ) (passed : ConvertPassed s (length source) m source) where
  abbrev A : ℕ
  A = s.source_shape.size

  abbrev luma : List ℕ
  luma = luma_of A source

  pub shallow : Shallow A luma
  shallow = shallow-luma s.source_shape source passed.depth passed.samples

  module _ (strides : List Strides) (leads : LeadsTo A s.source_layout strides) where
    pub strided : StridedPlane A luma strides
    strided = let size = size-range A passed.source-size in
        strided-luma A s.source_layout strides leads source size.at_least size.at_most (source-long s m source passed)

    -- the value by strides where the rotated ray of a place of the target meets the source: the paper's
    abbrev pub value_by : Format → Format → Sampler → Place → ℕ
    value_by from to sampler P =
        sample_from sampler A s.source_shape.depth (sample_by luma strides)
        (locate from A (rotated s.rotation (ray_of to s.target_size P)))

    abbrev value_at : Place → ℕ
    value_at = value_by (format_of s.source_shape.format) (format_of s.target_format) (sampler_of s.sampler)

    value-is : (P : Place) → IsPlace s.target_size P → value_at P ≡ converted_sample s source P
    value-is P p =
        value-by-layout (sampler_of s.sampler) A s.source_shape.depth s.source_layout strides source _ leads
        (layout-holds s.source_layout passed.source-layout) (size-range A passed.source-size).at_least
        (locate-on-face (format_of s.source_shape.format) A _
        (rotated-target-ray s (length source) m source passed P p).nonzero)
        ∙ sym (converted-value s source P)

    pub bytes-are : {from to : Format} {sampler : Sampler} {layout : List ℕ} → from ≡ format_of s.source_shape.format
        → to ≡ format_of s.target_format → sampler ≡ sampler_of s.sampler → layout ≡ s.target_layout
        → framed 2 (λ i. value_by from to sampler (place_at s.target_size layout i)) (plane_samples s.target_size)
        ≡ converted_bytes s source
    bytes-are e d g its =
        (λ k. plane_of s.target_size (its k) (value_by (e k) (d k) (g k)))
        ∙ plane_of-cong s.target_size s.target_layout (layout-holds s.target_layout passed.target-layout) value_at
        (converted_sample s source) value-is
        ∙ sym (converted-frame s source)
