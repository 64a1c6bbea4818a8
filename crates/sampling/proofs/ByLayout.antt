-- A sampler's value by strides, in luma of a frame, is the paper's value by the layout that they lead to.
use mathlib.Core.Path.{◌≡◌}
use mathlib.Core.List.{List}
use Prim.Native.Nat.{ℕ, ◌≤◌}
use Rattle.cubemap.specs.declared.Located.{Located}
use Rattle.cubemap.specs.declared.Sampler.{Sampler}
use Rattle.cubemap.specs.Frames.{sample_at_place}
use Rattle.cubemap.specs.Samplers.{sample_from}
use Rattle.cubemap.proofs.Layouts.{LayoutHolds}
use Rattle.cubemap.proofs.Locate.{OnFace}
use Rattle.cubemap.proofs.Samplers.{tapped_place, tapped_place-ok, value-cong}
use Rattle.frame.specs.LumaPlane.{luma_of}
use Rattle.strides.specs.declared.Strides.{Strides}
use Rattle.strides.specs.FaceStrides.{LeadsTo, sample_by}
use Rattle.strides.proofs.StrideIndices.{sample-by-layout}

pub value-by-layout : (c : Sampler) (A D : ℕ) (L : List ℕ) (table : List Strides) (bytes : List ℕ) (p : Located)
    → LeadsTo A L table
    → LayoutHolds L → 1 ≤ A → OnFace A p
    → sample_from c A D (sample_by (luma_of A bytes) table) p ≡ sample_from c A D (sample_at_place bytes A L) p
value-by-layout c A D L table bytes p t o h g = value-cong c A D (sample_by (luma_of A bytes) table)
    (sample_at_place bytes A L) p
    (λ i j k l. sample-by-layout A L table t o bytes (tapped_place c A p i j) (tapped_place-ok c A p i j h g))
