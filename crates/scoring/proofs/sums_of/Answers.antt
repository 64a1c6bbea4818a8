-- `sums_of` meets its contract: the strides lead to the samples that the layouts name, on some faces with columns and
-- rows exchanged in both frames, and on some with the columns in the other order.
use mathlib.Core.Path.{sym, ◌∙◌, ap, ap₂, subst}
use mathlib.Core.List.{List}
use Prim.Native.Nat.{ℕ, ◌*◌, ◌≤◌}
use native.Mathlib.Omega.{arith}
use lib.Dec.{T}
use lib.ListN.{length}
use Rattle.cubemap.specs.declared.Shape.{Shape}
use Rattle.cubemap.specs.declared.Sums.{Sums}
use Rattle.cubemap.specs.Frames.{plane_samples, sample_at_place, layout_bytes}
use Rattle.cubemap.specs.Checks.{length_ok}
use Rattle.cubemap.specs.Score.{error_sum, weight_sum}
use Rattle.cubemap.proofs.Framed.{plane-bytes}
use Rattle.cubemap.proofs.Layouts.{layout-holds}
use Rattle.cubemap.proofs.Passed.{Between, size-range}
use Rattle.frame.specs.LumaPlane.{luma_of}
use Rattle.strides.specs.FaceStrides.{StridedPlane, StrideTable, sample_by}
use Rattle.strides.proofs.StrideIndices.{strided-luma}
use Rattle.view.specs.Views.{frame_of}
use Rattle.strides.proofs.Aligning.{aligned-plane}
use Rattle.scoring.specs.Comparing.{Scorable, sample_in}
use Rattle.scoring.proofs.AlignedSums.{aligned-errors}
use Rattle.scoring.proofs.sums_of.Goals.{After-face_strides-second_table}
use Rattle.scoring.proofs.sums_of.Goals as goal

pub face_strides-first_table-requires : goal.face_strides-first_table-requires
face_strides-first_table-requires c =
    let size : Between 1 512 c.args.first.shape.size = size-range _ c.requires.0.passed.size in
    (size.at_least, size.at_most, c.requires.0.passed.first-layout)

pub face_strides-second_table-requires : goal.face_strides-second_table-requires
face_strides-second_table-requires c =
    let size : Between 1 512 c.args.first.shape.size = size-range _ c.requires.0.passed.size in
    (size.at_least, size.at_most, c.requires.0.passed.second-layout)

-- luma of both frames by their own tables
long : (z : Shape) (bytes : List ℕ) → T (length_ok z (length bytes)) → 2 * plane_samples z.size ≤ length bytes
long z bytes n = omega (arith, plane-bytes z (length bytes) n)

module _ (d : After-face_strides-second_table) where
  abbrev A : ℕ
  A = d.args.first.shape.size

  first-plane : StridedPlane A (luma_of A d.args.first.bytes.now) d.face_strides-first_table.result
  first-plane =
      let size = size-range A d.requires.0.passed.size in
      strided-luma A (layout_bytes d.args.first.layout) d.face_strides-first_table.result
      d.face_strides-first_table.ensures d.args.first.bytes.now
      size.at_least size.at_most (long d.args.first.shape _ d.requires.0.passed.first-length)

  second-plane : StridedPlane A (luma_of A d.args.second.bytes.now) d.face_strides-second_table.result
  second-plane =
      let size = size-range A d.requires.0.passed.size in
      strided-luma A (layout_bytes d.args.second.layout) d.face_strides-second_table.result
      d.face_strides-second_table.ensures d.args.second.bytes.now
      size.at_least size.at_most (long d.args.first.shape _ d.requires.0.passed.second-length)

pub aligned_strides-first_strides-requires : goal.aligned_strides-first_strides-requires
aligned_strides-first_strides-requires c =
    let p = first-plane (goal.at.aligned_strides-first_strides-requires c).After-face_strides-second_table in
    (p.size-least, p.size-most, p.leads)

pub aligned_strides-second_strides-requires : goal.aligned_strides-second_strides-requires
aligned_strides-second_strides-requires c =
    let p = second-plane (goal.at.aligned_strides-second_strides-requires c).After-face_strides-second_table in
    (p.size-least, p.size-most, p.leads)

pub scored_luma-requires : goal.scored_luma-requires
scored_luma-requires c =
    let d = (goal.at.scored_luma-requires c).After-face_strides-second_table in
    let passed = c.requires.0.passed in
    let f = d.face_strides-first_table.result in (
      record { size = passed.size; depth = passed.depth; whole = passed.first-length; samples = passed.first-samples },
      (aligned-plane (A d) f f _ c.aligned_strides-first_strides.ensures (first-plane d)).leads,
    )

pub scored_luma-requires-2 : goal.scored_luma-requires-2
scored_luma-requires-2 c =
    let d = (goal.at.scored_luma-requires-2 c).After-face_strides-second_table in
    let passed = c.requires.0.passed in
    let one = c.requires.0.one-shape in (
      subst (λ (z : Shape). Scorable (frame_of z c.args.second.layout c.args.second.bytes.now)) one (record {
        size = passed.size;
        depth = passed.depth;
        whole = passed.second-length;
        samples = passed.second-samples;
      }),
      subst (λ (z : Shape). StrideTable z.size c.aligned_strides-second_strides.result) one
          (aligned-plane (A d) d.face_strides-first_table.result d.face_strides-second_table.result _
          c.aligned_strides-second_strides.ensures (second-plane d)).leads,
    )

abbrev sums : ℕ → ℕ → Sums
sums e w = record { errors = e; weights = w }

pub returns : goal.returns
returns c =
    let d = (goal.at.returns c).After-face_strides-second_table in
    let F = c.args.first in
    let G = c.args.second in
    let size = A d in
    let L = layout_bytes F.layout in
    let M = layout_bytes G.layout in
    let x = c.aligned_strides-first_strides in
    let y = c.aligned_strides-second_strides in
    let p = c.scored_luma in
    let q = c.scored_luma-2 in
    let one = c.requires.0.one-shape in
    let passed = c.requires.0.passed in
    let first = sample_by (luma_of size F.bytes.now) x.result in
    ap₂ sums
    (c.score_planes.ensures.errors
    ∙ ap (λ s. error_sum c.args.format s (sample_in p.result) (sample_in q.result)) p.ensures.0
    ∙ ap₂ (λ bytes table. error_sum c.args.format size (sample_by bytes table) (sample_in q.result))
    p.ensures.1 p.ensures.2
    ∙ ap₂ (λ bytes table. error_sum c.args.format size first (sample_by bytes table))
    (q.ensures.1 ∙ ap (λ (z : Shape). luma_of z.size G.bytes.now) (sym one)) q.ensures.2
    ∙ aligned-errors c.args.format size L M F.bytes.now G.bytes.now d.face_strides-first_table.result
    d.face_strides-second_table.result x.result y.result d.face_strides-first_table.ensures
    d.face_strides-second_table.ensures x.ensures y.ensures
    (layout-holds L passed.first-layout) (layout-holds M passed.second-layout)
    ∙ ap₂ (λ format (z : Shape). error_sum format size (sample_at_place F.bytes.now size L)
    (sample_at_place G.bytes.now z.size M)) c.requires.1 one)
    (c.score_planes.ensures.weights ∙ ap₂ weight_sum c.requires.1 p.ensures.0)
