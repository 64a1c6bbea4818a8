-- `convert_frame` meets its contract: what it makes is what the plane converter asks for.
use mathlib.Core.Path.{◌≡◌, sym, ◌∙◌, ap, subst}
use mathlib.Core.List.{List}
use Prim.Native.Nat.{ℕ, ◌*◌, ◌<◌}
use native.Mathlib.Omega.{arith}
use lib.Dec.{T}
use lib.IntN.{ℤ, pos}
use lib.ListN.{length, take}
use lib.Seq.{length-take-le, get_or-take}
use borrow.Author.Rules.{rules}
use borrow.Rule.Slice.PartMut.{put_mid}
use Rattle.cubemap.specs.Frames.{framed, place_at, plane_samples, layout_bytes}
use Rattle.cubemap.specs.PlaceToRay.{face_coordinate, ray_of}
use Rattle.cubemap.specs.RayToPlace.{locate}
use Rattle.cubemap.specs.Rotations.{rotated}
use Rattle.cubemap.specs.Samplers.{sample_from}
use Rattle.cubemap.specs.Checks.{ConvertSettings, layout_ok}
use Rattle.cubemap.specs.Outcomes.{converted_bytes}
use Rattle.cubemap.proofs.Conversion.{target-bytes}
use Rattle.cubemap.proofs.Layouts.{layout-holds}
use Rattle.cubemap.proofs.Passed.{Between, size-range}
use Rattle.frame.proofs.Placing.{put_whole}
use Rattle.strides.specs.FaceStrides.{LeadsTo, Shallow, StridedPlane, sample_by}
use Rattle.positions.specs.RayLines.{coordinate_at}
use Rattle.conversion.specs.Asked.{settings_of}
use Rattle.conversion.proofs.ConvertedPlane.{source-long, shallow, strided, bytes-are}
use Rattle.conversion.proofs.convert_frame.Goals.{After-luma_end-end, After-luma}
use Rattle.conversion.proofs.convert_frame.Goals as goal

-- the source, and the strides that lead to its samples
module _ (u : After-luma) where
  abbrev settings : ConvertSettings
  settings = settings_of u.args.settings

  abbrev source : List ℕ
  source = u.args.source.now

  abbrev m : ℕ
  m = length u.args.target.now

  leads : LeadsTo u.args.settings.source.size u.args.settings.source_layout.now u.face_strides-strides.result
  leads = subst (λ L. LeadsTo u.args.settings.source.size L u.face_strides-strides.result) u.layout_of.ensures
      u.face_strides-strides.ensures

-- the coordinates of a face's columns, and the room in the target
module _ (u : After-luma_end-end) where
  -- the target's face size
  abbrev B : ℕ
  B = u.args.settings.target_size

  size : Between 1 512 B
  size = size-range B u.requires.passed.target-size

  abbrev table : List ℤ
  table = u.face_coordinates-coordinates.result

  whole : length table ≡ 512
  whole = search rules

  columns : length (take B table) ≡ B
  columns = length-take-le B table (omega (arith, size.at_most, whole))

  coordinate : (j : ℕ) → j < B → coordinate_at (take B table) j ≡ face_coordinate u.args.target_format B j
  coordinate j h = get_or-take B table j (pos 0) h ∙ u.face_coordinates-coordinates.ensures j h

  -- luma is the whole target
  end : u.luma_end-end.result ≡ 2 * plane_samples B
  end = u.luma_end-end.ensures.0

  room : length u.args.target.now ≡ 2 * plane_samples B
  room = target-bytes u.requires.passed

pub layout_of-requires : goal.layout_of-requires
layout_of-requires c = (layout-holds _ c.requires.passed.source-layout).twelve_bytes

pub face_strides-strides-requires : goal.face_strides-strides-requires
face_strides-strides-requires c =
    let size : Between 1 512 c.args.settings.source.size = size-range _ c.requires.passed.source-size in (
      size.at_least,
      size.at_most,
      subst (λ L. T (layout_ok L)) (sym c.layout_of.ensures)
          c.requires.passed.source-layout,
    )

pub luma-requires : goal.luma-requires
luma-requires c = (
  (size-range _ c.requires.passed.source-size).at_most,
  source-long (settings_of c.args.settings) (length c.args.target.now) c.args.source.now c.requires.passed,
)

pub invariant_of-plane : goal.invariant_of-plane
invariant_of-plane c =
    let u = (goal.at.invariant_of-plane c).After-luma in
    record {
      strided = subst (λ plane. StridedPlane u.args.settings.source.size plane u.face_strides-strides.result)
          (sym u.luma.ensures) (strided (settings u) (m u) (source u) u.requires.passed u.face_strides-strides.result
          (leads u));
    }

pub invariant_of-read : goal.invariant_of-read
invariant_of-read c =
    let u = (goal.at.invariant_of-read c).After-luma in
    record {
      shallow = subst (Shallow u.args.settings.source.size) (sym u.luma.ensures)
          (shallow (settings u) (m u) (source u) u.requires.passed);
      depth_known = u.requires.passed.depth;
    }

pub layout_of-requires-2 : goal.layout_of-requires-2
layout_of-requires-2 c = (layout-holds _ c.requires.passed.target-layout).twelve_bytes

pub face_coordinates-coordinates-requires : goal.face_coordinates-coordinates-requires
face_coordinates-coordinates-requires c = (size-range _ c.requires.passed.target-size).at_most

pub luma_end-end-requires : goal.luma_end-end-requires
luma_end-end-requires c = (size-range _ c.requires.passed.target-size).at_most

pub slice_bounds-convert_plane-end-2 : goal.slice_bounds-convert_plane-end-2
slice_bounds-convert_plane-end-2 c =
    let u = (goal.at.slice_bounds-convert_plane-end-2 c).After-luma_end-end in
    omega (arith, end u, room u)

pub slice_bounds-convert_plane-end-3 : goal.slice_bounds-convert_plane-end-3
slice_bounds-convert_plane-end-3 c =
    let u = (goal.at.slice_bounds-convert_plane-end-3 c).After-luma_end-end in
    let n = u.luma_end-end.result in
    omega (arith, length-take-le n u.args.target.now (omega (arith, end u, room u)))

pub convert_plane-requires : goal.convert_plane-requires
convert_plane-requires c =
    let u = (goal.at.convert_plane-requires c).After-luma_end-end in
    let passed = u.requires.passed in (
      record {
        size-least = (size u).at_least;
        size-most = (size u).at_most;
        columns = columns u;
        coordinate = coordinate u;
        layout-ok = subst (λ L. T (layout_ok L)) (sym u.layout_of-2.ensures) passed.target-layout;
        rotation-in-range = passed.rotation-in-range;
        rotation-nonzero = passed.rotation-nonzero;
      },
      length-take-le u.luma_end-end.result u.args.target.now (omega (arith, end u, room u)) ∙ end u,
    )

pub returns : goal.returns
returns e =
    let u = (goal.at.returns e).After-luma_end-end in
    let l = (goal.at.returns e).After-luma in
    let a = u.args in
    let s = settings l in
    let strides = l.face_strides-strides.result in
    let kinds = u.requires.kinds in
    ap (put_mid 0 u.luma_end-end.result a.target.now)
    (e.convert_plane.ensures
    ∙ ap (λ luma. framed 2 (λ i. sample_from a.sampler a.settings.source.size a.settings.source.depth
    (sample_by luma strides)
    (locate a.source_format a.settings.source.size (rotated a.settings.rotation
    (ray_of a.target_format (B u) (place_at (B u) (layout_bytes u.layout_of-2.result) i))))) (plane_samples (B u)))
    l.luma.ensures
    ∙ bytes-are s (m l) (source l) u.requires.passed strides (leads l) kinds.0 kinds.1 kinds.2 u.layout_of-2.ensures)
    ∙ put_whole a.target.now (converted_bytes s (source l)) u.luma_end-end.result (room u ∙ sym (end u))
