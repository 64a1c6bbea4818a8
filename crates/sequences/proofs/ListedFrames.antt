-- Frames that pass the questions that are their own: the source of an accepted conversion does, and so does the frame that the model moves.
use mathlib.Core.Path.{◌≡◌, subst}
use mathlib.Core.Bool.{Bool, ◌&&◌}
use Prim.Native.Nat.{ℕ, ◌^◌, ◌<◌}
use lib.Dec.{T}
use lib.ListN.{length}
use Rattle.arithmetic.proofs.Tests.{and_left, and_right, and_both, All4, and4, all4}
use Rattle.cubemap.specs.declared.Place.{Place}
use Rattle.cubemap.specs.Frames.{Frame, IsPlace, frame_sample}
use Rattle.cubemap.specs.Rotations.{sum_of_squares}
use Rattle.cubemap.specs.Checks.{ConvertSettings, size_ok, depth_ok, code_ok, layout_ok, length_ok, samples_ok}
use Rattle.cubemap.proofs.Passed.{size-range, ConvertPassed}
use Rattle.cubemap.proofs.Layouts.{LayoutHolds, layout-holds}
use Rattle.cubemap.proofs.Framed.{sample-plane_of, place-below, depth-fits, plane_of-length, plane_of-samples}
use Rattle.cubemap.proofs.CubeRotations.{CubeMatrix}
use Rattle.sequences.specs.Steps.{led_to}
use Rattle.sequences.specs.Model.{moved_frame}
use Rattle.sequences.specs.Runs.{OwnCubeTurn}
use Rattle.sequences.specs.Demand3.{frame_ok}
use Rattle.sequences.proofs.Steps.{cube-matched}

pub record FrameHolds (F : Frame) : Type 0 where
  pub size : T (size_ok F.shape.size)
  pub depth : T (depth_ok F.shape.depth)
  pub format : T (code_ok F.shape.format)
  pub layout-ok : T (layout_ok F.layout)
  pub length-ok : T (length_ok F.shape (length F.bytes))
  pub samples : T (samples_ok F.shape F.bytes)

module _ (F : Frame) where
  abbrev size : Bool
  size = size_ok F.shape.size

  abbrev depth : Bool
  depth = depth_ok F.shape.depth

  abbrev format : Bool
  format = code_ok F.shape.format

  abbrev layout : Bool
  layout = layout_ok F.layout

  abbrev long : Bool
  long = length_ok F.shape (length F.bytes)

  abbrev samples : Bool
  samples = samples_ok F.shape F.bytes

  pub frame-ok : FrameHolds F → T (frame_ok F)
  unfolding frame_ok
  frame-ok g = and_both (size && depth && format && layout && long) samples
      (and_both (size && depth && format && layout) long (all4 size depth format layout g.size g.depth g.format g.layout-ok) g.length-ok)
      g.samples

  pub frame-holds : T (frame_ok F) → FrameHolds F
  unfolding frame_ok
  frame-holds t = record {
    size = q.first;
    depth = q.second;
    format = q.third;
    layout-ok = q.fourth;
    length-ok = and_right (size && depth && format && layout) long front;
    samples = and_right (size && depth && format && layout && long) samples t;
  }
    where
      front : T (size && depth && format && layout && long)
      front = and_left (size && depth && format && layout && long) samples t

      q : All4 size depth format layout
      q = and4 size depth format layout (and_left (size && depth && format && layout) long front)

-- the source of an accepted conversion that names the frame's own shape and layout
pub source-holds : (F : Frame) (s : ConvertSettings) (m : ℕ) → OwnCubeTurn F s → ConvertPassed s (length F.bytes) m F.bytes → FrameHolds F
source-holds F s m o p = record {
  size = subst (λ z. T (size_ok z.size)) o.own-shape p.source-size;
  depth = subst (λ z. T (depth_ok z.depth)) o.own-shape p.depth;
  format = subst (λ z. T (code_ok z.format)) o.own-shape p.source-format;
  layout-ok = subst (λ L. T (layout_ok L)) o.own-layout p.source-layout;
  length-ok = subst (λ z. T (length_ok z (length F.bytes))) o.own-shape p.source-length;
  samples = subst (λ z. T (samples_ok z F.bytes)) o.own-shape p.samples;
}

-- ---- the frame that the model moves

module _ (F : Frame) (s : ConvertSettings) (g : FrameHolds F) (h : 0 < sum_of_squares s.rotation) (w : CubeMatrix s.rotation)
    (o : T (layout_ok s.target_layout)) where
  abbrev target : LayoutHolds s.target_layout
  target = layout-holds s.target_layout o

  -- the old frame's sample where the step leads
  abbrev moved : Place → ℕ
  moved P = frame_sample F (led_to F.shape s.rotation P)

  within : (P : Place) → IsPlace F.shape.size P → moved P < 2 ^ F.shape.depth
  within P p = place-below F.shape F.layout F.bytes (led_to F.shape s.rotation P) (layout-holds F.layout g.layout-ok) g.samples
      ((cube-matched F.shape (size-range F.shape.size g.size).at_most s.rotation h w).leads P p).is-place

  pub moved-sample : (P : Place) → IsPlace F.shape.size P → frame_sample (moved_frame F s) P ≡ frame_sample F (led_to F.shape s.rotation P)
  unfolding moved_frame
  moved-sample P p = sample-plane_of F.shape.size s.target_layout target moved P
      (λ Q q. depth-fits F.shape.depth (moved Q) g.depth (within Q q)) p

  pub moved_holds : FrameHolds (moved_frame F s)
  unfolding moved_frame
  moved_holds = record {
    size = g.size;
    depth = g.depth;
    format = g.format;
    layout-ok = o;
    length-ok = plane_of-length F.shape s.target_layout moved;
    samples = plane_of-samples F.shape s.target_layout moved target g.depth within;
  }
