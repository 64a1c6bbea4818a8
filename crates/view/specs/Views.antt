-- The paper's frame that a view shows, and which frames have a sample at every place.
use Rattle.std.specs.Prelude.{◌≡◌, List, ℕ, ◌≤◌, T, length}
use Rattle.cubemap.specs.declared.Layout.{Layout}
use Rattle.cubemap.specs.declared.Shape.{Shape}
use Rattle.cubemap.specs.Frames.{Frame, layout_bytes, bytes_in}
use Rattle.cubemap.specs.Checks.{layout_ok}
use Rattle.view.specs.declared.FrameView.{FrameView}

-- the frame of these bytes, with this shape and layout beside them
abbrev pub frame_of : Shape → Layout → List ℕ → Frame
frame_of z l bytes = record { shape = z; layout = layout_bytes l; bytes = bytes }

-- the frame that a view shows
abbrev pub shown : FrameView → Frame
shown v = frame_of v.shape v.layout v.bytes.now

-- a frame that has a sample at every place: a size that a call accepts, a valid layout, and exactly the frame's bytes
pub record Readable (F : Frame) : Type 0 where
  pub size-most : F.shape.size ≤ 512
  pub layout-ok : T (layout_ok F.layout)
  pub whole : length F.bytes ≡ bytes_in F.shape
