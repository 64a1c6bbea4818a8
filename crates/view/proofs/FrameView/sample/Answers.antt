-- `sample` meets its contract: the index of a place is that of a sample of luma, whatever is behind it.
use mathlib.Core.List.{List}
use mathlib.Core.Path.{◌≡◌, ◌∙◌, ap}
use Prim.Native.Nat.{ℕ, ◌*◌, ◌≤◌}
use native.Mathlib.Omega.{arith}
use lib.ListN.{length}
use Rattle.cubemap.specs.declared.Shape.{Shape}
use Rattle.cubemap.specs.Frames.{samples_in, bytes_in, plane_samples, sample_at}
use Rattle.frame.proofs.LumaSamples.{luma-length, luma-sample}
use Rattle.view.proofs.FrameView.sample.Goals as goal

-- luma is within the bytes of a frame
long : (shape : Shape) (bytes : List ℕ) → length bytes ≡ bytes_in shape → 2 * plane_samples shape.size ≤ length bytes
unfolding samples_in bytes_in
long shape bytes e = omega arith

pub luma-luma-requires : goal.luma-luma-requires
luma-luma-requires c = (c.requires.0.size-most, long c.args.self.shape c.args.self.bytes.now c.requires.0.whole)

pub sample-requires : goal.sample-requires
sample-requires c =
    let plane = c.args.self.bytes.now in
    omega (
      arith,
      c.index.ensures.1,
      ap length c.luma-luma.ensures ∙ luma-length c.args.self.shape.size plane
          (long c.args.self.shape plane c.requires.0.whole),
    )

pub returns : goal.returns
returns c =
    let i = c.index in
    let plane = c.args.self.bytes.now in
    c.sample.ensures.0
    ∙ ap (λ luma. sample_at luma i.result) c.luma-luma.ensures
    ∙ luma-sample c.args.self.shape.size plane i.result i.ensures.1
    ∙ ap (sample_at plane) i.ensures.0
