-- `scored_luma` meets its contract: the plane that the questions have seen.
use mathlib.Core.Path.{sym, subst}
use Prim.Native.Nat.{◌*◌, ◌≤◌}
use native.Mathlib.Omega.{arith}
use lib.ListN.{length}
use Rattle.cubemap.specs.Frames.{plane_samples}
use Rattle.cubemap.proofs.Framed.{plane-bytes}
use Rattle.cubemap.proofs.Passed.{size-range}
use Rattle.frame.proofs.LumaSamples.{luma-length}
use Rattle.strides.specs.FaceStrides.{Shallow, StridedPlane}
use Rattle.strides.proofs.StrideIndices.{shallow-luma}
use Rattle.scoring.proofs.scored_luma.Goals.{Start}
use Rattle.scoring.proofs.scored_luma.Goals as goal

long : (s : Start) → let F = s.args.frame in 2 * plane_samples F.shape.size ≤ length F.bytes.now
long s = let F = s.args.frame in omega (arith, plane-bytes F.shape (length F.bytes.now) s.requires.0.whole)

pub luma-requires : goal.luma-requires
luma-requires c = ((size-range _ c.requires.0.size).at_most, long (goal.at.luma-requires c).Start)

pub invariant_of-result : goal.invariant_of-result
invariant_of-result c =
    let A = c.args.frame.shape.size in
    let size = size-range A c.requires.0.size in
    record {
      strided = subst (λ plane. StridedPlane A plane c.args.strides.now) (sym c.luma.ensures) (record {
        size-least = size.at_least;
        size-most = size.at_most;
        whole = luma-length A c.args.frame.bytes.now (long (goal.at.invariant_of-result c).Start);
        leads = c.requires.1;
      });
    }

pub invariant_of-result-2 : goal.invariant_of-result-2
invariant_of-result-2 c =
    let f = c.requires.0 in
    record {
      shallow = subst (Shallow c.args.frame.shape.size) (sym c.luma.ensures)
          (shallow-luma c.args.frame.shape c.args.frame.bytes.now f.depth f.samples);
    }
