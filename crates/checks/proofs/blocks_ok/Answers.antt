-- `blocks_ok` meets its contract: each sample of the blocks before this one is within the depth.
use mathlib.Core.Path.{◌≡◌, sym, ◌∙◌, subst}
use Prim.Native.Nat.{◌+◌, ◌*◌}
use native.Mathlib.Omega.{arith}
use lib.Dec.{T}
use Rattle.arithmetic.specs.Searches.{all_below}
use Rattle.arithmetic.proofs.Tests.{passes}
use Rattle.arithmetic.proofs.Searches.{all_of, all-parts}
use Rattle.cubemap.specs.Checks.{sample_ok}
use Rattle.cubemap.proofs.Framed.{bytes-number}
use Rattle.checks.proofs.blocks_ok.Goals as goal

pub loop-block-init : goal.loop-block-init
loop-block-init c = all_of _ 0 (λ i h. absurd (omega arith))

pub loop-block-preserved : goal.loop-block-preserved
loop-block-preserved c =
    let test = sample_ok c.args.shape c.args.bytes.now in
    let start = c.loop-block.block * 1024 in
    let next : start + 1024 ≡ (c.loop-block.block + 1) * 1024 = omega arith in
    subst (λ n. T (all_below test n)) next
    (all-parts test start 1024 c.loop-block.invariant (passes (sym c.part_ok.ensures ∙ c.if-not-part_ok.false)))

pub part_ok-requires : goal.part_ok-requires
part_ok-requires c = (c.requires.depth-ok, omega (arith, bytes-number c.args.shape, c.samples_in-whole.ensures.0))
