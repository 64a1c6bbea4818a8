-- `blocks_ok` meets its contract: each sample of the blocks before this one is within the depth.
use Prim.Native.Nat.{◌*◌}
use lib.Dec.{T}
use Rattle.arithmetic.specs.Searches.{all_below}
use Rattle.cubemap.specs.Checks.{sample_ok}
use Rattle.checks.proofs.blocks_ok.Given as goal

abbrev pub invariant-loop-block : goal.invariant-loop-block
invariant-loop-block l = T (all_below (sample_ok l.fn.shape l.bytes) (l.block * 1024))
