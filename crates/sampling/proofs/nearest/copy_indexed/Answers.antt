-- `copy_indexed` meets its contract: after each index the samples up to it are stored.
use Rattle.cubic.proofs.Storing.{first-none, first_next, first-all}
use Rattle.sampling.proofs.nearest.copy_indexed.Goals as goal

pub loop-j-init : goal.loop-j-init
loop-j-init c = first-none c.requires.1

pub loop-j-preserved : goal.loop-j-preserved
loop-j-preserved c = first_next c.loop-j.invariant c.loop-j-test.true c.sample.ensures.0 c.put_sample.ensures

pub returns : goal.returns
returns c = first-all c.loop-j.invariant c.loop-j-test.false
