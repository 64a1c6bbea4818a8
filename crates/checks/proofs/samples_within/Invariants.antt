-- `samples_within` meets its contract: no sample before this one is beyond the depth.
use mathlib.Core.Bool.{false, not}
use Rattle.arithmetic.proofs.Searches.{Asked}
use Rattle.cubemap.specs.Frames.{samples_in}
use Rattle.cubemap.specs.Checks.{sample_ok}
use Rattle.checks.proofs.samples_within.Given as goal

abbrev pub invariant-loop-index : goal.invariant-loop-index
invariant-loop-index l = Asked (λ i. not (sample_ok l.fn.shape l.bytes i)) false (samples_in l.fn.shape) l.index
