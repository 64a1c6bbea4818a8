-- `digest_of` meets its contract: a remainder is below what it is taken by, so that the next product fits.
use Rattle.std.proofs.Common.{◌<◌}
use Rattle.conformance.proofs.samples.digest_of.Given as goal

abbrev pub invariant-loop-b : goal.invariant-loop-b
invariant-loop-b l = l.h < 4294967291
