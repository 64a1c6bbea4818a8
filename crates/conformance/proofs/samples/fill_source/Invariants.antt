-- `fill_source` meets its contract: each sample that is stored lies in the slice, whose length stays.
use Rattle.std.proofs.Common.{◌≡◌, length}
use Rattle.conformance.proofs.samples.fill_source.Given as goal

abbrev pub invariant-loop-i : goal.invariant-loop-i
invariant-loop-i l = length l.source ≡ length l.initial.source
