-- `copy_indexed` meets its contract: after each index the samples up to it are stored.
use lib.ListN.{length, get_or}
use Rattle.cubemap.specs.Frames.{sample_at}
use Rattle.cubic.proofs.Storing.{FirstStored}
use Rattle.sampling.proofs.nearest.copy_indexed.Given as goal

abbrev pub invariant-loop-j : goal.invariant-loop-j
invariant-loop-j l = FirstStored (λ i. sample_at l.plane (get_or l.indices i 0)) (length l.indices) l.j l.target
