-- `cubic_stretch` meets its contract: at each turn the values up to a position at the rim are stored.
use Prim.Native.Nat.{◌-◌}
use lib.ListN.{length}
use Rattle.cubemap.specs.declared.Sampler.{Sampler}
use Rattle.cubic.specs.Stretches.{value_in}
use Rattle.cubic.proofs.Storing.{FirstStored}
use Rattle.cubic.proofs.cubic_stretch.Given as goal

abbrev pub invariant-loop-j : goal.invariant-loop-j
invariant-loop-j l = FirstStored (value_in Sampler.Cubic l.stretch) (length l.stretch.columns.now) l.j l.target

abbrev pub decreases-loop-j : goal.decreases-loop-j
decreases-loop-j l = length l.stretch.columns.now - l.j
