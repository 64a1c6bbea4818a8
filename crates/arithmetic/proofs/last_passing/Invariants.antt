-- `last_passing`: a number that passes below one that does not.
use Rattle.std.proofs.Common.{◌≡◌, true, false, ◌⊎◌, ◌-◌, ◌<◌, ◌≤◌}
use Rattle.arithmetic.proofs.last_passing.Given as goal

abbrev pub invariant-loop-low : goal.invariant-loop-low
invariant-loop-low g l = record {
  order : l.low < l.high;
  most : l.high ≤ l.end;
  passed : (l.low ≡ 0) ⊎ goal.F-post g l.passes l.low true;
  failed : (l.high ≡ l.end) ⊎ goal.F-post g l.passes l.high false;
}

abbrev pub decreases-loop-low : goal.decreases-loop-low
decreases-loop-low g l = l.high - l.low
