-- `phase_of` meets its contract: what is left of T is 0 to 63.
use mathlib.Core.Path.{sym}
use native.Mathlib.Omega.{arith}
use Rattle.cubic.proofs.PositionTables.{phase-by-rest}
use Rattle.cubic.proofs.values.phase_of.Goals as goal

pub returns : goal.returns
returns c = (sym (phase-by-rest c.args.n), omega arith)
