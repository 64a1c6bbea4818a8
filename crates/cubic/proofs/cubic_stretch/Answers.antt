-- `cubic_stretch` meets its contract: at each turn the values up to a position at the rim are stored.
use Rattle.cubic.proofs.Along.{stored-in}
use Rattle.cubic.proofs.Storing.{first-none, first_next, first_run}
use Rattle.cubic.proofs.cubic_stretch.Goals as goal

pub loop-j-init : goal.loop-j-init
loop-j-init c = first_run (first-none c.requires) (stored-in c.along_rows-along.ensures c.inside_from-j.ensures)

pub loop-j-preserved : goal.loop-j-preserved
loop-j-preserved c =
    first_run
    (first_next c.loop-j.invariant c.loop-j-test.true c.value_by_places-rim.ensures.0 c.put_sample.ensures)
    (stored-in c.along_rows-along.ensures c.inside_from-j-in-loop-j.ensures)
