-- `divide` meets its contract: column by column.
use Rattle.std.proofs.Common.{rules, arith, pos, ◌-ℤ◌, ◌≡◌, to_z-of_z}
use Rattle.arithmetic.proofs.Filling.{entries_next}
use Rattle.positions.specs.RayLines.{position_at}
use Rattle.positions.proofs.stretch.LineStretch.divide.Goals as goal

pub loop-j-preserved : goal.loop-j-preserved
loop-j-preserved c i h =
    let s = c.args.self in
    entries_next {from = 0} c.loop-j.table c.shifted.result 0
    (λ i n. position_at c.args.format s.size s.line s.distance s.coordinates.now i ≡ pos n -ℤ pos 32) (search rules)
    (λ i _ h. c.loop-j.invariant i h) (grind (arith, to_z-of_z)) i (omega arith) h
