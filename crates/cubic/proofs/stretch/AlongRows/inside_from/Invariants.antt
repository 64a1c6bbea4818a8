-- `inside_from` meets its contract: after each position the values up to it are stored, and every other byte is as it
-- was.
use Rattle.cubic.specs.InsideTaps.{StoredInside}
use Rattle.cubic.proofs.stretch.AlongRows.inside_from.Given as goal

abbrev pub invariant-loop-j : goal.invariant-loop-j
invariant-loop-j l =
    StoredInside l.self.face.size l.self.depth l.self.face.bytes.now l.self.face.strides l.self.columns.now
    l.self.rows.now l.from l.j l.initial.target l.target
