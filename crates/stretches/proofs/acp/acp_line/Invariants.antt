-- `acp_line` meets its contract: part by part.
use Prim.Native.Nat.{◌*◌}
use Rattle.stretches.proofs.Parts.{PartsDone}
use Rattle.stretches.proofs.acp.acp_line.Given as goal

abbrev pub invariant-loop-k : goal.invariant-loop-k
invariant-loop-k l =
    let s = l.stretch in
    PartsDone s.size s.line s.distance s.coordinates.now (64 * l.k) l.table
