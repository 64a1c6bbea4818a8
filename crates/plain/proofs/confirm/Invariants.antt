-- `confirm` meets its contract: column by column, what is carried is that of the column, and its entry and that of its
-- row are tried.
use Rattle.plain.proofs.Carrying.{Reached}
use Rattle.plain.proofs.confirm.Given as goal

abbrev pub invariant-loop-i : goal.invariant-loop-i
invariant-loop-i l =
    let s = l.fn.stretch in
    Reached s.size s.columns s.distances l.columns l.column_rest l.wide l.low l.high l.i
    × Reached s.size s.rows s.distances l.rows l.row_rest l.wide l.low l.high l.i
