-- `turn_twice` meets its contract: its two calls are a run, whichever frame the second one reads.
use mathlib.Core.Path.{ap}
use mathlib.Core.Bool.{true, false}
use lib.Dec.{eqb}
use borrow.Author.Tests.{ne_eqb}
use Rattle.sequences.proofs.Twice.{turned-twice}
use Rattle.sequences.proofs.turn_twice.Goals as goal

pub returns-then-first_code-eq0 : goal.returns-then-first_code-eq0
returns-then-first_code-eq0 c =
    turned-twice _ _ _ _ _ _ _ _ (record { first = c.turn-first_code.result; later = c.turn-later_code.result }) _ _ _ _ true
    (ap (λ n. eqb n 0) c.if-first_code-eq0.true) c.turn-first_code.ensures c.turn-later_code.ensures

pub returns-else-first_code-eq0 : goal.returns-else-first_code-eq0
returns-else-first_code-eq0 c =
    turned-twice _ _ _ _ _ _ _ _
    (record { first = c.turn-first_code.result; later = c.turn-later_code-else-first_code-eq0.result }) _ _ _ _ false
    (ne_eqb c.turn-first_code.result 0 c.if-first_code-eq0.false) c.turn-first_code.ensures
    c.turn-later_code-else-first_code-eq0.ensures
