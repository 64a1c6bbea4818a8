-- `first_tap` meets its contract: the quotient is one more than T divided by 64 and rounded down.
use mathlib.Core.Path.{sym, ◌∙◌}
use Prim.Native.Nat.{◌+◌, ◌/◌}
use native.Mathlib.Omega.{arith}
use lib.IntN.{pos}
use Rattle.arithmetic.proofs.Narrow.{Narrow, read_small, narrow-nat, sub}
use Rattle.cubic.proofs.PositionTables.{tap-by-quotient}
use Rattle.cubic.proofs.values.first_tap.Goals.{Start}
use Rattle.cubic.proofs.values.first_tap.Goals as goal

quotient : (c : Start) → Narrow ((c.args.n + 32) / 64) (pos ((c.args.n + 32) / 64)) 513
quotient c = narrow-nat (omega (arith, c.requires)) tt

two : Narrow 2 (pos 2) 2
two = narrow-nat (omega arith) tt

pub returns : goal.returns
returns c =
    let read = sub (quotient c) two tt in
    (read.is ∙ sym (tap-by-quotient c.args.n), read_small read)
