-- `inside_from` meets its contract: after each position the values up to it are stored, and every other byte is as it
-- was.
use mathlib.Core.Path.{◌≡◌}
use Prim.Native.Nat.{ℕ}
use native.Mathlib.Omega.{arith}
use lib.ListN.{get_or}
use Rattle.cubic.specs.InsideTaps.{first_index}
use Rattle.cubic.proofs.CubicValues.{inside-none, inside-next}
use Rattle.cubic.proofs.InsideTaps.{has_first}
use Rattle.cubic.proofs.stretch.AlongRows.inside_from.Goals.{Else-first, In-loop-j}
use Rattle.cubic.proofs.stretch.AlongRows.inside_from.Goals as goal

-- the state at the loop, and the entry of the table, where it is not 2^32 − 1

module _ (e : Else-first) where
  abbrev column : ℕ
  column = get_or e.args.self.columns.now e.loop-j.j 0

  abbrev row : ℕ
  row = get_or e.args.self.rows.now e.loop-j.j 0

  entry : get_or e.args.firsts.now e.loop-j.j 0
      ≡ first_index e.args.self.face.size e.args.self.face.strides column row
  entry = e.requires.firsts_filled.entry-is e.loop-j.j (omega arith)

  first-ok : get_or e.args.firsts.now e.loop-j.j 0 ≡ 4294967295 → ⊥
  first-ok = e.if-first.false

pub loop-j-init : goal.loop-j-init
loop-j-init c = inside-none (omega arith)

pub loop-j-preserved : goal.loop-j-preserved
loop-j-preserved c =
    let e = (goal.at.loop-j-preserved c).Else-first in
    let a = c.args in
    inside-next c.loop-j.invariant (omega (arith, c.requires.from_in_bounds.1))
    (has_first a.self.face.size a.self.face.strides (column e) (row e) _ (entry e) (first-ok e))
    c.value_inside-value.ensures.0
    c.put_sample.ensures
