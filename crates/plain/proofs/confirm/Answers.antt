-- `confirm` meets its contract: column by column, what is carried is that of the column, and its entry and that of its
-- row are tried.
use Prim.Native.Nat.{ℕ, ◌+◌, ◌-◌, ◌/◌, ◌%◌, ◌^◌}
use native.Mathlib.Nat.{le_trans}
use native.Mathlib.Omega.{arith}
use lib.ListN.{get_or}
use lib.Dec.{leb, ltb, leb→le, ltb→lt}
use lib.Bits.{bit_and, bit_or, and_le_l, and_le_r}
use Rattle.arithmetic.proofs.Tests.{and_left, and_right, passes}
use Rattle.arithmetic.proofs.Bits.{or_left, or_right}
use Rattle.plain.proofs.Confirmed.{far}
use Rattle.plain.proofs.Carrying.{left_by, Stands, Room, reached-none, reached-next, room, confirmed}
use Rattle.plain.proofs.confirm.Goals.{After-width_from-width, In-loop-i}
use Rattle.plain.proofs.confirm.Goals as goal

module _ (c : After-width_from-width) where
  columns-stand : let s = c.args.stretch in
      Stands s.size s.columns s.distances s.count c.rest_from-column.result c.width_from-width.result
  columns-stand = record {
    walks = c.args.stretch.column_walks;
    rests = c.rest_from-column.ensures;
    widths = c.width_from-width.ensures;
  }

  rows-stand : let s = c.args.stretch in
      Stands s.size s.rows s.distances s.count c.rest_from-row.result c.width_from-width.result
  rows-stand = record {
    walks = c.args.stretch.row_walks;
    rests = c.rest_from-row.ensures;
    widths = c.width_from-width.ensures;
  }

module _ (c : In-loop-i) where
  abbrev o : After-width_from-width
  o = c.before.before

  -- the guesses of the column and of its row, and what they leave
  abbrev guess : ℕ
  guess = get_or o.args.guesses.now c.loop-i.i 0

  abbrev g : ℕ
  g = guess / 2 ^ 15 % 65536

  abbrev h : ℕ
  h = guess / 2 ^ 47 % 65536

  abbrev by : ℕ
  by = c.loop-i.wide % 4294967296

  abbrev r : ℕ
  r = left_by c.loop-i.wide c.loop-i.column_rest g

  abbrev q : ℕ
  q = left_by c.loop-i.wide c.loop-i.row_rest h

  column-room : Room c.loop-i.column_rest c.loop-i.wide g o.rest_from-column.result o.width_from-width.result
  column-room = room (columns-stand o) c.loop-i.invariant.0 c.loop-i-test.true g (omega arith)

  row-room : Room c.loop-i.row_rest c.loop-i.wide h o.rest_from-row.result o.width_from-width.result
  row-room = room (rows-stand o) c.loop-i.invariant.1 c.loop-i-test.true h (omega arith)

pub returns : goal.returns
returns c t =
    let l = c.loop-i in
    let s = c.args.stretch in
    let above = leb→le far l.low (and_left (leb far l.low) (ltb l.high far) (passes t)) in
    let under = ltb→lt l.high far (and_right (leb far l.low) (ltb l.high far) (passes t)) in (
      confirmed s.column_walks l.invariant.0 c.loop-i-test.false above under,
      confirmed s.row_walks l.invariant.1 c.loop-i-test.false above under,
    )

pub loop-i-init : goal.loop-i-init
loop-i-init c =
    let o = (goal.at.loop-i-init c).After-width_from-width in
    (reached-none (columns-stand o) _ _ _, reached-none (rows-stand o) _ _ _)

pub loop-i-preserved : goal.loop-i-preserved
loop-i-preserved c =
    let w = (goal.at.loop-i-preserved c).In-loop-i in
    let low = w.loop-i.low in
    let high = w.loop-i.high in
    let above = bit_and (r w + by w) (q w + by w) in
    let under = bit_or (r w - by w) (q w - by w) in (
      reached-next (columns-stand (o w)) w.loop-i.invariant.0 w.loop-i-test.true (g w) _ _ (omega arith) (omega arith)
          (and_le_l low above) (le_trans (and_le_r low above) (and_le_l (r w + by w) (q w + by w)))
          (or_left high under) (le_trans (or_left (r w - by w) (q w - by w)) (or_right high under)),
      reached-next (rows-stand (o w)) w.loop-i.invariant.1 w.loop-i-test.true (h w) _ _ (omega arith) (omega arith)
          (and_le_l low above) (le_trans (and_le_r low above) (and_le_r (r w + by w) (q w + by w)))
          (or_left high under) (le_trans (or_right (r w - by w) (q w - by w)) (or_right high under)),
    )

pub overflow_add-r : goal.overflow_add-r
overflow_add-r c = let f = column-room (goal.at.overflow_add-r c).In-loop-i in omega arith

pub overflow_add-q : goal.overflow_add-q
overflow_add-q c = let f = row-room (goal.at.overflow_add-q c).In-loop-i in omega arith

pub overflow_add-low : goal.overflow_add-low
overflow_add-low c = let f = column-room (goal.at.overflow_add-low c).In-loop-i in omega arith

pub overflow_add-low-in-loop-i : goal.overflow_add-low-in-loop-i
overflow_add-low-in-loop-i c = let f = row-room (goal.at.overflow_add-low-in-loop-i c).In-loop-i in omega arith

pub overflow_sub-high : goal.overflow_sub-high
overflow_sub-high c = let f = column-room (goal.at.overflow_sub-high c).In-loop-i in omega arith

pub overflow_sub-high-in-loop-i : goal.overflow_sub-high-in-loop-i
overflow_sub-high-in-loop-i c = let f = row-room (goal.at.overflow_sub-high-in-loop-i c).In-loop-i in omega arith

pub overflow_sub-columns : goal.overflow_sub-columns
overflow_sub-columns c = let f = column-room (goal.at.overflow_sub-columns c).In-loop-i in omega arith

pub overflow_sub-rows : goal.overflow_sub-rows
overflow_sub-rows c = let f = row-room (goal.at.overflow_sub-rows c).In-loop-i in omega arith

pub overflow_add-column_rest : goal.overflow_add-column_rest
overflow_add-column_rest c = let f = column-room (goal.at.overflow_add-column_rest c).In-loop-i in omega arith

pub overflow_sub-column_rest : goal.overflow_sub-column_rest
overflow_sub-column_rest c = let f = column-room (goal.at.overflow_sub-column_rest c).In-loop-i in omega arith

pub overflow_add-row_rest : goal.overflow_add-row_rest
overflow_add-row_rest c = let f = row-room (goal.at.overflow_add-row_rest c).In-loop-i in omega arith

pub overflow_sub-row_rest : goal.overflow_sub-row_rest
overflow_sub-row_rest c = let f = row-room (goal.at.overflow_sub-row_rest c).In-loop-i in omega arith
