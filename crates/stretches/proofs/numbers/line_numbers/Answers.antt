-- `line_numbers` meets its contract: column by column.
use mathlib.Core.Path.{◌≡◌, sym, ◌∙◌, ap₂, subst₂}
use Prim.Native.Nat.{◌≤◌}
use native.Mathlib.Omega.{arith}
use lib.IntN.{ℤ, pos, nat_abs}
use mir.Syntax.{w32, w64}
use mir.Val.{to_z, of_z}
use Rattle.arithmetic.proofs.Filling.{entries_next}
use Rattle.arithmetic.proofs.Held.{held}
use Rattle.arithmetic.proofs.Narrow.{narrow}
use Rattle.positions.specs.declared.Line.{Line}
use Rattle.positions.specs.RayLines.{line_at, coordinate_at}
use Rattle.stretches.specs.Numbers.{Wide}
use Rattle.stretches.proofs.numbers.line_numbers.Goals.{In-loop-j}
use Rattle.stretches.proofs.numbers.line_numbers.Goals as goal

-- the line as 32 bits hold it
abbrev narrowed : Line → Line
narrowed l = record {
  start = to_z w32 (of_z w32 (to_z w64 (of_z w64 l.start)));
  slope = to_z w32 (of_z w32 (to_z w64 (of_z w64 l.slope)));
}

narrowed-is : (l : Line) → Wide l → narrowed l ≡ l
narrowed-is l w i = record {
  start = (narrow l.start w.start_small tt).is i;
  slope = (narrow l.slope w.slope-small tt).is i;
}

module _ (c : In-loop-j) where
  abbrev a : ℤ
  a = coordinate_at c.args.coordinates.now c.loop-j.j

  a-is : to_z w64 (of_z w64 a) ≡ a
  a-is = (held a (c.requires.0.small c.loop-j.j c.loop-j-test.true) tt).is

pub number_at-requires-clause-slope_value : goal.number_at-requires-clause-slope_value
number_at-requires-clause-slope_value c =
    let i = (goal.at.number_at-requires-clause-slope_value c).In-loop-j in
    let p = i.requires.0 in
    let j = i.loop-j.j in
    subst₂ (λ l a. (pos (nat_abs (line_at l a)) ≡ line_at l a) × (nat_abs (line_at l a) ≤ 1073741822))
    (sym (narrowed-is i.args.line p.wide)) (sym (a-is i)) (p.ahead j i.loop-j-test.true, p.most j i.loop-j-test.true)

pub loop-j-preserved : goal.loop-j-preserved
loop-j-preserved c k h =
    let i = (goal.at.loop-j-preserved c).In-loop-j in
    let line = i.args.line in
    entries_next {from = 0} i.loop-j.numbers c.number_at.result 0
    (λ k n. n ≡ nat_abs (line_at line (coordinate_at i.args.coordinates.now k)))
    (omega (arith, i.requires.1, i.loop-j-test.true))
    (λ k _ h. i.loop-j.invariant k h)
    (c.number_at.ensures ∙ ap₂ (λ l a. nat_abs (line_at l a)) (narrowed-is line i.requires.0.wide) (a-is i)) k
    (omega arith) h
