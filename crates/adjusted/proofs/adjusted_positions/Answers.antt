-- `adjusted_positions` meets its contract: wherever the stretch is cut, both parts together are the whole.
use Rattle.adjusted.proofs.Halves.{Halves, left-sums, right-sums, told-both}
use Rattle.adjusted.proofs.adjusted_positions.Goals.{After-split_at_mut-left}
use Rattle.adjusted.proofs.adjusted_positions.Goals as goal

halves : (c : After-split_at_mut-left)
    → Halves c.args.table.now c.args.divisors.distances.now c.split_at_mut-left.result.0.now
    c.split_at_mut-left.result.1.now
    c.part-first.result.distances.now c.part-second.result.distances.now c.cut_of-cut.result
halves c = let s = c.split_at_mut-left.ensures in record {
  inside = c.cut_of-cut.ensures;
  whole = c.requires.2;
  left-length = s.front_len;
  right-length = s.back_len;
  at = s.by_index;
  first-is = c.part-first.ensures.1;
  second-is = c.part-second.ensures.1;
}

pub tell_each-requires-then-below : goal.tell_each-requires-then-below
tell_each-requires-then-below c =
    right-sums (halves (goal.at.tell_each-requires-then-below c).After-split_at_mut-left) c.requires.3

pub tell_each-requires-else-below : goal.tell_each-requires-else-below
tell_each-requires-else-below c =
    left-sums (halves (goal.at.tell_each-requires-else-below c).After-split_at_mut-left) c.requires.3

pub tell_each-requires-else-below-2 : goal.tell_each-requires-else-below-2
tell_each-requires-else-below-2 c =
    right-sums (halves (goal.at.tell_each-requires-else-below-2 c).After-split_at_mut-left) c.requires.3

pub returns-then-below : goal.returns-then-below
returns-then-below c =
    told-both (halves (goal.at.returns-then-below c).After-split_at_mut-left) c.of-b.ensures
    c.tell_each.ensures c.tell_each-then-below.ensures

pub returns-else-below : goal.returns-else-below
returns-else-below c =
    told-both (halves (goal.at.returns-else-below c).After-split_at_mut-left) c.of-b.ensures
    c.tell_each-else-below.ensures c.tell_each-else-below-2.ensures
