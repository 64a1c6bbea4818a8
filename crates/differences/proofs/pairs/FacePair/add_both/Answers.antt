-- `add_both` meets its contract: where a row is added, the sums still have room for its mirror.
use native.Mathlib.Omega.{arith}
use Rattle.differences.proofs.Squares.{pair-small}
use Rattle.differences.proofs.pairs.FacePair.add_both.Goals as goal

pub add_row-requires-then-runs_along-2 : goal.add_row-requires-then-runs_along-2
add_row-requires-then-runs_along-2 c = (
  c.requires.within.1,
  record {
    most = λ m h. omega (
      arith,
      c.add_row-then-runs_along.ensures.entry m h,
      c.requires.room.most m h,
      pair-small c.args.self c.args.row m c.requires.within.0 h,
    );
  },
)
