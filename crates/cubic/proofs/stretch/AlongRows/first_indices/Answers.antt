-- `first_indices` meets its contract: at each position stands what its call gave.
use native.Mathlib.Omega.{arith}
use borrow.Author.Rules.{rules}
use Rattle.cubic.proofs.stretch.AlongRows.first_indices.Goals as goal

pub returns : goal.returns
returns c = record {
  bounded = omega arith;
  whole = search rules;
  entry-is = λ j h. let p = c.store_each.ensures j h in search rules;
}
