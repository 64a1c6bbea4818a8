-- `at` meets its contract: the four entries of the phase.
use Rattle.taps.proofs.WeightTable.{weights-read, balanced-read}
use Rattle.taps.proofs.weights.Weights.at.Goals as goal

pub invariant_of-result : goal.invariant_of-result
invariant_of-result c = record { balanced = balanced-read _ c.tap_weights.ensures c.args.phase c.requires }

pub returns : goal.returns
returns c = weights-read _ c.tap_weights.ensures c.args.phase c.requires
