-- The weights that the code holds.
use Rattle.taps.specs.declared.weights.Weights.{Weights}
use Rattle.taps.specs.TapWeights.{TapWeights, four}

abbrev pub in_order : Weights → TapWeights
in_order w = four w.w0 w.w1 w.w2 w.w3
