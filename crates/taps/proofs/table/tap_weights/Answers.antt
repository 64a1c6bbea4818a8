-- `tap_weights` meets its contract: the test over the whole table passes.
use Rattle.arithmetic.specs.Searches.{all_below}
use Rattle.arithmetic.proofs.Tables.{all_pairs}
use Rattle.cubemap.specs.Samplers.{tap_weight}
use Rattle.taps.proofs.WeightTable.{table_is}
use Rattle.taps.proofs.table.tap_weights.Goals as goal

pub returns : goal.returns
unfolding all_below all_pairs tap_weight
returns c = table_is _ tt
