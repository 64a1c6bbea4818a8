-- `convert` meets its contract: the frame whose samples are searched is whole, and the codes stand for what was named.
use Rattle.std.proofs.Common.{arith}
use Rattle.std.proofs.lemmas.Grind.{common_steps}
use Rattle.checks.proofs.Chain.{readable, yes}
use Rattle.conversion.proofs.convert.Goals as goal

pub samples_within-requires : goal.samples_within-requires
samples_within-requires c = grind (arith, common_steps, readable)

pub convert_frame-requires-clause-kinds : goal.convert_frame-requires-clause-kinds
convert_frame-requires-clause-kinds c =
    ((yes _ _ _ c.in_ok-source_format.ensures).1, (yes _ _ _ c.in_ok-target_format.ensures).1, (yes _ _ _ c.in_ok-sampler.ensures).1)
