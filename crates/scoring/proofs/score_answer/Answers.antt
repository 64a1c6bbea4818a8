-- `score_answer` meets its contract: the frames whose samples are searched are whole.
use Rattle.std.proofs.Common.{arith}
use Rattle.std.proofs.lemmas.Grind.{common_steps}
use Rattle.checks.proofs.Chain.{readable}
use Rattle.scoring.proofs.score_answer.Goals as goal

pub samples_within-requires : goal.samples_within-requires
samples_within-requires c = grind (arith, common_steps, readable)

pub samples_within-requires-2 : goal.samples_within-requires-2
samples_within-requires-2 c = grind (arith, common_steps, readable)
