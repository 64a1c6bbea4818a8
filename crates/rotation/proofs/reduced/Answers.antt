-- `reduced` meets its contract: no number's size grows where they are divided.
use mathlib.Core.Path.{sym, subst}
use Rattle.cubemap.proofs.Ranges.{Within}
use Rattle.cubemap.proofs.Reduction.{divided-within}
use Rattle.rotation.proofs.reduced.Goals as goal

pub sign_normalized-requires : goal.sign_normalized-requires
sign_normalized-requires c = subst (Within 3844) (sym c.divided.ensures) (divided-within 3844 c.args.t c.requires)
