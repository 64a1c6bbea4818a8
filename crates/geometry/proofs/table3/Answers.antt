-- The last row: of the faces 0 to 5, none but 5 is left.
use mathlib.Core.Path.{◌≡◌}
use borrow.Author.Rules.{rules}
use Rattle.cubemap.specs.PlaceToRay.{table3}
use Rattle.geometry.proofs.table3.Goals as goal

pub returns-in_default : goal.returns-in_default
unfolding table3
returns-in_default c = let e : c.args.face ≡ 5 = search rules in rw e (search rules)
