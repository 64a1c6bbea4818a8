-- The last row: of the faces 0 to 5, none but 5 is left.
use mathlib.Core.Path.{◌≡◌}
use borrow.Author.Rules.{rules}
use Rattle.cubemap.specs.RayToPlace.{across, down}
use Rattle.cubemap.specs.Checks.{ray_in_range}
use Rattle.cubemap.proofs.Faces.{toward}
use Rattle.geometry.proofs.table4.Goals as goal

pub returns-in_default : goal.returns-in_default
unfolding across down toward ray_in_range
returns-in_default c = let e : c.args.face ≡ 5 = search rules in rw e (search rules)
