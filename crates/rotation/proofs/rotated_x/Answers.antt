-- `rotated_x` meets its contract: the first row of the matrix, applied to the ray.
use mathlib.Core.Path.{sym, ◌∙◌, ap}
use borrow.Author.Rules.{rules}
use mir.Syntax.{w64}
use mir.Facts.{to_z-of_z}
use Rattle.cubemap.specs.Rotations.{dot}
use Rattle.cubemap.proofs.Rotations.{rotated-first}
use Rattle.rotation.proofs.rotated_x.Goals as goal

pub returns : goal.returns
returns c =
    to_z-of_z {w = w64} {z = c.dot.result} (search rules) ∙ c.dot.ensures ∙ ap (λ r. dot r c.args.v) c.row1.ensures.0
    ∙ sym (rotated-first c.args.t c.args.v)
