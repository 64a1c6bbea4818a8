-- `face_coordinates` meets its contract: after m columns the entries below m are there.
use mathlib.Core.Path.{◌≡◌, ◌∙◌}
use native.Mathlib.Omega.{arith}
use lib.IntN.{pos}
use lib.ListN.{length-set}
use mir.Syntax.{w64}
use mir.Facts.{to_z-of_z}
use borrow.Author.Rules.{rules}
use Rattle.arithmetic.proofs.Filling.{entries_next}
use Rattle.cubemap.specs.PlaceToRay.{face_coordinate}
use Rattle.geometry.proofs.face_coordinates.Goals as goal

pub loop-m-preserved : goal.loop-m-preserved
loop-m-preserved c = (
  length-set c.loop-m.coordinates c.loop-m.m _ ∙ c.loop-m.invariant.0,
  λ j. entries_next {from = 0} c.loop-m.coordinates _ (pos 0) (λ j z. z ≡ face_coordinate c.args.format c.args.size j) (omega arith)
      (λ j h. c.loop-m.invariant.1 j) (to_z-of_z {w = w64} {z = c.face_coordinate.result} (search rules) ∙ c.face_coordinate.ensures) j (omega arith),
)
