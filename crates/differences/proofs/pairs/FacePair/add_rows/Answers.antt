-- `add_rows` meets its contract: each sum takes both squares of its column.
use mathlib.Core.Path.{◌≡◌, ◌∙◌, ap₂}
use Prim.Native.Nat.{◌+◌}
use borrow.Author.Rules.{rules}
use Rattle.cubemap.specs.Frames.{sample_at}
use Rattle.cubemap.specs.Score.{squared_difference}
use Rattle.strides.specs.FaceStrides.{sample_on_face}
use Rattle.differences.proofs.Adding.{added-by}
use Rattle.differences.proofs.pairs.FacePair.add_rows.Goals as goal

pub returns : goal.returns
returns c = added-by c.add_columns.ensures (λ m v h p.
    let x = c.unbroken_row-first in
    let z = c.unbroken_row-first_mirror in
    let second = c.args.self.second.face in
    let y = sample_on_face second.bytes.now second.strides m c.args.row in
    let w = sample_on_face second.bytes.now second.strides m c.args.mirror in
    let is : v
    ≡ squared_difference (sample_at x.result.bytes.now m) y + squared_difference (sample_at z.result.bytes.now m) w =
    search rules in
    is ∙ ap₂ (λ x z. squared_difference x y + squared_difference z w) (x.ensures.1.sample m h) (z.ensures.1.sample m h))
