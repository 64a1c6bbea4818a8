-- `add_row` meets its contract: each way has it.
use mathlib.Core.Path.{◌≡◌, ◌∙◌, ap, ap₂}
use mathlib.Core.List.{List}
use Prim.Native.Nat.{ℕ, ◌-◌, ◌<◌}
use native.Mathlib.Omega.{arith}
use borrow.Author.Rules.{rules}
use Rattle.cubemap.specs.Frames.{sample_at}
use Rattle.cubemap.specs.Score.{squared_difference}
use Rattle.strides.specs.declared.Strides.{Strides}
use Rattle.strides.specs.FaceStrides.{mirrored, sample_on_face}
use Rattle.strides.proofs.Aligning.{mirrored-sample}
use Rattle.differences.proofs.Adding.{added-by}
use Rattle.differences.proofs.pairs.FacePair.add_row.Goals as goal

pub returns-in-1 : goal.returns-in-1
returns-in-1 c = added-by c.add_columns.ensures (λ m v h p.
    let x = c.unbroken_row-first in
    let y = c.unbroken_row-ahead in
    let is : v ≡ squared_difference (sample_at x.result.bytes.now m) (sample_at y.result.bytes.now m) = search rules in
    is ∙ ap₂ squared_difference (x.ensures.1.sample m h) (y.ensures.1.sample m (omega arith)))

-- back: in the row that runs ahead the column is counted from the other end
opposite : {A B : ℕ} (plane : List ℕ) (s : Strides) (m n : ℕ) → A ≡ B → m < A
    → sample_on_face plane (mirrored B s) (A - 1 - m) n ≡ sample_on_face plane s m n
opposite {A} {B} plane s m n e h =
    mirrored-sample B s plane (A - 1 - m) n (omega arith) ∙ ap (λ k. sample_on_face plane s k n) (omega arith)

pub returns-in-minus1 : goal.returns-in-minus1
returns-in-minus1 c = added-by c.add_columns-in-minus1.ensures (λ m v h p.
    let x = c.unbroken_row-first in
    let y = c.unbroken_row-back in
    let A = c.args.self.first.face.size in
    let second = c.args.self.second.face in
    let is : v ≡ squared_difference (sample_at x.result.bytes.now m) (sample_at y.result.bytes.now (A - 1 - m)) =
    search rules in
    is ∙ ap₂ squared_difference (x.ensures.1.sample m h)
    (y.ensures.1.sample (A - 1 - m) (omega arith)
    ∙ ap₂ (λ bytes (s : Strides). sample_on_face bytes s (A - 1 - m) c.args.row)
    (ap (λ bytes. bytes.now) c.mirrored.ensures.1) c.mirrored.ensures.2
    ∙ opposite second.bytes.now second.strides m c.args.row c.args.self.one_size h))

pub returns-in_default : goal.returns-in_default
returns-in_default c = added-by c.add_columns-in_default.ensures (λ m v h p.
    let x = c.unbroken_row-first in
    let second = c.args.self.second.face in
    let y = sample_on_face second.bytes.now second.strides m c.args.row in
    let is : v ≡ squared_difference (sample_at x.result.bytes.now m) y = search rules in
    is ∙ ap (λ k. squared_difference k y) (x.ensures.1.sample m h))
