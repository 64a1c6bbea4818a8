-- `layout_ok` meets its contract: the length, the faces, the turns.
use mathlib.Core.Path.{sym, ◌∙◌, ap, ap₂}
use mathlib.Core.Bool.{◌&&◌}
use borrow.Author.Tests.{eq-eqb, ne_eqb}
use Rattle.checks.proofs.LayoutTests.{faces-tested, turns-tested}
use Rattle.cubemap.proofs.Layouts.{faces_once, turns_few, layout-tests}
use Rattle.checks.proofs.layout_ok.Goals as goal

pub returns-then-layout-ne12 : goal.returns-then-layout-ne12
returns-then-layout-ne12 c =
    let L = c.args.layout.now in
    sym (layout-tests L ∙ ap (λ b. b && faces_once L && turns_few L) (ne_eqb _ _ c.if-layout-ne12.true))

pub returns : goal.returns
returns c =
    let L = c.args.layout.now in
    let n = c.if-layout-ne12.false in
    ap₂ ◌&&◌ (faces-tested L n (rw c.split_at.ensures.front at c.faces_ok.ensures))
    (turns-tested L n (rw c.split_at.ensures.back at c.turns_ok.ensures))
    ∙ sym (layout-tests L ∙ ap (λ b. b && faces_once L && turns_few L) (eq-eqb _ _ n))
