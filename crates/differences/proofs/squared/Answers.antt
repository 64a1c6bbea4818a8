-- `squared` meets its contract: the square of the difference, which fits 32 bits.
use mathlib.Core.Path.{◌≡◌, sym, ◌∙◌, ap₂, subst}
use Prim.Native.Nat.{◌*◌, ◌≤◌}
use borrow.Author.Rules.{rules}
use Rattle.cubemap.specs.Score.{difference}
use Rattle.cubemap.proofs.Scores.{squared-is}
use Rattle.differences.proofs.Squares.{squared-small}
use Rattle.differences.proofs.squared.Goals as goal

pub returns : goal.returns
returns c =
    let d : c.unsigned_abs-d.result ≡ difference c.args.x c.args.y = search rules in
    let is = ap₂ ◌*◌ d d ∙ sym (squared-is c.args.x c.args.y) in
    (is, subst (λ n. n ≤ 16769025) (sym is) (squared-small c.args.x c.args.y c.requires.0 c.requires.1))
