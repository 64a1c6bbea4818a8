-- `compose` meets its contract: the product, which is small enough to be reduced, and its reduction.
use mathlib.Core.Path.{sym, ◌∙◌, ap, subst}
use Rattle.cubemap.specs.Rotations.{reduced}
use Rattle.cubemap.proofs.Ranges.{Within}
use Rattle.cubemap.proofs.Rotations.{product-within}
use Rattle.cubemap.proofs.Reduction.{compose-reduced}
use Rattle.rotation.proofs.compose.Goals as goal

pub reduced-requires : goal.reduced-requires
reduced-requires c =
    subst (Within 3844) (sym c.product.ensures) (product-within c.args.first c.args.later c.requires.0 c.requires.1)

pub returns : goal.returns
returns c = c.reduced.ensures ∙ ap (λ t. reduced t) c.product.ensures ∙ sym (compose-reduced c.args.first c.args.later)
