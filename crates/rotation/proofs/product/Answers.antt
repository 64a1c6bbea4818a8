-- The numbers of the second and the third axis: those of the first one, with the axes moved round.
use mathlib.Core.Path.{◌≡◌, sym, ◌∙◌, ap, ap₂, subst₂}
use lib.Dec.{T}
use borrow.Author.Rules.{rules}
use mir.Syntax.{w64}
use mir.Facts.{to_z-of_z}
use Rattle.cubemap.specs.declared.Rotation.{Rotation}
use Rattle.cubemap.specs.Rotations.{product}
use Rattle.cubemap.specs.Checks.{rotation_in_range}
use Rattle.cubemap.proofs.Rotations.{next_axis, rotation-eq, product-axes, next-in-range}
use Rattle.rotation.proofs.product.Goals as goal

abbrev BothInRange : Rotation → Rotation → Type 0
BothInRange a b = T (rotation_in_range a) × T (rotation_in_range b)

next-both : {a b u w : Rotation} → u ≡ next_axis a → w ≡ next_axis b → BothInRange a b → BothInRange u w
next-both {a} {b} e f p = subst₂ BothInRange (sym e) (sym f) (next-in-range a p.0, next-in-range b p.1)

pub product_e1-requires-2 : goal.product_e1-requires-2
product_e1-requires-2 c = next-both c.next_axis-a2.ensures c.next_axis-b2.ensures c.requires

pub product_e1-requires-3 : goal.product_e1-requires-3
product_e1-requires-3 c =
    next-both c.next_axis-a3.ensures c.next_axis-b3.ensures (next-both c.next_axis-a2.ensures c.next_axis-b2.ensures c.requires)

pub returns : goal.returns
returns c =
    let a2 = c.next_axis-a2.ensures in
    let b2 = c.next_axis-b2.ensures in
    let a3 = c.next_axis-a3.ensures ∙ ap (λ t. next_axis t) a2 in
    let b3 = c.next_axis-b3.ensures ∙ ap (λ t. next_axis t) b2 in
    rotation-eq
    (to_z-of_z {w = w64} {z = c.product_e0.result} (search rules) ∙ c.product_e0.ensures)
    (to_z-of_z {w = w64} {z = c.product_e1.result} (search rules) ∙ c.product_e1.ensures)
    (to_z-of_z {w = w64} {z = c.product_e1-2.result} (search rules) ∙ c.product_e1-2.ensures ∙ ap₂ (λ t u. (product t u).e1) a2 b2)
    (to_z-of_z {w = w64} {z = c.product_e1-3.result} (search rules) ∙ c.product_e1-3.ensures ∙ ap₂ (λ t u. (product t u).e1) a3 b3)
    ∙ sym (product-axes c.args.a c.args.b)
