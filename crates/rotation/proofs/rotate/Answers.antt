-- `rotate` meets its contract: X of the rotated ray, and Y and Z as X with the axes moved round.
use mathlib.Core.Path.{◌≡◌, sym, ◌∙◌, ap, ap₂, subst₂}
use lib.Dec.{T}
use borrow.Author.Rules.{rules}
use mir.Syntax.{w64}
use mir.Facts.{to_z-of_z}
use Rattle.cubemap.specs.declared.Ray.{Ray}
use Rattle.cubemap.specs.declared.Rotation.{Rotation}
use Rattle.cubemap.specs.Rotations.{rotated}
use Rattle.cubemap.specs.Checks.{rotation_in_range, ray_in_range}
use Rattle.cubemap.proofs.Rotations.{next_axis, next_axis_ray, ray-eq, rotated-axes, next-in-range, next-ray-in-range}
use Rattle.rotation.proofs.rotate.Goals as goal

abbrev BothInRange : Rotation → Ray → Type 0
BothInRange t v = T (rotation_in_range t) × T (ray_in_range v)

next-both : {t u : Rotation} {v w : Ray} → u ≡ next_axis t → w ≡ next_axis_ray v → BothInRange t v → BothInRange u w
next-both {t = t} {v = v} e f p = subst₂ BothInRange (sym e) (sym f) (next-in-range t p.0, next-ray-in-range v p.1)

pub rotated_x-requires-2 : goal.rotated_x-requires-2
rotated_x-requires-2 c = next-both c.next_axis-t2.ensures c.next_axis_ray-v2.ensures c.requires

pub rotated_x-requires-3 : goal.rotated_x-requires-3
rotated_x-requires-3 c =
    next-both c.next_axis-t3.ensures c.next_axis_ray-v3.ensures (next-both c.next_axis-t2.ensures c.next_axis_ray-v2.ensures c.requires)

pub returns : goal.returns
returns c =
    let t2 = c.next_axis-t2.ensures in
    let v2 = c.next_axis_ray-v2.ensures in
    let t3 = c.next_axis-t3.ensures ∙ ap (λ t. next_axis t) t2 in
    let v3 = c.next_axis_ray-v3.ensures ∙ ap (λ v. next_axis_ray v) v2 in
    ray-eq
    (to_z-of_z {w = w64} {z = c.rotated_x.result} (search rules) ∙ c.rotated_x.ensures)
    (to_z-of_z {w = w64} {z = c.rotated_x-2.result} (search rules) ∙ c.rotated_x-2.ensures ∙ ap₂ (λ t v. (rotated t v).x) t2 v2)
    (to_z-of_z {w = w64} {z = c.rotated_x-3.result} (search rules) ∙ c.rotated_x-3.ensures ∙ ap₂ (λ t v. (rotated t v).x) t3 v3)
    ∙ sym (rotated-axes c.args.t c.args.v)
