-- `strides_of` meets its contract: the slot of the face, and its quarter turns, give the index.
use mathlib.Core.Path.{sym, ◌∙◌, ap, ap₂, subst}
use Prim.Native.Nat.{◌<◌}
use native.Mathlib.Omega.{arith}
use Rattle.cubemap.specs.Frames.{layout_bytes, quarter_turns_in, spot, quarter_turns, index_in_slot}
use Rattle.cubemap.proofs.Layouts.{layout-holds}
use Rattle.cubemap.proofs.Indices.{index_is}
use Rattle.strides.proofs.StrideIndices.{strides-cong}
use Rattle.strides.proofs.strides_of.Goals as goal

pub returns : goal.returns
returns c =
    let size = c.args.size in
    let L = layout_bytes c.args.layout in
    let slot_is = c.in-Some.ensures.0 in
    strides-cong (λ m n p q.
    ap₂ (λ k t. index_in_slot size k (quarter_turns size t (spot m n)))
    slot_is (c.turns_in.ensures ∙ ap (quarter_turns_in L) slot_is)
    ∙ index_is size L c.args.face m n)
    c.strides_in_slot.ensures

pub strides_in_slot-requires : goal.strides_in_slot-requires
strides_in_slot-requires c =
    let r = c.requires in
    let holds = layout-holds (layout_bytes c.args.layout) r.2 in
    let slot = c.in-Some.ensures.1 in
    (r.0, r.1, slot, subst (λ t. t < 4) (sym c.turns_in.ensures) (holds.turns-below _ slot))

-- each face stands in a slot
pub unreachable-requires : goal.unreachable-requires
unreachable-requires c =
    let r = c.requires in
    let holds = layout-holds (layout_bytes c.args.layout) r.2 in
    absurd (omega (arith, c.in-None.ensures, holds.slot-below _ r.3))
