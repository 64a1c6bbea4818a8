-- `slot_of` meets its contract: no slot before this one holds the face.
use mathlib.Core.Path.{sym, ◌∙◌}
use native.Mathlib.Omega.{arith}
use borrow.Author.Tests.{eq-eqb}
use Rattle.arithmetic.proofs.Searches.{lowest-here, lowest-none}
use Rattle.cubemap.proofs.Layouts.{slot-search}
use Rattle.frame.proofs.slot_of.Goals as goal

pub returns-then-face_in-face : goal.returns-then-face_in-face
returns-then-face_in-face c =
    let h = eq-eqb _ _ (sym c.face_in.ensures ∙ c.if-face_in-face.true) in
    (sym (slot-search _ _ ∙ lowest-here c.loop-slot.invariant (omega arith) h), omega arith)

pub returns : goal.returns
returns c = slot-search _ _ ∙ lowest-none c.loop-slot.invariant (omega arith)
