-- `slot_of` meets its contract: no slot before this one holds the face.
use mathlib.Core.Bool.{false}
use lib.Dec.{eqb}
use Rattle.arithmetic.proofs.Searches.{Asked}
use Rattle.cubemap.specs.Frames.{layout_bytes, face_in}
use Rattle.frame.proofs.slot_of.Given as goal

abbrev pub invariant-loop-slot : goal.invariant-loop-slot
invariant-loop-slot l = Asked (λ k. eqb (face_in (layout_bytes l.layout) k) l.face) false 6 l.slot
