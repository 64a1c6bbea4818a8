-- `locate` meets its contract: on the face that the ray meets the numbers of Table 4 are ratios of at most 1, as `position` asks.
use mathlib.Core.Path.{◌≡◌, sym, ◌∙◌, ap, ap₂, subst}
use Prim.Native.Nat.{ℕ, ◌≤◌}
use native.Mathlib.Nat.{le_trans}
use lib.IntN.{ℤ, pos, nat_abs}
use mir.Syntax.{w64}
use mir.Val.{SFits, to_z, of_z}
use mir.Facts.{to_z-of_z}
use borrow.Author.Rules.{rules}
use Rattle.arithmetic.proofs.Held.{Held, held, cast_ok}
use Rattle.cubemap.specs.declared.Ray.{Ray}
use Rattle.cubemap.specs.RayToPlace.{position64, located, chosen_size}
use Rattle.cubemap.proofs.Ranges.{ray-range}
use Rattle.cubemap.proofs.Faces.{Chosen, chosen, Ratios, chosen-ratios}
use Rattle.cubemap.proofs.Locate.{locate-is}
use Rattle.positions.specs.Ratios.{Ratio}
use Rattle.geometry.specs.declared.Facing.{Facing}
use Rattle.geometry.proofs.locate.Goals.{After-face_of-face, After-table4-f}
use Rattle.geometry.proofs.locate.Goals as goal

module _ (c : After-face_of-face) where
  abbrev v : Ray
  v = c.args.v

  abbrev face : ℕ
  face = c.face_of-face.result

  on-face : Chosen face v
  on-face = subst (λ f. Chosen f v) (sym c.face_of-face.ensures) (chosen v c.requires.2)

  ratios : Ratios 536870911 face v
  ratios = chosen-ratios (ray-range v c.requires.1) on-face

pub table4-f-requires : goal.table4-f-requires
table4-f-requires c = ((on-face c).face-ok, c.requires.1)

module _ (c : After-table4-f) where
  abbrev t : After-face_of-face
  t = c.before

  abbrev row : Facing
  row = c.table4-f.result

  abbrev distance : ℕ
  distance = nat_abs (to_z w64 (of_z w64 row.toward))

  -- the number towards the face is its size
  distance-held : Held (of_z w64 row.toward) (pos (chosen_size (face t) (v t))) 536870911
  distance-held = subst (λ z. Held (of_z w64 z) (pos (chosen_size (face t) (v t))) 536870911) (sym (c.table4-f.ensures.2 ∙ (on-face t).ahead))
      (held (pos (chosen_size (face t) (v t))) (ratios t).bounded tt)

  distance_is : distance ≡ chosen_size (face t) (v t)
  distance_is = ap nat_abs distance-held.is

  -- T of a number of the row
  module _ (n x : ℤ) (is : n ≡ x) (h : nat_abs x ≤ chosen_size (face t) (v t)) where
    read : to_z w64 (of_z w64 n) ≡ x
    read = ap (λ z. to_z w64 (of_z w64 z)) is ∙ (held x (le_trans h (ratios t).bounded) tt).is

    asks : Ratio t.args.size (to_z w64 (of_z w64 n)) distance
    asks = record {
      size-most = t.requires.0;
      positive = rw distance_is (ratios t).positive;
      bounded = rw distance_is (ratios t).bounded;
      at-most-1 = rw (read, distance_is) h;
    }

    position-is : (r : ℤ) → SFits w64 r → r ≡ position64 t.args.format t.args.size (to_z w64 (of_z w64 n)) distance
        → to_z w64 (of_z w64 r) ≡ position64 t.args.format t.args.size x (chosen_size (face t) (v t))
    position-is r fits e = to_z-of_z fits ∙ e ∙ ap₂ (position64 t.args.format t.args.size) read distance_is

pub overflow_cast-d : goal.overflow_cast-d
overflow_cast-d c = cast_ok (distance-held (goal.at.overflow_cast-d c).After-table4-f) tt tt

pub position-requires : goal.position-requires
position-requires c =
    let t = (goal.at.position-requires c).After-table4-f in
    asks t _ _ t.table4-f.ensures.0 (ratios (goal.at.position-requires c).After-face_of-face).across-ok

pub position-requires-2 : goal.position-requires-2
position-requires-2 c =
    let t = (goal.at.position-requires-2 c).After-table4-f in
    asks t _ _ t.table4-f.ensures.1 (ratios (goal.at.position-requires-2 c).After-face_of-face).down-ok

pub returns : goal.returns
returns c =
    let t = (goal.at.returns c).After-table4-f in
    let a = t.args in
    (λ i. located (face (goal.at.returns c).After-face_of-face)
    (position-is t _ _ t.table4-f.ensures.0 (ratios (goal.at.returns c).After-face_of-face).across-ok c.position.result (search rules) c.position.ensures i)
    (position-is t _ _ t.table4-f.ensures.1 (ratios (goal.at.returns c).After-face_of-face).down-ok c.position-2.result (search rules) c.position-2.ensures i))
    ∙ sym (locate-is a.format a.size a.v (face (goal.at.returns c).After-face_of-face) (sym t.face_of-face.ensures))
