-- From ray to place: a ray that is not 0 falls on a face, within its range; its positive multiples fall where it does; and the ray of a place
-- falls on that place, at phase 0, so that no two places share a ray.
use mathlib.Core.Path.{◌≡◌, sym, ◌∙◌, ap}
use Prim.Native.Nat.{ℕ, ◌*◌, ◌≤◌, ◌<◌}
use native.Mathlib.Omega.{arith}
use lib.Dec.{T}
use lib.IntN.{ℤ, pos}
use Rattle.arithmetic.proofs.Sizes.{pos_inj}
use Rattle.cubemap.specs.declared.Format.{Format}
use Rattle.cubemap.specs.declared.Located.{Located}
use Rattle.cubemap.specs.declared.Place.{Place}
use Rattle.cubemap.specs.declared.Ray.{Ray}
use Rattle.cubemap.specs.Frames.{IsPlace}
use Rattle.cubemap.specs.PlaceToRay.{times, scale, face_coordinate, ray_of}
use Rattle.cubemap.specs.RayToPlace.{face_of, chosen_size, across, down, position64, located, locate}
use Rattle.cubemap.specs.Checks.{ray_nonzero}
use Rattle.cubemap.proofs.Indices.{place-eq}
use Rattle.cubemap.proofs.FaceCoordinates.{Coordinates, coordinates}
use Rattle.cubemap.proofs.Positions.{InRange, position-range, position-times, position-own}
use Rattle.cubemap.proofs.Faces.{Faced, faced, across-table3, down-table3, chosen-table3, face_of-table3}
use Rattle.cubemap.proofs.Faces.{chosen-times, across-times, down-times, face_of-times}

-- ---- what is located lies on a face

pub record OnFace (A : ℕ) (p : Located) : Type 0 where
  pub face-ok : p.face < 6
  pub column-ok : InRange A p.column
  pub row_ok : InRange A p.row

pub locate-on-face : (format : Format) (A : ℕ) (r : Ray) → T (ray_nonzero r) → OnFace A (locate format A r)
unfolding locate
locate-on-face format A r t = record {
  face-ok = g.face-ok;
  column-ok = position-range format A (across (face_of r) r) (chosen_size (face_of r) r) g.across-ok g.nonzero;
  row_ok = position-range format A (down (face_of r) r) (chosen_size (face_of r) r) g.down-ok g.nonzero;
}
  where
    g : Faced r (face_of r)
    g = faced r t

-- ---- by the numbers of its face

pub locate-is : (format : Format) (A : ℕ) (v : Ray) (f : ℕ) → face_of v ≡ f
    → locate format A v ≡ located f (position64 format A (across f v) (chosen_size f v)) (position64 format A (down f v) (chosen_size f v))
unfolding locate
locate-is format A v f e = ap (λ f. located f (position64 format A (across f v) (chosen_size f v)) (position64 format A (down f v) (chosen_size f v))) e

-- ---- a positive multiple of a ray is located where the ray is

pub locate-times : (format : Format) (A k : ℕ) (v : Ray) → 0 < k → locate format A (times k v) ≡ locate format A v
unfolding locate
locate-times format A k v h = rw (
  face_of-times k v h,
  chosen-times k (face_of v) v,
  across-times k (face_of v) v,
  down-times k (face_of v) v,
  position-times format A k (across (face_of v) v) (chosen_size (face_of v) v) h,
  position-times format A k (down (face_of v) v) (chosen_size (face_of v) v) h,
)

-- ---- the ray of a place, and any positive multiple of it, is located at that place, at phase 0

-- the position at the middle of a place
abbrev pub middle_of : Place → Located
middle_of P = located P.face (pos (64 * P.column)) (pos (64 * P.row))

pub locate-own : (format : Format) (A : ℕ) (P : Place) → A ≤ 512 → IsPlace A P → locate format A (ray_of format A P) ≡ middle_of P
unfolding locate ray_of
locate-own format A P a p = rw (
  face_of-table3 P.face (scale format A) x y p.face-ok (c.inside P.column p.column-ok) (c.inside P.row p.row_ok),
  across-table3 P.face (pos (scale format A)) x y,
  down-table3 P.face (pos (scale format A)) x y,
  chosen-table3 P.face (scale format A) x y,
  position-own format A P.column a p.column-ok,
  position-own format A P.row a p.row_ok,
)
  where
    c : Coordinates format A
    c = coordinates format A

    x : ℤ
    x = face_coordinate format A P.column

    y : ℤ
    y = face_coordinate format A P.row

pub locate-own-times : (format : Format) (A k : ℕ) (P : Place) → A ≤ 512 → 0 < k → IsPlace A P
    → locate format A (times k (ray_of format A P)) ≡ middle_of P
locate-own-times format A k P a h p = locate-times format A k (ray_of format A P) h ∙ locate-own format A P a p

-- so no two places have the same ray
pub ray-apart : (format : Format) (A : ℕ) (P Q : Place) → A ≤ 512 → IsPlace A P → IsPlace A Q → ray_of format A P ≡ ray_of format A Q → P ≡ Q
ray-apart format A P Q a p q e = place-eq
    (ap (λ l. l.face) same)
    (number P.column Q.column (ap (λ l. l.column) same))
    (number P.row Q.row (ap (λ l. l.row) same))
  where
    same : middle_of P ≡ middle_of Q
    same = sym (locate-own format A P a p) ∙ ap (locate format A) e ∙ locate-own format A Q a q

    number : (m n : ℕ) → pos (64 * m) ≡ pos (64 * n) → m ≡ n
    number m n e = omega (arith, pos_inj (64 * m) (64 * n) e)
