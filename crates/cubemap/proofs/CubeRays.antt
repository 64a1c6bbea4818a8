-- Which triples of whole numbers are rays of places: one number is plus or minus the scale, the two others are numbers of columns.
use mathlib.Core.Path.{◌≡◌, refl, sym, ◌∙◌, ap}
use Prim.Native.Nat.{ℕ, zero, suc, ◌-◌, ◌<◌}
use native.Mathlib.Omega.{arith}
use lib.IntN.{ℤ, neg_ℤ, neg_ℤ-neg_ℤ}
use Rattle.arithmetic.proofs.Sizes.{Signed, plus, minus}
use Rattle.cubemap.specs.declared.Format.{Format}
use Rattle.cubemap.specs.declared.Place.{Place}
use Rattle.cubemap.specs.declared.Ray.{Ray}
use Rattle.cubemap.specs.Frames.{place, IsPlace}
use Rattle.cubemap.specs.PlaceToRay.{scale, face_coordinate, table3, ray_of}
use Rattle.cubemap.proofs.FaceCoordinates.{coordinates}
use Rattle.cubemap.proofs.Rotations.{ray-eq}

-- the number of a column
pub record Inner (format : Format) (A : ℕ) (x : ℤ) : Type 0 where
  pub at : ℕ
  pub at_ok : at < A
  pub is : x ≡ face_coordinate format A at

pub data CubeRay (format : Format) (A : ℕ) (v : Ray) : Type 0 where
  along_x : Signed v.x (scale format A) → Inner format A v.y → Inner format A v.z → CubeRay format A v
  along_y : Inner format A v.x → Signed v.y (scale format A) → Inner format A v.z → CubeRay format A v
  along_z : Inner format A v.x → Inner format A v.y → Signed v.z (scale format A) → CubeRay format A v

-- the opposite of the opposite
flip : {x y : ℤ} → neg_ℤ x ≡ y → neg_ℤ y ≡ x
flip {x} e = sym (ap neg_ℤ e) ∙ neg_ℤ-neg_ℤ x

module _ (format : Format) (A : ℕ) where
  inner : (m : ℕ) → m < A → Inner format A (face_coordinate format A m)
  inner m h = record { at = m; at_ok = h; is = refl }

  pub inner-neg : {x : ℤ} → Inner format A x → Inner format A (neg_ℤ x)
  inner-neg i = record { at = A - suc i.at; at_ok = omega (arith, i.at_ok); is = ap neg_ℤ i.is ∙ sym ((coordinates format A).mirror i.at i.at_ok) }

  -- a place's ray is a cube ray
  pub ray-cube : (P : Place) → IsPlace A P → CubeRay format A (ray_of format A P)
  unfolding ray_of table3
  ray-cube P p = go P.face p.face-ok
    where
      m : Inner format A (face_coordinate format A P.column)
      m = inner P.column p.column-ok

      n : Inner format A (face_coordinate format A P.row)
      n = inner P.row p.row_ok

      go : (f : ℕ) → f < 6 → CubeRay format A (ray_of format A (place f P.column P.row))
      go zero h = along_x (plus refl) (inner-neg n) (inner-neg m)
      go (suc zero) h = along_x (minus refl) (inner-neg n) m
      go (suc (suc zero)) h = along_y m (plus refl) n
      go (suc (suc (suc zero))) h = along_y m (minus refl) (inner-neg n)
      go (suc (suc (suc (suc zero)))) h = along_z m (inner-neg n) (plus refl)
      go (suc (suc (suc (suc (suc zero))))) h = along_z (inner-neg m) (inner-neg n) (minus refl)
      go (suc (suc (suc (suc (suc (suc f)))))) h = absurd (omega arith)

  -- and each cube ray is a place's
  pub record PlaceOf (v : Ray) : Type 0 where
    pub place : Place
    pub ok : IsPlace A place
    pub ray : ray_of format A place ≡ v

  made : (f : ℕ) (v : Ray) {a b : ℤ} → f < 6 → (i : Inner format A a) (j : Inner format A b)
      → ray_of format A (place f i.at j.at) ≡ v → PlaceOf v
  made f v h i j e = record { place = place f i.at j.at; ok = record { face-ok = h; column-ok = i.at_ok; row_ok = j.at_ok }; ray = e }

  pub cube-place : (v : Ray) → CubeRay format A v → PlaceOf v
  unfolding ray_of table3
  cube-place v (along_x (plus e) y z) =
      made 0 v (omega arith) (inner-neg z) (inner-neg y) (ray-eq (sym e) (flip (inner-neg y).is) (flip (inner-neg z).is))
  cube-place v (along_x (minus e) y z) = made 1 v (omega arith) z (inner-neg y) (ray-eq (sym e) (flip (inner-neg y).is) (sym z.is))
  cube-place v (along_y x (plus e) z) = made 2 v (omega arith) x z (ray-eq (sym x.is) (sym e) (sym z.is))
  cube-place v (along_y x (minus e) z) = made 3 v (omega arith) x (inner-neg z) (ray-eq (sym x.is) (sym e) (flip (inner-neg z).is))
  cube-place v (along_z x y (plus e)) = made 4 v (omega arith) x (inner-neg y) (ray-eq (sym x.is) (flip (inner-neg y).is) (sym e))
  cube-place v (along_z x y (minus e)) =
      made 5 v (omega arith) (inner-neg x) (inner-neg y) (ray-eq (flip (inner-neg x).is) (flip (inner-neg y).is) (sym e))
