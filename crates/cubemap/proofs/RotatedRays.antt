-- The ray of a place, rotated, is not zero and within the bound of check 13: its length is S times the ray's.
use mathlib.Core.Path.{◌≡◌, refl}
use mathlib.Core.List.{[], ◌∷◌}
use Prim.Native.Nat.{ℕ, zero, suc, ◌+◌, ◌*◌, ◌≤◌, ◌<◌}
use native.Mathlib.Nat.{mul-le-mul, mul-pos}
use native.Mathlib.Omega.{arith}
use lib.Dec.{T}
use lib.IntN.{ℤ, pos, neg_ℤ, nat_abs, ◌+ℤ◌, ◌*ℤ◌}
use Rattle.arithmetic.proofs.Sizes.{square-of, root-strictly}
use Rattle.arithmetic.proofs.Ring.{var, ◌⊕◌, ◌⊗◌, ⊖, solve}
use Rattle.cubemap.specs.declared.Format.{Format}
use Rattle.cubemap.specs.declared.Place.{Place}
use Rattle.cubemap.specs.declared.Ray.{Ray}
use Rattle.cubemap.specs.declared.Rotation.{Rotation}
use Rattle.cubemap.specs.Frames.{IsPlace}
use Rattle.cubemap.specs.PlaceToRay.{N, scale, face_coordinate, table3, ray_of}
use Rattle.cubemap.specs.Rotations.{sum_of_squares, rotated}
use Rattle.cubemap.specs.Checks.{rotation_in_range, rotation_nonzero, ray_in_range, ray_nonzero}
use Rattle.cubemap.proofs.Ranges.{in-range-ray, nonzero-ray}
use Rattle.cubemap.proofs.FaceCoordinates.{coordinates, scale-positive, scale-bounded}
use Rattle.cubemap.proofs.Faces.{table3-sizes}
use Rattle.cubemap.proofs.Rotations.{ray-eq, along, size_squared, rotated-size, sum-positive, squares-bounded}

-- ---- checks 13 and 14 from the length of a ray

pub size-in-range : (r : Ray) → size_squared r < 536870912 * 536870912 → T (ray_in_range r)
size-in-range r h = in-range-ray r (record { x = number r.x (omega arith); y = number r.y (omega arith); z = number r.z (omega arith) })
  where
    number : (z : ℤ) → nat_abs z * nat_abs z < 536870912 * 536870912 → nat_abs z ≤ 536870911
    number z l = let m = root-strictly (nat_abs z) 536870912 l in omega arith

pub size-nonzero : (r : Ray) → 0 < size_squared r → T (ray_nonzero r)
size-nonzero r h = nonzero-ray r (λ p q w. absurd (omega (arith, square-of p, square-of q, square-of w)))

-- ---- the rays of places

pub record PlaceRay (r : Ray) : Type 0 where
  pub positive : 0 < size_squared r
  pub bounded : size_squared r ≤ 3 * (N * N)

pub place-ray : (format : Format) (A : ℕ) (P : Place) → 1 ≤ A → A ≤ 512 → IsPlace A P → PlaceRay (ray_of format A P)
unfolding ray_of
place-ray format A P l h p =
    let s : ℕ = scale format A in
    let a : ℕ = nat_abs (face_coordinate format A P.column) in
    let b : ℕ = nat_abs (face_coordinate format A P.row) in
    let c = coordinates format A in
    go s a b (scale-positive format A l) (scale-bounded format A h) (c.inside P.column p.column-ok) (c.inside P.row p.row_ok)
    (table3-sizes (λ n. n * n) P.face (pos s) (face_coordinate format A P.column) (face_coordinate format A P.row))
  where
    go : (s a b : ℕ) → 0 < s → s ≤ N → a < s → b < s → {r : Ray} → size_squared r ≡ s * s + a * a + b * b → PlaceRay r
    go s a b i m x y e =
        let ss : s * s ≤ N * N = mul-le-mul m m in
        let aa : a * a ≤ s * s = mul-le-mul (under x) (under x) in
        let bb : b * b ≤ s * s = mul-le-mul (under y) (under y) in
        record { positive = omega (arith, mul-pos i i); bounded = omega arith }
      where
        under : {n : ℕ} → n < s → n ≤ s
        under l = omega arith

-- ---- rotated by a rotation that passes checks 6 and 7

pub record RotatedRay (r : Ray) : Type 0 where
  pub in-range : T (ray_in_range r)
  pub nonzero : T (ray_nonzero r)

pub rotated-ray : (t : Rotation) (r : Ray) → T (rotation_in_range t) → T (rotation_nonzero t) → PlaceRay r → RotatedRay (rotated t r)
rotated-ray t r small some p =
    let S : ℕ = sum_of_squares t in
    let e = rotated-size t r in
    let h_s = squares-bounded t small in
    let b : S * S * size_squared r ≤ 14776336 * 12884901888 = mul-le-mul (mul-le-mul {n₂ = 3844} {m₂ = 3844} h_s h_s) p.bounded in
    let c : 0 < S * S * size_squared r = mul-pos (mul-pos (sum-positive t some) (sum-positive t some)) p.positive in
    record { in-range = size-in-range (rotated t r) (omega arith); nonzero = size-nonzero (rotated t r) (omega arith) }

-- ---- a ray of Table 3 whose numbers move, moves

-- the opposite of a number that is moved
pub neg-along : (x w y : ℤ) → neg_ℤ (x +ℤ w *ℤ y) ≡ neg_ℤ x +ℤ w *ℤ neg_ℤ y
neg-along x w y = solve (x ∷ w ∷ y ∷ []) (⊖ (var 0 ⊕ var 1 ⊗ var 2)) (⊖ (var 0) ⊕ var 1 ⊗ ⊖ (var 2)) tt

pub table3-along : (f : ℕ) (w s a b s' a' b' : ℤ)
    → table3 f (s +ℤ w *ℤ s') (a +ℤ w *ℤ a') (b +ℤ w *ℤ b') ≡ along (table3 f s a b) w (table3 f s' a' b')
unfolding table3
table3-along zero w s a b s' a' b' = ray-eq refl (neg-along b w b') (neg-along a w a')
table3-along (suc zero) w s a b s' a' b' = ray-eq (neg-along s w s') (neg-along b w b') refl
table3-along (suc (suc zero)) w s a b s' a' b' = refl
table3-along (suc (suc (suc zero))) w s a b s' a' b' = ray-eq refl (neg-along s w s') (neg-along b w b')
table3-along (suc (suc (suc (suc zero)))) w s a b s' a' b' = ray-eq refl (neg-along b w b') refl
table3-along (suc (suc (suc (suc (suc f))))) w s a b s' a' b' = ray-eq (neg-along a w a') (neg-along b w b') (neg-along s w s')
