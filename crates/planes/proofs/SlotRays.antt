-- The rays of a run: those of the places at its indices, by a start and multiples of a slope.
use mathlib.Core.Path.{◌≡◌, refl, sym, ◌∙◌, ap, ap₂}
use mathlib.Core.List.{[], ◌∷◌}
use Prim.Native.Nat.{ℕ, zero, suc, ◌+◌, ◌*◌, ◌-◌, ◌/◌, ◌%◌, ◌≤◌, ◌<◌}
use native.Mathlib.Nat.{div-add-mod', mod-lt, mul-le-mul, mul-pos}
use native.Mathlib.Omega.{arith}
use lib.Arith.{digits_div, digits_mod, digits_lt}
use lib.Dec.{T}
use lib.IntN.{ℤ, pos, neg_ℤ, nat_abs, ◌+ℤ◌, ◌*ℤ◌, neg_ℤ-neg_ℤ}
use Rattle.arithmetic.proofs.Sizes.{nat_abs-neg}
use Rattle.arithmetic.proofs.Ring.{var, con, ◌⊕◌, ◌⊗◌, solve}
use Rattle.cubemap.specs.declared.Format.{Format}
use Rattle.cubemap.specs.declared.Ray.{Ray}
use Rattle.cubemap.specs.Frames.{place, Spot, spot, quarter_turns}
use Rattle.cubemap.specs.PlaceToRay.{N, scale, face_coordinate, table3, ray_of}
use Rattle.cubemap.specs.Checks.{ray_in_range}
use Rattle.cubemap.proofs.FaceCoordinates.{coordinates}
use Rattle.cubemap.proofs.Faces.{table3-sizes, ray_of-table3}
use Rattle.cubemap.proofs.Indices.{SpotWithin, four-turns, one-turn, two-turns, three-turns, slot_at, spot_at}
use Rattle.cubemap.proofs.Rotations.{along, size_squared}
use Rattle.cubemap.proofs.RotatedRays.{PlaceRay, size-in-range, neg-along, table3-along}
use Rattle.planes.specs.TargetPlane.{slot_ray}

-- ---- the ray of a place, by the spot that its slot has it at

module _ (format : Format) (A f m n : ℕ) (p : m < A) (q : n < A) where
  -- a coordinate of a column, or row, and of the opposite one
  abbrev co : ℕ → ℤ
  co j = face_coordinate format A j

  opposite : (j : ℕ) → j < A → co (A - 1 - j) ≡ neg_ℤ (co j)
  opposite j h = ap co (same j) ∙ (coordinates format A).mirror j h
    where
      same : (j : ℕ) → A - 1 - j ≡ A - suc j
      same j = omega arith

  -- the ray of the place whose column and row are those of a spot
  abbrev ray_at : Spot → Ray
  ray_at s = ray_of format A (place f s.column s.row)

  at-spot : {t : Spot} {x y : ℕ} {u v : ℤ} → t ≡ spot x y → co x ≡ u → co y ≡ v → ray_at t ≡ table3 f (pos (scale format A)) u v
  at-spot {x = x} {y} e g h =
      ap ray_at e ∙ ray_of-table3 format A (place f x y) ∙ ap₂ (table3 f (pos (scale format A))) g h

  within : SpotWithin A (spot m n)
  within = record { column-ok = p; row_ok = q }

  pub slot-ray : (k : ℕ) → k < 4 → ray_at (quarter_turns A (4 - k) (spot m n)) ≡ slot_ray f k (pos (scale format A)) (co m) (co n)
  slot-ray zero h = at-spot (four-turns A (spot m n) within) refl refl
  slot-ray (suc zero) h = at-spot (three-turns A (spot m n) within) refl (opposite m p)
  slot-ray (suc (suc zero)) h = at-spot (two-turns A (spot m n)) (opposite m p) (opposite n q)
  slot-ray (suc (suc (suc zero))) h = at-spot (one-turn A (spot m n)) (opposite n q) (sym (neg_ℤ-neg_ℤ (co m)))
  slot-ray (suc (suc (suc (suc k)))) h = absurd (omega arith)

-- ---- the slot and the spot at an index of a run

module _ (A run j : ℕ) (h : j < A) where
  inner : run % 3 * A + j < 3 * A
  inner = digits_lt (mod-lt run (omega arith)) h

  by_rows : run * A + j ≡ run / 3 * (3 * A) + (run % 3 * A + j)
  by_rows = ap (λ r. r * A + j) (sym (div-add-mod' run 3)) ∙ regrouped (run / 3) (run % 3)
    where
      regrouped : (x y : ℕ) → (x * 3 + y) * A + j ≡ x * (3 * A) + (y * A + j)
      regrouped x y = omega arith

  row_of : (run * A + j) / (3 * A) ≡ run / 3
  row_of = ap (λ i. i / (3 * A)) by_rows ∙ digits_div (run / 3) inner

  along-row : (run * A + j) % (3 * A) ≡ run % 3 * A + j
  along-row = ap (λ i. i % (3 * A)) by_rows ∙ digits_mod (run / 3) inner

  pub run-slot : slot_at A (run * A + j) ≡ run / 3 / A * 3 + run % 3
  run-slot = ap₂ (λ x y. x / A * 3 + y) row_of (ap (λ x. x / A) along-row ∙ digits_div (run % 3) h)

  pub run-spot : spot_at A (run * A + j) ≡ spot j (run / 3 % A)
  run-spot = ap₂ spot (ap (λ x. x % A) along-row ∙ digits_mod (run % 3) h) (ap (λ x. x % A) row_of)

-- ---- from a start by multiples of a slope

slot-along : (f k : ℕ) (w s u v s' u' v' : ℤ)
    → slot_ray f k (s +ℤ w *ℤ s') (u +ℤ w *ℤ u') (v +ℤ w *ℤ v') ≡ along (slot_ray f k s u v) w (slot_ray f k s' u' v')
slot-along f zero w s u v s' u' v' = table3-along f w s u v s' u' v'
slot-along f (suc k) w s u v s' u' v' =
    ap (slot_ray f k (s +ℤ w *ℤ s') (v +ℤ w *ℤ v')) (neg-along u w u') ∙ slot-along f k w s v (neg_ℤ u) s' v' (neg_ℤ u')

-- the coordinate of the column moves the ray along one axis
pub slot-slope : (f k : ℕ) (s u v : ℤ) → slot_ray f k s u v ≡ along (slot_ray f k s (pos 0) v) u (slot_ray f k (pos 0) (pos 1) (pos 0))
slot-slope f k s u v =
    (λ i. slot_ray f k (still s i) (moved i) (still v i)) ∙ slot-along f k u s (pos 0) v (pos 0) (pos 1) (pos 0)
  where
    still : (x : ℤ) → x ≡ x +ℤ u *ℤ pos 0
    still x = solve (x ∷ u ∷ []) (var 0) (var 0 ⊕ var 1 ⊗ con (pos 0)) tt

    moved : u ≡ pos 0 +ℤ u *ℤ pos 1
    moved = solve (u ∷ []) (var 0) (con (pos 0) ⊕ var 0 ⊗ con (pos 1)) tt

-- ---- the size of a slot's ray

slot-size : (f k : ℕ) (s u v : ℤ) → size_squared (slot_ray f k s u v) ≡ nat_abs s * nat_abs s + nat_abs u * nat_abs u + nat_abs v * nat_abs v
slot-size f zero s u v = table3-sizes (λ n. n * n) f s u v
slot-size f (suc k) s u v =
    slot-size f k s v (neg_ℤ u) ∙ omega (arith, ap (λ n. n * n) (nat_abs-neg u))

slot-bounded : (f k : ℕ) (s u v : ℤ) → nat_abs s ≤ N → nat_abs u ≤ N → nat_abs v ≤ N → size_squared (slot_ray f k s u v) ≤ 3 * (N * N)
slot-bounded f k s u v hs hu hv = omega (arith, slot-size f k s u v, mul-le-mul hs hs, mul-le-mul hu hu, mul-le-mul hv hv)

-- it may be rotated
pub slot-in-range : (f k : ℕ) (s u v : ℤ) → nat_abs s ≤ N → nat_abs u ≤ N → nat_abs v ≤ N → T (ray_in_range (slot_ray f k s u v))
slot-in-range f k s u v hs hu hv = size-in-range (slot_ray f k s u v) (omega (arith, slot-bounded f k s u v hs hu hv))

-- and is bounded as the ray of a place is
pub slot-place-ray : (f k : ℕ) (s u v : ℤ) → nat_abs s ≤ N → nat_abs u ≤ N → nat_abs v ≤ N → 0 < nat_abs s + nat_abs u → PlaceRay (slot_ray f k s u v)
slot-place-ray f k s u v hs hu hv h = record {
  positive = omega (arith, slot-size f k s u v, some (nat_abs s) (nat_abs u) h);
  bounded = slot-bounded f k s u v hs hu hv;
}
  where
    some : (a b : ℕ) → 0 < a + b → 0 < a * a + b * b
    some zero b h = let l : 0 < b = omega arith in omega (arith, mul-pos l l)
    some (suc a) b h = omega arith
