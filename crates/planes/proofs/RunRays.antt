-- The rays of a run of the target: those of the places at its indices, rotated, are the start moved by the coordinates
-- of the columns.
use mathlib.Core.Path.{◌≡◌, refl, sym, ◌∙◌, ap, ap₂, subst, subst₂}
use mathlib.Core.Bool.{Bool, true, true≢false}
use mathlib.Core.List.{List, [], ◌∷◌}
use Prim.Native.Nat.{ℕ, ◌+◌, ◌*◌, ◌-◌, ◌/◌, ◌%◌, ◌≤◌, ◌<◌}
use native.Mathlib.Nat.{mod-lt, le_trans, le_of_lt, mul-le-mul_left}
use native.Mathlib.Omega.{arith}
use lib.IntN.{ℤ, pos, nat_abs, ◌+ℤ◌}
use lib.ListN.{length}
use lib.Signed.{◌≤ℤ◌}
use Rattle.arithmetic.proofs.Ring.{var, con, ◌⊕◌, ◌⊗◌, ◌⊝◌, solve}
use Rattle.cubemap.specs.declared.Format.{Format}
use Rattle.cubemap.specs.declared.Ray.{Ray}
use Rattle.cubemap.specs.Frames.{place, layout_bytes, plane_samples, face_in, quarter_turns_in, Spot, spot, quarter_turns}
use Rattle.cubemap.specs.Frames.{place_at}
use Rattle.cubemap.specs.PlaceToRay.{N, scale, from_centre, face_coordinate, ray_of}
use Rattle.cubemap.specs.Rotations.{rotated}
use Rattle.cubemap.proofs.FaceCoordinates.{coordinates, scale-positive, scale-bounded}
use Rattle.cubemap.proofs.Indices.{place_at-is, place_at-ok, slot-at-below}
use Rattle.cubemap.proofs.Layouts.{LayoutHolds, layout-holds}
use Rattle.cubemap.proofs.Rotations.{rotated-along}
use Rattle.cubemap.proofs.RotatedRays.{RotatedRay, rotated-ray, place-ray}
use Rattle.positions.specs.RayLines.{coordinate_at}
use Rattle.stretches.specs.Numbers.{Evenly}
use Rattle.resampling.specs.declared.RowRays.{RowRays}
use Rattle.resampling.specs.RowOfRays.{ray_at, RowReady}
use Rattle.planes.specs.declared.Conversion.{Conversion}
use Rattle.planes.specs.TargetPlane.{slot_ray, run_start, run_slope, evenly_spaced, slot_of_run, run_rays, TargetReady}
use Rattle.planes.proofs.SlotRays.{slot-ray, run-slot, run-spot, slot-slope, slot-place-ray}

-- the rays of a run, from what they are made of
pub rays-are : (c : Conversion) (table : List ℤ) (run : ℕ) {face turns : ℕ} {v : ℤ} {start slope : Ray} {even : Bool}
    → let slot : ℕ = slot_of_run c.target.size run in
    face ≡ face_in (layout_bytes c.target.layout) slot → turns ≡ quarter_turns_in (layout_bytes c.target.layout) slot
    → v ≡ coordinate_at table (run / 3 % c.target.size) → start ≡ run_start c.rotation c.target face turns v
    → slope ≡ run_slope c.rotation face turns → even ≡ evenly_spaced c.target.format
    → record { start = start; slope = slope; evenly = even } ≡ run_rays c table run
rays-are c table run f t v s p e = λ i. record {
  start = (s ∙ (λ j. run_start c.rotation c.target (f j) (t j) (v j))) i;
  slope = (p ∙ ap₂ (run_slope c.rotation) f t) i;
  evenly = e i;
}

module _ (c : Conversion) (table : List ℤ) (ready : TargetReady c table) (run : ℕ)
    (h : run < 6 * c.target.size) where
  abbrev A : ℕ
  A = c.target.size

  abbrev format : Format
  format = c.target.format

  abbrev L : List ℕ
  L = layout_bytes c.target.layout

  -- the slot and the row of the run
  abbrev slot : ℕ
  slot = slot_of_run A run

  abbrev row : ℕ
  row = run / 3 % A

  -- the slot's face and turns
  abbrev face : ℕ
  face = face_in L slot

  abbrev turns : ℕ
  turns = quarter_turns_in L slot

  abbrev rays : RowRays
  rays = run_rays c table run

  holds : LayoutHolds L
  holds = layout-holds L ready.layout-ok

  row_below : row < A
  row_below = mod-lt (run / 3) ready.size-least

  -- an index of the run is one of the plane
  index_below : (j : ℕ) → j < A → run * A + j < plane_samples A
  index_below j p = omega (arith, mul-le-mul_left A h)

  pub slot-below : slot < 6
  slot-below = subst (λ k. k < 6) (run-slot A run 0 ready.size-least)
      (slot-at-below A (run * A + 0) (index_below 0 ready.size-least))

  pub face-below : face < 6
  face-below = holds.face-below slot slot-below

  pub turns-below : turns < 4
  turns-below = holds.turns-below slot slot-below

  -- a coordinate is at most N
  pub coordinate-small : (m : ℕ) → m < A → nat_abs (coordinate_at table m) ≤ N
  coordinate-small m p = subst (λ z. nat_abs z ≤ N) (sym (ready.coordinate m p))
      (le_trans (le_of_lt ((coordinates format A).inside m p)) (scale-bounded format A ready.size-most))

  -- the place at an index of the run
  module _ (j : ℕ) (p : j < A) where
    abbrev i : ℕ
    i = run * A + j

    abbrev back : Spot
    back = quarter_turns A (4 - turns) (spot j row)

    place_is : place face back.column back.row ≡ place_at A L i
    place_is = place_at-is A L holds (place face back.column back.row) i (index_below j p)
        (ap (face_in L) (sym (run-slot A run j p)))
        (ap₂ (λ k s. quarter_turns A (4 - quarter_turns_in L k) s) (sym (run-slot A run j p)) (sym (run-spot A run j p)))

    -- its ray, rotated
    pub run-ray : rotated c.rotation (ray_of format A (place_at A L i)) ≡ ray_at rays (coordinate_at table j)
    run-ray =
        ap (rotated c.rotation)
        (ap (ray_of format A) (sym place_is)
        ∙ slot-ray format A face j row p row_below turns turns-below
        ∙ ap₂ (slot_ray face turns (pos (scale format A))) (sym (ready.coordinate j p))
        (sym (ready.coordinate row row_below))
        ∙ slot-slope face turns (pos (scale format A)) (coordinate_at table j) (coordinate_at table row))
        ∙ rotated-along c.rotation _ _ (coordinate_at table j)

    ray-leads : RotatedRay (ray_at rays (coordinate_at table j))
    ray-leads = subst RotatedRay run-ray
        (rotated-ray c.rotation (ray_of format A (place_at A L i)) ready.rotation-in-range ready.rotation-nonzero
        (place-ray format A (place_at A L i) ready.size-least ready.size-most
        (place_at-ok A L holds i (index_below j p))))

  below : (j : ℕ) → j < length table → j < A
  below j p = omega (arith, p, ready.columns)

  -- those of a target in CMP are evenly spaced
  spaced-evenly : format ≡ Format.Cmp → Evenly table
  spaced-evenly e = record {
    even = λ i p. at i p ∙ apart A i ∙ ap (λ z. z +ℤ pos (2 * i)) (sym (at 0 (omega (arith, p))));
  }
    where
      coordinate-cmp : (A m : ℕ) → face_coordinate Format.Cmp A m ≡ from_centre A m
      coordinate-cmp A m = refl

      at : (m : ℕ) → m < length table → coordinate_at table m ≡ from_centre A m
      at m p = ready.coordinate m (below m p) ∙ ap (λ f. face_coordinate f A m) e ∙ coordinate-cmp A m

      apart : (A i : ℕ) → from_centre A i ≡ from_centre A 0 +ℤ pos (2 * i)
      apart A i = solve (pos A ∷ pos i ∷ []) (con (pos 2) ⊗ var 1 ⊕ con (pos 1) ⊝ var 0)
          (con (pos 1) ⊝ var 0 ⊕ con (pos 2) ⊗ var 1) tt

  plain : (f : Format) → evenly_spaced f ≡ true → f ≡ Format.Cmp
  plain Format.Cmp t = refl
  plain Format.Acp t = absurd (true≢false (sym t))

  pub row-ready : RowReady rays table
  row-ready = record {
    in-range = record {
      start-ok = (rotated-ray c.rotation _ ready.rotation-in-range ready.rotation-nonzero
          (slot-place-ray face turns (pos (scale format A)) (pos 0) (coordinate_at table row)
          (scale-bounded format A ready.size-most) (omega arith) (coordinate-small row row_below)
          (omega (arith, scale-positive format A ready.size-least)))).in-range;
      slope-ok = (rotated-ray c.rotation _ ready.rotation-in-range ready.rotation-nonzero
          (slot-place-ray face turns (pos 0) (pos 1) (pos 0) (omega arith) (omega arith) (omega arith)
          (omega arith))).in-range;
    };
    few = omega (arith, ready.columns, ready.size-most);
    small = λ m p. coordinate-small m (below m p);
    rising = λ m n l p. subst₂ ◌≤ℤ◌
        (sym (ready.coordinate m (omega (arith, l, below n p)))) (sym (ready.coordinate n (below n p)))
        ((coordinates format A).rises m n l);
    leads = λ m p. ray-leads m (below m p);
    even = λ t. spaced-evenly (plain format t);
  }
