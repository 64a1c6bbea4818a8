-- A part of a row: what holds along the row holds along the part.
use mathlib.Core.Path.{◌≡◌, sym, ◌∙◌, ap, subst, subst₂}
use mathlib.Core.List.{List, [], ◌∷◌}
use Prim.Native.Nat.{ℕ, ◌+◌, ◌*◌, ◌-◌, ◌≤◌, ◌<◌}
use native.Mathlib.Omega.{arith}
use lib.IntN.{ℤ, pos, nat_abs, ◌+ℤ◌}
use lib.ListN.{length}
use lib.Signed.{◌≤ℤ◌}
use Rattle.arithmetic.specs.ListParts.{part}
use Rattle.arithmetic.proofs.ListParts.{part_length, part_at}
use Rattle.arithmetic.proofs.Ring.{var, con, ◌⊕◌, ◌⊗◌, solve}
use Rattle.cubemap.specs.RayToPlace.{face_of}
use Rattle.cubemap.proofs.RotatedRays.{RotatedRay}
use Rattle.positions.specs.RayLines.{coordinate_at}
use Rattle.stretches.specs.Numbers.{Evenly}
use Rattle.resampling.specs.declared.RowRays.{RowRays}
use Rattle.resampling.specs.RowOfRays.{ray_at, RowReady, OneFace}

module _ {r : RowRays} {coordinates : List ℤ} (row : RowReady r coordinates) {from to : ℕ} (order : from ≤ to)
    (end : to ≤ length coordinates) where
  abbrev stretch : List ℤ
  stretch = part from to coordinates

  pub stretch-length : length stretch ≡ to - from
  stretch-length = part_length from to coordinates order end

  -- column j of the part is column from + j of the row
  pub column-of : (j : ℕ) → j < length stretch → coordinate_at stretch j ≡ coordinate_at coordinates (from + j)
  column-of j h = part_at from to coordinates j (pos 0) (omega (arith, h, stretch-length))

  within : (j : ℕ) → j < length stretch → from + j < length coordinates
  within j h = omega (arith, h, stretch-length)

  evenly : Evenly coordinates → Evenly stretch
  evenly e = record {
    even = λ i h.
        column-of i h ∙ e.even (from + i) (within i h) ∙ further from i
        ∙ ap (λ z. z +ℤ pos (2 * i)) (sym
        (column-of 0 (omega (arith, h)) ∙ e.even (from + 0) (within 0 (omega (arith, h))) ∙ none));
  }
    where
      further : (m i : ℕ) → coordinate_at coordinates 0 +ℤ pos (2 * (m + i)) ≡ coordinate_at coordinates 0 +ℤ pos
          (2 * m) +ℤ pos (2 * i)
      further m i = solve (coordinate_at coordinates 0 ∷ pos m ∷ pos i ∷ [])
          (var 0 ⊕ con (pos 2) ⊗ (var 1 ⊕ var 2)) (var 0 ⊕ con (pos 2) ⊗ var 1 ⊕ con (pos 2) ⊗ var 2) tt

      none : coordinate_at coordinates 0 +ℤ pos (2 * (from + 0)) ≡ coordinate_at coordinates 0 +ℤ pos (2 * from)
      none = ap (λ m. coordinate_at coordinates 0 +ℤ pos (2 * m)) (omega arith)

  pub row-part : RowReady r stretch
  row-part = record {
    in-range = row.in-range;
    few = omega (arith, stretch-length, row.few);
    small = λ m h. subst (λ z. nat_abs z ≤ 65536) (sym (column-of m h)) (row.small (from + m) (within m h));
    rising = λ m n l h. subst₂ ◌≤ℤ◌ (sym (column-of m (omega (arith, l, h)))) (sym (column-of n h))
        (row.rising (from + m) (from + n) (omega (arith, l)) (within n h));
    leads = λ m h. subst (λ z. RotatedRay (ray_at r z)) (sym (column-of m h)) (row.leads (from + m) (within m h));
    even = λ t. evenly (row.even t);
  }

  pub one-face-part : {face : ℕ} → OneFace r coordinates face from to → OneFace r stretch face 0 (length stretch)
  one-face-part one = record {
    meets = λ m l h. ap (λ z. face_of (ray_at r z)) (column-of m h)
        ∙ one.meets (from + m) (omega arith) (omega (arith, h, stretch-length));
  }
