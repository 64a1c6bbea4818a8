-- `face_of` meets its contract: the tests that it makes are those of the six rows, in their order.
use mathlib.Core.Path.{◌≡◌, ◌∙◌, ap}
use mathlib.Core.Bool.{Bool, true, false, cond}
use mathlib.Core.Logic.{◌⊎◌, ⊎_elim}
use Prim.Native.Nat.{ℕ, ◌≤◌, ◌<◌}
use native.Mathlib.Omega.{arith}
use lib.Dec.{T}
use lib.IntN.{pos, nat_abs}
use lib.Signed.{lt_z}
use mir.Syntax.{w64}
use mir.Val.{to_z, of_z}
use Rattle.arithmetic.proofs.Held.{tests-positive}
use Rattle.cubemap.specs.declared.Ray.{Ray}
use Rattle.cubemap.specs.RayToPlace.{face_of}
use Rattle.cubemap.specs.Checks.{ray_in_range, ray_nonzero}
use Rattle.cubemap.proofs.Ranges.{ray-range}
use Rattle.cubemap.proofs.HeldNumbers.{HeldRay, held-ray}
use Rattle.cubemap.proofs.Faces.{face-by-x, face-by-y, face-by-z}
use Rattle.geometry.proofs.face_of.Goals as goal

-- of a ray v, with the sizes that the code took of its numbers as the machine reads them
module _ (v : Ray) (t : T (ray_in_range v) × T (ray_nonzero v)) (sx sy sz : ℕ)
    (e : sx ≡ nat_abs (to_z w64 (of_z w64 v.x))) (f : sy ≡ nat_abs (to_z w64 (of_z w64 v.y))) (g : sz ≡ nat_abs (to_z w64 (of_z w64 v.z))) where
  holds : HeldRay 536870911 v
  holds = held-ray v (ray-range v t.0) tt

  size-x : sx ≡ nat_abs v.x
  size-x = e ∙ ap nat_abs holds.x.is

  size-y : sy ≡ nat_abs v.y
  size-y = f ∙ ap nat_abs holds.y.is

  size-z : sz ≡ nat_abs v.z
  size-z = g ∙ ap nat_abs holds.z.is

  -- where the test of an axis fails
  abbrev NotX : Type 0
  NotX = (sy ≤ sx × sx < sz) ⊎ (sx < sy)

  abbrev NotY : Type 0
  NotY = (sx ≤ sy × sy < sz) ⊎ (sy < sx)

  not-x : NotX → nat_abs v.y ≤ nat_abs v.x → nat_abs v.z ≤ nat_abs v.x → ⊥
  not-x h p q = ⊎_elim (λ w. omega (arith, size-x, size-z)) (λ w. omega (arith, size-x, size-y)) h

  not-y : NotY → nat_abs v.x ≤ nat_abs v.y → nat_abs v.z ≤ nat_abs v.y → ⊥
  not-y h p q = ⊎_elim (λ w. omega (arith, size-y, size-z)) (λ w. omega (arith, size-x, size-y)) h

  -- the two rows of each axis, by the test of its sign
  row-x : (b : Bool) → sy ≤ sx → sz ≤ sx → lt_z (pos 0) (to_z w64 (of_z w64 v.x)) ≡ b → cond b 0 1 ≡ face_of v
  row-x b p q s = face-by-x v t.1 (omega (arith, size-x, size-y)) (omega (arith, size-x, size-z)) b (tests-positive holds.x.is s)

  row-y : (b : Bool) → NotX → sx ≤ sy → sz ≤ sy → lt_z (pos 0) (to_z w64 (of_z w64 v.y)) ≡ b → cond b 2 3 ≡ face_of v
  row-y b n p q s =
      face-by-y v t.1 (not-x n) (omega (arith, size-x, size-y)) (omega (arith, size-y, size-z)) b (tests-positive holds.y.is s)

  row-z : (b : Bool) → NotX → NotY → lt_z (pos 0) (to_z w64 (of_z w64 v.z)) ≡ b → cond b 4 5 ≡ face_of v
  row-z b n m s = face-by-z v t.1 (not-x n) (not-y m) b (tests-positive holds.z.is s)

pub returns-then-v-gt0 : goal.returns-then-v-gt0
returns-then-v-gt0 c = row-x c.args.v c.requires _ _ _ c.unsigned_abs-sx.ensures.value c.unsigned_abs-sy.ensures.value c.unsigned_abs-sz.ensures.value
    true c.if-sy-sx.true c.if-sz-sx.true c.if-v-gt0.true

pub returns-else-v-gt0 : goal.returns-else-v-gt0
returns-else-v-gt0 c = row-x c.args.v c.requires _ _ _ c.unsigned_abs-sx.ensures.value c.unsigned_abs-sy.ensures.value c.unsigned_abs-sz.ensures.value
    false c.if-sy-sx.true c.if-sz-sx.true c.if-v-gt0.false

pub returns-then-v-gt0-2 : goal.returns-then-v-gt0-2
returns-then-v-gt0-2 c = row-y c.args.v c.requires _ _ _ c.unsigned_abs-sx.ensures.value c.unsigned_abs-sy.ensures.value c.unsigned_abs-sz.ensures.value
    true c.else-sy-sx.either c.if-sx-sy.true c.if-sz-sy.true c.if-v-gt0-2.true

pub returns-else-v-gt0-2 : goal.returns-else-v-gt0-2
returns-else-v-gt0-2 c = row-y c.args.v c.requires _ _ _ c.unsigned_abs-sx.ensures.value c.unsigned_abs-sy.ensures.value c.unsigned_abs-sz.ensures.value
    false c.else-sy-sx.either c.if-sx-sy.true c.if-sz-sy.true c.if-v-gt0-2.false

pub returns-then-v-gt0-3 : goal.returns-then-v-gt0-3
returns-then-v-gt0-3 c = row-z c.args.v c.requires _ _ _ c.unsigned_abs-sx.ensures.value c.unsigned_abs-sy.ensures.value c.unsigned_abs-sz.ensures.value
    true c.else-sy-sx.either c.else-sx-sy.either c.if-v-gt0-3.true

pub returns-else-v-gt0-3 : goal.returns-else-v-gt0-3
returns-else-v-gt0-3 c = row-z c.args.v c.requires _ _ _ c.unsigned_abs-sx.ensures.value c.unsigned_abs-sy.ensures.value c.unsigned_abs-sz.ensures.value
    false c.else-sy-sx.either c.else-sx-sy.either c.if-v-gt0-3.false
