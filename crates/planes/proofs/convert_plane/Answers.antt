-- `convert_plane` meets its contract: after each run the samples up to its end are placed.
use mathlib.Core.Path.{◌≡◌, refl, sym, ◌∙◌, ap, subst}
use mathlib.Core.List.{List}
use Prim.Native.Nat.{ℕ, ◌+◌, ◌*◌, ◌-◌, ◌≤◌, ◌<◌}
use native.Mathlib.Nat.{zero-mul, mul-le-mul_left}
use native.Mathlib.Omega.{arith}
use lib.ListN.{length}
use borrow.Rule.Slice.PartMut.{put_mid}
use Rattle.cubemap.specs.Frames.{framed, plane_samples}
use Rattle.cubemap.proofs.Framed.{framed-cong}
use Rattle.frame.specs.Placing.{placed}
use Rattle.frame.proofs.Placing.{Placed, kept, none-placed, placed-more, put-placed, placed-all}
use Rattle.strides.proofs.StrideIndices.{plane-small}
use Rattle.positions.specs.RayLines.{coordinate_at}
use Rattle.resampling.specs.RowOfRays.{ray_at, value_on}
use Rattle.planes.specs.TargetPlane.{value_at_index}
use Rattle.planes.proofs.RunRays as rays
use Rattle.planes.proofs.convert_plane.Goals as goal

-- the target has room for a run
module _ (A run : ℕ) (h : run < 6 * A) where
  room : run * A + A ≤ plane_samples A
  room = omega (arith, mul-le-mul_left A h)

  small : A ≤ 512 → 2 * (run * A) + 2 * A ≤ 3145728
  small most = omega (arith, room, plane-small A most)

  module _ {f : ℕ → ℕ} {first target : List ℕ} (placed-so-far : Placed 2 0 f first target (plane_samples A) (run * A))
      (whole : length first ≡ 2 * plane_samples A) where
    within : 2 * (run * A) + 2 * A ≤ length target
    within = omega (arith, room, kept 2 placed-so-far (omega (arith, whole)), whole)

    -- one more run
    next : {after : List ℕ} → after ≡ placed 2 target (run * A) (λ j. f (run * A + j)) A
        → Placed 2 0 f first after (plane_samples A) ((run + 1) * A)
    next e = placed-more 2 A ((run + 1) * A) placed-so-far (omega arith) (omega (arith, room)) (omega (arith, whole)) e

pub returns : goal.returns
returns c =
    let A = c.args.c.target.size in
    let f = value_at_index c.args.c in
    let i = c.loop-run.invariant in
    let end : 6 * A ≤ c.loop-run.run = omega (arith, c.loop-run-test.false) in
    i.holds
    ∙ ap (placed 2 c.args.target.now 0 f) (omega (arith, i.bounded, mul-le-mul_left A end))
    ∙ placed-all 2 c.args.target.now f (plane_samples A) c.requires.1

counted : (k n : ℕ) → n ≡ k + n - k
counted k n = omega arith

pub loop-run-preserved : goal.loop-run-preserved
loop-run-preserved c =
    let a = c.args in
    let A = a.c.target.size in
    let ready = c.requires.0 in
    let run = c.loop-run.run in
    let target = c.loop-run.target in
    let first = 2 * (run * A) in
    let last = first + 2 * A in
    let f = value_at_index a.c in
    let e = c.run_row.ensures in
    next A run c.loop-run-test.true c.loop-run.invariant c.requires.1
    (ap (put_mid first (last - first) target)
    (c.convert_along.ensures
    ∙ (λ i. framed 2 (λ j. value_on (e.0 i) (ray_at (e.2 i) (coordinate_at (e.1 i).now j))) (length (e.1 i).now))
    ∙ framed-cong 2 _ (λ j. f (run * A + j)) (length a.coordinates.now) (λ j m.
    ap (value_on a.c.source)
    (sym (rays.run-ray a.c a.coordinates.now ready run c.loop-run-test.true j (omega (arith, m, ready.columns)))))
    ∙ ap (framed 2 _) (ready.columns ∙ counted (run * A) A))
    ∙ put-placed 2 target (run * A) (run * A + A) first last _ refl (omega arith) (omega arith)
    ∙ ap (placed 2 target (run * A) _) (sym (counted (run * A) A)))

pub loop-run-init : goal.loop-run-init
loop-run-init c = subst (Placed 2 0 _ _ _ _) (sym (zero-mul c.args.c.target.size)) (none-placed 2 _ 0 _ _)

pub slice_bounds-convert_along-end : goal.slice_bounds-convert_along-end
slice_bounds-convert_along-end c =
    omega (arith, within c.args.c.target.size c.loop-run.run c.loop-run-test.true c.loop-run.invariant c.requires.1)
