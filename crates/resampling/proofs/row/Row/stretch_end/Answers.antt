-- `stretch_end` meets its contract: the first ray of the stretch and the last meet the face, and so do those between.
use mathlib.Core.Path.{◌≡◌, sym, ◌∙◌, ap, subst}
use Prim.Native.Nat.{ℕ, ◌+◌, ◌-◌, ◌≤◌, ◌<◌}
use native.Mathlib.Omega.{arith}
use native.Mathlib.Nat.{lt_of_not-le}
use lib.IntN.{ℤ}
use lib.ListN.{length}
use Rattle.cubemap.specs.RayToPlace.{face_of}
use Rattle.cubemap.proofs.Faces.{Chosen, chosen, chosen-only}
use Rattle.cubemap.proofs.Regions.{chosen-between}
use Rattle.positions.specs.RayLines.{coordinate_at}
use Rattle.resampling.specs.RowOfRays.{ray_at, OneFace}
use Rattle.resampling.proofs.row.Row.stretch_end.Goals.{In-loop-to, Start}
use Rattle.resampling.proofs.row.Row.stretch_end.Goals as goal

module _ (s : Start) where
  -- the coordinate of a column, and what its ray meets
  abbrev coordinate : ℕ → ℤ
  coordinate m = coordinate_at s.args.self.coordinates.now m

  abbrev meets : ℕ → ℕ
  meets m = face_of (ray_at s.args.self.rays (coordinate m))

  -- the rays from the first column to another one that meets its face
  one-face : (m : ℕ) → s.args.from ≤ m → m < length s.args.self.coordinates.now → s.args.face ≡ meets m
      → OneFace s.args.self.rays s.args.self.coordinates.now s.args.face s.args.from (m + 1)
  one-face m l h e = record {
    meets = λ n p q. chosen-only s.args.face (ray_at s.args.self.rays (coordinate n))
        (chosen-between s.args.face s.args.self.rays.start s.args.self.rays.slope
        (s.args.self.ready.rising s.args.from n p (omega arith)) (s.args.self.ready.rising n m (omega arith) h)
        (on s.args.from (omega arith) s.requires.face_met) (on m h e));
  }
    where
      on : (n : ℕ) → n < length s.args.self.coordinates.now → s.args.face ≡ meets n
          → Chosen s.args.face (ray_at s.args.self.rays (coordinate n))
      on n h e = subst (λ f. Chosen f (ray_at s.args.self.rays (coordinate n))) (sym e)
          (chosen (ray_at s.args.self.rays (coordinate n)) (s.args.self.ready.leads n h).nonzero)

-- where the last ray meets another face, it is not the first ray
further : (c : In-loop-to) → c.args.from + 1 < c.loop-to.to
further c =
    let s = (goal.at.loop-to-smaller c).Start in
    lt_of_not-le (λ (h : c.loop-to.to ≤ c.args.from + 1).
    let first : c.loop-to.to - 1 ≡ c.args.from = omega (arith, c.loop-to.invariant.0) in
    c.loop-to-test.true (c.face_at.ensures ∙ ap (meets s) first ∙ sym c.requires.face_met))

pub loop-to-smaller : goal.loop-to-smaller
loop-to-smaller c = omega (arith, further c)

pub loop-to-preserved : goal.loop-to-preserved
loop-to-preserved c =
    let h = c.loop-to.invariant in
    (omega (arith, further c), omega (arith, further c, h.1))

pub returns : goal.returns
returns c =
    let s = (goal.at.returns c).Start in
    let h = c.loop-to.invariant in
    let to = c.loop-to.to in (
      h.0,
      h.1,
      subst (OneFace s.args.self.rays s.args.self.coordinates.now s.args.face s.args.from) (omega (arith, h.0))
          (one-face s (to - 1) (omega (arith, h.0)) (omega (arith, h.0, h.1))
          (sym c.loop-to-test.false ∙ c.face_at.ensures)),
    )
