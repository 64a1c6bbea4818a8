-- `run_row` meets its contract: the slot and the row of the run, and the rays of that row.
use mathlib.Core.Path.{◌≡◌, refl, sym, subst}
use mathlib.Core.List.{List}
use Prim.Native.Nat.{ℕ, ◌/◌, ◌%◌, ◌<◌}
use native.Mathlib.Nat.{mod-lt}
use lib.IntN.{ℤ}
use mir.Syntax.{w64}
use mir.Val.{of_z}
use Rattle.arithmetic.proofs.Held.{Held, held, read_small}
use Rattle.cubemap.specs.Frames.{layout_bytes, face_in, quarter_turns_in}
use Rattle.positions.specs.RayLines.{coordinate_at}
use Rattle.resampling.specs.declared.RowRays.{RowRays}
use Rattle.resampling.specs.RowOfRays.{RowReady}
use Rattle.planes.specs.TargetPlane.{slot_of_run}
use Rattle.planes.proofs.RunRays as rays
use Rattle.planes.proofs.Conversion.run_row.Goals.{Start}
use Rattle.planes.proofs.Conversion.run_row.Goals as goal

module _ (s : Start) where
  abbrev A : ℕ
  A = s.args.self.target.size

  abbrev L : List ℕ
  L = layout_bytes s.args.self.target.layout

  abbrev slot : ℕ
  slot = slot_of_run A s.args.run

  abbrev row : ℕ
  row = s.args.run / 3 % A

  abbrev coordinate : ℤ
  coordinate = coordinate_at s.args.coordinates.now row

  slot-below : slot < 6
  slot-below = rays.slot-below s.args.self s.args.coordinates.now s.requires.0 s.args.run s.requires.1

  row_below : row < A
  row_below = mod-lt (s.args.run / 3) s.requires.0.size-least

  held-v : Held (of_z w64 coordinate) coordinate 65536
  held-v = held coordinate
      (rays.coordinate-small s.args.self s.args.coordinates.now s.requires.0 s.args.run
      s.requires.1 row row_below) tt

  face-below : {k : ℕ} → k ≡ face_in L slot → k < 6
  face-below e = subst (λ k. k < 6) (sym e)
      (rays.face-below s.args.self s.args.coordinates.now s.requires.0 s.args.run s.requires.1)

  turns-below : {k : ℕ} → k ≡ quarter_turns_in L slot → k < 4
  turns-below e = subst (λ k. k < 4) (sym e)
      (rays.turns-below s.args.self s.args.coordinates.now s.requires.0 s.args.run s.requires.1)

pub invariant_of-slot : goal.invariant_of-slot
invariant_of-slot c =
    let s = (goal.at.invariant_of-slot c).Start in
    record { face_known = face-below s c.face_in.ensures; turns_known = turns-below s c.turns_in.ensures }

pub run_start-requires : goal.run_start-requires
run_start-requires c =
    let s = (goal.at.run_start-requires c).Start in
    (s.requires.0.rotation-in-range, s.requires.0.size-most, read_small (held-v s))

pub returns : goal.returns
returns c =
    let s = (goal.at.returns c).Start in (
      refl,
      refl,
      rays.rays-are s.args.self s.args.coordinates.now s.args.run c.face_in.ensures c.turns_in.ensures (held-v s).is
          c.run_start.ensures c.run_slope.ensures c.evenly.ensures,
    )

pub invariant_of-result : goal.invariant_of-result
invariant_of-result c =
    let s = (goal.at.invariant_of-result c).Start in
    let a = s.args in
    record {
      ready = subst (λ (r : RowRays). RowReady r a.coordinates.now) (sym
          (rays.rays-are a.self a.coordinates.now a.run c.face_in.ensures c.turns_in.ensures (held-v s).is
          c.run_start.ensures c.run_slope.ensures c.evenly.ensures))
          (rays.row-ready a.self a.coordinates.now s.requires.0 a.run s.requires.1);
    }
