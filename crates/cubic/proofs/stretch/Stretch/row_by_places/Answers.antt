-- `row_by_places` meets its contract: four taps, each by its place, in one number.
use mathlib.Core.Path.{◌∙◌, ap₂}
use Prim.Native.Nat.{ℕ}
use native.Mathlib.Omega.{arith}
use lib.IntN.{ℤ}
use mir.Facts.{to_z-of_z}
use Rattle.arithmetic.proofs.Held.{held, held-literal, add}
use Rattle.cubic.specs.Stretches.{tap_of}
use Rattle.cubic.proofs.TapRows.{firstℤ}
use Rattle.cubic.proofs.stretch.Stretch.row_by_places.Goals as goal

pub returns : goal.returns
returns c =
    let a = c.args in
    let s : ℤ → ℤ → ℕ = tap_of a.self in
    let row = to_z-of_z c.ranges.row in
    let x = held a.column c.requires tt in
    let p = c.tap-a.ensures in
    let q = c.tap-b.ensures in
    let r = c.tap-c.ensures in
    let t = c.tap-d.ensures in
    let z = c.pack.ensures in (
      record {
        first = z.0 ∙ p.0 ∙ ap₂ s (x.is ∙ firstℤ a.column) row;
        second = z.1 ∙ q.0 ∙ ap₂ s (add x (held-literal 1 tt) tt).is row;
        third = z.2 ∙ r.0 ∙ ap₂ s (add x (held-literal 2 tt) tt).is row;
        fourth = z.3 ∙ t.0 ∙ ap₂ s (add x (held-literal 3 tt) tt).is row;
      },
      record {
        first-ok = omega (arith, z.0, p.1);
        second-ok = omega (arith, z.1, q.1);
        third-ok = omega (arith, z.2, r.1);
        fourth-ok = omega (arith, z.3, t.1);
      },
    )
