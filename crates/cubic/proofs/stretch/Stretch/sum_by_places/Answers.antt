-- `sum_by_places` meets its contract: four rows, each tap by its place.
use mathlib.Core.Path.{◌∙◌}
use Prim.Native.Nat.{ℕ}
use lib.IntN.{ℤ, pos, ◌+ℤ◌}
use Rattle.arithmetic.proofs.Held.{held, held-literal, add, read_result}
use Rattle.taps.specs.InOrder.{in_order}
use Rattle.taps.proofs.TapSums.{packed-grid}
use Rattle.cubic.specs.Stretches.{tap_of}
use Rattle.cubic.proofs.TapRows.{packed-at, firstℤ}
use Rattle.cubic.proofs.stretch.Stretch.sum_by_places.Goals as goal

pub returns : goal.returns
returns c =
    let a = c.args in
    let s : ℤ → ℤ → ℕ → ℕ = λ y x i. tap_of a.self (x +ℤ pos i) y in
    let column = (held a.column c.requires.0 tt).is in
    let row = held a.row c.requires.1 tt in
    let r = c.sixteen.ensures in
    read_result tt (
      r.0 ∙ packed-grid (in_order a.w) (in_order a.u) (λ j. s (a.row +ℤ pos j) a.column)
          (packed-at s (row.is ∙ firstℤ a.row) column c.row_by_places-a.ensures.0)
          (packed-at s (add row (held-literal 1 tt) tt).is column c.row_by_places-b.ensures.0)
          (packed-at s (add row (held-literal 2 tt) tt).is column c.row_by_places-c.ensures.0)
          (packed-at s (add row (held-literal 3 tt) tt).is column c.row_by_places-d.ensures.0),
      r.1,
    )
