-- `sum_of_rows` meets its contract: each row is a stride from the one before.
use mathlib.Core.Path.{◌≡◌, ◌∙◌, ap, subst}
use mathlib.Core.List.{List}
use Prim.Native.Nat.{ℕ, ◌+◌, ◌*◌, ◌^◌, ◌<◌}
use native.Mathlib.Omega.{arith}
use lib.IntN.{ℤ, pos, nat_abs, ◌+ℤ◌, ◌*ℤ◌}
use lib.ListN.{length}
use mir.Syntax.{w64}
use mir.Val.{to_z, of_z}
use Rattle.arithmetic.specs.Integers.{natural}
use Rattle.arithmetic.proofs.Sizes.{nat_abs-natural}
use Rattle.arithmetic.proofs.Held.{Held, held, cast_ok, read_result}
use Rattle.cubemap.specs.Frames.{sample_at}
use Rattle.taps.specs.Fields.{Packed, Packed12}
use Rattle.taps.specs.InOrder.{in_order}
use Rattle.taps.proofs.TapSums.{packed-grid, packed-12}
use Rattle.cubic.proofs.TapRows.{on-0, on-1, on-2, on-3}
use Rattle.cubic.proofs.inside.sum_of_rows.Goals.{After-four-d, Start}
use Rattle.cubic.proofs.inside.sum_of_rows.Goals as goal

module _ (c : Start) where
  first : Held (of_z w64 c.args.first) c.args.first (2 ^ 21)
  first = held c.args.first c.requires.0 tt

  stride : Held (of_z w64 c.args.stride) c.args.stride 1536
  stride = held c.args.stride c.requires.1 tt

  abbrev plane : List ℕ
  plane = c.args.plane.now

  -- where row j begins, and its samples
  abbrev at : ℕ → ℤ
  at j = c.args.first +ℤ pos j *ℤ c.args.stride

  abbrev row : ℕ → ℕ → ℕ
  row j i = sample_at plane (natural (at j) + i)

  module _ (j : ℕ) (l : j < 4) {n B : ℕ} (h : Held n (at j) B) where
    index : nat_abs (to_z w64 n) ≡ natural (at j)
    index = ap nat_abs h.is ∙ nat_abs-natural (at j) (c.requires.2.least j l)

    within : 2 * (nat_abs (to_z w64 n) + 3) + 1 < length plane
    within = omega (arith, index, c.requires.2.inside j l)

    packs : {r : ℕ} → Packed r (λ i. sample_at plane (nat_abs (to_z w64 n) + i)) → Packed r (row j)
    packs {r} p = subst (λ x. Packed r (λ i. sample_at plane (x + i))) index p

  small : {r : ℕ} (j : ℕ) → j < 4 → Packed r (row j) → Packed12 r
  small j l p = packed-12 p (λ i o. c.requires.2.small j i l o)

module _ (c : After-four-d) where
  abbrev start : Start
  start = c.before.before.before.before.before.before

  row-0 : Packed c.four-a.result (row start 0)
  row-0 = packs start 0 (omega arith) (on-0 (first start) (stride start)) c.four-a.ensures

  row-1 : Packed c.four-b.result (row start 1)
  row-1 = packs start 1 (omega arith) (on-1 (first start) (stride start) tt) c.four-b.ensures

  row-2 : Packed c.four-c.result (row start 2)
  row-2 = packs start 2 (omega arith) (on-2 (first start) (stride start) tt) c.four-c.ensures

  row-3 : Packed c.four-d.result (row start 3)
  row-3 = packs start 3 (omega arith) (on-3 (first start) (stride start) tt) c.four-d.ensures

pub returns : goal.returns
returns c =
    let f = (goal.at.returns c).After-four-d in
    let s : Start = start f in
    read_result tt (
      c.sixteen.ensures.0 ∙ packed-grid (in_order s.args.w) (in_order s.args.u) (row s) (row-0 f) (row-1 f) (row-2 f)
          (row-3 f),
      c.sixteen.ensures.1,
    )

pub overflow_cast-first : goal.overflow_cast-first
overflow_cast-first c =
    let s = (goal.at.overflow_cast-first c).Start in
    cast_ok (on-0 (first s) (stride s)) tt (s.requires.2.least 0 (omega arith))

pub four-a-requires : goal.four-a-requires
four-a-requires c = let s = (goal.at.four-a-requires c).Start in within s 0 (omega arith) (on-0 (first s) (stride s))

pub overflow_cast-first-2 : goal.overflow_cast-first-2
overflow_cast-first-2 c =
    let s = (goal.at.overflow_cast-first-2 c).Start in
    cast_ok (on-1 (first s) (stride s) tt) tt (s.requires.2.least 1 (omega arith))

pub four-b-requires : goal.four-b-requires
four-b-requires c = let s = (goal.at.four-b-requires c).Start in within s 1 (omega arith) (on-1 (first s) (stride s) tt)

pub overflow_cast-first-3 : goal.overflow_cast-first-3
overflow_cast-first-3 c =
    let s = (goal.at.overflow_cast-first-3 c).Start in
    cast_ok (on-2 (first s) (stride s) tt) tt (s.requires.2.least 2 (omega arith))

pub four-c-requires : goal.four-c-requires
four-c-requires c =
    let s = (goal.at.four-c-requires c).Start in
    within s 2 (omega arith) (on-2 (first s) (stride s) tt)

pub overflow_cast-first-4 : goal.overflow_cast-first-4
overflow_cast-first-4 c =
    let s = (goal.at.overflow_cast-first-4 c).Start in
    cast_ok (on-3 (first s) (stride s) tt) tt (s.requires.2.least 3 (omega arith))

pub four-d-requires : goal.four-d-requires
four-d-requires c =
    let s = (goal.at.four-d-requires c).Start in
    within s 3 (omega arith) (on-3 (first s) (stride s) tt)

pub sixteen-requires : goal.sixteen-requires
sixteen-requires c =
    let s : Start = start c in (
      small s 0 (omega arith) (row-0 c),
      small s 1 (omega arith) (row-1 c),
      small s 2 (omega arith) (row-2 c),
      small s 3 (omega arith) (row-3 c),
    )
