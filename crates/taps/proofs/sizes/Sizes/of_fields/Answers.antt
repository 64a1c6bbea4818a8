-- `of_fields` meets its contract: the products and their sums are small.
use Prim.Native.Nat.{ℕ, ◌+◌, ◌*◌, ◌/◌, ◌%◌, ◌^◌, ◌<◌}
use native.Mathlib.Nat.{le_trans, mul-le-mul_left}
use native.Mathlib.Omega.{arith}
use lib.IntN.{pos}
use Rattle.arithmetic.proofs.Held.{Held, held-nat, held-literal, sub-ok, sub, read_small}
use Rattle.taps.specs.declared.sizes.Sizes.{Sizes}
use Rattle.taps.proofs.sizes.Sizes.of_fields.Goals as goal

-- what is added, and what is taken away
module _ (z : Sizes) (e o : ℕ) (he : e < 2 ^ 64) (ho : o < 2 ^ 64) where
  abbrev inner : ℕ
  inner = z.s1 * (o % 4294967296) + z.s2 * (e / 4294967296)

  abbrev outer : ℕ
  outer = z.s0 * (e % 4294967296) + z.s3 * (o / 4294967296)

  held_inner : Held inner (pos inner) 2533274790395904
  held_inner = held-nat (omega (
    arith,
    mul-le-mul_left {m = o % 4294967296} {n = 4294967296} z.s1 (omega arith),
    mul-le-mul_left {m = e / 4294967296} {n = 4294967296} z.s2 (omega arith),
    z.is_sizes.adds,
    z.is_sizes.outer-small,
  )) tt

  held-outer : Held outer (pos outer) 281474976710656
  held-outer = held-nat (omega (
    arith,
    mul-le-mul_left {m = e % 4294967296} {n = 4294967296} z.s0 (omega arith),
    mul-le-mul_left {m = o / 4294967296} {n = 4294967296} z.s3 (omega arith),
    z.is_sizes.outer-small,
  )) tt

pub returns : goal.returns
returns c =
    let a = c.args in
    let x = held_inner a.self a.e a.o (omega arith) (omega arith) in
    let y = held-outer a.self a.e a.o (omega arith) (omega arith) in
    let h = sub (sub x y tt) (held-literal 140737488355328 tt) tt in
    (h.is, le_trans (read_small h) (omega arith))

pub overflow_sub-result : goal.overflow_sub-result
overflow_sub-result c =
    let a = c.args in
    sub-ok (held_inner a.self a.e a.o (omega arith) (omega arith))
    (held-outer a.self a.e a.o (omega arith) (omega arith)) tt

pub overflow_sub-result-2 : goal.overflow_sub-result-2
overflow_sub-result-2 c =
    let a = c.args in
    let x = held_inner a.self a.e a.o (omega arith) (omega arith) in
    let y = held-outer a.self a.e a.o (omega arith) (omega arith) in
    sub-ok (sub x y tt) (held-literal 140737488355328 tt) tt
