-- `divided` meets its contract: each of the four numbers by the common divisor, which is small and not 0.
use mathlib.Core.Path.{◌≡◌, sym, ◌∙◌, ap, subst}
use Prim.Native.Nat.{ℕ, suc, ◌+◌, ◌^◌, ◌≤◌, ◌<◌}
use native.Mathlib.Nat.{mod-one}
use native.Mathlib.Omega.{arith}
use lib.IntN.{ℤ, nat_abs}
use borrow.Author.Rules.{rules}
use mir.Syntax.{w64}
use mir.Val.{SFits, to_z, of_z}
use mir.Facts.{to_z-of_z}
use Rattle.arithmetic.proofs.Held.{held}
use Rattle.arithmetic.proofs.Searches.{largest-is}
use Rattle.cubemap.specs.declared.Rotation.{Rotation}
use Rattle.cubemap.specs.Rotations.{divides_all, common_divisor, divided_by}
use Rattle.cubemap.proofs.Ranges.{Within}
use Rattle.cubemap.proofs.Rotations.{rotation-eq}
use Rattle.cubemap.proofs.Reduction.{sizes, Divides, divides-out, divisor-positive, divided-numbers}
use Rattle.rotation.proofs.divided.Goals as goal

-- no divisor is searched for beyond the sum of the four sizes
divisor-bounded : (t : Rotation) → common_divisor t ≤ sizes t + 1
unfolding common_divisor
divisor-bounded t =
    let one : Divides t 1 = record { d0 = mod-one (nat_abs t.e0); d1 = mod-one (nat_abs t.e1); d2 = mod-one (nat_abs t.e2); d3 = mod-one (nat_abs t.e3) } in
    omega (arith, (largest-is (divides_all t) (suc (sizes t)) 1 (omega arith) (divides-out t 1 one)).bounded)

module _ (t : Rotation) (d : ℕ) (e : d ≡ common_divisor t) (w : Within 3844 t) where
  small : d ≤ 15377
  small = let s0 = w.s0 in let s1 = w.s1 in let s2 = w.s2 in let s3 = w.s3 in omega (arith, divisor-bounded t, e)

  module _ (x : ℤ) (h : nat_abs x ≤ 3844) where
    -- what a quotient asks of its number and of the divisor
    asks : (0 < d) × (d < 2 ^ 31) × (nat_abs (to_z w64 (of_z w64 x)) < 2 ^ 31)
    asks = (
      subst (λ n. 0 < n) (sym e) (divisor-positive t),
      omega (arith, small),
      subst (λ z. nat_abs z < 2 ^ 31) (sym (held x h tt).is) (omega arith),
    )

    -- and what it gives, read back
    gives : (r : ℤ) → SFits w64 r → r ≡ divided_by d (to_z w64 (of_z w64 x))
        → to_z w64 (of_z w64 r) ≡ divided_by (common_divisor t) x
    gives r f g = to_z-of_z f ∙ g ∙ ap (divided_by d) (held x h tt).is ∙ ap (λ n. divided_by n x) e

pub divided_by-requires : goal.divided_by-requires
divided_by-requires c = asks c.args.t c.common_divisor-d.result c.common_divisor-d.ensures c.requires c.args.t.e0 c.requires.s0

pub divided_by-requires-2 : goal.divided_by-requires-2
divided_by-requires-2 c = asks c.args.t c.common_divisor-d.result c.common_divisor-d.ensures c.requires c.args.t.e1 c.requires.s1

pub divided_by-requires-3 : goal.divided_by-requires-3
divided_by-requires-3 c = asks c.args.t c.common_divisor-d.result c.common_divisor-d.ensures c.requires c.args.t.e2 c.requires.s2

pub divided_by-requires-4 : goal.divided_by-requires-4
divided_by-requires-4 c = asks c.args.t c.common_divisor-d.result c.common_divisor-d.ensures c.requires c.args.t.e3 c.requires.s3

pub returns : goal.returns
returns c =
    let t = c.args.t in
    let w = c.requires in
    let n = c.common_divisor-d.result in
    let e = c.common_divisor-d.ensures in
    rotation-eq
    (gives t n e w t.e0 w.s0 c.divided_by.result (search rules) c.divided_by.ensures)
    (gives t n e w t.e1 w.s1 c.divided_by-2.result (search rules) c.divided_by-2.ensures)
    (gives t n e w t.e2 w.s2 c.divided_by-3.result (search rules) c.divided_by-3.ensures)
    (gives t n e w t.e3 w.s3 c.divided_by-4.result (search rules) c.divided_by-4.ensures)
    ∙ sym (divided-numbers t)
