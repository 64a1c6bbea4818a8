-- Both numbers stay odd, and what divides them both does not change. Each turn makes their sum smaller.
use mathlib.Core.Path.{◌≡◌, sym, subst}
use native.Mathlib.Omega.{arith}
use Prim.Native.Nat.{ℕ, ◌-◌, ◌*◌, ◌%◌, ◌^◌, ◌≤◌}
use lib.Count.{count_trailing_zeros}
use Rattle.arithmetic.proofs.Divisors.{IsGcd, gcd-same, gcd-swap, gcd-strip, gcd-less}
use Rattle.rotation.proofs.gcd_of_odd.Goals as goal

-- the smaller number taken off the larger one, and the difference halved until it is odd
halved : (x y z g : ℕ) → x % 2 ≡ 1 → x ≤ y → y - x ≡ z * 2 ^ count_trailing_zeros 64 (y - x) → IsGcd x z g → IsGcd x y g
halved x y z g o l e h = gcd-less l (subst (λ m. IsGcd x m g) (sym e) (gcd-strip (count_trailing_zeros 64 (y - x)) o h))

pub loop-x-init : goal.loop-x-init
loop-x-init c = record { x-odd = c.requires.0; y-odd = c.requires.1; keeps = λ g h. h }

pub loop-x-smaller-then-x-y : goal.loop-x-smaller-then-x-y
loop-x-smaller-then-x-y c = omega (arith, c.loop-x.invariant.x-odd)

pub loop-x-preserved-then-x-y : goal.loop-x-preserved-then-x-y
loop-x-preserved-then-x-y c =
    let l = c.loop-x in
    let i = l.invariant in
    let r = c.odd_part-y in
    record {
      x-odd = i.x-odd;
      y-odd = r.ensures.0;
      keeps = λ g h. i.keeps g (halved l.x l.y r.result g i.x-odd (omega arith) r.ensures.1 h);
    }

pub loop-x-smaller : goal.loop-x-smaller
loop-x-smaller c = omega (arith, c.loop-x.invariant.y-odd)

pub loop-x-preserved : goal.loop-x-preserved
loop-x-preserved c =
    let l = c.loop-x in
    let i = l.invariant in
    let r = c.odd_part-x in
    record {
      x-odd = r.ensures.0;
      y-odd = i.y-odd;
      keeps = λ g h. i.keeps g (gcd-swap (halved l.y l.x r.result g i.y-odd (omega arith) r.ensures.1 (gcd-swap h)));
    }

pub returns : goal.returns
returns c =
    let x : ℕ = c.loop-x.x in
    c.loop-x.invariant.keeps x (subst (λ m. IsGcd x m x) c.loop-x-test.false (gcd-same x))
