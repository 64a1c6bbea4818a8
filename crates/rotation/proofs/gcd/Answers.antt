-- The divisor of the odd parts, with as many factors of two as both numbers have.
use mathlib.Core.Path.{◌≡◌}
use mathlib.Core.Logic.{◌⊎◌, inl, inr}
use native.Mathlib.Omega.{arith}
use Prim.Native.Nat.{ℕ, ◌*◌, ◌^◌, ◌%◌, ◌<◌, ◌≤◌, min}
use Rattle.arithmetic.proofs.Divisors.{IsGcd, gcd-swap, gcd-last}
use Rattle.rotation.proofs.gcd.Goals as goal

-- from the odd parts A and B, and the smaller one m of s and t
smaller : (a b A B g s t m : ℕ) → m ≡ min s t → a ≡ A * 2 ^ s → b ≡ B * 2 ^ t → A % 2 ≡ 1 → B % 2 ≡ 1 → IsGcd A B g → a < 2 ^ 64 → b < 2 ^ 64
    → IsGcd a b (g * 2 ^ m % 2 ^ 64)
smaller a b A B g s t m e p q o u r f h = go (cases s t)
  where
    cases : (s t : ℕ) → ((s ≤ t) × (min s t ≡ s)) ⊎ ((t ≤ s) × (min s t ≡ t))
    cases s t = grind arith

    go : ((s ≤ t) × (min s t ≡ s)) ⊎ ((t ≤ s) × (min s t ≡ t)) → IsGcd a b (g * 2 ^ m % 2 ^ 64)
    go (inl (l, k)) = rw (e, k) (gcd-last a b A B g s t p q o r l f)
    go (inr (l, k)) = rw (e, k) (gcd-swap (gcd-last b a B A g t s q p u (gcd-swap r) l h))

pub returns : goal.returns
returns c =
    let p = c.odd_part in
    let q = c.odd_part-2 in
    smaller c.args.a c.args.b p.result q.result c.gcd_of_odd-g.result _ _ c.min.result c.min.ensures
    p.ensures.1 q.ensures.1 p.ensures.0 q.ensures.0 c.gcd_of_odd-g.ensures c.ranges.a.fits c.ranges.b.fits
