-- A sum that a loop builds up, term by term, with a bound that keeps it within 64 bits.
use mathlib.Core.Path.{◌≡◌, sym, ◌∙◌, ap₂}
use Prim.Native.Nat.{ℕ, ◌+◌, ◌*◌, ◌≤◌}
use native.Mathlib.Omega.{arith}
use Rattle.arithmetic.specs.Sums.{sum_below}
use Rattle.arithmetic.proofs.Sums.{sum-empty, sum-next}

-- the sum of the first n terms, each at most B
pub record Running (f : ℕ → ℕ) (B n total : ℕ) : Type 0 where
  pub is : total ≡ sum_below f n
  pub small : total ≤ n * B

pub running_none : (f : ℕ → ℕ) (B : ℕ) → Running f B 0 0
running_none f B = record { is = sym (sum-empty f); small = omega arith }

pub running-next : {f : ℕ → ℕ} {B n total x : ℕ} → Running f B n total → x ≡ f n → x ≤ B
    → Running f B (n + 1) (total + x)
running-next {f} {B} {n} {total} {x} r e h = record {
  is = ap₂ ◌+◌ r.is e ∙ sym (sum-next f n);
  small = omega (arith, r.small);
}
