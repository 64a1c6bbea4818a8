-- The divisor of the first two numbers, of the last two, and of these two; 1 where all four numbers are 0.
use mathlib.Core.Path.{◌≡◌, refl, sym, ◌∙◌, subst₂}
use native.Mathlib.Omega.{arith}
use Prim.Native.Nat.{ℕ, zero, suc, ◌<◌, max}
use borrow.Author.Rules.{rules}
use lib.IntN.{ℤ, nat_abs}
use mir.Syntax.{w64}
use mir.Val.{SFits, to_z, of_z}
use Rattle.arithmetic.proofs.Held.{read_back}
use Rattle.arithmetic.proofs.Divisors.{IsGcd}
use Rattle.cubemap.specs.declared.Rotation.{Rotation}
use Rattle.cubemap.specs.Rotations.{common_divisor}
use Rattle.cubemap.proofs.Reduction.{divisor-by-pairs, divisor-of-zeros}
use Rattle.rotation.proofs.common_divisor.Goals as goal

-- a divisor of two numbers' sizes, as the machine read the numbers
of-sizes : {m n g : ℕ} (x y : ℤ) → SFits w64 x → SFits w64 y → m ≡ nat_abs (to_z w64 (of_z w64 x)) → n ≡ nat_abs (to_z w64 (of_z w64 y)) → IsGcd m n g
    → IsGcd (nat_abs x) (nat_abs y) g
of-sizes {m} {n} {g} x y p q e f h = subst₂ (λ j k. IsGcd j k g) (read_back nat_abs x p e) (read_back nat_abs y q f) h

at-least-one : (t : Rotation) (m n g : ℕ) → IsGcd (nat_abs t.e0) (nat_abs t.e1) m → IsGcd (nat_abs t.e2) (nat_abs t.e3) n → IsGcd m n g
    → max g 1 ≡ common_divisor t
at-least-one t m n zero p q r = sym (divisor-of-zeros t m n zero p q r refl)
at-least-one t m n (suc g) p q r = let h : 0 < suc g = omega arith in omega (arith, divisor-by-pairs t m n (suc g) p q r h)

pub returns : goal.returns
returns c =
    let t = c.args.t in
    c.max.ensures ∙ at-least-one t c.gcd-g01.result c.gcd-g23.result c.gcd.result
    (of-sizes t.e0 t.e1 (search rules) (search rules) c.unsigned_abs.ensures.value c.unsigned_abs-2.ensures.value c.gcd-g01.ensures)
    (of-sizes t.e2 t.e3 (search rules) (search rules) c.unsigned_abs-3.ensures.value c.unsigned_abs-4.ensures.value c.gcd-g23.ensures)
    c.gcd.ensures
