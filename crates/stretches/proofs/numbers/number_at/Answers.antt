-- `number_at` meets its contract: the product lies between two numbers below 2^30, so 32 bits hold it.
use mathlib.Core.Path.{◌≡◌, sym, ◌∙◌, ap, ap₂, subst}
use mathlib.Core.List.{[], ◌∷◌}
use Prim.Native.Nat.{◌≤◌}
use native.Mathlib.Omega.{arith}
use lib.Dec.{T}
use lib.IntN.{ℤ, neg_ℤ, nat_abs, ◌+ℤ◌, ◌*ℤ◌}
use lib.Signed.{non_neg}
use mir.Syntax.{w32, w64}
use mir.Val.{SFits, to_z, of_z}
use mir.Facts.{to_z-of_z}
use Rattle.arithmetic.proofs.Narrow.{Narrow, sfits, narrow, cast_ok}
use Rattle.arithmetic.proofs.Ring.{var, ◌⊕◌, ◌⊝◌, solve}
use Rattle.arithmetic.proofs.Sizes.{nat_abs-add, nat_abs-neg}
use Rattle.stretches.proofs.numbers.number_at.Goals.{Start}
use Rattle.stretches.proofs.numbers.number_at.Goals as goal

-- a difference of two small numbers
difference-most : (x y : ℤ) → nat_abs (x +ℤ y) ≤ 1073741822 → nat_abs x ≤ 1073741822 → nat_abs y ≤ 2147483644
difference-most x y h k =
    let e : nat_abs y ≡ nat_abs (x +ℤ y +ℤ neg_ℤ x) = ap nat_abs (solve (x ∷ y ∷ []) (var 1) (var 0 ⊕ var 1 ⊝ var 0) tt) in
    omega (arith, nat_abs-add (x +ℤ y) (neg_ℤ x), nat_abs-neg x)

module _ (c : Start) where
  abbrev product : ℤ
  product = c.args.a *ℤ c.args.slope

  a : Narrow (of_z w32 (to_z w64 (of_z w64 c.args.a))) c.args.a 65536
  a = narrow c.args.a c.requires.start_bound.1 tt

  slope-is : to_z w32 (of_z w32 c.args.slope) ≡ c.args.slope
  slope-is = to_z-of_z c.ranges.slope

  start_is : to_z w32 (of_z w32 c.args.start) ≡ c.args.start
  start_is = to_z-of_z c.ranges.start

  abbrev factors : ℤ
  factors = to_z w32 (of_z w32 (to_z w64 (of_z w64 c.args.a))) *ℤ to_z w32 (of_z w32 c.args.slope)

  factors-are : factors ≡ product
  factors-are = ap₂ ◌*ℤ◌ a.is slope-is

  product-fits : SFits w32 factors
  product-fits = subst (SFits w32) (sym factors-are)
      (sfits product (difference-most c.args.start product c.requires.slope_value.1 c.requires.start_bound.0) tt)

  abbrev terms : ℤ
  terms = to_z w32 (of_z w32 c.args.start) +ℤ to_z w32 (of_z w32 factors)

  terms-are : terms ≡ c.args.start +ℤ product
  terms-are = ap₂ ◌+ℤ◌ start_is (to_z-of_z product-fits ∙ factors-are)

  sum_fits : SFits w32 terms
  sum_fits = subst (SFits w32) (sym terms-are) (sfits (c.args.start +ℤ product) c.requires.slope_value.1 tt)

  sum : Narrow (of_z w32 terms) (c.args.start +ℤ product) 1073741822
  sum = record { is = to_z-of_z sum_fits ∙ terms-are; small = c.requires.slope_value.1 }

pub returns : goal.returns
returns c = ap nat_abs (sum c).is

pub overflow_cast-result-2 : goal.overflow_cast-result-2
overflow_cast-result-2 c = cast_ok (sum c) tt (subst (λ z. T (non_neg z)) c.requires.slope_value.0 tt)
