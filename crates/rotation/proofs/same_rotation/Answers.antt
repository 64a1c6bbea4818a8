-- `same_rotation` meets its contract: the numbers of both, once reduced, are compared.
use mathlib.Core.Path.{◌≡◌, refl, sym, ◌∙◌, ap₂, subst}
use mathlib.Core.Bool.{Bool, true, false, ◌&&◌}
use native.Mathlib.Omega.{arith}
use lib.Dec.{T}
use lib.IntN.{ℤ}
use Rattle.std.proofs.Common.{int_eq}
use Rattle.arithmetic.specs.Integers.{equalℤ}
use Rattle.std.proofs.lemmas.Bool.Decides.{Decides-int_eq, same_from_decides}
use Rattle.arithmetic.proofs.Tests.{passes, same_test}
use Rattle.arithmetic.proofs.Sizes.{equalℤ→eq, equalℤ-refl}
use Rattle.cubemap.specs.declared.Rotation.{Rotation}
use Rattle.cubemap.specs.Rotations.{same_numbers}
use Rattle.cubemap.specs.Checks.{rotation_in_range}
use Rattle.cubemap.proofs.Ranges.{Within, rotation-range, within_more}
use Rattle.cubemap.proofs.Reduction.{same-reduced}
use Rattle.rotation.proofs.same_rotation.Goals as goal

small : (t : Rotation) → T (rotation_in_range t) → Within 3844 t
small t h = within_more t (omega arith) (rotation-range t h)

equal : (x y : ℤ) → int_eq x y ≡ equalℤ x y
equal x y = same_from_decides (int_eq x y) (equalℤ x y) (Decides-int_eq x y)
    (λ h. equalℤ→eq x y (passes h), λ e. subst (λ z. equalℤ x z ≡ true) e (same_test (equalℤ x x) true (λ _. tt) (λ _. equalℤ-refl x)))

regroup : (a b c d : Bool) → (a && (b && (c && d))) ≡ (a && b && c && d)
regroup true true c d = refl
regroup true false c d = refl
regroup false b c d = refl

-- what the derived == computes
compared : (t u : Rotation) → (int_eq t.e0 u.e0 && (int_eq t.e1 u.e1 && (int_eq t.e2 u.e2 && int_eq t.e3 u.e3))) ≡ same_numbers t u
compared t u = regroup (int_eq t.e0 u.e0) (int_eq t.e1 u.e1) (int_eq t.e2 u.e2) (int_eq t.e3 u.e3) ∙ λ i. equal t.e0 u.e0 i && equal t.e1 u.e1 i && equal t.e2 u.e2 i && equal t.e3 u.e3 i

pub reduced-requires : goal.reduced-requires
reduced-requires c = small c.args.a c.requires.0

pub reduced-requires-2 : goal.reduced-requires-2
reduced-requires-2 c = small c.args.b c.requires.1

pub returns : goal.returns
returns c =
    c.eq.ensures ∙ compared c.reduced.result c.reduced-2.result ∙ ap₂ same_numbers c.reduced.ensures c.reduced-2.ensures
    ∙ sym (same-reduced c.args.a c.args.b)
