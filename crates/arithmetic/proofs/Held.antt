-- What the machine holds of a signed 64-bit number: the bits n, the number z that they read as, and a bound B on its size. Each operation has
-- one law: from what its two operands hold, that the operation does not overflow (`-ok`), and what its result holds. Where the bounds are
-- numerals, `tt` decides.
use mathlib.Core.Path.{◌≡◌, refl, sym, ◌∙◌, ap, ap₂, subst}
use mathlib.Core.Bool.{Bool, false}
use Prim.Native.Nat.{ℕ, zero, suc, ◌+◌, ◌*◌, ◌^◌, ◌≤◌, ◌<◌}
use native.Mathlib.Nat.{le_trans, le_refl, mul-le-mul, add-le-add, lt_of_le_of_lt, div-le_self}
use native.Mathlib.Omega.{arith}
use lib.Dec.{T, ltb, ltb→lt, eqb}
use borrow.Author.Tests.{lt-ltb, ne_eqb}
use lib.IntN.{ℤ, pos, negsuc, neg_ℤ, nat_abs, ◌+ℤ◌, ◌-ℤ◌, ◌*ℤ◌, +ℤ_idl}
use lib.Signed.{mag, lt_z, non_neg, shr_z}
use mir.Syntax.{w64}
use mir.Val.{SFits, Fits, to_z, of_z}
use mir.Facts.{to_z-of_z}
use Rattle.arithmetic.specs.Integers.{floor_div, is_positive}
use Rattle.arithmetic.proofs.Sizes.{neg_small, nat_abs_mul, nat_abs-add}

mag-nat_abs : (z : ℤ) → mag z ≤ nat_abs z
mag-nat_abs (pos n) = le_refl n
mag-nat_abs (negsuc n) = omega arith

pub sfits : {z : ℤ} {B : ℕ} → nat_abs z ≤ B → B < 2 ^ 63 → SFits w64 z
sfits {z} h k = record { sfits = lt_of_le_of_lt (le_trans (mag-nat_abs z) h) k }

pub record Held (n : ℕ) (z : ℤ) (B : ℕ) : Type 0 where
  pub is : to_z w64 n ≡ z
  pub small : nat_abs z ≤ B

pub read_small : {n : ℕ} {z : ℤ} {B : ℕ} → Held n z B → nat_abs (to_z w64 n) ≤ B
read_small {B = B} p = subst (λ x. nat_abs x ≤ B) (sym p.is) p.small

-- ---- what is held from the start

-- a parameter, or anything that holds the bits of z
pub held : (z : ℤ) {B : ℕ} → nat_abs z ≤ B → T (ltb B (2 ^ 63)) → Held (of_z w64 z) z B
held z {B} h t = record { is = to_z-of_z (sfits h (ltb→lt B (2 ^ 63) t)); small = h }

-- an unsigned number, cast
pub held-nat : {n B : ℕ} → n ≤ B → T (ltb B (2 ^ 63)) → Held n (pos n) B
held-nat {n} {B} h t = record { is = mir.Facts.to_z_pos w64 (lt_of_le_of_lt h (ltb→lt B (2 ^ 63) t)); small = h }

-- a number that is written
pub held-literal : (n : ℕ) → T (ltb n (2 ^ 63)) → Held n (pos n) n
held-literal n t = held-nat (le_refl n) t

-- what holds of the number that the bits of x read as holds of x
pub read_back : {X : Type 0} (f : ℤ → X) {r : X} (x : ℤ) → SFits w64 x → r ≡ f (to_z w64 (of_z w64 x)) → r ≡ f x
read_back f x s e = e ∙ ap f (to_z-of_z s)

-- a bounded result of a call, read: its value and its bound
pub read_result : {z e : ℤ} {B : ℕ} → T (ltb B (2 ^ 63)) → (z ≡ e) × (nat_abs z ≤ B) → (to_z w64 (of_z w64 z) ≡ e) × (nat_abs (to_z w64 (of_z w64 z)) ≤ B)
read_result {z} {e} {B} t (is, small) =
    let h : Held (of_z w64 z) z B = held z small t in
    (h.is ∙ is, read_small h)

-- ---- the operations

module _ {n m : ℕ} {x y : ℤ} {A B : ℕ} (p : Held n x A) (q : Held m y B) where
  mul_small : nat_abs (x *ℤ y) ≤ A * B
  mul_small = subst (λ k. k ≤ A * B) (sym (nat_abs_mul x y)) (mul-le-mul p.small q.small)

  add_small : nat_abs (x +ℤ y) ≤ A + B
  add_small = le_trans (nat_abs-add x y) (add-le-add p.small q.small)

  sub_small : nat_abs (x -ℤ y) ≤ A + B
  sub_small = le_trans (nat_abs-add x (neg_ℤ y)) (add-le-add p.small (neg_small y q.small))

  pub mul_ok : T (ltb (A * B) (2 ^ 63)) → SFits w64 (to_z w64 n *ℤ to_z w64 m)
  mul_ok t = subst (SFits w64) (sym (ap₂ ◌*ℤ◌ p.is q.is)) (sfits mul_small (ltb→lt (A * B) (2 ^ 63) t))

  pub add_ok : T (ltb (A + B) (2 ^ 63)) → SFits w64 (to_z w64 n +ℤ to_z w64 m)
  add_ok t = subst (SFits w64) (sym (ap₂ ◌+ℤ◌ p.is q.is)) (sfits add_small (ltb→lt (A + B) (2 ^ 63) t))

  pub sub-ok : T (ltb (A + B) (2 ^ 63)) → SFits w64 (to_z w64 n -ℤ to_z w64 m)
  sub-ok t = subst (SFits w64) (sym (ap₂ ◌-ℤ◌ p.is q.is)) (sfits sub_small (ltb→lt (A + B) (2 ^ 63) t))

  pub mul : T (ltb (A * B) (2 ^ 63)) → Held (of_z w64 (to_z w64 n *ℤ to_z w64 m)) (x *ℤ y) (A * B)
  mul t = record { is = to_z-of_z (mul_ok t) ∙ ap₂ ◌*ℤ◌ p.is q.is; small = mul_small }

  pub add : T (ltb (A + B) (2 ^ 63)) → Held (of_z w64 (to_z w64 n +ℤ to_z w64 m)) (x +ℤ y) (A + B)
  add t = record { is = to_z-of_z (add_ok t) ∙ ap₂ ◌+ℤ◌ p.is q.is; small = add_small }

  pub sub : T (ltb (A + B) (2 ^ 63)) → Held (of_z w64 (to_z w64 n -ℤ to_z w64 m)) (x -ℤ y) (A + B)
  sub t = record { is = to_z-of_z (sub-ok t) ∙ ap₂ ◌-ℤ◌ p.is q.is; small = sub_small }

-- 0 less a held number is its opposite
module _ {n : ℕ} {x : ℤ} {A : ℕ} (p : Held n x A) (t : T (ltb A (2 ^ 63))) where
  opposite-is : pos 0 -ℤ to_z w64 n ≡ neg_ℤ x
  opposite-is = ap (λ z. pos 0 -ℤ z) p.is ∙ +ℤ_idl (neg_ℤ x)

  pub opposite-ok : SFits w64 (pos 0 -ℤ to_z w64 n)
  opposite-ok = subst (SFits w64) (sym opposite-is) (sfits (neg_small x p.small) (ltb→lt A (2 ^ 63) t))

  pub opposite : Held (of_z w64 (pos 0 -ℤ to_z w64 n)) (neg_ℤ x) A
  opposite = record { is = to_z-of_z opposite-ok ∙ opposite-is; small = neg_small x p.small }

-- a shift to the right is division that rounds down
pub shift_is : (z : ℤ) (m : ℕ) → shr_z z m ≡ floor_div z m
shift_is (pos a) m = refl
shift_is (negsuc a) m = refl

floor-small : (z : ℤ) (m : ℕ) → nat_abs (floor_div z m) ≤ nat_abs z
floor-small (pos a) m = div-le_self a m
floor-small (negsuc a) m = let h = div-le_self a m in omega arith

pub shift : {n : ℕ} {x : ℤ} {A : ℕ} → Held n x A → T (ltb A (2 ^ 63)) → (m : ℕ) → Held (of_z w64 (shr_z (to_z w64 n) m)) (floor_div x m) A
shift {n} {x} {A} p t m = record {
  is = ap (λ z. to_z w64 (of_z w64 z)) (ap (λ z. shr_z z m) p.is ∙ shift_is x m) ∙ to_z-of_z (sfits small (ltb→lt A (2 ^ 63) t));
  small = small;
}
  where
    small : nat_abs (floor_div x m) ≤ A
    small = le_trans (floor-small x m) p.small

-- a held number that is not negative, cast to u64
pub cast_ok : {n : ℕ} {x : ℤ} {A : ℕ} → Held n x A → T (ltb A (2 ^ 63)) → T (non_neg x) → T (non_neg (to_z w64 n)) × Fits w64 (nat_abs (to_z w64 n))
cast_ok {n} {x} {A} p t h = (
  subst (λ z. T (non_neg z)) (sym p.is) h,
  subst (λ z. Fits w64 (nat_abs z)) (sym p.is) (record { fits = (let b = ltb→lt A (2 ^ 63) t in let s = p.small in omega arith) }),
)

not-below-zero : (x : ℤ) → lt_z x (pos 0) ≡ false → T (non_neg x)
not-below-zero (pos n) e = tt
not-below-zero (negsuc n) e = subst T e tt

-- ---- tests of a sign

pub tests-positive : {z x : ℤ} {b : Bool} → z ≡ x → lt_z (pos 0) z ≡ b → is_positive x ≡ b
tests-positive {z} {x} h e = sym (go x) ∙ ap (λ z. lt_z (pos 0) z) (sym h) ∙ e
  where
    go : (x : ℤ) → lt_z (pos 0) x ≡ is_positive x
    go (pos zero) = refl
    go (pos (suc n)) = lt-ltb 0 (suc n) (omega arith)
    go (negsuc n) = refl

-- ---- tests on bits

-- only 0 has the bits of 0
pub bits-zero : (x : ℤ) → SFits w64 x → eqb (of_z w64 x) 0 ≡ eqb (nat_abs x) 0
bits-zero (pos n) f = refl
bits-zero (negsuc n) f =
    ne_eqb (of_z w64 (negsuc n)) 0 (λ e. let h = f.sfits in absurd (omega arith)) ∙ sym (ne_eqb (suc n) 0 (λ e. absurd (omega arith)))
