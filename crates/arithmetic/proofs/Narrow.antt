-- What the machine holds of a signed 32-bit number: the laws of `Held` for that width.
use mathlib.Core.Path.{◌≡◌, sym, ◌∙◌, ap₂, subst}
use Prim.Native.Nat.{ℕ, ◌+◌, ◌*◌, ◌^◌, ◌≤◌}
use native.Mathlib.Nat.{le_trans, mul-le-mul, add-le-add, lt_of_le_of_lt}
use native.Mathlib.Omega.{arith}
use lib.Dec.{T, ltb, ltb→lt}
use lib.IntN.{ℤ, pos, negsuc, neg_ℤ, nat_abs, ◌+ℤ◌, ◌-ℤ◌, ◌*ℤ◌}
use lib.Signed.{non_neg}
use mir.Syntax.{w32, w64}
use mir.Val.{SFits, Fits, to_z, of_z}
use mir.Facts.{to_z-of_z, to_z_pos}
use Rattle.arithmetic.proofs.Sizes.{nat_abs_mul, nat_abs-add, neg_small}
use Rattle.arithmetic.proofs.Held.{held, sfits as wide_fits}

pub sfits : (z : ℤ) {B : ℕ} → nat_abs z ≤ B → T (ltb B (2 ^ 31)) → SFits w32 z
sfits (pos n) {B} h t = let l = ltb→lt B (2 ^ 31) t in record { sfits = omega arith }
sfits (negsuc n) {B} h t = let l = ltb→lt B (2 ^ 31) t in record { sfits = omega arith }

pub record Narrow (n : ℕ) (z : ℤ) (B : ℕ) : Type 0 where
  pub is : to_z w32 n ≡ z
  pub small : nat_abs z ≤ B

-- what is read is as small
pub read_small : {n : ℕ} {z : ℤ} {B : ℕ} → Narrow n z B → nat_abs (to_z w32 n) ≤ B
read_small {B = B} p = subst (λ x. nat_abs x ≤ B) (sym p.is) p.small

-- a 32-bit number
pub narrowed : (z : ℤ) {B : ℕ} → nat_abs z ≤ B → T (ltb B (2 ^ 31)) → Narrow (of_z w32 z) z B
narrowed z h t = record { is = to_z-of_z (sfits z h t); small = h }

-- a 64-bit number, cast
module _ (z : ℤ) {B : ℕ} (h : nat_abs z ≤ B) (t : T (ltb B (2 ^ 31))) where
  wide_is : to_z w64 (of_z w64 z) ≡ z
  wide_is = (held z {B = 2 ^ 31} (let l = ltb→lt B (2 ^ 31) t in omega arith) tt).is

  pub narrow-ok : SFits w32 (to_z w64 (of_z w64 z))
  narrow-ok = subst (SFits w32) (sym wide_is) (sfits z h t)

  pub narrow : Narrow (of_z w32 (to_z w64 (of_z w64 z))) z B
  narrow = record { is = to_z-of_z narrow-ok ∙ wide_is; small = h }

-- a 32-bit number, cast to 64 bits
module _ (z : ℤ) {B : ℕ} (h : nat_abs z ≤ B) (t : T (ltb B (2 ^ 31))) where
  pub widen_ok : SFits w64 (to_z w32 (of_z w32 z))
  widen_ok = subst (SFits w64) (sym (narrowed z h t).is) (wide_fits h (let l = ltb→lt B (2 ^ 31) t in omega arith))

  pub widen : to_z w64 (of_z w64 (to_z w32 (of_z w32 z))) ≡ z
  widen = to_z-of_z widen_ok ∙ (narrowed z h t).is

-- an unsigned number, cast
pub narrow-nat : {n B : ℕ} → n ≤ B → T (ltb B (2 ^ 31)) → Narrow n (pos n) B
narrow-nat {n} {B} h t = record { is = to_z_pos w32 (lt_of_le_of_lt h (ltb→lt B (2 ^ 31) t)); small = h }

module _ {n m : ℕ} {x y : ℤ} {A B : ℕ} (p : Narrow n x A) (q : Narrow m y B) where
  mul_small : nat_abs (x *ℤ y) ≤ A * B
  mul_small = subst (λ k. k ≤ A * B) (sym (nat_abs_mul x y)) (mul-le-mul p.small q.small)

  add_small : nat_abs (x +ℤ y) ≤ A + B
  add_small = le_trans (nat_abs-add x y) (add-le-add p.small q.small)

  sub_small : nat_abs (x -ℤ y) ≤ A + B
  sub_small = le_trans (nat_abs-add x (neg_ℤ y)) (add-le-add p.small (neg_small y q.small))

  pub mul_ok : T (ltb (A * B) (2 ^ 31)) → SFits w32 (to_z w32 n *ℤ to_z w32 m)
  mul_ok t = subst (SFits w32) (sym (ap₂ ◌*ℤ◌ p.is q.is)) (sfits (x *ℤ y) mul_small t)

  pub add_ok : T (ltb (A + B) (2 ^ 31)) → SFits w32 (to_z w32 n +ℤ to_z w32 m)
  add_ok t = subst (SFits w32) (sym (ap₂ ◌+ℤ◌ p.is q.is)) (sfits (x +ℤ y) add_small t)

  pub sub-ok : T (ltb (A + B) (2 ^ 31)) → SFits w32 (to_z w32 n -ℤ to_z w32 m)
  sub-ok t = subst (SFits w32) (sym (ap₂ ◌-ℤ◌ p.is q.is)) (sfits (x -ℤ y) sub_small t)

  pub mul : T (ltb (A * B) (2 ^ 31)) → Narrow (of_z w32 (to_z w32 n *ℤ to_z w32 m)) (x *ℤ y) (A * B)
  mul t = record { is = to_z-of_z (mul_ok t) ∙ ap₂ ◌*ℤ◌ p.is q.is; small = mul_small }

  pub add : T (ltb (A + B) (2 ^ 31)) → Narrow (of_z w32 (to_z w32 n +ℤ to_z w32 m)) (x +ℤ y) (A + B)
  add t = record { is = to_z-of_z (add_ok t) ∙ ap₂ ◌+ℤ◌ p.is q.is; small = add_small }

  pub sub : T (ltb (A + B) (2 ^ 31)) → Narrow (of_z w32 (to_z w32 n -ℤ to_z w32 m)) (x -ℤ y) (A + B)
  sub t = record { is = to_z-of_z (sub-ok t) ∙ ap₂ ◌-ℤ◌ p.is q.is; small = sub_small }

-- a held number that is not negative, cast to u32
pub cast_ok : {n : ℕ} {x : ℤ} {A : ℕ} → Narrow n x A → T (ltb A (2 ^ 31)) → T (non_neg x) → T (non_neg (to_z w32 n)) × Fits w32 (nat_abs (to_z w32 n))
cast_ok {n} {x} {A} p t h = (
  subst (λ z. T (non_neg z)) (sym p.is) h,
  subst (λ z. Fits w32 (nat_abs z)) (sym p.is) (record { fits = (let b = ltb→lt A (2 ^ 31) t in let s = p.small in omega arith) }),
)
