-- The bits of two numbers together: neither exceeds them, and they are below a power of two exactly where both numbers are.
use mathlib.Core.Path.{◌≡◌}
use mathlib.Core.Bool.{◌&&◌}
use Prim.Native.Nat.{ℕ, ◌^◌, ◌≤◌}
use native.Mathlib.Omega.{arith}
use lib.Bits.{bit_or, or_lt, or_add_and, and_le_l, and_le_r}
use lib.Dec.{T, ltb, ltb→lt, lt→ltb}
use Rattle.arithmetic.proofs.Tests.{and_left, and_right, and_both, same_test}

-- neither exceeds the bits of both
pub or_left : (a b : ℕ) → a ≤ bit_or a b
or_left a b = omega (arith, or_add_and a b, and_le_r a b)

pub or_right : (a b : ℕ) → b ≤ bit_or a b
or_right a b = omega (arith, or_add_and a b, and_le_l a b)

module _ (k a b : ℕ) where
  apart : T (ltb (bit_or a b) (2 ^ k)) → T (ltb a (2 ^ k) && ltb b (2 ^ k))
  apart t =
      let h = ltb→lt (bit_or a b) (2 ^ k) t in
      and_both (ltb a (2 ^ k)) (ltb b (2 ^ k))
      (lt→ltb a (2 ^ k) (omega (arith, or_left a b)))
      (lt→ltb b (2 ^ k) (omega (arith, or_right a b)))

  together : T (ltb a (2 ^ k) && ltb b (2 ^ k)) → T (ltb (bit_or a b) (2 ^ k))
  together t =
      lt→ltb (bit_or a b) (2 ^ k)
      (or_lt k a b
      (ltb→lt a (2 ^ k) (and_left (ltb a (2 ^ k)) (ltb b (2 ^ k)) t))
      (ltb→lt b (2 ^ k) (and_right (ltb a (2 ^ k)) (ltb b (2 ^ k)) t)))

  pub or-below : ltb (bit_or a b) (2 ^ k) ≡ (ltb a (2 ^ k) && ltb b (2 ^ k))
  or-below = same_test (ltb (bit_or a b) (2 ^ k)) (ltb a (2 ^ k) && ltb b (2 ^ k)) apart together
