-- A guess g of n / D is the quotient, or one more, exactly where g·D lies within D of n; and what is left tells which
-- of the two it is.
use mathlib.Core.Path.{◌≡◌, sym, ◌∙◌, ap}
use Prim.Native.Nat.{ℕ, zero, suc, ◌+◌, ◌*◌, ◌-◌, ◌/◌, ◌≤◌, ◌<◌}
use native.Mathlib.Nat.{div-eq_of_lt-le, mul-le-mul}
use native.Mathlib.Decide.{dec_lt}
use native.Mathlib.Omega.{arith}

-- 2^62
abbrev pub far : ℕ
far = 4611686018427387904

-- what the guess of a column leaves
pub record Left (n D g r : ℕ) : Type 0 where
  pub is : r ≡ g * D + (4611686018427387903 - n)
  pub room : n ≤ 1152921504606846976
  pub narrow : D ≤ 4294967296
  pub few : g < 65536

module _ {n D g r : ℕ} (l : Left n D g r) where
  product_small : g * D ≤ 65536 * 4294967296
  product_small = mul-le-mul {n₂ = 65536} {m₂ = 4294967296} (omega (arith, l.few)) l.narrow

  pub left-small : r < 4611967493404098560
  left-small = omega (arith, product_small, l.is)

  pub left-least : D ≤ r
  left-least = omega (arith, l.is, l.room, l.narrow)

  pub correction : r / far ≤ g
  correction = go g l.is
    where
      go : (g : ℕ) → r ≡ g * D + (4611686018427387903 - n) → r / far ≤ g
      go zero e = omega (arith, e)
      go (suc m) e = omega (arith, left-small)

  pub quotient : 0 < D → far ≤ r + D → r - D < far → g - r / far ≡ n / D
  quotient p low high = go (dec_lt r far)
    where
      go : Dec (r < far) → g - r / far ≡ n / D
      go (yes h) =
          let c : r / far ≡ 0 = omega (arith, h) in
          exact (g - r / far) (omega (arith, c)) (omega (arith, l.is, l.room, h)) (omega (arith, l.is, l.room, low))
        where
          exact : (q : ℕ) → q ≡ g → g * D ≤ n → n < g * D + D → q ≡ n / D
          exact q e a b = e ∙ sym (div-eq_of_lt-le D (omega (arith, a)) (omega (arith, b)))
      go (no h) =
          let c : r / far ≡ 1 = omega (arith, h, left-small) in
          below (g - r / far) (omega (arith, c, correction)) (omega (arith, l.is, l.room, h)) (omega (arith, l.is, l.room, high, left-least))
        where
          below : (q : ℕ) → q + 1 ≡ g → n < g * D → g * D ≤ n + D → q ≡ n / D
          below q e a b = let m : (q + 1) * D ≡ g * D = ap (λ g. g * D) e in sym (div-eq_of_lt-le D (omega (arith, b, m)) (omega (arith, a, m)))
