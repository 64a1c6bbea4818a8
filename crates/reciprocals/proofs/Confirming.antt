-- Guesses of a stretch, confirmed: the bits of all columns together are small only where each column's are.
use mathlib.Core.Path.{◌≡◌}
use mathlib.Core.List.{List}
use Prim.Native.Nat.{ℕ, ◌+◌, ◌*◌, ◌%◌, ◌^◌, ◌≤◌, ◌<◌}
use native.Mathlib.Omega.{arith}
use lib.ListN.{length, get_or}
use lib.Pow.{pow_mono, shl_exact}
use Rattle.reciprocals.specs.Reciprocals.{Reciprocal, Reciprocals}

-- nothing is shifted out
pub scaled : (a shift : ℕ) → a < 4294967296 → shift ≤ 29 → (a * 2 ^ shift) % 2 ^ 64 ≡ a * 2 ^ shift
scaled a shift b h = shl_exact 32 shift 64 b (omega arith)

pub power-most : (shift : ℕ) → shift ≤ 29 → 2 ^ shift ≤ 536870912
power-most shift h = pow_mono h

-- a remainder of 2^(31 + shift) - 1 from 0 on and below four distances
pub remainder-near : (shift dividend distance r : ℕ) → dividend + 1 ≡ 2147483648 * 2 ^ shift
    → (r * distance ≤ dividend) × (dividend < r * distance + 4 * distance) → distance < 2 * 2 ^ shift
    → Reciprocal shift distance r
remainder-near shift dividend distance r e h w = record {
  least = omega (arith, e, h.0);
  most = omega (arith, e, h.1);
  below = w;
}

module _ (shift : ℕ) (distances : List ℕ) where
  -- the columns before j are confirmed, if the bits are small
  abbrev pub Gathered : ℕ → ℕ → ℕ → List ℕ → Type 0
  Gathered remainders sizes j table =
      remainders < 4611686018427387904 → sizes < 2 * 2 ^ shift → (i : ℕ) → i < j
      → Reciprocal shift (get_or distances i 0) (get_or table i 0)

  -- where j has come to the end, all are
  pub gathered-all : {remainders sizes j : ℕ} {table : List ℕ} → Gathered remainders sizes j table → length distances ≤ j
      → remainders < 4611686018427387904 → sizes < 2 * 2 ^ shift → Reciprocals shift distances table
  gathered-all g h u w = record { entry = λ i l. g u w i (omega arith) }
