-- The test of a weight in numbers that fit 64 bits is the paper's, and the number that it finds is the weight.
use mathlib.Core.Path.{◌≡◌, sym, ap₂, subst, subst₂}
use Prim.Native.Nat.{ℕ, ◌+◌, ◌*◌, ◌/◌, ◌%◌, ◌^◌, ◌≤◌, ◌<◌}
use native.Mathlib.Omega.{arith}
use lib.Dec.{T, leb, leb→le, le→leb}
use Rattle.arithmetic.proofs.Tests.{same_test}
use Rattle.cubemap.specs.declared.Format.{Format}
use Rattle.cubemap.proofs.Weights.{length_squared, Passes, passes-bound, IsWeight, weight-between, weight-only}
use Rattle.weights.specs.declared.weight_test.WeightTest.{WeightTest}
use Rattle.weights.specs.TestNumbers.{passing, Bounds}
use Rattle.weights.specs.WeightTests.{TestOf, IsMost}
use Rattle.weights.specs.RowWeights.{WeightAt}

-- ---- a test with the limit 4·A^6 is the paper's

module _ (A p q high low limit : ℕ) (a : 1 ≤ A) (whole : high * 1073741824 + low ≡ length_squared A p q ^ 3)
    (goes_to : limit ≡ 4 * A ^ 6) where
  passing-is : (W : ℕ) → passing high low limit W ≡ leb (W * W * length_squared A p q ^ 3) (1073741824 * (4 * A ^ 6))
  passing-is W = ap₂ (λ K³ limit. leb (W * W * K³) (1073741824 * limit)) whole goes_to

  pub to-paper : (W : ℕ) → T (passing high low limit W) → Passes A p q W
  to-paper W h = go (leb→le _ _ (subst T (passing-is W) h))
    where
      go : W * W * length_squared A p q ^ 3 ≤ 1073741824 * (4 * A ^ 6) → Passes A p q W
      go l = omega arith

  pub from-paper : (W : ℕ) → Passes A p q W → T (passing high low limit W)
  from-paper W h = subst T (sym (passing-is W))
      (le→leb (W * W * length_squared A p q ^ 3) (1073741824 * (4 * A ^ 6)) (omega arith))

  pub test-bounds : high ≤ 452984832 → low < 1073741824 → Bounds high low limit
  test-bounds h l = record {
    high_small = h;
    low_small = l;
    top = λ t. beyond (passes-bound A p q 65537 a (to-paper 65537 t));
  }
    where
      beyond : 65537 ≤ 65536 → ⊥
      beyond t = omega arith

-- a side that is divided by 2^30 and rounded up
pub rounded-up : (x k : ℕ) → leb ((x + 1073741823) / 1073741824) k ≡ leb x (1073741824 * k)
rounded-up x k = same_test _ _
    (λ e. let h : (x + 1073741823) / 1073741824 ≤ k = leb→le _ _ e in le→leb x (1073741824 * k) (omega arith))
    (λ e. let h : x ≤ 1073741824 * k = leb→le _ _ e in le→leb ((x + 1073741823) / 1073741824) k (omega arith))

-- the third power in two parts
pub apart : (cubed : ℕ) → cubed / 1073741824 * 1073741824 + cubed % 1073741824 ≡ cubed
apart cubed = omega arith

-- ---- the largest number that passes is the weight, for every format

module _ (A p q : ℕ) (t : WeightTest) (a : 1 ≤ A) (e : TestOf (4 * A ^ 6) (length_squared A p q) t) where
  paper : (W : ℕ) → T (passing t.high t.low t.limit W) → Passes A p q W
  paper = to-paper A p q t.high t.low t.limit a e.whole e.goes_to

  pub most-weighs : (format : Format) (W : ℕ) → IsMost t W → WeightAt format A p q W
  most-weighs format W m = record {
    place = λ c r x y. sym (weight-only format A c r W a (subst₂ (λ p q. IsWeight A p q W) x y
        (weight-between A p q W (paper W m.holds)
        (λ h. m.over (from-paper A p q t.high t.low t.limit a e.whole e.goes_to (W + 1) h)))));
  }

  pub most-small : (W : ℕ) → IsMost t W → W ≤ 65536
  most-small W m = passes-bound A p q W a (paper W m.holds)
