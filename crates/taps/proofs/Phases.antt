-- The weights of every phase are balanced, by ONE test over all 64 phases.
use mathlib.Core.Bool.{Bool, ◌&&◌}
use Prim.Native.Nat.{ℕ, ◌+◌, ◌<◌}
use lib.Dec.{T, leb, leb→le, eqb, eqb→eq}
use lib.IntN.{ℤ, pos, neg_ℤ, nat_abs}
use Rattle.arithmetic.specs.Integers.{equalℤ}
use Rattle.arithmetic.specs.Searches.{all_below}
use Rattle.arithmetic.proofs.Tests.{All3, and3, and_left, and_right}
use Rattle.arithmetic.proofs.Searches.{all-at}
use Rattle.arithmetic.proofs.Sizes.{equalℤ→eq}
use Rattle.cubemap.specs.Samplers.{tap_weight}
use Rattle.taps.specs.TapWeights.{TapWeights, weights_of, Balanced}

-- the test
abbrev outer_ok : ℤ → Bool
outer_ok z = equalℤ z (neg_ℤ (pos (nat_abs z)))

abbrev inner_ok : ℤ → Bool
inner_ok z = equalℤ z (pos (nat_abs z))

abbrev signs_ok : TapWeights → Bool
signs_ok w = (outer_ok w.w0 && inner_ok w.w1) && (inner_ok w.w2 && outer_ok w.w3)

abbrev adds_ok : TapWeights → Bool
adds_ok w = eqb (nat_abs w.w1 + nat_abs w.w2) (nat_abs w.w0 + nat_abs w.w3 + 524288)

abbrev small_ok : TapWeights → Bool
small_ok w = leb (nat_abs w.w0 + nat_abs w.w3) 65536

abbrev balanced_ok : TapWeights → Bool
balanced_ok w = signs_ok w && adds_ok w && small_ok w

all-phases : T (all_below (λ k. balanced_ok (weights_of (pos k))) 64)
unfolding all_below tap_weight
all-phases = tt

-- what passes it
tested : (w : TapWeights) → T (balanced_ok w) → Balanced w
tested w t = record {
  first = equalℤ→eq w.w0 (neg_ℤ (pos (nat_abs w.w0))) (and_left (outer_ok w.w0) (inner_ok w.w1) low);
  second = equalℤ→eq w.w1 (pos (nat_abs w.w1)) (and_right (outer_ok w.w0) (inner_ok w.w1) low);
  third = equalℤ→eq w.w2 (pos (nat_abs w.w2)) (and_left (inner_ok w.w2) (outer_ok w.w3) high);
  fourth = equalℤ→eq w.w3 (neg_ℤ (pos (nat_abs w.w3))) (and_right (inner_ok w.w2) (outer_ok w.w3) high);
  adds = eqb→eq (nat_abs w.w1 + nat_abs w.w2) (nat_abs w.w0 + nat_abs w.w3 + 524288) parts.second;
  outer-small = leb→le (nat_abs w.w0 + nat_abs w.w3) 65536 parts.third;
}
  where
    parts : All3 (signs_ok w) (adds_ok w) (small_ok w)
    parts = and3 (signs_ok w) (adds_ok w) (small_ok w) t

    low : T (outer_ok w.w0 && inner_ok w.w1)
    low = and_left (outer_ok w.w0 && inner_ok w.w1) (inner_ok w.w2 && outer_ok w.w3) parts.first

    high : T (inner_ok w.w2 && outer_ok w.w3)
    high = and_right (outer_ok w.w0 && inner_ok w.w1) (inner_ok w.w2 && outer_ok w.w3) parts.first

pub phase-balanced : (k : ℕ) → k < 64 → Balanced (weights_of (pos k))
phase-balanced k h = tested (weights_of (pos k)) (all-at (λ k. balanced_ok (weights_of (pos k))) 64 all-phases k h)
