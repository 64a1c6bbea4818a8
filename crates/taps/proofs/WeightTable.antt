-- The table of tap weights by ONE test over all 256 entries, and the four weights that are read of it.
use mathlib.Core.Path.{◌≡◌, sym, ◌∙◌, subst}
use mathlib.Core.List.{List}
use mathlib.Core.Bool.{Bool, ◌&&◌}
use Prim.Native.Nat.{ℕ, ◌<◌}
use native.Mathlib.Omega.{arith}
use lib.Dec.{T, leb, leb→le}
use lib.IntN.{ℤ, pos, nat_abs}
use mir.Syntax.{w64}
use mir.Val.{to_z, of_z}
use Rattle.arithmetic.specs.Integers.{equalℤ}
use Rattle.arithmetic.specs.Searches.{all_below}
use Rattle.arithmetic.proofs.Tests.{All3, and3}
use Rattle.arithmetic.proofs.Searches.{all-at}
use Rattle.arithmetic.proofs.Sizes.{equalℤ→eq}
use Rattle.arithmetic.proofs.Tables.{all_pairs, pair-at}
use Rattle.arithmetic.proofs.Held.{held}
use Rattle.cubemap.specs.Samplers.{tap_weight, over_taps}
use Rattle.taps.specs.TapWeights.{TapWeights, four, weights_of, entry, IsWeights, Balanced}
use Rattle.taps.proofs.Phases.{phase-balanced}

-- the test: each entry is the paper's polynomial, none exceeds 2^19, and the four of a phase add up to 2^19
abbrev polynomial_ok : List (List ℤ) → ℕ → ℕ → Bool
polynomial_ok table k i = equalℤ (entry table k i) (tap_weight i (pos k))

abbrev small_ok : List (List ℤ) → ℕ → ℕ → Bool
small_ok table k i = leb (nat_abs (entry table k i)) 524288

abbrev adds_ok : List (List ℤ) → ℕ → Bool
adds_ok table k = equalℤ (over_taps (entry table k)) (pos 524288)

abbrev pub weights_ok : List (List ℤ) → Bool
weights_ok table = all_pairs (polynomial_ok table) 64 4 && all_pairs (small_ok table) 64 4 && all_below (adds_ok table) 64

pub table_is : (table : List (List ℤ)) → T (weights_ok table) → IsWeights table
table_is table t = record {
  polynomial = λ k i h l. equalℤ→eq (entry table k i) (tap_weight i (pos k)) (pair-at (polynomial_ok table) 64 4 parts.first k i h l);
  adds = λ k h. equalℤ→eq (over_taps (entry table k)) (pos 524288) (all-at (adds_ok table) 64 parts.third k h);
  small = λ k i h l. leb→le (nat_abs (entry table k i)) 524288 (pair-at (small_ok table) 64 4 parts.second k i h l);
}
  where
    parts : All3 (all_pairs (polynomial_ok table) 64 4) (all_pairs (small_ok table) 64 4) (all_below (adds_ok table) 64)
    parts = and3 (all_pairs (polynomial_ok table) 64 4) (all_pairs (small_ok table) 64 4) (all_below (adds_ok table) 64) t

-- ---- what is read at phase k

module _ (table : List (List ℤ)) (is : IsWeights table) (k : ℕ) (h : k < 64) where
  read : (i : ℕ) → i < 4 → to_z w64 (of_z w64 (entry table k i)) ≡ tap_weight i (pos k)
  read i l = (held (entry table k i) (is.small k i h l) tt).is ∙ is.polynomial k i h l

  abbrev pub weights_read : TapWeights
  weights_read = four
      (to_z w64 (of_z w64 (entry table k 0)))
      (to_z w64 (of_z w64 (entry table k 1)))
      (to_z w64 (of_z w64 (entry table k 2)))
      (to_z w64 (of_z w64 (entry table k 3)))

  pub weights-read : weights_read ≡ weights_of (pos k)
  weights-read =
      λ j. four (read 0 (omega arith) j) (read 1 (omega arith) j) (read 2 (omega arith) j) (read 3 (omega arith) j)

  pub balanced-read : Balanced weights_read
  balanced-read = subst Balanced (sym weights-read) (phase-balanced k h)
