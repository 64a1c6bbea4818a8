-- The tests of a layout by lists are those by slots.
use mathlib.Core.Path.{◌≡◌, refl, sym, ◌∙◌, ap, subst}
use mathlib.Core.Bool.{Bool, true, false, cond}
use mathlib.Core.List.{List}
use Prim.Native.Nat.{ℕ, zero, suc, ◌+◌, ◌≤◌, ◌<◌}
use native.Mathlib.Omega.{arith}
use lib.Dec.{T, eqb, eqb→eq, leb, leb→le}
use lib.ListN.{length, length-drop, take, drop, get_or}
use lib.Seq.{get_or-drop}
use borrow.Author.Tests.{eq-eqb, le-leb}
use Rattle.std.proofs.Common.{add-one}
use Rattle.std.specs.Prelude.{◌↔◌, ◌==◌, IsTrue, EachIndex, slice_index, count_by}
use Rattle.std.specs.Bool.{MatchBool}
use Rattle.std.specs.List.{AllWithin, HoldsAt, range_with_len}
use Rattle.std.proofs.lemmas.List.Sums.{sum_by_more}
use Rattle.std.proofs.lemmas.List.FromFn.{get_or-range_with_len, length-range_with_len}
use Rattle.arithmetic.specs.Searches.{all_below}
use Rattle.arithmetic.specs.Sums.{count_below, sum_below}
use Rattle.arithmetic.proofs.Tests.{passes, fails, same_test}
use Rattle.arithmetic.proofs.Searches.{all-at, all_of}
use Rattle.cubemap.specs.Frames.{quarter_turns_in}
use Rattle.cubemap.proofs.Layouts.{slots_with, faces_once, turns_few}

numbered : (n i : ℕ) → i < n → get_or (range_with_len 0 n) i 0 ≡ i
numbered n i h = get_or-range_with_len 0 n i 0 h ∙ omega arith

-- `all` over the first n numbers
pub all-numbers : {P : ℕ → Type 0} (n : ℕ) (r : Bool)
    → MatchBool r (AllWithin P (range_with_len 0 n) 0 (length (range_with_len 0 n)))
    ((k : ℕ) × (k < length (range_with_len 0 n)) × HoldsAt (λ i. P i → ⊥) (range_with_len 0 n) k)
    → (IsTrue r ↔ ((i : ℕ) → i < n → P i))
all-numbers {P} n true m =
    (λ _ i h. subst P (numbered n i h) (m i 0 (omega arith) (omega (arith, length-range_with_len 0 n))), λ _. refl)
all-numbers {P} n false m = (λ e. absurd (fails refl (passes e)), λ h. absurd (none h))
  where
    below : m.0 < n
    below = omega (arith, m.1, length-range_with_len 0 n)

    none : ((i : ℕ) → i < n → P i) → ⊥
    none h = m.2 0 (subst P (sym (numbered n m.0 below)) (h m.0 below))

-- a count over the first n of a list is a count by index
counted : (p : ℕ → Bool) (xs : List ℕ) (n : ℕ) → n ≤ length xs → count_by p (take n xs) ≡ count_below (λ i. p (get_or xs i 0)) n
unfolding sum_below
counted p xs zero h = refl
counted p xs (suc n) h =
    ap (λ k. count_by p (take k xs)) (sym (add-one n)) ∙ sum_by_more (λ x. cond (p x) 1 0) xs n 0 (omega arith)
    ∙ ap (λ k. k + cond (p (get_or xs n 0)) 1 0) (counted p xs n (omega arith))

-- what a function decides of each of the first n numbers
decides : {b : Bool} (test : ℕ → Bool) (n : ℕ) → (IsTrue b ↔ ((i : ℕ) → i < n → T (test i))) → b ≡ all_below test n
decides {b = true} test n h = same_test true (all_below test n) (λ t. all_of test n (h.0 refl)) (λ t. tt)
decides {b = false} test n h = same_test false (all_below test n) (λ t. absurd t) (λ t. passes (h.1 (all-at test n t)))

module _ (L : List ℕ) {r : Bool} (e : length L ≡ 12) where
  pub faces-tested : (IsTrue r ↔ ((f : ℕ) → f < 6 → count_by (λ held. held == f) (take 6 L) ≡ 1)) → r ≡ faces_once L
  faces-tested h = decides (λ f. eqb (slots_with L f) 1) 6
      (λ t f l. passes (eq-eqb (slots_with L f) 1 (sym (slots f) ∙ h.0 t f l)), λ t. h.1 (λ f l. slots f ∙ eqb→eq (slots_with L f) 1 (t f l)))
    where
      slots : (f : ℕ) → count_by (λ held. held == f) (take 6 L) ≡ slots_with L f
      slots f = counted (λ held. held == f) L 6 (omega arith)

  pub turns-tested : (IsTrue r ↔ EachIndex (drop 6 L) (λ slot. slice_index (drop 6 L) slot ≤ 3)) → r ≡ turns_few L
  turns-tested h = decides (λ slot. leb (quarter_turns_in L slot) 3) 6 (
    λ t k l. passes (le-leb (quarter_turns_in L k) 3 (subst (λ v. v ≤ 3) (turned k) (h.0 t k (omega (arith, behind))))),
    λ t. h.1 (λ k l. subst (λ v. v ≤ 3) (sym (turned k)) (leb→le (quarter_turns_in L k) 3 (t k (omega (arith, behind))))),
  )
    where
      turned : (k : ℕ) → get_or (drop 6 L) k 0 ≡ quarter_turns_in L k
      turned k = get_or-drop 6 L k 0

      behind : length (drop 6 L) ≡ 6
      behind = omega (arith, length-drop 6 L)
