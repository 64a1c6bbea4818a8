-- What `largest` and `lowest` find, what `all_below` says, and loops that ask for them.
use mathlib.Core.Path.{◌≡◌, refl, sym, ◌∙◌, ap, ap₂, subst}
use mathlib.Core.Bool.{Bool, true, false, ◌&&◌, not, true≢false}
use mathlib.Core.Logic.{◌⊎◌, inl, inr, ⊎_elim}
use Prim.Native.Nat.{ℕ, zero, suc, ◌+◌, ◌-◌, ◌≤◌, ◌<◌}
use native.Mathlib.Decide.{ℕ_discrete, dec_lt}
use native.Mathlib.Nat.{eq-or-lt_of_le}
use native.Mathlib.Numerals.{add-one}
use native.Mathlib.Omega.{arith}
use lib.Dec.{T, T_not}
use Rattle.arithmetic.specs.Searches.{largest, lowest_from, lowest, all_below}
use Rattle.arithmetic.proofs.Tests.{and_left, and_right, and_both, passes, fails, same_test}

-- ---- the largest

-- c is the largest number from 0 to n that passes
pub record IsLargest (test : ℕ → Bool) (n c : ℕ) : Type 0 where
  pub bounded : c ≤ n
  pub holds : T (test c)
  pub most : (d : ℕ) → d ≤ n → T (test d) → d ≤ c

-- where some number m from 0 to n passes, `largest` is it
pub largest-is : (test : ℕ → Bool) (n m : ℕ) → m ≤ n → T (test m) → IsLargest test n (largest test n)
unfolding largest
largest-is test zero m h p =
    let e : m ≡ 0 = omega arith in record { bounded = omega arith; holds = subst (λ k. T (test k)) e p; most = λ d a t. a }
largest-is test (suc n) m h p = go (test (suc n)) refl (λ l. largest-is test n m l p)
  where
    go : (b : Bool) → test (suc n) ≡ b → (m ≤ n → IsLargest test n (largest test n))
        → IsLargest test (suc n) (elim b [ true ↦ suc n | false ↦ largest test n ])
    go true e ih = record { bounded = omega arith; holds = passes e; most = λ d a t. a }
    go false e ih = record {
      bounded = (let w = i.bounded in omega arith);
      holds = i.holds;
      most = λ d a t. i.most d (under d a t) t;
    }
      where
        under : (d : ℕ) → d ≤ suc n → T (test d) → d ≤ n
        under d a t = ⊎_elim (λ q. absurd (fails e (subst (λ k. T (test k)) q t))) (λ (l : d < suc n). below l) (eq-or-lt_of_le a)
          where
            below : d < suc n → d ≤ n
            below l = omega arith

        i : IsLargest test n (largest test n)
        i = ih (under m h p)

-- and nothing else is
pub largest-unique : (test : ℕ → Bool) (n c : ℕ) → IsLargest test n c → largest test n ≡ c
largest-unique test n c g = go (largest-is test n c g.bounded g.holds)
  where
    go : IsLargest test n (largest test n) → largest test n ≡ c
    go i =
        let x : largest test n ≤ c = g.most (largest test n) i.bounded i.holds in
        let y : c ≤ largest test n = i.most c g.bounded g.holds in
        omega arith

-- ---- the lowest

-- r is the lowest of the n numbers from i on that passes, or i + n where none does
pub record IsLowest (test : ℕ → Bool) (i n r : ℕ) : Type 0 where
  pub low : i ≤ r
  pub high : r ≤ i + n
  pub holds : r < i + n → T (test r)
  pub least : (j : ℕ) → i ≤ j → T (test j) → r ≤ j ⊎ i + n ≤ j

pub lowest_from-is : (test : ℕ → Bool) (n i : ℕ) → IsLowest test i n (lowest_from test n i)
unfolding lowest_from
lowest_from-is test zero i =
    record { low = omega arith; high = omega arith; holds = λ h. absurd (omega arith); least = λ j h t. inl h }
lowest_from-is test (suc n) i = go (test i) refl (lowest_from-is test n (suc i))
  where
    go : (b : Bool) → test i ≡ b → IsLowest test (suc i) n (lowest_from test n (suc i))
        → IsLowest test i (suc n) (elim b [ true ↦ i | false ↦ lowest_from test n (suc i) ])
    go true e ih = record { low = omega arith; high = omega arith; holds = λ h. passes e; least = λ j h t. inl h }
    go false e ih = record {
      low = omega (arith, ih.low);
      high = omega (arith, ih.high);
      holds = λ h. ih.holds (omega arith);
      least = λ j h t. later j h t (ℕ_discrete i j);
    }
      where
        later : (j : ℕ) → i ≤ j → T (test j) → Dec (i ≡ j) → lowest_from test n (suc i) ≤ j ⊎ i + suc n ≤ j
        later j h t (yes d) = absurd (fails e (subst (λ k. T (test k)) (sym d) t))
        later j h t (no d) = ⊎_elim (λ l. inl l) (λ l. inr (omega arith)) (ih.least j (omega arith) t)

-- r is the lowest number that passes, and below n
pub record Lowest (test : ℕ → Bool) (n r : ℕ) : Type 0 where
  pub below : r < n
  pub holds : T (test r)
  pub least : (j : ℕ) → T (test j) → r ≤ j

-- an end that is not the bound is the lowest
lowest-below : (test : ℕ → Bool) (n : ℕ) → lowest test n < n → Lowest test n (lowest test n)
lowest-below test n h = go (lowest_from-is test n 0)
  where
    go : IsLowest test 0 n (lowest_from test n 0) → Lowest test n (lowest_from test n 0)
    go i = record {
      below = h;
      holds = i.holds (omega arith);
      least = λ j t. ⊎_elim (λ l. l) (λ l. omega arith) (i.least j (omega arith) t);
    }

-- where some number j below n passes, `lowest` is it
pub lowest-is : (test : ℕ → Bool) (n j : ℕ) → j < n → T (test j) → Lowest test n (lowest test n)
lowest-is test n j h t = lowest-below test n (go (lowest_from-is test n 0))
  where
    go : IsLowest test 0 n (lowest_from test n 0) → lowest_from test n 0 < n
    go i = ⊎_elim (λ l. omega arith) (λ l. absurd (omega arith)) (i.least j (omega arith) t)

-- the only number below n that passes
pub lowest-only : (test : ℕ → Bool) (n j : ℕ) → j < n → T (test j) → ((i : ℕ) → i < n → T (test i) → i ≡ j) → lowest test n ≡ j
lowest-only test n j h t only = let l = lowest-is test n j h t in only (lowest test n) l.below l.holds

-- ---- all of them

pub all-at : (test : ℕ → Bool) (n : ℕ) → T (all_below test n) → (i : ℕ) → i < n → T (test i)
unfolding all_below
all-at test zero t i h = absurd (omega arith)
all-at test (suc n) t i h = go (ℕ_discrete i n) (λ l. all-at test n (and_left (all_below test n) (test n) t) i l)
  where
    go : Dec (i ≡ n) → (i < n → T (test i)) → T (test i)
    go (yes e) k = subst (λ j. T (test j)) (sym e) (and_right (all_below test n) (test n) t)
    go (no d) k = k (omega arith)

pub all_of : (test : ℕ → Bool) (n : ℕ) → ((i : ℕ) → i < n → T (test i)) → T (all_below test n)
unfolding all_below
all_of test zero h = tt
all_of test (suc n) h = and_both (all_below test n) (test n) (all_of test n (λ i l. h i (omega arith))) (h n (omega arith))

-- the first n numbers pass, and the m behind them
pub all-parts : (test : ℕ → Bool) (n m : ℕ) → T (all_below test n) → T (all_below (λ i. test (n + i)) m) → T (all_below test (n + m))
all-parts test n m first rest = all_of test (n + m) (λ i l. go i l (dec_lt i n))
  where
    go : (i : ℕ) → i < n + m → Dec (i < n) → T (test i)
    go i l (yes h) = all-at test n first i h
    go i l (no h) = subst (λ k. T (test k)) (omega arith) (all-at (λ j. test (n + j)) m rest (i - n) (omega arith))

-- where not all pass, the lowest that does not pass is below the bound
pub not-all : (test : ℕ → Bool) (n : ℕ) → (T (all_below test n) → ⊥) → Lowest (λ i. not (test i)) n (lowest (λ i. not (test i)) n)
not-all test n f = lowest-below (λ i. not (test i)) n (decide (dec_lt r n))
  where
    r : ℕ
    r = lowest_from (λ i. not (test i)) n 0

    i : IsLowest (λ i. not (test i)) 0 n r
    i = lowest_from-is (λ i. not (test i)) n 0

    each : (r < n → ⊥) → (j : ℕ) → j < n → (b : Bool) → test j ≡ b → T (test j)
    each d j l true e = passes e
    each d j l false e =
        absurd (⊎_elim (λ m. d (omega arith)) (λ m. absurd (omega arith)) (i.least j (omega arith) (subst (λ b. T (not b)) (sym e) tt)))

    decide : Dec (r < n) → r < n
    decide (yes l) = l
    decide (no d) = absurd (f (all_of test n (λ j l. each d j l (test j) refl)))

-- ---- tests that agree on the numbers that are asked

pub all-cong : (f g : ℕ → Bool) (n : ℕ) → ((i : ℕ) → i < n → f i ≡ g i) → all_below f n ≡ all_below g n
unfolding all_below
all-cong f g zero h = refl
all-cong f g (suc n) h = ap₂ ◌&&◌ (all-cong f g n (λ i l. h i (omega arith))) (h n (omega arith))

lowest_from-cong : (f g : ℕ → Bool) (n i : ℕ) → ((j : ℕ) → i ≤ j → j < i + n → f j ≡ g j) → lowest_from f n i ≡ lowest_from g n i
unfolding lowest_from
lowest_from-cong f g zero i h = refl
lowest_from-cong f g (suc n) i h = go (f i) (g i) (h i (omega arith) (omega arith)) (lowest_from-cong f g n (suc i) (λ j l m. h j (omega arith) (omega arith)))
  where
    go : (b c : Bool) → b ≡ c → lowest_from f n (suc i) ≡ lowest_from g n (suc i)
        → ◌≡◌ {A = ℕ} (elim b [ true ↦ i | false ↦ lowest_from f n (suc i) ]) (elim c [ true ↦ i | false ↦ lowest_from g n (suc i) ])
    go true true e ih = refl
    go true false e ih = absurd (true≢false e)
    go false true e ih = absurd (true≢false (sym e))
    go false false e ih = ih

pub lowest-cong : (f g : ℕ → Bool) (n : ℕ) → ((i : ℕ) → i < n → f i ≡ g i) → lowest f n ≡ lowest g n
lowest-cong f g n h = lowest_from-cong f g n 0 (λ j l m. h j (omega arith))

-- one number more
pub all-next : (test : ℕ → Bool) (n : ℕ) → all_below test (n + 1) ≡ (all_below test n && test n)
unfolding all_below
all-next test n = ap (all_below test) (add-one n)

-- ---- loops that ask one number after the other

-- of n numbers the test has said b to each of the first i
pub record Asked (test : ℕ → Bool) (b : Bool) (n i : ℕ) : Type 0 where
  pub bounded : i ≤ n
  pub each : (j : ℕ) → j < i → test j ≡ b

pub asked-none : (test : ℕ → Bool) (b : Bool) (n : ℕ) → Asked test b n 0
asked-none test b n = record { bounded = omega arith; each = λ j h. absurd (omega arith) }

pub asked-next : {test : ℕ → Bool} {b : Bool} {n i : ℕ} → Asked test b n i → i < n → test i ≡ b → Asked test b n (i + 1)
asked-next {test} {b} {n} {i} a h e = record { bounded = omega arith; each = λ j l. go j l (ℕ_discrete j i) }
  where
    go : (j : ℕ) → j < i + 1 → Dec (j ≡ i) → test j ≡ b
    go j l (yes d) = ap test d ∙ e
    go j l (no d) = a.each j (omega arith)

-- to numbers that all pass, the opposite test says no
pub asked-all : (test : ℕ → Bool) (n i : ℕ) → i ≤ n → T (all_below test i) → Asked (λ j. not (test j)) false n i
asked-all test n i h t = record { bounded = h; each = no }
  where
    no : (j : ℕ) → j < i → not (test j) ≡ false
    no j l = same_test (not (test j)) false (λ s. T_not (test j) s (all-at test i t j l)) (λ s. absurd s)

-- the first that passes is the lowest
pub lowest-here : {test : ℕ → Bool} {n i : ℕ} → Asked test false n i → i < n → test i ≡ true → lowest test n ≡ i
lowest-here {test} {n} {i} a h e = go (lowest-is test n i h (passes e))
  where
    go : Lowest test n (lowest test n) → lowest test n ≡ i
    go w = ⊎_elim (λ q. q) (λ l. absurd (fails (a.each (lowest test n) l) w.holds)) (eq-or-lt_of_le (w.least i (passes e)))

pub lowest-none : {test : ℕ → Bool} {n i : ℕ} → Asked test false n i → n ≤ i → lowest test n ≡ n
lowest-none {test} {n} {i} a h = go (lowest_from-is test n 0)
  where
    go : IsLowest test 0 n (lowest test n) → lowest test n ≡ n
    go w = ⊎_elim (λ q. q) (λ l. absurd (fails (a.each (lowest test n) (omega arith)) (w.holds (omega arith)))) (eq-or-lt_of_le (omega arith))

-- the first that fails decides
pub all-fails : (test : ℕ → Bool) (n i : ℕ) → i < n → test i ≡ false → all_below test n ≡ false
all-fails test n i h e = same_test (all_below test n) false (λ t. fails e (all-at test n t i h)) (λ t. absurd t)

pub all_pass : {test : ℕ → Bool} {n i : ℕ} → Asked test true n i → n ≤ i → all_below test n ≡ true
all_pass {test} {n} {i} a h =
    same_test (all_below test n) true (λ t. tt) (λ t. all_of test n (λ j l. passes (a.each j (omega arith))))

-- ---- a search looks at no number behind the one where it ends

-- two tests say no to the same number first, or to none
pub record SameFirst (f g : ℕ → Bool) (n : ℕ) : Type 0 where
  pub all_same : all_below f n ≡ all_below g n
  pub lowest-same : lowest (λ i. not (f i)) n ≡ lowest (λ i. not (g i)) n

-- so do tests that agree up to the first number to which one of them says no
pub first-decides : (f g : ℕ → Bool) (n : ℕ) → ((i : ℕ) → i ≤ lowest (λ i. not (f i)) n → f i ≡ g i) → SameFirst f g n
first-decides f g n h = go (all_below f n) refl
  where
    r : ℕ
    r = lowest (λ i. not (f i)) n

    go : (b : Bool) → all_below f n ≡ b → SameFirst f g n
    go true e = record { all_same = all-cong f g n same; lowest-same = lowest-cong (λ i. not (f i)) (λ i. not (g i)) n (λ i l. ap not (same i l)) }
      where
        same : (i : ℕ) → i < n → f i ≡ g i
        same i l = h i (omega (arith, lowest-none (asked-all f n n (omega arith) (passes e)) (omega arith)))
    go false e = record { all_same = e ∙ sym (all-fails g n r w.below no); lowest-same = sym (lowest-here before w.below (ap not no)) }
      where
        w : Lowest (λ i. not (f i)) n r
        w = not-all f n (fails e)

        no : g r ≡ false
        no = sym (h r (omega arith)) ∙ same_test (f r) false (λ t. T_not (f r) w.holds t) (λ t. absurd t)

        agrees : (j : ℕ) → j < r → not (g j) ≡ false
        agrees j l = same_test (not (g j)) false
            (λ t. absurd (before-first j l (w.least j (subst (λ b. T (not b)) (sym (h j (omega arith))) t)))) (λ t. absurd t)
          where
            before-first : (j : ℕ) → j < r → r ≤ j → ⊥
            before-first j l m = absurd (omega arith)

        before : Asked (λ i. not (g i)) false n r
        before = record { bounded = omega (arith, w.below); each = agrees }
