-- Sums and counts over the numbers below n: term by term, in another order, and sums of sums.
use mathlib.Core.Path.{◌≡◌, refl, sym, ◌∙◌, ap, ap₂, subst}
use mathlib.Core.Logic.{◌≢◌}
use mathlib.Core.Bool.{Bool, true, false, cond}
use Prim.Native.Nat.{ℕ, zero, suc, ◌+◌, ◌*◌, ◌-◌, ◌/◌, ◌%◌, ◌≤◌, ◌<◌}
use native.Mathlib.Nat.{add-zero, add-suc}
use native.Mathlib.Numerals.{add-one}
use native.Mathlib.Decide.{ℕ_discrete, dec_lt}
use native.Mathlib.Omega.{arith}
use lib.Dec.{T, ltb, ltb→lt, lt→ltb, eqb, eqb→eq, eqb_refl, leb, le→leb}
use lib.Dec.{leb-zero, leb-suc-zero, leb-suc-suc, eqb-zero-suc, eqb-suc-zero, eqb-suc-suc}
use lib.Arith.{digits_div, digits_mod}
use Rattle.arithmetic.specs.Sums.{sum_below, both_terms, count_below}
use Rattle.arithmetic.proofs.Tests.{cond-true, cond-false}

-- ---- sums

pub sum-cong : (n : ℕ) (f g : ℕ → ℕ) → ((i : ℕ) → i < n → f i ≡ g i) → sum_below f n ≡ sum_below g n
unfolding sum_below
sum-cong zero f g h = refl
sum-cong (suc n) f g h = ap₂ ◌+◌ (sum-cong n f g (λ i l. h i (omega arith))) (h n (omega arith))

-- no number is below 0
pub sum-empty : (f : ℕ → ℕ) → sum_below f 0 ≡ 0
unfolding sum_below
sum-empty f = refl

-- one number more
pub sum-next : (f : ℕ → ℕ) (n : ℕ) → sum_below f (n + 1) ≡ sum_below f n + f n
unfolding sum_below
sum-next f n = rw (add-one n)

-- the same term n times
pub sum_same : (n c : ℕ) → sum_below (λ i. c) n ≡ n * c
unfolding sum_below
sum_same zero c = omega arith
sum_same (suc n) c = omega (arith, sum_same n c)

pub sum-add : (n : ℕ) (f g : ℕ → ℕ) → sum_below (λ i. f i + g i) n ≡ sum_below f n + sum_below g n
unfolding sum_below
sum-add zero f g = refl
sum-add (suc n) f g = omega (arith, sum-add n f g)

-- a factor of all terms
pub sum-scale : (n c : ℕ) (f : ℕ → ℕ) → sum_below (λ i. c * f i) n ≡ c * sum_below f n
unfolding sum_below
sum-scale zero c f = omega arith
sum-scale (suc n) c f = omega (arith, sum-scale n c f)

-- n terms of at most b
pub sum-bounded : (n b : ℕ) (f : ℕ → ℕ) → ((i : ℕ) → i < n → f i ≤ b) → sum_below f n ≤ n * b
unfolding sum_below
sum-bounded zero b f h = omega arith
sum-bounded (suc n) b f h = omega (arith, sum-bounded n b f (λ i l. h i (omega arith)), h n (omega arith))

-- n terms of at least b
pub sum-least : (n b : ℕ) (f : ℕ → ℕ) → ((i : ℕ) → i < n → b ≤ f i) → n * b ≤ sum_below f n
unfolding sum_below
sum-least zero b f h = omega arith
sum-least (suc n) b f h = omega (arith, sum-least n b f (λ i l. h i (omega arith)), h n (omega arith))

pub sum-swap : (n m : ℕ) (a : ℕ → ℕ → ℕ) → sum_below (λ i. sum_below (λ k. a i k) m) n ≡ sum_below (λ k. sum_below (λ i. a i k) n) m
unfolding sum_below
sum-swap zero m a = omega (arith, sum_same m 0)
sum-swap (suc n) m a =
    ap (λ x. x + sum_below (λ k. a n k) m) (sum-swap n m a) ∙ sym (sum-add m (λ k. sum_below (λ i. a i k) n) (λ k. a n k))

-- the first term apart
pub sum_first : (f : ℕ → ℕ) (n : ℕ) → sum_below f (suc n) ≡ f 0 + sum_below (λ i. f (suc i)) n
unfolding sum_below
sum_first f zero = omega arith
sum_first f (suc n) = omega (arith, sum_first f n)

-- a sum over m + n numbers
pub sum-split : (f : ℕ → ℕ) (m n : ℕ) → sum_below f (m + n) ≡ sum_below f m + sum_below (λ i. f (m + i)) n
unfolding sum_below
sum-split f m zero = ap (sum_below f) (add-zero m) ∙ sym (add-zero (sum_below f m))
sum-split f m (suc n) = ap (sum_below f) (add-suc m n) ∙ omega (arith, sum-split f m n)

-- a sum of sums is one sum
pub sum-flat : (a b : ℕ) (h : ℕ → ℕ → ℕ) → sum_below (λ i. sum_below (λ j. h i j) b) a ≡ sum_below (λ k. h (k / b) (k % b)) (a * b)
unfolding sum_below
sum-flat zero b h = ap (sum_below (λ k. h (k / b) (k % b))) (nothing b)
  where
    nothing : (b : ℕ) → 0 ≡ 0 * b
    nothing b = omega arith
sum-flat (suc a) b h =
    ap₂ ◌+◌ (sum-flat a b h) (sum-cong b (λ j. h a j) (λ j. flat (a * b + j)) (λ j l. sym (ap₂ h (digits_div a l) (digits_mod a l))))
    ∙ sym (sum-split flat (a * b) b)
    ∙ ap (sum_below flat) (more a b)
  where
    flat : ℕ → ℕ
    flat k = h (k / b) (k % b)

    more : (a b : ℕ) → a * b + b ≡ suc a * b
    more a b = omega arith

-- ---- a sum from both ends

pub both-cong : (f g : ℕ → ℕ) (i j : ℕ) → f i ≡ g i → f j ≡ g j → both_terms f i j ≡ both_terms g i j
both-cong f g i j p q = ap₂ (λ x y. x + cond (ltb i j) y 0) p q

-- a factor of both terms
pub both-scale : (c : ℕ) (f : ℕ → ℕ) (i j : ℕ) → c * both_terms f i j ≡ both_terms (λ k. c * f k) i j
both-scale c f i j = go (ltb i j)
  where
    go : (b : Bool) → c * (f i + cond b (f j) 0) ≡ c * f i + cond b (c * f j) 0
    go true = omega arith
    go false = omega arith

-- a sum of such terms
pub sum_both : (n : ℕ) (g : ℕ → ℕ → ℕ) (i j : ℕ) → sum_below (λ m. both_terms (λ k. g k m) i j) n ≡ both_terms (λ k. sum_below (g k) n) i j
sum_both n g i j = go (ltb i j)
  where
    go : (b : Bool) → sum_below (λ m. g i m + cond b (g j m) 0) n ≡ sum_below (g i) n + cond b (sum_below (g j) n) 0
    go true = sum-add n (g i) (g j)
    go false = sum-add n (g i) (λ m. 0) ∙ omega (arith, sum_same n 0)

-- two terms of at most b
pub both-bounded : (f : ℕ → ℕ) (i j b : ℕ) → f i ≤ b → f j ≤ b → both_terms f i j ≤ b + b
both-bounded f i j b h k = go (ltb i j)
  where
    go : (t : Bool) → f i + cond t (f j) 0 ≤ b + b
    go true = omega arith
    go false = omega arith

module _ (f : ℕ → ℕ) where
  pub both-apart : (i j : ℕ) → i < j → f i + f j ≡ both_terms f i j
  both-apart i j h = ap (λ x. f i + x) (sym (cond-true (ltb i j) (f j) 0 (lt→ltb i j h)))

  pub both-same : (i j : ℕ) → (i < j → ⊥) → f i ≡ both_terms f i j
  both-same i j h = sym (add-zero (f i)) ∙ ap (λ x. f i + x) (sym (cond-false (ltb i j) (f j) 0 (λ t. h (ltb→lt i j t))))

  -- the terms i and n − 1 − i
  abbrev ends : ℕ → ℕ → ℕ
  ends n i = both_terms f i (n - suc i)

  -- k terms at each end
  ends-apart : (n k : ℕ) → 2 * k ≤ n → sum_below (ends n) k ≡ sum_below f k + sum_below (λ i. f (n - k + i)) k
  unfolding sum_below
  ends-apart n zero h = refl
  ends-apart n (suc k) h =
      ap₂ ◌+◌ (ends-apart n k (omega arith)) (sym (both-apart k (n - suc k) (omega arith)))
      ∙ omega (
        arith,
        sum_first (λ i. f (n - suc k + i)) k,
        ap f (add-zero (n - suc k)),
        sum-cong k (λ i. f (n - k + i)) (λ i. f (n - suc k + suc i)) (λ i l. ap f (omega arith)),
      )

  -- all terms
  pub sum-ends : (n k : ℕ) → n ≤ 2 * k → 2 * k ≤ n + 1 → sum_below (ends n) k ≡ sum_below f n
  unfolding sum_below
  sum-ends n zero h l = ap (sum_below f) (none n h)
    where
      none : (n : ℕ) → n ≤ 2 * 0 → 0 ≡ n
      none n h = omega arith
  sum-ends n (suc k) h l = go (ℕ_discrete n (2 * suc k))
    where
      join : (j m : ℕ) → n - m ≡ j → j + m ≡ n → sum_below f j + sum_below (λ i. f (n - m + i)) m ≡ sum_below f n
      join j m e d = ap (λ x. sum_below f j + sum_below (λ i. f (x + i)) m) e ∙ sym (sum-split f j m) ∙ ap (sum_below f) d

      go : Dec (n ≡ 2 * suc k) → sum_below (ends n) k + ends n k ≡ sum_below f n
      go (yes e) = ends-apart n (suc k) (omega arith) ∙ join (suc k) (suc k) (omega arith) (omega arith)
      go (no d) =
          ap₂ ◌+◌ (ends-apart n k (omega arith)) (sym (both-same k (n - suc k) (λ m. omega arith)))
          ∙ omega (arith, join (suc k) k (omega arith) (omega arith))

-- ---- a sum with one term

-- x where i is j, else 0
unfoldable pub only_at : ℕ → ℕ → ℕ → ℕ
only_at i j x = cond (eqb i j) x 0

pub only_at-same : (i x : ℕ) → only_at i i x ≡ x
unfolding only_at
only_at-same i x = cond-true (eqb i i) x 0 (eqb_refl i)

pub only_at-other : (i j x : ℕ) → i ≢ j → only_at i j x ≡ 0
unfolding only_at
only_at-other i j x h = cond-false (eqb i j) x 0 (λ t. h (eqb→eq i j t))

-- none of the numbers below n is j
sum-none : (n j : ℕ) (g : ℕ → ℕ) → n ≤ j → sum_below (λ i. only_at i j (g i)) n ≡ 0
unfolding sum_below
sum-none zero j g h = refl
sum-none (suc n) j g h = omega (arith, sum-none n j g (omega arith), only_at-other n j (g n) (omega arith))

pub sum_one : (n j : ℕ) (g : ℕ → ℕ) → j < n → sum_below (λ i. only_at i j (g i)) n ≡ g j
unfolding sum_below
sum_one zero j g h = absurd (omega arith)
sum_one (suc n) j g h = go (λ l. sum_one n j g l) (ℕ_discrete j n)
  where
    go : (j < n → sum_below (λ i. only_at i j (g i)) n ≡ g j) → Dec (j ≡ n) → sum_below (λ i. only_at i j (g i)) n + only_at n j (g n) ≡ g j
    go ih (yes e) = rw e (omega (arith, sum-none n n g (omega arith), only_at-same n (g n)))
    go ih (no d) = omega (arith, ih (omega arith), only_at-other n j (g n) (λ e. d (sym e)))

-- ---- another order

-- `to` takes the numbers below n to numbers below n, and `back` takes them back
pub record Bijection (n : ℕ) (to back : ℕ → ℕ) : Type 0 where
  pub to_below : (i : ℕ) → i < n → to i < n
  pub back_below : (i : ℕ) → i < n → back i < n
  pub back_to : (i : ℕ) → i < n → back (to i) ≡ i
  pub to_back : (i : ℕ) → i < n → to (back i) ≡ i

only_at-flip : (n : ℕ) (to back : ℕ → ℕ) → Bijection n to back → (x i k : ℕ) → i < n → k < n → only_at k (to i) x ≡ only_at i (back k) x
only_at-flip n to back s x i k hi hk = go (ℕ_discrete k (to i))
  where
    go : Dec (k ≡ to i) → only_at k (to i) x ≡ only_at i (back k) x
    go (yes e) = rw (e, only_at-same (to i) x, s.back_to i hi, only_at-same i x)
    go (no d) = only_at-other k (to i) x d ∙ sym (only_at-other i (back k) x (λ e. d (sym (s.to_back k hk) ∙ sym (ap to e))))

-- a sum is the same in another order
pub sum-reorder : (n : ℕ) (to back : ℕ → ℕ) → Bijection n to back → (f : ℕ → ℕ) → sum_below (λ i. f (to i)) n ≡ sum_below f n
sum-reorder n to back s f =
    sum-cong n (λ i. f (to i)) (λ i. sum_below (λ k. term i k) n) (λ i l. sym (sum_one n (to i) f (s.to_below i l)))
    ∙ sum-swap n n term
    ∙ sum-cong n (λ k. sum_below (λ i. term i k) n) f (λ k l.
    sum-cong n (λ i. term i k) (λ i. only_at i (back k) (f k)) (λ i m. only_at-flip n to back s (f k) i k m l)
    ∙ sum_one n (back k) (λ i. f k) (s.back_below k l))
  where
    term : ℕ → ℕ → ℕ
    term i k = only_at k (to i) (f k)

-- ---- counts

pub count_none : (test : ℕ → Bool) (n : ℕ) → ((k : ℕ) → k < n → T (test k) → ⊥) → count_below test n ≡ 0
unfolding sum_below
count_none test zero h = refl
count_none test (suc n) h = omega (arith, count_none test n (λ k l. h k (omega arith)), cond-false {X = ℕ} (test n) 1 0 (h n (omega arith)))

-- one passes: the count is 1 or more
pub count-one : (test : ℕ → Bool) (n r : ℕ) → r < n → T (test r) → 1 ≤ count_below test n
unfolding sum_below
count-one test zero r h t = absurd (omega arith)
count-one test (suc n) r h t = go (ℕ_discrete r n) (λ l. count-one test n r l t)
  where
    go : Dec (r ≡ n) → (r < n → 1 ≤ count_below test n) → 1 ≤ count_below test n + cond (test n) 1 0
    go (yes e) ih = omega (arith, cond-true {X = ℕ} (test n) 1 0 (subst (λ k. T (test k)) e t))
    go (no d) ih = omega (arith, ih (omega arith))

-- two pass: it is 2 or more
pub count-two : (test : ℕ → Bool) (n r k : ℕ) → r < k → k < n → T (test r) → T (test k) → 2 ≤ count_below test n
unfolding sum_below
count-two test zero r k l h t u = absurd (omega arith)
count-two test (suc n) r k l h t u = go (ℕ_discrete k n) (λ m. count-two test n r k l m t u)
  where
    go : Dec (k ≡ n) → (k < n → 2 ≤ count_below test n) → 2 ≤ count_below test n + cond (test n) 1 0
    go (yes e) ih = omega (arith, cond-true {X = ℕ} (test n) 1 0 (subst (λ j. T (test j)) e u), count-one test n r (omega arith) t)
    go (no d) ih = omega (arith, ih (omega arith))

-- ---- where each number below n is one of n numbers exactly once, the n numbers are all below n

-- x is one number below n, or n or more
hit-once : (x n : ℕ) → count_below (λ k. eqb x k) n + cond (leb n x) 1 0 ≡ 1
unfolding sum_below
hit-once x zero = rw (leb-zero x)
hit-once x (suc n) = omega (arith, hit-once x n, step x n)
  where
    step : (x n : ℕ) → cond (leb n x) 1 0 ≡ cond (eqb x n) 1 0 + cond (leb (suc n) x) 1 0
    step zero zero = refl
    step zero (suc n) = rw (leb-suc-zero n, eqb-zero-suc n, leb-suc-zero (suc n))
    step (suc x) zero = rw (leb-zero (suc x), eqb-suc-zero x, leb-suc-suc 0 x, leb-zero x)
    step (suc x) (suc n) = rw (leb-suc-suc n x, eqb-suc-suc x n, leb-suc-suc (suc n) x) (step x n)

-- the n counts of 1 take all of the n numbers g i: none is left to be n or more
pub each-once : (n : ℕ) (g : ℕ → ℕ) → ((k : ℕ) → k < n → count_below (λ i. eqb (g i) k) n ≡ 1) → (i : ℕ) → i < n → g i < n
each-once n g h i l = go (dec_lt (g i) n)
  where
    hits : ℕ → ℕ
    hits i = count_below (λ k. eqb (g i) k) n

    far : ℕ → Bool
    far i = leb n (g i)

    go : Dec (g i < n) → g i < n
    go (yes m) = m
    go (no d) = absurd (omega (
      arith,
      count-one far n i l (le→leb n (g i) (omega arith)),
      sum-add n hits (λ i. cond (far i) 1 0),
      sum-cong n (λ i. hits i + cond (far i) 1 0) (λ i. 1) (λ i m. hit-once (g i) n),
      sum-swap n n (λ i k. cond (eqb (g i) k) 1 0),
      sum-cong n (λ k. count_below (λ i. eqb (g i) k) n) (λ k. 1) h,
    ))
