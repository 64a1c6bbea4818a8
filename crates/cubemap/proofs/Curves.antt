-- The ACP curve: the largest whole number under equation 12, and so its cut, with the equation's root and without; zero at the centre, strictly
-- increasing, and inside the face.
use mathlib.Core.Path.{◌≡◌, refl, sym, ◌∙◌, ap, ap₂, subst, subst₂}
use mathlib.Core.List.{[], ◌∷◌}
use mathlib.Core.Bool.{Bool}
use Prim.Native.Nat.{ℕ, zero, suc, ◌+◌, ◌*◌, ◌-◌, ◌≤◌, ◌<◌}
use native.Mathlib.Nat.{mul_comm, mul-le-mul_left, mul-le-mul_right, mul-lt-mul_of_pos_left, mul-pos, mul-sub, zero-lt-suc, add-zero, add-suc}
use native.Mathlib.Nat.{le_of_suc-le-suc, lt_of_not-le, le_of_eq, le_trans, lt_of_lt_of_le, not-le_of_lt}
use native.Mathlib.Omega.{arith}
use lib.Dec.{leb, leb→le, le→leb}
use lib.IntN.{pos}
use Rattle.arithmetic.proofs.Sizes.{pos_inj}
use Rattle.arithmetic.proofs.Ring.{var, con, ◌⊕◌, ◌⊗◌, solve}
use Rattle.arithmetic.proofs.Searches.{IsLargest, largest-is, largest-unique}
use Rattle.cubemap.specs.PlaceToRay.{N, curve}

-- c·(34M − 9c), the left side of equation 12 in whole numbers of scale M
abbrev pub bent : ℕ → ℕ → ℕ
bent M c = c * (34 * M - 9 * c)

-- it rises from 0 to M
pub bent-rises : (M x y : ℕ) → x ≤ y → y ≤ M → bent M x ≤ bent M y
bent-rises M x y h g =
    let d : ℕ = y - x in
    let s : ℕ = 34 * M - 9 * y in
    let p : x + d ≡ y = omega arith in
    let q : s + 9 * d ≡ 34 * M - 9 * x = omega arith in
    let b : d * (9 * x) ≤ d * s = mul-le-mul_left d (omega arith) in
    let l : x * (s + 9 * d) ≡ x * s + d * (9 * x) = pos_inj (x * (s + 9 * d)) (x * s + d * (9 * x))
    (solve (pos x ∷ pos s ∷ pos d ∷ []) (var 0 ⊗ (var 1 ⊕ con (pos 9) ⊗ var 2)) (var 0 ⊗ var 1 ⊕ var 2 ⊗ (con (pos 9) ⊗ var 0)) tt) in
    let r : (x + d) * s ≡ x * s + d * s = pos_inj ((x + d) * s) (x * s + d * s)
    (solve (pos x ∷ pos s ∷ pos d ∷ []) ((var 0 ⊕ var 2) ⊗ var 1) (var 0 ⊗ var 1 ⊕ var 2 ⊗ var 1) tt) in
    subst₂ (λ m n. x * m ≤ n * s) q p (omega arith)

-- and by at most 34M at each step
pub bent-step : (M c : ℕ) → c < M → bent M (suc c) ≤ bent M c + 34 * M
bent-step M c h = go (34 * M - 9 * suc c) (34 * M - 9 * c) (omega arith) (omega arith)
  where
    go : (d e : ℕ) → e ≡ d + 9 → d ≤ 34 * M → suc c * d ≤ c * e + 34 * M
    go d e p q = rw p (omega arith)

-- and by at most 34M for each of several
pub bent-slope : (M x w : ℕ) → x + w ≤ M → bent M (x + w) ≤ bent M x + 34 * M * w
bent-slope M x w h = go (34 * M - 9 * (x + w)) (34 * M - 9 * x) (omega arith) (omega arith)
  where
    go : (d e : ℕ) → e ≡ d + 9 * w → d ≤ 34 * M → (x + w) * d ≤ x * e + 34 * M * w
    go d e p q = let l : w * d ≤ w * (34 * M) = mul-le-mul_left w q in rw p (omega arith)

-- at M it is 25·M²
pub bent-end : (M : ℕ) → bent M M ≡ 25 * M * M
bent-end M = ap (λ m. M * m) quarter ∙ mul_comm M (25 * M)
  where
    quarter : 34 * M - 9 * M ≡ 25 * M
    quarter = omega arith

-- so it is never more
pub bent-most : (M c : ℕ) → c ≤ M → bent M c ≤ 25 * M * M
bent-most M c h = le_trans (bent-rises M c M h (omega arith)) (le_of_eq (bent-end M))

-- on another scale: both numbers times a
pub bent-scaled : (A a z e : ℕ) → bent (a * e) (a * z) * A ≡ a * a * (bent e z * A)
bent-scaled A a z e =
    let s : ℕ = 34 * e - 9 * z in
    let x : 34 * (a * e) - 9 * (a * z) ≡ a * s =
    ap₂ ◌-◌
    (pos_inj (34 * (a * e)) (a * (34 * e)) (solve (pos a ∷ pos e ∷ []) (con (pos 34) ⊗ (var 0 ⊗ var 1)) (var 0 ⊗ (con (pos 34) ⊗ var 1)) tt))
    (pos_inj (9 * (a * z)) (a * (9 * z)) (solve (pos a ∷ pos z ∷ []) (con (pos 9) ⊗ (var 0 ⊗ var 1)) (var 0 ⊗ (con (pos 9) ⊗ var 1)) tt))
    ∙ sym (mul-sub a (34 * e) (9 * z)) in
    ap (λ m. a * z * m * A) x
    ∙ pos_inj (a * z * (a * s) * A) (a * a * (z * s * A))
    (solve (pos A ∷ pos a ∷ pos z ∷ pos s ∷ []) (var 1 ⊗ var 2 ⊗ (var 1 ⊗ var 3) ⊗ var 0) (var 1 ⊗ var 1 ⊗ (var 2 ⊗ var 3 ⊗ var 0)) tt)

-- ---- the curve

-- c passes the paper's test at k
abbrev pub Fits : ℕ → ℕ → ℕ → Type 0
Fits A k c = bent N c * A ≤ 25 * N * N * k

pub record IsCurve (A k c : ℕ) : Type 0 where
  pub bounded : c ≤ N
  pub fits : Fits A k c
  pub most : (d : ℕ) → d ≤ N → Fits A k d → d ≤ c

pub curve-is : (A k : ℕ) → IsCurve A k (curve A k)
unfolding curve
curve-is A k = record {
  bounded = g.bounded;
  fits = leb→le (bent N (curve A k) * A) (25 * N * N * k) g.holds;
  most = λ d h f. g.most d h (le→leb (bent N d * A) (25 * N * N * k) f);
}
  where
    test : ℕ → Bool
    test c = leb (c * (34 * N - 9 * c) * A) (25 * N * N * k)

    g : IsLargest test N (curve A k)
    g = largest-is test N 0 (omega arith) (le→leb (0 * (34 * N - 9 * 0) * A) (25 * N * N * k) (omega arith))

-- and nothing else is
pub curve-only : (A k c : ℕ) → IsCurve A k c → curve A k ≡ c
unfolding curve
curve-only A k c g = largest-unique (λ d. leb (bent N d * A) (25 * N * N * k)) N c (record {
  bounded = g.bounded;
  holds = le→leb (bent N c * A) (25 * N * N * k) g.fits;
  most = λ d h t. g.most d h (leb→le (bent N d * A) (25 * N * N * k) t);
})

-- bisection: `low` fits, and `high` does not or is beyond N
pub record Bracket (A k low high : ℕ) : Type 0 where
  pub order : low < high
  pub top : high ≤ N + 1
  pub fits : Fits A k low
  pub over : high ≤ N → 25 * N * N * k < bent N high * A

-- it ends with the curve
pub bracket-end : (A k low high : ℕ) → Bracket A k low high → high ≤ low + 1 → low ≡ curve A k
bracket-end A k low high g l = sym (curve-only A k low (record { bounded = omega (arith, g.order, g.top); fits = g.fits; most = most }))
  where
    most : (d : ℕ) → d ≤ N → Fits A k d → d ≤ low
    most d h f = le_of_suc-le-suc (lt_of_not-le (λ (m : suc low ≤ d).
        let o = g.over (omega arith) in
        let r = mul-le-mul_right A (bent-rises N high d (omega arith) h) in
        omega arith))

-- what is above the curve does not fit
pub curve-over : (A k d : ℕ) → curve A k < d → d ≤ N → 25 * N * N * k < bent N d * A
curve-over A k d l h = lt_of_not-le (λ f. not-le_of_lt l ((curve-is A k).most d h f))

-- inside the face the curve is below N
pub curve-below : (A k : ℕ) → k < A → curve A k < N
curve-below A k h = lt_of_not-le (λ l. go (curve A k) (curve-is A k) l)
  where
    go : (c : ℕ) → IsCurve A k c → N ≤ c → ⊥
    go c g l =
        let e : c ≡ N = omega (arith, g.bounded) in
        let w : bent N N * A ≤ 25 * N * N * k = subst (λ c. Fits A k c) e g.fits in
        omega arith

-- at the centre it is 0
pub curve-zero : (A : ℕ) → 0 < A → curve A 0 ≡ 0
curve-zero A h = go (curve A 0) (curve-is A 0)
  where
    go : (c : ℕ) → IsCurve A 0 c → c ≡ 0
    go zero g = refl
    go (suc c) g = absurd (omega (arith, g.fits, mul-pos (mul-pos (zero-lt-suc c) (some g.bounded)) h))
      where
        some : suc c ≤ N → 0 < 34 * N - 9 * suc c
        some l = omega arith

-- the next number is over: 25N²k lies less than 34N·A above what the curve takes up
pub curve-next : (A k : ℕ) → k < A → 25 * N * N * k < bent N (curve A k) * A + 34 * N * A
curve-next A k h =
    let b = curve-below A k h in
    omega (arith, curve-over A k (suc (curve A k)) (omega arith) (omega arith), mul-le-mul_right A (bent-step N (curve A k) b))

-- it rises
pub curve-rises : (A j k : ℕ) → j ≤ k → curve A j ≤ curve A k
curve-rises A j k h =
    (curve-is A k).most (curve A j) (curve-is A j).bounded (le_trans (curve-is A j).fits (mul-le-mul_left (25 * N * N) h))

-- it is strictly increasing, for face sizes up to 512
curve-step : (A k : ℕ) → A ≤ 512 → k < A → curve A k < curve A (suc k)
curve-step A k a h =
    let b = curve-below A k h in
    (curve-is A (suc k)).most (suc (curve A k)) (omega arith) (omega (arith, (curve-is A k).fits, mul-le-mul_right A (bent-step N (curve A k) b)))

pub curve-increases : (A j k : ℕ) → A ≤ 512 → j < k → k ≤ A → curve A j < curve A k
curve-increases A j k a l h = subst (λ n. curve A j < curve A n) there (steps (k - suc j) (omega arith))
  where
    there : suc (j + (k - suc j)) ≡ k
    there = omega arith

    steps : (d : ℕ) → j + d < A → curve A j < curve A (suc (j + d))
    steps zero m = rw (add-zero j) (curve-step A j a (omega arith))
    steps (suc d) m = omega (arith, steps d (omega arith), curve-step A (j + suc d) a m, ap (curve A) (add-suc j d))

-- ---- "This is equation 12 of document 000, rounded towards zero": c / N is the cut of the number that the equation names. A ratio n / e of
-- at most 1 is at most that number where n·(34e − 9n)·A ≤ 25·e²·k.

module _ (A k n e : ℕ) (hk : k < A) (hn : n ≤ e) (he : 0 < e) where
  -- the right sides on the two scales
  right : N * N * (25 * e * e * k) ≡ e * e * (25 * N * N * k)
  right = pos_inj (N * N * (25 * e * e * k)) (e * e * (25 * N * N * k))
      (solve (pos e ∷ pos k ∷ [])
      (con (pos N) ⊗ con (pos N) ⊗ (con (pos 25) ⊗ var 0 ⊗ var 0 ⊗ var 1))
      (var 0 ⊗ var 0 ⊗ (con (pos 25) ⊗ con (pos N) ⊗ con (pos N) ⊗ var 1)) tt)

  -- the left sides of C of scale N and n of scale e, in the order of C·e and N·n
  under : (C : ℕ) → C * e ≤ N * n → e * e * (bent N C * A) ≤ N * N * (bent e n * A)
  under C h =
      let m : e * N ≡ N * e = mul_comm e N in
      let w : e * C ≤ N * n = subst (λ z. z ≤ N * n) (mul_comm C e) h in
      subst₂ (λ a b. a ≤ b) (bent-scaled A e C N) (ap (λ M. bent M (N * n) * A) m ∙ bent-scaled A N n e)
      (mul-le-mul_right A (bent-rises (e * N) (e * C) (N * n) w (subst (λ M. N * n ≤ M) (sym m) (mul-le-mul_left N hn))))

  over : (C : ℕ) → C ≤ N → N * n ≤ C * e → N * N * (bent e n * A) ≤ e * e * (bent N C * A)
  over C h_c h =
      let m : e * N ≡ N * e = mul_comm e N in
      let w : N * n ≤ e * C = subst (λ z. N * n ≤ z) (mul_comm C e) h in
      subst₂ (λ a b. a ≤ b) (bent-scaled A N n e) (ap (λ M. bent M (e * C) * A) (sym m) ∙ bent-scaled A e C N)
      (mul-le-mul_right A (bent-rises (N * e) (N * n) (e * C) w (subst (λ M. e * C ≤ M) m (mul-le-mul_left e h_c))))

  -- a ratio at or below the number is below (c + 1) / N
  pub curve-cut-above : bent e n * A ≤ 25 * e * e * k → N * n < (curve A k + 1) * e
  curve-cut-above h = lt_of_not-le (λ l.
      let c : ℕ = curve A k in
      let b = curve-below A k hk in
      let f : 25 * N * N * k < bent N (c + 1) * A = curve-over A k (c + 1) (omega arith) (omega arith) in
      let y : e * e * (25 * N * N * k) < e * e * (bent N (c + 1) * A) = mul-lt-mul_of_pos_left f (mul-pos he he) in
      let z : N * N * (bent e n * A) ≤ N * N * (25 * e * e * k) = mul-le-mul_left (N * N) h in
      not-le_of_lt (lt_of_lt_of_le y (under (c + 1) l)) (subst (λ m. N * N * (bent e n * A) ≤ m) right z))

  -- a ratio above it is above c / N
  pub curve-cut-below : 25 * e * e * k < bent e n * A → curve A k * e < N * n
  curve-cut-below h = lt_of_not-le (λ l.
      let c : ℕ = curve A k in
      let y : e * e * (bent N c * A) ≤ e * e * (25 * N * N * k) = mul-le-mul_left (e * e) (curve-is A k).fits in
      let z : N * N * (25 * e * e * k) < N * N * (bent e n * A) = mul-lt-mul_of_pos_left h (omega arith) in
      not-le_of_lt z (le_trans (over c (curve-is A k).bounded l) (subst (λ m. e * e * (bent N c * A) ≤ m) (sym right) y)))

-- ---- equation 12 with its root, without reals: c/N ≤ (0.34 − √(0.34² − 0.09·k/A)) / 0.18 < (c+1)/N. Times 100·N, with the root alone on one side:
-- 34N − 18c ≥ √(1156 − 900·k/A)·N > 34N − 18(c+1); none of the three is negative, so their squares are in the same order.

-- (34M − 18c)² = 1156·M² − 36·c·(34M − 9c)
bent-square : (M c : ℕ) → c ≤ M → (34 * M - 18 * c) * (34 * M - 18 * c) + 36 * bent M c ≡ 34 * M * (34 * M)
bent-square M c h = go (34 * M - 18 * c) (34 * M - 9 * c) (34 * M) (omega arith) (omega arith)
  where
    go : (g e m : ℕ) → e ≡ g + 9 * c → m ≡ g + 18 * c → g * g + 36 * (c * e) ≡ m * m
    go g e m p q = rw (p, q) (omega arith)

module _ (A k : ℕ) (h : k < A) where
  pub equation-12-below :
      N * N * (1156 * A - 900 * k) ≤ (34 * N - 18 * curve A k) * (34 * N - 18 * curve A k) * A
  equation-12-below =
      let c : ℕ = curve A k in
      let e = ap (λ m. m * A) (bent-square N c (curve-is A k).bounded) in
      omega (arith, e, (curve-is A k).fits)

  pub equation-12-above :
      (34 * N - 18 * (curve A k + 1)) * (34 * N - 18 * (curve A k + 1)) * A < N * N * (1156 * A - 900 * k)
  equation-12-above =
      let c : ℕ = curve A k in
      let b = curve-below A k h in
      let e = ap (λ m. m * A) (bent-square N (c + 1) (omega arith)) in
      omega (arith, e, curve-over A k (c + 1) (omega arith) (omega arith))
