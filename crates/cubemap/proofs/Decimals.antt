-- Numbers in decimal: the last digit stands behind the digits of the number without it, and a number below 10^j has at most j of them.
use mathlib.Core.Path.{◌≡◌, refl, sym, ◌∙◌, ap}
use mathlib.Core.Bool.{true, false, cond}
use mathlib.Core.List.{[], ◌∷◌, ◌++◌}
use Prim.Native.Nat.{ℕ, zero, suc, ◌+◌, ◌*◌, ◌/◌, ◌%◌, ◌^◌, ◌≤◌, ◌<◌}
use native.Mathlib.Nat.{pow-suc, le_of_eq}
use native.Mathlib.Omega.{arith}
use lib.Dec.{ltb, ltb→lt}
use lib.ListN.{length, length-append}
use lib.IntN.{ℤ, pos, negsuc, nat_abs}
use lib.Signed.{lt_z}
use borrow.Author.Tests.{lt-ltb, le-ltb}
use Rattle.arithmetic.proofs.Tests.{passes, fails, cond_both}
use Rattle.cubemap.specs.Listing.{digits, decimal}

-- ---- digits

one-digit : (k n : ℕ) → n < 10 → digits (suc k) n ≡ (48 + n) ∷ []
unfolding digits
one-digit k n h = ap (λ b. cond b ((48 + n) ∷ []) (digits k (n / 10) ++ ((48 + n % 10) ∷ []))) (lt-ltb n 10 h)

more-digits : (k n : ℕ) → 10 ≤ n → digits (suc k) n ≡ digits k (n / 10) ++ ((48 + n % 10) ∷ [])
unfolding digits
more-digits k n h = ap (λ b. cond b ((48 + n) ∷ []) (digits k (n / 10) ++ ((48 + n % 10) ∷ []))) (le-ltb n 10 h)

-- room for one digit more changes nothing
enough : (k n : ℕ) → n < 10 ^ suc k → digits (suc (suc k)) n ≡ digits (suc k) n
unfolding digits
enough zero n h = one-digit 1 n h ∙ sym (one-digit 0 n h)
enough (suc k) n h =
    let p : n < 10 ^ suc k * 10 = rw (pow-suc 10 (suc k)) at h in
    ap (λ d. cond (ltb n 10) ((48 + n) ∷ []) (d ++ ((48 + n % 10) ∷ []))) (enough k (n / 10) (omega arith))

pub digits-most : (k j n : ℕ) → n < 10 ^ suc j → length (digits k n) ≤ suc j
unfolding digits
digits-most zero j n h = omega arith
digits-most (suc k) zero n h = le_of_eq (ap length (one-digit k n h))
digits-most (suc k) (suc j) n h =
    let p : n < 10 ^ suc j * 10 = rw (pow-suc 10 (suc j)) at h in
    let d = digits-most k j (n / 10) (omega arith) in
    let e = length-append (digits k (n / 10)) ((48 + n % 10) ∷ []) in
    cond_both (λ d. length d ≤ suc (suc j)) (ltb n 10) ((48 + n) ∷ []) (digits k (n / 10) ++ ((48 + n % 10) ∷ []))
    (λ t. omega arith)
    (λ f. omega arith)

-- ---- natural numbers

pub decimal_digit : (n : ℕ) → n < 10 → decimal (pos n) ≡ (48 + n) ∷ []
decimal_digit n h = one-digit 19 n h

pub decimal-digits : (n : ℕ) → 10 ≤ n → n < 2 ^ 64 → decimal (pos n) ≡ decimal (pos (n / 10)) ++ ((48 + n % 10) ∷ [])
decimal-digits n h l = more-digits 19 n h ∙ ap (λ d. d ++ ((48 + n % 10) ∷ [])) (sym (enough 18 (n / 10) (omega arith)))

-- ---- signed numbers

pub decimal-below : (z : ℤ) → lt_z z (pos 0) ≡ true → decimal z ≡ 45 ∷ decimal (pos (nat_abs z))
decimal-below (pos n) e = absurd (omega (arith, ltb→lt n 0 (passes e)))
decimal-below (negsuc n) e = refl

pub decimal-above : (z : ℤ) → lt_z z (pos 0) ≡ false → decimal z ≡ decimal (pos (nat_abs z))
decimal-above (pos n) e = refl
decimal-above (negsuc n) e = absurd (fails e tt)
