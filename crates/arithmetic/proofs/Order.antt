-- The order of ℤ by differences: a ≤ b says that b is a and a natural number, a < b that it is a and one above 0.
use mathlib.Core.Path.{◌≡◌, refl, sym, ◌∙◌, ap, subst}
use mathlib.Core.List.{[], ◌∷◌}
use mathlib.Core.Bool.{Bool, true, false, cond}
use Prim.Native.Nat.{ℕ, suc, ◌+◌, ◌-◌, ◌≤◌, ◌<◌}
use native.Mathlib.Omega.{arith}
use lib.Dec.{T, leb→le, le→leb, ltb, ltb→lt, lt→ltb}
use lib.IntN.{ℤ, pos, negsuc, neg_ℤ, ◌+ℤ◌, ◌-ℤ◌}
use lib.Signed.{◌≤ℤ◌, ◌<ℤ◌, le_z, lt_z}
use Rattle.arithmetic.proofs.Ring.{var, ◌⊕◌, ◌⊝◌, ⊖, solve}
use Rattle.arithmetic.proofs.Sizes.{neg-above}

above : (a : ℤ) (n : ℕ) → T (le_z a (a +ℤ pos n))
above (pos x) n = le→leb x (x + n) (omega arith)
above (negsuc x) n = go (ltb n (suc x)) refl
  where
    go : (t : Bool) → ltb n (suc x) ≡ t → T (le_z (negsuc x) (cond t (negsuc (suc x - suc n)) (pos (n - suc x))))
    go true e = le→leb (suc x - suc n) x (omega arith)
    go false e = tt

pub le_intro : (a b : ℤ) (n : ℕ) → b ≡ a +ℤ pos n → a ≤ℤ b
le_intro a b n e = record { le = subst (λ z. T (le_z a z)) (sym e) (above a n) }

pub le-elim : (a b : ℤ) → a ≤ℤ b → (n : ℕ) × (b ≡ a +ℤ pos n)
le-elim a b h = step a b h.le
  where
    step : (a b : ℤ) → T (le_z a b) → (n : ℕ) × (b ≡ a +ℤ pos n)
    step (pos a) (pos b) t = let h = leb→le a b t in (b - a, ap pos (omega arith))
    step (pos a) (negsuc b) t = absurd t
    step (negsuc a) (pos b) t = (b + suc a, solve (pos (suc a) ∷ pos b ∷ []) (var 1) (⊖ (var 0) ⊕ (var 1 ⊕ var 0)) tt)
    step (negsuc a) (negsuc b) t = let h = leb→le b a t in (a - b, neg-above b (a - b) (suc a) (omega arith))

strictly-above : (a : ℤ) (n : ℕ) → T (lt_z a (a +ℤ pos (suc n)))
strictly-above (pos x) n = lt→ltb x (x + suc n) (omega arith)
strictly-above (negsuc x) n = go (ltb (suc n) (suc x)) refl
  where
    go : (t : Bool) → ltb (suc n) (suc x) ≡ t → T (lt_z (negsuc x) (cond t (negsuc (suc x - suc (suc n))) (pos (suc n - suc x))))
    go true e = let l : suc n < suc x = ltb→lt (suc n) (suc x) (subst T (sym e) tt) in lt→ltb (suc x - suc (suc n)) x (omega arith)
    go false e = tt

pub lt-intro : (a b : ℤ) (n : ℕ) → b ≡ a +ℤ pos (suc n) → a <ℤ b
lt-intro a b n e = record { lt = subst (λ z. T (lt_z a z)) (sym e) (strictly-above a n) }

pub lt-elim : (a b : ℤ) → a <ℤ b → (n : ℕ) × (b ≡ a +ℤ pos (suc n))
lt-elim a b h = step a b h.lt
  where
    step : (a b : ℤ) → T (lt_z a b) → (n : ℕ) × (b ≡ a +ℤ pos (suc n))
    step (pos a) (pos b) t = let h = ltb→lt a b t in (b - suc a, ap pos (omega arith))
    step (pos a) (negsuc b) t = absurd t
    step (negsuc a) (pos b) t =
        let e : b + suc a ≡ suc (b + a) = omega arith in
        (b + a, solve (pos (suc a) ∷ pos b ∷ []) (var 1) (⊖ (var 0) ⊕ (var 1 ⊕ var 0)) tt ∙ ap (λ m. negsuc a +ℤ pos m) e)
    step (negsuc a) (negsuc b) t = let h = ltb→lt b a t in (a - suc b, neg-above b (suc (a - suc b)) (suc a) (omega arith))

-- ---- differences from one number are in the order of what they are taken from

further : (a b n k : ℕ) → b ≡ a + n → pos b -ℤ pos k ≡ pos a -ℤ pos k +ℤ pos n
further a b n k e =
    ap (λ m. pos m -ℤ pos k) e ∙ solve (pos a ∷ pos n ∷ pos k ∷ []) (var 0 ⊕ var 1 ⊝ var 2) (var 0 ⊝ var 2 ⊕ var 1) tt

pub difference-le : (a b k : ℕ) → a ≤ b → (pos a -ℤ pos k) ≤ℤ (pos b -ℤ pos k)
difference-le a b k h = le_intro (pos a -ℤ pos k) (pos b -ℤ pos k) (b - a) (further a b (b - a) k (omega arith))

pub difference-lt : (a b k : ℕ) → a < b → (pos a -ℤ pos k) <ℤ (pos b -ℤ pos k)
difference-lt a b k h = lt-intro (pos a -ℤ pos k) (pos b -ℤ pos k) (b - suc a) (further a b (suc (b - suc a)) k (omega arith))

-- ---- opposite numbers are in the opposite order, and below every natural number

pub opposite-le : (a b : ℕ) → b ≤ a → neg_ℤ (pos a) ≤ℤ neg_ℤ (pos b)
opposite-le a b h = le_intro (neg_ℤ (pos a)) (neg_ℤ (pos b)) (a - b)
    (solve (pos b ∷ pos (a - b) ∷ []) (⊖ (var 0)) (⊖ (var 0 ⊕ var 1) ⊕ var 1) tt ∙ ap (λ n. neg_ℤ (pos n) +ℤ pos (a - b)) back)
  where
    back : b + (a - b) ≡ a
    back = omega arith

pub opposite-below : (a b : ℕ) → neg_ℤ (pos a) ≤ℤ pos b
opposite-below a b = le_intro (neg_ℤ (pos a)) (pos b) (b + a) (solve (pos a ∷ pos b ∷ []) (var 1) (⊖ (var 0) ⊕ (var 1 ⊕ var 0)) tt)

pub natural-le : (a b : ℕ) → a ≤ b → pos a ≤ℤ pos b
natural-le a b h = le_intro (pos a) (pos b) (b - a) (ap pos (omega arith))
