-- Laws of tests: what a passed test says of its parts, and what it chooses.
use mathlib.Core.Path.{◌≡◌, refl, sym, subst, ◌∙◌}
use mathlib.Core.Logic.{◌⊎◌, inl, inr}
use mathlib.Core.Bool.{Bool, true, false, not, ◌&&◌, ◌||◌, cond}
use lib.Dec.{T}
use borrow.Author.Tests.{not-false}

pub passes : {b : Bool} → b ≡ true → T b
passes e = subst T (sym e) tt

-- behind an exit that is taken where the answer r to a test is no, the test passes
pub not-refused : {r b : Bool} → r ≡ b → not r ≡ false → T b
not-refused {r} e h = passes (sym e ∙ not-false r h)

pub fails : {b : Bool} → b ≡ false → T b → ⊥
fails e t = subst T e t

-- two tests that pass together are one
pub same_test : (a b : Bool) → (T a → T b) → (T b → T a) → a ≡ b
same_test true true f g = refl
same_test true false f g = absurd (f tt)
same_test false true f g = absurd (g tt)
same_test false false f g = refl

-- ---- conjunctions

pub and_left : (a b : Bool) → T (a && b) → T a
and_left true b t = tt
and_left false b t = t

pub and_right : (a b : Bool) → T (a && b) → T b
and_right true b t = t
and_right false b t = absurd t

pub both_true : {a b : Bool} → (a && b) ≡ true → (a ≡ true) × (b ≡ true)
both_true {a} {b} e = go a b e
  where
    go : (a b : Bool) → (a && b) ≡ true → (a ≡ true) × (b ≡ true)
    go true b e = (refl, e)
    go false b e = absurd (passes e)

pub and_both : (a b : Bool) → T a → T b → T (a && b)
and_both true b s t = t
and_both false b s t = absurd s

-- three and four tests in a row
pub record All3 (a b c : Bool) : Type 0 where
  pub first : T a
  pub second : T b
  pub third : T c

pub and3 : (a b c : Bool) → T (a && b && c) → All3 a b c
and3 a b c t = record {
  first = and_left a b (and_left (a && b) c t);
  second = and_right a b (and_left (a && b) c t);
  third = and_right (a && b) c t;
}

pub record All4 (a b c d : Bool) : Type 0 where
  pub first : T a
  pub second : T b
  pub third : T c
  pub fourth : T d

pub and4 : (a b c d : Bool) → T (a && b && c && d) → All4 a b c d
and4 a b c d t = record {
  first = front.first;
  second = front.second;
  third = front.third;
  fourth = and_right (a && b && c) d t;
}
  where
    front : All3 a b c
    front = and3 a b c (and_left (a && b && c) d t)

pub all3 : (a b c : Bool) → T a → T b → T c → T (a && b && c)
all3 a b c s t u = and_both (a && b) c (and_both a b s t) u

pub all4 : (a b c d : Bool) → T a → T b → T c → T d → T (a && b && c && d)
all4 a b c d s t u v = and_both (a && b && c) d (all3 a b c s t u) v

pub or_cases : (a b : Bool) → T (a || b) → T a ⊎ T b
or_cases true b t = inl tt
or_cases false b t = inr t

-- ---- what a test chooses

pub cond-true {ℓ} : {X : Type ℓ} (b : Bool) (x y : X) → T b → cond b x y ≡ x
cond-true true x y t = refl
cond-true false x y t = absurd t

pub cond-false {ℓ} : {X : Type ℓ} (b : Bool) (x y : X) → (T b → ⊥) → cond b x y ≡ y
cond-false true x y f = absurd (f tt)
cond-false false x y f = refl

-- the first choice matters only where the test passes
pub cond-cong {ℓ} : {X : Type ℓ} {x y : X} (b : Bool) (z : X) → (T b → x ≡ y) → cond b x z ≡ cond b y z
cond-cong true z h = h tt
cond-cong false z h = refl

-- whatever holds of both choices holds of the one that the test makes
pub cond_both {ℓ} : {X : Type ℓ} (P : X → Type 0) (b : Bool) (x y : X) → (T b → P x) → ((T b → ⊥) → P y) → P (cond b x y)
cond_both P true x y f g = f tt
cond_both P false x y f g = g (λ t. t)
