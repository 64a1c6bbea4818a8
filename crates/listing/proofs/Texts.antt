-- Text put behind text: two texts are one, and room for both is room for each.
use mathlib.Core.Path.{◌≡◌, refl, sym, ◌∙◌, ap, subst}
use mathlib.Core.List.{List, [], ◌∷◌, ◌++◌}
use Prim.Native.Nat.{ℕ, suc, ◌+◌, ◌≤◌}
use native.Mathlib.Omega.{arith}
use lib.ListN.{length, set, length-append}
use lib.Seq.{sets, length-sets}
use lib.IntN.{ℤ}
use mir.Syntax.{w64}
use mir.Val.{SFits, to_z, of_z}
use mir.Facts.{to_z-of_z}
use Rattle.listing.specs.Texts.{Put}

sets-append : (l : List ℕ) (i : ℕ) (x y : List ℕ) → sets l i (x ++ y) ≡ sets (sets l i x) (i + length x) y
sets-append l i [] y = ap (λ j. sets l j y) (omega arith)
sets-append l i (c ∷ x) y = sets-append (set l i c) (suc i) x y ∙ ap (λ j. sets (sets (set l i c) (suc i) x) j y) (omega arith)

pub put_then : {a b c : List ℕ} {i j k : ℕ} (x y : List ℕ) → Put a i x j b → Put b j y k c → Put a i (x ++ y) k c
put_then {a} {i = i} {j = j} x y p q = record {
  ends = omega (arith, p.ends, q.ends, length-append x y);
  holds = q.holds ∙ ap (λ l. sets l j y) p.holds ∙ ap (λ n. sets (sets a i x) n y) p.ends ∙ sym (sets-append a i x y);
}

-- room for both
pub room-first : (n i : ℕ) (x y : List ℕ) → i + length (x ++ y) ≤ n → i + length x ≤ n
room-first n i x y h = omega (arith, length-append x y)

pub room-then : {a b : List ℕ} {i j : ℕ} (x y : List ℕ) → Put a i x j b → i + length (x ++ y) ≤ length a → j + length y ≤ length b
room-then {a} {i = i} x y p h = omega (arith, length-append x y, p.ends, ap length p.holds, length-sets a i x)

-- the same text
pub put_is : {a b : List ℕ} {i j : ℕ} {x y : List ℕ} → x ≡ y → Put a i x j b → Put a i y j b
put_is {a} {b} {i} {j} e p = subst (λ x. Put a i x j b) e p

pub room-is : (n i : ℕ) {x y : List ℕ} → x ≡ y → i + length x ≤ n → i + length y ≤ n
room-is n i e h = subst (λ x. i + length x ≤ n) e h

-- ---- the text of a signed number, by the number that its bits read as

module _ (f : ℤ → List ℕ) (z : ℤ) (fits : SFits w64 z) where
  pub put-read : {a b : List ℕ} {i j : ℕ} → Put a i (f (to_z w64 (of_z w64 z))) j b → Put a i (f z) j b
  put-read p = put_is (ap f (to_z-of_z fits)) p

  pub room-read : (n i : ℕ) → i + length (f z) ≤ n → i + length (f (to_z w64 (of_z w64 z))) ≤ n
  room-read n i h = room-is n i (ap f (sym (to_z-of_z fits))) h

-- ---- nothing put

pub put-none : (a : List ℕ) (i : ℕ) → Put a i [] i a
put-none a i = record { ends = omega arith; holds = refl }
