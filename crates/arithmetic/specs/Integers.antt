-- Words about whole numbers.
use Rattle.std.specs.Prelude.{Bool, true, false, ℕ, zero, suc, ◌/◌, eqb, ℤ, pos, negsuc, neg_ℤ}

-- the largest whole number that is not above z / d, for d above 0: of −(a + 1) / d it is −(a / d + 1)
abbrev pub floor_div : ℤ → ℕ → ℤ
floor_div (pos a) d = pos (a / d)
floor_div (negsuc a) d = negsuc (a / d)

-- a whole number that is not negative, as it stands; a negative one as 0
abbrev pub natural : ℤ → ℕ
natural (pos n) = n
natural (negsuc n) = 0

-- the size c with the sign of z
abbrev pub with_sign_of : ℤ → ℕ → ℤ
with_sign_of (pos n) c = pos c
with_sign_of (negsuc n) c = neg_ℤ (pos c)

abbrev pub is_positive : ℤ → Bool
is_positive (pos zero) = false
is_positive (pos (suc n)) = true
is_positive (negsuc n) = false

abbrev pub is_negative : ℤ → Bool
is_negative (pos n) = false
is_negative (negsuc n) = true

abbrev pub equalℤ : ℤ → ℤ → Bool
equalℤ (pos m) (pos n) = eqb m n
equalℤ (pos m) (negsuc n) = false
equalℤ (negsuc m) (pos n) = false
equalℤ (negsuc m) (negsuc n) = eqb m n
