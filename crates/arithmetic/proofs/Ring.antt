-- Identities between polynomials over ℤ, proved by computation. `Expr` is an expression over numbered variables, `eval ρ e` its value where
-- variable i is number i of the list ρ, and `norm ρ e` its normal form: a polynomial in the variables, one after the other.
--     binomial a b = solve (a ∷ b ∷ []) ((var 0 ⊕ var 1) ⊗ (var 0 ⊝ var 1)) (var 0 ⊗ var 0 ⊝ var 1 ⊗ var 1) tt
-- proves (a + b)·(a − b) ≡ a·a − b·b. A wrong identity is refused at its `tt`.
use mathlib.Core.Path.{◌≡◌, refl, sym, ◌∙◌, ap, ap₂}
use mathlib.Core.List.{List, [], ◌∷◌}
use mathlib.Core.Bool.{Bool, true, false}
use Prim.Native.Nat.{ℕ, zero, suc}
use lib.Dec.{T}
use lib.IntN.{ℤ, pos, negsuc, neg_ℤ, ◌+ℤ◌, ◌*ℤ◌, +ℤ_assoc, +ℤ_comm, +ℤ_idl, +ℤ_idr, zero-*ℤ, *ℤ-zero, *ℤ_comm, neg_ℤ-+ℤ, neg_ℤ-neg_ℤ}
use Rattle.arithmetic.proofs.Integers.{add-mul, mul-add, mul-neg, mul-one, mul_assoc, neg_unique}

infixl 6 ◌⊕◌ ◌⊝◌
infixl 7 ◌⊗◌
pub data Expr : Type 0 where
  var : ℕ → Expr
  con : ℤ → Expr
  ◌⊕◌ : Expr → Expr → Expr
  ◌⊗◌ : Expr → Expr → Expr
  ⊖ : Expr → Expr

abbrev pub ◌⊝◌ : Expr → Expr → Expr
a ⊝ b = a ⊕ ⊖ b

-- number i of the list, 0 past the last
abbrev pub at : List ℤ → ℕ → ℤ
at [] i = pos 0
at (x ∷ ρ) zero = x
at (x ∷ ρ) (suc i) = at ρ i

abbrev pub eval : List ℤ → Expr → ℤ
eval ρ (var i) = at ρ i
eval ρ (con c) = c
eval ρ (a ⊕ b) = eval ρ a +ℤ eval ρ b
eval ρ (a ⊗ b) = eval ρ a *ℤ eval ρ b
eval ρ (⊖ a) = neg_ℤ (eval ρ a)

-- ---- polynomials: in no variable a number; in one more the list of the coefficients of its powers

abbrev pub Polynomial : List ℤ → Type 0
Polynomial [] = ℤ
Polynomial (x ∷ ρ) = List (Polynomial ρ)

module _ {C : Type 0} where
  abbrev pub add_lists : (C → C → C) → List C → List C → List C
  add_lists f [] q = q
  add_lists f (a ∷ p) [] = a ∷ p
  add_lists f (a ∷ p) (b ∷ q) = f a b ∷ add_lists f p q

  abbrev pub map_list : (C → C) → List C → List C
  map_list f [] = []
  map_list f (a ∷ p) = f a ∷ map_list f p

  abbrev pub mul_lists : C → (C → C → C) → (C → C → C) → List C → List C → List C
  mul_lists z f g [] q = []
  mul_lists z f g (a ∷ p) q = add_lists f (map_list (g a) q) (z ∷ mul_lists z f g p q)

  abbrev pub all_in : (C → Bool) → List C → Bool
  all_in f [] = true
  all_in f (a ∷ p) = elim (f a) [ true ↦ all_in f p | false ↦ false ]

abbrev pub is_zero : ℤ → Bool
is_zero (pos zero) = true
is_zero (pos (suc n)) = false
is_zero (negsuc n) = false

abbrev pub constant : (ρ : List ℤ) → ℤ → Polynomial ρ
constant [] c = c
constant (x ∷ ρ) c = constant ρ c ∷ []

abbrev pub variable : (ρ : List ℤ) → ℕ → Polynomial ρ
variable [] i = pos 0
variable (x ∷ ρ) zero = constant ρ (pos 0) ∷ constant ρ (pos 1) ∷ []
variable (x ∷ ρ) (suc i) = variable ρ i ∷ []

abbrev pub add : (ρ : List ℤ) → Polynomial ρ → Polynomial ρ → Polynomial ρ
add [] a b = a +ℤ b
add (x ∷ ρ) a b = add_lists (add ρ) a b

abbrev pub neg : (ρ : List ℤ) → Polynomial ρ → Polynomial ρ
neg [] a = neg_ℤ a
neg (x ∷ ρ) a = map_list (neg ρ) a

abbrev pub mul : (ρ : List ℤ) → Polynomial ρ → Polynomial ρ → Polynomial ρ
mul [] a b = a *ℤ b
mul (x ∷ ρ) a b = mul_lists (constant ρ (pos 0)) (add ρ) (mul ρ) a b

-- has it no coefficient but 0?
abbrev pub all_zero : (ρ : List ℤ) → Polynomial ρ → Bool
all_zero [] a = is_zero a
all_zero (x ∷ ρ) a = all_in (all_zero ρ) a

abbrev pub norm : (ρ : List ℤ) → Expr → Polynomial ρ
norm ρ (var i) = variable ρ i
norm ρ (con c) = constant ρ c
norm ρ (a ⊕ b) = add ρ (norm ρ a) (norm ρ b)
norm ρ (a ⊗ b) = mul ρ (norm ρ a) (norm ρ b)
norm ρ (⊖ a) = neg ρ (norm ρ a)

-- are the two expressions one polynomial?
abbrev pub identical : List ℤ → Expr → Expr → Bool
identical ρ l r = all_zero ρ (norm ρ (l ⊝ r))

-- ---- the value of a polynomial

module _ {C : Type 0} (x : ℤ) (w : C → ℤ) where
  abbrev pub value_of_list : List C → ℤ
  value_of_list [] = pos 0
  value_of_list (a ∷ p) = w a +ℤ x *ℤ value_of_list p

abbrev pub value : (ρ : List ℤ) → Polynomial ρ → ℤ
value [] a = a
value (x ∷ ρ) a = value_of_list x (value ρ) a

exchange : (a b c d : ℤ) → a +ℤ b +ℤ (c +ℤ d) ≡ a +ℤ c +ℤ (b +ℤ d)
exchange a b c d =
    +ℤ_assoc a b (c +ℤ d)
    ∙ ap (λ z. a +ℤ z) (sym (+ℤ_assoc b c d) ∙ ap (λ z. z +ℤ d) (+ℤ_comm b c) ∙ +ℤ_assoc c b d)
    ∙ sym (+ℤ_assoc a c (b +ℤ d))

mul_left_comm : (x c y : ℤ) → x *ℤ (c *ℤ y) ≡ c *ℤ (x *ℤ y)
mul_left_comm x c y = sym (mul_assoc x c y) ∙ ap (λ z. z *ℤ y) (*ℤ_comm x c) ∙ mul_assoc c x y

module _ {C : Type 0} (x : ℤ) (w : C → ℤ) where
  abbrev of : List C → ℤ
  of p = value_of_list x w p

  add_lists-is : (f : C → C → C) → ((a b : C) → w (f a b) ≡ w a +ℤ w b) → (p q : List C) → of (add_lists f p q) ≡ of p +ℤ of q
  add_lists-is f h [] q = sym (+ℤ_idl (of q))
  add_lists-is f h (a ∷ p) [] = sym (+ℤ_idr (of (a ∷ p)))
  add_lists-is f h (a ∷ p) (b ∷ q) =
      ap₂ ◌+ℤ◌ (h a b) (ap (λ z. x *ℤ z) (add_lists-is f h p q) ∙ mul-add x (of p) (of q)) ∙ exchange (w a) (w b) (x *ℤ of p) (x *ℤ of q)

  map_list-mul : (f : C → C) (c : ℤ) → ((a : C) → w (f a) ≡ c *ℤ w a) → (p : List C) → of (map_list f p) ≡ c *ℤ of p
  map_list-mul f c h [] = sym (*ℤ-zero c)
  map_list-mul f c h (a ∷ p) =
      ap₂ ◌+ℤ◌ (h a) (ap (λ z. x *ℤ z) (map_list-mul f c h p) ∙ mul_left_comm x c (of p)) ∙ sym (mul-add c (w a) (x *ℤ of p))

  map_list-neg : (f : C → C) → ((a : C) → w (f a) ≡ neg_ℤ (w a)) → (p : List C) → of (map_list f p) ≡ neg_ℤ (of p)
  map_list-neg f h [] = refl
  map_list-neg f h (a ∷ p) =
      ap₂ ◌+ℤ◌ (h a) (ap (λ z. x *ℤ z) (map_list-neg f h p) ∙ mul-neg x (of p)) ∙ sym (neg_ℤ-+ℤ (w a) (x *ℤ of p))

  mul_lists-is : (z : C) (f g : C → C → C) → w z ≡ pos 0 → ((a b : C) → w (f a b) ≡ w a +ℤ w b) → ((a b : C) → w (g a b) ≡ w a *ℤ w b)
      → (p q : List C) → of (mul_lists z f g p q) ≡ of p *ℤ of q
  mul_lists-is z f g hz hf hg [] q = sym (zero-*ℤ (of q))
  mul_lists-is z f g hz hf hg (a ∷ p) q =
      add_lists-is f hf (map_list (g a) q) (z ∷ mul_lists z f g p q)
      ∙ ap₂ ◌+ℤ◌
      (map_list-mul (g a) (w a) (hg a) q)
      (ap₂ ◌+ℤ◌ hz (ap (λ y. x *ℤ y) (mul_lists-is z f g hz hf hg p q) ∙ sym (mul_assoc x (of p) (of q))) ∙ +ℤ_idl (x *ℤ of p *ℤ of q))
      ∙ sym (add-mul (w a) (x *ℤ of p) (of q))

  all_in-is : (f : C → Bool) → ((a : C) → T (f a) → w a ≡ pos 0) → (p : List C) → T (all_in f p) → of p ≡ pos 0
  all_in-is f h [] t = refl
  all_in-is f h (a ∷ p) t = go (f a) (h a) (all_in-is f h p) t
    where
      go : (b : Bool) → (T b → w a ≡ pos 0) → (T (all_in f p) → of p ≡ pos 0) → T (elim b [ true ↦ all_in f p | false ↦ false ])
          → w a +ℤ x *ℤ of p ≡ pos 0
      go true ha hp t = ap₂ ◌+ℤ◌ (ha tt) (ap (λ z. x *ℤ z) (hp t) ∙ *ℤ-zero x)
      go false ha hp t = absurd t

is_zero-is : (a : ℤ) → T (is_zero a) → a ≡ pos 0
is_zero-is (pos zero) t = refl
is_zero-is (pos (suc n)) t = absurd t
is_zero-is (negsuc n) t = absurd t

constant-is : (ρ : List ℤ) (c : ℤ) → value ρ (constant ρ c) ≡ c
constant-is [] c = refl
constant-is (x ∷ ρ) c = ap₂ ◌+ℤ◌ (constant-is ρ c) (*ℤ-zero x) ∙ +ℤ_idr c

variable-is : (ρ : List ℤ) (i : ℕ) → value ρ (variable ρ i) ≡ at ρ i
variable-is [] i = refl
variable-is (x ∷ ρ) zero =
    ap₂ ◌+ℤ◌ (constant-is ρ (pos 0)) (ap (λ y. x *ℤ y) (ap₂ ◌+ℤ◌ (constant-is ρ (pos 1)) (*ℤ-zero x)) ∙ mul-one x) ∙ +ℤ_idl x
variable-is (x ∷ ρ) (suc i) = ap₂ ◌+ℤ◌ (variable-is ρ i) (*ℤ-zero x) ∙ +ℤ_idr (at ρ i)

add_is : (ρ : List ℤ) (a b : Polynomial ρ) → value ρ (add ρ a b) ≡ value ρ a +ℤ value ρ b
add_is [] a b = refl
add_is (x ∷ ρ) a b = add_lists-is x (value ρ) (add ρ) (add_is ρ) a b

neg_is : (ρ : List ℤ) (a : Polynomial ρ) → value ρ (neg ρ a) ≡ neg_ℤ (value ρ a)
neg_is [] a = refl
neg_is (x ∷ ρ) a = map_list-neg x (value ρ) (neg ρ) (neg_is ρ) a

mul_is : (ρ : List ℤ) (a b : Polynomial ρ) → value ρ (mul ρ a b) ≡ value ρ a *ℤ value ρ b
mul_is [] a b = refl
mul_is (x ∷ ρ) a b =
    mul_lists-is x (value ρ) (constant ρ (pos 0)) (add ρ) (mul ρ) (constant-is ρ (pos 0)) (add_is ρ) (mul_is ρ) a b

all_zero-is : (ρ : List ℤ) (a : Polynomial ρ) → T (all_zero ρ a) → value ρ a ≡ pos 0
all_zero-is [] a t = is_zero-is a t
all_zero-is (x ∷ ρ) a t = all_in-is x (value ρ) (all_zero ρ) (all_zero-is ρ) a t

norm-is : (ρ : List ℤ) (e : Expr) → value ρ (norm ρ e) ≡ eval ρ e
norm-is ρ (var i) = variable-is ρ i
norm-is ρ (con c) = constant-is ρ c
norm-is ρ (a ⊕ b) = add_is ρ (norm ρ a) (norm ρ b) ∙ ap₂ ◌+ℤ◌ (norm-is ρ a) (norm-is ρ b)
norm-is ρ (a ⊗ b) = mul_is ρ (norm ρ a) (norm ρ b) ∙ ap₂ ◌*ℤ◌ (norm-is ρ a) (norm-is ρ b)
norm-is ρ (⊖ a) = neg_is ρ (norm ρ a) ∙ ap neg_ℤ (norm-is ρ a)

-- two expressions that are one polynomial have one value
pub solve : (ρ : List ℤ) (l r : Expr) → T (identical ρ l r) → eval ρ l ≡ eval ρ r
solve ρ l r t = sym (neg_ℤ-neg_ℤ (eval ρ l)) ∙ ap neg_ℤ (sym opposites) ∙ neg_ℤ-neg_ℤ (eval ρ r)
  where
    opposites : neg_ℤ (eval ρ r) ≡ neg_ℤ (eval ρ l)
    opposites = neg_unique (eval ρ l) (neg_ℤ (eval ρ r)) (sym (norm-is ρ (l ⊝ r)) ∙ all_zero-is ρ (norm ρ (l ⊝ r)) t)
