-- The ring laws of ℤ that the library lacks.
use mathlib.Core.Path.{◌≡◌, sym, ◌∙◌, ap, ap₂}
use lib.IntN.{ℤ, pos, negsuc, suc_ℤ, pred_ℤ, neg_ℤ, ◌+ℤ◌, ◌*ℤ◌, ◌-ℤ◌, ℤ_ind, +ℤ_one, -ℤ_one, +ℤ_assoc, +ℤ_comm, +ℤ_idl, +ℤ_idr, +ℤ_invr, +ℤ_invl}
use lib.IntN.{suc_ℤ-+ℤ, pred_ℤ-+ℤ, suc_ℤ-*ℤ, pred_ℤ-*ℤ, zero-*ℤ, *ℤ_comm, +ℤ-neg_ℤ_cancel}

-- a sum in another order
add_right_comm : (x y z : ℤ) → x +ℤ y +ℤ z ≡ x +ℤ z +ℤ y
add_right_comm x y z = +ℤ_assoc x y z ∙ ap (λ w. x +ℤ w) (+ℤ_comm y z) ∙ sym (+ℤ_assoc x z y)

-- (a + b) · c = a · c + b · c
pub add-mul : (a b c : ℤ) → (a +ℤ b) *ℤ c ≡ a *ℤ c +ℤ b *ℤ c
add-mul a b c = ℤ_ind (λ a. (a +ℤ b) *ℤ c ≡ a *ℤ c +ℤ b *ℤ c)
    (ap (λ x. x *ℤ c) (+ℤ_idl b) ∙ sym (+ℤ_idl (b *ℤ c)) ∙ ap (λ x. x +ℤ b *ℤ c) (sym (zero-*ℤ c)))
    (λ n h. ap (λ x. (x +ℤ b) *ℤ c) (+ℤ_one (pos n)) ∙ up (pos n) h ∙ ap (λ x. x *ℤ c +ℤ b *ℤ c) (sym (+ℤ_one (pos n))))
    (λ n h. let x : ℤ = neg_ℤ (pos n) in
    ap (λ y. (y +ℤ b) *ℤ c) (-ℤ_one x) ∙ down x h ∙ ap (λ y. y *ℤ c +ℤ b *ℤ c) (sym (-ℤ_one x)))
    a
  where
    up : (a : ℤ) → (a +ℤ b) *ℤ c ≡ a *ℤ c +ℤ b *ℤ c → (suc_ℤ a +ℤ b) *ℤ c ≡ suc_ℤ a *ℤ c +ℤ b *ℤ c
    up a h =
        ap (λ x. x *ℤ c) (suc_ℤ-+ℤ a b) ∙ suc_ℤ-*ℤ (a +ℤ b) c ∙ ap (λ x. x +ℤ c) h
        ∙ add_right_comm (a *ℤ c) (b *ℤ c) c ∙ ap (λ x. x +ℤ b *ℤ c) (sym (suc_ℤ-*ℤ a c))

    down : (a : ℤ) → (a +ℤ b) *ℤ c ≡ a *ℤ c +ℤ b *ℤ c → (pred_ℤ a +ℤ b) *ℤ c ≡ pred_ℤ a *ℤ c +ℤ b *ℤ c
    down a h =
        ap (λ x. x *ℤ c) (pred_ℤ-+ℤ a b) ∙ pred_ℤ-*ℤ (a +ℤ b) c ∙ ap (λ x. x -ℤ c) h
        ∙ add_right_comm (a *ℤ c) (b *ℤ c) (neg_ℤ c) ∙ ap (λ x. x +ℤ b *ℤ c) (sym (pred_ℤ-*ℤ a c))

pub mul-add : (c a b : ℤ) → c *ℤ (a +ℤ b) ≡ c *ℤ a +ℤ c *ℤ b
mul-add c a b = *ℤ_comm c (a +ℤ b) ∙ add-mul a b c ∙ ap₂ ◌+ℤ◌ (*ℤ_comm a c) (*ℤ_comm b c)

pub one-mul : (x : ℤ) → pos 1 *ℤ x ≡ x
one-mul x = suc_ℤ-*ℤ (pos 0) x ∙ ap (λ y. y +ℤ x) (zero-*ℤ x) ∙ +ℤ_idl x

pub mul-one : (x : ℤ) → x *ℤ pos 1 ≡ x
mul-one x = *ℤ_comm x (pos 1) ∙ one-mul x

-- x + y = 0 makes y the opposite of x
pub neg_unique : (x y : ℤ) → x +ℤ y ≡ pos 0 → y ≡ neg_ℤ x
neg_unique x y h =
    sym (+ℤ_idl y) ∙ ap (λ z. z +ℤ y) (sym (+ℤ_invl x)) ∙ +ℤ_assoc (neg_ℤ x) x y ∙ ap (λ z. neg_ℤ x +ℤ z) h ∙ +ℤ_idr (neg_ℤ x)

pub neg-mul : (a c : ℤ) → neg_ℤ a *ℤ c ≡ neg_ℤ (a *ℤ c)
neg-mul a c = neg_unique (a *ℤ c) (neg_ℤ a *ℤ c) (sym (add-mul a (neg_ℤ a) c) ∙ ap (λ x. x *ℤ c) (+ℤ_invr a) ∙ zero-*ℤ c)

pub mul-neg : (a c : ℤ) → a *ℤ neg_ℤ c ≡ neg_ℤ (a *ℤ c)
mul-neg a c = *ℤ_comm a (neg_ℤ c) ∙ neg-mul c a ∙ ap neg_ℤ (*ℤ_comm c a)

pub mul_assoc : (a b c : ℤ) → a *ℤ b *ℤ c ≡ a *ℤ (b *ℤ c)
mul_assoc a b c = ℤ_ind (λ a. a *ℤ b *ℤ c ≡ a *ℤ (b *ℤ c))
    (ap (λ x. x *ℤ c) (zero-*ℤ b) ∙ zero-*ℤ c ∙ sym (zero-*ℤ (b *ℤ c)))
    (λ n h. step (pos n) (pos 1) h ones)
    (λ n h. step (neg_ℤ (pos n)) (negsuc 0) h
    (ap (λ x. x *ℤ c) (neg-mul (pos 1) b) ∙ neg-mul (pos 1 *ℤ b) c ∙ ap neg_ℤ ones ∙ sym (neg-mul (pos 1) (b *ℤ c))))
    a
  where
    ones : pos 1 *ℤ b *ℤ c ≡ pos 1 *ℤ (b *ℤ c)
    ones = ap (λ x. x *ℤ c) (one-mul b) ∙ sym (one-mul (b *ℤ c))

    step : (x y : ℤ) → x *ℤ b *ℤ c ≡ x *ℤ (b *ℤ c) → y *ℤ b *ℤ c ≡ y *ℤ (b *ℤ c) → (x +ℤ y) *ℤ b *ℤ c ≡ (x +ℤ y) *ℤ (b *ℤ c)
    step x y h k = ap (λ z. z *ℤ c) (add-mul x y b) ∙ add-mul (x *ℤ b) (y *ℤ b) c ∙ ap₂ ◌+ℤ◌ h k ∙ sym (add-mul x y (b *ℤ c))

-- x is y where a known equation a ≡ b makes up the difference
pub by-combination : (x y a b : ℤ) → a ≡ b → x +ℤ a ≡ y +ℤ b → x ≡ y
by-combination x y a b h e =
    sym (+ℤ-neg_ℤ_cancel x a) ∙ ap (λ z. z +ℤ neg_ℤ a) e ∙ ap (λ z. y +ℤ b +ℤ neg_ℤ z) h ∙ +ℤ-neg_ℤ_cancel y b
