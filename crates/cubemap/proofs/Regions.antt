-- The rays that fall on a face, along a line: where two of them fall on it, so do those between, and their numbers change evenly.
use mathlib.Core.Path.{◌≡◌, refl, sym, ◌∙◌, ap, subst}
use mathlib.Core.List.{[], ◌∷◌}
use Prim.Native.Nat.{ℕ, zero, suc, ◌+◌, ◌*◌, ◌-◌, ◌≤◌}
use native.Mathlib.Omega.{arith}
use lib.IntN.{ℤ, pos, negsuc, nat_abs, ◌+ℤ◌, ◌-ℤ◌, ◌*ℤ◌}
use lib.Signed.{◌≤ℤ◌}
use Rattle.arithmetic.proofs.Order.{le-elim}
use Rattle.arithmetic.proofs.Ring.{var, ◌⊕◌, ◌⊗◌, ◌⊝◌, ⊖, solve}
use Rattle.arithmetic.proofs.Sizes.{pos_inj, pos-sub}
use Rattle.cubemap.specs.declared.Ray.{Ray}
use Rattle.cubemap.specs.RayToPlace.{chosen_size, across, down}
use Rattle.cubemap.proofs.Faces.{toward, Chosen, chosen-toward}
use Rattle.cubemap.proofs.Rotations.{along}
use Rattle.cubemap.proofs.RotatedRays.{neg-along}

-- ---- the numbers of Table 4 along a line of rays

pub toward-along : (f : ℕ) (r : Ray) (w : ℤ) (e : Ray) → toward f (along r w e) ≡ toward f r +ℤ w *ℤ toward f e
unfolding toward
toward-along zero r w e = refl
toward-along (suc zero) r w e = neg-along r.x w e.x
toward-along (suc (suc zero)) r w e = refl
toward-along (suc (suc (suc zero))) r w e = neg-along r.y w e.y
toward-along (suc (suc (suc (suc zero)))) r w e = refl
toward-along (suc (suc (suc (suc (suc f))))) r w e = neg-along r.z w e.z

pub across-along : (f : ℕ) (r : Ray) (w : ℤ) (e : Ray) → across f (along r w e) ≡ across f r +ℤ w *ℤ across f e
unfolding across
across-along zero r w e = neg-along r.z w e.z
across-along (suc zero) r w e = refl
across-along (suc (suc zero)) r w e = refl
across-along (suc (suc (suc zero))) r w e = refl
across-along (suc (suc (suc (suc zero)))) r w e = refl
across-along (suc (suc (suc (suc (suc f))))) r w e = neg-along r.x w e.x

pub down-along : (f : ℕ) (r : Ray) (w : ℤ) (e : Ray) → down f (along r w e) ≡ down f r +ℤ w *ℤ down f e
unfolding down
down-along zero r w e = neg-along r.y w e.y
down-along (suc zero) r w e = neg-along r.y w e.y
down-along (suc (suc zero)) r w e = refl
down-along (suc (suc (suc zero))) r w e = neg-along r.z w e.z
down-along (suc (suc (suc (suc zero)))) r w e = neg-along r.y w e.y
down-along (suc (suc (suc (suc (suc f))))) r w e = neg-along r.y w e.y

-- ---- a number that changes evenly is between two of its values at least the smaller one

-- z is a natural number, and at least c
record AtLeast (c : ℕ) (z : ℤ) : Type 0 where
  number : ℕ
  is : z ≡ pos number
  least : c ≤ number

more : {c : ℕ} {y z : ℤ} (n : ℕ) → z ≡ y +ℤ pos n → AtLeast c y → AtLeast c z
more n e g = record { number = g.number + n; is = e ∙ ap (λ y. y +ℤ pos n) g.is; least = let l = g.least in omega arith }

line-between : {c : ℕ} {a x b : ℤ} (s e : ℤ) → a ≤ℤ x → x ≤ℤ b → AtLeast c (s +ℤ a *ℤ e) → AtLeast c (s +ℤ b *ℤ e) → AtLeast c (s +ℤ x *ℤ e)
line-between {c} {a} {x} {b} s (pos k) p q g h =
    let (n, d) = le-elim a x p in
    more (n * k)
    (ap (λ x. s +ℤ x *ℤ pos k) d
    ∙ solve (s ∷ a ∷ pos n ∷ pos k ∷ []) (var 0 ⊕ (var 1 ⊕ var 2) ⊗ var 3) (var 0 ⊕ var 1 ⊗ var 3 ⊕ var 2 ⊗ var 3) tt) g
line-between {c} {a} {x} {b} s (negsuc k) p q g h =
    let (n, d) = le-elim x b q in
    more (n * suc k)
    (solve (s ∷ x ∷ pos n ∷ pos (suc k) ∷ [])
    (var 0 ⊕ var 1 ⊗ ⊖ (var 3)) (var 0 ⊕ (var 1 ⊕ var 2) ⊗ ⊖ (var 3) ⊕ var 2 ⊗ var 3) tt
    ∙ ap (λ b. s +ℤ b *ℤ negsuc k +ℤ pos (n * suc k)) (sym d)) h

-- ---- the test of a face as five such numbers

-- x stays k below m on either side
record Inside (k : ℕ) (m x : ℤ) : Type 0 where
  right : AtLeast k (m -ℤ x)
  left : AtLeast k (m +ℤ x)

inside_of : (k m : ℕ) (x : ℤ) → nat_abs x + k ≤ m → Inside k (pos m) x
inside_of k m (pos n) h = record {
  right = record { number = m - n; is = pos-sub m n (omega arith); least = omega arith };
  left = record { number = m + n; is = refl; least = omega arith };
}
inside_of k m (negsuc n) h = record {
  right = record { number = m + suc n; is = refl; least = omega arith };
  left = record { number = m - suc n; is = pos-sub m (suc n) (omega arith); least = omega arith };
}

of-inside : (k m : ℕ) (x : ℤ) → Inside k (pos m) x → nat_abs x + k ≤ m
of-inside k m (pos n) g =
    let p = g.right in
    let e = pos_inj m (p.number + n) (solve (pos m ∷ pos n ∷ []) (var 0) (var 0 ⊝ var 1 ⊕ var 1) tt ∙ ap (λ z. z +ℤ pos n) p.is) in
    omega (arith, p.least)
of-inside k m (negsuc n) g =
    let p = g.left in
    let e = pos_inj m (p.number + suc n) (solve (pos m ∷ pos (suc n) ∷ []) (var 0) (var 0 ⊕ ⊖ (var 1) ⊕ var 1) tt ∙ ap (λ z. z +ℤ pos (suc n)) p.is) in
    omega (arith, p.least)

inside-between : {k : ℕ} {a x b : ℤ} (m e n d : ℤ) → a ≤ℤ x → x ≤ℤ b
    → Inside k (m +ℤ a *ℤ e) (n +ℤ a *ℤ d) → Inside k (m +ℤ b *ℤ e) (n +ℤ b *ℤ d) → Inside k (m +ℤ x *ℤ e) (n +ℤ x *ℤ d)
inside-between {k} {a} {x} {b} m e n d p q g h = record {
  right = subst (AtLeast k) (sym (difference x))
      (line-between (m -ℤ n) (e -ℤ d) p q (subst (AtLeast k) (difference a) g.right) (subst (AtLeast k) (difference b) h.right));
  left = subst (AtLeast k) (sym (sum x))
      (line-between (m +ℤ n) (e +ℤ d) p q (subst (AtLeast k) (sum a) g.left) (subst (AtLeast k) (sum b) h.left));
}
  where
    difference : (w : ℤ) → m +ℤ w *ℤ e -ℤ (n +ℤ w *ℤ d) ≡ m -ℤ n +ℤ w *ℤ (e -ℤ d)
    difference w = solve (m ∷ e ∷ n ∷ d ∷ w ∷ [])
        (var 0 ⊕ var 4 ⊗ var 1 ⊝ (var 2 ⊕ var 4 ⊗ var 3)) (var 0 ⊝ var 2 ⊕ var 4 ⊗ (var 1 ⊝ var 3)) tt

    sum : (w : ℤ) → m +ℤ w *ℤ e +ℤ (n +ℤ w *ℤ d) ≡ m +ℤ n +ℤ w *ℤ (e +ℤ d)
    sum w = solve (m ∷ e ∷ n ∷ d ∷ w ∷ [])
        (var 0 ⊕ var 4 ⊗ var 1 ⊕ (var 2 ⊕ var 4 ⊗ var 3)) (var 0 ⊕ var 2 ⊕ var 4 ⊗ (var 1 ⊕ var 3)) tt

-- ---- so the rays of a line that fall on a face have no gap

module _ (f : ℕ) (r e : Ray) {a x b : ℤ} (p : a ≤ℤ x) (q : x ≤ℤ b) where
  -- the number towards the face, and another one, at a coordinate
  abbrev T : ℤ → ℤ
  T w = toward f r +ℤ w *ℤ toward f e

  side : {k : ℕ} (number : Ray → ℤ) → ((w : ℤ) → number (along r w e) ≡ number r +ℤ w *ℤ number e) → (w : ℤ)
      → Chosen f (along r w e) → nat_abs (number (along r w e)) + k ≤ chosen_size f (along r w e) → Inside k (T w) (number r +ℤ w *ℤ number e)
  side {k} number even w c l = subst (Inside k (T w)) (even w)
      (subst (λ m. Inside k m (number (along r w e))) (sym c.ahead ∙ toward-along f r w e)
      (inside_of k (chosen_size f (along r w e)) (number (along r w e)) l))

  pub chosen-between : Chosen f (along r a e) → Chosen f (along r b e) → Chosen f (along r x e)
  chosen-between c d =
      let t : AtLeast 1 (T x) = line-between (toward f r) (toward f e) p q (ahead a c) (ahead b d) in
      let s : chosen_size f (along r x e) ≡ t.number = sym (chosen-toward f (along r x e)) ∙ ap nat_abs (toward-along f r x e ∙ t.is) in
      record {
        face-ok = c.face-ok;
        ahead = toward-along f r x e ∙ t.is ∙ ap pos (sym s);
        positive = let l = t.least in omega arith;
        across-in = within t s (across f) (across-along f r x e)
            (inside-between (toward f r) (toward f e) (across f r) (across f e) p q
            (side (across f) (λ w. across-along f r w e) a c c.across-in) (side (across f) (λ w. across-along f r w e) b d d.across-in));
        down-in = within t s (down f) (down-along f r x e)
            (inside-between (toward f r) (toward f e) (down f r) (down f e) p q
            (side (down f) (λ w. down-along f r w e) a c c.down-in) (side (down f) (λ w. down-along f r w e) b d d.down-in));
      }
    where
      ahead : (w : ℤ) → Chosen f (along r w e) → AtLeast 1 (T w)
      ahead w c = record { number = chosen_size f (along r w e); is = sym (toward-along f r w e) ∙ c.ahead; least = c.positive }

      within : {k : ℕ} (t : AtLeast 1 (T x)) → chosen_size f (along r x e) ≡ t.number → (number : Ray → ℤ)
          → number (along r x e) ≡ number r +ℤ x *ℤ number e → Inside k (T x) (number r +ℤ x *ℤ number e)
          → nat_abs (number (along r x e)) + k ≤ chosen_size f (along r x e)
      within {k} t s number even g =
          let l = of-inside k t.number (number r +ℤ x *ℤ number e) (subst (λ m. Inside k m (number r +ℤ x *ℤ number e)) t.is g) in
          omega (arith, ap nat_abs even, s)
