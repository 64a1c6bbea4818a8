-- Sums over all places: term by term, and the same where each place is first taken to another, one to one.
use mathlib.Core.Path.{◌≡◌, refl, sym, ◌∙◌, ap, subst}
use Prim.Native.Nat.{ℕ, ◌*◌, ◌/◌, ◌%◌, ◌≤◌}
use Rattle.arithmetic.specs.Sums.{sum_below}
use Rattle.arithmetic.proofs.Sums.{sum-cong, sum-bounded, sum-least, sum-flat, sum-reorder, Bijection}
use Rattle.cubemap.specs.declared.Place.{Place}
use Rattle.cubemap.specs.Frames.{place, IsPlace, plane_samples, place_numbered}
use Rattle.cubemap.specs.Score.{over_places}
use Rattle.cubemap.proofs.Indices.{six-faces, number_of, number-below, numbered-ok, numbered-number, number-numbered}

-- one sum over the places by number
pub over-numbered : (A : ℕ) (g : Place → ℕ) → over_places A g ≡ sum_below (λ k. g (place_numbered A k)) (plane_samples A)
unfolding over_places place_numbered
over-numbered A g =
    sum-flat 6 A (λ f n. sum_below (λ m. g (place f m n)) A) ∙ sum-flat (6 * A) A (λ j m. g (place (j / A) m (j % A)))
    ∙ ap (sum_below (λ k. g (place_numbered A k))) (sym (six-faces A))

pub over-cong : (A : ℕ) (f g : Place → ℕ) → ((P : Place) → IsPlace A P → f P ≡ g P) → over_places A f ≡ over_places A g
over-cong A f g h =
    over-numbered A f
    ∙ sum-cong (plane_samples A) (λ k. f (place_numbered A k)) (λ k. g (place_numbered A k)) (λ k l. h (place_numbered A k) (numbered-ok A k l))
    ∙ sym (over-numbered A g)

-- `to` takes places to places, and `back` takes them back
pub record OneToOne (A : ℕ) (to back : Place → Place) : Type 0 where
  pub to-ok : (P : Place) → IsPlace A P → IsPlace A (to P)
  pub back-ok : (Q : Place) → IsPlace A Q → IsPlace A (back Q)
  pub back_to : (P : Place) → IsPlace A P → back (to P) ≡ P
  pub to_back : (Q : Place) → IsPlace A Q → to (back Q) ≡ Q

pub same-places : (A : ℕ) → OneToOne A (λ P. P) (λ Q. Q)
same-places A = record { to-ok = λ P p. p; back-ok = λ Q q. q; back_to = λ P p. refl; to_back = λ Q q. refl }

-- one map after another
pub one-after : (A : ℕ) {to back later later-back : Place → Place} → OneToOne A to back → OneToOne A later later-back
    → OneToOne A (λ P. later (to P)) (λ Q. back (later-back Q))
one-after A {to} {back} {later} {later-back} m n = record {
  to-ok = λ P p. n.to-ok (to P) (m.to-ok P p);
  back-ok = λ Q q. m.back-ok (later-back Q) (n.back-ok Q q);
  back_to = λ P p. ap back (n.back_to (to P) (m.to-ok P p)) ∙ m.back_to P p;
  to_back = λ Q q. ap later (m.to_back (later-back Q) (n.back-ok Q q)) ∙ n.to_back Q q;
}

-- a map of places as one of their numbers
abbrev on_numbers : ℕ → (Place → Place) → ℕ → ℕ
on_numbers A to k = number_of A (to (place_numbered A k))

by_number : (A : ℕ) (to back : Place → Place) → OneToOne A to back → Bijection (plane_samples A) (on_numbers A to) (on_numbers A back)
by_number A to back m = record {
  to_below = λ k l. number-below A (to (place_numbered A k)) (m.to-ok (place_numbered A k) (numbered-ok A k l));
  back_below = λ k l. number-below A (back (place_numbered A k)) (m.back-ok (place_numbered A k) (numbered-ok A k l));
  back_to = λ k l.
      ap (λ P. number_of A (back P)) (numbered-number A (to (place_numbered A k)) (m.to-ok (place_numbered A k) (numbered-ok A k l)))
      ∙ ap (number_of A) (m.back_to (place_numbered A k) (numbered-ok A k l)) ∙ number-numbered A k;
  to_back = λ k l.
      ap (λ P. number_of A (to P)) (numbered-number A (back (place_numbered A k)) (m.back-ok (place_numbered A k) (numbered-ok A k l)))
      ∙ ap (number_of A) (m.to_back (place_numbered A k) (numbered-ok A k l)) ∙ number-numbered A k;
}

pub over-step : (A : ℕ) (to back : Place → Place) → OneToOne A to back → (g : Place → ℕ) → over_places A (λ P. g (to P)) ≡ over_places A g
over-step A to back m g =
    over-numbered A (λ P. g (to P))
    ∙ sum-cong (plane_samples A) (λ k. g (to (place_numbered A k))) (λ k. g (place_numbered A (on_numbers A to k)))
    (λ k l. sym (ap g (numbered-number A (to (place_numbered A k)) (m.to-ok (place_numbered A k) (numbered-ok A k l)))))
    ∙ sum-reorder (plane_samples A) (on_numbers A to) (on_numbers A back) (by_number A to back m) (λ k. g (place_numbered A k))
    ∙ sym (over-numbered A g)

-- 6·A² terms of at most b
pub over-bounded : (A b : ℕ) (g : Place → ℕ) → ((P : Place) → IsPlace A P → g P ≤ b) → over_places A g ≤ plane_samples A * b
over-bounded A b g h = subst (λ n. n ≤ plane_samples A * b) (sym (over-numbered A g))
    (sum-bounded (plane_samples A) b (λ k. g (place_numbered A k)) (λ k l. h (place_numbered A k) (numbered-ok A k l)))

-- and of at least b
pub over-least : (A b : ℕ) (g : Place → ℕ) → ((P : Place) → IsPlace A P → b ≤ g P) → plane_samples A * b ≤ over_places A g
over-least A b g h = subst (λ n. plane_samples A * b ≤ n) (sym (over-numbered A g))
    (sum-least (plane_samples A) b (λ k. g (place_numbered A k)) (λ k l. h (place_numbered A k) (numbered-ok A k l)))
