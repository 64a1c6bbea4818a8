-- A stretch in two parts: what holds along it holds along both, and where both parts are told, it is.
use mathlib.Core.Path.{◌≡◌, refl, sym, ◌∙◌, ap, subst, subst₂}
use mathlib.Core.Bool.{Bool, true, false, ◌&&◌}
use mathlib.Core.List.{List, ◌++◌}
use Prim.Native.Nat.{ℕ, ◌+◌, ◌*◌, ◌-◌, ◌≤◌, ◌<◌}
use native.Mathlib.Omega.{arith}
use lib.Dec.{ltb, ltb→lt, nltb→le}
use lib.ListN.{length, get_or, length-append, get_or-append}
use lib.Seq.{get_or-append-add}
use Rattle.arithmetic.specs.ListParts.{part}
use Rattle.arithmetic.proofs.ListParts.{part_length, part_at}
use Rattle.arithmetic.proofs.Tests.{passes, both_true}
use Rattle.adjusted.specs.Adjusted.{IsPosition, Sums, Adjusted}

-- a stretch cut into the columns before `cut` and the others: the sums of both parts, and their distances
pub record Halves (sums distances left right first second : List ℕ) (cut : ℕ) : Type 0 where
  pub inside : cut ≤ length sums
  pub whole : length distances ≡ length sums
  pub left-length : length left ≡ cut
  pub right-length : length right + cut ≡ length sums
  pub at : ((k d : ℕ) → k < cut → get_or left k d ≡ get_or sums k d)
      × ((k d : ℕ) → get_or right k d ≡ get_or sums (cut + k) d)
  pub first-is : first ≡ part 0 cut distances
  pub second-is : second ≡ part cut (length sums) distances

module _ {sums distances left right first second : List ℕ} {cut : ℕ}
    (c : Halves sums distances left right first second cut) where
  first-at : (j : ℕ) → j < cut → get_or first j 0 ≡ get_or distances j 0
  first-at j h =
      rw c.first-is (part_at 0 cut distances j 0 (omega arith) ∙ ap (λ i. get_or distances i 0) (omega arith))

  second-at : (j : ℕ) → cut + j < length sums → get_or second j 0 ≡ get_or distances (cut + j) 0
  second-at j h = rw c.second-is (part_at cut (length sums) distances j 0 (omega arith))

  module _ (s : Sums sums distances) where
    pub left-sums : (length first ≡ length left) × Sums left first
    left-sums = (
      rw c.first-is (part_length 0 cut distances (omega arith) (omega arith) ∙ omega arith),
      record {
        ratio = λ j h.
            subst₂ (λ s d. s ≤ 2 * d) (sym (c.at.0 j 0 (omega arith))) (sym (first-at j (omega arith)))
            (s.ratio j (omega arith));
      },
    )

    pub right-sums : (length second ≡ length right) × Sums right second
    right-sums = (
      rw c.second-is (part_length cut (length sums) distances c.inside (omega (arith, c.whole)) ∙ omega arith),
      record {
        ratio = λ j h.
            subst₂ (λ s d. s ≤ 2 * d) (sym (c.at.1 j 0)) (sym (second-at j (omega arith)))
            (s.ratio (cut + j) (omega arith));
      },
    )

  module _ {A : ℕ} {new-left new-right : List ℕ} {p q : Bool}
      (n : (p ≡ true → Adjusted A left first new-left) × (length new-left ≡ length left))
      (o : (q ≡ true → Adjusted A right second new-right) × (length new-right ≡ length right)) where
    told : (p && q) ≡ true → (j : ℕ) → j < length sums → (t : Bool) → ltb j cut ≡ t
        → IsPosition A (get_or sums j 0) (get_or distances j 0) (get_or (new-left ++ new-right) j 0)
    told e j h true t =
        let b : j < cut = ltb→lt j cut (passes t) in
        rw (get_or-append new-left new-right 0 j (omega (arith, n.1)), sym (c.at.0 j 0 b), sym (first-at j b))
        ((n.0 (both_true e).0).entry j (omega arith))
    told e j h false t = go (j - cut) (let b : cut ≤ j = nltb→le j cut (rw t tt) in omega arith)
      where
        go : (i : ℕ) → cut + i ≡ j
            → IsPosition A (get_or sums j 0) (get_or distances j 0) (get_or (new-left ++ new-right) j 0)
        go i is =
            subst (λ j. IsPosition A (get_or sums j 0) (get_or distances j 0) (get_or (new-left ++ new-right) j 0)) is
            (rw (sym (c.at.1 i 0), sym (second-at i (omega arith)), there i)
            ((o.0 (both_true e).1).entry i (omega arith)))
          where
            there : (i : ℕ) → get_or (new-left ++ new-right) (cut + i) 0 ≡ get_or new-right i 0
            there i =
                subst (λ k. get_or (new-left ++ new-right) (k + i) 0 ≡ get_or new-right i 0) (n.1 ∙ c.left-length)
                (get_or-append-add new-left new-right i 0)

    both : ((p && q) ≡ true → Adjusted A sums distances (new-left ++ new-right))
        × (length (new-left ++ new-right) ≡ length sums)
    both = (
      (λ e. record { entry = λ j h. told e j h (ltb j cut) refl }),
      length-append new-left new-right ∙ omega (arith, n.1, o.1),
    )

  pub told-both : {A B : ℕ} {new-left new-right : List ℕ} {p q : Bool} → B ≡ A
      → (p ≡ true → Adjusted B left first new-left) × (length new-left ≡ length left)
      → (q ≡ true → Adjusted B right second new-right) × (length new-right ≡ length right)
      → ((p && q) ≡ true → Adjusted A sums distances (new-left ++ new-right))
      × (length (new-left ++ new-right) ≡ length sums)
  told-both {new-left = new-left} {new-right = new-right} {p = p} {q = q} e n o =
      subst
      (λ A. ((p && q) ≡ true → Adjusted A sums distances (new-left ++ new-right))
      × (length (new-left ++ new-right) ≡ length sums))
      e (both n o)
