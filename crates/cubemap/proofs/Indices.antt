-- Index and place are inverse, in every layout that passes check 5. Four quarter turns are none, and a row of a face that is not turned is unbroken.
use mathlib.Core.Path.{◌≡◌, refl, sym, ◌∙◌, ap, subst}
use mathlib.Core.List.{List}
use Prim.Native.Nat.{ℕ, zero, suc, ◌+◌, ◌*◌, ◌-◌, ◌/◌, ◌%◌, ◌<◌}
use native.Mathlib.Nat.{div-add-mod', mod-lt, div-lt_iff_lt-mul}
use native.Mathlib.Omega.{arith}
use lib.Arith.{digits_div, digits_mod, digits_lt}
use lib.Dec.{T, eqb, eqb→eq, eqb_refl}
use Rattle.arithmetic.specs.Searches.{lowest}
use Rattle.arithmetic.proofs.Searches.{Lowest, lowest-is}
use Rattle.cubemap.specs.declared.Place.{Place}
use Rattle.cubemap.specs.Frames.{place, IsPlace, plane_samples, face_in, quarter_turns_in, slot_of, Spot, spot, quarter_turn, quarter_turns}
use Rattle.cubemap.specs.Frames.{index_in_slot, index, place_numbered, place_at}
use Rattle.cubemap.proofs.Layouts.{LayoutHolds}

pub place-eq : {P Q : Place} → P.face ≡ Q.face → P.column ≡ Q.column → P.row ≡ Q.row → P ≡ Q
place-eq p q r = λ i. place (p i) (q i) (r i)

-- ---- places by number: face after face, row after row

unfoldable pub number_of : ℕ → Place → ℕ
number_of A P = (P.face * A + P.row) * A + P.column

-- the samples of a plane, counted face by face
pub six-faces : (A : ℕ) → plane_samples A ≡ 6 * A * A
six-faces A = omega arith

-- a plane with a sample has a column
pub some-column : (A i : ℕ) → i < plane_samples A → 0 < A
some-column zero i h = absurd (omega arith)
some-column (suc a) i h = omega arith

pub number-below : (A : ℕ) (P : Place) → IsPlace A P → number_of A P < plane_samples A
unfolding number_of
number-below A P p = subst (λ n. (P.face * A + P.row) * A + P.column < n) (sym (six-faces A))
    (digits_lt (digits_lt p.face-ok p.row_ok) p.column-ok)

pub numbered-ok : (A i : ℕ) → i < plane_samples A → IsPlace A (place_numbered A i)
unfolding place_numbered
numbered-ok A i h = record {
  face-ok = (div-lt_iff_lt-mul a).1 ((div-lt_iff_lt-mul a).1 (subst (λ n. i < n) (six-faces A) h));
  column-ok = mod-lt i a;
  row_ok = mod-lt (i / A) a;
}
  where
    a : 0 < A
    a = some-column A i h

pub numbered-number : (A : ℕ) (P : Place) → IsPlace A P → place_numbered A (number_of A P) ≡ P
unfolding place_numbered number_of
numbered-number A P p = place-eq
    (ap (λ x. x / A) (digits_div (P.face * A + P.row) p.column-ok) ∙ digits_div P.face p.row_ok)
    (digits_mod (P.face * A + P.row) p.column-ok)
    (ap (λ x. x % A) (digits_div (P.face * A + P.row) p.column-ok) ∙ digits_mod P.face p.row_ok)

pub number-numbered : (A i : ℕ) → number_of A (place_numbered A i) ≡ i
unfolding place_numbered number_of
number-numbered A i = ap (λ x. x * A + i % A) (div-add-mod' (i / A) A) ∙ div-add-mod' i A

-- ---- quarter turns

-- a spot of a face
pub record SpotWithin (A : ℕ) (s : Spot) : Type 0 where
  pub column-ok : s.column < A
  pub row_ok : s.row < A

pub quarter_turns-within : (A k : ℕ) (s : Spot) → SpotWithin A s → SpotWithin A (quarter_turns A k s)
unfolding quarter_turns
quarter_turns-within A zero s w = w
quarter_turns-within A (suc k) s w =
    record { column-ok = omega (arith, (quarter_turns-within A k s w).column-ok); row_ok = (quarter_turns-within A k s w).column-ok }

mirror-twice : (A m : ℕ) → m < A → A - 1 - (A - 1 - m) ≡ m
mirror-twice A m h = omega arith

pub four-turns : (A : ℕ) (s : Spot) → SpotWithin A s → quarter_turns A 4 s ≡ s
unfolding quarter_turns
four-turns A s w = λ i. spot (mirror-twice A s.column w.column-ok i) (mirror-twice A s.row w.row_ok i)

pub no-turn : (A : ℕ) (s : Spot) → quarter_turns A 0 s ≡ s
unfolding quarter_turns
no-turn A s = refl

pub one-turn : (A : ℕ) (s : Spot) → quarter_turns A 1 s ≡ spot (A - 1 - s.row) s.column
unfolding quarter_turns
one-turn A s = refl

pub two-turns : (A : ℕ) (s : Spot) → quarter_turns A 2 s ≡ spot (A - 1 - s.column) (A - 1 - s.row)
unfolding quarter_turns
two-turns A s = refl

pub three-turns : (A : ℕ) (s : Spot) → SpotWithin A s → quarter_turns A 3 s ≡ spot s.row (A - 1 - s.column)
unfolding quarter_turns
three-turns A s w = ap (λ m. spot m (A - 1 - s.column)) (mirror-twice A s.row w.row_ok)

-- j turns after k turns
pub turns-add : (A j k : ℕ) (s : Spot) → quarter_turns A j (quarter_turns A k s) ≡ quarter_turns A (j + k) s
unfolding quarter_turns
turns-add A zero k s = ap (λ n. quarter_turns A n s) (nothing k)
  where
    nothing : (k : ℕ) → k ≡ 0 + k
    nothing k = omega arith
turns-add A (suc j) k s = ap (quarter_turn A) (turns-add A j k s) ∙ ap (λ n. quarter_turns A n s) (one_more j k)
  where
    one_more : (j k : ℕ) → suc (j + k) ≡ suc j + k
    one_more j k = omega arith

-- what is left to four turns undoes k turns
pub turns-back : (A k : ℕ) (s : Spot) → k < 4 → SpotWithin A s → quarter_turns A (4 - k) (quarter_turns A k s) ≡ s
turns-back A k s h w = turns-add A (4 - k) k s ∙ ap (λ n. quarter_turns A n s) (whole k h) ∙ four-turns A s w
  where
    whole : (k : ℕ) → k < 4 → 4 - k + k ≡ 4
    whole k h = omega arith

-- and k turns undo it
pub turns-forth : (A k : ℕ) (s : Spot) → k < 4 → SpotWithin A s → quarter_turns A k (quarter_turns A (4 - k) s) ≡ s
turns-forth A k s h w = turns-add A k (4 - k) s ∙ ap (λ n. quarter_turns A n s) (whole k h) ∙ four-turns A s w
  where
    whole : (k : ℕ) → k < 4 → k + (4 - k) ≡ 4
    whole k h = omega arith

-- ---- the index of a spot of a slot, and back

pub slot-index : (A slot m n : ℕ) → index_in_slot A slot (spot m n) ≡ (slot / 3 * A + n) * (3 * A) + (slot % 3 * A + m)
unfolding index_in_slot
slot-index A slot m n = refl

-- the slot and the spot at an index
abbrev pub slot_at : ℕ → ℕ → ℕ
slot_at A i = i / (3 * A) / A * 3 + i % (3 * A) / A

abbrev pub spot_at : ℕ → ℕ → Spot
spot_at A i = spot (i % (3 * A) % A) (i / (3 * A) % A)

module _ (A k : ℕ) (s : Spot) (h : k < 6) (w : SpotWithin A s) where
  inner_below : k % 3 * A + s.column < 3 * A
  inner_below = digits_lt (mod-lt k (omega arith)) w.column-ok

  row_of : index_in_slot A k s / (3 * A) ≡ k / 3 * A + s.row
  unfolding index_in_slot
  row_of = digits_div (k / 3 * A + s.row) inner_below

  column-of : index_in_slot A k s % (3 * A) ≡ k % 3 * A + s.column
  unfolding index_in_slot
  column-of = digits_mod (k / 3 * A + s.row) inner_below

  pub slot-at-index : slot_at A (index_in_slot A k s) ≡ k
  slot-at-index = rw (row_of, column-of, digits_div (k / 3) w.row_ok, digits_div (k % 3) w.column-ok) (div-add-mod' k 3)

  pub spot-at-index : spot_at A (index_in_slot A k s) ≡ s
  spot-at-index = rw (row_of, column-of, digits_mod (k / 3) w.row_ok, digits_mod (k % 3) w.column-ok)

  pub index_below : index_in_slot A k s < plane_samples A
  unfolding index_in_slot
  index_below = digits_lt (digits_lt (two k h) w.row_ok) inner_below
    where
      two : (k : ℕ) → k < 6 → k / 3 < 2
      two k l = omega arith

module _ (A i : ℕ) (h : i < plane_samples A) where
  a : 0 < A
  a = some-column A i h

  inner-slot : i % (3 * A) / A < 3
  inner-slot = (div-lt_iff_lt-mul a).1 (mod-lt i (omega (arith, a)))

  pub slot-at-below : slot_at A i < 6
  slot-at-below = digits_lt {m = 2} ((div-lt_iff_lt-mul a).1 ((div-lt_iff_lt-mul {y = 2 * A} (omega (arith, a))).1 h)) inner-slot

  pub spot-at-within : SpotWithin A (spot_at A i)
  spot-at-within = record { column-ok = mod-lt (i % (3 * A)) a; row_ok = mod-lt (i / (3 * A)) a }

  pub index-of-spot : index_in_slot A (slot_at A i) (spot_at A i) ≡ i
  unfolding index_in_slot
  index-of-spot = rw (
    digits_div (i / (3 * A) / A) inner-slot,
    digits_mod (i / (3 * A) / A) inner-slot,
    div-add-mod' (i / (3 * A)) A,
    div-add-mod' (i % (3 * A)) A,
  ) (div-add-mod' i (3 * A))

-- ---- the index of a place, and the place at an index

-- the place at an index, by slots: the face of the slot, and its spot turned back
unfoldable pub place_by_slot : ℕ → List ℕ → ℕ → Place
place_by_slot A L i =
    let s = quarter_turns A (4 - quarter_turns_in L (slot_at A i)) (spot_at A i) in
    place (face_in L (slot_at A i)) s.column s.row

-- a place has the index of its spot, turned, in the slot of its face
pub index_is : (A : ℕ) (L : List ℕ) (f m n : ℕ)
    → index_in_slot A (slot_of L f) (quarter_turns A (quarter_turns_in L (slot_of L f)) (spot m n)) ≡ index A L (place f m n)
unfolding index
index_is A L f m n = refl

module _ (A : ℕ) (L : List ℕ) (o : LayoutHolds L) where
  pub index_ok : (P : Place) → IsPlace A P → index A L P < plane_samples A
  unfolding index
  index_ok P p =
      let k : ℕ = slot_of L P.face in
      let w : SpotWithin A (spot P.column P.row) = record { column-ok = p.column-ok; row_ok = p.row_ok } in
      index_below A k (quarter_turns A (quarter_turns_in L k) (spot P.column P.row)) (o.slot-below P.face p.face-ok)
      (quarter_turns-within A (quarter_turns_in L k) (spot P.column P.row) w)

  pub by_slot-index : (P : Place) → IsPlace A P → place_by_slot A L (index A L P) ≡ P
  unfolding place_by_slot index
  by_slot-index P p =
      rw (slot-at-index A k s hk hs, spot-at-index A k s hk hs, turns-back A (quarter_turns_in L k) (spot P.column P.row) (o.turns-below k hk) w)
      (place-eq (o.face-of-slot P.face p.face-ok) refl refl)
    where
      k : ℕ
      k = slot_of L P.face

      hk : k < 6
      hk = o.slot-below P.face p.face-ok

      w : SpotWithin A (spot P.column P.row)
      w = record { column-ok = p.column-ok; row_ok = p.row_ok }

      s : Spot
      s = quarter_turns A (quarter_turns_in L k) (spot P.column P.row)

      hs : SpotWithin A s
      hs = quarter_turns-within A (quarter_turns_in L k) (spot P.column P.row) w

  pub by_slot-ok : (i : ℕ) → i < plane_samples A → IsPlace A (place_by_slot A L i)
  unfolding place_by_slot
  by_slot-ok i h =
      let w = quarter_turns-within A (4 - quarter_turns_in L (slot_at A i)) (spot_at A i) (spot-at-within A i h) in
      record { face-ok = o.face-below (slot_at A i) (slot-at-below A i h); column-ok = w.column-ok; row_ok = w.row_ok }

  pub index-by_slot : (i : ℕ) → i < plane_samples A → index A L (place_by_slot A L i) ≡ i
  unfolding place_by_slot index
  index-by_slot i h =
      let k : ℕ = slot_at A i in
      let hk = slot-at-below A i h in
      rw (o.slot-of-face k hk, turns-forth A (quarter_turns_in L k) (spot_at A i) (o.turns-below k hk) (spot-at-within A i h))
      (index-of-spot A i h)

  -- no two places share an index
  pub index-apart : (P Q : Place) → IsPlace A P → IsPlace A Q → index A L P ≡ index A L Q → P ≡ Q
  index-apart P Q p q e = sym (by_slot-index P p) ∙ ap (place_by_slot A L) e ∙ by_slot-index Q q

  -- the search of `place_at` finds a place with the index
  found : (i : ℕ) → i < plane_samples A
      → Lowest (λ k. eqb (index A L (place_numbered A k)) i) (plane_samples A)
      (lowest (λ k. eqb (index A L (place_numbered A k)) i) (plane_samples A))
  found i h = lowest-is (λ k. eqb (index A L (place_numbered A k)) i) (plane_samples A) (number_of A (place_by_slot A L i))
      (number-below A (place_by_slot A L i) (by_slot-ok i h))
      (subst (λ n. T (eqb n i)) (sym (ap (index A L) (numbered-number A (place_by_slot A L i) (by_slot-ok i h)) ∙ index-by_slot i h)) (eqb_refl i))

  pub place_at-ok : (i : ℕ) → i < plane_samples A → IsPlace A (place_at A L i)
  unfolding place_at
  place_at-ok i h = numbered-ok A _ (found i h).below

  pub index-place_at : (i : ℕ) → i < plane_samples A → index A L (place_at A L i) ≡ i
  unfolding place_at
  index-place_at i h = eqb→eq _ i (found i h).holds

  pub place_at-index : (P : Place) → IsPlace A P → place_at A L (index A L P) ≡ P
  place_at-index P p =
      let i : ℕ = index A L P in
      index-apart (place_at A L i) P (place_at-ok i (index_ok P p)) p (index-place_at i (index_ok P p))

  -- and so it is the place by slots
  pub place_at-by_slot : (i : ℕ) → i < plane_samples A → place_at A L i ≡ place_by_slot A L i
  place_at-by_slot i h = index-apart (place_at A L i) (place_by_slot A L i) (place_at-ok i h) (by_slot-ok i h) (index-place_at i h ∙ sym (index-by_slot i h))

  -- a place with the face of the slot at the index, and its spot there turned back, is it
  pub place_at-is : (P : Place) (i : ℕ) → i < plane_samples A → P.face ≡ face_in L (slot_at A i)
      → spot P.column P.row ≡ quarter_turns A (4 - quarter_turns_in L (slot_at A i)) (spot_at A i) → P ≡ place_at A L i
  unfolding place_by_slot
  place_at-is P i h e s = place-eq e (ap (λ t. t.column) s) (ap (λ t. t.row) s) ∙ sym (place_at-by_slot i h)

-- ---- "The rows of a face whose turn is 0 lie unbroken in the frame": each column is at the row's first index and the column

pub row-unbroken : (A : ℕ) (L : List ℕ) (f m n : ℕ) → quarter_turns_in L (slot_of L f) ≡ 0 → index A L (place f m n) ≡ index A L (place f 0 n) + m
unfolding index index_in_slot quarter_turns
row-unbroken A L f m n e = rw e (omega arith)
