-- Base and strides of a face in its slot, turned 0 to 3 times, lead to the index of each of its columns and rows; and
-- strides with columns and rows exchanged.
use mathlib.Core.Path.{◌≡◌, refl, sym, ◌∙◌, ap, subst}
use mathlib.Core.List.{List, [], ◌∷◌}
use Prim.Native.Nat.{ℕ, ◌+◌, ◌*◌, ◌-◌, ◌/◌, ◌%◌, ◌^◌, ◌≤◌, ◌<◌}
use native.Mathlib.Nat.{mul-le-mul}
use native.Mathlib.Decide.{ℕ_discrete}
use native.Mathlib.Omega.{arith}
use lib.ListN.{length}
use lib.IntN.{ℤ, pos, negsuc, neg_ℤ, nat_abs, ◌+ℤ◌, ◌*ℤ◌}
use lib.Dec.{T}
use lib.Signed.{non_neg}
use mir.Syntax.{w64}
use mir.Val.{to_z, of_z}
use Rattle.arithmetic.specs.Integers.{natural}
use Rattle.arithmetic.proofs.Held.{held}
use Rattle.arithmetic.proofs.Sizes.{pos_inj, nat_abs-neg}
use Rattle.arithmetic.proofs.Ring.{var, con, ◌⊕◌, ◌⊗◌, ⊖, solve}
use Rattle.cubemap.specs.declared.Place.{Place}
use Rattle.cubemap.specs.declared.Shape.{Shape}
use Rattle.cubemap.specs.Frames.{place, IsPlace, index, sample_at, sample_at_place}
use Rattle.cubemap.specs.Frames.{plane_samples, spot, quarter_turns, index_in_slot}
use Rattle.cubemap.proofs.Layouts.{LayoutHolds}
use Rattle.cubemap.proofs.Indices.{SpotWithin, quarter_turns-within, no-turn, one-turn, two-turns, three-turns}
use Rattle.cubemap.proofs.Indices.{slot-index, index_below}
use Rattle.cubemap.specs.Checks.{depth_ok, samples_ok}
use Rattle.cubemap.proofs.Framed.{samples-number, samples-below}
use Rattle.cubemap.proofs.Passed.{depth-levels}
use Rattle.frame.specs.LumaPlane.{luma_of}
use Rattle.frame.proofs.LumaSamples.{luma-length, luma-sample, luma-place}
use Rattle.strides.specs.declared.Strides.{Strides}
use Rattle.strides.specs.FaceStrides.{index_by, Contiguous, StridesTo, Askable, FaceLeads, strides_in, LeadsTo}
use Rattle.strides.specs.FaceStrides.{StrideTable, exchanged}
use Rattle.strides.specs.FaceStrides.{Shallow, StridedFace, StridedPlane, sample_on_face, sample_by}

abbrev pub strides : ℤ → ℤ → ℤ → Strides
strides base column row = record { base = base; column = column; row = row }

-- the same three numbers
pub strides-eq : {b d e x y z : ℤ} → b ≡ x → d ≡ y → e ≡ z → strides b d e ≡ strides x y z
strides-eq p q r = λ i. strides (p i) (q i) (r i)

pub same-strides : {A : ℕ} {at : ℕ → ℕ → ℕ} {b d e x y z : ℤ} → b ≡ x → d ≡ y → e ≡ z → StridesTo A (strides x y z) at
    → StridesTo A (strides b d e) at
same-strides {A} {at} p q r w = subst (λ t. StridesTo A t at) (sym (strides-eq p q r)) w

-- n strides of w back
back : (y n w : ℕ) → pos (y + n * w) +ℤ pos n *ℤ neg_ℤ (pos w) ≡ pos y
back y n w = solve (pos y ∷ pos n ∷ pos w ∷ []) (var 0 ⊕ var 1 ⊗ var 2 ⊕ var 1 ⊗ ⊖ (var 2)) (var 0) tt

from_back : {x y : ℕ} (n w : ℕ) → x ≡ y + n * w → pos x +ℤ pos n *ℤ neg_ℤ (pos w) ≡ pos y
from_back {y = y} n w e = ap (λ x. pos x +ℤ pos n *ℤ neg_ℤ (pos w)) e ∙ back y n w

pub plane-small : (A : ℕ) → A ≤ 512 → plane_samples A ≤ 1572864
plane-small A h = omega (arith, mul-le-mul h h)

module _ (A slot : ℕ) (a : 1 ≤ A) (b : A ≤ 512) (h : slot < 6) where
  -- the index of the slot's first sample
  abbrev pub corner : ℕ
  corner = slot / 3 * A * (3 * A) + slot % 3 * A

  last_within : SpotWithin A (spot (A - 1) (A - 1))
  last_within = record { column-ok = omega arith; row_ok = omega arith }

  -- and of its last
  pub last-below : corner + (A - 1) * (3 * A) + (A - 1) < 1572864
  last-below = omega (
    arith,
    index_below A slot (spot (A - 1) (A - 1)) h last_within,
    slot-index A slot (A - 1) (A - 1),
    plane-small A b,
  )

  -- the rows of a slot below and above its row n
  rows_above : (w n : ℕ) → n < A → (A - 1) * w ≡ (A - 1 - n) * w + n * w
  rows_above w n p = ap (λ k. k * w) (split n p) ∙ omega arith
    where
      split : (n : ℕ) → n < A → A - 1 ≡ A - 1 - n + n
      split n p = omega arith

  turned-below : (k m n : ℕ) → m < A → n < A → index_in_slot A slot (quarter_turns A k (spot m n)) < plane_samples A
  turned-below k m n p q = index_below A slot (quarter_turns A k (spot m n)) h
      (quarter_turns-within A k (spot m n) (record { column-ok = p; row_ok = q }))

  -- the index of column x and row y of the slot, where m and n come after k turns
  abbrev at : ℕ → ℕ → ℕ
  at x y = (slot / 3 * A + y) * (3 * A) + (slot % 3 * A + x)

  turned : (k m n x y : ℕ) → quarter_turns A k (spot m n) ≡ spot x y
      → pos (at x y) ≡ pos (index_in_slot A slot (quarter_turns A k (spot m n)))
  turned k m n x y e = ap pos (sym (ap (index_in_slot A slot) e ∙ slot-index A slot x y))

  -- the four ways that a slot is turned
  pub strides-0 : StridesTo A (strides (pos corner) (pos 1) (pos (3 * A)))
      (λ m n. index_in_slot A slot (quarter_turns A 0 (spot m n)))
  strides-0 = record {
    base-small = omega (arith, last-below);
    column-small = omega arith;
    row_small = omega arith;
    gives = λ m n p q. ap pos (along m n) ∙ turned 0 m n m n (no-turn A (spot m n));
    below = turned-below 0;
    either = λ h. absurd (h refl);
  }
    where
      along : (m n : ℕ) → corner + m * 1 + n * (3 * A) ≡ at m n
      along m n = omega arith

  pub strides-1 : StridesTo A (strides (pos (corner + (A - 1))) (pos (3 * A)) (neg_ℤ (pos 1)))
      (λ m n. index_in_slot A slot (quarter_turns A 1 (spot m n)))
  strides-1 = record {
    base-small = omega (arith, last-below);
    column-small = omega arith;
    row_small = omega arith;
    gives = λ m n p q. from_back {y = at (A - 1 - n) m} n 1 (omega arith)
        ∙ turned 1 m n (A - 1 - n) m (one-turn A (spot m n));
    below = turned-below 1;
    either = λ h. refl;
  }

  pub strides-2 : StridesTo A (strides (pos (corner + (A - 1) * (3 * A) + (A - 1))) (neg_ℤ (pos 1)) (neg_ℤ (pos (3 * A))))
      (λ m n. index_in_slot A slot (quarter_turns A 2 (spot m n)))
  strides-2 = record {
    base-small = omega (arith, last-below);
    column-small = omega arith;
    row_small = omega (arith, nat_abs-neg (pos (3 * A)));
    gives = λ m n p q.
        ap (λ z. z +ℤ pos n *ℤ neg_ℤ (pos (3 * A)))
        (from_back {y = at (A - 1 - m) (A - 1 - n) + n * (3 * A)} m 1 (omega (arith, rows_above (3 * A) n q)))
        ∙ back (at (A - 1 - m) (A - 1 - n)) n (3 * A)
        ∙ turned 2 m n (A - 1 - m) (A - 1 - n) (two-turns A (spot m n));
    below = turned-below 2;
    either = λ h. absurd (h refl);
  }

  pub strides-3 : StridesTo A (strides (pos (corner + (A - 1) * (3 * A))) (neg_ℤ (pos (3 * A))) (pos 1))
      (λ m n. index_in_slot A slot (quarter_turns A 3 (spot m n)))
  strides-3 = record {
    base-small = omega (arith, last-below);
    column-small = omega (arith, nat_abs-neg (pos (3 * A)));
    row_small = omega arith;
    gives = λ m n p q.
        ap (λ z. z +ℤ pos (n * 1)) (from_back {y = at 0 (A - 1 - m)} m (3 * A) (omega (arith, rows_above (3 * A) m p)))
        ∙ ap pos (beside m n)
        ∙ turned 3 m n n (A - 1 - m) (three-turns A (spot m n) (record { column-ok = p; row_ok = q }));
    below = turned-below 3;
    either = λ h. refl;
  }
    where
      beside : (m n : ℕ) → at 0 (A - 1 - m) + n * 1 ≡ at n (A - 1 - m)
      beside m n = omega arith

-- ---- strides to an index

pub strides-cong : {A : ℕ} {s : Strides} {f g : ℕ → ℕ → ℕ} → ((m n : ℕ) → m < A → n < A → f m n ≡ g m n) → StridesTo A s f
    → StridesTo A s g
strides-cong {A} e s = record {
  base-small = s.base-small;
  column-small = s.column-small;
  row_small = s.row_small;
  gives = λ m n p q. s.gives m n p q ∙ ap pos (e m n p q);
  below = λ m n p q. subst (λ i. i < plane_samples A) (e m n p q) (s.below m n p q);
  either = s.either;
}

-- what they give is not negative, and a face may be asked there
pub not_negative : {A : ℕ} {s : Strides} {at : ℕ → ℕ → ℕ} → StridesTo A s at → (m n : ℕ) → m < A → n < A
    → T (non_neg (index_by s m n))
not_negative s m n p q = subst (λ z. T (non_neg z)) (sym (s.gives m n p q)) tt

pub askable : {A : ℕ} {s : Strides} {at : ℕ → ℕ → ℕ} → StridesTo A s at → A ≤ 512 → (m n : ℕ) → m < A → n < A
    → Askable s m n
askable s b m n p q = record {
  base-small = s.base-small;
  column-small = s.column-small;
  row_small = s.row_small;
  column-below = omega arith;
  row_below = omega arith;
  not-below-0 = not_negative s m n p q;
}

-- b rows down and a columns across from a column and a row
pub index_on : (s : Strides) (m n a b : ℕ) → index_by s (m + a) (n + b)
    ≡ index_by s m n +ℤ pos b *ℤ s.row +ℤ pos a *ℤ s.column
index_on s m n a b = solve (s.base ∷ pos m ∷ pos a ∷ s.column ∷ pos n ∷ pos b ∷ s.row ∷ [])
    (var 0 ⊕ (var 1 ⊕ var 2) ⊗ var 3 ⊕ (var 4 ⊕ var 5) ⊗ var 6)
    (var 0 ⊕ var 1 ⊗ var 3 ⊕ var 4 ⊗ var 6 ⊕ var 5 ⊗ var 6 ⊕ var 2 ⊗ var 3) tt

-- where a column stride is 1, a row lies unbroken
pub strides-unbroken : {A : ℕ} {s : Strides} {at : ℕ → ℕ → ℕ} → StridesTo A s at → s.column ≡ pos 1 → (m n : ℕ) → m < A
    → n < A → at m n ≡ at 0 n + m
strides-unbroken {s = s} {at} w e m n p q = pos_inj (at m n) (at 0 n + m)
    (sym (w.gives m n p q)
    ∙ ap (λ z. s.base +ℤ pos m *ℤ z +ℤ pos n *ℤ s.row) e
    ∙ solve (s.base ∷ pos m ∷ s.column ∷ (pos n *ℤ s.row) ∷ [])
    (var 0 ⊕ var 1 ⊗ con (pos 1) ⊕ var 3)
    (var 0 ⊕ con (pos 0) ⊗ var 2 ⊕ var 3 ⊕ var 1) tt
    ∙ ap (λ z. z +ℤ pos m) (w.gives 0 n (omega arith) q))

-- ---- along the rows of a frame

-- a stride of 1 or −1 that is not 1
pub not-ahead : (z : ℤ) → nat_abs z ≡ 1 → (z ≡ pos 1 → ⊥) → z ≡ neg_ℤ (pos 1)
not-ahead (pos n) e f = absurd (f (ap pos e))
not-ahead (negsuc n) e f = let d : n ≡ 0 = omega (arith, e) in ap negsuc d

-- a column stride that is read as 1, and one that is not
pub stride-ahead : (s : Strides) → Contiguous s → of_z w64 s.column ≡ 1 → s.column ≡ pos 1
stride-ahead s l e = sym (held s.column {B = 1} (omega (arith, l)) tt).is ∙ ap (to_z w64) e

pub stride_back : (s : Strides) → Contiguous s → (of_z w64 s.column ≡ 1 → ⊥) → s.column ≡ neg_ℤ (pos 1)
stride_back s l f = not-ahead s.column l (λ e. f (ap (of_z w64) e))

-- ---- planes

-- luma of a frame that has passed questions 3, 10 and 11
pub shallow-luma : (z : Shape) (bytes : List ℕ) → T (depth_ok z.depth) → T (samples_ok z bytes)
    → Shallow z.size (luma_of z.size bytes)
shallow-luma z bytes depth samples = record {
  within = λ i l. subst (λ v. v < 4096) (sym (luma-sample z.size bytes i l))
      (small (sample_at bytes i) (samples-below z bytes samples i (omega (arith, samples-number z))));
}
  where
    small : (v : ℕ) → v < 2 ^ z.depth → v < 4096
    small v h = omega (arith, depth-levels z.depth depth)

-- each face of a plane with strides
pub face-of : {A : ℕ} {plane : List ℕ} {table : List Strides} → StridedPlane A plane table → (f : ℕ) → f < 6
    → StridedFace A plane (strides_in table f)
face-of p f h = record { size-most = p.size-most; whole = p.whole; leads = p.leads f h }

-- ---- columns and rows exchanged

exchanged-index : (s : Strides) (m n : ℕ) → index_by (exchanged s) m n ≡ index_by s n m
exchanged-index s m n =
    solve (s.base ∷ pos m ∷ s.row ∷ pos n ∷ s.column ∷ []) (var 0 ⊕ var 1 ⊗ var 2 ⊕ var 3 ⊗ var 4)
    (var 0 ⊕ var 3 ⊗ var 4 ⊕ var 1 ⊗ var 2) tt

pub exchanged-leads : {A : ℕ} {s : Strides} → FaceLeads A s → FaceLeads A (exchanged s)
exchanged-leads {A} {s} l = record {
  base-small = l.base-small;
  column-small = l.row_small;
  row_small = l.column-small;
  gives = λ m n p q. exchanged-index s m n ∙ l.gives n m q p ∙ ap (λ z. pos (natural z)) (sym (exchanged-index s m n));
  below = λ m n p q. subst (λ z. natural z < plane_samples A) (sym (exchanged-index s m n)) (l.below n m q p);
  either = λ h. other (ℕ_discrete (nat_abs s.column) 1) h;
}
  where
    other : Dec (nat_abs s.column ≡ 1) → (nat_abs s.row ≡ 1 → ⊥) → nat_abs s.column ≡ 1
    other (yes e) h = e
    other (no n) h = absurd (h (l.either n))

-- and those of a face
pub exchanged-face : {A : ℕ} {plane : List ℕ} {s : Strides} → StridedFace A plane s → StridedFace A plane (exchanged s)
exchanged-face p = record { size-most = p.size-most; whole = p.whole; leads = exchanged-leads p.leads }

-- what they read
pub exchanged-sample : (plane : List ℕ) (s : Strides) (m n : ℕ) → sample_on_face plane (exchanged s) m n
    ≡ sample_on_face plane s n m
exchanged-sample plane s m n = ap (λ z. sample_at plane (natural z)) (exchanged-index s m n)

-- ---- a table that leads to the indices of a layout

module _ (A : ℕ) (L : List ℕ) (table : List Strides) (t : LeadsTo A L table) where
  -- the strides of a place give its index
  to-index : (f m n : ℕ) → f < 6 → m < A → n < A → natural (index_by (strides_in table f) m n) ≡ index A L (place f m n)
  to-index f m n h p q = ap natural ((t f h).gives m n p q)

  all-lead : StrideTable A table
  all-lead f h = strides-cong (λ m n p q. sym (to-index f m n h p q)) (t f h)

  -- luma of a frame
  pub strided-luma : (bytes : List ℕ) → 1 ≤ A → A ≤ 512 → 2 * plane_samples A ≤ length bytes
      → StridedPlane A (luma_of A bytes) table
  strided-luma bytes a b e = record { size-least = a; size-most = b; whole = luma-length A bytes e; leads = all-lead }

  pub sample-by-layout : LayoutHolds L → (bytes : List ℕ) (P : Place) → IsPlace A P
      → sample_by (luma_of A bytes) table P ≡ sample_at_place bytes A L P
  sample-by-layout o bytes P p =
      ap (sample_at (luma_of A bytes)) (to-index P.face P.column P.row p.face-ok p.column-ok p.row_ok)
      ∙ luma-place A bytes L o P p
