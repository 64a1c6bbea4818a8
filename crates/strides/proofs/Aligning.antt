-- StridesTo with the columns in the other order, and strides that are aligned with those of a guide: where they lead, and
-- what they read. Aligned with itself, each row of a table runs ahead along a row of the frame.
use mathlib.Core.Path.{◌≡◌, refl, sym, ◌∙◌, ap, subst}
use mathlib.Core.Bool.{Bool, true, false, cond}
use mathlib.Core.List.{List, [], ◌∷◌}
use Prim.Native.Nat.{ℕ, suc, ◌+◌, ◌-◌, ◌≤◌, ◌<◌}
use native.Mathlib.Omega.{arith}
use lib.Dec.{T, eqb→eq}
use lib.IntN.{pos, neg_ℤ, nat_abs, ◌+ℤ◌, ◌*ℤ◌}
use borrow.Author.Tests.{eq-eqb}
use Rattle.arithmetic.specs.Integers.{natural, is_positive}
use Rattle.arithmetic.proofs.Sizes.{nat_abs-neg, neg_small, positive-is}
use Rattle.arithmetic.proofs.Ring.{var, con, ◌⊕◌, ◌⊗◌, ⊖, solve}
use Rattle.arithmetic.proofs.Tests.{passes, cond_both}
use Rattle.cubemap.specs.declared.Place.{Place}
use Rattle.cubemap.specs.Frames.{place, IsPlace, plane_samples, sample_at}
use Rattle.cubemap.proofs.Alignment.{opposite, exchanged_on, mirrored_on}
use Rattle.strides.specs.declared.Strides.{Strides}
use Rattle.strides.specs.FaceStrides.{index_by, Contiguous, FaceLeads, strides_in, StrideTable, exchanged, mirrored}
use Rattle.strides.specs.FaceStrides.{runs_along, runs_ahead, along, ahead, Aligned, RowsAhead}
use Rattle.strides.specs.FaceStrides.{StridedFace, StridedPlane, sample_on_face, sample_by}
use Rattle.strides.proofs.StrideIndices.{plane-small, not-ahead, exchanged-leads, exchanged-sample}

-- ---- the columns in the other order

module _ (A : ℕ) (s : Strides) where
  pub mirrored-index : (m n : ℕ) → m < A → index_by (mirrored A s) m n ≡ index_by s (A - suc m) n
  mirrored-index m n h =
      ap (λ k. s.base +ℤ pos k *ℤ s.column +ℤ pos m *ℤ neg_ℤ s.column +ℤ pos n *ℤ s.row) (apart m h)
      ∙ solve (s.base ∷ pos (A - suc m) ∷ pos m ∷ s.column ∷ (pos n *ℤ s.row) ∷ [])
      (var 0 ⊕ (var 1 ⊕ var 2) ⊗ var 3 ⊕ var 2 ⊗ ⊖ (var 3) ⊕ var 4) (var 0 ⊕ var 1 ⊗ var 3 ⊕ var 4) tt
    where
      apart : (m : ℕ) → m < A → A - 1 ≡ A - suc m + m
      apart m h = omega arith

  -- the last column of row 0 is where they start
  mirrored-base : (mirrored A s).base ≡ index_by s (A - 1) 0
  mirrored-base = solve (s.base ∷ (pos (A - 1) *ℤ s.column) ∷ s.row ∷ [])
      (var 0 ⊕ var 1) (var 0 ⊕ var 1 ⊕ con (pos 0) ⊗ var 2) tt

  pub mirrored-leads : 1 ≤ A → A ≤ 512 → FaceLeads A s → FaceLeads A (mirrored A s)
  mirrored-leads a b l = record {
    base-small = subst (λ z. nat_abs z ≤ 1572864) (sym (mirrored-base ∙ l.gives (A - 1) 0 last a))
        (omega (arith, l.below (A - 1) 0 last a, plane-small A b));
    column-small = neg_small s.column l.column-small;
    row_small = l.row_small;
    gives = λ m n p q.
        mirrored-index m n p ∙ l.gives (A - suc m) n (omega arith) q
        ∙ ap (λ z. pos (natural z)) (sym (mirrored-index m n p));
    below = λ m n p q. subst (λ z. natural z < plane_samples A) (sym (mirrored-index m n p))
        (l.below (A - suc m) n (omega arith) q);
    either = λ h. l.either (λ e. h (nat_abs-neg s.column ∙ e));
  }
    where
      last : A - 1 < A
      last = omega arith

  -- what they read
  pub mirrored-sample : (plane : List ℕ) (m n : ℕ) → m < A
      → sample_on_face plane (mirrored A s) m n ≡ sample_on_face plane s (A - suc m) n
  mirrored-sample plane m n h = ap (λ z. sample_at plane (natural z)) (mirrored-index m n h)

-- those of a face
pub mirrored-face : {A : ℕ} {plane : List ℕ} {s : Strides} → 1 ≤ A → StridedFace A plane s
    → StridedFace A plane (mirrored A s)
mirrored-face {A} {s = s} a p = record {
  size-most = p.size-most;
  whole = p.whole;
  leads = mirrored-leads A s a p.size-most p.leads;
}

-- ---- strides that are aligned with those of a guide

pub along-leads : {A : ℕ} {s : Strides} (g : Strides) → FaceLeads A s → FaceLeads A (along g s)
along-leads {A} {s} g l = cond_both (FaceLeads A) (runs_along g) s (exchanged s) (λ t. l) (λ t. exchanged-leads l)

ahead-leads : {A : ℕ} {s : Strides} (g : Strides) → 1 ≤ A → A ≤ 512 → FaceLeads A s → FaceLeads A (ahead A g s)
ahead-leads {A} {s} g a b l =
    cond_both (FaceLeads A) (runs_ahead g) s (mirrored A s) (λ t. l) (λ t. mirrored-leads A s a b l)

-- by its own strides a row runs along a line, and then ahead
along-own : {A : ℕ} {g : Strides} → FaceLeads A g → Contiguous (along g g)
along-own {g = g} l = cond_both Contiguous (runs_along g) g (exchanged g) (λ t. eqb→eq _ 1 t)
    (λ f. l.either (λ e. f (passes (eq-eqb _ 1 e))))

ahead_own : (A : ℕ) (s : Strides) → Contiguous s → (ahead A s s).column ≡ pos 1
ahead_own A s e = cond_both (λ r. r.column ≡ pos 1) (runs_ahead s) s (mirrored A s)
    (λ t. positive-is s.column t ∙ ap pos e)
    (λ f. ap neg_ℤ (not-ahead s.column e (λ h. f (subst (λ z. T (is_positive z)) (sym h) tt))))

-- the faces that each of the two leaves as they are, by a table
abbrev pub keeps_rows : List Strides → ℕ → Bool
keeps_rows guide f = runs_along (strides_in guide f)

abbrev pub keeps_order : List Strides → ℕ → Bool
keeps_order guide f = let g : Strides = strides_in guide f in runs_ahead (along g g)

module _ (A : ℕ) (guide table r : List Strides) (e : Aligned A guide table r) where
  pub aligned-plane : {plane : List ℕ} → StridedPlane A plane table → StridedPlane A plane r
  aligned-plane p = record {
    size-least = p.size-least;
    size-most = p.size-most;
    whole = p.whole;
    leads = λ f h.
        let g : Strides = strides_in guide f in
        subst (FaceLeads A) (sym (e f h))
        (ahead-leads (along g g) p.size-least p.size-most (along-leads g (p.leads f h)));
  }

  -- what aligned strides read at a place is what the others read at the place that is moved likewise
  pub sample-aligned : (plane : List ℕ) (P : Place) → IsPlace A P
      → sample_by plane r P ≡ sample_by plane table (exchanged_on (keeps_rows guide) (mirrored_on A (keeps_order guide) P))
  sample-aligned plane P p =
      ap (λ s. sample_on_face plane s P.column P.row) (e P.face p.face-ok)
      ∙ order (keeps_order guide P.face) P p
    where
      -- the strides of a face along the rows of the frame
      lined : ℕ → Strides
      lined f = along (strides_in guide f) (strides_in table f)

      row : (b : Bool) (f m n : ℕ) → let s : Strides = strides_in table f in
          sample_on_face plane (cond b s (exchanged s)) m n ≡ sample_by plane table (cond b (place f m n) (place f n m))
      row true f m n = refl
      row false f m n = exchanged-sample plane (strides_in table f) m n

      order : (b : Bool) (P : Place) → IsPlace A P
          → sample_on_face plane (cond b (lined P.face) (mirrored A (lined P.face))) P.column P.row
          ≡ sample_by plane table (exchanged_on (keeps_rows guide) (cond b P (opposite A P)))
      order true P p = row (keeps_rows guide P.face) P.face P.column P.row
      order false P p =
          mirrored-sample A (lined P.face) plane P.column P.row p.column-ok
          ∙ row (keeps_rows guide P.face) P.face (A - suc P.column) P.row

-- a table that is aligned with itself
pub aligned-ahead : (A : ℕ) (table r : List Strides) → Aligned A table table r → StrideTable A table → RowsAhead r
aligned-ahead A table r e l f h =
    let g : Strides = strides_in table f in
    ap (λ s. s.column) (e f h) ∙ ahead_own A (along g g) (along-own (l f h))
