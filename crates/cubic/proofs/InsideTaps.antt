-- Sixteen taps of a face whose rows run along the rows of the frame: four lie side by side, from the first on or from
-- the last on.
use mathlib.Core.Path.{◌≡◌, refl, sym, ◌∙◌, ap, subst}
use mathlib.Core.Bool.{Bool, true, false, cond}
use mathlib.Core.List.{List, [], ◌∷◌}
use Prim.Native.Nat.{ℕ, ◌+◌, ◌-◌, ◌<◌}
use native.Mathlib.Omega.{arith}
use lib.Dec.{T}
use lib.IntN.{ℤ, pos, neg_ℤ, nat_abs, ◌+ℤ◌, ◌*ℤ◌}
use lib.Signed.{non_neg}
use Rattle.arithmetic.specs.Integers.{natural, equalℤ}
use Rattle.arithmetic.proofs.Sizes.{pos_inj, equalℤ→eq}
use Rattle.arithmetic.proofs.Tests.{passes, fails, cond-true, cond_both}
use Rattle.arithmetic.proofs.Ring.{var, con, ◌⊕◌, ◌⊗◌, ⊖, solve}
use Rattle.cubemap.specs.Frames.{sample_at}
use Rattle.strides.specs.declared.Strides.{Strides}
use Rattle.strides.specs.FaceStrides.{index_by, Contiguous, Shallow, StridedFace, sample_on_face}
use Rattle.strides.proofs.StrideIndices.{not_negative, strides-unbroken, not-ahead}
use Rattle.taps.specs.TapWeights.{TapWeights, reversed, grid_sum}
use Rattle.taps.proofs.TapSums.{grid-cong, grid-reversed}
use Rattle.cubic.specs.InsideTaps.{first_tap, taps_inside, ahead, first_of, first_index, RowsIn}

-- ---- ahead, or back

is-ahead : (z : ℤ) → equalℤ z (pos 1) ≡ true → z ≡ pos 1
is-ahead z e = equalℤ→eq z (pos 1) (passes e)

is-back : (z : ℤ) → nat_abs z ≡ 1 → equalℤ z (pos 1) ≡ false → z ≡ neg_ℤ (pos 1)
is-back z l e = not-ahead z l (λ d. fails e (subst (λ z. T (equalℤ z (pos 1))) (sym d) tt))

-- the first of four columns inside a face
pub first-inside : (s : Strides) (m : ℕ) {A : ℕ} → m + 3 < A → first_of s m < A
first-inside s m {A} h = cond_both (λ c. c < A) (ahead s) m (m + 3) (λ t. omega arith) (λ t. h)

-- sixteen taps that have a first index are inside the face
pub has_first : (A : ℕ) (s : Strides) (x y first : ℕ) → first ≡ first_index A s x y → (first ≡ 4294967295 → ⊥)
    → T (taps_inside A x y)
has_first A s x y first e h = go (taps_inside A x y) e
  where
    go : (b : Bool)
        → first ≡ cond b (natural (index_by s (first_of s (natural (first_tap x))) (natural (first_tap y)))) 4294967295
        → T b
    go true e = tt
    go false e = h e

pub first-is : (A : ℕ) (s : Strides) (x y first : ℕ) → first ≡ first_index A s x y → T (taps_inside A x y)
    → first ≡ natural (index_by s (first_of s (natural (first_tap x))) (natural (first_tap y)))
first-is A s x y first e t = e ∙ cond-true (taps_inside A x y)
    (natural (index_by s (first_of s (natural (first_tap x))) (natural (first_tap y)))) 4294967295 t

-- rows further down
index-down : (s : Strides) (m n j : ℕ) → index_by s m (n + j) ≡ index_by s m n +ℤ pos j *ℤ s.row
index-down s m n j =
    solve ((s.base +ℤ pos m *ℤ s.column) ∷ pos n ∷ pos j ∷ s.row ∷ [])
    (var 0 ⊕ (var 1 ⊕ var 2) ⊗ var 3) (var 0 ⊕ var 1 ⊗ var 3 ⊕ var 2 ⊗ var 3) tt

module _ {A : ℕ} {plane : List ℕ} {s : Strides} (p : StridedFace A plane s) (b : Shallow A plane) (m n : ℕ) (h : m + 3 < A) (k : n + 3 < A) where
  -- the index of a column and a row
  abbrev at : ℕ → ℕ → ℕ
  at m n = natural (index_by s m n)

  -- the index in row j, of those from column m on, of the sample that comes first
  abbrev start : ℕ → ℕ → ℕ
  start m j = natural (index_by s m n +ℤ pos j *ℤ s.row)

  start-at : (m j : ℕ) → start m j ≡ at m (n + j)
  start-at m j = ap natural (sym (index-down s m n j))

  -- rows whose samples i are those of the columns c i
  rows : (m : ℕ) (c : ℕ → ℕ) → m < A → ((i : ℕ) → i < 4 → c i < A) → ((i j : ℕ) → i < 4 → j < 4 → start m j + i ≡ at (c i) (n + j))
      → RowsIn plane (index_by s m n) s.row
  rows m c l f e = record {
    least = λ j g. subst (λ z. T (non_neg z)) (index-down s m n j) (not_negative p.leads m (n + j) l (omega arith));
    inside = λ j g. omega (arith, e 3 j (omega arith) g, p.leads.below (c 3) (n + j) (f 3 (omega arith)) (omega arith), p.whole);
    small = λ j i g o. b.within (start m j + i) (omega (arith, e i j o g, p.leads.below (c i) (n + j) (f i o) (omega arith)));
  }

  -- ---- ahead

  module _ (e : s.column ≡ pos 1) where
    ahead-row : (i j : ℕ) → i < 4 → j < 4 → start m j + i ≡ at (m + i) (n + j)
    ahead-row i j l g = omega (
      arith,
      start-at m j,
      strides-unbroken p.leads e (m + i) (n + j) (omega arith) (omega arith),
      strides-unbroken p.leads e m (n + j) (omega arith) (omega arith),
    )

    ahead_in : RowsIn plane (index_by s m n) s.row
    ahead_in = rows m (λ i. m + i) (omega arith) (λ i l. omega arith) ahead-row

    ahead-sum : (w u : TapWeights)
        → grid_sum w u (λ j i. sample_at plane (start m j + i)) ≡ grid_sum w u (λ j i. sample_on_face plane s (m + i) (n + j))
    ahead-sum w u = grid-cong w u _ _ (λ i j l g. ap (sample_at plane) (ahead-row i j l g))

  -- ---- back

  module _ (e : s.column ≡ neg_ℤ (pos 1)) where
    backwards : (c i r : ℕ) → index_by s (c + i) r +ℤ pos i ≡ index_by s c r
    backwards c i r =
        ap (λ z. s.base +ℤ pos (c + i) *ℤ z +ℤ pos r *ℤ s.row +ℤ pos i) e
        ∙ solve (s.base ∷ pos c ∷ pos i ∷ (pos r *ℤ s.row) ∷ [])
        (var 0 ⊕ (var 1 ⊕ var 2) ⊗ ⊖ (con (pos 1)) ⊕ var 3 ⊕ var 2) (var 0 ⊕ var 1 ⊗ ⊖ (con (pos 1)) ⊕ var 3) tt
        ∙ ap (λ z. s.base +ℤ pos c *ℤ z +ℤ pos r *ℤ s.row) (sym e)

    behind : (c i r : ℕ) → c + i < A → r < A → at (c + i) r + i ≡ at c r
    behind c i r l g = pos_inj (at (c + i) r + i) (at c r)
        (ap (λ z. z +ℤ pos i) (sym (p.leads.gives (c + i) r l g)) ∙ backwards c i r ∙ p.leads.gives c r (omega arith) g)

    back-row : (i j : ℕ) → i < 4 → j < 4 → start (m + 3) j + i ≡ at (m + (3 - i)) (n + j)
    back-row i j l g =
        ap (λ x. x + i) (start-at (m + 3) j)
        ∙ ap (λ c. at c (n + j) + i) (split i l)
        ∙ behind (m + (3 - i)) i (n + j) (omega arith) (omega arith)
      where
        split : (i : ℕ) → i < 4 → m + 3 ≡ m + (3 - i) + i
        split i l = omega arith

    back_in : RowsIn plane (index_by s (m + 3) n) s.row
    back_in = rows (m + 3) (λ i. m + (3 - i)) h (λ i l. omega arith) back-row

    back_sum : (w u : TapWeights)
        → grid_sum w (reversed u) (λ j i. sample_at plane (start (m + 3) j + i)) ≡ grid_sum w u (λ j i. sample_on_face plane s (m + i) (n + j))
    back_sum w u =
        grid-cong w (reversed u) _ (λ j i. sample_on_face plane s (m + (3 - i)) (n + j)) (λ i j l g. ap (sample_at plane) (back-row i j l g))
        ∙ grid-reversed w u (λ j i. sample_on_face plane s (m + i) (n + j))

  -- ---- either

  module _ (l : Contiguous s) where
    pub run_in : RowsIn plane (index_by s (first_of s m) n) s.row
    run_in = go (ahead s) refl
      where
        go : (b : Bool) → ahead s ≡ b → RowsIn plane (index_by s (cond b m (m + 3)) n) s.row
        go true e = ahead_in (is-ahead s.column e)
        go false e = back_in (is-back s.column l e)

    pub run-sum : (w u : TapWeights)
        → grid_sum w (cond (ahead s) u (reversed u)) (λ j i. sample_at plane (start (first_of s m) j + i))
        ≡ grid_sum w u (λ j i. sample_on_face plane s (m + i) (n + j))
    run-sum w u = go (ahead s) refl
      where
        go : (b : Bool) → ahead s ≡ b → grid_sum w (cond b u (reversed u)) (λ j i. sample_at plane (start (cond b m (m + 3)) j + i))
            ≡ grid_sum w u (λ j i. sample_on_face plane s (m + i) (n + j))
        go true e = ahead-sum (is-ahead s.column e) w u
        go false e = back_sum (is-back s.column l e) w u
