-- A sum over sixteen taps, column by column and row by row.
use mathlib.Core.Path.{◌≡◌, ◌∙◌, ap}
use mathlib.Core.List.{[], ◌∷◌}
use Prim.Native.Nat.{ℕ}
use lib.IntN.{ℤ, ◌+ℤ◌, ◌*ℤ◌}
use Rattle.arithmetic.proofs.Ring.{var, ◌⊕◌, ◌⊗◌, solve}
use Rattle.cubemap.specs.Samplers.{over_taps}

-- four numbers and four numbers
added : (a b c d e f g h : ℤ) → (a +ℤ b +ℤ c +ℤ d) +ℤ (e +ℤ f +ℤ g +ℤ h) ≡ (a +ℤ e) +ℤ (b +ℤ f) +ℤ (c +ℤ g) +ℤ (d +ℤ h)
added a b c d e f g h =
    solve (a ∷ b ∷ c ∷ d ∷ e ∷ f ∷ g ∷ h ∷ [])
    ((var 0 ⊕ var 1 ⊕ var 2 ⊕ var 3) ⊕ (var 4 ⊕ var 5 ⊕ var 6 ⊕ var 7))
    ((var 0 ⊕ var 4) ⊕ (var 1 ⊕ var 5) ⊕ (var 2 ⊕ var 6) ⊕ (var 3 ⊕ var 7)) tt

-- sixteen numbers, by rows and by columns
transposed : (f : ℕ → ℕ → ℤ) → over_taps (λ i. over_taps (λ j. f i j)) ≡ over_taps (λ j. over_taps (λ i. f i j))
transposed f =
    ap (λ x. x +ℤ over_taps (f 2) +ℤ over_taps (f 3)) (added (f 0 0) (f 0 1) (f 0 2) (f 0 3) (f 1 0) (f 1 1) (f 1 2) (f 1 3))
    ∙ ap (λ x. x +ℤ over_taps (f 3)) (added (two 0) (two 1) (two 2) (two 3) (f 2 0) (f 2 1) (f 2 2) (f 2 3))
    ∙ added (two 0 +ℤ f 2 0) (two 1 +ℤ f 2 1) (two 2 +ℤ f 2 2) (two 3 +ℤ f 2 3) (f 3 0) (f 3 1) (f 3 2) (f 3 3)
  where
    two : ℕ → ℤ
    two j = f 0 j +ℤ f 1 j

-- a weight goes into a sum, and comes out of it
spread : (m : ℤ) (n x : ℕ → ℤ) → m *ℤ over_taps (λ j. n j *ℤ x j) ≡ over_taps (λ j. n j *ℤ (m *ℤ x j))
spread m n x =
    solve (m ∷ n 0 ∷ n 1 ∷ n 2 ∷ n 3 ∷ x 0 ∷ x 1 ∷ x 2 ∷ x 3 ∷ [])
    (var 0 ⊗ (var 1 ⊗ var 5 ⊕ var 2 ⊗ var 6 ⊕ var 3 ⊗ var 7 ⊕ var 4 ⊗ var 8))
    (var 1 ⊗ (var 0 ⊗ var 5) ⊕ var 2 ⊗ (var 0 ⊗ var 6) ⊕ var 3 ⊗ (var 0 ⊗ var 7) ⊕ var 4 ⊗ (var 0 ⊗ var 8)) tt

gathered : (n : ℤ) (x : ℕ → ℤ) → over_taps (λ i. n *ℤ x i) ≡ n *ℤ over_taps x
gathered n x =
    solve (n ∷ x 0 ∷ x 1 ∷ x 2 ∷ x 3 ∷ [])
    (var 0 ⊗ var 1 ⊕ var 0 ⊗ var 2 ⊕ var 0 ⊗ var 3 ⊕ var 0 ⊗ var 4) (var 0 ⊗ (var 1 ⊕ var 2 ⊕ var 3 ⊕ var 4)) tt

-- so the sum of sums by columns is that by rows
pub exchanged : (m n : ℕ → ℤ) (x : ℕ → ℕ → ℤ) → over_taps (λ i. m i *ℤ over_taps (λ j. n j *ℤ x j i)) ≡ over_taps (λ j. n j *ℤ over_taps (λ i. m i *ℤ x j i))
exchanged m n x =
    taps (λ i. spread (m i) n (λ j. x j i))
    ∙ transposed (λ i j. n j *ℤ (m i *ℤ x j i))
    ∙ taps (λ j. gathered (n j) (λ i. m i *ℤ x j i))
  where
    taps : {f g : ℕ → ℤ} → ((i : ℕ) → f i ≡ g i) → over_taps f ≡ over_taps g
    taps h = λ k. h 0 k +ℤ h 1 k +ℤ h 2 k +ℤ h 3 k
