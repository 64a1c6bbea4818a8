-- Sums of sixteen samples by the weights of their rows and columns: equal samples, samples in another order, and rows that are packed.
use mathlib.Core.Path.{◌≡◌}
use mathlib.Core.List.{[], ◌∷◌}
use Prim.Native.Nat.{ℕ, zero, suc, ◌-◌, ◌<◌}
use native.Mathlib.Omega.{arith}
use lib.IntN.{ℤ, pos, ◌*ℤ◌}
use Rattle.arithmetic.proofs.Ring.{var, ◌⊕◌, solve}
use Rattle.taps.specs.TapWeights.{TapWeights, reversed, weighed, row_sum, grid_sum}
use Rattle.taps.specs.Fields.{sample_in, Packed, Packed12}
use Rattle.taps.proofs.Exchange.{exchanged}

-- ---- equal samples

row-cong : (u : TapWeights) (f g : ℕ → ℕ) → ((i : ℕ) → i < 4 → f i ≡ g i) → row_sum u f ≡ row_sum u g
row-cong u f g h = λ k. weighed u (pos (h 0 (omega arith) k)) (pos (h 1 (omega arith) k)) (pos (h 2 (omega arith) k)) (pos (h 3 (omega arith) k))

pub grid-cong : (w u : TapWeights) (f g : ℕ → ℕ → ℕ) → ((i j : ℕ) → i < 4 → j < 4 → f j i ≡ g j i)
    → grid_sum w u f ≡ grid_sum w u g
grid-cong w u f g h =
    let row : (j : ℕ) → j < 4 → row_sum u (f j) ≡ row_sum u (g j) = λ j l. row-cong u (f j) (g j) (λ i k. h i j k l) in
    λ k. weighed w (row 0 (omega arith) k) (row 1 (omega arith) k) (row 2 (omega arith) k) (row 3 (omega arith) k)

-- ---- another order

-- four samples from the last to the first, by the weights in that order
row-reversed : (u : TapWeights) (s : ℕ → ℕ) → row_sum (reversed u) (λ i. s (3 - i)) ≡ row_sum u s
row-reversed u s =
    solve ((u.w0 *ℤ pos (s 0)) ∷ (u.w1 *ℤ pos (s 1)) ∷ (u.w2 *ℤ pos (s 2)) ∷ (u.w3 *ℤ pos (s 3)) ∷ [])
    (var 3 ⊕ var 2 ⊕ var 1 ⊕ var 0) (var 0 ⊕ var 1 ⊕ var 2 ⊕ var 3) tt

pub grid-reversed : (w u : TapWeights) (s : ℕ → ℕ → ℕ) → grid_sum w (reversed u) (λ j i. s j (3 - i)) ≡ grid_sum w u s
grid-reversed w u s = λ k. weighed w (row-reversed u (s 0) k) (row-reversed u (s 1) k) (row-reversed u (s 2) k) (row-reversed u (s 3) k)

-- columns and rows exchanged
pub grid-exchanged : (w u : TapWeights) (s : ℕ → ℕ → ℕ) → grid_sum u w (λ i j. s j i) ≡ grid_sum w u s
grid-exchanged w u s = exchanged (weights u) (weights w) (λ j i. pos (s j i))
  where
    weights : TapWeights → ℕ → ℤ
    weights w zero = w.w0
    weights w (suc zero) = w.w1
    weights w (suc (suc zero)) = w.w2
    weights w (suc (suc (suc i))) = w.w3

-- ---- four samples in one number

row-packed : (u : TapWeights) {x : ℕ} {s : ℕ → ℕ} → Packed x s → row_sum u (sample_in x) ≡ row_sum u s
row-packed u p = λ k. weighed u (pos (p.first k)) (pos (p.second k)) (pos (p.third k)) (pos (p.fourth k))

pub packed-grid : (w u : TapWeights) {a b c d : ℕ} (s : ℕ → ℕ → ℕ) → Packed a (s 0) → Packed b (s 1) → Packed c (s 2)
    → Packed d (s 3)
    → weighed w (row_sum u (sample_in a)) (row_sum u (sample_in b)) (row_sum u (sample_in c)) (row_sum u (sample_in d)) ≡ grid_sum w u s
packed-grid w u s p q r t = λ k. weighed w (row-packed u p k) (row-packed u q k) (row-packed u r k) (row-packed u t k)

pub packed-12 : {x : ℕ} {s : ℕ → ℕ} → Packed x s → ((i : ℕ) → i < 4 → s i < 4096) → Packed12 x
packed-12 p h = record {
  first-ok = omega (arith, p.first, h 0 (omega arith));
  second-ok = omega (arith, p.second, h 1 (omega arith));
  third-ok = omega (arith, p.third, h 2 (omega arith));
  fourth-ok = omega (arith, p.fourth, h 3 (omega arith));
}
