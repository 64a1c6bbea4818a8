-- The weights of four taps.
use Rattle.std.specs.Prelude.{◌≡◌, List, [], ℕ, ◌+◌, ◌≤◌, ◌<◌, ℤ, pos, neg_ℤ, nat_abs, ◌+ℤ◌, ◌*ℤ◌, get_or}
use Rattle.cubemap.specs.Samplers.{tap_weight, over_taps}

-- four weights, in the order of their taps
pub record TapWeights : Type 0 where
  pub w0 : ℤ
  pub w1 : ℤ
  pub w2 : ℤ
  pub w3 : ℤ

abbrev pub four : ℤ → ℤ → ℤ → ℤ → TapWeights
four a b c d = record { w0 = a; w1 = b; w2 = c; w3 = d }

-- the weights of the four taps at phase k
abbrev pub weights_of : ℤ → TapWeights
weights_of k = four (tap_weight 0 k) (tap_weight 1 k) (tap_weight 2 k) (tap_weight 3 k)

-- a table of the tap weights, phases 0 to 63: "The 256 weights stand as a table .. each phase adding to 524,288"
abbrev pub entry : List (List ℤ) → ℕ → ℕ → ℤ
entry table k i = get_or (get_or table k []) i (pos 0)

pub record IsWeights (table : List (List ℤ)) : Type 0 where
  pub polynomial : (k i : ℕ) → k < 64 → i < 4 → entry table k i ≡ tap_weight i (pos k)
  pub adds : (k : ℕ) → k < 64 → over_taps (entry table k) ≡ pos 524288
  pub small : (k i : ℕ) → k < 64 → i < 4 → nat_abs (entry table k i) ≤ 524288

-- four weights from the last to the first
abbrev pub reversed : TapWeights → TapWeights
reversed w = four w.w3 w.w2 w.w1 w.w0

-- weights that add up to 2^19, as those of every phase do: the outer ones are not above zero and at most 2^16 in all, the inner ones not below zero
pub record Balanced (w : TapWeights) : Type 0 where
  pub first : w.w0 ≡ neg_ℤ (pos (nat_abs w.w0))
  pub second : w.w1 ≡ pos (nat_abs w.w1)
  pub third : w.w2 ≡ pos (nat_abs w.w2)
  pub fourth : w.w3 ≡ neg_ℤ (pos (nat_abs w.w3))
  pub adds : nat_abs w.w1 + nat_abs w.w2 ≡ nat_abs w.w0 + nat_abs w.w3 + 524288
  pub outer-small : nat_abs w.w0 + nat_abs w.w3 ≤ 65536

-- sizes of balanced weights
pub record IsSizes (s0 s1 s2 s3 : ℕ) : Type 0 where
  pub adds : s1 + s2 ≡ s0 + s3 + 524288
  pub outer-small : s0 + s3 ≤ 65536

-- four numbers by their weights
abbrev pub weighed : TapWeights → ℤ → ℤ → ℤ → ℤ → ℤ
weighed w a b c d = w.w0 *ℤ a +ℤ w.w1 *ℤ b +ℤ w.w2 *ℤ c +ℤ w.w3 *ℤ d

-- a row of four samples by its weights, and four such rows by theirs
abbrev pub row_sum : TapWeights → (ℕ → ℕ) → ℤ
row_sum u s = weighed u (pos (s 0)) (pos (s 1)) (pos (s 2)) (pos (s 3))

abbrev pub grid_sum : TapWeights → TapWeights → (ℕ → ℕ → ℕ) → ℤ
grid_sum w u s = weighed w (row_sum u (s 0)) (row_sum u (s 1)) (row_sum u (s 2)) (row_sum u (s 3))
