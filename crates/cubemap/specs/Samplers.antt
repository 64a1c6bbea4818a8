-- The paper, "Samplers".
use Rattle.std.specs.Prelude.{cond, ℕ, zero, suc, ◌-◌, ◌^◌, min, eqb, ℤ, pos, negsuc, neg_ℤ, ◌+ℤ◌, ◌-ℤ◌, ◌*ℤ◌}
use Rattle.arithmetic.specs.Integers.{floor_div, natural}
use Rattle.cubemap.specs.declared.Located.{Located}
use Rattle.cubemap.specs.declared.Place.{Place}
use Rattle.cubemap.specs.declared.Sampler.{Sampler}
use Rattle.cubemap.specs.Frames.{place}
use Rattle.cubemap.specs.RayToPlace.{round_half_up}

-- ---- nearest

-- "column floor((T+32)/64), A becoming A−1": of a column or a row. (T is at least −32, so the column is not negative.)
unfoldable pub nearest_column : ℕ → ℤ → ℕ
nearest_column A t = let c = natural (floor_div (t +ℤ pos 32) 64) in cond (eqb c A) (A - 1) c

unfoldable pub nearest_place : ℕ → Located → Place
nearest_place A p = place p.face (nearest_column A p.column) (nearest_column A p.row)

-- ---- cubic

-- "base floor(T/64)": "Division below zero rounds down: T = −32 has base −1 and phase 32."
unfoldable pub base : ℤ → ℤ
base t = floor_div t 64

-- "phase k = T − 64·base"
unfoldable pub phase : ℤ → ℤ
phase t = t -ℤ pos 64 *ℤ base t

-- "taps at base−1 to base+2": taps 0 to 3
abbrev pub tap_at : ℤ → ℕ → ℤ
tap_at t j = base t +ℤ pos j -ℤ pos 1

-- clipped to 0..n−1
abbrev pub clip : ℕ → ℤ → ℕ
clip n (pos z) = min z (n - 1)
clip n (negsuc z) = 0

-- the place that a tap at this column and row of a face reads: "each clipped to 0..A−1"
unfoldable pub tap_place : ℕ → ℕ → ℤ → ℤ → Place
tap_place A face column row = place face (clip A column) (clip A row)

-- "Tap weights for phase k", of taps 0 to 3
unfoldable pub tap_weight : ℕ → ℤ → ℤ
tap_weight zero k = neg_ℤ (k *ℤ k *ℤ k) +ℤ pos 128 *ℤ (k *ℤ k) -ℤ pos 4096 *ℤ k
tap_weight (suc zero) k = pos 3 *ℤ (k *ℤ k *ℤ k) -ℤ pos 320 *ℤ (k *ℤ k) +ℤ pos 524288
tap_weight (suc (suc zero)) k = neg_ℤ (pos 3 *ℤ (k *ℤ k *ℤ k)) +ℤ pos 256 *ℤ (k *ℤ k) +ℤ pos 4096 *ℤ k
tap_weight (suc (suc (suc j))) k = k *ℤ k *ℤ k -ℤ pos 64 *ℤ (k *ℤ k)

abbrev pub over_taps : (ℕ → ℤ) → ℤ
over_taps f = f 0 +ℤ f 1 +ℤ f 2 +ℤ f 3

-- "the sum over 16 taps of row weight × column weight × sample"
unfoldable pub cubic_sum : ℕ → (Place → ℕ) → Located → ℤ
cubic_sum A sample p = over_taps (λ j. over_taps (λ i.
    tap_weight j (phase p.row) *ℤ tap_weight i (phase p.column)
    *ℤ pos (sample (tap_place A p.face (tap_at p.column i) (tap_at p.row j)))))

-- "divided by 2^38, nearest, halves upward"
unfoldable pub rounded : ℤ → ℤ
rounded sum = round_half_up sum (2 ^ 38)

-- "then clipped to 0..2^D−1"
abbrev pub clipped_to : ℕ → ℤ → ℕ
clipped_to D z = clip (2 ^ D) z

-- ---- a sampler's value at a position: face size, depth, and the sample at each place
unfoldable pub sample_from : Sampler → ℕ → ℕ → (Place → ℕ) → Located → ℕ
sample_from Sampler.Nearest A D sample p = sample (nearest_place A p)
sample_from Sampler.Cubic A D sample p = clipped_to D (rounded (cubic_sum A sample p))
