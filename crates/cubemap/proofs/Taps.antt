-- The places that taps read. A tap inside the face reads its own place, and every tap reads a place; what happens at the rim, only this module knows.
use mathlib.Core.Path.{◌≡◌, refl, sym, ap₂, subst}
use mathlib.Core.Bool.{true}
use Prim.Native.Nat.{ℕ, ◌≤◌, ◌<◌}
use native.Mathlib.Omega.{arith}
use lib.Dec.{T, ltb→lt}
use lib.IntN.{ℤ, pos, negsuc}
use lib.Signed.{lt_z}
use Rattle.cubemap.specs.Frames.{place, IsPlace}
use Rattle.cubemap.specs.Samplers.{clip, tap_place}

-- ---- clipped to 0..n−1, for a face size or for a depth

pub clip-below : (n : ℕ) (z : ℤ) → 1 ≤ n → clip n z < n
clip-below n (pos m) h = omega arith
clip-below n (negsuc m) h = h

pub clip-inside : (n m : ℕ) → m < n → clip n (pos m) ≡ m
clip-inside n m h = omega arith

pub clip-negative : (n : ℕ) (z : ℤ) → lt_z z (pos 0) ≡ true → clip n z ≡ 0
clip-negative n (pos m) e = let h = ltb→lt m 0 (subst T (sym e) tt) in absurd (omega arith)
clip-negative n (negsuc m) e = refl

-- ---- the place of a tap

pub tap_place-clips : (A f : ℕ) (column row : ℤ) → place f (clip A column) (clip A row) ≡ tap_place A f column row
unfolding tap_place
tap_place-clips A f column row = refl

pub tap_place-ok : (A f : ℕ) (column row : ℤ) → 1 ≤ A → f < 6 → IsPlace A (tap_place A f column row)
unfolding tap_place
tap_place-ok A f column row h l = record { face-ok = l; column-ok = clip-below A column h; row_ok = clip-below A row h }

pub tap_place-inside : (A f m n : ℕ) → m < A → n < A → tap_place A f (pos m) (pos n) ≡ place f m n
unfolding tap_place
tap_place-inside A f m n p q = ap₂ (λ x y. place f x y) (clip-inside A m p) (clip-inside A n q)
