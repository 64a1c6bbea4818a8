-- The numbers a and b of columns and rows, in both formats: opposite columns have opposite numbers, none reaches the scale, and they rise.
use mathlib.Core.Path.{◌≡◌, ◌∙◌, ap}
use Prim.Native.Nat.{ℕ, suc, ◌+◌, ◌*◌, ◌-◌, ◌≤◌, ◌<◌}
use native.Mathlib.Omega.{arith}
use lib.Dec.{leb→le}
use lib.IntN.{ℤ, pos, negsuc, neg_ℤ, nat_abs, ◌-ℤ◌}
use lib.Signed.{◌≤ℤ◌}
use Rattle.arithmetic.specs.Integers.{with_sign_of}
use Rattle.arithmetic.proofs.Sizes.{Difference, below, above, difference-cases, difference-neg, sign-size, sign-neg}
use Rattle.arithmetic.proofs.Order.{difference-le, natural-le, opposite-le, opposite-below}
use Rattle.cubemap.specs.declared.Format.{Format}
use Rattle.cubemap.specs.PlaceToRay.{N, from_centre, curve, scale, face_coordinate}
use Rattle.cubemap.proofs.Curves.{curve-below, curve-zero, curve-rises}

-- ---- p of a column

pub from_centre-mirror : (A m : ℕ) → m < A → from_centre A (A - suc m) ≡ neg_ℤ (from_centre A m)
from_centre-mirror A m h = difference-neg (2 * (A - suc m) + 1) A (2 * m + 1) A (omega arith)

pub from_centre-inside : (A m : ℕ) → m < A → nat_abs (from_centre A m) < A
from_centre-inside A m h = go (difference-cases (2 * m + 1) A)
  where
    go : Difference (2 * m + 1) A → nat_abs (pos (2 * m + 1) -ℤ pos A) < A
    go (below q e) = rw e (omega arith)
    go (above q e) = rw e (omega arith)

-- left of the middle, and in it
pub from_centre-left : (A m r : ℕ) → 2 * m + 1 + r ≡ A → nat_abs (from_centre A m) ≡ r
from_centre-left A m r h = go (difference-cases (2 * m + 1) A)
  where
    go : Difference (2 * m + 1) A → nat_abs (pos (2 * m + 1) -ℤ pos A) ≡ r
    go (below q e) = rw e (omega arith)
    go (above q e) = rw e (omega arith)

-- ---- the scale

pub scale-positive : (format : Format) (A : ℕ) → 0 < A → 0 < scale format A
scale-positive Format.Cmp A h = h
scale-positive Format.Acp A h = omega arith

pub scale-bounded : (format : Format) (A : ℕ) → A ≤ 512 → scale format A ≤ N
scale-bounded Format.Cmp A h = omega arith
scale-bounded Format.Acp A h = omega arith

-- ---- the numbers of a format at a face size

pub record Coordinates (format : Format) (A : ℕ) : Type 0 where
  pub mirror : (m : ℕ) → m < A → face_coordinate format A (A - suc m) ≡ neg_ℤ (face_coordinate format A m)
  pub inside : (m : ℕ) → m < A → nat_abs (face_coordinate format A m) < scale format A
  pub rises : (m n : ℕ) → m ≤ n → face_coordinate format A m ≤ℤ face_coordinate format A n

acp-size : (A m : ℕ) → nat_abs (face_coordinate Format.Acp A m) ≡ curve A (nat_abs (from_centre A m))
acp-size A m = sign-size (from_centre A m) (curve A (nat_abs (from_centre A m)))

acp-inside : (A m : ℕ) → m < A → nat_abs (face_coordinate Format.Acp A m) < N
acp-inside A m h = rw (acp-size A m) (curve-below A (nat_abs (from_centre A m)) (from_centre-inside A m h))

acp-mirror : (A m : ℕ) → m < A → face_coordinate Format.Acp A (A - suc m) ≡ neg_ℤ (face_coordinate Format.Acp A m)
acp-mirror A m h =
    ap (λ p. with_sign_of p (curve A (nat_abs p))) (from_centre-mirror A m h)
    ∙ sign-neg (curve A) (curve-zero A (omega arith)) (from_centre A m)

-- the curve with the sign of its number rises, below zero and above
bent-along : (A : ℕ) (x y : ℤ) → x ≤ℤ y → with_sign_of x (curve A (nat_abs x)) ≤ℤ with_sign_of y (curve A (nat_abs y))
bent-along A (pos a) (pos b) h = natural-le (curve A a) (curve A b) (curve-rises A a b (leb→le a b h.le))
bent-along A (pos a) (negsuc b) h = absurd h.le
bent-along A (negsuc a) (pos b) h = opposite-below (curve A (suc a)) (curve A b)
bent-along A (negsuc a) (negsuc b) h =
    let l = leb→le b a h.le in
    opposite-le (curve A (suc a)) (curve A (suc b)) (curve-rises A (suc b) (suc a) (omega arith))

from_centre-rises : (A m n : ℕ) → m ≤ n → from_centre A m ≤ℤ from_centre A n
from_centre-rises A m n h = difference-le (2 * m + 1) (2 * n + 1) A (omega arith)

pub coordinates : (format : Format) (A : ℕ) → Coordinates format A
coordinates Format.Cmp A = record { mirror = from_centre-mirror A; inside = from_centre-inside A; rises = from_centre-rises A }
coordinates Format.Acp A = record {
  mirror = acp-mirror A;
  inside = acp-inside A;
  rises = λ m n h. bent-along A (from_centre A m) (from_centre A n) (from_centre-rises A m n h);
}
