-- The nearest column to a position, and the nearest place.
use mathlib.Core.Path.{◌≡◌, refl, sym, ◌∙◌, ap, subst, subst₂}
use mathlib.Core.Logic.{◌≢◌, ◌⊎◌, inl, inr}
use mathlib.Core.List.{[], ◌∷◌}
use mathlib.Core.Bool.{cond}
use Prim.Native.Nat.{ℕ, suc, ◌+◌, ◌*◌, ◌-◌, ◌/◌, ◌≤◌, ◌<◌}
use native.Mathlib.Omega.{arith}
use lib.Dec.{eqb, eqb→eq}
use borrow.Author.Tests.{eq-eqb}
use lib.IntN.{ℤ, pos, ◌+ℤ◌, ◌-ℤ◌, -ℤ-+ℤ_cancel}
use lib.Signed.{◌≤ℤ◌, ◌<ℤ◌}
use Rattle.arithmetic.specs.Integers.{floor_div, natural}
use Rattle.arithmetic.proofs.Tests.{passes, cond-false, cond_both}
use Rattle.arithmetic.proofs.Ring.{var, con, ◌⊕◌, ◌⊝◌, solve}
use Rattle.arithmetic.proofs.Order.{difference-le, difference-lt}
use Rattle.cubemap.specs.declared.Located.{Located}
use Rattle.cubemap.specs.Frames.{place, IsPlace}
use Rattle.cubemap.specs.Samplers.{nearest_column, nearest_place}
use Rattle.cubemap.proofs.Positions.{InRange, in-range-shifted}
use Rattle.cubemap.proofs.Locate.{OnFace}

-- the column c is the nearest to t: 64·c − 32 ≤ t < 64·c + 32, or t is at the far rim of the last column
pub record NearestTo (A : ℕ) (t : ℤ) (c : ℕ) : Type 0 where
  pub column-ok : c < A
  pub low : (pos (64 * c) -ℤ pos 32) ≤ℤ t
  pub high : (t <ℤ (pos (64 * c) +ℤ pos 32)) ⊎ ((suc c ≡ A) × (t ≡ pos (64 * c) +ℤ pos 32))

-- nearest_column, of t = q − 32
pub nearest-shifted : (A q : ℕ) (t : ℤ) → t ≡ pos q -ℤ pos 32 → nearest_column A t ≡ cond (eqb (q / 64) A) (A - 1) (q / 64)
unfolding nearest_column
nearest-shifted A q t e =
    ap (λ z. cond (eqb (natural (floor_div z 64)) A) (A - 1) (natural (floor_div z 64))) (ap (λ z. z +ℤ pos 32) e ∙ -ℤ-+ℤ_cancel (pos q) (pos 32))

-- it is a column of the face, for every T + 32 below 64·A + 64
pub nearest-below : (A q : ℕ) → 1 ≤ A → q < 64 * A + 64 → cond (eqb (q / 64) A) (A - 1) (q / 64) < A
nearest-below A q h b = cond_both (λ c. c < A) (eqb (q / 64) A) (A - 1) (q / 64)
    (λ t. omega arith)
    (λ f. inner (λ e. f (passes (eq-eqb (q / 64) A e))))
  where
    inner : q / 64 ≢ A → q / 64 < A
    inner n = omega arith

-- and what it is nearest to
shifted-nearest : (A q : ℕ) → 1 ≤ A → q ≤ 64 * A → NearestTo A (pos q -ℤ pos 32) (cond (eqb (q / 64) A) (A - 1) (q / 64))
shifted-nearest A q h b = cond_both (NearestTo A (pos q -ℤ pos 32)) (eqb (q / 64) A) (A - 1) (q / 64)
    (λ t. last (eqb→eq (q / 64) A t))
    (λ f. inner (λ e. f (passes (eq-eqb (q / 64) A e))))
  where
    rim : (c : ℕ) → pos (64 * c + 64) -ℤ pos 32 ≡ pos (64 * c) +ℤ pos 32
    rim c = solve (pos (64 * c) ∷ []) (var 0 ⊕ con (pos 64) ⊝ con (pos 32)) (var 0 ⊕ con (pos 32)) tt

    last : q / 64 ≡ A → NearestTo A (pos q -ℤ pos 32) (A - 1)
    last e = record {
      column-ok = omega arith;
      low = difference-le (64 * (A - 1)) q 32 (omega arith);
      high = inr (omega arith, ap (λ m. pos m -ℤ pos 32) end ∙ rim (A - 1));
    }
      where
        end : q ≡ 64 * (A - 1) + 64
        end = omega arith

    inner : q / 64 ≢ A → NearestTo A (pos q -ℤ pos 32) (q / 64)
    inner n = record {
      column-ok = omega arith;
      low = difference-le (64 * (q / 64)) q 32 (omega arith);
      high = inl (subst (λ z. (pos q -ℤ pos 32) <ℤ z) (rim (q / 64)) (difference-lt q (64 * (q / 64) + 64) 32 (omega arith)));
    }

pub nearest-is : (A : ℕ) (t : ℤ) → 1 ≤ A → InRange A t → NearestTo A t (nearest_column A t)
nearest-is A t h g =
    let w = in-range-shifted A t g in
    subst₂ (NearestTo A) (sym w.is) (sym (nearest-shifted A w.shift t w.is)) (shifted-nearest A w.shift h w.bounded)

pub nearest_place-columns : (A : ℕ) (p : Located) → place p.face (nearest_column A p.column) (nearest_column A p.row) ≡ nearest_place A p
unfolding nearest_place
nearest_place-columns A p = refl

pub nearest_place-ok : (A : ℕ) (p : Located) → 1 ≤ A → OnFace A p → IsPlace A (nearest_place A p)
unfolding nearest_place
nearest_place-ok A p h g = record {
  face-ok = g.face-ok;
  column-ok = (nearest-is A p.column h g.column-ok).column-ok;
  row_ok = (nearest-is A p.row h g.row_ok).column-ok;
}

-- the middle of a column is nearest to it
pub nearest-own : (A m : ℕ) → m < A → nearest_column A (pos (64 * m)) ≡ m
unfolding nearest_column
nearest-own A m h = rw (whole m) (cond-false {X = ℕ} (eqb m A) (A - 1) m (λ t. absurd (omega (arith, eqb→eq m A t))))
  where
    whole : (m : ℕ) → (64 * m + 32) / 64 ≡ m
    whole m = omega arith
