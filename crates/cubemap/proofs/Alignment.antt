-- The error sum stays the same where both frames have columns and rows exchanged on some faces, and the columns in the
-- other order on some.
use mathlib.Core.Path.{◌≡◌, refl, sym, ◌∙◌, ap}
use mathlib.Core.Bool.{Bool, true, false, cond}
use Prim.Native.Nat.{ℕ, suc, ◌-◌, ◌<◌}
use native.Mathlib.Omega.{arith}
use Rattle.arithmetic.proofs.Tests.{passes, fails, cond-true, cond-false, cond_both}
use Rattle.cubemap.specs.declared.Format.{Format}
use Rattle.cubemap.specs.declared.Place.{Place}
use Rattle.cubemap.specs.Frames.{place, IsPlace}
use Rattle.cubemap.specs.Score.{error_sum}
use Rattle.cubemap.proofs.Places.{OneToOne}
use Rattle.cubemap.proofs.Weights.{Level}
use Rattle.cubemap.proofs.Scores.{error-moved}

-- ---- reflections of a face

-- a move within each face that leads back where it is made twice, and to a place of the same weight
record Reflection (A : ℕ) (to : Place → Place) : Type 0 where
  ok : (P : Place) → IsPlace A P → IsPlace A (to P)
  face : (P : Place) → (to P).face ≡ P.face
  twice : (P : Place) → IsPlace A P → to (to P) ≡ P
  level : (P : Place) → IsPlace A P → Level A P (to P)

-- column and row exchanged
abbrev pub exchange : Place → Place
exchange P = place P.face P.row P.column

exchange-reflects : (A : ℕ) → Reflection A exchange
exchange-reflects A = record {
  ok = λ P p. record { face-ok = p.face-ok; column-ok = p.row_ok; row_ok = p.column-ok };
  face = λ P. refl;
  twice = λ P p. refl;
  level = λ P p w s. s.swap P.column P.row;
}

-- the opposite column
abbrev pub opposite : ℕ → Place → Place
opposite A P = place P.face (A - suc P.column) P.row

pub opposite-twice : (A m : ℕ) → m < A → A - suc (A - suc m) ≡ m
opposite-twice A m h = omega arith

opposite-reflects : (A : ℕ) → Reflection A (opposite A)
opposite-reflects A = record {
  ok = λ P p. record { face-ok = p.face-ok; column-ok = omega (arith, p.column-ok); row_ok = p.row_ok };
  face = λ P. refl;
  twice = λ P p. ap (λ m. place P.face m P.row) (opposite-twice A P.column p.column-ok);
  level = λ P p w s. sym (s.mirror P.column P.row p.column-ok);
}

-- ---- on some faces

-- the place that is moved to, but on the faces that are kept
abbrev pub moved_on : (ℕ → Bool) → (Place → Place) → Place → Place
moved_on keep to P = cond (keep P.face) P (to P)

module _ (format : Format) (A : ℕ) (keep : ℕ → Bool) (to : Place → Place) (r : Reflection A to) where
  within : (P : Place) → IsPlace A P → IsPlace A (moved_on keep to P)
  within P p = cond_both (IsPlace A) (keep P.face) P (to P) (λ t. p) (λ t. r.ok P p)

  back : (P : Place) → IsPlace A P → moved_on keep to (moved_on keep to P) ≡ P
  back P p = go (keep P.face) refl
    where
      go : (b : Bool) → keep P.face ≡ b → moved_on keep to (cond b P (to P)) ≡ P
      go true e = cond-true (keep P.face) P (to P) (passes e)
      go false e = cond-false (keep (to P).face) (to P) (to (to P)) (fails (ap keep (r.face P) ∙ e)) ∙ r.twice P p

  moves : OneToOne A (moved_on keep to) (moved_on keep to)
  moves = record { to-ok = within; back-ok = within; back_to = back; to_back = back }

  levels : (P : Place) → IsPlace A P → Level A P (moved_on keep to P)
  levels P p = cond_both (Level A P) (keep P.face) P (to P) (λ t w s. refl) (λ t. r.level P p)

  -- where each frame has at P what it had at the place that P is moved to
  error-reflected : (first second first' second' : Place → ℕ)
      → ((P : Place) → IsPlace A P → first' P ≡ first (moved_on keep to P))
      → ((P : Place) → IsPlace A P → second' P ≡ second (moved_on keep to P))
      → error_sum format A first' second' ≡ error_sum format A first second
  error-reflected = error-moved format A (moved_on keep to) (moved_on keep to) moves levels

-- ---- both

-- the place with column and row exchanged, but on the faces that are kept
abbrev pub exchanged_on : (ℕ → Bool) → Place → Place
exchanged_on keep P = moved_on keep exchange P

-- the place in the opposite column, but on the faces that are kept
abbrev pub mirrored_on : ℕ → (ℕ → Bool) → Place → Place
mirrored_on A keep P = moved_on keep (opposite A) P

-- where each frame has at P what it had at the place to which both lead
pub error-aligned : (format : Format) (A : ℕ) (along ahead : ℕ → Bool) (first second first' second' : Place → ℕ)
    → ((P : Place) → IsPlace A P → first' P ≡ first (exchanged_on along (mirrored_on A ahead P)))
    → ((P : Place) → IsPlace A P → second' P ≡ second (exchanged_on along (mirrored_on A ahead P)))
    → error_sum format A first' second' ≡ error_sum format A first second
error-aligned format A along ahead first second first' second' e f =
    error-reflected format A ahead (opposite A) (opposite-reflects A) (between first) (between second)
    first' second' e f
    ∙ error-reflected format A along exchange (exchange-reflects A) first second (between first) (between second)
    (λ P p. refl) (λ P p. refl)
  where
    -- a frame's samples with columns and rows exchanged alone
    between : (Place → ℕ) → Place → ℕ
    between samples P = samples (exchanged_on along P)
