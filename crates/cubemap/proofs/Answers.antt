-- How an answer comes out of a C call: two's complement, numbers in a lent buffer, and what a call gives by its result.
use mathlib.Core.Path.{◌≡◌, refl, sym, ◌∙◌, ap, subst}
use mathlib.Core.Bool.{true, false}
use mathlib.Core.List.{List, [], ◌++◌}
use Prim.Native.Nat.{ℕ, ◌+◌, ◌*◌, ◌-◌, ◌^◌, ◌≤◌, ◌<◌}
use native.Mathlib.Omega.{arith}
use lib.Dec.{T, eqb, ltb→lt}
use lib.ListN.{length, take, drop}
use lib.IntN.{ℤ, pos, negsuc, nat_abs}
use lib.Signed.{lt_z}
use borrow.Author.Tests.{le-leb, lt-leb, ne_eqb}
use Rattle.arithmetic.proofs.Tests.{passes, fails}
use Rattle.cubemap.specs.declared.Refusal.{Refusal}
use Rattle.cubemap.specs.Interface.{Answer, accepted, is_accepted, return_code, little_endian, twos_complement, put_at, put_all}
use Rattle.cubemap.specs.Outcomes.{Result, result, Outcome, outcome, refusal, refused, written}
use Rattle.cubemap.specs.Checks.{between}
use Rattle.cubemap.specs.Promises.{Gives}
use Rattle.cubemap.proofs.Passed.{Between, between_is}

-- ---- two's complement

pub complement-below : (v : ℤ) → lt_z v (pos 0) ≡ true → twos_complement v ≡ 2 ^ 64 - nat_abs v
complement-below (pos n) e = absurd (omega (arith, ltb→lt n 0 (passes e)))
complement-below (negsuc n) e = refl

pub complement-above : (v : ℤ) → lt_z v (pos 0) ≡ false → twos_complement v ≡ nat_abs v
complement-above (pos n) e = refl
complement-above (negsuc n) e = absurd (fails e tt)

-- ---- one number in a buffer: where it fits whole, and where it does not

pub put_whole : (buffer : List ℕ) (k : ℕ) (v : ℤ) → 8 * k + 8 ≤ length buffer
    → put_at buffer k v ≡ take (8 * k) buffer ++ little_endian 8 (twos_complement v) ++ drop (8 * k + 8) buffer
unfolding put_at
put_whole buffer k v h = rw (le-leb (8 * k + 8) (length buffer) h)

pub put-short : (buffer : List ℕ) (k : ℕ) (v : ℤ) → length buffer < 8 * k + 8 → put_at buffer k v ≡ buffer
unfolding put_at
put-short buffer k v h = rw (lt-leb (8 * k + 8) (length buffer) h)

-- the bits of a number are written as the number is
pub put-bits : (buffer : List ℕ) (k : ℕ) (v : ℤ) → put_at buffer k (pos (twos_complement v)) ≡ put_at buffer k v
unfolding put_at
put-bits buffer k v = refl

-- ---- several numbers, one by one

pub put-none : (buffer : List ℕ) (k : ℕ) → put_all buffer k [] ≡ buffer
unfolding put_all
put-none buffer k = refl

-- ---- a refusal has the number of a question

numbered : (q : Refusal) → T (between 1 24 (refusal q).number)
numbered Refusal.FaceSize = tt
numbered Refusal.TargetSize = tt
numbered Refusal.Depth = tt
numbered Refusal.Code = tt
numbered Refusal.Layout = tt
numbered Refusal.RotationRange = tt
numbered Refusal.RotationZero = tt
numbered Refusal.FirstLength = tt
numbered Refusal.SecondLength = tt
numbered (Refusal.FirstSample i) = tt
numbered (Refusal.SecondSample i) = tt
numbered Refusal.FoldedRange = tt
numbered Refusal.RayRange = tt
numbered Refusal.RayZero = tt
numbered Refusal.RecordKind = tt
numbered Refusal.RecordCut = tt

pub refusal-number : (q : Refusal) → Between 1 24 (refusal q).number
refusal-number q = between_is 1 24 (refusal q).number (numbered q)

-- so it is no acceptance
pub not-accepted : (q : Refusal) → is_accepted (refusal q) ≡ false
not-accepted q = ne_eqb (refusal q).number 0 (λ e. omega (arith, (refusal-number q).at_least))

-- a call that returns 0 is accepted
pub returned-0 : (a : Answer) → return_code a ≡ 0 → T (is_accepted a)
returned-0 a e = subst (λ n. T (eqb n 0)) (number a.number a.index (sym e)) tt
  where
    number : (n i : ℕ) → 0 ≡ n + 256 * i → 0 ≡ n
    number n i h = omega arith

-- ---- what a call gives, by its result

module _ (r : Result) (buffer after : List ℕ) where
  -- accepted: 0 is returned, and the values are written
  pub gives-accepted : (vs : List ℤ) → result accepted vs ≡ r → after ≡ put_all buffer 0 vs → Gives (written r buffer) 0 after
  gives-accepted vs e h =
      record { returns = ap (λ r. return_code r.answered) e; holds = h ∙ ap (λ (r : Result). put_all buffer 0 r.values) e }

  -- refused: the number and the index are returned, and the buffer stays
  pub gives-refused : (which : Refusal) (code : ℕ) → refused which ≡ r → code ≡ return_code (refusal which) → after ≡ buffer
      → Gives (written r buffer) code after
  gives-refused which code e c h = record {
    returns = c ∙ ap (λ r. return_code r.answered) e;
    holds = h ∙ sym (put-none buffer 0) ∙ ap (λ (r : Result). put_all buffer 0 r.values) e;
  }

-- what a call answered, with the bytes that it left, gives the outcome that they make up
pub gives-outcome : {o : Outcome} {a : Answer} {code : ℕ} {bytes : List ℕ} → outcome a bytes ≡ o → code ≡ return_code a → Gives o code bytes
gives-outcome e r = record { returns = r ∙ ap (λ o. return_code o.answered) e; holds = ap (λ o. o.bytes) e }
