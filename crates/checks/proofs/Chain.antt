-- Checks that are asked one after the other come to the answer of the first that fails, and what the answers say.
use mathlib.Core.Path.{◌≡◌, refl, sym, ◌∙◌, ap, ap₂, subst}
use mathlib.Core.Bool.{Bool, true, false, not, cond}
use mathlib.Core.List.{List, [], ◌∷◌, ◌++◌}
use Prim.Native.Nat.{ℕ, ◌≤◌, ◌<◌}
use native.Mathlib.Omega.{arith}
use lib.Dec.{T, eqb}
use lib.ListN.{length}
use borrow.Author.Tests.{eq-eqb, ne_eqb}
use Rattle.std.specs.Prelude.{Result as Returned, Ok, Err}
use Rattle.arithmetic.proofs.Tests.{and_left, and_right, and_both}
use Rattle.arithmetic.proofs.Searches.{Asked, lowest-here, lowest-none}
use Rattle.cubemap.specs.declared.Refusal.{Refusal}
use Rattle.cubemap.specs.declared.Shape.{Shape}
use Rattle.cubemap.specs.Interface.{Answer, answer, accepted, is_accepted}
use Rattle.cubemap.specs.Frames.{samples_in}
use Rattle.cubemap.specs.Checks.{Check, first_failed, size_ok, depth_ok, length_ok, sample_ok, lowest_beyond}
use Rattle.cubemap.specs.Outcomes.{refusal, converted_means}
use Rattle.cubemap.proofs.Answers.{not-accepted}
use Rattle.cubemap.proofs.Framed.{length-is, beyond-search, samples-by-lowest}
use Rattle.cubemap.proofs.Passed.{AllHold, all_hold, numbered, numbered-append, first_failed-append, size-range}
use Rattle.checks.specs.Asking.{asked_after, Readable, searched}

-- ---- one after the other

-- one check more: it decides where none before it did
abbrev pub decided : Answer → Bool → Answer → Answer
decided so_far holds refused = cond (is_accepted so_far) (cond holds accepted refused) so_far

-- the checks in front have come to the answer a, and the rest is still to be asked
pub record Asking (front rest : List Check) (a : Answer) : Type 0 where
  pub answered : a ≡ first_failed front
  pub numbers : T (numbered front)
  pub left : T (numbered rest)

pub start : (cs : List Check) → T (numbered cs) → Asking [] cs accepted
unfolding first_failed
start cs n = record { answered = refl; numbers = tt; left = n }

-- the next one, whose test gave b
pub next : {front rest : List Check} {c : Check} {a r : Answer} {b : Bool} → Asking front (c ∷ rest) a → b ≡ c.holds
    → r ≡ decided a b (answer c.number c.index) → Asking (front ++ (c ∷ [])) rest r
unfolding first_failed
next {front} {rest} {c} h t e = record {
  answered = e ∙ ap₂ (λ a b. decided a b (answer c.number c.index)) h.answered t
      ∙ sym (first_failed-append front (c ∷ []) h.numbers);
  numbers = numbered-append front (c ∷ []) h.numbers (and_both nonzero true (and_left nonzero (numbered rest) h.left) tt);
  left = and_right nonzero (numbered rest) h.left;
}
  where
    nonzero : Bool
    nonzero = not (eqb c.number 0)

-- those in front hold where none of them ended the call
pub all_asked : {front rest : List Check} {a : Answer} → Asking front rest a → T (is_accepted a) → AllHold front
all_asked {front} h t = all_hold front h.numbers (subst (λ a. T (is_accepted a)) h.answered t)

-- a call whose checks are all asked comes to the answer of the first that fails
pub all_answered : {cs : List Check} {a : Answer} → Asking cs [] a → a ≡ first_failed cs
all_answered h = h.answered

-- a "no" ends the call: the rest does not change it
pub ended : {front rest : List Check} {a : Answer} → Asking front rest a → is_accepted a ≡ false
    → a ≡ first_failed (front ++ rest)
ended {front} {rest} {a} h e =
    sym (ap (λ t. cond t (first_failed rest) a) e) ∙ ap (λ a. cond (is_accepted a) (first_failed rest) a) h.answered
    ∙ sym (first_failed-append front rest h.numbers)

-- ---- in code: `ask`, and the `?` behind it

-- the first "no" decides
asked-means : (x : Returned Unit Refusal) (b : Bool) (q : Refusal)
    → converted_means (asked_after x b q) ≡ decided (converted_means x) b (refusal q)
asked-means (Ok done) true q = refl
asked-means (Ok done) false q = refl
asked-means (Err earlier) b q =
    sym (ap (λ t. cond t (cond b accepted (refusal q)) (refusal earlier)) (not-accepted earlier))

-- the next question, whose test gave b and whose "no" is q
pub next-asked : {front rest : List Check} {c : Check} {b : Bool} (x : Returned Unit Refusal) (q : Refusal)
    → Asking front (c ∷ rest) (converted_means x) → b ≡ c.holds → refusal q ≡ answer c.number c.index
    → Asking (front ++ (c ∷ [])) rest (converted_means (asked_after x b q))
next-asked {b = b} x q h t e =
    next h t (asked-means x b q ∙ ap (λ r. decided (converted_means x) b r) e)

-- behind a "no" of one question the call ends with it
pub ended-refused : {front rest : List Check} (q : Refusal) → Asking front rest (refusal q)
    → refusal q ≡ first_failed (front ++ rest)
ended-refused q h = ended h (not-accepted q)

-- ---- what a "yes" says

-- the test is passed, and the value is the one that it gives
pub yes : {X : Type 0} (b : Bool) (x : X) {y : X} (q : Refusal) → Ok y ≡ cond b (Ok x) (Err q) → T b × (y ≡ x)
yes true x q e = (tt, cc)
yes false x q e = absurd (cc)

-- the samples of a frame that has passed three of its questions can be looked at
pub readable : {z : Shape} {bytes : List ℕ} → T (size_ok z.size) → T (depth_ok z.depth) → T (length_ok z (length bytes)) → Readable z bytes
readable s d l = record { size-most = (size-range _ s).at_most; depth-ok = d; whole = length-is _ _ l }

-- ---- a search that has passed the samples below i

module _ (z : Shape) (bytes : List ℕ) {i : ℕ} (a : Asked (λ k. not (sample_ok z bytes k)) false (samples_in z) i) where
  found : (b : Bool) (k : ℕ) → lowest_beyond z bytes ≡ k → eqb k (samples_in z) ≡ b → cond b (Ok tt) (Err k) ≡ searched z bytes
  found b k e d = sym (ap₂ (λ b k. cond b (Ok tt) (Err k)) (sym (samples-by-lowest z bytes) ∙ (λ j. eqb (e j) (samples_in z)) ∙ d) e)

  -- the next one is beyond the depth
  pub found-here : i < samples_in z → not (sample_ok z bytes i) ≡ true → Err i ≡ searched z bytes
  found-here h e = found false i (beyond-search z bytes ∙ lowest-here a h e) (ne_eqb i (samples_in z) (λ d. omega arith))

  -- there is no next one
  pub found-none : samples_in z ≤ i → Ok tt ≡ searched z bytes
  found-none h = found true (samples_in z) (beyond-search z bytes ∙ lowest-none a h) (eq-eqb (samples_in z) (samples_in z) (λ _. samples_in z))
