-- What an accepted call has passed: each list of checks inverted once, into a record with named fields.
use mathlib.Core.Path.{◌≡◌, refl}
use mathlib.Core.Bool.{Bool, true, false, ◌&&◌, not, cond}
use mathlib.Core.List.{List, [], ◌∷◌, ◌++◌}
use Prim.Native.Nat.{ℕ, ◌^◌, ◌≤◌}
use native.Mathlib.Nat.{pow-le-pow_right}
use native.Mathlib.Omega.{arith}
use lib.Dec.{T, eqb, leb, leb→le, T_not}
use lib.ListN.{length}
use Rattle.arithmetic.proofs.Tests.{and_left, and_right, and_both, All3, and3, all3, cond_both}
use Rattle.cubemap.specs.declared.Ray.{Ray}
use Rattle.cubemap.specs.declared.Rotation.{Rotation}
use Rattle.cubemap.specs.Interface.{answer, accepted, is_accepted}
use Rattle.cubemap.specs.Checks.{ConvertSettings, ScoreSettings, target_shape, Check, first_failed, between, size_ok, depth_ok, code_ok}
use Rattle.cubemap.specs.Checks.{layout_ok, rotation_in_range, rotation_nonzero, length_ok, samples_ok, ray_in_range, ray_nonzero}
use Rattle.cubemap.specs.Checks.{size_checks, setting_checks, length_checks, before_samples, convert_checks, score_checks, equal_checks, look_up_checks}
use Rattle.cubemap.specs.Outcomes.{convert_answer}

-- ---- lists of checks

infixr 4 ◌also◌
-- each of them holds
pub data AllHold : List Check → Type 0 where
  none : AllHold []
  ◌also◌ : {c : Check} {cs : List Check} → T c.holds → AllHold cs → AllHold (c ∷ cs)

-- no check has the number 0
abbrev pub numbered : List Check → Bool
numbered [] = true
numbered (c ∷ cs) = not (eqb c.number 0) && numbered cs

-- an accepted call has passed each check
pub all_hold : (cs : List Check) → T (numbered cs) → T (is_accepted (first_failed cs)) → AllHold cs
unfolding first_failed
all_hold [] n t = none
all_hold (c ∷ cs) n t = go c.holds t (λ u. all_hold cs (and_right (not (eqb c.number 0)) (numbered cs) n) u)
  where
    go : (b : Bool) → T (is_accepted (cond b (first_failed cs) (answer c.number c.index))) → (T (is_accepted (first_failed cs)) → AllHold cs)
        → AllHold (record { holds = b; number = c.number; index = c.index } ∷ cs)
    go true t ih = tt also ih t
    go false t ih = absurd (T_not (eqb c.number 0) (and_left (not (eqb c.number 0)) (numbered cs) n) t)

-- and a call that passes each check is accepted, with index 0
pub holding : (cs : List Check) → AllHold cs → first_failed cs ≡ accepted
unfolding first_failed
holding [] none = refl
holding (c ∷ cs) (t also h) = go c.holds t (holding cs h)
  where
    go : (b : Bool) → T b → first_failed cs ≡ accepted → cond b (first_failed cs) (answer c.number c.index) ≡ accepted
    go true t ih = ih
    go false t ih = absurd t

pub accepted-is : (cs : List Check) → T (numbered cs) → T (is_accepted (first_failed cs)) → first_failed cs ≡ accepted
accepted-is cs n t = holding cs (all_hold cs n t)

-- no check has a number above n
abbrev pub numbered_up_to : ℕ → List Check → Bool
numbered_up_to n [] = true
numbered_up_to n (c ∷ cs) = leb c.number n && numbered_up_to n cs

-- and then no call ends with one
pub failed-number : (n : ℕ) (cs : List Check) → T (numbered_up_to n cs) → (first_failed cs).number ≤ n
unfolding first_failed
failed-number n [] t = omega arith
failed-number n (c ∷ cs) t =
    let ih = failed-number n cs (and_right (leb c.number n) (numbered_up_to n cs) t) in
    cond_both (λ a. a.number ≤ n) c.holds (first_failed cs) (answer c.number c.index)
    (λ h. ih)
    (λ f. leb→le c.number n (and_left (leb c.number n) (numbered_up_to n cs) t))

-- checks in front of others: the first that fails of them, else that of the others
pub first_failed-append : (xs ys : List Check) → T (numbered xs)
    → first_failed (xs ++ ys) ≡ cond (is_accepted (first_failed xs)) (first_failed ys) (first_failed xs)
unfolding first_failed
first_failed-append [] ys n = refl
first_failed-append (c ∷ xs) ys n = go c.holds (first_failed-append xs ys (and_right (not (eqb c.number 0)) (numbered xs) n))
  where
    refused : (b : Bool) → T (not b) → answer c.number c.index ≡ cond b (first_failed ys) (answer c.number c.index)
    refused true m = absurd m
    refused false m = refl

    go : (b : Bool) → first_failed (xs ++ ys) ≡ cond (is_accepted (first_failed xs)) (first_failed ys) (first_failed xs)
        → cond b (first_failed (xs ++ ys)) (answer c.number c.index)
        ≡ cond (is_accepted (cond b (first_failed xs) (answer c.number c.index)))
        (first_failed ys) (cond b (first_failed xs) (answer c.number c.index))
    go true ih = ih
    go false ih = refused (eqb c.number 0) (and_left (not (eqb c.number 0)) (numbered xs) n)

pub numbered-append : (xs ys : List Check) → T (numbered xs) → T (numbered ys) → T (numbered (xs ++ ys))
numbered-append [] ys n m = m
numbered-append (c ∷ xs) ys n m =
    let first = not (eqb c.number 0) in
    and_both first (numbered (xs ++ ys)) (and_left first (numbered xs) n) (numbered-append xs ys (and_right first (numbered xs) n) m)

-- what the check of number n asks; nothing where there is none
abbrev pub asked_by : ℕ → List Check → Bool
asked_by n [] = true
asked_by n (c ∷ cs) = cond (eqb c.number n) c.holds (asked_by n cs)

-- and it holds where each one does: so what a call has passed is found by its number, wherever the check stands
pub held : (n : ℕ) (cs : List Check) → AllHold cs → T (asked_by n cs)
held n [] none = tt
held n (c ∷ cs) (t also h) = cond_both T (eqb c.number n) c.holds (asked_by n cs) (λ _. t) (λ _. held n cs h)

-- ---- a number between two others

pub record Between (low high x : ℕ) : Type 0 where
  pub at_least : low ≤ x
  pub at_most : x ≤ high

pub between_is : (low high x : ℕ) → T (between low high x) → Between low high x
between_is low high x t = record {
  at_least = leb→le low x (and_left (leb low x) (leb x high) t);
  at_most = leb→le x high (and_right (leb low x) (leb x high) t);
}

-- 1, 2
pub size-test : (A : ℕ) → size_ok A ≡ between 1 512 A
unfolding size_ok
size-test A = refl

pub size-range : (A : ℕ) → T (size_ok A) → Between 1 512 A
unfolding size_ok
size-range A t = between_is 1 512 A t

-- 3
pub depth-test : (D : ℕ) → depth_ok D ≡ between 8 12 D
unfolding depth_ok
depth-test D = refl

pub depth-range : (D : ℕ) → T (depth_ok D) → Between 8 12 D
unfolding depth_ok
depth-range D t = between_is 8 12 D t

pub depth-levels : (D : ℕ) → T (depth_ok D) → 2 ^ D ≤ 2 ^ 12
depth-levels D t = pow-le-pow_right (omega arith) (depth-range D t).at_most

-- 4
pub code-test : (c : ℕ) → code_ok c ≡ leb c 1
unfolding code_ok
code-test c = refl

-- ---- convert

pub record ConvertPassed (s : ConvertSettings) (source_length target_length : ℕ) (source : List ℕ) : Type 0 where
  pub source-size : T (size_ok s.source_shape.size)
  pub target-size : T (size_ok s.target_size)
  pub depth : T (depth_ok s.source_shape.depth)
  pub source-format : T (code_ok s.source_shape.format)
  pub target-format : T (code_ok s.target_format)
  pub sampler : T (code_ok s.sampler)
  pub source-layout : T (layout_ok s.source_layout)
  pub target-layout : T (layout_ok s.target_layout)
  pub rotation-in-range : T (rotation_in_range s.rotation)
  pub rotation-nonzero : T (rotation_nonzero s.rotation)
  pub source-length : T (length_ok s.source_shape source_length)
  pub target-length : T (length_ok (target_shape s) target_length)
  pub samples : T (samples_ok s.source_shape source)

pub convert-passed : (s : ConvertSettings) (n m : ℕ) (source : List ℕ) → T (is_accepted (convert_answer s n m source)) → ConvertPassed s n m source
unfolding convert_answer convert_checks before_samples size_checks setting_checks length_checks
convert-passed s n m source t = record {
  source-size = passed 1;
  target-size = passed 2;
  depth = passed 3;
  source-format = codes.first;
  target-format = codes.second;
  sampler = codes.third;
  source-layout = and_left (layout_ok s.source_layout) (layout_ok s.target_layout) (passed 5);
  target-layout = and_right (layout_ok s.source_layout) (layout_ok s.target_layout) (passed 5);
  rotation-in-range = passed 6;
  rotation-nonzero = passed 7;
  source-length = passed 8;
  target-length = passed 9;
  samples = passed 10;
}
  where
    passed : (k : ℕ) → T (asked_by k (convert_checks s n m source))
    passed k = held k (convert_checks s n m source) (all_hold (convert_checks s n m source) tt t)

    codes : All3 (code_ok s.source_shape.format) (code_ok s.target_format) (code_ok s.sampler)
    codes = and3 (code_ok s.source_shape.format) (code_ok s.target_format) (code_ok s.sampler) (passed 4)

-- and a call that has passed each check is accepted
pub convert-accepted : (s : ConvertSettings) (n m : ℕ) (source : List ℕ) → ConvertPassed s n m source → convert_answer s n m source ≡ accepted
unfolding convert_answer convert_checks before_samples size_checks setting_checks length_checks
convert-accepted s n m source p = holding (convert_checks s n m source)
    (p.source-size
    also p.target-size
    also p.depth
    also all3 (code_ok s.source_shape.format) (code_ok s.target_format) (code_ok s.sampler) p.source-format p.target-format p.sampler
    also and_both (layout_ok s.source_layout) (layout_ok s.target_layout) p.source-layout p.target-layout
    also p.rotation-in-range
    also p.rotation-nonzero
    also p.source-length
    also p.target-length
    also p.samples
    also none)

-- ---- score

pub record ScorePassed (s : ScoreSettings) (first second : List ℕ) : Type 0 where
  pub size : T (size_ok s.shape.size)
  pub depth : T (depth_ok s.shape.depth)
  pub format : T (code_ok s.shape.format)
  pub first-layout : T (layout_ok s.first_layout)
  pub second-layout : T (layout_ok s.second_layout)
  pub first-length : T (length_ok s.shape (length first))
  pub second-length : T (length_ok s.shape (length second))
  pub first-samples : T (samples_ok s.shape first)
  pub second-samples : T (samples_ok s.shape second)

pub score-passed : (s : ScoreSettings) (first second : List ℕ) → T (is_accepted (first_failed (score_checks s first second)))
    → ScorePassed s first second
unfolding score_checks
score-passed s first second t = record {
  size = passed 1;
  depth = passed 3;
  format = passed 4;
  first-layout = and_left (layout_ok s.first_layout) (layout_ok s.second_layout) (passed 5);
  second-layout = and_right (layout_ok s.first_layout) (layout_ok s.second_layout) (passed 5);
  first-length = passed 8;
  second-length = passed 9;
  first-samples = passed 10;
  second-samples = passed 11;
}
  where
    passed : (k : ℕ) → T (asked_by k (score_checks s first second))
    passed k = held k (score_checks s first second) (all_hold (score_checks s first second) tt t)

-- ---- fold and equality

pub record EqualPassed (a b : Rotation) : Type 0 where
  pub first-in-range : T (rotation_in_range a)
  pub second-in-range : T (rotation_in_range b)

pub equal-passed : (a b : Rotation) → T (is_accepted (first_failed (equal_checks a b))) → EqualPassed a b
unfolding equal_checks
equal-passed a b t = record {
  first-in-range = and_left (rotation_in_range a) (rotation_in_range b) (passed 6);
  second-in-range = and_right (rotation_in_range a) (rotation_in_range b) (passed 6);
}
  where
    passed : (k : ℕ) → T (asked_by k (equal_checks a b))
    passed k = held k (equal_checks a b) (all_hold (equal_checks a b) tt t)

-- ---- look-up

pub record LookUpPassed (A format : ℕ) (v : Ray) : Type 0 where
  pub size : T (size_ok A)
  pub format-code : T (code_ok format)
  pub in-range : T (ray_in_range v)
  pub nonzero : T (ray_nonzero v)

-- these four are all that a look-up asks
pub look-up-accepted : (A format : ℕ) (v : Ray) → LookUpPassed A format v → first_failed (look_up_checks A format v) ≡ accepted
unfolding look_up_checks
look-up-accepted A format v p = holding (look_up_checks A format v) (p.size also p.format-code also p.in-range also p.nonzero also none)

pub look-up-passed : (A format : ℕ) (v : Ray) → T (is_accepted (first_failed (look_up_checks A format v))) → LookUpPassed A format v
unfolding look_up_checks
look-up-passed A format v t = record { size = passed 1; format-code = passed 4; in-range = passed 13; nonzero = passed 14 }
  where
    passed : (k : ℕ) → T (asked_by k (look_up_checks A format v))
    passed k = held k (look_up_checks A format v) (all_hold (look_up_checks A format v) tt t)

pub look-up-number : (A format : ℕ) (v : Ray) → (first_failed (look_up_checks A format v)).number ≤ 16
unfolding look_up_checks
look-up-number A format v = failed-number 16 (look_up_checks A format v) tt
