-- Convert's answer: what an accepted call has passed, which of its checks look at no sample, and what its outcome is then.
use mathlib.Core.Path.{◌≡◌, sym, ◌∙◌, ap, subst}
use mathlib.Core.Bool.{cond}
use mathlib.Core.List.{List, [], ◌∷◌, ◌++◌}
use Prim.Native.Nat.{ℕ, ◌≤◌}
use lib.Dec.{T}
use lib.ListN.{length}
use Rattle.arithmetic.proofs.Tests.{cond-cong}
use Rattle.cubemap.specs.declared.Refusal.{Refusal}
use Rattle.cubemap.specs.Interface.{Answer, accepted, is_accepted}
use Rattle.cubemap.specs.Frames.{sample_at}
use Rattle.cubemap.specs.Checks.{ConvertSettings, samples_check, first_failed, lowest_beyond}
use Rattle.cubemap.specs.Checks.{size_checks, setting_checks, length_checks, before_samples, convert_checks}
use Rattle.cubemap.specs.Outcomes.{outcome, refusal, converted_bytes, convert_answer, convert_outcome}
use Rattle.cubemap.proofs.Passed.{accepted-is, first_failed-append, ConvertPassed, convert-passed}
use Rattle.cubemap.proofs.Framed.{samples-decide}
use Rattle.cubemap.proofs.Answers.{not-accepted}

-- the settings' answer
abbrev pub settings_answer : ConvertSettings → Answer
settings_answer s = first_failed (size_checks s ++ setting_checks s)

-- an accepted call has passed every check
pub answer-passed : (s : ConvertSettings) (source_length target_length : ℕ) (source : List ℕ)
    → accepted ≡ convert_answer s source_length target_length source → ConvertPassed s source_length target_length source
answer-passed s source_length target_length source e = convert-passed s source_length target_length source (subst (λ a. T (is_accepted a)) e tt)

-- ---- an accepted call answers 0, with index 0

pub answer-accepted : (s : ConvertSettings) (source_length target_length : ℕ) (source : List ℕ)
    → T (is_accepted (convert_answer s source_length target_length source)) → convert_answer s source_length target_length source ≡ accepted
unfolding convert_answer convert_checks before_samples size_checks setting_checks length_checks
answer-accepted s source_length target_length source t = accepted-is (convert_checks s source_length target_length source) tt t

-- ---- checks 1 to 9 look at no sample

module _ (s : ConvertSettings) (source_length target_length : ℕ) where
  abbrev answer1to9 : Answer
  answer1to9 = first_failed (before_samples s source_length target_length)

  abbrev answer10 : List ℕ → Answer
  answer10 source = first_failed (samples_check 10 s.source_shape source ∷ [])

  answer-before : (source : List ℕ)
      → convert_answer s source_length target_length source ≡ cond (is_accepted answer1to9) (answer10 source) answer1to9
  unfolding convert_answer convert_checks before_samples size_checks setting_checks length_checks
  answer-before source = first_failed-append (before_samples s source_length target_length) (samples_check 10 s.source_shape source ∷ []) tt

  -- so a source that has the samples of a frame, up to the lowest one beyond the depth, has the answer that the frame's bytes have
  pub answer-as-read : (source bytes : List ℕ)
      → (T (is_accepted answer1to9) → (i : ℕ) → i ≤ lowest_beyond s.source_shape source → sample_at source i ≡ sample_at bytes i)
      → convert_answer s source_length target_length source ≡ convert_answer s source_length target_length bytes
  answer-as-read source bytes h = answer-before source ∙ cond-cong (is_accepted answer1to9) answer1to9 same ∙ sym (answer-before bytes)
    where
      same : T (is_accepted answer1to9) → answer10 source ≡ answer10 bytes
      same t = ap (λ c. first_failed (c ∷ [])) (samples-decide 10 s.source_shape source bytes (h t))

-- ---- the outcome by the answer

module _ (s : ConvertSettings) (source target : List ℕ) where
  pub outcome-is : (a : Answer) → a ≡ convert_answer s (length source) (length target) source
      → outcome a (cond (is_accepted a) (converted_bytes s source) target) ≡ convert_outcome s source target
  unfolding convert_outcome
  outcome-is a e = ap (λ a. outcome a (cond (is_accepted a) (converted_bytes s source) target)) e

  pub outcome-refused : (q : Refusal) → refusal q ≡ convert_answer s (length source) (length target) source
      → outcome (refusal q) target ≡ convert_outcome s source target
  outcome-refused q e =
      ap (λ b. outcome (refusal q) (cond b (converted_bytes s source) target)) (sym (not-accepted q)) ∙ outcome-is (refusal q) e
