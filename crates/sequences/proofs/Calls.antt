-- One call of a run: the model answers it as it was answered, and the frame that it leaves is the model's.
use mathlib.Core.Path.{◌≡◌, refl, sym, ◌∙◌, ap, ap₂, subst}
use mathlib.Core.Logic.{◌⊎◌, inl, inr}
use mathlib.Core.Bool.{Bool, true, false, cond}
use mathlib.Core.List.{List, [], ◌∷◌}
use Prim.Native.Nat.{◌<◌}
use lib.Dec.{T, T_not, eqb, eqb→eq}
use lib.ListN.{length}
use Rattle.arithmetic.proofs.Tests.{passes, fails, same_test, cond-true, cond-false}
use Rattle.cubemap.specs.declared.Place.{Place}
use Rattle.cubemap.specs.declared.Shape.{Shape}
use Rattle.cubemap.specs.Interface.{return_code, is_accepted}
use Rattle.cubemap.specs.Frames.{Frame, IsPlace, sample_at_place, frame_sample, plane_of}
use Rattle.cubemap.specs.Rotations.{sum_of_squares}
use Rattle.cubemap.specs.Checks.{ConvertSettings, target_shape}
use Rattle.cubemap.specs.Outcomes.{converted_sample, converted_bytes}
use Rattle.cubemap.specs.Promises.{ConvertCall, ConvertPromise}
use Rattle.cubemap.proofs.Answers.{returned-0}
use Rattle.cubemap.proofs.Passed.{size-range, ConvertPassed, convert-passed}
use Rattle.cubemap.proofs.ConvertChecks.{answer-accepted, answer-as-read, outcome-is}
use Rattle.cubemap.proofs.Layouts.{layout-holds}
use Rattle.cubemap.proofs.Framed.{plane_of-cong}
use Rattle.cubemap.proofs.Rotations.{LeadsTo, sum-positive}
use Rattle.cubemap.proofs.CubeRotations.{cube-matrix}
use Rattle.cubemap.proofs.Conversion.{converted-frame, converted-own}
use Rattle.cubemap.specs.PlaceToRay.{ray_in}
use Rattle.sequences.specs.Steps.{Leads, led_to}
use Rattle.sequences.specs.Model.{told, answer_to, accepts, Model, moved_frame, after_accepted, after_call}
use Rattle.sequences.specs.Runs.{left_by, Each, Reads, OwnCubeTurn, AcceptedAreOwn, Keeping}
use Rattle.sequences.specs.Demand3.{Answers}
use Rattle.sequences.proofs.Steps.{cube-matched}
use Rattle.sequences.proofs.ListedFrames.{source-holds}

-- what a run says of one call and the frame left to it
pub record Fair (F : Frame) (c : ConvertCall) : Type 0 where
  pub keeps : ConvertPromise c
  pub reads : Reads F c
  pub own : AcceptedAreOwn F c

-- and so of each
pub each-fair : (F : Frame) (cs : List ConvertCall) → Keeping ConvertPromise cs → Each Reads F cs → Each AcceptedAreOwn F cs → Each Fair F cs
unfolding Keeping Each
each-fair F [] k r o = tt
each-fair F (c ∷ cs) (k, ks) (r, rs) (o, os) = (record { keeps = k; reads = r; own = o }, each-fair (left_by F c) cs ks rs os)

-- ---- convert's promise, in the words of the model

promise-returns : (c : ConvertCall) → ConvertPromise c → c.returned ≡ return_code (answer_to (told c) c.source)
promise-returns c p = p.gives.returns ∙ ap (λ o. return_code o.answered) (sym (outcome-is c.settings c.source c.target _ refl))

promise-leaves : (c : ConvertCall) → ConvertPromise c
    → c.target_after ≡ cond (accepts (told c) c.source) (converted_bytes c.settings c.source) c.target
promise-leaves c p = p.gives.holds ∙ ap (λ o. o.bytes) (sym (outcome-is c.settings c.source c.target _ refl))

-- it answers 0 exactly where it is accepted
pub answers-0 : (c : ConvertCall) → ConvertPromise c → accepts (told c) c.source ≡ eqb c.returned 0
answers-0 c p = same_test (accepts (told c) c.source) (eqb c.returned 0)
    (λ t. subst (λ n. T (eqb n 0)) (sym (promise-returns c p ∙ ap return_code (answer-accepted c.settings _ _ c.source t))) tt)
    (λ t. returned-0 (answer_to (told c) c.source) (sym (promise-returns c p) ∙ eqb→eq c.returned 0 t))

-- ---- the model's answer is the call's, though the model has its own frame's bytes and not those that were lent

same_answer : (F : Frame) (c : ConvertCall) → Reads F c → answer_to (told c) c.source ≡ answer_to (told c) F.bytes
same_answer F c r = answer-as-read c.settings (length c.source) (length c.target) c.source F.bytes r.part

pub answers : (F : Frame) (c : ConvertCall) → Fair F c → Answers F.bytes c
answers F c f = record {
  returns = promise-returns c f.keeps ∙ ap return_code same;
  target-stays = λ n. promise-leaves c f.keeps
      ∙ cond-false (accepts (told c) c.source) (converted_bytes c.settings c.source) c.target
      (λ t. T_not (accepts (told c) F.bytes) n (subst (λ a. T (is_accepted a)) same t));
  source_stays = f.keeps.source_stays;
  source-layout-stays = f.keeps.source-layout-stays;
  target-layout-stays = f.keeps.target-layout-stays;
}
  where
    same : answer_to (told c) c.source ≡ answer_to (told c) F.bytes
    same = same_answer F c f.reads

-- ---- an accepted call

module _ (F : Frame) (c : ConvertCall) (f : Fair F c) (ok : T (accepts (told c) c.source)) where
  abbrev s : ConvertSettings
  s = c.settings

  abbrev o : OwnCubeTurn F c.settings
  o = f.own ok

  read : c.source ≡ F.bytes
  read = f.reads.whole ok

  passed : ConvertPassed c.settings (length F.bytes) (length c.target) F.bytes
  passed = subst (λ b. ConvertPassed c.settings (length b) (length c.target) b) read
      (convert-passed s (length c.source) (length c.target) c.source ok)

  -- the step
  sum : 0 < sum_of_squares c.settings.rotation
  sum = sum-positive s.rotation passed.rotation-nonzero

  there : (P : Place) → IsPlace F.shape.size P → Leads F.shape c.settings.rotation P (led_to F.shape c.settings.rotation P)
  there P p = (cube-matched F.shape (size-range F.shape.size (source-holds F s (length c.target) o passed).size).at_most
      s.rotation sum (cube-matrix s.rotation o.cube)).leads P p

  -- at each place the frame's own sample where the step leads
  sample-is : (P : Place) → IsPlace F.shape.size P
      → converted_sample c.settings F.bytes P ≡ frame_sample F (led_to F.shape c.settings.rotation P)
  sample-is P p =
      converted-own s (length F.bytes) (length c.target) F.bytes P Q passed (o.same_shape ∙ sym o.own-shape)
      (subst (λ z. IsPlace z.size Q) (sym o.own-shape) (there P p).is-place)
      (subst (λ z. LeadsTo s.rotation (ray_in z P) (ray_in z Q)) (sym o.own-shape) (there P p).same-ray)
      ∙ ap₂ (λ z L. sample_at_place F.bytes z.size L Q) o.own-shape o.own-layout
    where
      Q : Place
      Q = led_to F.shape c.settings.rotation P

  target-size : c.settings.target_size ≡ F.shape.size
  unfolding target_shape
  target-size = ap (λ (z : Shape). z.size) o.same_shape

  wrote : c.target_after ≡ plane_of F.shape.size c.settings.target_layout (λ P. frame_sample F (led_to F.shape c.settings.rotation P))
  wrote =
      promise-leaves c f.keeps ∙ cond-true (accepts (told c) c.source) (converted_bytes s c.source) c.target ok
      ∙ ap (converted_bytes s) read ∙ converted-frame s F.bytes
      ∙ ap (λ A. plane_of A s.target_layout (converted_sample s F.bytes)) target-size
      ∙ plane_of-cong F.shape.size s.target_layout (layout-holds s.target_layout passed.target-layout) (converted_sample s F.bytes)
      (λ P. frame_sample F (led_to F.shape s.rotation P)) sample-is

  leaves-moved : left_by F c ≡ moved_frame F c.settings
  unfolding left_by moved_frame
  leaves-moved =
      cond-true (accepts (told c) c.source) _ F ok
      ∙ (λ i. record { shape = o.same_shape i; layout = s.target_layout; bytes = wrote i })

-- ---- the two cases: a call and the model as it stands before it

pub record Refused (b : Model) (c : ConvertCall) : Type 0 where
  pub answer-not-0 : c.returned ≡ 0 → ⊥
  pub left : left_by b.frame c ≡ b.frame
  pub after : after_call b (told c) ≡ b

pub record Accepted (b : Model) (c : ConvertCall) : Type 0 where
  pub own : OwnCubeTurn b.frame c.settings
  pub passes-all : ConvertPassed c.settings (length b.frame.bytes) (length c.target) b.frame.bytes
  pub left : left_by b.frame c ≡ moved_frame b.frame c.settings
  pub after : after_call b (told c) ≡ after_accepted b c.settings

-- the model accepts what the call accepts
accepts-same : (b : Model) (c : ConvertCall) → Fair b.frame c → accepts (told c) c.source ≡ accepts (told c) b.frame.bytes
accepts-same b c f = ap is_accepted (same_answer b.frame c f.reads)

pub accepted-case : (b : Model) (c : ConvertCall) → Fair b.frame c → T (accepts (told c) c.source) → Accepted b c
unfolding after_call
accepted-case b c f t = record {
  own = f.own t;
  passes-all = passed b.frame c f t;
  left = leaves-moved b.frame c f t;
  after = cond-true (accepts (told c) b.frame.bytes) (after_accepted b c.settings) b (subst T (accepts-same b c f) t);
}

pub cases : (b : Model) (c : ConvertCall) → Fair b.frame c → Refused b c ⊎ Accepted b c
unfolding after_call left_by
cases b c f = go (accepts (told c) c.source) refl
  where
    go : (x : Bool) → accepts (told c) c.source ≡ x → Refused b c ⊎ Accepted b c
    go false e = inl (record {
      answer-not-0 = λ z. fails (sym (answers-0 c f.keeps) ∙ e) (subst (λ n. T (eqb n 0)) (sym z) tt);
      left = cond-false (accepts (told c) c.source) _ b.frame (fails e);
      after = cond-false (accepts (told c) b.frame.bytes) (after_accepted b c.settings) b (fails (sym (accepts-same b c f) ∙ e));
    })
    go true e = inr (accepted-case b c f (passes e))
