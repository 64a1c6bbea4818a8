-- Two lists whose folds give the same places leave frames with the score of the first ones: demand 3's `given` and `scored`.
use mathlib.Core.Path.{◌≡◌, refl, sym, ◌∙◌, ap, ap₂, subst}
use mathlib.Core.Logic.{◌⊎◌, inl, inr}
use mathlib.Core.Bool.{Bool, true, false, ◌&&◌, not}
use mathlib.Core.List.{List}
use Prim.Native.Nat.{ℕ, ◌≤◌}
use lib.Dec.{T}
use lib.ListN.{length}
use Rattle.arithmetic.proofs.Tests.{passes, same_test}
use Rattle.cubemap.specs.declared.Place.{Place}
use Rattle.cubemap.specs.Interface.{format_of}
use Rattle.cubemap.specs.Frames.{Frame, IsPlace, sample_at_place}
use Rattle.cubemap.specs.Checks.{score_settings, size_ok, depth_ok, code_ok, layout_ok, length_ok, samples_ok, lowest_beyond}
use Rattle.cubemap.specs.Outcomes.{written, score_result}
use Rattle.cubemap.specs.Promises.{Gives, ConvertCall, ConvertPromise, ScoreCall, ScorePromise}
use Rattle.cubemap.proofs.Passed.{size-range}
use Rattle.cubemap.proofs.Framed.{beyond-none}
use Rattle.cubemap.proofs.Scores.{error-moved, SameToChecks, score-same}
use Rattle.sequences.specs.Steps.{led_to, SamePlaces}
use Rattle.sequences.specs.Model.{Model, model_of}
use Rattle.sequences.specs.Runs.{last_frame, Keeping, Run}
use Rattle.sequences.specs.Demand3.{frame_ok, Scores, paper_score, Given}
use Rattle.sequences.proofs.ListedFrames.{FrameHolds}
use Rattle.sequences.proofs.Runs.{Follows, follows-led, last-is, run-follows, kept}

-- ---- the call gives the paper's score

pub given : (F G : Frame) (c : ScoreCall) → F.shape ≡ G.shape → Scores F G c → ScorePromise c → Given F G c
given F G c same h p = record {
  gives = subst (λ r. Gives (written r c.buffer) c.returned c.buffer_after) (λ i. score_result (h.settings-are i) (h.first-is i) (h.second_is i))
      p.gives;
  first-stays = p.first-stays ∙ h.first-is;
  second-stays = p.second-stays ∙ h.second_is;
  first-layout-stays = p.first-layout-stays ∙ ap (λ s. s.first_layout) h.settings-are;
  second-layout-stays = p.second-layout-stays ∙ ap (λ s. s.second_layout) h.settings-are;
}

-- ---- the checks see of the model's frame what they saw of the first

both : {a b : Bool} → T a → T b → a ≡ b
both {a} {b} s t = same_test a b (λ x. t) (λ x. s)

seen_same : (first : Frame) (b : Model) → Follows first b → SameToChecks first.shape b.frame.layout first.layout b.frame.bytes first.bytes
seen_same first b v = go v.holds
  where
    go : (b.frame ≡ first) ⊎ (FrameHolds first × FrameHolds b.frame)
        → SameToChecks first.shape b.frame.layout first.layout b.frame.bytes first.bytes
    go (inl e) = record {
      layout = ap (λ F. layout_ok F.layout) e;
      long = ap (λ F. length_ok first.shape (length F.bytes)) e;
      samples = ap (λ F. samples_ok first.shape F.bytes) e;
      beyond = ap (λ F. lowest_beyond first.shape F.bytes) e;
    }
    go (inr (p, q)) = record {
      layout = both q.layout-ok p.layout-ok;
      long = both (subst (λ z. T (length_ok z (length b.frame.bytes))) v.shape q.length-ok) p.length-ok;
      samples = both samples p.samples;
      beyond = beyond-none first.shape b.frame.bytes samples ∙ sym (beyond-none first.shape first.bytes p.samples);
    }
      where
        samples : T (samples_ok first.shape b.frame.bytes)
        samples = subst (λ z. T (samples_ok z b.frame.bytes)) v.shape q.samples

-- ---- the score of the model's frames is that of the first ones

module _ (F G : Frame) (b d : Model) (a : F.shape.size ≤ 512) (same : F.shape ≡ G.shape) (v : Follows F b) (w : Follows G d)
    (places : SamePlaces F.shape b.fold d.fold) where
  abbrev A : ℕ
  A = F.shape.size

  on : (P : Place) → IsPlace F.shape.size P → IsPlace G.shape.size P
  on P p = subst (λ z. IsPlace z.size P) same p

  -- both folds lead to the same place
  to_same : (P : Place) → IsPlace F.shape.size P → w.to P ≡ v.to P
  to_same P p =
      sym (follows-led G d (subst (λ z. z.size ≤ 512) same a) w P (on P p)) ∙ sym (ap (λ z. led_to z d.fold P) same) ∙ sym (places P p)
      ∙ follows-led F b a v P p

  first-stands : (P : Place) → IsPlace F.shape.size P
      → sample_at_place b.frame.bytes A b.frame.layout P ≡ sample_at_place F.bytes A F.layout (v.to P)
  first-stands P p = ap (λ z. sample_at_place b.frame.bytes z.size b.frame.layout P) (sym v.shape) ∙ v.stands P p

  second-stands : (P : Place) → IsPlace F.shape.size P
      → sample_at_place d.frame.bytes A d.frame.layout P ≡ sample_at_place G.bytes A G.layout (v.to P)
  second-stands P p =
      ap (λ z. sample_at_place d.frame.bytes z.size d.frame.layout P) (same ∙ sym w.shape) ∙ w.stands P (on P p)
      ∙ ap₂ (λ z Q. sample_at_place G.bytes z.size G.layout Q) (sym same) (to_same P p)

  second-seen : SameToChecks F.shape d.frame.layout G.layout d.frame.bytes G.bytes
  second-seen = subst (λ z. SameToChecks z d.frame.layout G.layout d.frame.bytes G.bytes) (sym same) (seen_same G d w)

  model-score : paper_score b.frame d.frame ≡ paper_score F G
  model-score =
      ap (λ z. score_result (score_settings z b.frame.layout d.frame.layout) b.frame.bytes d.frame.bytes) v.shape
      ∙ score-same (seen_same F b v) second-seen
      (error-moved (format_of F.shape.format) A v.to v.back v.matched.one-to-one v.level
      (sample_at_place F.bytes A F.layout) (sample_at_place G.bytes A G.layout)
      (sample_at_place b.frame.bytes A b.frame.layout) (sample_at_place d.frame.bytes A d.frame.layout) first-stands second-stands)

-- ---- the law

fails-own : (F : Frame) → size_ok F.shape.size ≡ false → T (not (frame_ok F))
unfolding frame_ok
fails-own F e = subst (λ x. T (not (x && depth_ok F.shape.depth && code_ok F.shape.format && layout_ok F.layout
    && length_ok F.shape (length F.bytes) && samples_ok F.shape F.bytes))) (sym e) tt

pub scored : (F G : Frame) (cs ds : List ConvertCall) → Run (Keeping ConvertPromise) F cs → Run (Keeping ConvertPromise) G ds → F.shape ≡ G.shape
    → SamePlaces F.shape (model_of F cs).fold (model_of G ds).fold → paper_score (last_frame F cs) (last_frame G ds) ≡ paper_score F G
scored F G cs ds r q same places = go (size_ok F.shape.size) refl
  where
    go : (x : Bool) → size_ok F.shape.size ≡ x → paper_score (last_frame F cs) (last_frame G ds) ≡ paper_score F G
    -- no conversion of frames that large is accepted
    go false e = ap₂ paper_score
        ((kept F cs r).stays (fails-own F e)).frame
        ((kept G ds q).stays (fails-own G (ap (λ z. size_ok z.size) (sym same) ∙ e))).frame
    go true e =
        let a : F.shape.size ≤ 512 = (size-range F.shape.size (passes e)).at_most in
        ap₂ paper_score (last-is F cs r) (last-is G ds q)
        ∙ model-score F G (model_of F cs) (model_of G ds) a same (run-follows F cs r a)
        (run-follows G ds q (subst (λ z. z.size ≤ 512) same a)) places
