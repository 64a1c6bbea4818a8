-- DEMAND 3 of the product, whole.
use mathlib.Core.Path.{◌≡◌, sym, ◌∙◌, ap, ap₂}
use mathlib.Core.List.{List}
use Rattle.cubemap.specs.Interface.{return_code, put_all}
use Rattle.cubemap.specs.Frames.{Frame}
use Rattle.cubemap.specs.Outcomes.{Result}
use Rattle.cubemap.specs.Promises.{ConvertCall, ScoreCall}
use Rattle.sequences.specs.Steps.{SamePlaces}
use Rattle.sequences.specs.Model.{model_of}
use Rattle.sequences.specs.Runs.{Converter, last_frame, Run}
use Rattle.sequences.specs.Demand3.{Scorer, Scores, Demand3, Permanence}
use Rattle.sequences.proofs.Steps.{step}
use Rattle.sequences.proofs.Runs.{kept}
use Rattle.sequences.proofs.ListedScores.{given, scored}

pub permanence : Permanence
permanence = record { step = step; kept = kept; given = given; scored = scored }

-- ---- what follows of calls of score, whatever the converter and the scorer are: a call on the two last frames gives what one on the two first ones gave

module _ {M : Converter} {S : Scorer} (D : Demand3 M S) (F G : Frame) (cs ds : List ConvertCall) (r : Run M F cs) (q : Run M G ds)
    (same : F.shape ≡ G.shape) (places : SamePlaces F.shape (model_of F cs).fold (model_of G ds).fold) where
  pub same-score : (c d : ScoreCall) → Scores F G c → S c → Scores (last_frame F cs) (last_frame G ds) d → S d → c.buffer ≡ d.buffer
      → (d.returned ≡ c.returned) × (d.buffer_after ≡ c.buffer_after)
  same-score c d f p g s e =
      let x = (D.given F G c same f p).gives in
      let y = (D.given (last_frame F cs) (last_frame G ds) d ((D.kept F cs r).shape ∙ same ∙ sym (D.kept G ds q).shape) g s).gives in
      let score = D.scored F G cs ds r q same places in (
        y.returns ∙ ap (λ (r : Result). return_code r.answered) score ∙ sym x.returns,
        y.holds ∙ ap₂ (λ b (r : Result). put_all b 0 r.values) (sym e) score ∙ sym x.holds,
      )
