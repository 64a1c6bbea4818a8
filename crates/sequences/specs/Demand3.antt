-- Demand 3: "a single claim about the whole list, not one for each call". Quotes here and in `Runs` are of the paper's section "Runs of whole-cube turns"
-- and of the demand itself, which docs/PROMISES.md has word by word.
use Rattle.std.specs.Prelude.{◌≡◌, Bool, ◌&&◌, not, List, [], ◌∷◌, ℕ, ◌≤◌, T, length}
use Rattle.cubemap.specs.declared.Place.{Place}
use Rattle.cubemap.specs.declared.Rotation.{Rotation}
use Rattle.cubemap.specs.declared.Shape.{Shape}
use Rattle.cubemap.specs.Interface.{return_code}
use Rattle.cubemap.specs.Frames.{Frame, IsPlace, frame_sample}
use Rattle.cubemap.specs.Rotations.{identity, compose_all, CubeRotation}
use Rattle.cubemap.specs.Checks.{ScoreSettings, score_settings, size_ok, depth_ok, code_ok, layout_ok, rotation_nonzero, length_ok, samples_ok}
use Rattle.cubemap.specs.Outcomes.{Result, written, score_result}
use Rattle.cubemap.specs.Promises.{Gives, ConvertCall, ConvertPromise, ScoreCall, ScorePromise}
use Rattle.sequences.specs.Steps.{Leads, led_to, ExactlyOne, SamePlaces}
use Rattle.sequences.specs.Model.{told, told_all, answer_to, accepts, Model, at_start, after_call, model_of, accepted_rotations}
use Rattle.sequences.specs.Runs.{Converter, Keeping, Run, Each, last_frame}

-- ---- one list: what each call gives

-- what a call gives where the model's frame holds these bytes
pub record Answers (bytes : List ℕ) (c : ConvertCall) : Type 0 where
  -- "Each conversion must answer 0 where accepted, else the number and index of the question that ended it."
  pub returns : c.returned ≡ return_code (answer_to (told c) bytes)
  -- "a refused conversion adds no turn and changes nothing": its target stays, and what is only read stays in every call
  pub target-stays : T (not (accepts (told c) bytes)) → c.target_after ≡ c.target
  pub source_stays : c.source_after ≡ c.source
  pub source-layout-stays : c.source_layout_after ≡ c.settings.source_layout
  pub target-layout-stays : c.target_layout_after ≡ c.settings.target_layout

-- each call of the list, by the model as it stands before the call
unfoldable pub Answered : Model → List ConvertCall → Type 0
Answered b [] = Unit {0}
Answered b (c ∷ cs) = Answers b.frame.bytes c × Answered (after_call b (told c)) cs

-- ---- one list: where the samples stand

-- "each first sample stands unchanged exactly once, at the place that the fold .. gives": the step of the turn t leads from each place of the last frame
-- to one of the first
pub record Moved (first last : Frame) (t : Rotation) : Type 0 where
  -- "found by that same step with the fold as t": from each place to exactly one
  pub step : (P : Place) → IsPlace first.shape.size P → ExactlyOne first.shape t P
  -- "the last frame's sample at ray r is the first frame's at R·r/S"
  pub stands : (P : Place) → IsPlace first.shape.size P → frame_sample last P ≡ frame_sample first (led_to first.shape t P)
  -- "the step matches places one to one": it leads to each place Q from one place, `from Q`, and from no other
  pub from : Place → Place
  pub from-ok : (Q : Place) → IsPlace first.shape.size Q → IsPlace first.shape.size (from Q)
  pub reached : (Q : Place) → IsPlace first.shape.size Q → led_to first.shape t (from Q) ≡ Q
  pub once : (P : Place) → IsPlace first.shape.size P → from (led_to first.shape t P) ≡ P
  -- so the first frame's sample at Q stands there
  pub arrives : (Q : Place) → IsPlace first.shape.size Q → frame_sample last (from Q) ≡ frame_sample first Q

-- does a frame pass the questions that are its own (1, 3, 4, 5, 8, 10)?
unfoldable pub frame_ok : Frame → Bool
frame_ok F =
    size_ok F.shape.size && depth_ok F.shape.depth && code_ok F.shape.format && layout_ok F.layout
    && length_ok F.shape (length F.bytes) && samples_ok F.shape F.bytes

-- "A first frame that fails a question of its own has every conversion refused and stays as it came; its fold (1,0,0,0) leaves each place where
-- it is."
pub record Stays (first : Frame) (cs : List ConvertCall) : Type 0 where
  pub refused : Each (λ F c. c.returned ≡ 0 → ⊥) first cs
  pub frame : last_frame first cs ≡ first
  pub fold : (model_of first cs).fold ≡ identity
  pub places : (P : Place) → IsPlace first.shape.size P → Leads first.shape identity P P

-- ---- one list, whole

pub record Kept (first : Frame) (cs : List ConvertCall) : Type 0 where
  pub answered : Answered (at_start first) cs
  -- "the frame that the last accepted conversion wrote, or the first, is the book's, sample for sample and in its layout"
  pub frame : last_frame first cs ≡ (model_of first cs).frame
  pub shape : (last_frame first cs).shape ≡ first.shape
  -- the model's fold is "the fold of the accepted turns"
  pub fold : (model_of first cs).fold ≡ compose_all (accepted_rotations (at_start first) (told_all cs))
  -- (a face size above 512 fails question 1)
  pub moved : first.shape.size ≤ 512 → Moved first (last_frame first cs) (model_of first cs).fold
  pub stays : T (not (frame_ok first)) → Stays first cs

-- ---- scores

-- a scorer, by the calls that it may make
abbrev pub Scorer : Type 1
Scorer = ScoreCall → Type 0

-- the settings of a score of two frames "of equal size, depth and format"
abbrev pub scoring : Frame → Frame → ScoreSettings
scoring F G = score_settings F.shape F.layout G.layout

-- "the paper's score" of two such frames: number, index and sums
abbrev pub paper_score : Frame → Frame → Result
paper_score F G = score_result (scoring F G) F.bytes G.bytes

-- the call scores the frames F and G
pub record Scores (F G : Frame) (c : ScoreCall) : Type 0 where
  pub settings-are : c.settings ≡ scoring F G
  pub first-is : c.first ≡ F.bytes
  pub second_is : c.second ≡ G.bytes

-- what such a call gives: "the paper's score, which the call must give", and what it only reads stays
pub record Given (F G : Frame) (c : ScoreCall) : Type 0 where
  pub gives : Gives (written (paper_score F G) c.buffer) c.returned c.buffer_after
  pub first-stays : c.first_after ≡ F.bytes
  pub second-stays : c.second_after ≡ G.bytes
  pub first-layout-stays : c.first_layout_after ≡ F.layout
  pub second-layout-stays : c.second_layout_after ≡ G.layout

-- ---- the claim, of a converter and a scorer

pub record Demand3 (M : Converter) (S : Scorer) : Type 0 where
  -- "exactly one place has that ray": the model's step leads from each place to exactly one, by each whole-cube turn that is not all zero
  pub step : (z : Shape) (t : Rotation) (P : Place) → z.size ≤ 512 → T (rotation_nonzero t) → CubeRotation t → IsPlace z.size P
      → ExactlyOne z t P
  -- "for every first frame and every list of conversions"
  pub kept : (first : Frame) (cs : List ConvertCall) → Run M first cs → Kept first cs
  -- "the paper's score, which the call must give"
  pub given : (F G : Frame) (c : ScoreCall) → F.shape ≡ G.shape → Scores F G c → S c → Given F G c
  -- "For every two first frames of equal size, depth and format, each with such a list of its own: where the two folds give the same places, the
  -- paper's score .. has for the two last frames the number, index and sums that it had for the two first ones."
  pub scored : (F G : Frame) (cs ds : List ConvertCall) → Run M F cs → Run M G ds → F.shape ≡ G.shape
      → SamePlaces F.shape (model_of F cs).fold (model_of G ds).fold
      → paper_score (last_frame F cs) (last_frame G ds) ≡ paper_score F G

-- demand 3 of the product: of calls that keep the promises of convert and score
abbrev pub Permanence : Type 0
Permanence = Demand3 (Keeping ConvertPromise) ScorePromise
