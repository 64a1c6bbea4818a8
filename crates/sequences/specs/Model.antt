-- The paper, "Runs of whole-cube turns", the book: the model here, which a list of conversions is held to.
use Rattle.std.specs.Prelude.{Bool, cond, List, [], ◌∷◌, ℕ, length}
use Rattle.cubemap.specs.declared.Rotation.{Rotation}
use Rattle.cubemap.specs.Interface.{Answer, is_accepted}
use Rattle.cubemap.specs.Frames.{Frame, frame_sample, plane_of}
use Rattle.cubemap.specs.Rotations.{identity, compose}
use Rattle.cubemap.specs.Checks.{ConvertSettings}
use Rattle.cubemap.specs.Outcomes.{convert_answer}
use Rattle.cubemap.specs.Promises.{ConvertCall}
use Rattle.sequences.specs.Steps.{led_to}

-- ---- what the model is fed with

-- "each call's settings, turn and buffer lengths, never .. what a call answers or writes"
pub record Told : Type 0 where
  pub settings : ConvertSettings
  pub source_length : ℕ
  pub target_length : ℕ

abbrev pub told : ConvertCall → Told
told c = record { settings = c.settings; source_length = length c.source; target_length = length c.target }

unfoldable pub told_all : List ConvertCall → List Told
told_all [] = []
told_all (c ∷ cs) = told c ∷ told_all cs

-- what a call that reads these bytes must answer: "0 where accepted, else the number and index of the question that ended it"
abbrev pub answer_to : Told → List ℕ → Answer
answer_to c bytes = convert_answer c.settings c.source_length c.target_length bytes

abbrev pub accepts : Told → List ℕ → Bool
accepts c bytes = is_accepted (answer_to c bytes)

-- ---- "It keeps a frame and a fold"

pub record Model : Type 0 where
  pub frame : Frame
  pub fold : Rotation

-- "at the start the first frame and (1,0,0,0)"
abbrev pub at_start : Frame → Model
at_start first = record { frame = first; fold = identity }

-- "An accepted conversion by turn t replaces the frame by one of the same size, depth and format in the target's layout": the sample at each place
-- is the old frame's where the step leads
unfoldable pub moved_frame : Frame → ConvertSettings → Frame
moved_frame F s = record {
  shape = F.shape;
  layout = s.target_layout;
  bytes = plane_of F.shape.size s.target_layout (λ P. frame_sample F (led_to F.shape s.rotation P));
}

-- "The new fold is that of the old fold, as first, and t, as later."
abbrev pub after_accepted : Model → ConvertSettings → Model
after_accepted b s = record { frame = moved_frame b.frame s; fold = compose b.fold s.rotation }

-- "A refused conversion, whatever its settings, changes neither." "the source's bytes are those of its own frame"
unfoldable pub after_call : Model → Told → Model
after_call b c = cond (accepts c b.frame.bytes) (after_accepted b c.settings) b

unfoldable pub after_calls : Model → List Told → Model
after_calls b [] = b
after_calls b (c ∷ cs) = after_calls (after_call b c) cs

-- the model after a list of calls
abbrev pub model_of : Frame → List ConvertCall → Model
model_of first cs = after_calls (at_start first) (told_all cs)

-- the accepted turns, in order
unfoldable pub accepted_rotations : Model → List Told → List Rotation
accepted_rotations b [] = []
accepted_rotations b (c ∷ cs) =
    cond (accepts c b.frame.bytes) (c.settings.rotation ∷ accepted_rotations (after_call b c) cs) (accepted_rotations (after_call b c) cs)
