-- The step of P12; and a list of three calls on a small frame, accepted, refused and accepted: what the model makes of it.
use Rattle.std.specs.Prelude.{◌≡◌, cond, List, [], ◌∷◌, ℕ, ◌+◌, eqb, length, replicate, pos}
use Rattle.cubemap.specs.declared.Rotation.{Rotation}
use Rattle.cubemap.specs.declared.Shape.{Shape}
use Rattle.cubemap.specs.Interface.{answer}
use Rattle.cubemap.specs.Frames.{Frame, place, shape_of, framed, usual_layout, frame_sample}
use Rattle.cubemap.specs.Rotations.{rotation, compose_all}
use Rattle.cubemap.specs.Checks.{ConvertSettings, convert_settings}
use Rattle.cubemap.specs.Promises.{ConvertCall, convert_call, ConvertPromise}
use Rattle.cubemap.specs.Marked.{cmp, minus, rotationℕ}
use Rattle.cubemap.specs.Examples.{other_layout}
use Rattle.sequences.specs.Steps.{led_to}
use Rattle.sequences.specs.Model.{told, told_all, Model, answer_to, at_start, after_call, after_calls, accepted_rotations}
use Rattle.sequences.specs.Runs.{left_by, Keeping, Run}
use Rattle.sequences.specs.Existence.{made}

abbrev small : Shape
small = shape_of 1 8 cmp

-- face f has the sample 10 + f
abbrev first : Frame
first = record { shape = small; layout = other_layout; bytes = framed 2 (λ f. 10 + f) 6 }

-- the same with 300 at face 5, where 8 bits reach to 255
abbrev too_bright : Frame
too_bright = record { shape = small; layout = other_layout; bytes = framed 2 (λ f. cond (eqb f 5) 300 (10 + f)) 6 }

-- by the turn t, from the layout L to the layout M, with the cubic sampler
abbrev turning : Rotation → List ℕ → List ℕ → ConvertSettings
turning t L M = convert_settings small 1 cmp 1 L M t

-- the target before each call
abbrev room : List ℕ
room = replicate 12 7

-- the second call names another depth and another layout than the frame's, and its source is a byte short
abbrev short : List ℕ
short = replicate 11 0

abbrev of_another : ConvertSettings
of_another = convert_settings (shape_of 1 12 cmp) 1 cmp 1 (5 ∷ 4 ∷ 3 ∷ 2 ∷ 1 ∷ 0 ∷ 0 ∷ 0 ∷ 0 ∷ 0 ∷ 0 ∷ 0 ∷ []) usual_layout (rotationℕ 1 0 0 1)

abbrev call1 : ConvertCall
call1 = made (turning (rotationℕ 1 0 1 0) other_layout usual_layout) first.bytes room

abbrev call2 : ConvertCall
call2 = made of_another short room

abbrev call3 : ConvertCall
call3 = made (turning (rotationℕ 1 1 0 0) usual_layout usual_layout) call1.target_after room

abbrev pub calls : List ConvertCall
calls = call1 ∷ call2 ∷ call3 ∷ []

-- the same call, had it returned and left something else
abbrev saying : ConvertCall → ℕ → List ℕ → ConvertCall
saying c returned after =
    convert_call c.settings c.source c.target returned c.source_layout_after c.target_layout_after c.source_after after

-- the samples of faces 0 to 5, one each
abbrev samples : Frame → List ℕ
samples F =
    frame_sample F (place 0 0 0) ∷ frame_sample F (place 1 0 0) ∷ frame_sample F (place 2 0 0)
    ∷ frame_sample F (place 3 0 0) ∷ frame_sample F (place 4 0 0) ∷ frame_sample F (place 5 0 0) ∷ []

abbrev last : Model
last = after_calls (at_start first) (told_all calls)

-- runs exist: this list is one, and the three calls answer 0, 8 and 0
pub record Exists : Type 0 where
  pub run : Run (Keeping ConvertPromise) first calls
  pub answers : (call1.returned ≡ 0) × (call2.returned ≡ 8) × (call3.returned ≡ 0)

pub record Examples : Type 0 where
  -- the step leads where P12 has the converter read
  pub step : led_to (shape_of 3 8 cmp) (rotationℕ 1 0 1 0) (place 0 0 1) ≡ place 5 0 1
  -- the second call answers 8, and its turn is not among the accepted ones
  pub refused : (bytes : List ℕ) → answer_to (told call2) bytes ≡ answer 8 0
  pub turns : accepted_rotations (at_start first) (told_all calls) ≡ rotationℕ 1 0 1 0 ∷ rotationℕ 1 1 0 0 ∷ []
  -- the old fold first: P10
  pub fold : last.fold ≡ rotation (pos 1) (pos 1) (pos 1) (minus 1)
  pub folds : last.fold ≡ compose_all (accepted_rotations (at_start first) (told_all calls))
  -- each sample stands once, where the two steps lead, and where the fold's one step leads
  pub moved : samples last.frame ≡ 15 ∷ 14 ∷ 10 ∷ 11 ∷ 13 ∷ 12 ∷ []
  pub led :
      led_to small last.fold (place 0 0 0) ∷ led_to small last.fold (place 1 0 0) ∷ led_to small last.fold (place 2 0 0)
      ∷ led_to small last.fold (place 3 0 0) ∷ led_to small last.fold (place 4 0 0) ∷ led_to small last.fold (place 5 0 0) ∷ []
      ≡ place 5 0 0 ∷ place 4 0 0 ∷ place 0 0 0 ∷ place 1 0 0 ∷ place 3 0 0 ∷ place 2 0 0 ∷ []
  -- "in the target's layout"
  pub layout : last.frame.layout ≡ usual_layout
  -- "fed .. with each call's settings, turn and buffer lengths, never with what a call answers or writes"
  pub told-alike : (c d : ConvertCall) → c.settings ≡ d.settings → length c.source ≡ length d.source → length c.target ≡ length d.target
      → told c ≡ told d
  -- nor does that decide which frame is left: a refused call that says 0 and writes leaves the frame, an accepted one that says 1 leaves what it wrote
  pub says-0 : (after : List ℕ) → left_by first (saying call2 0 after) ≡ first
  pub says-1 : (after : List ℕ) → left_by first (saying call1 1 after) ≡ record { shape = small; layout = usual_layout; bytes = after }
  -- a first frame with a sample beyond its depth: the model refuses what it would accept of the other one
  pub beyond : after_call (at_start too_bright) (told call1) ≡ at_start too_bright
  pub exists : Exists
