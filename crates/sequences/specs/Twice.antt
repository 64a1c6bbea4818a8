-- What a function that turns a frame twice promises: what demand 3 says of the list of the two calls that it makes.
use Rattle.std.specs.Prelude.{◌≡◌, cond, List, [], ◌∷◌, ℕ, eqb}
use Rattle.cubemap.specs.declared.Rotation.{Rotation}
use Rattle.cubemap.specs.declared.Shape.{Shape}
use Rattle.cubemap.specs.Frames.{Frame}
use Rattle.cubemap.specs.Rotations.{CubeRotation, compose_all}
use Rattle.cubemap.specs.Checks.{convert_settings}
use Rattle.cubemap.specs.Promises.{ConvertCall, convert_call, ConvertPromise}
use Rattle.sequences.specs.declared.Codes.{Codes}
use Rattle.sequences.specs.Runs.{Keeping}
use Rattle.sequences.specs.Demand3.{Moved, Kept}

-- a frame of the shape z in the layout L
abbrev pub frame_of : Shape → List ℕ → List ℕ → Frame
frame_of z L bytes = record { shape = z; layout = L; bytes = bytes }

-- the call by the turn t, from such a frame to such a frame: the buffers before it, what it returned, the buffers after it
abbrev pub turn_call : Shape → ℕ → List ℕ → Rotation → List ℕ → List ℕ → ℕ → List ℕ → List ℕ → List ℕ → ConvertCall
turn_call z sampler L t source target returned layout_after source_after target_after =
    convert_call (convert_settings z z.size z.format sampler L L t) source target returned layout_after layout_after source_after target_after

-- by the turn `first` and then by `later`: what was lent, what the two calls returned, and what every lent buffer held afterwards
module _ (z : Shape) (sampler : ℕ) (L : List ℕ) (first later : Rotation) (source middle target : List ℕ) (r : Codes)
    (layout_after source_after middle_after target_after : List ℕ) where
  -- from the source into the middle; and from there, or from the source where that call was refused, into the target
  abbrev pub two_calls : List ConvertCall
  two_calls =
      turn_call z sampler L first source middle r.first layout_after source_after middle_after
      ∷ turn_call z sampler L later (cond (eqb r.first 0) middle_after source) target r.later layout_after
      (cond (eqb r.first 0) middle_after source_after) target_after
      ∷ []

  pub record TurnedTwice : Type 0 where
    -- whatever the turns are, both calls keep convert's promise
    pub made : Keeping ConvertPromise two_calls
    -- where the accepted ones are by whole-cube turns, the whole conclusion
    pub kept : (r.first ≡ 0 → CubeRotation first) → (r.later ≡ 0 → CubeRotation later) → Kept (frame_of z L source) two_calls
    -- so where both are accepted, each sample of the source stands unchanged exactly once in the target, at the place that the fold of the two turns
    -- gives
    pub moved : CubeRotation first → CubeRotation later → r.first ≡ 0 → r.later ≡ 0
        → Moved (frame_of z L source) (frame_of z L target_after) (compose_all (first ∷ later ∷ []))
