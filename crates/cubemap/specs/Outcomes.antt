-- What each call gives for every input: its number and index, its values, and the bytes of the buffer that it writes.
-- "For every input the promise covers the number, the index and each byte of lent memory afterwards"
use Rattle.std.specs.Prelude.{Bool, cond, List, [], ◌∷◌, ℕ, length, ℤ, pos, Result as Returned, Ok, Err}
use Rattle.cubemap.specs.declared.Format.{Format}
use Rattle.cubemap.specs.declared.Located.{Located}
use Rattle.cubemap.specs.declared.Place.{Place}
use Rattle.cubemap.specs.declared.Ray.{Ray}
use Rattle.cubemap.specs.declared.Refusal.{Refusal}
use Rattle.cubemap.specs.declared.Rotation.{Rotation}
use Rattle.cubemap.specs.declared.Sampler.{Sampler}
use Rattle.cubemap.specs.declared.Shape.{Shape}
use Rattle.cubemap.specs.declared.Sums.{Sums}
use Rattle.cubemap.specs.Interface.{format_of, sampler_of, Answer, answer, accepted, is_accepted, put_all}
use Rattle.cubemap.specs.Frames.{sample_at_place, plane_of}
use Rattle.cubemap.specs.PlaceToRay.{ray_of}
use Rattle.cubemap.specs.Rotations.{rotated, compose, same_rotation}
use Rattle.cubemap.specs.RayToPlace.{locate}
use Rattle.cubemap.specs.Samplers.{sample_from}
use Rattle.cubemap.specs.Score.{error_sum, weight_sum}
use Rattle.cubemap.specs.Checks.{ConvertSettings, ScoreSettings, code_ok, first_failed, convert_checks, score_checks, fold_checks, equal_checks, look_up_checks}

-- ---- what a call answers, and what it leaves in the buffer that it writes

-- a call's number and index, with its values: none where it is refused
pub record Result : Type 0 where
  pub answered : Answer
  pub values : List ℤ

abbrev pub result : Answer → List ℤ → Result
result a vs = record { answered = a; values = vs }

abbrev pub if_accepted : Answer → List ℤ → Result
if_accepted a vs = result a (cond (is_accepted a) vs [])

-- a call's number and index, and the bytes of the buffer that it writes
pub record Outcome : Type 0 where
  pub answered : Answer
  pub bytes : List ℕ

abbrev pub outcome : Answer → List ℕ → Outcome
outcome a bytes = record { answered = a; bytes = bytes }

-- the values of a result go into a lent buffer
abbrev pub written : Result → List ℕ → Outcome
written r buffer = outcome r.answered (put_all buffer 0 r.values)

-- ---- the values of each call: "fold's four numbers; look-up's face, column T, row T; score's two sums; equality's 1 or 0"

abbrev pub fold_values : Rotation → List ℤ
fold_values t = t.e0 ∷ t.e1 ∷ t.e2 ∷ t.e3 ∷ []

abbrev pub look_up_values : Located → List ℤ
look_up_values p = pos p.face ∷ p.column ∷ p.row ∷ []

abbrev pub score_values : ℕ → ℕ → List ℤ
score_values errors weights = pos errors ∷ pos weights ∷ []

abbrev pub equal_values : Bool → List ℤ
equal_values b = cond b (pos 1) (pos 0) ∷ []

-- ---- convert

-- where a ray of the target falls on a frame of this shape. "The matrix is applied to the target's ray and gives the source's ray."
unfoldable pub source_position : Shape → Rotation → Ray → Located
source_position z t r = locate (format_of z.format) z.size (rotated t r)

-- the sampler's value there: shape, layout and bytes of the source, sampler code, position
unfoldable pub value_at : Shape → List ℕ → List ℕ → ℕ → Located → ℕ
value_at z L bytes sampler p = sample_from (sampler_of sampler) z.size z.depth (sample_at_place bytes z.size L) p

-- the target's sample at a place
unfoldable pub converted_sample : ConvertSettings → List ℕ → Place → ℕ
converted_sample s source P =
    let r = ray_of (format_of s.target_format) s.target_size P in
    value_at s.source_shape s.source_layout source s.sampler (source_position s.source_shape s.rotation r)

unfoldable pub converted_bytes : ConvertSettings → List ℕ → List ℕ
converted_bytes s source = plane_of s.target_size s.target_layout (converted_sample s source)

-- "A conversion is accepted when none of convert's questions ends it; else it is refused.": the lengths of source and target, the source's bytes
unfoldable pub convert_answer : ConvertSettings → ℕ → ℕ → List ℕ → Answer
convert_answer s source_length target_length source = first_failed (convert_checks s source_length target_length source)

-- where a check fails, "All lent memory keeps its bytes."
unfoldable pub convert_outcome : ConvertSettings → List ℕ → List ℕ → Outcome
convert_outcome s source target =
    let a = convert_answer s (length source) (length target) source in
    outcome a (cond (is_accepted a) (converted_bytes s source) target)

-- ---- score

unfoldable pub score_result : ScoreSettings → List ℕ → List ℕ → Result
score_result s first second =
    let A = s.shape.size in
    let format = format_of s.shape.format in
    if_accepted (first_failed (score_checks s first second))
    (score_values
    (error_sum format A (sample_at_place first A s.first_layout) (sample_at_place second A s.second_layout))
    (weight_sum format A))

abbrev pub score_outcome : ScoreSettings → List ℕ → List ℕ → List ℕ → Outcome
score_outcome s first second buffer = written (score_result s first second) buffer

-- ---- fold, "with a test whether two turns are equal"

unfoldable pub fold_result : Rotation → Rotation → Result
fold_result first later = if_accepted (first_failed (fold_checks first later)) (fold_values (compose first later))

abbrev pub fold_outcome : Rotation → Rotation → List ℕ → Outcome
fold_outcome first later buffer = written (fold_result first later) buffer

unfoldable pub equal_result : Rotation → Rotation → Result
equal_result first second = if_accepted (first_failed (equal_checks first second)) (equal_values (same_rotation first second))

abbrev pub equal_outcome : Rotation → Rotation → List ℕ → Outcome
equal_outcome first second buffer = written (equal_result first second) buffer

-- ---- look up a ray: face size, format code, ray

unfoldable pub look_up_result : ℕ → ℕ → Ray → Result
look_up_result A format v = if_accepted (first_failed (look_up_checks A format v)) (look_up_values (locate (format_of format) A v))

abbrev pub look_up_outcome : ℕ → ℕ → Ray → List ℕ → Outcome
look_up_outcome A format v buffer = written (look_up_result A format v) buffer

-- ---- "Where an answer is an enum, a definition states this paper's number and values for each of its cases": `Ok` brings
-- the values of an accepted call, `Err` the refusal

abbrev pub refusal : Refusal → Answer
refusal Refusal.FaceSize = answer 1 0
refusal Refusal.TargetSize = answer 2 0
refusal Refusal.Depth = answer 3 0
refusal Refusal.Code = answer 4 0
refusal Refusal.Layout = answer 5 0
refusal Refusal.RotationRange = answer 6 0
refusal Refusal.RotationZero = answer 7 0
refusal Refusal.FirstLength = answer 8 0
refusal Refusal.SecondLength = answer 9 0
refusal (Refusal.FirstSample i) = answer 10 i
refusal (Refusal.SecondSample i) = answer 11 i
refusal Refusal.FoldedRange = answer 12 0
refusal Refusal.RayRange = answer 13 0
refusal Refusal.RayZero = answer 14 0
refusal Refusal.RecordKind = answer 15 0
refusal Refusal.RecordCut = answer 16 0

abbrev pub refused : Refusal → Result
refused r = result (refusal r) []

abbrev pub converted_means : Returned Unit Refusal → Answer
converted_means (Ok done) = accepted
converted_means (Err r) = refusal r

abbrev pub scored_means : Returned Sums Refusal → Result
scored_means (Ok s) = result accepted (score_values s.errors s.weights)
scored_means (Err r) = refused r

abbrev pub folded_means : Returned Rotation Refusal → Result
folded_means (Ok t) = result accepted (fold_values t)
folded_means (Err r) = refused r

abbrev pub compared_means : Returned Bool Refusal → Result
compared_means (Ok b) = result accepted (equal_values b)
compared_means (Err r) = refused r

abbrev pub looked_up_means : Returned Located Refusal → Result
looked_up_means (Ok p) = result accepted (look_up_values p)
looked_up_means (Err r) = refused r

-- ---- what a code that a call names stands for; check 4 refuses every code but 0 and 1

abbrev pub format_named : ℕ → Returned Format Refusal
format_named code = cond (code_ok code) (Ok (format_of code)) (Err Refusal.Code)

abbrev pub sampler_named : ℕ → Returned Sampler Refusal
sampler_named code = cond (code_ok code) (Ok (sampler_of code)) (Err Refusal.Code)
