-- "Nearest to slipping through": the wrong converters that the paper names, and a score with an invented sum; beside them one that another frame puts
-- off, and converters and scores that spoil what they read. Demand 3 is false of each; and of those that are wrong call by call, so is the promise.
use Rattle.std.specs.Prelude.{◌≡◌, cond, ◌⊎◌, List, [], ◌∷◌, map, ℕ}
use Rattle.cubemap.specs.Interface.{format_of, return_code}
use Rattle.cubemap.specs.Frames.{Frame, framed, plane_samples}
use Rattle.cubemap.specs.Score.{weight_sum}
use Rattle.cubemap.specs.Checks.{first_failed, score_checks}
use Rattle.cubemap.specs.Outcomes.{Result, if_accepted, score_values, convert_outcome, score_result, written}
use Rattle.cubemap.specs.Promises.{Gives, ConvertCall, ConvertPromise, ScoreCall, ScorePromise}
use Rattle.sequences.specs.Model.{told, answer_to, accepts}
use Rattle.sequences.specs.Runs.{left_by, Converter, Keeping}
use Rattle.sequences.specs.Demand3.{Scorer, Demand3}

-- ---- converters

-- a call that returns `code`, and what each lent buffer holds then
pub record Leaves (code : ℕ) (target source source_layout target_layout : List ℕ) (c : ConvertCall) : Type 0 where
  pub returns : c.returned ≡ code
  pub target-holds : c.target_after ≡ target
  pub source-holds : c.source_after ≡ source
  pub source-layout-holds : c.source_layout_after ≡ source_layout
  pub target-layout-holds : c.target_layout_after ≡ target_layout

-- one that keeps what it only reads
abbrev pub LeavesTarget : ℕ → List ℕ → ConvertCall → Type 0
LeavesTarget code target c = Leaves code target c.source c.settings.source_layout c.settings.target_layout c

-- what a call must return
abbrev pub code_of : ConvertCall → ℕ
code_of c = return_code (answer_to (told c) c.source)

-- a call that answers each question as it must, and writes `bytes` where it accepts
abbrev pub Writes : List ℕ → ConvertCall → Type 0
Writes bytes c = LeavesTarget (code_of c) (cond (accepts (told c) c.source) bytes c.target) c

-- "a converter that copies the frame and ignores the turn"
abbrev pub Copies : ConvertCall → Type 0
Copies c = Writes c.source c

-- "one that turns the first frame and copies later ones"
unfoldable pub TurnsFirst : Converter
TurnsFirst [] = Unit {0}
TurnsFirst (c ∷ cs) = ConvertPromise c × Keeping Copies cs

-- one that keeps its promise as long as each call reads the frame F, as the calls before leave it, and copies from the first call on that does not
unfoldable pub TurnsOnly : Frame → Converter
TurnsOnly F [] = Unit {0}
TurnsOnly F (c ∷ cs) =
    ((c.source ≡ F.bytes) × (ConvertPromise c × TurnsOnly (left_by F c) cs)) ⊎ ((c.source ≡ F.bytes → ⊥) × Keeping Copies (c ∷ cs))

-- the same, whatever its first frame is: it copies once another frame has come between
unfoldable pub TurnsUntilAnother : Converter
TurnsUntilAnother [] = Unit {0}
TurnsUntilAnother (c ∷ cs) = TurnsOnly (record { shape = c.settings.source_shape; layout = c.settings.source_layout; bytes = c.source }) (c ∷ cs)

-- "one flat grey for every call"
abbrev pub Grey : ConvertCall → Type 0
Grey c = Writes (framed 2 (λ i. 128) (plane_samples c.settings.target_size)) c

-- "one that writes nothing yet says 0": it refuses what it must
abbrev pub WritesNothing : ConvertCall → Type 0
WritesNothing c = Writes c.target c

-- "one that answers 1 to everything"
abbrev pub Answers1 : ConvertCall → Type 0
Answers1 c = LeavesTarget 1 c.target c

-- converters that answer and write as they must, and blank what they only read: the source, its layout or the target's
abbrev blank : List ℕ → List ℕ
blank bytes = map (λ b. 0) bytes

abbrev true_target : ConvertCall → List ℕ
true_target c = (convert_outcome c.settings c.source c.target).bytes

abbrev pub BlanksSource : ConvertCall → Type 0
BlanksSource c = Leaves (code_of c) (true_target c) (blank c.source) c.settings.source_layout c.settings.target_layout c

abbrev pub BlanksSourceLayout : ConvertCall → Type 0
BlanksSourceLayout c = Leaves (code_of c) (true_target c) c.source (blank c.settings.source_layout) c.settings.target_layout c

abbrev pub BlanksTargetLayout : ConvertCall → Type 0
BlanksTargetLayout c = Leaves (code_of c) (true_target c) c.source c.settings.source_layout (blank c.settings.target_layout) c

-- one that blanks the target of a call that it refuses
abbrev pub BlanksRefused : ConvertCall → Type 0
BlanksRefused c = LeavesTarget (code_of c) (cond (accepts (told c) c.source) (true_target c) (blank c.target)) c

-- ---- scorers

-- a score call that gives the result r, and what each buffer that it only reads holds then
pub record ScoreLeaves (r : Result) (first second first_layout second_layout : List ℕ) (c : ScoreCall) : Type 0 where
  pub gives : Gives (written r c.buffer) c.returned c.buffer_after
  pub first_holds : c.first_after ≡ first
  pub second_holds : c.second_after ≡ second
  pub first-layout-holds : c.first_layout_after ≡ first_layout
  pub second-layout-holds : c.second_layout_after ≡ second_layout

-- "a score with an invented sum": it answers each question as it must and has the sum of the weights, and its error sum is always 1
abbrev invented : ScoreCall → Result
invented c =
    if_accepted (first_failed (score_checks c.settings c.first c.second))
    (score_values 1 (weight_sum (format_of c.settings.shape.format) c.settings.shape.size))

abbrev pub Invents : Scorer
Invents c = ScoreLeaves (invented c) c.first c.second c.settings.first_layout c.settings.second_layout c

-- scorers that give the paper's score and blank what they only read: the first frame, the second, the first layout or the second
abbrev true_score : ScoreCall → Result
true_score c = score_result c.settings c.first c.second

abbrev pub BlanksFirst : Scorer
BlanksFirst c = ScoreLeaves (true_score c) (blank c.first) c.second c.settings.first_layout c.settings.second_layout c

abbrev pub BlanksSecond : Scorer
BlanksSecond c = ScoreLeaves (true_score c) c.first (blank c.second) c.settings.first_layout c.settings.second_layout c

abbrev pub BlanksFirstLayout : Scorer
BlanksFirstLayout c = ScoreLeaves (true_score c) c.first c.second (blank c.settings.first_layout) c.settings.second_layout c

abbrev pub BlanksSecondLayout : Scorer
BlanksSecondLayout c = ScoreLeaves (true_score c) c.first c.second c.settings.first_layout (blank c.settings.second_layout) c

-- ---- what demand 3 excludes

pub record Excluded : Type 1 where
  pub copies : (S : Scorer) → Demand3 (Keeping Copies) S → ⊥
  pub turns-first : (S : Scorer) → Demand3 TurnsFirst S → ⊥
  pub turns-until-another : (S : Scorer) → Demand3 TurnsUntilAnother S → ⊥
  pub grey : (S : Scorer) → Demand3 (Keeping Grey) S → ⊥
  pub writes_nothing : (S : Scorer) → Demand3 (Keeping WritesNothing) S → ⊥
  pub answers-1 : (S : Scorer) → Demand3 (Keeping Answers1) S → ⊥
  pub blanks-source : (S : Scorer) → Demand3 (Keeping BlanksSource) S → ⊥
  pub blanks-source-layout : (S : Scorer) → Demand3 (Keeping BlanksSourceLayout) S → ⊥
  pub blanks-target-layout : (S : Scorer) → Demand3 (Keeping BlanksTargetLayout) S → ⊥
  pub blanks-refused : (S : Scorer) → Demand3 (Keeping BlanksRefused) S → ⊥
  pub invents : (M : Converter) → Demand3 M Invents → ⊥
  pub blanks-first : (M : Converter) → Demand3 M BlanksFirst → ⊥
  pub blanks-second : (M : Converter) → Demand3 M BlanksSecond → ⊥
  pub blanks-first-layout : (M : Converter) → Demand3 M BlanksFirstLayout → ⊥
  pub blanks-second-layout : (M : Converter) → Demand3 M BlanksSecondLayout → ⊥

-- ---- what demand 2 excludes: such a call need not keep convert's promise, or score's

pub record BreakPromises : Type 0 where
  pub copies : ((c : ConvertCall) → Copies c → ConvertPromise c) → ⊥
  pub grey : ((c : ConvertCall) → Grey c → ConvertPromise c) → ⊥
  pub writes_nothing : ((c : ConvertCall) → WritesNothing c → ConvertPromise c) → ⊥
  pub answers-1 : ((c : ConvertCall) → Answers1 c → ConvertPromise c) → ⊥
  pub invents : ((c : ScoreCall) → Invents c → ScorePromise c) → ⊥
