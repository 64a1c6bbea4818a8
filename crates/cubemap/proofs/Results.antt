-- What a call that answers with values gives, by the answer that its checks come to.
use mathlib.Core.Path.{◌≡◌, refl, sym, ◌∙◌, ap}
use mathlib.Core.Bool.{cond}
use mathlib.Core.List.{List, []}
use Prim.Native.Nat.{ℕ}
use lib.IntN.{ℤ}
use Rattle.cubemap.specs.declared.Ray.{Ray}
use Rattle.cubemap.specs.declared.Refusal.{Refusal}
use Rattle.cubemap.specs.declared.Rotation.{Rotation}
use Rattle.cubemap.specs.Interface.{format_of, Answer}
use Rattle.cubemap.specs.Frames.{sample_at_place}
use Rattle.cubemap.specs.Rotations.{compose, same_rotation}
use Rattle.cubemap.specs.RayToPlace.{locate}
use Rattle.cubemap.specs.Score.{error_sum, weight_sum}
use Rattle.cubemap.specs.Checks.{ScoreSettings, first_failed, score_checks, equal_checks, fold_checks, look_up_checks}
use Rattle.cubemap.specs.Outcomes.{result, if_accepted, refusal, refused, score_values, fold_values, equal_values, look_up_values}
use Rattle.cubemap.specs.Outcomes.{score_result, fold_result, equal_result, look_up_result}
use Rattle.cubemap.proofs.Answers.{not-accepted}

-- ---- of any call

pub refused-gives : (q : Refusal) {a : Answer} (vs : List ℤ) → refusal q ≡ a → refused q ≡ if_accepted a vs
refused-gives q vs e = ap (λ b. result (refusal q) (cond b vs [])) (sym (not-accepted q)) ∙ ap (λ a. if_accepted a vs) e

-- ---- of each

-- the error sum that a call names
abbrev pub errors_of : ScoreSettings → List ℕ → List ℕ → ℕ
errors_of s x y = error_sum (format_of s.shape.format) s.shape.size
    (sample_at_place x s.shape.size s.first_layout) (sample_at_place y s.shape.size s.second_layout)

pub score-is : (s : ScoreSettings) (first second : List ℕ)
    → if_accepted (first_failed (score_checks s first second))
    (score_values (errors_of s first second) (weight_sum (format_of s.shape.format) s.shape.size))
    ≡ score_result s first second
unfolding score_result
score-is s first second = refl

pub fold_is : (a b : Rotation) → if_accepted (first_failed (fold_checks a b)) (fold_values (compose a b)) ≡ fold_result a b
unfolding fold_result
fold_is a b = refl

pub equal_is : (a b : Rotation) → if_accepted (first_failed (equal_checks a b)) (equal_values (same_rotation a b)) ≡ equal_result a b
unfolding equal_result
equal_is a b = refl

pub look-up-is : (A format : ℕ) (v : Ray)
    → if_accepted (first_failed (look_up_checks A format v)) (look_up_values (locate (format_of format) A v)) ≡ look_up_result A format v
unfolding look_up_result
look-up-is A format v = refl
