-- `score` meets its contract: the questions decide, and where none of them ends the call, the two sums are given.
use mathlib.Core.Path.{◌≡◌, refl, sym, ◌∙◌, ap, ap₂, subst, subst₂}
use mathlib.Core.List.{List}
use Prim.Native.Nat.{ℕ}
use lib.Dec.{T}
use lib.IntN.{ℤ}
use Rattle.std.specs.Prelude.{Ok}
use Rattle.std.proofs.lemmas.Result.{err_from_is_err_and}
use Rattle.cubemap.specs.declared.Shape.{Shape}
use Rattle.cubemap.specs.Interface.{Answer, accepted, is_accepted}
use Rattle.cubemap.specs.Frames.{Frame}
use Rattle.cubemap.specs.Checks.{score_settings}
use Rattle.cubemap.specs.Outcomes.{scored_means, result, if_accepted}
use Rattle.cubemap.proofs.Layouts.{layout-holds}
use Rattle.cubemap.proofs.Passed.{ScorePassed, score-passed}
use Rattle.cubemap.proofs.Results.{refused-gives, score-is}
use Rattle.scoring.specs.Comparing.{Comparable, sums_of}
use Rattle.scoring.proofs.score.Goals.{In_ok-score_answer}
use Rattle.scoring.proofs.score.Goals as goal

passed : (c : In_ok-score_answer) → let a = c.args in
    ScorePassed (score_settings a.shape a.first_layout.now a.second_layout.now) a.first.now a.second.now
passed c = score-passed _ _ _ (subst (λ a. T (is_accepted a)) c.in_ok-score_answer.ensures tt)

-- an accepted call gives its values
accepted-gives : {a : Answer} (vs : List ℤ) → accepted ≡ a → result accepted vs ≡ if_accepted a vs
accepted-gives vs e = ap (λ a. if_accepted a vs) e

-- a frame of the call's shape
abbrev frame_with : Shape → List ℕ → List ℕ → Frame
frame_with z L bytes = record { shape = z; layout = L; bytes = bytes }

pub returns-in_err-score_answer : goal.returns-in_err-score_answer
returns-in_err-score_answer c =
    let p = err_from_is_err_and c.from_residual.result c.from_residual.ensures.1 in
    rw (p.1, p.2) (refused-gives c.in_err-score_answer.field-0.0 _ c.in_err-score_answer.ensures ∙ score-is _ _ _)

pub layout_of-requires : goal.layout_of-requires
layout_of-requires c = (layout-holds _ (passed c).first-layout).twelve_bytes

pub layout_of-requires-2 : goal.layout_of-requires-2
layout_of-requires-2 c =
    (layout-holds _ (passed (goal.at.layout_of-requires-2 c).In_ok-score_answer).second-layout).twelve_bytes

pub sums_of-requires : goal.sums_of-requires
sums_of-requires c =
    let t = (goal.at.sums_of-requires c).In_ok-score_answer in (
      subst₂ (λ L M. Comparable (frame_with c.args.shape L c.args.first.now) (frame_with c.args.shape M c.args.second.now))
          (sym c.layout_of.ensures) (sym c.layout_of-2.ensures)
          (record { one-shape = refl; passed = passed t }),
      c.format_of-format.ensures,
    )

pub returns : goal.returns
returns c =
    ap (λ s. scored_means (Ok s)) (c.sums_of.ensures
    ∙ ap₂ (λ L M. sums_of (frame_with c.args.shape L c.args.first.now) (frame_with c.args.shape M c.args.second.now))
    c.layout_of.ensures c.layout_of-2.ensures)
    ∙ accepted-gives _ c.in_ok-score_answer.ensures ∙ score-is _ _ _
