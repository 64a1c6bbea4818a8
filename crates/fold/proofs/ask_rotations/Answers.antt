-- `ask_rotations` meets its contract: its two questions are asked one after the other.
use mathlib.Core.Path.{◌≡◌, refl, sym, ◌∙◌, ap, subst}
use mathlib.Core.Bool.{Bool, ◌&&◌}
use mathlib.Core.List.{[], ◌∷◌}
use borrow.Author.Rules.{rules}
use Rattle.std.specs.Prelude.{Result as Returned, Ok, Err}
use Rattle.cubemap.specs.declared.Refusal.{Refusal}
use Rattle.cubemap.specs.declared.Rotation.{Rotation}
use Rattle.cubemap.specs.Checks.{Check, check, first_failed, equal_checks, rotation_in_range, rotation_nonzero}
use Rattle.cubemap.specs.Outcomes.{converted_means}
use Rattle.checks.specs.Asking.{asked, asked_after}
use Rattle.checks.proofs.Chain.{Asking, start, next-asked, all_answered, ended-refused}
use Rattle.fold.proofs.ask_rotations.Goals as goal

module _ (first second : Rotation) where
  abbrev in_range : Check
  in_range = check 6 (rotation_in_range first && rotation_in_range second)

  abbrev nonzero : Check
  nonzero = check 7 (rotation_nonzero first && rotation_nonzero second)

  -- behind the first question
  one : {b : Bool} {x : Returned Unit Refusal} → x ≡ asked b Refusal.RotationRange
      → b ≡ (rotation_in_range first && rotation_in_range second)
      → Asking (in_range ∷ []) (nonzero ∷ []) (converted_means x)
  one e t = subst (λ x. Asking (in_range ∷ []) (nonzero ∷ []) (converted_means x)) (sym e)
      (next-asked (Ok tt) Refusal.RotationRange (start (in_range ∷ nonzero ∷ []) tt) t refl)

  -- where it is "no", the call ends
  refused : {b : Bool} {x : Returned Unit Refusal} {q : Refusal} → x ≡ asked b Refusal.RotationRange
      → b ≡ (rotation_in_range first && rotation_in_range second) → x ≡ Err q
      → converted_means (Err q) ≡ first_failed (equal_checks first second)
  unfolding equal_checks
  refused {q = q} e t r =
      ended-refused q (subst (λ x. Asking (in_range ∷ []) (nonzero ∷ []) (converted_means x)) r (one e t))

  -- where it is "yes", the second one answers
  answered : {b d : Bool} {x y : Returned Unit Refusal} → x ≡ asked b Refusal.RotationRange
      → b ≡ (rotation_in_range first && rotation_in_range second) → x ≡ Ok tt → y ≡ asked d Refusal.RotationZero
      → d ≡ (rotation_nonzero first && rotation_nonzero second)
      → converted_means y ≡ first_failed (equal_checks first second)
  unfolding equal_checks
  answered {d = d} {x = x} e t r f u =
      ap converted_means (f ∙ ap (λ x. asked_after x d Refusal.RotationZero) (sym r))
      ∙ all_answered (next-asked x Refusal.RotationZero (one e t) u refl)

pub returns-in_err-ask : goal.returns-in_err-ask
returns-in_err-ask c =
    let is : c.from_residual.result ≡ Err c.in_err-ask.field-0.0 = search rules in
    ap converted_means is
    ∙ refused c.args.first c.args.second c.ask.ensures (search rules) c.in_err-ask.was

pub returns : goal.returns
returns c =
    answered c.args.first c.args.second c.ask.ensures (search rules) c.in_ok-ask.was c.ask-2.ensures (search rules)
