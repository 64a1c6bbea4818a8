-- `put_line` meets its contract: the record's number, and then what was found.
use mathlib.Core.Path.{◌≡◌, sym, ◌∙◌, ap}
use mathlib.Core.List.{◌++◌}
use Prim.Native.Nat.{ℕ}
use lib.IntN.{pos}
use Rattle.std.specs.Prelude.{Result as Returned, Ok, Err}
use Rattle.cubemap.specs.declared.Located.{Located}
use Rattle.cubemap.specs.declared.Refusal.{Refusal}
use Rattle.cubemap.specs.Listing.{decimal, spaced, line}
use Rattle.cubemap.specs.Outcomes.{look_up_values, refusal, looked_up_means}
use Rattle.cubemap.proofs.Listings.{refused_text, outcome_text, line-number, line-accepted, line_refused}
use Rattle.listing.proofs.Texts.{put_then, put_is, room-is, room-first, room-then}
use Rattle.listing.proofs.put_line.Goals as goal

-- the line, by the case that the match found
located-line : (k : ℕ) {found : Returned Located Refusal} {p : Located} → found ≡ Ok p
    → line k (looked_up_means found) ≡ decimal (pos k) ++ spaced (look_up_values p)
located-line k {p = p} e = ap (λ r. line k (looked_up_means r)) e ∙ line-accepted k (look_up_values p)

refused-line : (k : ℕ) {found : Returned Located Refusal} {q : Refusal} → found ≡ Err q
    → line k (looked_up_means found) ≡ decimal (pos k) ++ refused_text (refusal q).number
refused-line k {q = q} e = ap (λ r. line k (looked_up_means r)) e ∙ line_refused k q

pub put_decimal-number-requires : goal.put_decimal-number-requires
put_decimal-number-requires c =
    let r = looked_up_means c.args.found in
    room-first _ _ (decimal (pos c.args.k)) (outcome_text r) (room-is _ _ (line-number c.args.k r) c.requires)

pub put_located-requires : goal.put_located-requires
put_located-requires c =
    room-then (decimal (pos c.args.k)) (spaced (look_up_values c.in-Ok.p)) c.put_decimal-number.ensures
    (room-is _ _ (located-line c.args.k c.in-Ok.is) c.requires)

pub put_refused-requires : goal.put_refused-requires
put_refused-requires c =
    room-then (decimal (pos c.args.k)) (refused_text (refusal c.in-Err.refused).number) c.put_decimal-number.ensures
    (room-is _ _ (refused-line c.args.k c.in-Err.is) c.requires)

pub returns-in-Ok : goal.returns-in-Ok
returns-in-Ok c =
    put_is (sym (located-line c.args.k c.in-Ok.is))
    (put_then (decimal (pos c.args.k)) (spaced (look_up_values c.in-Ok.p)) c.put_decimal-number.ensures
    c.put_located.ensures)

pub returns-in-Err : goal.returns-in-Err
returns-in-Err c =
    put_is (sym (refused-line c.args.k c.in-Err.is))
    (put_then (decimal (pos c.args.k)) (refused_text (refusal c.in-Err.refused).number) c.put_decimal-number.ensures
    c.put_refused.ensures)
