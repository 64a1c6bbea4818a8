-- `print_listing` meets its contract: the bytes behind those that were read count as absent.
use Rattle.std.proofs.Common.{arith, ◌≡◌, ℕ, ◌<◌, ◌≤◌, ◌++◌, List, [], length, take, Some, None}
use Rattle.std.proofs.Common.{sym, ap, ◌∙◌, subst, length-take-le, ⊎_elim}
use Rattle.std.proofs.lemmas.Bool.{cases_lt}
use Rattle.std.proofs.lemmas.List.{append-nil}
use Rattle.std.proofs.Math.Seq.{take-append_seam}
use Rattle.std.specs.Prelude.{IfSome, IfOk, MatchResult, Result, Ok, Err}
use Rattle.std.specs.Io.KnownBytes.{Appends, Consumes, IsAtEnd}
use Rattle.std.specs.declared.option.Option.{Option}
use Rattle.cubemap.specs.Listing.{listing}
use Rattle.cubemap.proofs.Listings.{listing-limit}
use Rattle.rays.specs.declared.Failure.{Failure}
use Rattle.rays.proofs.print_listing.Goals as goal

-- More bytes change nothing: there are none where the buffer is not full, and else they lie beyond the limit.
all_listed : (n : ℕ) (buffer more : List ℕ) → length buffer ≡ 65536 → n ≤ length buffer
    → (n < length buffer → more ≡ []) → listing (take n buffer ++ more) ≡ listing (take n buffer)
all_listed n buffer more full within ends =
    ⊎_elim
    (λ short. ap (λ m. listing (take n buffer ++ m)) (ends short) ∙ ap listing (append-nil (take n buffer)))
    (λ whole. listing-limit (take n buffer) more (omega (arith, length-take-le n buffer within)))
    (cases_lt n (length buffer))

printed : (input left before after : Option (List ℕ)) (n : ℕ) (buffer : List ℕ)
    → length buffer ≡ 65536 → n ≤ length buffer
    → Consumes input left (take n buffer) → (n < length buffer → IsAtEnd left)
    → Appends before after (listing (take n buffer)) → IfSome input (λ bytes. Appends before after (listing bytes))
printed None left before after n buffer full within read ends written = tt
printed (Some bytes) None before after n buffer full within read ends written = absurd read
printed (Some bytes) (Some more) before after n buffer full within read ends written =
    subst (Appends before after) (sym (ap listing read ∙ all_listed n buffer more full within ends)) written

front_of : (text front behind : List ℕ) (n : ℕ) → n ≡ length front → text ≡ front ++ behind → take n text ≡ front
front_of text front behind n counts holds =
    ap (λ m. take m text) counts ∙ ap (λ t. take (length front) t) holds ∙ take-append_seam front behind

-- What holds of an Ok still holds of it where the errors were changed.
through : {T E : Type 0} (F : Type 0) (P : T → Type 0) (r : Result T E) (y : T) → MatchResult r (λ x. ◌≡◌ {A = Result T F} (Ok y) (Ok x)) (λ e. ⊥) → IfOk r P → P y
through F P (Ok x) y same p = let e : y ≡ x = cc in subst P (sym e) p
through F P (Err e) y same p = absurd same

pub returns : goal.returns
returns g c =
    let listed = c.list-written.ensures in
    let front = through Failure _ c.read_input.result c.in_ok-read.read c.in_ok-read.ensures.cases c.read_input.ensures.front in
    printed _ _ _ _ c.in_ok-read.read c.read_input.new.buffer (omega arith)
    (through Failure _ c.read_input.result c.in_ok-read.read c.in_ok-read.ensures.cases c.read_input.ensures.within) front.0 front.1
    (subst (Appends _ _) (front_of _ _ _ _ listed.counts listed.holds)
    (through Failure _ c.write_all.result c.in_ok-map_err.field-0 c.in_ok-map_err.ensures.cases c.write_all.ensures.bytes))
