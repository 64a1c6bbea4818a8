-- `list` meets its contract: the header and then the lines of what counts, for which the buffer has room.
use mathlib.Core.Path.{◌≡◌, refl, sym, ◌∙◌, ap}
use mathlib.Core.List.{List, ◌++◌}
use Prim.Native.Nat.{ℕ, ◌+◌, ◌≤◌}
use native.Mathlib.Nat.{zero-add}
use native.Mathlib.Omega.{arith}
use lib.ListN.{length, take, drop}
use lib.Seq.{sets-eq, take_all, length-take-le}
use Rattle.cubemap.specs.Listing.{listing}
use Rattle.cubemap.specs.Promises.{ListingPromise}
use Rattle.cubemap.proofs.Listings.{lines_from, header, listing-lines}
use Rattle.cubemap.proofs.ListingLengths.{listing-length}
use Rattle.listing.specs.Texts.{Put}
use Rattle.listing.proofs.Texts.{put_then, put_is, room-is, room-then}
use borrow.Author.Rules.{rules}
use Rattle.listing.proofs.list.Goals as goal

-- the whole listing at the start of the buffer, with the rest of it as it was
whole : (input before after : List ℕ) (r : ℕ) → length (listing input) ≤ length before
    → Put before 0 (listing input) r after → ListingPromise input before r input after
whole input before after r h p = record {
  counts = p.ends ∙ zero-add (length (listing input));
  holds = p.holds ∙ sets-eq (listing input) before 0 (rw (zero-add (length (listing input))) h)
      ∙ ap (λ n. listing input ++ drop n before) (sym p.ends);
  input-stays = refl;
}

-- behind the header, with the bytes b of the input, which count
module _ (input b : List ℕ) (counts : take 65536 input ≡ b) where
  parts : listing input ≡ header ++ lines_from 0 b
  parts = listing-lines input ∙ ap (λ b. header ++ lines_from 0 b) counts

  module _ {text between : List ℕ} {at : ℕ} (fits : length (listing input) ≤ length text)
      (p : Put text 0 header at between) where
    lines-room : at + length (lines_from 0 b) ≤ length between
    lines-room = room-then header (lines_from 0 b) p (room-is _ _ parts (omega (arith, fits)))

    promised : {r : ℕ} {after : List ℕ} → Put between at (lines_from 0 b) r after
        → ListingPromise input text r input after
    promised q = whole input text _ _ fits (put_is (sym parts) (put_then header (lines_from 0 b) p q))

-- an input within the limit counts whole
short : (input : List ℕ) → length input ≤ 65536 → take 65536 input ≡ input
short input h = take_all 65536 input h

pub put_lines-requires : goal.put_lines-requires
put_lines-requires c =
    let input = c.args.input.now in
    let l = listing-length input in
    lines-room input input (short input c.if-input-le-LIMIT.true) (search rules) c.put_bytes-lines.ensures

pub returns-then-input-le-LIMIT : goal.returns-then-input-le-LIMIT
returns-then-input-le-LIMIT c =
    let input = c.args.input.now in
    let l = listing-length input in
    promised input input (short input c.if-input-le-LIMIT.true) (search rules)
    c.put_bytes-lines.ensures c.put_lines.ensures

pub slice_bounds-put_lines-end-else-input-le-LIMIT-2 : goal.slice_bounds-put_lines-end-else-input-le-LIMIT-2
slice_bounds-put_lines-end-else-input-le-LIMIT-2 c =
    sym (length-take-le 65536 c.args.input.now (omega (arith, c.if-input-le-LIMIT.false)))

pub put_lines-requires-else-input-le-LIMIT : goal.put_lines-requires-else-input-le-LIMIT
put_lines-requires-else-input-le-LIMIT c =
    let input = c.args.input.now in
    let l = listing-length input in
    lines-room input (take 65536 input) refl (search rules) c.put_bytes-lines.ensures

pub returns-else-input-le-LIMIT : goal.returns-else-input-le-LIMIT
returns-else-input-le-LIMIT c =
    let input = c.args.input.now in
    let l = listing-length input in
    promised input (take 65536 input) refl (search rules)
    c.put_bytes-lines.ensures c.put_lines-else-input-le-LIMIT.ensures
