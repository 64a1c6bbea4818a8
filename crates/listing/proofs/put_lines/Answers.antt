-- `put_lines` meets its contract: after each record its line stands behind those before it, and the lines of the rest
-- are left.
use mathlib.Core.Path.{◌≡◌, sym, ◌∙◌, ap}
use mathlib.Core.List.{List}
use Prim.Native.Nat.{ℕ, ◌-◌}
use native.Mathlib.Omega.{arith}
use lib.ListN.{length, take, drop, length-drop}
use lib.Seq.{take_all}
use Rattle.cubemap.specs.Listing.{line, record_result}
use Rattle.cubemap.specs.Outcomes.{Result}
use Rattle.cubemap.proofs.Records.{passed}
use Rattle.listing.proofs.Texts.{put_is, room-is}
use Rattle.listing.proofs.Progress.{line-room, one_more, all_lines}
use Rattle.listing.proofs.put_lines.Goals as goal

-- the bytes from the record's first on
bytes : (input : List ℕ) (from : ℕ) → take (length input - from) (drop from input) ≡ drop from input
bytes input from = take_all (length input - from) (drop from input) (omega (arith, length-drop from input))

-- the record's line, and how many bytes are passed over
line-is : (input : List ℕ) (from k : ℕ) {r : Result} → r ≡ record_result (take (length input - from) (drop from input))
    → line k r ≡ line k (record_result (drop from input))
line-is input from k e = ap (line k) (e ∙ ap record_result (bytes input from))

length-is : (input : List ℕ) (from : ℕ) {n : ℕ} → n ≡ passed (take (length input - from) (drop from input))
    → n ≡ passed (drop from input)
length-is input from e = e ∙ ap passed (bytes input from)

pub put_line-end-requires : goal.put_line-end-requires
put_line-end-requires c =
    let input = c.args.input.now in
    let l = c.loop-from in
    room-is _ _ (sym (line-is input l.from l.k c.first_record-found.ensures.found))
    (line-room input l.invariant c.loop-from-test.true c.requires)

pub loop-from-preserved : goal.loop-from-preserved
loop-from-preserved c =
    let input = c.args.input.now in
    let l = c.loop-from in
    one_more input l.invariant c.loop-from-test.true (length-is input l.from c.first_record-found.ensures.length)
    (put_is (line-is input l.from l.k c.first_record-found.ensures.found) c.put_line-end.ensures)

pub returns : goal.returns
returns c = all_lines c.args.input.now c.loop-from.invariant c.loop-from-test.false
