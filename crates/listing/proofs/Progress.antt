-- How far a listing is: some lines are written, and those of the records from byte `from` on are left.
use mathlib.Core.Path.{◌≡◌, refl, sym, ◌∙◌, ap, ap₂}
use mathlib.Core.List.{List, [], ◌++◌, append-nil, append_assoc}
use Prim.Native.Nat.{ℕ, suc, ◌+◌, ◌≤◌, ◌<◌}
use native.Mathlib.Numerals.{add-one}
use native.Mathlib.Omega.{arith}
use lib.ListN.{length, drop, length-drop, drop_of_length-le}
use lib.Seq.{drop-drop}
use Rattle.cubemap.specs.Listing.{line, record_result}
use Rattle.cubemap.proofs.Records.{passed, passed-within, passed-some}
use Rattle.cubemap.proofs.Listings.{lines_from, lines_none, lines_next}
use Rattle.listing.specs.Texts.{Put}
use Rattle.listing.proofs.Texts.{put-none, put_then, put_is, room-is, room-first, room-then}

pub record Progress (before : List ℕ) (at : ℕ) (input after : List ℕ) (end k from : ℕ) : Type 0 where
  pub within : from ≤ length input
  pub counted : k ≤ from
  pub lines : List ℕ
  pub left : lines ++ lines_from k (drop from input) ≡ lines_from 0 input
  pub put : Put before at lines end after

module _ {before after : List ℕ} {at end k from : ℕ} (input : List ℕ) (p : Progress before at input after end k from) where
  rest : List ℕ
  rest = drop from input

  next-line : List ℕ
  next-line = line k (record_result rest)

  -- where a record begins
  module _ (h : from < length input) where
    some : 0 < length rest
    unfolding rest
    some = omega (arith, length-drop from input)

    lines_left : p.lines ++ (next-line ++ lines_from (suc k) (drop (passed rest) rest)) ≡ lines_from 0 input
    unfolding next-line rest
    lines_left = ap (λ l. p.lines ++ l) (sym (lines_next k rest some)) ∙ p.left

    pub line-room : at + length (lines_from 0 input) ≤ length before → end + length (line k (record_result (drop from input))) ≤ length after
    unfolding next-line rest
    line-room room =
        room-first _ _ next-line (lines_from (suc k) (drop (passed rest) rest))
        (room-then p.lines (next-line ++ lines_from (suc k) (drop (passed rest) rest)) p.put (room-is _ _ (sym lines_left) room))

    -- n bytes on, behind the record
    module _ {n : ℕ} (e : n ≡ passed (drop from input)) where
      pub goes_on : 0 < n
      unfolding rest
      goes_on = omega (arith, passed-some rest some)

      pub not_beyond : from + n ≤ length input
      unfolding rest
      not_beyond = omega (arith, passed-within rest, length-drop from input)

      pub one_more : {then : List ℕ} {next : ℕ} → Put after end (line k (record_result (drop from input))) next then
          → Progress before at input then next (k + 1) (from + n)
      unfolding next-line rest
      one_more q = record {
        within = not_beyond;
        counted = omega (arith, p.counted, goes_on);
        lines = p.lines ++ next-line;
        left = append_assoc p.lines next-line (lines_from (k + 1) (drop (from + n) input))
            ∙ ap₂ (λ m b. p.lines ++ (next-line ++ lines_from m b)) (add-one k)
            (ap (λ n. drop (from + n) input) e ∙ sym (drop-drop (passed rest) from input))
            ∙ lines_left;
        put = put_then p.lines next-line p.put q;
      }

  -- where none begins any more
  pub all_lines : length input ≤ from → Put before at (lines_from 0 input) end after
  all_lines h = put_is (sym (append-nil p.lines) ∙ ap (λ l. p.lines ++ l) (sym nothing) ∙ p.left) p.put
    where
      nothing : lines_from k (drop from input) ≡ []
      nothing = ap (lines_from k) (drop_of_length-le input h) ∙ lines_none k
