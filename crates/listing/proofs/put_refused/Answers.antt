-- `put_refused` meets its contract: the word, the number behind a space, and the line's end.
use mathlib.Core.Path.{◌≡◌, sym, ◌∙◌, ap}
use mathlib.Core.List.{List, ◌++◌}
use Prim.Native.Nat.{ℕ}
use lib.IntN.{pos}
use Rattle.cubemap.specs.Listing.{text}
use Rattle.cubemap.proofs.Listings.{behind_space, line_end, refused_text, refused-text}
use Rattle.listing.proofs.Texts.{put_then, put_is, room-is, room-first, room-then}
use Rattle.listing.proofs.put_refused.Goals as goal

abbrev word : List ℕ
word = text " refused"

-- the number and the line's end, and the line's parts by the number n that was found
abbrev behind_word : ℕ → List ℕ
behind_word n = behind_space (pos n) ++ line_end

parts : {m n : ℕ} → n ≡ m → refused_text m ≡ word ++ behind_word n
parts {m} e = refused-text m ∙ ap (λ n. word ++ behind_word n) (sym e)

pub put_spaced-end-requires : goal.put_spaced-end-requires
put_spaced-end-requires c =
    let n = c.number.result in
    room-first _ _ (behind_space (pos n)) line_end
    (room-then word (behind_word n) c.put_bytes-number.ensures (room-is _ _ (parts c.number.ensures.0) c.requires))

pub put_byte-requires : goal.put_byte-requires
put_byte-requires c =
    let n = c.number.result in
    room-then (behind_space (pos n)) line_end c.put_spaced-end.ensures
    (room-then word (behind_word n) c.put_bytes-number.ensures (room-is _ _ (parts c.number.ensures.0) c.requires))

pub returns : goal.returns
returns c =
    let n = c.number.result in
    put_is (sym (parts c.number.ensures.0))
    (put_then word (behind_word n) c.put_bytes-number.ensures
    (put_then (behind_space (pos n)) line_end c.put_spaced-end.ensures c.put_byte.ensures))
