-- `put_located` meets its contract: face, column and row, each behind a space, and the line's end.
use mathlib.Core.Path.{sym}
use mathlib.Core.List.{List, ◌++◌}
use Prim.Native.Nat.{ℕ}
use lib.IntN.{pos}
use borrow.Author.Rules.{rules}
use Rattle.cubemap.specs.declared.Located.{Located}
use Rattle.cubemap.proofs.Listings.{behind_space, line_end, located-text}
use Rattle.listing.proofs.Texts.{put_then, put_is, put-read, room-is, room-first, room-then, room-read}
use Rattle.listing.proofs.put_located.Goals as goal

-- the line's parts
module _ (p : Located) where
  abbrev face : List ℕ
  face = behind_space (pos p.face)

  abbrev column : List ℕ
  column = behind_space p.column

  abbrev row : List ℕ
  row = behind_space p.row

  abbrev behind_column : List ℕ
  behind_column = row ++ line_end

  abbrev behind_face : List ℕ
  behind_face = column ++ behind_column

pub put_spaced-column-requires : goal.put_spaced-column-requires
put_spaced-column-requires c =
    let p = c.args.p in
    room-first _ _ (face p) (behind_face p) (room-is _ _ (located-text p) c.requires)

pub put_spaced-row-requires : goal.put_spaced-row-requires
put_spaced-row-requires c =
    let p = c.args.p in
    let line = room-is _ _ (located-text p) c.requires in
    let room = room-then (face p) (behind_face p) c.put_spaced-column.ensures line in
    room-read behind_space p.column (search rules) _ _ (room-first _ _ (column p) (behind_column p) room)

pub put_spaced-end-requires : goal.put_spaced-end-requires
put_spaced-end-requires c =
    let p = c.args.p in
    let line = room-is _ _ (located-text p) c.requires in
    let room = room-then (face p) (behind_face p) c.put_spaced-column.ensures line in
    let put-column = put-read behind_space p.column (search rules) c.put_spaced-row.ensures in
    room-read behind_space p.row (search rules) _ _
    (room-first _ _ (row p) line_end (room-then (column p) (behind_column p) put-column room))

pub put_byte-requires : goal.put_byte-requires
put_byte-requires c =
    let p = c.args.p in
    let line = room-is _ _ (located-text p) c.requires in
    let room = room-then (face p) (behind_face p) c.put_spaced-column.ensures line in
    let put-column = put-read behind_space p.column (search rules) c.put_spaced-row.ensures in
    let put-row = put-read behind_space p.row (search rules) c.put_spaced-end.ensures in
    room-then (row p) line_end put-row (room-then (column p) (behind_column p) put-column room)

pub returns : goal.returns
returns c =
    let p = c.args.p in
    let put-column = put-read behind_space p.column (search rules) c.put_spaced-row.ensures in
    let put-row = put-read behind_space p.row (search rules) c.put_spaced-end.ensures in
    put_is (sym (located-text p))
    (put_then (face p) (behind_face p) c.put_spaced-column.ensures
    (put_then (column p) (behind_column p) put-column (put_then (row p) line_end put-row c.put_byte.ensures)))
