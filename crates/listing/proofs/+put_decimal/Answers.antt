-- `put_decimal` meets its contract: the digits in front of the last one, and then the last one.
use mathlib.Core.List.{[], ◌∷◌, ◌++◌}
use mathlib.Core.Path.{sym}
use Prim.Native.Nat.{ℕ, ◌+◌, ◌/◌, ◌%◌, ◌≤◌, ◌<◌, ◌^◌}
use native.Mathlib.Omega.{arith}
use lib.IntN.{pos}
use lib.ListN.{length}
use Rattle.cubemap.specs.Listing.{decimal}
use Rattle.cubemap.proofs.Decimals.{decimal_digit, decimal-digits}
use Rattle.listing.proofs.Texts.{put_then, put_is, room-is, room-first, room-then}
use Rattle.listing.proofs.+put_decimal.Goals as goal

-- room for the digits in front of the last one, and for the last one
room : (size at n : ℕ) → 10 ≤ n → n < 2 ^ 64 → at + length (decimal (pos n)) ≤ size
    → at + length (decimal (pos (n / 10)) ++ ((48 + n % 10) ∷ [])) ≤ size
room size at n h l r = room-is size at (decimal-digits n h l) r

pub put_byte-requires : goal.put_byte-requires
put_byte-requires t c = room-is _ _ (decimal_digit c.args.n c.if-n-lt10.true) c.requires

pub returns-then-n-lt10 : goal.returns-then-n-lt10
returns-then-n-lt10 t c = put_is (sym (decimal_digit c.args.n c.if-n-lt10.true)) c.put_byte.ensures

pub put_decimal-last-requires : goal.put_decimal-last-requires
put_decimal-last-requires t c =
    let n = c.args.n in (
      omega arith,
      room-first _ _ (decimal (pos (n / 10))) (_ ∷ []) (room _ _ n c.if-n-lt10.false c.ranges.n.fits c.requires),
    )

pub put_byte-requires-2 : goal.put_byte-requires-2
put_byte-requires-2 t c =
    let n = c.args.n in
    room-then (decimal (pos (n / 10))) (_ ∷ []) c.put_decimal-last.ensures
    (room _ _ n c.if-n-lt10.false c.ranges.n.fits c.requires)

pub returns : goal.returns
returns t c =
    let n = c.args.n in
    put_is (sym (decimal-digits n c.if-n-lt10.false c.ranges.n.fits))
    (put_then (decimal (pos (n / 10))) ((48 + n % 10) ∷ []) c.put_decimal-last.ensures c.put_byte-2.ensures)
