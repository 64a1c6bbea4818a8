-- No listing has more than 174,600 bytes.
--
-- A refused record has a line of at most 12 bytes behind its number, and each record but the last takes six bytes of the input or more. So 65,536
-- bytes have at most 10,923 records, and refused ones come to 19 bytes of header, 12 a line, and the digits of the numbers below 10,923. A ray that
-- is found has a line of up to 15 bytes behind its number, three more; but its record takes 21 bytes, fifteen more. So lengths are counted five
-- times: each byte that a record takes beyond six pays for one fifth of a byte of its line.
use mathlib.Core.Path.{◌≡◌, refl}
use mathlib.Core.Bool.{Bool, true, false, cond}
use mathlib.Core.List.{List, [], ◌∷◌, ◌++◌, append-nil}
use Prim.Native.Nat.{ℕ, zero, suc, ◌+◌, ◌-◌, ◌*◌, ◌≤◌, ◌<◌, min}
use native.Mathlib.Omega.{arith}
use lib.ListN.{length, take, drop, length-append, length-take, length-drop}
use lib.IntN.{ℤ, pos, ◌-ℤ◌}
use Rattle.arithmetic.proofs.Sizes.{Difference, below, above, difference-cases}
use Rattle.arithmetic.proofs.Tests.{passes}
use Rattle.cubemap.specs.declared.Located.{Located}
use Rattle.cubemap.specs.declared.Ray.{Ray}
use Rattle.cubemap.specs.declared.Refusal.{Refusal}
use Rattle.cubemap.specs.Interface.{format_of, Answer, is_accepted}
use Rattle.cubemap.specs.RayToPlace.{locate}
use Rattle.cubemap.specs.Checks.{first_failed, look_up_checks}
use Rattle.cubemap.specs.Outcomes.{look_up_values, refusal, refused, look_up_result}
use Rattle.cubemap.specs.Listing.{record_length, record_size, record_format, record_ray, is_whole, is_ray_record, record_result}
use Rattle.cubemap.specs.Listing.{text, decimal, spaced, line, lines_of, listing}
use Rattle.cubemap.proofs.Records.{whole_is, record-cut, record-kind, record-ray, ray-record-length}
use Rattle.cubemap.proofs.Passed.{look-up-passed, look-up-number, size-range}
use Rattle.cubemap.proofs.Positions.{InRange, Shifted, in-range-shifted}
use Rattle.cubemap.proofs.Locate.{OnFace, locate-on-face}
use Rattle.cubemap.proofs.Decimals.{digits-most}
use Rattle.cubemap.proofs.Listings.{refused_text, line_refused, lines_from, header, listing-lines}

-- ---- numbers

-- how many numbers below k are below p
unfoldable capped : ℕ → ℕ → ℕ
capped p k = min k p

capped-most : (p k : ℕ) → capped p (suc k) ≤ suc (capped p k)
unfolding capped
capped-most p k = omega arith

capped-full : (p k : ℕ) → p ≤ k → capped p (suc k) ≡ capped p k
unfolding capped
capped-full p k h = omega arith

-- how many digits the numbers below k have less than five each
abbrev saved : ℕ → ℕ
saved k = capped 10 k + capped 100 k + capped 1000 k + capped 10000 k

number-length : (k : ℕ) → k < 100000 → length (decimal (pos k)) + saved (suc k) ≤ 5 + saved k
number-length k h = go (difference-cases k 10) (difference-cases k 100) (difference-cases k 1000) (difference-cases k 10000)
  where
    go : Difference k 10 → Difference k 100 → Difference k 1000 → Difference k 10000 → length (decimal (pos k)) + saved (suc k) ≤ 5 + saved k
    go (below l _) _ _ _ = omega (arith, digits-most 20 0 k l, capped-most 10 k, capped-most 100 k, capped-most 1000 k, capped-most 10000 k)
    go (above a _) (below l _) _ _ =
        omega (arith, digits-most 20 1 k l, capped-full 10 k a, capped-most 100 k, capped-most 1000 k, capped-most 10000 k)
    go (above a _) (above b _) (below l _) _ =
        omega (arith, digits-most 20 2 k l, capped-full 10 k a, capped-full 100 k b, capped-most 1000 k, capped-most 10000 k)
    go (above a _) (above b _) (above c _) (below l _) =
        omega (arith, digits-most 20 3 k l, capped-full 10 k a, capped-full 100 k b, capped-full 1000 k c, capped-most 10000 k)
    go (above a _) (above b _) (above c _) (above d _) =
        omega (arith, digits-most 20 4 k h, capped-full 10 k a, capped-full 100 k b, capped-full 1000 k c, capped-full 10000 k d)

-- ---- one line

-- a refused record's
refused-length : (k n : ℕ) → n ≤ 16 → length (decimal (pos k) ++ refused_text n) ≤ length (decimal (pos k)) + 12
unfolding spaced
refused-length k n h =
    let a = length-append (decimal (pos k)) (refused_text n) in
    let b = length-append (text " refused") (spaced (pos n ∷ [])) in
    let c = length-append (32 ∷ decimal (pos n)) (10 ∷ []) in
    omega (arith, digits-most 20 1 n (omega arith))

-- a T has at most five characters
position-length : (A : ℕ) (t : ℤ) → A ≤ 512 → InRange A t → length (decimal t) ≤ 5
position-length A t h r = go (in-range-shifted A t r)
  where
    signed : (q : ℕ) → q ≤ 32768 → Difference q 32 → length (decimal (pos q -ℤ pos 32)) ≤ 5
    signed q l (below _ e) = rw e (omega (arith, digits-most 20 1 (suc (32 - suc q)) (omega arith)))
    signed q l (above _ e) = rw e (digits-most 20 4 (q - 32) (omega arith))

    go : Shifted A t → length (decimal t) ≤ 5
    go w = rw w.is (signed w.shift (omega (arith, w.bounded)) (difference-cases w.shift 32))

-- a found ray's
located-length : (k A : ℕ) (p : Located) → A ≤ 512 → OnFace A p → length (decimal (pos k) ++ spaced (look_up_values p)) ≤ length (decimal (pos k)) + 15
unfolding spaced
located-length k A p h o =
    let f = digits-most 20 0 p.face (omega (arith, o.face-ok)) in
    let c = position-length A p.column h o.column-ok in
    let r = position-length A p.row h o.row_ok in
    let e₀ = length-append (decimal (pos k)) (spaced (look_up_values p)) in
    let e₁ = length-append (32 ∷ decimal (pos p.face)) (spaced (p.column ∷ p.row ∷ [])) in
    let e₂ = length-append (32 ∷ decimal p.column) (spaced (p.row ∷ [])) in
    let e₃ = length-append (32 ∷ decimal p.row) (10 ∷ []) in
    omega arith

looked-up-length : (k A format : ℕ) (v : Ray) → length (line k (look_up_result A format v)) ≤ length (decimal (pos k)) + 15
unfolding look_up_result line
looked-up-length k A format v = go (is_accepted a) refl
  where
    a : Answer
    a = first_failed (look_up_checks A format v)

    p : Located
    p = locate (format_of format) A v

    go : (b : Bool) → is_accepted a ≡ b
        → length (decimal (pos k) ++ cond b (spaced (cond b (look_up_values p) [])) (refused_text a.number)) ≤ length (decimal (pos k)) + 15
    go true e =
        let passed = look-up-passed A format v (passes e) in
        located-length k A p (size-range A passed.size).at_most (locate-on-face (format_of format) A v passed.nonzero)
    go false e = omega (arith, refused-length k a.number (look-up-number A format v))

-- the line of a record that is not whole
cut_line : (k : ℕ) (b : List ℕ) → is_whole b ≡ false → length (line k (record_result b)) ≤ length (decimal (pos k)) + 12
cut_line k b e = rw (record-cut b e, line_refused k Refusal.RecordCut) (refused-length k 16 (omega arith))

-- a line is paid for by the bytes of its record
line-length : (k : ℕ) (b : List ℕ) → 5 * length (line k (record_result b)) ≤ 5 * length (decimal (pos k)) + 54 + record_length b
line-length k b = go (is_whole b) (is_ray_record b) refl refl
  where
    refusal-line : (q : Refusal) → (refusal q).number ≤ 16 → record_result b ≡ refused q
        → 5 * length (line k (record_result b)) ≤ 5 * length (decimal (pos k)) + 54 + record_length b
    refusal-line q n e = rw (e, line_refused k q) (omega (arith, refused-length k (refusal q).number n))

    go : (w r : Bool) → is_whole b ≡ w → is_ray_record b ≡ r → 5 * length (line k (record_result b)) ≤ 5 * length (decimal (pos k)) + 54 + record_length b
    go false r ew er = refusal-line Refusal.RecordCut (omega arith) (record-cut b ew)
    go true false ew er = refusal-line Refusal.RecordKind (omega arith) (record-kind b ew er)
    go true true ew er = rw (record-ray b ew er)
        (omega (arith, looked-up-length k (record_size b) (record_format b) (record_ray b), ray-record-length b (passes er)))

-- ---- all lines

-- l bytes for the lines from record k on, in n bytes of input. With k = 0 and n = 65,536 it says that l is at most 174,581.
abbrev Bounded : ℕ → ℕ → ℕ → Type 0
Bounded l k n = 5 * l + 79 * k ≤ 807372 + 5 * saved k + n

-- no record is left; those in front took six bytes each or more
bounded-none : (k n : ℕ) → 6 * k + n ≤ 65536 → Bounded 0 k n
unfolding capped
bounded-none k n h = omega arith

-- the last line has l bytes, of a record that is not whole; its number has d digits
last-most : (k n : ℕ) → 6 * k + n ≤ 65536 → 0 < n → 85 + 79 * k ≤ 807372 + 5 * saved (suc k) + n
unfolding capped
last-most k n h p = omega arith

bounded-cut : (l d k n : ℕ) → 6 * k + n ≤ 65536 → 0 < n → l ≤ d + 12 → d + saved (suc k) ≤ 5 + saved k → Bounded l k n
bounded-cut l d k n h p e f = omega (arith, last-most k n h p)

-- a line of l bytes whose record takes r, and then the others
bounded-next : (l d r k m n : ℕ) → 5 * l ≤ 5 * d + 54 + r → d + saved (suc k) ≤ 5 + saved k → Bounded m (suc k) n → Bounded (l + m) k (r + n)
bounded-next l d r k m n e f g = omega arith

lines-length : (m k : ℕ) (b : List ℕ) → 6 * k + length b ≤ 65536 → Bounded (length (lines_of m k b)) k (length b)
unfolding lines_of
lines-length zero k b h = bounded-none k (length b) h
lines-length (suc m) k [] h = bounded-none k 0 h
lines-length (suc m) k (x ∷ b) h = go (is_whole (x ∷ b)) refl (λ g. lines-length m (suc k) (drop (record_length (x ∷ b)) (x ∷ b)) g)
  where
    B : List ℕ
    B = x ∷ b

    next : List ℕ
    next = drop (record_length B) B

    number : length (decimal (pos k)) + saved (suc k) ≤ 5 + saved k
    number = number-length k (omega arith)

    go : (w : Bool) → is_whole B ≡ w → (6 * suc k + length next ≤ 65536 → Bounded (length (lines_of m (suc k) next)) (suc k) (length next))
        → Bounded (length (line k (record_result B) ++ cond w (lines_of m (suc k) next) [])) k (length B)
    go true e ih =
        let l = length-drop (record_length B) B in
        let w = (whole_is B (passes e)).body in
        let a = length-append (line k (record_result B)) (lines_of m (suc k) next) in
        let n : length B ≡ record_length B + length next = omega arith in
        rw (a, n)
        (bounded-next (length (line k (record_result B))) (length (decimal (pos k))) (record_length B) k _ (length next)
        (line-length k B) number (ih (omega arith)))
    go false e ih =
        rw (append-nil (line k (record_result B)))
        (bounded-cut (length (line k (record_result B))) (length (decimal (pos k))) k (length B) h (omega arith) (cut_line k B e) number)

-- as many as an input of 65,536 bytes 0 has
pub listing-length : (input : List ℕ) → length (listing input) ≤ 174600
unfolding capped
listing-length input =
    let b : List ℕ = take 65536 input in
    let l = length-take 65536 input in
    let a = length-append header (lines_from 0 b) in
    rw (listing-lines input) (omega (arith, lines-length (length b) 0 b (omega arith)))
