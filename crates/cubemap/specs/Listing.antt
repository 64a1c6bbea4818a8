-- The paper, "The listing program": all that `rays` writes, as a function of what it reads.
use Rattle.std.specs.Prelude.{Bool, ◌&&◌, cond, List, [], ◌∷◌, ◌++◌, ℕ, zero, suc, ◌+◌, ◌*◌, ◌-◌, ◌/◌, ◌%◌, ◌^◌, leb, ltb, eqb, length, take, drop, get_or, ℤ, pos, negsuc}
use Prim.Native.Char.{code}
use Prim.Native.String.{String, len, char_at}
use Rattle.cubemap.specs.declared.Ray.{Ray}
use Rattle.cubemap.specs.Interface.{is_accepted}
use Rattle.cubemap.specs.PlaceToRay.{ray}
use Rattle.cubemap.specs.Checks.{Check, check, first_failed}
use Rattle.cubemap.specs.Outcomes.{Result, result, look_up_result}

-- ---- records: "length of the body, 4 bytes; kind, 2 bytes; body". The definitions take the input from a record on.

-- the number in the n bytes from byte i on, little-endian
abbrev pub read_from : List ℕ → ℕ → ℕ → ℕ
read_from b i zero = 0
read_from b i (suc n) = get_or b i 0 + 256 * read_from b (i + 1) n

-- four bytes in two's complement
abbrev pub signed32 : ℕ → ℤ
signed32 v = cond (ltb v (2 ^ 31)) (pos v) (negsuc (2 ^ 32 - suc v))

abbrev pub body_length : List ℕ → ℕ
body_length b = read_from b 0 4

abbrev pub kind : List ℕ → ℕ
kind b = read_from b 4 2

abbrev pub record_length : List ℕ → ℕ
record_length b = 6 + body_length b

-- "Body of kind 1: format, 1 byte; face size, 2; X, Y, Z, 4 each, two's complement"
abbrev pub record_format : List ℕ → ℕ
record_format b = read_from b 6 1

abbrev pub record_size : List ℕ → ℕ
record_size b = read_from b 7 2

abbrev pub record_ray : List ℕ → Ray
record_ray b = ray (signed32 (read_from b 9 4)) (signed32 (read_from b 13 4)) (signed32 (read_from b 17 4))

-- 16: "A record of one byte or more whose six leading bytes or body are cut short is not whole"
unfoldable pub is_whole : List ℕ → Bool
is_whole b = leb 6 (length b) && leb (record_length b) (length b)

-- 15: "Is the record's kind 1 with length 15?"
unfoldable pub is_ray_record : List ℕ → Bool
is_ray_record b = eqb (kind b) 1 && eqb (body_length b) 15

-- "The program puts 16, 15, then the look-up's."
unfoldable pub record_checks : List ℕ → List Check
record_checks b = check 16 (is_whole b) ∷ check 15 (is_ray_record b) ∷ []

unfoldable pub record_result : List ℕ → Result
record_result b =
    let a = first_failed (record_checks b) in
    cond (is_accepted a) (look_up_result (record_size b) (record_format b) (record_ray b)) (result a [])

-- ---- text

-- n in decimal, of at most k digits ('0' is 48)
unfoldable pub digits : ℕ → ℕ → List ℕ
digits zero n = []
digits (suc k) n = cond (ltb n 10) ((48 + n) ∷ []) (digits k (n / 10) ++ ((48 + n % 10) ∷ []))

-- "all decimal": every number written here is below 10^20 in size; a negative one begins with '-', 45
abbrev pub decimal : ℤ → List ℕ
decimal (pos n) = digits 20 n
decimal (negsuc n) = 45 ∷ digits 20 (suc n)

-- the bytes of a text whose characters take one byte each
abbrev bytes_from : String → ℕ → ℕ → List ℕ
bytes_from s zero i = []
bytes_from s (suc n) i = code (char_at s i) ∷ bytes_from s n (suc i)

abbrev pub text : String → List ℕ
text s = bytes_from s (len s) 0

-- each number behind a space, then the end of the line
unfoldable pub spaced : List ℤ → List ℕ
spaced [] = text "\n"
spaced (v ∷ vs) = text " " ++ decimal v ++ spaced vs

-- "Lines: record number from 0, face, column T, row T, all decimal; or record number, `refused`, number."
unfoldable pub line : ℕ → Result → List ℕ
line k r =
    decimal (pos k)
    ++ cond (is_accepted r.answered) (spaced r.values) (text " refused" ++ spaced (pos r.answered.number ∷ []))

-- ---- the listing

-- the lines of the records in b, from record number k on, of at most `most` records. Where a record is not whole, "its line says `refused` 16 and the
-- run ends there"; every other one "is passed over by its length".
unfoldable pub lines_of : ℕ → ℕ → List ℕ → List ℕ
lines_of zero k b = []
lines_of (suc most) k [] = []
lines_of (suc most) k (x ∷ b) =
    line k (record_result (x ∷ b))
    ++ cond (is_whole (x ∷ b)) (lines_of most (suc k) (drop (record_length (x ∷ b)) (x ∷ b))) []

-- "Input beyond 65,536 bytes counts as absent." "Empty input prints the header alone." There are no more records than bytes.
unfoldable pub listing : List ℕ → List ℕ
listing input = let b = take 65536 input in text "at face column row\n" ++ lines_of (length b) 0 b
