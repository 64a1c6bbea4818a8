-- The paper, "The part on sale": the codes that go in, and how a number and an answer come out of a C call.
use Rattle.std.specs.Prelude.{Bool, cond, List, [], ◌∷◌, ◌++◌, ℕ, zero, suc, ◌+◌, ◌*◌, ◌-◌, ◌/◌, ◌%◌, ◌^◌, leb, eqb, length, take, drop, ℤ, pos, negsuc}
use Rattle.cubemap.specs.declared.Format.{Format}
use Rattle.cubemap.specs.declared.Sampler.{Sampler}

-- "CMP, code 0, and ACP, code 1": check 4 refuses every call that names another code
abbrev pub format_of : ℕ → Format
format_of zero = Format.Cmp
format_of (suc c) = Format.Acp

-- "Nearest, code 0", "Cubic, code 1": likewise
abbrev pub sampler_of : ℕ → Sampler
sampler_of zero = Sampler.Nearest
sampler_of (suc c) = Sampler.Cubic

-- ---- the number and the index

-- the number that a call ends with, and the index that comes with it: "Number 0 is acceptance."
pub record Answer : Type 0 where
  pub number : ℕ
  pub index : ℕ

abbrev pub answer : ℕ → ℕ → Answer
answer n i = record { number = n; index = i }

abbrev pub accepted : Answer
accepted = answer 0 0

abbrev pub is_accepted : Answer → Bool
is_accepted a = eqb a.number 0

-- "A C call returns its number plus 256 × the index."
abbrev pub return_code : Answer → ℕ
return_code a = a.number + 256 * a.index

-- ---- an answer in a lent buffer: "eight bytes a number, two's complement, little-endian"

-- the lowest n bytes of v, the low one first
abbrev pub little_endian : ℕ → ℕ → List ℕ
little_endian zero v = []
little_endian (suc n) v = v % 256 ∷ little_endian n (v / 256)

abbrev pub twos_complement : ℤ → ℕ
twos_complement (pos n) = n
twos_complement (negsuc n) = 2 ^ 64 - suc n

-- number k of the buffer becomes v: "A number that does not fit whole is not written, and every other byte stays."
unfoldable pub put_at : List ℕ → ℕ → ℤ → List ℕ
put_at buffer k v =
    cond (leb (8 * k + 8) (length buffer))
    (take (8 * k) buffer ++ little_endian 8 (twos_complement v) ++ drop (8 * k + 8) buffer)
    buffer

-- the numbers vs one by one, from number k on
unfoldable pub put_all : List ℕ → ℕ → List ℤ → List ℕ
put_all buffer k [] = buffer
put_all buffer k (v ∷ vs) = put_all (put_at buffer k v) (suc k) vs
