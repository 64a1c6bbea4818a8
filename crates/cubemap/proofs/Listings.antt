-- The listing: what a line is made of, and a line for each record with those of the records behind it.
use mathlib.Core.Path.{◌≡◌, refl, sym, ◌∙◌, ap}
use mathlib.Core.Bool.{Bool, true, false, cond}
use mathlib.Core.List.{List, [], ◌∷◌, ◌++◌}
use Prim.Native.Nat.{ℕ, zero, suc, ◌≤◌, ◌<◌}
use native.Mathlib.Nat.{le_refl}
use native.Mathlib.Omega.{arith}
use lib.ListN.{length, take, drop, length-drop}
use lib.IntN.{ℤ, pos}
use lib.Seq.{drop-length, take-append-le}
use Rattle.cubemap.specs.declared.Located.{Located}
use Rattle.cubemap.specs.declared.Refusal.{Refusal}
use Rattle.cubemap.specs.Interface.{accepted, is_accepted}
use Rattle.cubemap.specs.Outcomes.{Result, result, look_up_values, refusal, refused}
use Rattle.cubemap.specs.Listing.{record_length, is_whole, record_result}
use Rattle.cubemap.specs.Listing.{text, decimal, spaced, line, lines_of, listing}
use Rattle.cubemap.proofs.Answers.{not-accepted}
use Rattle.cubemap.proofs.Records.{passed}

-- ---- lines

abbrev pub behind_space : ℤ → List ℕ
behind_space v = text " " ++ decimal v

-- the end of a line
abbrev pub line_end : List ℕ
line_end = text "\n"

pub located-text : (p : Located)
    → spaced (look_up_values p) ≡ behind_space (pos p.face) ++ (behind_space p.column ++ (behind_space p.row ++ line_end))
unfolding spaced
located-text p = refl

abbrev pub refused_text : ℕ → List ℕ
refused_text n = text " refused" ++ spaced (pos n ∷ [])

pub refused-text : (n : ℕ) → refused_text n ≡ text " refused" ++ (behind_space (pos n) ++ line_end)
unfolding spaced
refused-text n = refl

-- a line begins with the record's number
abbrev pub outcome_text : Result → List ℕ
outcome_text r = cond (is_accepted r.answered) (spaced r.values) (refused_text r.answered.number)

pub line-number : (k : ℕ) (r : Result) → line k r ≡ decimal (pos k) ++ outcome_text r
unfolding line
line-number k r = refl

pub line-accepted : (k : ℕ) (vs : List ℤ) → line k (result accepted vs) ≡ decimal (pos k) ++ spaced vs
line-accepted k vs = line-number k (result accepted vs)

pub line_refused : (k : ℕ) (q : Refusal) → line k (refused q) ≡ decimal (pos k) ++ refused_text (refusal q).number
line_refused k q =
    line-number k (refused q) ∙ ap (λ b. decimal (pos k) ++ cond b (spaced []) (refused_text (refusal q).number)) (not-accepted q)

-- ---- the lines of the records in b, from record number k on

abbrev pub lines_from : ℕ → List ℕ → List ℕ
lines_from k b = lines_of (length b) k b

-- what is left behind a record is shorter
shorter : (m x : ℕ) (b : List ℕ) → length (x ∷ b) ≤ suc m → length (drop (record_length (x ∷ b)) (x ∷ b)) ≤ m
shorter m x b h = omega (arith, length-drop (record_length (x ∷ b)) (x ∷ b))

-- there are no more records than bytes, so that a higher bound on their number changes nothing
enough : (m n k : ℕ) (b : List ℕ) → length b ≤ m → length b ≤ n → lines_of m k b ≡ lines_of n k b
unfolding lines_of
enough zero zero k [] h g = refl
enough zero (suc n) k [] h g = refl
enough (suc m) zero k [] h g = refl
enough (suc m) (suc n) k [] h g = refl
enough zero n k (x ∷ b) h g = absurd (omega arith)
enough (suc m) zero k (x ∷ b) h g = absurd (omega arith)
enough (suc m) (suc n) k (x ∷ b) h g =
    ap (λ rest. line k (record_result (x ∷ b)) ++ cond (is_whole (x ∷ b)) rest [])
    (enough m n (suc k) (drop (record_length (x ∷ b)) (x ∷ b)) (shorter m x b h) (shorter n x b g))

pub lines_none : (k : ℕ) → lines_from k [] ≡ []
unfolding lines_of
lines_none k = refl

pub lines_next : (k : ℕ) (b : List ℕ) → 0 < length b → lines_from k b ≡ line k (record_result b) ++ lines_from (suc k) (drop (passed b) b)
unfolding lines_of
lines_next k [] h = absurd (omega arith)
lines_next k (x ∷ b) h = ap (λ rest. line k (record_result (x ∷ b)) ++ rest) (go (is_whole (x ∷ b)))
  where
    r : List ℕ
    r = drop (record_length (x ∷ b)) (x ∷ b)

    go : (w : Bool) → cond w (lines_of (length b) (suc k) r) [] ≡ lines_from (suc k) (drop (cond w (record_length (x ∷ b)) (length (x ∷ b))) (x ∷ b))
    go true = enough (length b) (length r) (suc k) r (shorter (length b) x b (le_refl _)) (le_refl _)
    go false = sym (lines_none (suc k)) ∙ ap (lines_from (suc k)) (sym (drop-length (x ∷ b)))

abbrev pub header : List ℕ
header = text "at face column row\n"

pub listing-lines : (input : List ℕ) → listing input ≡ header ++ lines_from 0 (take 65536 input)
unfolding listing
listing-lines input = refl

-- "Input beyond 65,536 bytes counts as absent."
pub listing-limit : (input more : List ℕ) → 65536 ≤ length input → listing (input ++ more) ≡ listing input
listing-limit input more h =
    listing-lines (input ++ more) ∙ ap (λ b. header ++ lines_from 0 b) (take-append-le 65536 input more h) ∙ sym (listing-lines input)
