-- Records of the listing: when one is whole and of the ray's kind, what it comes to at each exit, and how far the next one is.
use mathlib.Core.Path.{◌≡◌, refl, sym, ◌∙◌, ap}
use mathlib.Core.Bool.{true, false, ◌&&◌, cond}
use mathlib.Core.List.{List, []}
use Prim.Native.Nat.{ℕ, suc, ◌+◌, ◌-◌, ◌*◌, ◌^◌, ◌≤◌, ◌<◌}
use native.Mathlib.Nat.{le_refl}
use native.Mathlib.Omega.{arith}
use lib.Dec.{T, leb, eqb, leb→le, eqb→eq}
use lib.ListN.{length, get_or}
use lib.IntN.{pos, negsuc, ◌-ℤ◌}
use borrow.Author.Tests.{lt-leb, le-leb, lt-ltb, le-ltb}
use Rattle.arithmetic.proofs.Sizes.{Difference, below, above, difference-cases}
use Rattle.arithmetic.proofs.Tests.{and_left, and_right, cond_both}
use Rattle.cubemap.specs.declared.Refusal.{Refusal}
use Rattle.cubemap.specs.Interface.{accepted, is_accepted}
use Rattle.cubemap.specs.Checks.{first_failed}
use Rattle.cubemap.specs.Outcomes.{result, refusal, refused, look_up_result}
use Rattle.cubemap.specs.Listing.{read_from, signed32, kind, body_length, record_length, record_format, record_size, record_ray}
use Rattle.cubemap.specs.Listing.{is_whole, is_ray_record, record_checks, record_result}
use Rattle.cubemap.proofs.Answers.{not-accepted}

-- ---- numbers

-- four bytes are two and two
pub read-four : (b : List ℕ) (i : ℕ) → read_from b i 4 ≡ read_from b i 2 + 65536 * read_from b (i + 2) 2
read-four b i =
    let at : i + 1 + 1 ≡ i + 2 = omega arith in
    ap (λ j. get_or b i 0 + 256 * (get_or b (i + 1) 0 + 256 * read_from b j 2)) at ∙ omega arith

pub signed_below : (v : ℕ) → v < 2147483648 → signed32 v ≡ pos v
signed_below v h = ap (λ b. cond b (pos v) (negsuc (2 ^ 32 - suc v))) (lt-ltb v 2147483648 h)

pub signed_above : (v : ℕ) → 2147483648 ≤ v → v < 2 ^ 32 → signed32 v ≡ pos v -ℤ pos 4294967296
signed_above v h l = ap (λ b. cond b (pos v) (negsuc (2 ^ 32 - suc v))) (le-ltb v 2147483648 h) ∙ go (difference-cases v 4294967296)
  where
    go : Difference v 4294967296 → negsuc (2 ^ 32 - suc v) ≡ pos v -ℤ pos 4294967296
    go (below _ e) = sym e
    go (above g _) = absurd (omega arith)

module _ (b : List ℕ) where
  -- ---- 16

  pub whole-head : length b < 6 → is_whole b ≡ false
  unfolding is_whole
  whole-head h = ap (λ x. x && leb (record_length b) (length b)) (lt-leb 6 (length b) h)

  pub whole-body : 6 ≤ length b → is_whole b ≡ leb (record_length b) (length b)
  unfolding is_whole
  whole-body h = ap (λ x. x && leb (record_length b) (length b)) (le-leb 6 (length b) h)

  pub record Whole : Type 0 where
    pub head : 6 ≤ length b
    pub body : record_length b ≤ length b

  pub whole_is : T (is_whole b) → Whole
  unfolding is_whole
  whole_is t = record {
    head = leb→le 6 (length b) (and_left (leb 6 (length b)) (leb (record_length b) (length b)) t);
    body = leb→le (record_length b) (length b) (and_right (leb 6 (length b)) (leb (record_length b) (length b)) t);
  }

  -- ---- 15

  pub ray-record-test : is_ray_record b ≡ (eqb (kind b) 1 && eqb (body_length b) 15)
  unfolding is_ray_record
  ray-record-test = refl

  -- its six leading bytes and a body of 15
  pub ray-record-length : T (is_ray_record b) → record_length b ≡ 21
  unfolding is_ray_record
  ray-record-length t = ap (λ n. 6 + n) (eqb→eq (body_length b) 15 (and_right (eqb (kind b) 1) (eqb (body_length b) 15) t))

  -- ---- what a record comes to

  -- by its two checks
  pub record-cut : is_whole b ≡ false → record_result b ≡ refused Refusal.RecordCut
  unfolding record_result record_checks first_failed
  record-cut w = rw w

  pub record-kind : is_whole b ≡ true → is_ray_record b ≡ false → record_result b ≡ refused Refusal.RecordKind
  unfolding record_result record_checks first_failed
  record-kind w r = rw (w, r)

  pub record-ray : is_whole b ≡ true → is_ray_record b ≡ true → record_result b ≡ look_up_result (record_size b) (record_format b) (record_ray b)
  unfolding record_result record_checks first_failed
  record-ray w r = rw (w, r)

  -- by the answer that they come to
  pub record-refused : (q : Refusal) → refusal q ≡ first_failed (record_checks b) → refused q ≡ record_result b
  unfolding record_result
  record-refused q e =
      ap (λ c. cond c (look_up_result (record_size b) (record_format b) (record_ray b)) (refused q)) (sym (not-accepted q))
      ∙ ap (λ a. cond (is_accepted a) (look_up_result (record_size b) (record_format b) (record_ray b)) (result a [])) e

  pub record-accepted : accepted ≡ first_failed (record_checks b) → look_up_result (record_size b) (record_format b) (record_ray b) ≡ record_result b
  unfolding record_result
  record-accepted e = ap (λ a. cond (is_accepted a) (look_up_result (record_size b) (record_format b) (record_ray b)) (result a [])) e

  -- ---- the next record: "is passed over by its length"; where this one is not whole, "the run ends there"

  abbrev pub passed : ℕ
  passed = cond (is_whole b) (record_length b) (length b)

  pub passed-whole : is_whole b ≡ true → passed ≡ record_length b
  passed-whole e = ap (λ w. cond w (record_length b) (length b)) e

  pub passed-cut : is_whole b ≡ false → passed ≡ length b
  passed-cut e = ap (λ w. cond w (record_length b) (length b)) e

  -- never beyond the end, and never by nothing
  pub passed-within : passed ≤ length b
  passed-within = cond_both (λ n. n ≤ length b) (is_whole b) (record_length b) (length b) (λ t. (whole_is t).body) (λ f. le_refl (length b))

  pub passed-some : 0 < length b → 0 < passed
  passed-some h = cond_both (λ n. 0 < n) (is_whole b) (record_length b) (length b) (λ t. omega arith) (λ f. h)
