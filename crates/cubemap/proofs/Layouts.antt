-- What check 5, by counts, says of a layout: each slot holds a face, each face stands in one slot, `slot_of` finds it, and no slot is turned more than
-- three times.
use mathlib.Core.Path.{◌≡◌, refl, sym, ◌∙◌, ap, subst}
use mathlib.Core.Bool.{Bool, ◌&&◌}
use mathlib.Core.List.{List, [], ◌∷◌}
use Prim.Native.Nat.{ℕ, zero, suc, ◌+◌, ◌<◌}
use native.Mathlib.Decide.{dec_lt}
use native.Mathlib.Omega.{arith}
use lib.Dec.{T, eqb, eqb→eq, eqb_refl, leb, leb→le}
use lib.ListN.{length, drop, get_or, drop_of_length-le}
use lib.Seq.{drop-cons}
use Rattle.arithmetic.specs.Searches.{lowest, all_below}
use Rattle.arithmetic.specs.Sums.{count_below}
use Rattle.arithmetic.proofs.Tests.{All3, and3}
use Rattle.arithmetic.proofs.Searches.{Lowest, lowest-is, lowest_from-is, all-at}
use Rattle.arithmetic.proofs.Sums.{count_none, count-two, each-once}
use Rattle.cubemap.specs.Frames.{face_in, quarter_turns_in, layout_bytes, slot_of}
use Rattle.cubemap.specs.Checks.{layout_ok}

-- ---- the parts of check 5

-- how many of the six slots hold the face f
abbrev pub slots_with : List ℕ → ℕ → ℕ
slots_with L f = count_below (λ slot. eqb (face_in L slot) f) 6

abbrev pub faces_once : List ℕ → Bool
faces_once L = all_below (λ f. eqb (slots_with L f) 1) 6

abbrev pub turns_few : List ℕ → Bool
turns_few L = all_below (λ slot. leb (quarter_turns_in L slot) 3) 6

pub layout-tests : (L : List ℕ) → layout_ok L ≡ (eqb (length L) 12 && faces_once L && turns_few L)
unfolding layout_ok
layout-tests L = refl

pub slot-search : (L : List ℕ) (f : ℕ) → slot_of L f ≡ lowest (λ slot. eqb (face_in L slot) f) 6
unfolding slot_of
slot-search L f = refl

-- ---- a layout that has been taken apart

-- n bytes of L, from byte i on
abbrev bytes_from : List ℕ → ℕ → ℕ → List ℕ
bytes_from L i zero = []
bytes_from L i (suc n) = get_or L i 0 ∷ bytes_from L (suc i) n

to_the_end : (L : List ℕ) (i n : ℕ) → length L ≡ i + n → bytes_from L i n ≡ drop i L
to_the_end L i zero e = sym (drop_of_length-le L {i = i} (omega arith))
to_the_end L i (suc n) e = ap (λ l. get_or L i 0 ∷ l) (to_the_end L (suc i) n (omega arith)) ∙ sym (drop-cons L i 0 (omega arith))

pub layout-whole : (L : List ℕ) → length L ≡ 12 → layout_bytes (record { faces = bytes_from L 0 6; turns = bytes_from L 6 6 }) ≡ L
layout-whole L e = to_the_end L 0 12 e

-- ---- the layout

pub record LayoutHolds (L : List ℕ) : Type 0 where
  pub twelve_bytes : length L ≡ 12
  pub face-below : (slot : ℕ) → slot < 6 → face_in L slot < 6
  pub slot-below : (f : ℕ) → f < 6 → slot_of L f < 6
  pub face-of-slot : (f : ℕ) → f < 6 → face_in L (slot_of L f) ≡ f
  pub slot-of-face : (slot : ℕ) → slot < 6 → slot_of L (face_in L slot) ≡ slot
  pub turns-below : (slot : ℕ) → slot < 6 → quarter_turns_in L slot < 4

module _ (L : List ℕ) (t : T (layout_ok L)) where
  parts : All3 (eqb (length L) 12) (faces_once L) (turns_few L)
  parts = and3 (eqb (length L) 12) (faces_once L) (turns_few L) (subst T (layout-tests L) t)

  counted : (f : ℕ) → f < 6 → slots_with L f ≡ 1
  counted f h = eqb→eq (slots_with L f) 1 (all-at (λ f. eqb (slots_with L f) 1) 6 parts.second f h)

  in-slot : (slot : ℕ) → slot < 6 → face_in L slot < 6
  in-slot slot h = each-once 6 (face_in L) counted slot h

  -- where some slot holds the face, `slot_of` finds the first that does
  found : (f slot : ℕ) → slot < 6 → face_in L slot ≡ f → Lowest (λ slot. eqb (face_in L slot) f) 6 (slot_of L f)
  unfolding slot_of
  found f slot h e = lowest-is (λ slot. eqb (face_in L slot) f) 6 slot h (subst (λ g. T (eqb (face_in L slot) g)) e (eqb_refl (face_in L slot)))

  -- some slot holds each face
  slot-found : (f : ℕ) → f < 6 → slot_of L f < 6
  unfolding slot_of
  slot-found f h = go (dec_lt (slot_of L f) 6)
    where
      missing : (slot_of L f < 6 → ⊥) → (k : ℕ) → k < 6 → T (eqb (face_in L k) f) → ⊥
      missing d k l u = d (found f k l (eqb→eq (face_in L k) f u)).below

      go : Dec (slot_of L f < 6) → slot_of L f < 6
      go (yes l) = l
      go (no d) = absurd (omega (arith, counted f h, count_none (λ slot. eqb (face_in L slot) f) 6 (missing d)))

  -- `slot_of` stops at a slot that holds the face
  held : (f : ℕ) → f < 6 → T (eqb (face_in L (slot_of L f)) f)
  unfolding slot_of
  held f h = (lowest_from-is (λ slot. eqb (face_in L slot) f) 6 0).holds (slot-found f h)

  -- no earlier slot holds the face of a slot
  slot-own : (slot : ℕ) → slot < 6 → slot_of L (face_in L slot) ≡ slot
  slot-own slot h = go (dec_lt (slot_of L (face_in L slot)) slot)
    where
      w : Lowest (λ k. eqb (face_in L k) (face_in L slot)) 6 (slot_of L (face_in L slot))
      w = found (face_in L slot) slot h refl

      go : Dec (slot_of L (face_in L slot) < slot) → slot_of L (face_in L slot) ≡ slot
      go (yes l) = absurd (omega (
        arith,
        counted (face_in L slot) (in-slot slot h),
        count-two (λ k. eqb (face_in L k) (face_in L slot)) 6 (slot_of L (face_in L slot)) slot l h w.holds (eqb_refl (face_in L slot)),
      ))
      go (no d) = omega (arith, w.least slot (eqb_refl (face_in L slot)))

  pub layout-holds : LayoutHolds L
  layout-holds = record {
    twelve_bytes = eqb→eq (length L) 12 parts.first;
    face-below = in-slot;
    slot-below = slot-found;
    face-of-slot = λ f h. eqb→eq (face_in L (slot_of L f)) f (held f h);
    slot-of-face = slot-own;
    turns-below = λ slot h. omega (arith, leb→le (quarter_turns_in L slot) 3 (all-at (λ slot. leb (quarter_turns_in L slot) 3) 6 parts.third slot h));
  }
