-- A sample of `framed` is what was framed; a frame whose bytes are given place by place; and which frames pass checks 8 to 11.
use mathlib.Core.Path.{◌≡◌, refl, sym, ◌∙◌, ap, ap₂, subst}
use mathlib.Core.Bool.{Bool, true, false, not}
use mathlib.Core.List.{List, [], ◌++◌}
use Prim.Native.Nat.{ℕ, zero, suc, ◌+◌, ◌*◌, ◌/◌, ◌^◌, ◌≤◌, ◌<◌}
use native.Mathlib.Decide.{ℕ_discrete}
use native.Mathlib.Nat.{le_refl}
use native.Mathlib.Omega.{arith}
use lib.Dec.{T, T_not, eqb, eqb→eq, eqb_refl, ltb→lt, lt→ltb}
use lib.ListN.{length, length-append, take, drop, get_or, get_or-append}
use lib.Seq.{get_or-take, get_or-drop, get_or-append-add}
use Rattle.arithmetic.specs.Searches.{lowest, all_below}
use Rattle.arithmetic.proofs.Searches.{all-at, all_of, Lowest, not-all, lowest-none, SameFirst, first-decides}
use borrow.Author.Tests.{eq-eqb, ne_eqb}
use Rattle.arithmetic.proofs.Tests.{passes, fails, same_test}
use Rattle.cubemap.specs.declared.Place.{Place}
use Rattle.cubemap.specs.declared.Shape.{Shape}
use Rattle.cubemap.specs.Interface.{little_endian}
use Rattle.cubemap.specs.Frames.{IsPlace, sample_at, within_depth, framed, plane_samples, samples_in, bytes_in, index, place_at, sample_at_place, plane_of}
use Rattle.cubemap.specs.Checks.{depth_ok, length_ok, sample_ok, samples_ok, lowest_beyond, samples_check}
use Rattle.cubemap.proofs.Passed.{depth-levels}
use Rattle.cubemap.proofs.Layouts.{LayoutHolds}
use Rattle.cubemap.proofs.Indices.{index_ok, place_at-index, place_at-ok}

-- ---- numbers of any width

pub little_endian-length : (w v : ℕ) → length (little_endian w v) ≡ w
little_endian-length zero v = refl
little_endian-length (suc w) v = ap suc (little_endian-length w (v / 256))

module _ (w : ℕ) where
  pub framed-none : (f : ℕ → ℕ) → framed w f 0 ≡ []
  unfolding framed
  framed-none f = refl

  pub framed-next : (f : ℕ → ℕ) (n : ℕ) → framed w f (suc n) ≡ framed w f n ++ little_endian w (f n)
  unfolding framed
  framed-next f n = refl

  pub framed-length : (f : ℕ → ℕ) (n : ℕ) → length (framed w f n) ≡ w * n
  framed-length f zero = ap length (framed-none f) ∙ omega arith
  framed-length f (suc n) =
      ap length (framed-next f n) ∙ length-append (framed w f n) (little_endian w (f n))
      ∙ omega (arith, framed-length f n, little_endian-length w (f n))

  pub framed-cong : (f g : ℕ → ℕ) (n : ℕ) → ((i : ℕ) → i < n → f i ≡ g i) → framed w f n ≡ framed w g n
  framed-cong f g zero h = framed-none f ∙ sym (framed-none g)
  framed-cong f g (suc n) h =
      framed-next f n
      ∙ ap₂ (λ l x. l ++ little_endian w x) (framed-cong f g n (λ i l. h i (omega arith))) (h n (omega arith))
      ∙ sym (framed-next g n)

-- ---- samples of bytes with other bytes behind them

pub sample-front : (x y : List ℕ) (n i : ℕ) → length x ≡ 2 * n → i < n → sample_at (x ++ y) i ≡ sample_at x i
sample-front x y n i e h =
    ap₂ (λ a b. a + 256 * b) (get_or-append x y 0 (2 * i) (omega arith)) (get_or-append x y 0 (2 * i + 1) (omega arith))

get_d-behind : (x y : List ℕ) (j k : ℕ) → j ≡ length x + k → get_or (x ++ y) j 0 ≡ get_or y k 0
get_d-behind x y j k e = ap (λ j. get_or (x ++ y) j 0) e ∙ get_or-append-add x y k 0

pub sample-behind : (x y : List ℕ) (n i : ℕ) → length x ≡ 2 * n → sample_at (x ++ y) (n + i) ≡ sample_at y i
sample-behind x y n i e =
    ap₂ (λ a b. a + 256 * b) (get_d-behind x y (2 * (n + i)) (2 * i) (omega arith)) (get_d-behind x y (2 * (n + i) + 1) (2 * i + 1) (omega arith))

-- ---- samples of a part: from byte 2·start on, j samples and more

pub sample-part : (bytes : List ℕ) (start n j : ℕ) → 2 * j + 1 < n → sample_at (take n (drop (2 * start) bytes)) j ≡ sample_at bytes (start + j)
sample-part bytes start n j h = ap₂ (λ a b. a + 256 * b)
    (byte (2 * j) (2 * (start + j)) (omega arith) (omega arith))
    (byte (2 * j + 1) (2 * (start + j) + 1) h (omega arith))
  where
    byte : (i k : ℕ) → i < n → 2 * start + i ≡ k → get_or (take n (drop (2 * start) bytes)) i 0 ≡ get_or bytes k 0
    byte i k l e = get_or-take n (drop (2 * start) bytes) i 0 l ∙ get_or-drop (2 * start) bytes i 0 ∙ ap (λ k. get_or bytes k 0) e

-- two bytes hold what is below 65,536
sample-bytes : (v : ℕ) → v < 65536 → sample_at (little_endian 2 v) 0 ≡ v
sample-bytes v h = omega arith

-- ---- a sample of `framed` is what was framed

pub sample-framed : (f : ℕ → ℕ) (n i : ℕ) → ((j : ℕ) → j < n → f j < 65536) → i < n → sample_at (framed 2 f n) i ≡ f i
unfolding framed
sample-framed f zero i b h = absurd (omega arith)
sample-framed f (suc n) i b h = go (ℕ_discrete i n) (λ l. sample-framed f n i (λ j m. b j (omega arith)) l)
  where
    go : Dec (i ≡ n) → (i < n → sample_at (framed 2 f n) i ≡ f i) → sample_at (framed 2 f n ++ little_endian 2 (f n)) i ≡ f i
    go (yes e) ih =
        ap (sample_at (framed 2 f n ++ little_endian 2 (f n))) (e ∙ last n)
        ∙ sample-behind (framed 2 f n) (little_endian 2 (f n)) n 0 (framed-length 2 f n) ∙ sample-bytes (f n) (b n (omega arith)) ∙ ap f (sym e)
      where
        last : (n : ℕ) → n ≡ n + 0
        last n = omega arith
    go (no d) ih = sample-front (framed 2 f n) (little_endian 2 (f n)) n i (framed-length 2 f n) (omega arith) ∙ ih (omega arith)

-- ---- the bytes of a plane of face size A in the layout L, with the sample g P at the place P

module _ (A : ℕ) (L : List ℕ) (o : LayoutHolds L) where
  pub sample-plane_of : (g : Place → ℕ) (P : Place) → ((Q : Place) → IsPlace A Q → g Q < 65536) → IsPlace A P
      → sample_at_place (plane_of A L g) A L P ≡ g P
  sample-plane_of g P b p =
      sample-framed (λ i. g (place_at A L i)) (plane_samples A) (index A L P) (λ i l. b (place_at A L i) (place_at-ok A L o i l)) (index_ok A L o P p)
      ∙ ap g (place_at-index A L o P p)

  pub plane_of-cong : (f g : Place → ℕ) → ((P : Place) → IsPlace A P → f P ≡ g P) → plane_of A L f ≡ plane_of A L g
  plane_of-cong f g h =
      framed-cong 2 (λ i. f (place_at A L i)) (λ i. g (place_at A L i)) (plane_samples A) (λ i l. h (place_at A L i) (place_at-ok A L o i l))

-- ---- checks 8 and 9

pub samples-number : (z : Shape) → samples_in z ≡ 6 * (z.size * z.size)
unfolding samples_in
samples-number z = omega arith

pub bytes-number : (z : Shape) → bytes_in z ≡ 2 * samples_in z
unfolding bytes_in
bytes-number z = refl

pub length-test : (z : Shape) (n : ℕ) → length_ok z n ≡ eqb n (2 * samples_in z)
unfolding length_ok bytes_in
length-test z n = refl

pub length-is : (z : Shape) (n : ℕ) → T (length_ok z n) → n ≡ bytes_in z
unfolding length_ok
length-is z n t = eqb→eq n (bytes_in z) t

pub plane-bytes : (z : Shape) (n : ℕ) → T (length_ok z n) → n ≡ 2 * plane_samples z.size
plane-bytes z n t = omega (arith, length-is z n t, bytes-number z, samples-number z)

-- ---- checks 10 and 11

pub samples-test : (z : Shape) (bytes : List ℕ) → samples_ok z bytes ≡ all_below (sample_ok z bytes) (samples_in z)
unfolding samples_ok
samples-test z bytes = refl

pub beyond-search : (z : Shape) (bytes : List ℕ) → lowest_beyond z bytes ≡ lowest (λ i. not (sample_ok z bytes i)) (samples_in z)
unfolding lowest_beyond
beyond-search z bytes = refl

pub samples-below : (z : Shape) (bytes : List ℕ) → T (samples_ok z bytes) → (i : ℕ) → i < samples_in z → sample_at bytes i < 2 ^ z.depth
unfolding samples_ok
samples-below z bytes t i h = ltb→lt (sample_at bytes i) (2 ^ z.depth) (all-at (sample_ok z bytes) (samples_in z) t i h)

pub below-samples : (z : Shape) (bytes : List ℕ) → ((i : ℕ) → i < samples_in z → sample_at bytes i < 2 ^ z.depth) → T (samples_ok z bytes)
unfolding samples_ok
below-samples z bytes h = all_of (sample_ok z bytes) (samples_in z) (λ i l. lt→ltb (sample_at bytes i) (2 ^ z.depth) (h i l))

-- where not every sample is within the depth, the index that comes with the refusal is that of the lowest one beyond
pub lowest_beyond-is : (z : Shape) (bytes : List ℕ) → (T (samples_ok z bytes) → ⊥)
    → Lowest (λ i. not (sample_ok z bytes i)) (samples_in z) (lowest_beyond z bytes)
unfolding samples_ok lowest_beyond
lowest_beyond-is z bytes f = not-all (sample_ok z bytes) (samples_in z) f

-- where every sample is within the depth, none is found
pub beyond-none : (z : Shape) (bytes : List ℕ) → T (samples_ok z bytes) → lowest_beyond z bytes ≡ samples_in z
unfolding samples_ok lowest_beyond
beyond-none z bytes t = lowest-none (record { bounded = omega arith; each = none }) (le_refl (samples_in z))
  where
    none : (i : ℕ) → i < samples_in z → not (sample_ok z bytes i) ≡ false
    none i h = same_test (not (sample_ok z bytes i)) false (λ n. T_not (sample_ok z bytes i) n (all-at (sample_ok z bytes) (samples_in z) t i h)) (λ f. absurd f)

-- so the index tells whether every sample is within the depth
pub samples-by-lowest : (z : Shape) (bytes : List ℕ) → eqb (lowest_beyond z bytes) (samples_in z) ≡ samples_ok z bytes
samples-by-lowest z bytes = go (samples_ok z bytes) refl
  where
    go : (b : Bool) → samples_ok z bytes ≡ b → eqb (lowest_beyond z bytes) (samples_in z) ≡ b
    go true e = eq-eqb (lowest_beyond z bytes) (samples_in z) (beyond-none z bytes (passes e))
    go false e = ne_eqb (lowest_beyond z bytes) (samples_in z) (λ d. omega (arith, (lowest_beyond-is z bytes (fails e)).below))

-- check 10 looks at no sample behind the lowest one beyond the depth: bytes that have the same samples up to that one pass or fail alike
pub samples-decide : (k : ℕ) (z : Shape) (one two : List ℕ) → ((i : ℕ) → i ≤ lowest_beyond z one → sample_at one i ≡ sample_at two i)
    → samples_check k z one ≡ samples_check k z two
unfolding samples_ok lowest_beyond
samples-decide k z one two h = λ i. record { holds = same.all_same i; number = k; index = same.lowest-same i }
  where
    same : SameFirst (sample_ok z one) (sample_ok z two) (samples_in z)
    same = first-decides (sample_ok z one) (sample_ok z two) (samples_in z) (λ i l. ap (within_depth z.depth) (h i l))

-- at a place of a frame with a layout that passes check 5
pub place-below : (z : Shape) (L bytes : List ℕ) (P : Place) → LayoutHolds L → T (samples_ok z bytes) → IsPlace z.size P
    → sample_at_place bytes z.size L P < 2 ^ z.depth
unfolding samples_in
place-below z L bytes P o t p = samples-below z bytes t (index z.size L P) (index_ok z.size L o P p)

-- ---- the bytes of a plane pass checks 8 to 11 where each sample is within the depth

-- a sample within the depth fits two bytes
pub depth-fits : (D v : ℕ) → T (depth_ok D) → v < 2 ^ D → v < 65536
depth-fits D v t h = omega (arith, depth-levels D t)

pub plane_of-length : (z : Shape) (L : List ℕ) (g : Place → ℕ) → T (length_ok z (length (plane_of z.size L g)))
plane_of-length z L g = subst T (sym (length-test z (length bytes))) (subst (λ n. T (eqb (length bytes) n)) long (eqb_refl (length bytes)))
  where
    bytes : List ℕ
    bytes = plane_of z.size L g

    long : length bytes ≡ 2 * samples_in z
    long = framed-length 2 (λ i. g (place_at z.size L i)) (plane_samples z.size) ∙ omega (arith, samples-number z)

pub plane_of-samples : (z : Shape) (L : List ℕ) (g : Place → ℕ) → LayoutHolds L → T (depth_ok z.depth)
    → ((P : Place) → IsPlace z.size P → g P < 2 ^ z.depth) → T (samples_ok z (plane_of z.size L g))
plane_of-samples z L g o d b = below-samples z (plane_of A L g) (λ i l. subst (λ v. v < 2 ^ z.depth) (sym (sample i (below i l))) (inside i (below i l)))
  where
    A : ℕ
    A = z.size

    below : (i : ℕ) → i < samples_in z → i < plane_samples A
    below i l = omega (arith, samples-number z)

    inside : (i : ℕ) → i < plane_samples A → g (place_at A L i) < 2 ^ z.depth
    inside i l = b (place_at A L i) (place_at-ok A L o i l)

    sample : (i : ℕ) → i < plane_samples A → sample_at (plane_of A L g) i ≡ g (place_at A L i)
    sample i l = sample-framed (λ i. g (place_at A L i)) (plane_samples A) i (λ j k. depth-fits z.depth (g (place_at A L j)) d (inside j k)) l
