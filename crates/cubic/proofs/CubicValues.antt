-- The cubic value from a sum over sixteen taps, and taps inside a face.
use mathlib.Core.Path.{◌≡◌, refl, sym, ◌∙◌, ap, ap₂, subst}
use mathlib.Core.List.{List}
use Prim.Native.Nat.{ℕ, ◌+◌, ◌*◌, ◌^◌, ◌≤◌, ◌<◌}
use native.Mathlib.Decide.{ℕ_discrete}
use native.Mathlib.Omega.{arith}
use lib.Dec.{T, ltb→lt}
use lib.IntN.{ℤ, pos, negsuc, ◌+ℤ◌}
use lib.ListN.{length, get_or}
use lib.Seq.{sets}
use Rattle.arithmetic.specs.Integers.{natural}
use Rattle.arithmetic.proofs.Tests.{and_left, and_right, and_both}
use Rattle.cubemap.specs.declared.Place.{Place}
use Rattle.cubemap.specs.declared.Sampler.{Sampler}
use Rattle.cubemap.specs.Interface.{little_endian}
use Rattle.cubemap.specs.Frames.{place}
use Rattle.cubemap.specs.RayToPlace.{located}
use Rattle.cubemap.specs.Samplers.{phase, tap_at, tap_place, clip, rounded, sample_from}
use Rattle.cubemap.proofs.Samplers.{tap-from-first, sum-by-rows, cubic-value}
use Rattle.cubemap.proofs.Taps.{tap_place-inside}
use Rattle.strides.specs.declared.Strides.{Strides}
use Rattle.strides.specs.FaceStrides.{strides_in, exchanged, sample_on_face, sample_by}
use Rattle.strides.proofs.StrideIndices.{exchanged-sample}
use Rattle.taps.specs.TapWeights.{TapWeights, weights_of, grid_sum}
use Rattle.taps.proofs.TapSums.{grid-cong, grid-exchanged}
use Rattle.cubic.specs.PositionTables.{position_of, position_in}
use Rattle.cubic.specs.InsideTaps.{first_tap, in_face, taps_inside, inside_tap, inside_value, Stored, StoredInside}
use Rattle.cubic.proofs.Storing.{stored-none, stored_next, stored-cong}

-- what the sixteen taps from a column x and a row y on read: tap i of row j
abbrev pub tapped : (Place → ℕ) → ℕ → ℕ → ℤ → ℤ → ℕ → ℕ → ℕ
tapped sample A f x y j i = sample (tap_place A f (x +ℤ pos i) (y +ℤ pos j))

-- the weights at a position
abbrev pub weights_for : ℕ → TapWeights
weights_for n = weights_of (phase (position_of n))

-- the sum by the weights of both phases, over the taps from the first on, rounded and clipped
module _ (A D f : ℕ) (sample : Place → ℕ) (x y : ℕ) where
  pub cubic-is : {w u : TapWeights} {z : ℤ} → u ≡ weights_for x → w ≡ weights_for y
      → z ≡ grid_sum w u (tapped sample A f (first_tap x) (first_tap y))
      → clip (2 ^ D) (rounded z) ≡ sample_from Sampler.Cubic A D sample (located f (position_of x) (position_of y))
  cubic-is e d g =
      ap (λ z. clip (2 ^ D) (rounded z))
      (g ∙ (λ k. grid_sum (d k) (e k) (tapped sample A f (first_tap x) (first_tap y)))
      ∙ grid-cong (weights_for y) (weights_for x) (tapped sample A f (first_tap x) (first_tap y))
      (λ j i. sample (tap_place A f (tap_at (position_of x) i) (tap_at (position_of y) j)))
      (λ i j h k. sym (ap₂ (λ x y. sample (tap_place A f x y))
      (tap-from-first (position_of x) i) (tap-from-first (position_of y) j)))
      ∙ sym (sum-by-rows A sample (located f (position_of x) (position_of y))))
      ∙ cubic-value A D sample (located f (position_of x) (position_of y))

-- ---- four columns, or rows, inside a face

pub record Inside (A : ℕ) (z : ℤ) : Type 0 where
  pub is : z ≡ pos (natural z)
  pub fits : natural z + 3 < A

pub inside : (A : ℕ) (z : ℤ) → T (in_face A z) → Inside A z
inside A (pos m) t = record { is = refl; fits = ltb→lt (m + 3) A t }
inside A (negsuc m) t = absurd t

-- all sixteen taps
pub record TapsInside (A x y : ℕ) : Type 0 where
  pub across : Inside A (first_tap x)
  pub down : Inside A (first_tap y)

pub taps-inside : (A x y : ℕ) → T (taps_inside A x y) → TapsInside A x y
taps-inside A x y t = record {
  across = inside A (first_tap x) (and_left (in_face A (first_tap x)) (in_face A (first_tap y)) t);
  down = inside A (first_tap y) (and_right (in_face A (first_tap x)) (in_face A (first_tap y)) t);
}

-- a tap among them reads its own place
tap-inside : (A f x y i j : ℕ) → i < 4 → j < 4 → TapsInside A x y
    → tap_place A f (first_tap x +ℤ pos i) (first_tap y +ℤ pos j)
    ≡ place f (natural (first_tap x) + i) (natural (first_tap y) + j)
tap-inside A f x y i j p q t =
    ap₂ (λ x y. tap_place A f (x +ℤ pos i) (y +ℤ pos j)) t.across.is t.down.is
    ∙ tap_place-inside A f (natural (first_tap x) + i) (natural (first_tap y) + j)
    (omega (arith, t.across.fits)) (omega (arith, t.down.fits))

-- ---- their value

-- by the strides of face f in a table
inside-on-face : (A D f : ℕ) (plane : List ℕ) (table : List Strides) (s : Strides) → s ≡ strides_in table f → (x y : ℕ)
    → T (taps_inside A x y)
    → inside_value plane s D x y
    ≡ sample_from Sampler.Cubic A D (sample_by plane table) (located f (position_of x) (position_of y))
inside-on-face A D f plane table s e x y t =
    cubic-is A D f (sample_by plane table) x y refl refl
    (grid-cong (weights_for y) (weights_for x) (inside_tap plane s x y)
    (tapped (sample_by plane table) A f (first_tap x) (first_tap y)) (λ i j p q.
    ap (λ s. sample_on_face plane s (natural (first_tap x) + i) (natural (first_tap y) + j)) e
    ∙ ap (sample_by plane table) (sym (tap-inside A f x y i j p q (taps-inside A x y t)))))

-- columns and rows exchanged
inside-exchanged : (D : ℕ) (plane : List ℕ) (s : Strides) (x y : ℕ)
    → inside_value plane (exchanged s) D y x ≡ inside_value plane s D x y
inside-exchanged D plane s x y =
    ap (λ z. clip (2 ^ D) (rounded z))
    (grid-cong (weights_for x) (weights_for y) (inside_tap plane (exchanged s) y x) (λ i j. inside_tap plane s x y j i)
    (λ i j p q. exchanged-sample plane s (natural (first_tap y) + i) (natural (first_tap x) + j))
    ∙ grid-exchanged (weights_for y) (weights_for x) (inside_tap plane s x y))

-- those that are stored: none yet, and one more
module _ {A D : ℕ} {plane : List ℕ} {s : Strides} {columns rows before : List ℕ} {from : ℕ} where
  pub inside-none : 2 * from ≤ length before → StoredInside A D plane s columns rows from from before before
  inside-none h = record { stored = stored-none _ from before h; inside = λ j l k. absurd (omega arith) }

  pub inside-next : {j v : ℕ} {now after : List ℕ} → StoredInside A D plane s columns rows from j before now
      → 2 * (j + 1) ≤ length before → T (taps_inside A (get_or columns j 0) (get_or rows j 0))
      → v ≡ inside_value plane s D (get_or columns j 0) (get_or rows j 0) → after ≡ sets now (2 * j) (little_endian 2 v)
      → StoredInside A D plane s columns rows from (j + 1) before after
  inside-next {j} w l t e d = record {
    stored = stored_next w.stored l e d;
    inside = λ i h k. go i h (ℕ_discrete i j) k;
  }
    where
      go : (i : ℕ) → from ≤ i → Dec (i ≡ j) → i < j + 1 → T (taps_inside A (get_or columns i 0) (get_or rows i 0))
      go i h (yes e) k = subst (λ i. T (taps_inside A (get_or columns i 0) (get_or rows i 0))) (sym e) t
      go i h (no n) k = w.inside i h (omega arith)

-- with columns and rows exchanged, and by the strides of face f in a table
module _ {A D : ℕ} {plane : List ℕ} {s : Strides} {columns rows before after : List ℕ} {from to : ℕ} where
  pub stored-exchanged : {t : Strides} → t ≡ exchanged s → StoredInside A D plane t rows columns from to before after
      → StoredInside A D plane s columns rows from to before after
  stored-exchanged {t} e w = record {
    stored = stored-cong w.stored (λ j. inside_value plane s D (get_or columns j 0) (get_or rows j 0)) (λ j h l.
        ap (λ s. inside_value plane s D (get_or rows j 0) (get_or columns j 0)) e
        ∙ inside-exchanged D plane s (get_or columns j 0) (get_or rows j 0));
    inside = λ j h l.
        let x : ℤ = first_tap (get_or columns j 0) in
        let y : ℤ = first_tap (get_or rows j 0) in
        let t = w.inside j h l in
        and_both (in_face A x) (in_face A y)
        (and_right (in_face A y) (in_face A x) t) (and_left (in_face A y) (in_face A x) t);
  }

  pub stored-on-face : (f : ℕ) (table : List Strides) → s ≡ strides_in table f
      → StoredInside A D plane s columns rows from to before after
      → Stored (λ j. sample_from Sampler.Cubic A D (sample_by plane table)
      (located f (position_in columns j) (position_in rows j))) from to before after
  stored-on-face f table e w = stored-cong w.stored _ (λ j h l.
      inside-on-face A D f plane table s e (get_or columns j 0) (get_or rows j 0) (w.inside j h l))
