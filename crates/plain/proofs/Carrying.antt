-- What is carried along a stretch is what its columns ask for, and where all guesses are good the table has T + 32 of
-- each.
use mathlib.Core.Path.{◌≡◌, refl, sym, ◌∙◌, ap, ap₂, subst}
use mathlib.Core.List.{List, [], ◌∷◌}
use Prim.Native.Nat.{ℕ, ◌+◌, ◌*◌, ◌-◌, ◌/◌, ◌%◌, ◌≤◌, ◌<◌}
use native.Mathlib.Nat.{mul-le-mul, le_trans}
use native.Mathlib.Omega.{arith}
use lib.IntN.{ℤ, pos, ◌+ℤ◌, ◌-ℤ◌, ◌*ℤ◌, -ℤ-+ℤ_cancel}
use lib.ListN.{length, get_or, set}
use Rattle.arithmetic.proofs.Filling.{entries_next}
use Rattle.arithmetic.proofs.Sizes.{pos_inj, pos-sub}
use Rattle.arithmetic.proofs.Ring.{var, ◌⊕◌, ◌⊝◌, solve}
use Rattle.cubemap.specs.declared.Format.{Format}
use Rattle.cubemap.specs.RayToPlace.{position64}
use Rattle.cubemap.proofs.Positions.{position-cmp}
use Rattle.positions.specs.declared.Line.{Line}
use Rattle.plain.specs.declared.Carried.{Carried}
use Rattle.plain.specs.Walks.{walk_at, size_at, rest_at, width_at, Walks, Carries, Plain}
use Rattle.plain.proofs.Confirmed.{far, Left, left-small, left-least, correction, quotient}

-- the numerator of T + 32 as a natural number
abbrev pub top : ℕ → Line → Line → ℕ → ℕ
top A sum distance i = 64 * A * size_at sum i + size_at distance i

-- what a guess leaves of what is carried, and the entry that it gives
abbrev pub left_by : ℕ → ℕ → ℕ → ℕ
left_by wide rest g = g * (wide % 4294967296) + rest

abbrev pub entry_by : ℕ → ℕ → ℕ → ℕ
entry_by wide rest g = g - left_by wide rest g / far

-- a column's entry t is what its guess gives, and the two ends of what is left are told by `low` and `high`
pub record Tried (low high n D t : ℕ) : Type 0 where
  pub guess : ℕ
  pub rest : ℕ
  pub left : Left n D guess rest
  pub above : low ≤ rest + D
  pub under : rest - D ≤ high
  pub is : t ≡ guess - rest / far

-- the columns before i are tried, and what is carried is that of column i
pub record Reached (A : ℕ) (sum distance : Line) (table : List ℕ) (rest wide low high i : ℕ) : Type 0 where
  pub rest-at : pos rest ≡ rest_at A sum distance i
  pub wide_at : pos wide ≡ width_at distance i
  pub tried : (m : ℕ) → m < i → Tried low high (top A sum distance m) (2 * size_at distance m) (get_or table m 0)

-- what is carried stands for the walks: 2^62 − 1 less the numerator, and 2^40 more than the denominator
pub record Stands (A : ℕ) (sum distance : Line) (count : ℕ) (n d : Carried) : Type 0 where
  pub walks : Walks A sum distance count
  pub rests : Carries 281474976710656 (rest_at A sum distance) n
  pub widths : Carries 4294967296 (width_at distance) d

-- what is known at a column
module _ {A : ℕ} {sum distance : Line} {count : ℕ} (w : Walks A sum distance count) {i : ℕ} (h : i < count) where
  top_small : top A sum distance i ≤ 70368744177664
  top_small =
      let s : 64 * A * size_at sum i ≤ 32768 * 1073741822 =
      mul-le-mul {n₂ = 32768} {m₂ = 1073741822} (omega (arith, w.size-most)) (omega (arith, w.ratio i h, w.bounded i h)) in
      omega (arith, w.bounded i h)

  module _ {table : List ℕ} {rest wide low high : ℕ}
      (v : Reached A sum distance table rest wide low high i) where
    rest-is : rest ≡ 4611686018427387903 - top A sum distance i
    rest-is = pos_inj rest (4611686018427387903 - top A sum distance i)
        (v.rest-at
        ∙ ap₂ (λ s d. pos 4611686018427387903 -ℤ (pos (64 * A) *ℤ s +ℤ d)) (sym (w.sums.ahead i h)) (sym (w.distances.ahead i h))
        ∙ pos-sub 4611686018427387903 (top A sum distance i) (omega (arith, top_small)))

    wide_is : wide ≡ 1099511627776 + 2 * size_at distance i
    wide_is = pos_inj wide (1099511627776 + 2 * size_at distance i)
        (v.wide_at ∙ ap (λ z. pos 1099511627776 +ℤ pos 2 *ℤ z) (sym (w.distances.ahead i h)))

    by-is : wide % 4294967296 ≡ 2 * size_at distance i
    by-is = omega (arith, wide_is, w.bounded i h)

    pub left_at : (g : ℕ) → g < 65536 → Left (top A sum distance i) (wide % 4294967296) g (left_by wide rest g)
    left_at g f = record {
      is = ap (λ n. g * (wide % 4294967296) + n) rest-is;
      room = omega (arith, top_small);
      narrow = omega arith;
      few = f;
    }

-- a carried number goes on to that of the next column
moved : {most : ℕ} {number : ℕ → ℤ} {c : Carried} → Carries most number c → (a i : ℕ) → c.down ≤ a + c.up → pos a ≡ number i
    → pos (a + c.up - c.down) ≡ number (i + 1)
moved {number = number} {c = c} m a i h e =
    sym (pos-sub (a + c.up) c.down h)
    ∙ solve (pos a ∷ pos c.up ∷ pos c.down ∷ []) (var 0 ⊕ var 1 ⊝ var 2) (var 0 ⊕ (var 1 ⊝ var 2)) tt
    ∙ ap (λ z. z +ℤ (pos c.up -ℤ pos c.down)) e ∙ m.next i

-- what a guess leaves fits, and so do the numbers of the next column
pub record Room (rest wide g : ℕ) (n d : Carried) : Type 0 where
  pub left-fits : left_by wide rest g + wide % 4294967296 < 18446744073709551616
  pub left-least : wide % 4294967296 ≤ left_by wide rest g
  pub entry-room : left_by wide rest g / far ≤ g
  pub rest-fits : rest + n.up < 18446744073709551616
  pub rest-room : n.down ≤ rest + n.up
  pub wide_fits : wide + d.up < 18446744073709551616
  pub wide_room : d.down ≤ wide + d.up

-- a column more
module _ {A : ℕ} {sum distance : Line} {count : ℕ} {table : List ℕ} {rest wide low high i : ℕ} {n d : Carried}
    (m : Stands A sum distance count n d)
    (v : Reached A sum distance table rest wide low high i) (h : i < count) where
  rest-fits : rest + n.up < 18446744073709551616
  rest-fits = omega (arith, rest-is m.walks h v, m.rests.few.0)

  rest-room : n.down ≤ rest + n.up
  rest-room = omega (arith, rest-is m.walks h v, top_small m.walks h, m.rests.few.1)

  wide_fits : wide + d.up < 18446744073709551616
  wide_fits = omega (arith, wide_is m.walks h v, m.walks.bounded i h, m.widths.few.0)

  wide_room : d.down ≤ wide + d.up
  wide_room = omega (arith, wide_is m.walks h v, m.widths.few.1)

  -- every number on the way fits
  pub room : (g : ℕ) → g < 65536 → Room rest wide g n d
  room g f =
      let l = left_at m.walks h v g f in
      record {
        left-fits = omega (arith, left-small l);
        left-least = left-least l;
        entry-room = correction l;
        rest-fits = rest-fits;
        rest-room = rest-room;
        wide_fits = wide_fits;
        wide_room = wide_room;
      }

  pub reached-next : (g least most : ℕ) → i < length table → g < 65536
      → least ≤ low → least ≤ left_by wide rest g + wide % 4294967296
      → high ≤ most → left_by wide rest g - wide % 4294967296 ≤ most
      → Reached A sum distance (set table i (entry_by wide rest g)) (rest + n.up - n.down)
      (wide + d.up - d.down) least most (i + 1)
  reached-next g least most inside few a b p q = record {
    rest-at = moved m.rests rest i rest-room v.rest-at;
    wide_at = moved m.widths wide i wide_room v.wide_at;
    tried = λ k u.
        entries_next {from = 0} table (entry_by wide rest g) 0
        (λ k. Tried least most (top A sum distance k) (2 * size_at distance k)) inside
        (λ k _ l. before k (v.tried k l)) here k (omega arith) u;
  }
    where
      here : Tried least most (top A sum distance i) (2 * size_at distance i) (entry_by wide rest g)
      here = subst (λ D. Tried least most (top A sum distance i) D (entry_by wide rest g)) (by-is m.walks h v) record {
        guess = g;
        rest = left_by wide rest g;
        left = left_at m.walks h v g few;
        above = b;
        under = q;
        is = refl;
      }

      before : (k : ℕ) {t : ℕ} → Tried low high (top A sum distance k) (2 * size_at distance k) t
          → Tried least most (top A sum distance k) (2 * size_at distance k) t
      before k o = record {
        guess = o.guess;
        rest = o.rest;
        left = o.left;
        above = le_trans a o.above;
        under = le_trans o.under p;
        is = o.is;
      }

-- before the first column
pub reached-none : {A : ℕ} {sum distance : Line} {count : ℕ} {n d : Carried} → Stands A sum distance count n d
    → (table : List ℕ) (low high : ℕ) → Reached A sum distance table n.at d.at low high 0
reached-none m table low high = record {
  rest-at = m.rests.first;
  wide_at = m.widths.first;
  tried = λ k u. absurd (omega (arith, u));
}

-- where every guess is good, the table has T + 32
pub confirmed : {A : ℕ} {sum distance : Line} {count : ℕ} {table : List ℕ} {rest wide low high i : ℕ}
    → Walks A sum distance count → Reached A sum distance table rest wide low high i
    → count ≤ i → far ≤ low → high < far → Plain A sum distance count table
confirmed {A} {sum} {distance} {count} {table} {low = least} {high = most} w v h low high = record {
  entry = λ m l. go m l (v.tried m (omega (arith, h, l)));
}
  where
    go : (m : ℕ) → m < count
        → Tried least most (top A sum distance m) (2 * size_at distance m) (get_or table m 0)
        → position64 Format.Cmp A (walk_at sum m -ℤ walk_at distance m) (size_at distance m)
        ≡ pos (get_or table m 0) -ℤ pos 32
    go m l t =
        position-cmp A (size_at sum m) (walk_at sum m -ℤ walk_at distance m) (size_at distance m) (w.positive m l)
        (ap (λ z. walk_at sum m -ℤ walk_at distance m +ℤ z) (w.distances.ahead m l)
        ∙ -ℤ-+ℤ_cancel (walk_at sum m) (walk_at distance m) ∙ sym (w.sums.ahead m l))
        ∙ ap (λ q. pos q -ℤ pos 32)
        (sym (t.is ∙ quotient t.left (omega (arith, w.positive m l)) (omega (arith, t.above, low))
        (omega (arith, t.under, high))))
