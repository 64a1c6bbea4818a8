-- `rest_from` meets its contract: 2^62 − 1 less the numerator of the first column, and what that moves by.
use mathlib.Core.Path.{◌≡◌, refl, sym, ◌∙◌, ap, ap₂, subst, subst₂}
use mathlib.Core.List.{[], ◌∷◌}
use Prim.Native.Nat.{ℕ, ◌+◌, ◌*◌, ◌-◌, ◌≤◌}
use native.Mathlib.Nat.{le_trans}
use native.Mathlib.Omega.{arith}
use lib.Dec.{lit≤}
use lib.IntN.{ℤ, pos, neg_ℤ, nat_abs, ◌+ℤ◌, ◌-ℤ◌, ◌*ℤ◌}
use mir.Syntax.{w64}
use mir.Val.{to_z, of_z}
use Rattle.arithmetic.specs.Integers.{natural}
use Rattle.arithmetic.proofs.Held.{Held, held}
use Rattle.arithmetic.proofs.Ring.{Expr, var, con, ◌⊕◌, ◌⊗◌, ◌⊝◌, ⊖, solve}
use Rattle.arithmetic.proofs.Sizes.{pos-sub}
use Rattle.positions.specs.declared.Line.{Line}
use Rattle.plain.specs.Walks.{rest_at}
use Rattle.plain.proofs.Moves.{opposite-moves, rises, rises-small, falls, falls-small}
use Rattle.plain.proofs.rest_from.Goals.{After-numerator-slope, After-numerator-start, Start}
use Rattle.plain.proofs.rest_from.Goals as goal

-- 64·A·s + d of two numbers
abbrev numerator_of : ℕ → ℤ → ℤ → ℤ
numerator_of A s d = pos (64 * A) *ℤ s +ℤ d

-- what a call of `numerator` gives
numerator-held : (A : ℕ) (s d : ℤ) {n : ℤ} → nat_abs s ≤ 2147483644 → nat_abs d ≤ 2147483644
    → (n ≡ numerator_of A (to_z w64 (of_z w64 s)) (to_z w64 (of_z w64 d))) × (nat_abs n ≤ 281474976710656)
    → Held (of_z w64 n) (numerator_of A s d) 281474976710656
numerator-held A s d {n} p q e =
    let is : n ≡ numerator_of A s d = e.0 ∙ ap₂ (numerator_of A) (held s p tt).is (held d q tt).is in
    record { is = (held n e.1 tt).is ∙ is; small = subst (λ n. nat_abs n ≤ 281474976710656) is e.1 }

-- the expression of 2^62 − 1 less the numerator at column i
abbrev rest : Expr → Expr
rest i = con (pos 4611686018427387903) ⊝ (var 0 ⊗ (var 1 ⊕ i ⊗ var 2) ⊕ (var 3 ⊕ i ⊗ var 4))

module _ (A : ℕ) (s d : Line) where
  first_rest : {r : ℕ} → pos (nat_abs s.start) ≡ s.start → pos (nat_abs d.start) ≡ d.start
      → r ≤ 281474976710656 → r ≡ natural (numerator_of A s.start d.start)
      → pos (4611686018427387903 - r) ≡ rest_at A s d 0
  first_rest {r} p q h is =
      sym (pos-sub 4611686018427387903 r (omega (arith, h))) ∙ ap (λ z. pos 4611686018427387903 -ℤ z) (ap pos is ∙ whole)
      ∙ solve (pos (64 * A) ∷ s.start ∷ s.slope ∷ d.start ∷ d.slope ∷ [])
      (con (pos 4611686018427387903) ⊝ (var 0 ⊗ var 1 ⊕ var 3)) (rest (con (pos 0))) tt
    where
      whole : pos (natural (numerator_of A s.start d.start)) ≡ numerator_of A s.start d.start
      whole = subst₂ (λ s d. pos (natural (numerator_of A s d)) ≡ numerator_of A s d) p q refl

  rest-next : (i : ℕ) → rest_at A s d i +ℤ neg_ℤ (numerator_of A s.slope d.slope) ≡ rest_at A s d (i + 1)
  rest-next i =
      solve (pos (64 * A) ∷ s.start ∷ s.slope ∷ d.start ∷ d.slope ∷ pos i ∷ [])
      (rest (var 5) ⊕ ⊖ (var 0 ⊗ var 2 ⊕ var 4)) (rest (var 5 ⊕ con (pos 1))) tt

module _ (c : Start) where
  abbrev A : ℕ
  A = c.args.size

  abbrev s : Line
  s = c.args.s

  abbrev d : Line
  d = c.args.d

  s-small : nat_abs s.start ≤ 2147483644
  s-small = le_trans c.requires.1.start_small (lit≤ tt)

  d_small : nat_abs d.start ≤ 2147483644
  d_small = le_trans c.requires.2.start_small (lit≤ tt)

-- the start of the numerator, and its slope
start : (c : After-numerator-start) → let o = c.before.before.before.before in
    Held (of_z w64 c.numerator-start.result) (numerator_of (A o) (s o).start (d o).start) 281474976710656
start c =
    let o = c.before.before.before.before in
    numerator-held (A o) (s o).start (d o).start (s-small o) (d_small o) c.numerator-start.ensures

slope : (c : After-numerator-slope) → let o = c.before.before.before.before.before.before in
    Held (of_z w64 c.numerator-slope.result) (numerator_of (A o) (s o).slope (d o).slope) 281474976710656
slope c =
    let o = c.before.before.before.before.before.before in
    numerator-held (A o) (s o).slope (d o).slope o.requires.1.slope-small o.requires.2.slope-small
    c.numerator-slope.ensures

pub returns : goal.returns
returns c =
    let m = (goal.at.returns c).After-numerator-slope in
    let n = (goal.at.returns c).After-numerator-start in
    let o = (goal.at.returns c).Start in
    record {
      first = first_rest (A o) (s o) (d o) o.requires.1.start-ahead o.requires.2.start-ahead
          (rises-small (start n) c.rise.ensures)
          (rises (start n) c.rise.ensures);
      next = λ i.
          ap₂ (λ u v. rest_at (A o) (s o) (d o) i +ℤ (pos u -ℤ pos v)) (falls (slope m) tt c.rise-2.ensures)
          (rises (slope m) c.rise-3.ensures)
          ∙ ap (λ z. rest_at (A o) (s o) (d o) i +ℤ z) (opposite-moves (numerator_of (A o) (s o).slope (d o).slope))
          ∙ rest-next (A o) (s o) (d o) i;
      few = (falls-small (slope m) tt c.rise-2.ensures, rises-small (slope m) c.rise-3.ensures);
    }
