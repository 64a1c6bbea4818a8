-- `plain_stretch` meets its contract: along evenly spaced columns the sums and the distances are walks.
use mathlib.Core.Path.{◌≡◌, sym, ◌∙◌, ap, ap₂, subst, subst₂}
use Prim.Native.Nat.{◌≤◌}
use lib.IntN.{ℤ, nat_abs}
use lib.ListN.{length}
use mir.Syntax.{w64}
use mir.Val.{to_z, of_z}
use Rattle.arithmetic.proofs.Held.{held}
use Rattle.plain.specs.Walks.{Walks, Plain}
use Rattle.positions.specs.RayLines.{coordinate_at, sum_line}
use Rattle.stretches.specs.declared.rays.RayStretch.{RayStretch}
use Rattle.stretches.specs.Numbers.{Evenly}
use Rattle.stretches.proofs.Walking.{walk_of, distance-ahead, walks, plain-positioned}
use Rattle.stretches.proofs.cmp.plain_stretch.Goals.{After-walk_from-3}
use Rattle.stretches.proofs.cmp.plain_stretch.Goals as goal

-- the coordinate of the first column, as the machine reads it
module _ (s : RayStretch) where
  abbrev a : ℤ
  a = coordinate_at s.coordinates.now 0

  a_small : nat_abs a ≤ 65536
  a_small = s.across_stretch.small 0 s.not_empty

  a-is : to_z w64 (of_z w64 a) ≡ a
  a-is = (held a a_small tt).is

-- the three walks, as they were found
module _ (c : After-walk_from-3) where
  abbrev s : RayStretch
  s = c.args.stretch

  evenly : Evenly s.coordinates.now
  evenly = s.evenly_spaced c.if-not-stretch.false

  across-is : c.walk_from.result ≡ walk_of (sum_line s.lines.across s.lines.distance) (a s)
  across-is = c.walk_from.ensures ∙ ap₂ walk_of c.plus.ensures (a-is s)

  down_is : c.walk_from-2.result ≡ walk_of (sum_line s.lines.down s.lines.distance) (a s)
  down_is = c.walk_from-2.ensures ∙ ap₂ walk_of c.plus-2.ensures (a-is s)

  distance_is : c.walk_from-3.result ≡ walk_of s.lines.distance (a s)
  distance_is = c.walk_from-3.ensures ∙ ap (walk_of s.lines.distance) (a-is s)

pub walk_from-requires-3 : goal.walk_from-requires-3
walk_from-requires-3 c =
    let s = c.args.stretch in
    ((distance-ahead s.across_stretch).wide, subst (λ z. nat_abs z ≤ 65536) (sym (a-is s)) (a_small s))

pub invariant_of-even : goal.invariant_of-even
invariant_of-even c =
    let w = (goal.at.invariant_of-even c).After-walk_from-3 in
    let t = s w in
    record {
      column_walks =
          subst₂ (λ x d. Walks t.size x d (length t.coordinates.now)) (sym (across-is w)) (sym (distance_is w))
          (walks t.not_empty (evenly w) t.across_stretch);
      row_walks =
          subst₂ (λ x d. Walks t.size x d (length t.coordinates.now)) (sym (down_is w)) (sym (distance_is w))
          (walks t.not_empty (evenly w) t.down_stretch);
    }

pub returns : goal.returns
returns c e =
    let w = (goal.at.returns c).After-walk_from-3 in
    let t = s w in
    let p = c.plain_positions.ensures e in (
      plain-positioned t.not_empty (evenly w) t.across_stretch
          (subst₂ (λ x d. Plain t.size x d (length t.coordinates.now) c.plain_positions.new.columns)
          (across-is w) (distance_is w) p.0),
      plain-positioned t.not_empty (evenly w) t.down_stretch
          (subst₂ (λ x d. Plain t.size x d (length t.coordinates.now) c.plain_positions.new.rows)
          (down_is w) (distance_is w) p.1),
    )
