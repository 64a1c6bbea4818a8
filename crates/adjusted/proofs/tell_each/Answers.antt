-- `tell_each` meets its contract: column by column, each entry is told by its bracket where the flags say so.
use mathlib.Core.Path.{◌≡◌, ◌∙◌, subst}
use Prim.Native.Nat.{◌<◌}
use native.Mathlib.Nat.{le_refl}
use native.Mathlib.Omega.{arith}
use lib.Dec.{ltb, ltb→lt}
use lib.ListN.{length, get_or}
use lib.Seq.{get_or-set_other}
use borrow.Author.Rules.{rules}
use Rattle.arithmetic.proofs.Bits.{or_left, or_right}
use Rattle.arithmetic.proofs.Filling.{entries_next}
use Rattle.arithmetic.proofs.Tests.{passes, and_left, and_right}
use Rattle.adjusted.specs.Adjusted.{IsPosition}
use Rattle.adjusted.proofs.Told.{reached-end}
use Rattle.adjusted.proofs.tell_each.Goals as goal

pub tell-told-requires : goal.tell-told-requires
tell-told-requires g c =
    let d = c.args.divisors in
    let l = c.loop-j in
    let h : l.j < length d.distances.now = omega (arith, c.requires.0, c.loop-j-test.true) in (
      d.shift_most,
      record {
        positive = d.known.positive l.j h;
        bounded = d.known.bounded l.j h;
        ratio = omega (arith, l.invariant.kept l.j (le_refl l.j), c.requires.1.ratio l.j c.loop-j-test.true);
        near = d.near.entry l.j h;
      },
    )

pub loop-j-preserved : goal.loop-j-preserved
loop-j-preserved g c =
    let l = c.loop-j in
    let told = c.tell-told in
    let sums = c.args.table.now in
    let distances = c.args.divisors.distances.now in record {
      whole = search rules;
      kept = (λ i h. get_or-set_other l.table l.j i told.result.entry 0 (λ (e : i ≡ l.j). absurd (omega (arith, h, e)))
          ∙ l.invariant.kept i (omega (arith, h)));
      told = (λ t u i h.
          entries_next {from = 0} l.table told.result.entry 0
          (λ i. IsPosition c.args.b.size (get_or sums i 0) (get_or distances i 0)) (omega arith)
          (λ i _ h. l.invariant.told (omega (arith, t, or_left l.brackets told.result.bracket))
          (omega (arith, u, or_left l.sizes told.result.size)) i h)
          (subst (λ s. IsPosition c.args.b.size s (get_or distances l.j 0) told.result.entry)
          (l.invariant.kept l.j (le_refl l.j))
          (told.ensures (omega (arith, t, or_right l.brackets told.result.bracket))
          (omega (arith, u, or_right l.sizes told.result.size)))) i (omega arith) h);
    }

pub returns : goal.returns
returns g c =
    let l = c.loop-j in
    let brackets = ltb l.brackets 4611686018427387904 in
    let sizes = ltb l.sizes 536870912 in
    reached-end _ _ _ l.invariant (omega arith)
    (λ e. (ltb→lt _ _ (and_left brackets sizes (passes e)), ltb→lt _ _ (and_right brackets sizes (passes e))))
