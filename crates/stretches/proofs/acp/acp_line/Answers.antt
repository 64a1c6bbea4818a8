-- `acp_line` meets its contract: part by part.
use mathlib.Core.Path.{sym, ◌∙◌, subst}
use Prim.Native.Nat.{ℕ, ◌+◌, ◌*◌, ◌≤◌}
use native.Mathlib.Omega.{arith}
use lib.ListN.{length}
use borrow.Author.Rules.{rules}
use Rattle.arithmetic.proofs.ListParts.{part_length}
use Rattle.stretches.specs.Numbers.{Ahead}
use Rattle.stretches.proofs.Walking.{sum-ahead}
use Rattle.stretches.proofs.Parts.{numbers-part, part-done}
use Rattle.stretches.proofs.acp.acp_line.Goals as goal

pub line_numbers-requires : goal.line_numbers-requires
line_numbers-requires c =
    let s = c.args.stretch in
    (subst (λ l. Ahead l s.coordinates.now) (sym c.plus-sums.ensures) (sum-ahead s.stretch), c.requires.2)

pub acp_part-requires-clause-numbers : goal.acp_part-requires-clause-numbers
acp_part-requires-clause-numbers c =
    let p = c.part.ensures in
    let q = c.part-in-loop-k.ensures in
    let numbers = c.args.stretch.coordinates.now in
    let from : ℕ = 64 * c.loop-k.k in
    let h : from ≤ c.min-to.result = search rules in
    let l : c.min-to.result ≤ length numbers = search rules in (
      rw (p.2, p.3, q.1)
          (numbers-part numbers from c.min-to.result h l c.args.divisors.distances.now
          (λ j _ q. c.requires.0.entry j q)),
      rw (p.1, p.2, p.3) (numbers-part numbers from c.min-to.result h l c.loop-k.table c.loop-k.invariant.left),
    )

pub loop-k-preserved : goal.loop-k-preserved
loop-k-preserved c =
    let s = c.args.stretch in
    let p = c.part.ensures in
    let from : ℕ = 64 * c.loop-k.k in
    let to = c.min-to.result in
    let h : from ≤ to = search rules in
    let l : to ≤ length s.coordinates.now = search rules in
    let room : length s.coordinates.now ≤ length c.loop-k.table = search rules in
    part-done s.size s.line s.distance s.coordinates.now from to (64 * (c.loop-k.k + 1)) c.loop-k.table _
    c.loop-k.invariant h l room (c.acp_part.ensures.1 ∙ part_length from to c.loop-k.table h (omega arith))
    (λ i a b. omega arith) (omega arith)
    (rw (p.0, p.1, p.2, p.3) at c.acp_part.ensures.0)
