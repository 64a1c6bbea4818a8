-- `put_outcome` meets its contract: two numbers take at most 42 bytes, and each number of the answer at most 21.
use Rattle.std.proofs.Common.{◌≡◌, ◌+◌, ◌*◌, ◌≤◌, length}
use Rattle.conformance.proofs.calls.put_outcome.Given as goal

abbrev pub invariant-loop-i : goal.invariant-loop-i
invariant-loop-i l = (l.end ≤ l.at + 42 + 21 * l.i) × (length l.text ≡ length l.initial.text)
