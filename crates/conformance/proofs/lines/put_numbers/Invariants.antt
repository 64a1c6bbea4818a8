-- `put_numbers` meets its contract: each number takes at most 21 bytes.
use Rattle.std.proofs.Common.{◌≡◌, ◌+◌, ◌*◌, ◌≤◌, length}
use Rattle.conformance.proofs.lines.put_numbers.Given as goal

abbrev pub invariant-loop-n : goal.invariant-loop-n
invariant-loop-n g l = (l.end ≤ l.at + 21 * l.n-index) × (length l.text ≡ length l.initial.text)
