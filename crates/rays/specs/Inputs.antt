-- What was read, and what is printed of it. The bytes that a reader has left, and those that a writer holds, are `None`
-- where nothing is known of them.
use Rattle.std.specs.Prelude.{ℕ, ◌<◌, List, length, take, Result, Ok, Err, IfSome}
use Rattle.std.specs.Io.KnownBytes.{Keeps, Appends, Consumes, IsAtEnd}
use Rattle.std.specs.declared.option.Option.{Option}
use Rattle.cubemap.specs.Listing.{listing}
use Rattle.rays.specs.declared.Failure.{Failure}

-- The first n bytes that the reader had were read, and all of them where the buffer is not full.
abbrev pub ReadsFront : ℕ → Option (List ℕ) → Option (List ℕ) → List ℕ → Type 0
ReadsFront n before after buffer = Consumes before after (take n buffer) × (n < length buffer → IsAtEnd after)

-- The listing of all that the reader had stands behind what the writer held; where reading failed, nothing does.
abbrev pub Printed : Result (Unit {0}) Failure → Option (List ℕ) → Option (List ℕ) → Option (List ℕ) → Type 0
Printed (Ok _) input before after = IfSome input (λ bytes. Appends before after (listing bytes))
Printed (Err (Failure.Input e)) input before after = Keeps before after
Printed (Err (Failure.Output e)) input before after = Unit {0}
