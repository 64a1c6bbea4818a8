-- 16, and what a record that passes it gives.
use Rattle.std.specs.Prelude.{cond, List, ℕ, Result as Returned, Ok, Err}
use Rattle.cubemap.specs.declared.Refusal.{Refusal}
use Rattle.cubemap.specs.Listing.{is_whole, record_length}

-- the length of a whole record
abbrev pub whole_length : List ℕ → Returned ℕ Refusal
whole_length b = cond (is_whole b) (Ok (record_length b)) (Err Refusal.RecordCut)
