-- What a call answers, by the values that it has where it is accepted.
use Rattle.std.specs.Prelude.{List, ℤ, Result as Returned, Ok, Err}
use Rattle.cubemap.specs.declared.Refusal.{Refusal}
use Rattle.cubemap.specs.Interface.{accepted}
use Rattle.cubemap.specs.Outcomes.{Result, result, refused}

abbrev pub answered : {X : Type 0} → (X → List ℤ) → Returned X Refusal → Result
answered values (Ok x) = result accepted (values x)
answered values (Err r) = refused r
