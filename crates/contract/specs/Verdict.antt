-- A verdict on terms: they have a code, or why they have none.
use Rattle.std.specs.Prelude.{Result, Ok}
use Rattle.contract.specs.declared.types.Refusal.{Refusal}

abbrev pub Verdict : Type 0
Verdict = Result (Unit {0}) Refusal

abbrev pub passed : Verdict
passed = Ok tt
