-- Whether a session ended because a write call failed.
use Rattle.std.specs.Prelude.{Bool, true, false, Result, Ok, Err}
use Rattle.rdf_keeper.specs.declared.script.status.Status.{Status}
use Rattle.rdf_keeper.specs.declared.script.status.Status.TheVariants.{WriteFailed}

-- a write call failed
abbrev pub is_write_fault : Status → Bool
is_write_fault WriteFailed = true
is_write_fault status = false

abbrev pub fails_to_write : {A : Type 0} → Result A Status → Bool
fails_to_write (Ok a) = false
fails_to_write (Err status) = is_write_fault status
