-- The exit status of a session, and its one ending where memory is wanting.
use Rattle.std.specs.Prelude.{ℕ}
use Rattle.rdf_terms.specs.Names.{refused}
use Rattle.rdf_keeper.specs.declared.script.status.Status.{Status}
use Rattle.rdf_keeper.specs.declared.script.status.Status.TheVariants.{Accepted, Refused, ReadFailed, WriteFailed, NoMemory}

-- 0 where all was accepted, 1 where something was refused, 3 after a fault of the reader or the writer, 4 for want of memory
abbrev pub status_code : Status → ℕ
status_code Accepted = 0
status_code Refused = 1
status_code ReadFailed = 3
status_code WriteFailed = 3
status_code (NoMemory _) = 4

abbrev pub no_memory : Status
no_memory = NoMemory refused
