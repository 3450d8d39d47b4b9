-- The printed words of faults, and the one fault of memory that is wanting.
use Rattle.std.specs.Prelude.{ℕ, List, codes}
use Rattle.rdf_terms.specs.Names.{refused}
use Rattle.rdf_lines.specs.declared.fault.FaultKind.{FaultKind}
use Rattle.rdf_lines.specs.declared.fault.FaultKind.TheVariants.{NotUtf8, Syntax, Relative, Read, NoMemory, Failed}
use Rattle.rdf_lines.specs.declared.state_text.fault.StateFault.{StateFault}
use Rattle.rdf_lines.specs.declared.state_text.fault.StateFault.TheVariants as state_fault

abbrev pub fault_name : FaultKind → List ℕ
fault_name NotUtf8 = codes "NotUtf8"
fault_name Syntax = codes "Syntax"
fault_name Relative = codes "Relative"
fault_name Read = codes "Read"
fault_name (NoMemory _) = codes "NoMemory"
fault_name Failed = codes "Failed"

abbrev pub no_memory : FaultKind
no_memory = NoMemory refused

abbrev pub state_fault_name : StateFault → List ℕ
state_fault_name state_fault.NotState = codes "NotState"
state_fault_name (state_fault.NoMemory _) = codes "NoMemory"
