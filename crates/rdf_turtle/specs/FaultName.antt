-- The printed words of faults, and the one fault of memory that is wanting.
use Rattle.std.specs.Prelude.{ℕ, List, codes}
use Rattle.rdf_terms.specs.Names.{refused}
use Rattle.rdf_turtle.specs.declared.fault.TurtleFaultKind.{TurtleFaultKind}
use Rattle.rdf_turtle.specs.declared.fault.TurtleFaultKind.TheVariants.{NotUtf8, Token, TooDeep, Syntax, UnknownPrefix, Relative, NoMemory}

abbrev pub fault_name : TurtleFaultKind → List ℕ
fault_name NotUtf8 = codes "NotUtf8"
fault_name Token = codes "Token"
fault_name TooDeep = codes "TooDeep"
fault_name Syntax = codes "Syntax"
fault_name UnknownPrefix = codes "UnknownPrefix"
fault_name Relative = codes "Relative"
fault_name (NoMemory _) = codes "NoMemory"

abbrev pub no_memory : TurtleFaultKind
no_memory = NoMemory refused
