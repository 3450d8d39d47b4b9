-- The printed words of faults.
use Rattle.std.specs.Prelude.{ℕ, List, codes}
use Rattle.sparql_syntax.specs.declared.fault.SyntaxFaultKind.{SyntaxFaultKind}
use Rattle.sparql_syntax.specs.declared.fault.SyntaxFaultKind.TheVariants.{NotUtf8, Token, NotInProfile, TooDeep, Syntax, UnknownPrefix, Relative, BlankInDelete, VariableInData, LiteralSubject, BlankReused, NoMemory}

abbrev pub fault_name : SyntaxFaultKind → List ℕ
fault_name NotUtf8 = codes "NotUtf8"
fault_name Token = codes "Token"
fault_name NotInProfile = codes "NotInProfile"
fault_name TooDeep = codes "TooDeep"
fault_name Syntax = codes "Syntax"
fault_name UnknownPrefix = codes "UnknownPrefix"
fault_name Relative = codes "Relative"
fault_name BlankInDelete = codes "BlankInDelete"
fault_name VariableInData = codes "VariableInData"
fault_name LiteralSubject = codes "LiteralSubject"
fault_name BlankReused = codes "BlankReused"
fault_name (NoMemory refused) = codes "NoMemory"
