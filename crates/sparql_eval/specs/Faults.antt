-- The words of the faults.
use Rattle.std.specs.Prelude.{ℕ, List, codes}
use Rattle.sparql_eval.specs.declared.fault.ApplyFault.{ApplyFault}
use Rattle.sparql_eval.specs.declared.fault.ApplyFault.TheVariants.{MissingGraph, GraphExists, BlankNumbers, NoMemory}

abbrev pub name_of : ApplyFault → List ℕ
name_of MissingGraph = codes "MissingGraph"
name_of GraphExists = codes "GraphExists"
name_of BlankNumbers = codes "BlankNumbers"
name_of (NoMemory refused) = codes "NoMemory"
