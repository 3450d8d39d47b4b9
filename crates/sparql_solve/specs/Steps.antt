-- What elements make of mappings, some of them first.
use Rattle.std.specs.Prelude.{List, ◌++◌}
use Rattle.rdf_terms.specs.declared.quad.GraphName.{GraphName}
use Rattle.rdf_dataset.specs.State.{State}
use Rattle.sparql_values.specs.Mapping.{Variables, Mapping}
use Rattle.sparql_algebra.specs.Algebra.{Element}
use Rattle.sparql_solve.specs.Under.{AreMade}

-- the first of these mappings gave what is made: behind it comes what the element makes of those that are left
abbrev pub Begins : Variables → State → GraphName → Mapping → Element → List Mapping → List Mapping → List Mapping → Type 0
Begins vs s g a k rows made rest = (more : List Mapping) → AreMade vs s g a k rest more → AreMade vs s g a k rows (made ++ more)
