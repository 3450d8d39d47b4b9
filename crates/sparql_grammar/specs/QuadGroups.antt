-- The group that quads are: what DELETE WHERE deletes is also the pattern that it asks for (SPARQL 1.1 Update, section 3.1.3.3).
use Rattle.std.specs.Prelude.{List, [], ◌∷◌, Option, Some, None}
use Rattle.std.specs.List.{flat_map}
use Rattle.sparql_grammar.specs.declared.tree.Block.{Block}
use Rattle.sparql_grammar.specs.declared.tree.Group.{Group}
use Rattle.sparql_grammar.specs.declared.tree.Member.{Member}
use Rattle.sparql_grammar.specs.declared.tree.Member.TheVariants as m
use Rattle.sparql_grammar.specs.declared.tree.Triples.{Triples}
use Rattle.sparql_grammar.specs.declared.tree.VarOrIri.{VarOrIri}
use Rattle.sparql_grammar.specs.GroupReading.{together}

-- triples stand together, and those of GRAPH in a group of their own
abbrev pub members_by : Option VarOrIri → List Triples → List Member
members_by None triples = together triples
members_by (Some name) triples = m.Graph name (record { members = together triples; filters = [] }) ∷ []

abbrev pub quads_group : List Block → Group
quads_group blocks = record { members = flat_map (λ b. members_by b.graph b.triples) blocks; filters = [] }
