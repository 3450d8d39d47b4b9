-- What a query says before its static rule is asked (SPARQL 1.1 Query, sections 4.1.1 and 16).
use Rattle.std.specs.Prelude.{ℕ, Bool, List, [], Option, map}
use Rattle.std.specs.Option.{option_and_then}
use Rattle.rdf_grammar.specs.Prologue as prologue
use Rattle.rdf_grammar.specs.Prologue.{Prologue}
use Rattle.rdf_grammar.specs.Steps.{◌<$>◌, each}
use Rattle.sparql_drafts.specs.Meaning.{declaration}
use Rattle.sparql_grammar.specs.declared.tree.Columns.{Columns}
use Rattle.sparql_grammar.specs.declared.tree.Columns.TheVariants as columns
use Rattle.sparql_grammar.specs.declared.tree.Query as written
use Rattle.sparql_grammar.specs.declared.tree.QueryForm.{QueryForm}
use Rattle.sparql_grammar.specs.declared.tree.QueryForm.TheVariants as form
use Rattle.sparql_queries.specs.Groups.{Does, Labels, group}
use Rattle.sparql_queries.specs.Variables.{variable_name}
use Rattle.sparql_trees.specs.Visible.{visible}
use Rattle.sparql_trees.specs.declared.pattern.Pattern.{Pattern}
use Rattle.sparql_trees.specs.declared.query.Query.{Query}
use Rattle.sparql_trees.specs.declared.query.Query.TheVariants.{Select, Ask}

-- the columns as they are named, or the visible variables (sections 16.1 and 18.2.4.4)
abbrev pub columns_of : Columns → Pattern → List (List ℕ)
columns_of columns.All pattern = visible pattern
columns_of (columns.Variables variables) pattern = map variable_name variables

abbrev pub select_with : Bool → Columns → Pattern → Query
select_with distinct columns pattern = Select (record { distinct = distinct; columns = columns_of columns pattern; pattern = pattern })

abbrev pub form_in : Prologue → QueryForm → Does Query
form_in p (form.Select distinct columns g) = select_with distinct columns <$> group p g
form_in p (form.Ask g) = Ask <$> group p g

-- the prologue's declarations, and then the form
abbrev pub said_from : Prologue → written.Query → Does Query
said_from p q = λ labels. option_and_then (λ declared. form_in declared.1 q.form labels) (each declaration q.prologue p)

-- Against the base, the query and the blank node labels of each of its basic graph patterns; nothing where a name has no IRI.
unfoldable pub query_in : Option (List ℕ) → written.Query → Option (Query × Labels)
query_in base q = said_from (prologue.start base) q []
