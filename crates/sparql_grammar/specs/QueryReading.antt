-- Queries (SPARQL 1.1 Query, section 19.8), a definition for each production. Where a production has alternatives the next lexeme
-- chooses.
use Rattle.std.specs.Prelude.{List, ◌∷◌, Option, Some}
use Rattle.rdf_grammar.specs.Steps.{◌>>=◌, ◌>>◌, ◌<$>◌, pure, none}
use Rattle.rdf_grammar.specs.Terminals.{Slice, peek}
use Rattle.rdf_grammar.specs.Readings.{any, choose, is_more, one, repeat}
use Rattle.sparql_terminals.specs.declared.terminal.Terminal.{Terminal}
use Rattle.sparql_terminals.specs.declared.terminal.Terminal.TheVariants as terminal
use Rattle.sparql_grammar.specs.declared.tree.Columns.{Columns}
use Rattle.sparql_grammar.specs.declared.tree.Columns.TheVariants as c
use Rattle.sparql_grammar.specs.declared.tree.Declaration.{Declaration}
use Rattle.sparql_grammar.specs.declared.tree.Group.{Group}
use Rattle.sparql_grammar.specs.declared.tree.Query.{Query}
use Rattle.sparql_grammar.specs.declared.tree.QueryForm.{QueryForm}
use Rattle.sparql_grammar.specs.declared.tree.QueryForm.TheVariants as form
use Rattle.sparql_grammar.specs.GroupReading.{whole_group}
use Rattle.sparql_terminals.specs.Lexemes.{Reading, sees, value}
use Rattle.sparql_grammar.specs.PrologueReading.{prologue}
use Rattle.sparql_grammar.specs.Reading.{perhaps}

abbrev pub query_with : List Declaration → QueryForm → Query
query_with prologue form = record { prologue = prologue; form = form }

-- Var+
unfoldable pub variables : Reading (List Slice)
variables = do
  first ← value terminal.Variable
  others ← repeat (sees terminal.Variable) (one (value terminal.Variable))
  pure (first ∷ others)

-- Var+ | "*"
abbrev pub columns_by : Option Terminal → Reading Columns
columns_by (Some terminal.Star) = any >> pure c.All
columns_by _ = c.Variables <$> variables

unfoldable pub columns : Reading Columns
columns = peek >>= columns_by

-- no lexeme is left
abbrev pub at_end : Reading (Unit {0})
at_end = choose is_more none (pure tt)

-- group is the rule for GroupGraphPattern
module _ (group : Reading Group) where
  -- WhereClause = "WHERE"? GroupGraphPattern
  unfoldable pub where_clause : Reading Group
  where_clause = perhaps terminal.Where >> group

  -- "DISTINCT"? ( Var+ | "*" ) WhereClause
  unfoldable pub select_query : Reading QueryForm
  select_query = do
    distinct ← perhaps terminal.Distinct
    columns ← columns
    group ← where_clause
    pure (form.Select distinct columns group)

  -- WhereClause
  unfoldable pub ask_query : Reading QueryForm
  ask_query = form.Ask <$> where_clause

  -- SelectQuery | AskQuery
  abbrev pub query_form_by : Option Terminal → Reading QueryForm
  query_form_by (Some terminal.Select) = any >> select_query
  query_form_by (Some terminal.Ask) = any >> ask_query
  query_form_by _ = none

  unfoldable pub query_form : Reading QueryForm
  query_form = peek >>= query_form_by

  -- Query = Prologue ( SelectQuery | AskQuery ), up to the last lexeme
  unfoldable pub query : Reading Query
  query = do
    prologue ← prologue
    form ← query_form
    at_end
    pure (query_with prologue form)

abbrev pub whole_query : Reading Query
whole_query = query whole_group
