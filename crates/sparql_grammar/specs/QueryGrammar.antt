-- Queries as they are written (SPARQL 1.1 Query, section 19.8, by the numbers of its rules), with no look at the next lexeme.
use Rattle.std.specs.Prelude.{ℕ, List, [], ◌∷◌}
use Rattle.rdf_grammar.specs.Derivations.{◌>>=◌, ◌>>◌, ◌<$>◌, ◌∣◌, pure, the, one, Star}
use Rattle.rdf_grammar.specs.Terminals.{Slice}
use Rattle.sparql_terminals.specs.declared.terminal.Terminal.TheVariants as terminal
use Rattle.sparql_grammar.specs.declared.tree.Columns.{Columns}
use Rattle.sparql_grammar.specs.declared.tree.Columns.TheVariants as c
use Rattle.sparql_grammar.specs.declared.tree.Group.{Group}
use Rattle.sparql_grammar.specs.declared.tree.Query.{Query}
use Rattle.sparql_grammar.specs.declared.tree.QueryForm.{QueryForm}
use Rattle.sparql_grammar.specs.declared.tree.QueryForm.TheVariants as form
use Rattle.sparql_grammar.specs.Grammar.{Perhaps, Var}
use Rattle.sparql_grammar.specs.GroupGrammar.{GroupAt}
use Rattle.sparql_terminals.specs.Lexemes.{Lexemes, Derives}
use Rattle.sparql_grammar.specs.PrologueGrammar.{Prologue}
use Rattle.sparql_grammar.specs.QueryReading.{query_with}

-- Var+
abbrev pub Vars : Derives (List Slice)
Vars = do
  first ← Var
  others ← Star (one Var)
  pure (first ∷ others)

-- Var+ | "*"
abbrev pub AColumns : Derives Columns
AColumns = (c.Variables <$> Vars) ∣ (the terminal.Star >> pure c.All)

module _ (Group' : Derives Group) where
  -- 17: WhereClause = "WHERE"? GroupGraphPattern
  abbrev pub WhereClause : Derives Group
  WhereClause = Perhaps terminal.Where >> Group'

  -- 7: SelectQuery = SelectClause DatasetClause* WhereClause SolutionModifier, and
  -- 9: SelectClause = "SELECT" ( "DISTINCT" | "REDUCED" )? ( ( Var | "(" Expression "AS" Var ")" )+ | "*" ); FROM, REDUCED, AS and the
  -- words of SolutionModifier are left out
  abbrev pub SelectQuery : Derives QueryForm
  SelectQuery = do
    the terminal.Select
    distinct ← Perhaps terminal.Distinct
    columns ← AColumns
    group ← WhereClause
    pure (form.Select distinct columns group)

  -- 12: AskQuery = "ASK" DatasetClause* WhereClause SolutionModifier, with what SELECT leaves out
  abbrev pub AskQuery : Derives QueryForm
  AskQuery = the terminal.Ask >> form.Ask <$> WhereClause

  -- 2: Query = Prologue ( SelectQuery | ConstructQuery | DescribeQuery | AskQuery ) ValuesClause; CONSTRUCT, DESCRIBE and VALUES are
  -- left out
  abbrev pub AQuery : Derives Query
  AQuery = do
    prologue ← Prologue
    form ← SelectQuery ∣ AskQuery
    pure (query_with prologue form)

-- All of the lexemes are this query. Its brackets may nest as deep as they do.
abbrev pub IsQuery : Lexemes → Query → Type 0
IsQuery ts query = (depth : ℕ) × AQuery (GroupAt depth) ts query []
