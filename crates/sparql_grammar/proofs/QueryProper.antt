-- Queries that are derived of formed lexemes are proper.
use Rattle.std.proofs.Common.{refl, [], ◌∷◌}
use Rattle.std.proofs.lemmas.Bool.{and_from}
use Rattle.std.specs.List.{AllByRecursion}
use Rattle.rdf_grammar.proofs.CallerLemmas.{lexemes_have_forms}
use Rattle.sparql_terminals.specs.declared.terminal.Terminal.TheVariants as terminal
use Rattle.sparql_grammar.specs.declared.tree.Columns.TheVariants as c
use Rattle.sparql_grammar.specs.declared.tree.Group.{Group}
use Rattle.sparql_grammar.specs.declared.tree.QueryForm.TheVariants as form
use Rattle.sparql_grammar.specs.GroupGrammar.{GroupAt}
use Rattle.sparql_terminals.specs.Lexemes.{Derives}
use Rattle.sparql_grammar.specs.Proper.{is_filled, proper_group, proper_columns, proper_form, proper_query}
use Rattle.sparql_grammar.specs.QueryGrammar as g
use Rattle.sparql_grammar.specs.QueryLaws.{QueriesAreProper}
use Rattle.sparql_grammar.specs.QueryReading.{query_with}
use Rattle.sparql_terminals.specs.Terminals.{terminal_by}
use Rattle.sparql_terminals.proofs.CallerLemmas.{lexemes_formed, Yields, Any, IsOf, then_gives, pure_gives, or_gives, value_gives, map_gives, behind_gives, closed_gives, star_gives, one_gives, Passes}
use Rattle.sparql_grammar.proofs.GrammarProper.{perhaps_gives}
use Rattle.sparql_grammar.proofs.GroupProper.{group_at_gives}
use Rattle.sparql_grammar.proofs.PrologueProductions.{declaration_gives}

-- ---- queries

variables_give : Yields g.Vars (Passes is_filled)
variables_give = then_gives _ _ (IsOf terminal.Variable) (Passes is_filled) (value_gives terminal.Variable)
    (λ first _. then_gives _ _ (AllByRecursion (IsOf terminal.Variable)) (Passes is_filled) (star_gives _ (IsOf terminal.Variable) (one_gives _ (IsOf terminal.Variable) (value_gives terminal.Variable)))
    (λ others _. pure_gives (first ∷ others) (Passes is_filled) refl))

columns_give : Yields g.AColumns (Passes proper_columns)
columns_give = or_gives _ _ (Passes proper_columns) (map_gives c.Variables _ (Passes is_filled) (Passes proper_columns) variables_give (λ xs h. h))
    (closed_gives terminal.Star c.All (Passes proper_columns) refl)

module _ (Group' : Derives Group) (i : Yields Group' (Passes proper_group)) where
  where_gives : Yields (g.WhereClause Group') (Passes proper_group)
  where_gives = then_gives _ _ Any (Passes proper_group) (perhaps_gives terminal.Where) (λ _ _. i)

  select_gives : Yields (g.SelectQuery Group') (Passes proper_form)
  select_gives = behind_gives terminal.Select _ (Passes proper_form) (then_gives _ _ Any (Passes proper_form) (perhaps_gives terminal.Distinct)
      (λ distinct _. then_gives _ _ (Passes proper_columns) (Passes proper_form) columns_give
      (λ columns h. then_gives _ _ (Passes proper_group) (Passes proper_form) where_gives
      (λ x k. pure_gives (form.Select distinct columns x) (Passes proper_form) (and_from (proper_columns columns) (proper_group x) h k)))))

  ask_gives : Yields (g.AskQuery Group') (Passes proper_form)
  ask_gives = behind_gives terminal.Ask _ (Passes proper_form) (map_gives form.Ask _ (Passes proper_group) (Passes proper_form) where_gives (λ x h. h))

  query_gives : Yields (g.AQuery Group') (Passes proper_query)
  query_gives = then_gives _ _ (AllByRecursion Any) (Passes proper_query) (star_gives _ Any (one_gives _ Any declaration_gives))
      (λ prologue _. then_gives _ _ (Passes proper_form) (Passes proper_query) (or_gives _ _ (Passes proper_form) select_gives ask_gives)
      (λ form h. pure_gives (query_with prologue form) (Passes proper_query) h))

pub queries_proper : QueriesAreProper
unfolding Yields
queries_proper text from rest tokens ts query runs are d =
    let formed = lexemes_formed text tokens ts are (lexemes_have_forms terminal_by text from rest tokens ts runs are) in
    (query_gives (GroupAt d.0) (group_at_gives d.0) ts query [] d.1 formed).0
