-- A query's prefixes are declared in its prologue (SPARQL 1.1 Query, section 4.1.1).
use Rattle.std.specs.Prelude.{ℕ, Bool, true, ◌&&◌, List, [], ◌∷◌, map}
use Rattle.std.specs.List.{list_all}
use Rattle.rdf_grammar.specs.Literals.{known_literal}
use Rattle.rdf_grammar.specs.Prologue.{knows}
use Rattle.sparql_drafts.specs.Known.{known_triples, known_var_or_iri, declared_behind}
use Rattle.sparql_expressions.specs.declared.tree.Expression.{Expression}
use Rattle.sparql_expressions.specs.declared.tree.Expression.TheFolds.{fold-Expression}
use Rattle.sparql_expressions.specs.declared.tree.Expression.TheOpen.{Expression-F}
use Rattle.sparql_grammar.specs.Proper.{holds}
use Rattle.sparql_grammar.specs.declared.tree.Declaration.{Declaration}
use Rattle.sparql_grammar.specs.declared.tree.Group.{Group}
use Rattle.sparql_grammar.specs.declared.tree.Member.TheOpen.{Group-F, Member-F}
use Rattle.sparql_grammar.specs.declared.tree.Member.TheFolds.{fold-Group, fold-Member}
use Rattle.sparql_grammar.specs.declared.tree.Member.{Member}
use Rattle.sparql_grammar.specs.declared.tree.Query.{Query}
use Rattle.sparql_grammar.specs.declared.tree.QueryForm.{QueryForm}
use Rattle.sparql_grammar.specs.declared.tree.QueryForm.TheVariants as form

-- each prefix that stands in the tree is one of these
module _ (declared : List (List ℕ)) where
  abbrev pub known_expression_of : Expression-F Bool → Bool
  known_expression_of (Expression-F.Or operands) = list_all holds operands
  known_expression_of (Expression-F.And operands) = list_all holds operands
  known_expression_of (Expression-F.Compare operator left right) = left && right
  known_expression_of (Expression-F.Sum first addends) = first && list_all (λ addend. addend.1) addends
  known_expression_of (Expression-F.Product operands) = list_all holds operands
  known_expression_of (Expression-F.Not operand) = operand
  known_expression_of (Expression-F.Signed sign operand) = operand
  known_expression_of (Expression-F.Variable variable) = true
  known_expression_of (Expression-F.Name name) = knows declared name
  known_expression_of (Expression-F.Literal literal) = known_literal declared literal
  known_expression_of (Expression-F.Bound variable) = true
  known_expression_of (Expression-F.SameTerm left right) = left && right
  known_expression_of (Expression-F.Call function operand) = operand

  abbrev pub known_expression : Expression → Bool
  known_expression = fold-Expression Bool known_expression_of

  abbrev pub known_group_of : Group-F Bool Bool → Bool
  known_group_of g = list_all holds g.members && list_all known_expression g.filters

  abbrev pub known_member_of : Member-F Bool Bool → Bool
  known_member_of (Member-F.Triples ts) = list_all holds (map (known_triples declared) ts)
  known_member_of (Member-F.Union groups) = list_all holds groups
  known_member_of (Member-F.Optional group) = group
  known_member_of (Member-F.Graph name group) = known_var_or_iri declared name && group
  known_member_of (Member-F.Minus group) = group

  abbrev pub known_group : Group → Bool
  known_group = fold-Group Bool Bool known_member_of known_group_of

  abbrev pub known_member : Member → Bool
  known_member = fold-Member Bool Bool known_member_of known_group_of

  abbrev pub known_form : QueryForm → Bool
  known_form (form.Select distinct columns group) = known_group group
  known_form (form.Ask group) = known_group group

-- these prefixes, and those that the declarations declare
abbrev pub declared_by : List (List ℕ) → List Declaration → List (List ℕ)
declared_by declared [] = declared
declared_by declared (d ∷ ds) = declared_by (declared_behind declared d) ds

abbrev pub known_query : Query → Bool
known_query q = known_form (declared_by [] q.prologue) q.form
