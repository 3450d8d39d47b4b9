-- All of the lexemes are a query.
use Rattle.std.proofs.Common.{◌≡◌, ℕ, suc, ◌≤◌, [], ◌∷◌, take, length, Some, refl, ap, sym, ◌∙◌, arith}
use Rattle.std.specs.Prelude.{Result, Ok, Err, IfErr, IfOk, OnOk}
use Rattle.rdf_grammar.specs.declared.fault.GrammarFault.{GrammarFault}
use Rattle.rdf_grammar.specs.declared.fault.GrammarFault.TheVariants.{Syntax, NoMemory}
use Rattle.rdf_grammar.specs.Readings.{Fails, Reads}
use Rattle.rdf_grammar.specs.Derivations as grammar
use Rattle.rdf_grammar.specs.Derivations.{Star}
use Rattle.rdf_grammar.proofs.CallerLemmas.{some_pair, never_more, Keeps, then_keeps, pure_keeps, or_keeps, the_keeps, value_keeps, map_keeps, behind_keeps, word_keeps, star_keeps, one_keeps}
use Rattle.sparql_terminals.specs.declared.terminal.Terminal.TheVariants as terminal
use Rattle.sparql_grammar.specs.declared.tree.Columns.TheVariants as c
use Rattle.sparql_grammar.specs.declared.tree.Group.{Group}
use Rattle.sparql_grammar.specs.declared.tree.Query.{Query}
use Rattle.sparql_grammar.specs.declared.tree.QueryForm.TheVariants as form
use Rattle.sparql_grammar.specs.GroupGrammar.{GroupAt}
use Rattle.sparql_grammar.specs.GroupReading.{group_at}
use Rattle.sparql_terminals.specs.Lexemes.{Lexemes, Derives}
use Rattle.sparql_grammar.specs.Nesting.{open_after, IsTooDeep}
use Rattle.sparql_grammar.specs.QueryGrammar as g
use Rattle.sparql_grammar.specs.QueryGrammar.{IsQuery}
use Rattle.sparql_grammar.specs.QueryLaws.{OneQuery}
use Rattle.sparql_grammar.specs.QueryReading as read
use Rattle.sparql_grammar.specs.QueryReading.{whole_query}
use Rattle.sparql_grammar.specs.Stops.{ExplainsQuery}
use Rattle.sparql_terminals.specs.Terminals.{bracket}
use Rattle.sparql_grammar.proofs.GrammarNests.{perhaps_keeps}
use Rattle.sparql_grammar.proofs.GroupNests.{group_at_keeps}
use Rattle.sparql_grammar.proofs.GroupWhole.{group_at_rule}
use Rattle.sparql_grammar.proofs.OperationWhole.{never_high}
use Rattle.sparql_grammar.proofs.PrologueProductions.{prologue_keeps}
use Rattle.sparql_grammar.proofs.QueryProductions.{query_decides, query_of, whole_of}

-- ---- where no more than so many brackets are open at once

module _ (limit : ℕ) (I J : Derives Group) (i : Keeps bracket limit 0 I J) where
  where_keeps : Keeps bracket limit 0 (g.WhereClause I) (g.WhereClause J)
  where_keeps = then_keeps bracket limit 0 _ _ _ _ (perhaps_keeps limit 0 terminal.Where (the_keeps bracket limit 0 terminal.Where refl)) (λ _. i)

  variable_keeps : Keeps bracket limit 0 (grammar.value terminal.Variable) (grammar.value terminal.Variable)
  variable_keeps = value_keeps bracket limit 0 terminal.Variable refl

  variables_keep : Keeps bracket limit 0 g.Vars g.Vars
  variables_keep = then_keeps bracket limit 0 _ _ _ _ variable_keeps (λ first. then_keeps bracket limit 0 _ _ _ _
      (star_keeps bracket limit 0 _ _ (one_keeps bracket limit 0 _ _ variable_keeps)) (λ others. pure_keeps bracket limit 0 (first ∷ others)))

  columns_keep : Keeps bracket limit 0 g.AColumns g.AColumns
  columns_keep = or_keeps bracket limit 0 _ _ _ _ (map_keeps bracket limit 0 c.Variables _ _ variables_keep) (word_keeps bracket limit 0 terminal.Star c.All refl)

  select_keeps : Keeps bracket limit 0 (g.SelectQuery I) (g.SelectQuery J)
  select_keeps = behind_keeps bracket limit 0 terminal.Select _ _ refl (then_keeps bracket limit 0 _ _ _ _
      (perhaps_keeps limit 0 terminal.Distinct (the_keeps bracket limit 0 terminal.Distinct refl))
      (λ distinct. then_keeps bracket limit 0 _ _ _ _ columns_keep (λ columns. then_keeps bracket limit 0 _ _ _ _ where_keeps
      (λ inside. pure_keeps bracket limit 0 (form.Select distinct columns inside)))))

  ask_keeps : Keeps bracket limit 0 (g.AskQuery I) (g.AskQuery J)
  ask_keeps = behind_keeps bracket limit 0 terminal.Ask _ _ refl (map_keeps bracket limit 0 form.Ask _ _ where_keeps)

  query_keeps : Keeps bracket limit 0 (g.AQuery I) (g.AQuery J)
  query_keeps = then_keeps bracket limit 0 _ _ _ _ (prologue_keeps limit 0) (λ prologue. then_keeps bracket limit 0 _ _ _ _
      (or_keeps bracket limit 0 _ _ _ _ select_keeps ask_keeps) (λ form. pure_keeps bracket limit 0 (read.query_with prologue form)))

-- A query that is derived at any depth is derived at the limit.
query_within : (depth d : ℕ) (ts : Lexemes) (query : Query) → ((n : ℕ) → open_after 0 (take n ts) ≤ suc depth) → g.AQuery (GroupAt d) ts query [] → g.AQuery (GroupAt depth) ts query []
unfolding Keeps
query_within depth d ts query below h =
    (query_keeps (suc depth) (GroupAt d) (GroupAt depth) (group_at_keeps depth d) ts query [] h (record { at = below })).0

-- ---- all of the lexemes

query_sound : (depth : ℕ) (ts : Lexemes) (query : Query) → read.query (group_at depth) ts ≡ Some (query, []) → IsQuery ts query
query_sound depth ts query h = (depth, query_of (group_at depth) (GroupAt depth) (group_at_rule depth) ts query [] ((query_decides (group_at depth) (GroupAt depth) (group_at_rule depth)).sound ts query [] h))

-- where so many brackets are open at most
query_read_at : (depth : ℕ) (ts : Lexemes) (query : Query) → ((n : ℕ) → open_after 0 (take n ts) ≤ suc depth) → IsQuery ts query → read.query (group_at depth) ts ≡ Some (query, [])
query_read_at depth ts query below d =
    (query_decides (group_at depth) (GroupAt depth) (group_at_rule depth)).complete ts query []
    (whole_of (group_at depth) (GroupAt depth) (group_at_rule depth) ts query [] refl (query_within depth d.0 ts query below d.1)) refl

query_read : (ts : Lexemes) (query : Query) → (IsTooDeep ts → ⊥) → IsQuery ts query → whole_query ts ≡ Some (query, [])
query_read ts query h d = query_read_at 99 ts query (never_high ts h) d

-- each query is one at a depth that its lexemes determine
query_at : (ts : Lexemes) (query : Query) → IsQuery ts query → read.query (group_at (length ts)) ts ≡ Some (query, [])
query_at ts query d = query_read_at (length ts) ts query (λ n. let h = never_more bracket ts 0 n in omega arith) d

pub query_unique : OneQuery
query_unique ts one other d e = (some_pair one other [] [] (sym (query_at ts one d) ∙ query_at ts other e)).0

-- why a query is not read
pub query_stop_explained : (ts : Lexemes) (fault : GrammarFault) → Fails (whole_query ts) fault → ExplainsQuery ts fault
query_stop_explained ts Syntax fails = λ shallow query is. let read = query_read ts query shallow is in absurd (cc)
query_stop_explained ts (NoMemory refusal) fails = tt

pub query_found : (ts : Lexemes) (query : Query) (us : Lexemes) → whole_query ts ≡ Some (query, us) → us ≡ [] → IsQuery ts query
query_found ts query us h e = query_sound 99 ts query (h ∙ ap (λ l. Some (query, l)) e)

pub query_only : (ts : Lexemes) (query : Query) (us : Lexemes) → whole_query ts ≡ Some (query, us) → us ≡ [] → (other : Query) → IsQuery ts other → query ≡ other
query_only ts query us h e other is = query_unique ts query other (query_found ts query us h e) is

-- ---- what is answered

pub query_answer_found : (ts us : Lexemes) (r : Result Query GrammarFault) → Reads (whole_query ts) r us → OnOk r (us ≡ []) → IfOk r (λ query. IsQuery ts query)
query_answer_found ts us (Ok query) h e = query_found ts query us h e
query_answer_found ts us (Err fault) h e = tt

pub query_answer_only : (ts us : Lexemes) (r : Result Query GrammarFault) → Reads (whole_query ts) r us → OnOk r (us ≡ []) → (query : Query) → IsQuery ts query → IfOk r (λ found. found ≡ query)
query_answer_only ts us (Ok query) h e = query_only ts query us h e
query_answer_only ts us (Err fault) h e = λ query is. tt

pub query_answer_explained : (ts us : Lexemes) (r : Result Query GrammarFault) → Reads (whole_query ts) r us → IfErr r (λ fault. ExplainsQuery ts fault)
query_answer_explained ts us (Ok query) h = tt
query_answer_explained ts us (Err fault) h = query_stop_explained ts fault h
