-- Queries are read just as they are derived.
use Rattle.std.proofs.Common.{◌≡◌, ◌<◌, ◌≤◌, Bool, true, false, not, List, [], ◌∷◌, length, Option, Some, refl, sym, ◌∙◌, ap, arith, inl, inr, ◌⊎◌}
use Rattle.rdf_grammar.specs.Steps as steps
use Rattle.rdf_grammar.specs.Readings as reading
use Rattle.rdf_grammar.specs.Terminals.{Slice, next_terminal}
use Rattle.rdf_grammar.specs.Derivations as grammar
use Rattle.rdf_grammar.specs.Derivations.{Star}
use Rattle.rdf_grammar.proofs.CallerLemmas.{one_decides, seq, last, always, Decides, some_pair, then_decides, pure_decides, repeat_decides, value_decides, value_terminal, the_terminal, terminal_seen, unseen, word_sound, word_complete, word_strict}
use Rattle.sparql_terminals.specs.declared.terminal.Terminal.{Terminal}
use Rattle.sparql_terminals.specs.declared.terminal.Terminal.TheVariants as terminal
use Rattle.sparql_grammar.specs.declared.tree.Columns.{Columns}
use Rattle.sparql_grammar.specs.declared.tree.Columns.TheVariants as c
use Rattle.sparql_grammar.specs.declared.tree.Group.{Group}
use Rattle.sparql_grammar.specs.declared.tree.Query.{Query}
use Rattle.sparql_grammar.specs.declared.tree.QueryForm.{QueryForm}
use Rattle.sparql_grammar.specs.declared.tree.QueryForm.TheVariants as form
use Rattle.sparql_terminals.specs.Lexemes as lexemes
use Rattle.sparql_terminals.specs.Lexemes.{Lexemes, Reading, sees, Derives, Test}
use Rattle.sparql_grammar.specs.Grammar.{Perhaps}
use Rattle.sparql_grammar.specs.PrologueGrammar.{Prologue}
use Rattle.sparql_grammar.specs.PrologueReading.{sees_declaration}
use Rattle.sparql_grammar.specs.QueryGrammar as g
use Rattle.sparql_grammar.specs.QueryReading as read
use Rattle.sparql_terminals.specs.Terminals.{same_terminal, apart}
use Rattle.sparql_grammar.proofs.GroupProductions.{IsGroupRule}
use Rattle.sparql_terminals.proofs.CallerLemmas.{keyword_sound, keyword_complete, keyword_terminal, keyword_strict}
use Rattle.sparql_grammar.proofs.OperationParts.{Nothing}
use Rattle.sparql_grammar.proofs.OperationProductions.{perhaps_decides, perhaps_terminal}
use Rattle.sparql_grammar.proofs.PrologueProductions.{prologue_decides}

-- ---- columns, behind which stands no variable

abbrev closes_columns : Option Terminal → Bool
closes_columns (Some terminal.Variable) = false
closes_columns _ = true

abbrev ends_columns : Test
ends_columns us = closes_columns (next_terminal us)

variable_starts : (ts : Lexemes) (xs : List Slice) (us : Lexemes) → grammar.one (grammar.value terminal.Variable) ts xs us → (sees terminal.Variable ts ≡ true) × (length us < length ts)
variable_starts ts xs us h =
    (terminal_seen same_terminal apart terminal.Variable ts (value_terminal terminal.Variable ts h.mid h.first h.reads), omega (arith, ap length h.reads.3, ap length h.goes.1))

others_decide : Decides (reading.repeat (sees terminal.Variable) (reading.one (lexemes.value terminal.Variable))) (Star (grammar.one (grammar.value terminal.Variable))) ends_columns
others_decide = repeat_decides (sees terminal.Variable) _ _ always ends_columns (one_decides _ _ always (value_decides same_terminal apart terminal.Variable))
    variable_starts (unseen same_terminal apart closes_columns terminal.Variable refl) (λ us h. refl) (λ us h. refl)

variables_decide : Decides read.variables g.Vars ends_columns
unfolding read.variables
variables_decide = seq _ _ _ _ ends_columns (value_decides same_terminal apart terminal.Variable) (λ first. then_decides _ _ _ _ ends_columns ends_columns others_decide
    (λ others. pure_decides (first ∷ others) ends_columns) (λ a mid x us h e. rw h.1 e))

named_decide : Decides (steps.◌<$>◌ c.Variables read.variables) (grammar.◌<$>◌ c.Variables g.Vars) ends_columns
named_decide = last c.Variables _ _ ends_columns variables_decide

columns_sound : (k : Option Terminal) (ts : Lexemes) (x : Columns) (us : Lexemes) → next_terminal ts ≡ k → read.columns_by k ts ≡ Some (x, us) → g.AColumns ts x us
columns_sound (Some terminal.Star) ts x us q h = inr (word_sound same_terminal apart terminal.Star c.All x ts us q h)
columns_sound _ ts x us q h = inl (named_decide.sound ts x us h)

variables_terminal : (ts : Lexemes) (xs : List Slice) (us : Lexemes) → g.Vars ts xs us → next_terminal ts ≡ Some terminal.Variable
variables_terminal ts xs us h = value_terminal terminal.Variable ts h.mid h.first h.reads

columns_complete : (ts : Lexemes) (x : Columns) (us : Lexemes) → g.AColumns ts x us → ends_columns us ≡ true → read.columns_by (next_terminal ts) ts ≡ Some (x, us)
columns_complete ts x us (inl h) e = rw (variables_terminal ts h.first h.mid h.reads) (named_decide.complete ts x us h e)
columns_complete ts x us (inr h) e = let q = the_terminal terminal.Star ts h.mid h.first h.reads in rw q (word_complete same_terminal apart terminal.Star c.All x ts us q h)

columns_shorter : (ts : Lexemes) (x : Columns) (us : Lexemes) → g.AColumns ts x us → length us ≤ length ts
columns_shorter ts x us (inl h) = named_decide.shorter ts x us h
columns_shorter ts x us (inr h) = let l = word_strict terminal.Star c.All x ts us h in omega arith

columns_decide : Decides read.columns g.AColumns ends_columns
unfolding read.columns
columns_decide = record {
  sound = λ ts x us h. columns_sound (next_terminal ts) ts x us refl h;
  complete = columns_complete;
  shorter = columns_shorter;
}

-- ---- what is there behind "DISTINCT"? and "WHERE"?

abbrev behind_distinct : Option Terminal → Bool
behind_distinct (Some terminal.Variable) = true
behind_distinct (Some terminal.Star) = true
behind_distinct _ = false

abbrev ends_distinct : Test
ends_distinct us = behind_distinct (next_terminal us)

columns_begin : (ts : Lexemes) (x : Columns) (us : Lexemes) → g.AColumns ts x us → ends_distinct ts ≡ true
columns_begin ts x us (inl h) = rw (variables_terminal ts h.first h.mid h.reads) refl
columns_begin ts x us (inr h) = rw (the_terminal terminal.Star ts h.mid h.first h.reads) refl

abbrev behind_where : Option Terminal → Bool
behind_where (Some terminal.OpenBrace) = true
behind_where _ = false

abbrev ends_where : Test
ends_where us = behind_where (next_terminal us)

-- ---- over a rule for groups

module _ (group : Reading Group) (Group' : Derives Group) (r : IsGroupRule group Group') where
  where_decides : Decides (read.where_clause group) (g.WhereClause Group') always
  unfolding read.where_clause
  where_decides = then_decides _ _ _ _ ends_where always (perhaps_decides terminal.Where ends_where (unseen same_terminal apart behind_where terminal.Where refl))
      (λ _. r.decides) (λ a mid x us h e. rw (r.opens mid x us h) refl)

  where_begins : (ts : Lexemes) (x : Group) (us : Lexemes) → g.WhereClause Group' ts x us → ends_columns ts ≡ true
  where_begins ts x us h = at (perhaps_terminal terminal.Where ts h.first h.mid h.reads)
    where
      at : (next_terminal ts ≡ Some terminal.Where) ⊎ (ts ≡ h.mid) → ends_columns ts ≡ true
      at (inl q) = rw q refl
      at (inr q) = rw (q, r.opens h.mid x us h.goes) refl

  abbrev SelectRest : Derives QueryForm
  SelectRest = grammar.◌>>=◌ (Perhaps terminal.Distinct) (λ distinct. grammar.◌>>=◌ g.AColumns (λ columns.
      grammar.◌>>=◌ (g.WhereClause Group') (λ inside. grammar.pure (form.Select distinct columns inside))))

  select_decides : Decides (read.select_query group) SelectRest always
  unfolding read.select_query
  select_decides =
      then_decides _ _ _ _ ends_distinct always (perhaps_decides terminal.Distinct ends_distinct (unseen same_terminal apart behind_distinct terminal.Distinct refl))
      (λ distinct. then_decides _ _ _ _ ends_columns always columns_decide
      (λ columns. seq _ _ _ _ always where_decides (λ inside. pure_decides (form.Select distinct columns inside) always))
      (λ a mid x us h e. where_begins mid h.first h.mid h.reads))
      (λ a mid x us h e. columns_begin mid h.first h.mid h.reads)

  ask_decides : Decides (read.ask_query group) (grammar.◌<$>◌ form.Ask (g.WhereClause Group')) always
  unfolding read.ask_query
  ask_decides = last form.Ask _ _ always where_decides

  abbrev AForm : Derives QueryForm
  AForm = grammar.◌∣◌ (g.SelectQuery Group') (g.AskQuery Group')

  form_sound : (k : Option Terminal) (ts : Lexemes) (x : QueryForm) (us : Lexemes) → next_terminal ts ≡ k → read.query_form_by group k ts ≡ Some (x, us) → AForm ts x us
  form_sound (Some terminal.Select) ts x us q h = inl (keyword_sound terminal.Select _ _ select_decides ts x us q h)
  form_sound (Some terminal.Ask) ts x us q h = inr (keyword_sound terminal.Ask _ _ ask_decides ts x us q h)
  form_sound _ ts x us q h = absurd (cc)

  form_complete : (ts : Lexemes) (x : QueryForm) (us : Lexemes) → AForm ts x us → read.query_form_by group (next_terminal ts) ts ≡ Some (x, us)
  form_complete ts x us (inl h) = let q = keyword_terminal terminal.Select _ ts x us h in rw q (keyword_complete terminal.Select _ _ select_decides ts x us q h)
  form_complete ts x us (inr h) = let q = keyword_terminal terminal.Ask _ ts x us h in rw q (keyword_complete terminal.Ask _ _ ask_decides ts x us q h)

  form_strict : (ts : Lexemes) (x : QueryForm) (us : Lexemes) → AForm ts x us → length us < length ts
  form_strict ts x us (inl h) = keyword_strict terminal.Select _ _ select_decides ts x us h
  form_strict ts x us (inr h) = keyword_strict terminal.Ask _ _ ask_decides ts x us h

  form_begins : (ts : Lexemes) (x : QueryForm) (us : Lexemes) → AForm ts x us → sees_declaration ts ≡ false
  form_begins ts x us (inl h) = rw (keyword_terminal terminal.Select _ ts x us h) refl
  form_begins ts x us (inr h) = rw (keyword_terminal terminal.Ask _ ts x us h) refl

  form_decides : Decides (read.query_form group) AForm always
  unfolding read.query_form
  form_decides = record {
    sound = λ ts x us h. form_sound (next_terminal ts) ts x us refl h;
    complete = λ ts x us h _. form_complete ts x us h;
    shorter = λ ts x us h. let e = form_strict ts x us h in omega arith;
  }

  -- ---- the end of the lexemes

  end_sound : (ts : Lexemes) (x : Unit {0}) (us : Lexemes) → read.at_end ts ≡ Some (x, us) → Nothing ts x us
  end_sound [] x us h = let e = (some_pair tt x [] us h).1 in (e, sym e)
  end_sound (t ∷ ts) x us h = absurd (cc)

  end_complete : (ts : Lexemes) (x : Unit {0}) (us : Lexemes) → Nothing ts x us → read.at_end ts ≡ Some (x, us)
  end_complete [] x us d = ap (λ l. Some (x, l)) d.0
  end_complete (t ∷ ts) x us d = absurd (let e = ap length (d.0 ∙ d.1) in omega arith)

  end_decides : Decides read.at_end Nothing always
  end_decides = record { sound = end_sound; complete = λ ts x us h _. end_complete ts x us h; shorter = λ ts x us h. omega (arith, ap length h.0) }

  -- ---- a query and no more

  abbrev pub Whole : Derives Query
  Whole = grammar.◌>>=◌ Prologue (λ prologue. grammar.◌>>=◌ AForm (λ form. grammar.◌>>=◌ Nothing (λ _. grammar.pure (read.query_with prologue form))))

  -- no declaration comes next
  abbrev ends_prologue : Test
  ends_prologue us = not (sees_declaration us)

  not_true : (b : Bool) → not b ≡ true → b ≡ false
  not_true true h = absurd (cc)
  not_true false h = refl

  pub query_decides : Decides (read.query group) Whole always
  unfolding read.query
  query_decides =
      then_decides _ _ _ _ ends_prologue always (prologue_decides ends_prologue (λ us h. not_true (sees_declaration us) h))
      (λ prologue. seq _ _ _ _ always form_decides (λ form. seq _ _ _ _ always end_decides (λ _. pure_decides (read.query_with prologue form) always)))
      (λ a mid x us h e. ap not (form_begins mid h.first h.mid h.reads))

  pub query_of : (ts : Lexemes) (x : Query) (us : Lexemes) → Whole ts x us → g.AQuery Group' ts x us
  query_of ts x us h =
      let form = h.goes in
      let end = form.goes in
      record { first = h.first; mid = h.mid; reads = h.reads; goes = record { first = form.first; mid = form.mid; reads = form.reads; goes = (end.goes.0, end.reads.0 ∙ end.goes.1) } }

  pub whole_of : (ts : Lexemes) (x : Query) (us : Lexemes) → us ≡ [] → g.AQuery Group' ts x us → Whole ts x us
  whole_of ts x us e h =
      let form = h.goes in
      record {
        first = h.first;
        mid = h.mid;
        reads = h.reads;
        goes = record {
          first = form.first;
          mid = form.mid;
          reads = form.reads;
          goes = record { first = tt; mid = us; reads = (form.goes.1, e); goes = (form.goes.0, refl) };
        };
      }
