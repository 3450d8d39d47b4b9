-- A blank node label is reused just where the search for one finds it.
use Rattle.std.proofs.Common.{◌≡◌, ◌≤◌, ◌<◌, ◌∙◌, ap, refl, sym, subst, ℕ, Bool, true, false, cond, ◌||◌, List, [], map, length, Option, Some, None, Result, Ok, Err, inl, inr, arith}
use Rattle.std.proofs.lemmas.Option.{same_Some}
use Rattle.std.specs.List.{flat_map, list_any}
use Rattle.std.specs.Option.{option_and_then}
use Rattle.rdf_grammar.specs.Prologue as prologue
use Rattle.rdf_grammar.specs.Prologue.{Prologue}
use Rattle.rdf_grammar.specs.Steps.{Outcome, and_then, each}
use Rattle.sparql_grammar.specs.OperationGrammar.{IsRequest}
use Rattle.sparql_grammar.specs.QueryGrammar.{IsQuery}
use Rattle.sparql_grammar.specs.declared.tree.Group.{Group}
use Rattle.sparql_grammar.specs.declared.tree.Part.{Part}
use Rattle.sparql_grammar.specs.declared.tree.Query as written
use Rattle.sparql_grammar.specs.declared.tree.QueryForm.{QueryForm}
use Rattle.sparql_grammar.specs.declared.tree.QueryForm.TheVariants as form
use Rattle.sparql_terminals.specs.Lexemes.{Lexemes}
use Rattle.sparql_drafts.specs.Meaning.{declaration}
use Rattle.sparql_queries.specs.Groups.{Labels, group}
use Rattle.sparql_queries.specs.Known.{known_query}
use Rattle.sparql_queries.specs.Queries.{form_in, query_in, select_with}
use Rattle.sparql_syntax.specs.declared.clause.Clause.TheVariants as clause
use Rattle.sparql_syntax.specs.declared.drafts.Draft.{Draft}
use Rattle.sparql_syntax.specs.declared.fault.SyntaxFaultKind.{SyntaxFaultKind}
use Rattle.sparql_syntax.specs.declared.fault.SyntaxFaultKind.TheVariants as fault
use Rattle.sparql_syntax.specs.BrokenRuleLaws.{ReusedIsFound, ReusedIsFoundInQueries, ReusedIsBroken, ReusedIsBrokenInQueries}
use Rattle.sparql_syntax.specs.BrokenRules.{first_reused}
use Rattle.sparql_syntax.specs.Labels.{repeats_label}
use Rattle.sparql_syntax.specs.Meaning.{answer}
use Rattle.sparql_syntax.specs.Query as query
use Rattle.sparql_syntax.specs.Rules as rules
use Rattle.sparql_syntax.specs.Update.{ruled}
use Rattle.sparql_trees.specs.declared.operation.Operation.{Operation}
use Rattle.sparql_trees.specs.declared.pattern.Pattern.{Pattern}
use Rattle.sparql_trees.specs.declared.query.Query.{Query}
use Rattle.sparql_syntax.proofs.BrokenRuleLemmas.{Judgement, err_same}
use Rattle.sparql_syntax.proofs.LabelDrafts.{drafts_whole}
use Rattle.sparql_syntax.proofs.LabelGroupMeanings.{group_says, no_group}
use Rattle.sparql_syntax.proofs.LabelGroups.{group_count, total}
use Rattle.sparql_syntax.proofs.LabelRequests.{form_count, part_count, query_run, request_run}
use Rattle.sparql_syntax.proofs.RequestLemmas.{answer_kind}
use Rattle.sparql_syntax.proofs.ReusedLists.{Inserted, Stated, found_repeats, repeats_found, times_run}
use Rattle.sparql_syntax.proofs.SharedLabels.{from_two, in_two, or_yes, times}

-- ---- lists in which each label stands as often

no_fewer : (lists others : Labels) → ((label : List ℕ) → times label lists ≤ times label others) → repeats_label [] lists ≡ true → repeats_label [] others ≡ true
no_fewer lists others h e =
    let two = in_two lists e in
    let there : 2 ≤ times two.0 lists = two.1 in
    let most : times two.0 lists ≤ times two.0 others = h two.0 in
    from_two others two.0 (omega (arith, there, most))

either : (a b c d : Bool) → (a ≡ true → c ≡ true) → (b ≡ true → d ≡ true) → (a || b) ≡ true → (c || d) ≡ true
either true b c d h k e = ap (λ (z : Bool). z || d) (h refl)
either false b c d h k e = ap (λ (z : Bool). c || z) (k e) ∙ or_yes c

by_equal : (m n : ℕ) → m ≡ n → m ≤ n
by_equal m n e = omega (arith, e)

-- ---- requests

module _ (base : Option (List ℕ)) (ts : Lexemes) (tree : List Part) (reads : IsRequest ts tree) (drafts : List Draft) (says : answer base tree ≡ Ok drafts) where
  inserted_times : (label : List ℕ) → times label (Inserted ts) ≡ times label (flat_map rules.inserted_labels drafts)
  inserted_times label = times_run clause.InsertData label ts clause.Pattern [] ∙ request_run clause.InsertData label ts tree reads ∙ sym (drafts_whole label base tree drafts says).inserted

  stated_times : (label : List ℕ) → times label (Stated ts) ≡ total (map (part_count clause.Pattern label) tree)
  stated_times label = times_run clause.Pattern label ts clause.Pattern [] ∙ request_run clause.Pattern label ts tree reads

  found : list_any rules.has_blank_in_delete drafts ≡ false → rules.reuses_label drafts ≡ true → first_reused ts < length ts
  found none e = repeats_found ts
      (either (repeats_label [] (flat_map rules.inserted_labels drafts)) (repeats_label [] (flat_map rules.pattern_labels drafts)) (repeats_label [] (Inserted ts)) (repeats_label [] (Stated ts))
      (no_fewer (flat_map rules.inserted_labels drafts) (Inserted ts) (λ label. by_equal _ _ (sym (inserted_times label))))
      (no_fewer (flat_map rules.pattern_labels drafts) (Stated ts) (λ label. by_equal _ _ ((drafts_whole label base tree drafts says).same none ∙ sym (stated_times label)))) e)

  broken : first_reused ts < length ts → rules.reuses_label drafts ≡ true
  broken lt =
      either (repeats_label [] (Inserted ts)) (repeats_label [] (Stated ts)) (repeats_label [] (flat_map rules.inserted_labels drafts)) (repeats_label [] (flat_map rules.pattern_labels drafts))
      (no_fewer (Inserted ts) (flat_map rules.inserted_labels drafts) (λ label. by_equal _ _ (inserted_times label)))
      (no_fewer (Stated ts) (flat_map rules.pattern_labels drafts)
      (λ label. subst (λ (n : ℕ). n ≤ times label (flat_map rules.pattern_labels drafts)) (sym (stated_times label)) (drafts_whole label base tree drafts says).most)) (found_repeats ts lt)

record Last (a d : Bool) : Type 0 where
  first : a ≡ false
  last : d ≡ true

label_last : (a b c d : Bool) (operations : List Operation) → Judgement a b c d operations ≡ Err fault.BlankReused → Last a d
label_last true b c d operations e = absurd (cc e)
label_last false true c d operations e = absurd (cc e)
label_last false false true d operations e = absurd (cc e)
label_last false false false true operations e = record { first = refl; last = refl }
label_last false false false false operations e = absurd (cc e)

found_by : (base : Option (List ℕ)) (ts : Lexemes) (tree : List Part) (r : Result (List Draft) SyntaxFaultKind) → IsRequest ts tree → answer base tree ≡ r → ruled r ≡ Err fault.BlankReused → first_reused ts < length ts
found_by base ts tree (Ok drafts) reads is e =
    let parts = label_last (list_any rules.has_blank_in_delete drafts) (list_any rules.has_variable_in_data drafts) (list_any rules.has_literal_subject drafts) (rules.reuses_label drafts) (map rules.operation_of drafts) e in
    found base ts tree reads drafts is parts.first parts.last
found_by base ts tree (Err kind) reads is e = elim (answer_kind base tree kind is) [
  | inl unknown ↦ absurd (cc (sym (err_same kind fault.BlankReused e) ∙ unknown))
  | inr relative ↦ absurd (cc (sym (err_same kind fault.BlankReused e) ∙ relative))
]

pub reused_is_found : ReusedIsFound
reused_is_found base text tree has e = found_by base has.lexemes tree (answer base tree) has.reads refl e

pub reused_is_broken : ReusedIsBroken
reused_is_broken base text tree has drafts is lt = broken base has.lexemes tree has.reads drafts is lt

-- ---- queries

abbrev group_in : QueryForm → Group
group_in (form.Select distinct columns g) = g
group_in (form.Ask g) = g

said_map : {A B : Type 0} (f : A → B) (o : Option (A × Labels)) (said : B) (labels : Labels) → and_then o (λ y u. Some (f y, u)) ≡ Some (said, labels) → (y : A) × (o ≡ Some (y, labels))
said_map f None said labels e = absurd (cc e)
said_map f (Some r) said labels e = (r.0, ap (λ (z : Labels). Some (r.0, z)) (ap (λ q. q.1) (same_Some _ _ e)))

form_said : (p : Prologue) (f : QueryForm) (said : Query) (labels : Labels) → form_in p f [] ≡ Some (said, labels) → (pattern : Pattern) × (group p (group_in f) [] ≡ Some (pattern, labels))
form_said p (form.Select distinct columns g) said labels e = said_map (select_with distinct columns) (group p g []) said labels e
form_said p (form.Ask g) said labels e = said_map _ (group p g []) said labels e

form_counted : (label : List ℕ) (f : QueryForm) → form_count clause.Pattern label f ≡ group_count clause.Pattern label (group_in f)
form_counted label (form.Select distinct columns g) = refl
form_counted label (form.Ask g) = refl

no_data : (label : List ℕ) (f : QueryForm) → form_count clause.InsertData label f ≡ group_count clause.InsertData label (group_in f)
no_data label (form.Select distinct columns g) = refl
no_data label (form.Ask g) = refl

record Grouped (g : Group) (labels : Labels) : Type 0 where
  under : Prologue
  pattern : Pattern
  is : group under g [] ≡ Some (pattern, labels)

query_grouped : (base : Option (List ℕ)) (tree : written.Query) (said : Query) (labels : Labels) → query_in base tree ≡ Some (said, labels) → Grouped (group_in tree.form) labels
unfolding query_in
query_grouped base tree said labels e = by (each declaration tree.prologue (prologue.start base)) e
  where
    by : (o : Outcome Prologue (Unit {0})) → option_and_then (λ declared. form_in declared.1 tree.form []) o ≡ Some (said, labels) → Grouped (group_in tree.form) labels
    by None e = absurd (cc e)
    by (Some r) e = (let f = form_said r.1 tree.form said labels e in record { under = r.1; pattern = f.0; is = f.1 })

module _ (base : Option (List ℕ)) (ts : Lexemes) (tree : written.Query) (reads : IsQuery ts tree) (said : Query) (labels : Labels) (says : query_in base tree ≡ Some (said, labels)) where
  query_times : (label : List ℕ) → times label (Stated ts) ≡ times label labels
  query_times label =
      let g = query_grouped base tree said labels says in
      times_run clause.Pattern label ts clause.Pattern [] ∙ query_run clause.Pattern label ts tree reads ∙ form_counted label tree.form ∙ sym (group_says g.under label (group_in tree.form) (g.pattern, labels) g.is)

  no_inserted : (label : List ℕ) → times label (Inserted ts) ≡ 0
  no_inserted label =
      times_run clause.InsertData label ts clause.Pattern [] ∙ query_run clause.InsertData label ts tree reads ∙ no_data label tree.form ∙ no_group label (group_in tree.form)

  none_repeated : repeats_label [] (Inserted ts) ≡ true → repeats_label [] labels ≡ true
  none_repeated e =
      let two = in_two (Inserted ts) e in
      let there : 2 ≤ times two.0 (Inserted ts) = two.1 in
      let none : times two.0 (Inserted ts) ≡ 0 = no_inserted two.0 in
      absurd (omega (arith, there, none))

  query_found : repeats_label [] labels ≡ true → first_reused ts < length ts
  query_found e =
      repeats_found ts (ap (λ (b : Bool). repeats_label [] (Inserted ts) || b) (no_fewer labels (Stated ts) (λ label. by_equal _ _ (sym (query_times label))) e) ∙ or_yes (repeats_label [] (Inserted ts)))

  query_broken : first_reused ts < length ts → repeats_label [] labels ≡ true
  query_broken lt =
      one (repeats_label [] labels)
      (either (repeats_label [] (Inserted ts)) (repeats_label [] (Stated ts)) (repeats_label [] labels) (repeats_label [] labels) none_repeated (no_fewer (Stated ts) labels (λ label. by_equal _ _ (query_times label))) (found_repeats ts lt))
    where
      one : (b : Bool) → (b || b) ≡ true → b ≡ true
      one true e = refl
      one false e = e

pub reused_is_found_in_queries : ReusedIsFoundInQueries
reused_is_found_in_queries base text tree has e = by (known_query tree) (query_in base tree) refl e
  where
    repeated : (b : Bool) (said : Query) → cond b (Err fault.BlankReused) (Ok said) ≡ Err fault.BlankReused → b ≡ true
    repeated true said e = refl
    repeated false said e = absurd (cc e)

    by : (known : Bool) (o : Option (Query × Labels)) → query_in base tree ≡ o → cond known (query.ruled o) (Err fault.UnknownPrefix) ≡ Err fault.BlankReused → first_reused has.lexemes < length has.lexemes
    by false o is e = absurd (cc e)
    by true None is e = absurd (cc e)
    by true (Some s) is e = query_found base has.lexemes tree has.reads s.0 s.1 is (repeated (repeats_label [] s.1) s.0 e)

pub reused_is_broken_in_queries : ReusedIsBrokenInQueries
reused_is_broken_in_queries base text tree has said labels is lt = query_broken base has.lexemes tree has.reads said labels is lt
