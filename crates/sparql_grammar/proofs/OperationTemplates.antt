-- Operations are read just as they are derived, over rules for triples and groups.
use Rattle.std.proofs.Common.{◌≡◌, ◌<◌, ◌≤◌, Bool, true, false, List, [], length, Option, Some, None, refl, ◌∙◌, ap, arith, inl, inr}
use Rattle.rdf_grammar.specs.declared.tree.Name.{Name}
use Rattle.rdf_grammar.specs.Steps as steps
use Rattle.rdf_grammar.specs.Readings as reading
use Rattle.rdf_grammar.specs.Terminals.{next_terminal}
use Rattle.rdf_grammar.specs.Derivations as grammar
use Rattle.rdf_grammar.specs.Derivations.{Then}
use Rattle.rdf_grammar.proofs.CallerLemmas.{seq, last, maybe_decides, always, Decides, then_decides, pure_decides, the_decides, after_terminal, the_terminal, terminal_seen, unseen}
use Rattle.sparql_terminals.specs.declared.terminal.Terminal.{Terminal}
use Rattle.sparql_terminals.specs.declared.terminal.Terminal.TheVariants as terminal
use Rattle.sparql_grammar.specs.declared.tree.Block.{Block}
use Rattle.sparql_grammar.specs.declared.tree.Group.{Group}
use Rattle.sparql_grammar.specs.declared.tree.Modify.{Modify}
use Rattle.sparql_grammar.specs.declared.tree.Operation.{Operation}
use Rattle.sparql_grammar.specs.declared.tree.Operation.TheVariants as o
use Rattle.sparql_grammar.specs.declared.tree.Triples.{Triples}
use Rattle.sparql_terminals.specs.Lexemes as lexemes
use Rattle.sparql_terminals.specs.Lexemes.{Lexemes, Reading, sees, Derives, Test}
use Rattle.sparql_grammar.specs.OperationGrammar as g
use Rattle.sparql_grammar.specs.OperationReading as read
use Rattle.sparql_grammar.specs.PrologueReading.{begins_declaration}
use Rattle.sparql_grammar.specs.Reading.{all_of}
use Rattle.sparql_terminals.specs.Terminals.{same_terminal, apart}
use Rattle.sparql_terminals.specs.WordGrammar.{Iri}
use Rattle.sparql_terminals.specs.WordReading.{iri}
use Rattle.sparql_terminals.proofs.CallerLemmas.{iri_decides}
use Rattle.sparql_grammar.proofs.GroupProductions.{IsGroupRule}
use Rattle.sparql_grammar.proofs.OperationData.{IsTemplateRule, quad_pattern_decides, quad_pattern_opens, data_decides}
use Rattle.sparql_grammar.proofs.OperationProductions.{begins_graph_operation, graph_operation_begins, graph_operation_decides, graph_operation_strict}

-- ---- what follows

-- templates: WHERE
abbrev closes_templates : Option Terminal → Bool
closes_templates (Some terminal.Where) = true
closes_templates _ = false

abbrev ends_templates : Test
ends_templates us = closes_templates (next_terminal us)

-- a name behind WITH: a template
abbrev begins_templates : Option Terminal → Bool
begins_templates (Some terminal.Insert) = true
begins_templates (Some terminal.Delete) = true
begins_templates _ = false

abbrev ends_with : Test
ends_with us = begins_templates (next_terminal us)

second_is : (k : Terminal) (ts : Lexemes) (x : Unit {0}) (mid : Lexemes) → grammar.the k ts x mid → read.second_terminal ts ≡ next_terminal mid
second_is k ts x mid h = ap read.second_terminal h.2

module _ (template inner : Reading (List Triples)) (Template Inner : Derives (List Triples)) (r : IsTemplateRule template Template) (i : IsTemplateRule inner Inner) where
  braces : Decides (read.quad_pattern template inner) (g.QuadPattern Template Inner) always
  braces = quad_pattern_decides template inner Template Inner r i

  opens : (ts : Lexemes) (x : List Block) (us : Lexemes) → g.QuadPattern Template Inner ts x us → next_terminal ts ≡ Some terminal.OpenBrace
  opens = quad_pattern_opens template inner Template Inner r i

  delete_where_decides : Decides (read.delete_where template inner) (g.DeleteWhere Template Inner) always
  unfolding read.delete_where
  delete_where_decides = seq _ _ _ _ always (the_decides same_terminal apart terminal.Delete) (λ _. seq _ _ _ _ always (the_decides same_terminal apart terminal.Where)
      (λ _. seq _ _ _ _ always braces (λ blocks. pure_decides (o.DeleteWhere blocks) always)))

  -- ---- templates

  delete_clause_decides : Decides (read.delete_clause template inner) (g.DeleteClause Template Inner) always
  unfolding read.delete_clause
  delete_clause_decides = after_terminal same_terminal apart terminal.Delete _ _ always braces

  insert_clause_decides : Decides (read.insert_clause template inner) (g.InsertClause Template Inner) always
  unfolding read.insert_clause
  insert_clause_decides = after_terminal same_terminal apart terminal.Insert _ _ always braces

  delete_clause_terminal : (ts : Lexemes) (x : List Block) (us : Lexemes) → g.DeleteClause Template Inner ts x us → next_terminal ts ≡ Some terminal.Delete
  delete_clause_terminal ts x us h = the_terminal terminal.Delete ts h.mid h.first h.reads

  insert_clause_terminal : (ts : Lexemes) (x : List Block) (us : Lexemes) → g.InsertClause Template Inner ts x us → next_terminal ts ≡ Some terminal.Insert
  insert_clause_terminal ts x us h = the_terminal terminal.Insert ts h.mid h.first h.reads

  maybe_insert_decides : Decides (steps.◌<$>◌ all_of (reading.optional (sees terminal.Insert) (read.insert_clause template inner))) (grammar.◌<$>◌ all_of (grammar.maybe (g.InsertClause Template Inner))) ends_templates
  maybe_insert_decides = last all_of _ _ ends_templates (maybe_decides (sees terminal.Insert) _ _ always ends_templates insert_clause_decides
      (λ ts x us h. terminal_seen same_terminal apart terminal.Insert ts (insert_clause_terminal ts x us h))
      (unseen same_terminal apart closes_templates terminal.Insert refl) (λ us h. refl))

  delete_and_insert_decides : Decides (read.templates_by template inner (Some terminal.Delete)) (g.DeleteAndInsert Template Inner) ends_templates
  delete_and_insert_decides = seq _ _ _ _ ends_templates delete_clause_decides (λ delete. then_decides _ _ _ _ ends_templates ends_templates maybe_insert_decides
      (λ insert. pure_decides (delete, insert) ends_templates) (λ a mid b us h e. rw h.1 e))

  insert_alone_decides : Decides (read.templates_by template inner (Some terminal.Insert)) (g.InsertAlone Template Inner) ends_templates
  insert_alone_decides = seq _ _ _ _ ends_templates insert_clause_decides (λ insert. pure_decides ([], insert) ends_templates)

  abbrev Templates : Derives (List Block × List Block)
  Templates = grammar.◌∣◌ (g.DeleteAndInsert Template Inner) (g.InsertAlone Template Inner)

  templates_sound : (k : Option Terminal) (ts : Lexemes) (x : List Block × List Block) (us : Lexemes) → read.templates_by template inner k ts ≡ Some (x, us) → Templates ts x us
  templates_sound (Some terminal.Delete) ts x us h = inl (delete_and_insert_decides.sound ts x us h)
  templates_sound _ ts x us h = inr (insert_alone_decides.sound ts x us h)

  templates_complete : (ts : Lexemes) (x : List Block × List Block) (us : Lexemes) → Templates ts x us → ends_templates us ≡ true → read.templates_by template inner (next_terminal ts) ts ≡ Some (x, us)
  templates_complete ts x us (inl h) e = rw (delete_clause_terminal ts h.first h.mid h.reads) (delete_and_insert_decides.complete ts x us h e)
  templates_complete ts x us (inr h) e = rw (insert_clause_terminal ts h.first h.mid h.reads) (insert_alone_decides.complete ts x us h e)

  templates_shorter : (ts : Lexemes) (x : List Block × List Block) (us : Lexemes) → Templates ts x us → length us ≤ length ts
  templates_shorter ts x us (inl h) = delete_and_insert_decides.shorter ts x us h
  templates_shorter ts x us (inr h) = insert_alone_decides.shorter ts x us h

  templates_decide : Decides (read.templates template inner) Templates ends_templates
  unfolding read.templates
  templates_decide = record {
    sound = λ ts x us h. templates_sound (next_terminal ts) ts x us h;
    complete = templates_complete;
    shorter = templates_shorter;
  }

  templates_begin : (ts : Lexemes) (x : List Block × List Block) (us : Lexemes) → Templates ts x us → ends_with ts ≡ true
  templates_begin ts x us (inl h) = rw (delete_clause_terminal ts h.first h.mid h.reads) refl
  templates_begin ts x us (inr h) = rw (insert_clause_terminal ts h.first h.mid h.reads) refl

  -- a brace stands behind the first word
  templates_second : (ts : Lexemes) (x : List Block × List Block) (us : Lexemes) → Templates ts x us → read.second_terminal ts ≡ Some terminal.OpenBrace
  templates_second ts x us (inl h) = let d = h.reads in second_is terminal.Delete ts d.first d.mid d.reads ∙ opens d.mid h.first h.mid d.goes
  templates_second ts x us (inr h) = let d = h.reads in second_is terminal.Insert ts d.first d.mid d.reads ∙ opens d.mid h.first h.mid d.goes

module _ (template inner : Reading (List Triples)) (group : Reading Group) (Template Inner : Derives (List Triples)) (Group' : Derives Group)
    (r : IsTemplateRule template Template) (i : IsTemplateRule inner Inner) (s : IsGroupRule group Group') where
  -- ---- Modify

  abbrev WithName : Derives Name
  WithName = grammar.◌>>◌ (grammar.the terminal.With) Iri

  with_terminal : (ts : Lexemes) (x : Name) (us : Lexemes) → WithName ts x us → next_terminal ts ≡ Some terminal.With
  with_terminal ts x us h = the_terminal terminal.With ts h.mid h.first h.reads

  with_decides : Decides (reading.optional (sees terminal.With) (steps.◌>>◌ (lexemes.the terminal.With) iri)) (grammar.maybe WithName) ends_with
  with_decides = maybe_decides (sees terminal.With) _ _ always ends_with (after_terminal same_terminal apart terminal.With iri Iri always iri_decides)
      (λ ts x us h. terminal_seen same_terminal apart terminal.With ts (with_terminal ts x us h))
      (unseen same_terminal apart begins_templates terminal.With refl) (λ us h. refl)

  modify_decides : Decides (read.modify template inner group) (g.AModify Template Inner Group') always
  unfolding read.modify
  modify_decides =
      then_decides _ _ _ _ ends_with always with_decides
      (λ name. then_decides _ _ _ _ ends_templates always (templates_decide template inner Template Inner r i)
      (λ templates. seq _ _ _ _ always (the_decides same_terminal apart terminal.Where)
      (λ _. seq _ _ _ _ always s.decides (λ inside. pure_decides (read.modify_with name templates inside) always)))
      (λ a mid b us h e. rw (the_terminal terminal.Where mid h.mid h.first h.reads) refl))
      (λ a mid b us h e. templates_begin template inner Template Inner r i mid h.first h.mid h.reads)

  modified : Decides (steps.◌<$>◌ o.Modify (read.modify template inner group)) (grammar.◌<$>◌ o.Modify (g.AModify Template Inner Group')) always
  modified = last o.Modify _ _ always modify_decides

  -- ---- all operations

  insertion_sound : (k : Option Terminal) (ts : Lexemes) (x : Operation) (us : Lexemes) → read.insertion_by template inner group k ts ≡ Some (x, us) → g.Update1 Template Inner Group' ts x us
  insertion_sound (Some terminal.Data) ts x us h = inr (inl ((data_decides template inner Template Inner r i terminal.Insert o.InsertData).sound ts x us h))
  insertion_sound _ ts x us h = inr (inr (inr (inr (modified.sound ts x us h))))

  deletion_sound : (k : Option Terminal) (ts : Lexemes) (x : Operation) (us : Lexemes) → read.deletion_by template inner group k ts ≡ Some (x, us) → g.Update1 Template Inner Group' ts x us
  deletion_sound (Some terminal.Data) ts x us h = inr (inr (inl ((data_decides template inner Template Inner r i terminal.Delete o.DeleteData).sound ts x us h)))
  deletion_sound (Some terminal.Where) ts x us h = inr (inr (inr (inl ((delete_where_decides template inner Template Inner r i).sound ts x us h))))
  deletion_sound _ ts x us h = inr (inr (inr (inr (modified.sound ts x us h))))

  operation_sound : (k : Option Terminal) (ts : Lexemes) (x : Operation) (us : Lexemes) → read.operation_by template inner group k ts ≡ Some (x, us) → g.Update1 Template Inner Group' ts x us
  operation_sound (Some terminal.Insert) ts x us h = insertion_sound (read.second_terminal ts) ts x us h
  operation_sound (Some terminal.Delete) ts x us h = deletion_sound (read.second_terminal ts) ts x us h
  operation_sound (Some terminal.With) ts x us h = inr (inr (inr (inr (modified.sound ts x us h))))
  operation_sound _ ts x us h = inl (graph_operation_decides.sound ts x us h)

  by_graph_operation : (k : Option Terminal) (ts : Lexemes) → begins_graph_operation k ≡ true → read.operation_by template inner group k ts ≡ read.graph_operation ts
  by_graph_operation (Some terminal.Insert) ts h = absurd (cc)
  by_graph_operation (Some terminal.Delete) ts h = absurd (cc)
  by_graph_operation (Some terminal.With) ts h = absurd (cc)
  by_graph_operation _ ts h = refl

  abbrev read_by : Option Terminal → Reading Operation
  read_by = read.operation_by template inner group

  by_insertion : (ts : Lexemes) (k : Option Terminal) → next_terminal ts ≡ Some terminal.Insert → read.second_terminal ts ≡ k → read_by (next_terminal ts) ts ≡ read.insertion_by template inner group k ts
  by_insertion ts k q e = ap (λ l. read_by l ts) q ∙ ap (λ l. read.insertion_by template inner group l ts) e

  by_deletion : (ts : Lexemes) (k : Option Terminal) → next_terminal ts ≡ Some terminal.Delete → read.second_terminal ts ≡ k → read_by (next_terminal ts) ts ≡ read.deletion_by template inner group k ts
  by_deletion ts k q e = ap (λ l. read_by l ts) q ∙ ap (λ l. read.deletion_by template inner group l ts) e

  by_modify : (ts : Lexemes) (x : Operation) (us : Lexemes) → grammar.◌<$>◌ o.Modify (g.AModify Template Inner Group') ts x us → read_by (next_terminal ts) ts ≡ steps.◌<$>◌ o.Modify (read.modify template inner group) ts
  by_modify ts x us h = at h.reads.first h.reads.reads
    where
      behind : ts ≡ h.reads.mid → Templates template inner Template Inner r i h.reads.mid h.reads.goes.first h.reads.goes.mid → read_by (next_terminal ts) ts ≡ steps.◌<$>◌ o.Modify (read.modify template inner group) ts
      behind e (inl d) = by_deletion ts (Some terminal.OpenBrace) (rw e (delete_clause_terminal template inner Template Inner r i h.reads.mid d.first d.mid d.reads))
          (rw e (templates_second template inner Template Inner r i h.reads.mid h.reads.goes.first h.reads.goes.mid (inl d)))
      behind e (inr d) = by_insertion ts (Some terminal.OpenBrace) (rw e (insert_clause_terminal template inner Template Inner r i h.reads.mid d.first d.mid d.reads))
          (rw e (templates_second template inner Template Inner r i h.reads.mid h.reads.goes.first h.reads.goes.mid (inr d)))

      at : (name : Option Name) → grammar.maybe WithName ts name h.reads.mid → read_by (next_terminal ts) ts ≡ steps.◌<$>◌ o.Modify (read.modify template inner group) ts
      at None d = behind d h.reads.goes.reads
      at (Some name) d = ap (λ l. read_by l ts) (with_terminal ts name h.reads.mid d)

  operation_complete : (ts : Lexemes) (x : Operation) (us : Lexemes) → g.Update1 Template Inner Group' ts x us → read_by (next_terminal ts) ts ≡ Some (x, us)
  operation_complete ts x us (inl h) = by_graph_operation (next_terminal ts) ts (graph_operation_begins ts x us h) ∙ graph_operation_decides.complete ts x us h refl
  operation_complete ts x us (inr (inl h)) =
      by_insertion ts (Some terminal.Data) (the_terminal terminal.Insert ts h.mid h.first h.reads)
      (second_is terminal.Insert ts h.first h.mid h.reads ∙ the_terminal terminal.Data h.mid h.goes.mid h.goes.first h.goes.reads)
      ∙ (data_decides template inner Template Inner r i terminal.Insert o.InsertData).complete ts x us h refl
  operation_complete ts x us (inr (inr (inl h))) =
      by_deletion ts (Some terminal.Data) (the_terminal terminal.Delete ts h.mid h.first h.reads)
      (second_is terminal.Delete ts h.first h.mid h.reads ∙ the_terminal terminal.Data h.mid h.goes.mid h.goes.first h.goes.reads)
      ∙ (data_decides template inner Template Inner r i terminal.Delete o.DeleteData).complete ts x us h refl
  operation_complete ts x us (inr (inr (inr (inl h)))) =
      by_deletion ts (Some terminal.Where) (the_terminal terminal.Delete ts h.mid h.first h.reads)
      (second_is terminal.Delete ts h.first h.mid h.reads ∙ the_terminal terminal.Where h.mid h.goes.mid h.goes.first h.goes.reads)
      ∙ (delete_where_decides template inner Template Inner r i).complete ts x us h refl
  operation_complete ts x us (inr (inr (inr (inr h)))) = by_modify ts x us h ∙ modified.complete ts x us h refl

  -- a word, a second, and more behind them
  two_words : (k l : Terminal) (operation : List Block → Operation) (ts : Lexemes) (x : Operation) (us : Lexemes)
      → grammar.◌>>◌ (grammar.the k) (grammar.◌>>◌ (grammar.the l) (grammar.◌>>=◌ (g.QuadPattern Template Inner) (λ blocks. grammar.pure (operation blocks)))) ts x us → length us < length ts
  two_words k l operation ts x us h =
      let second = h.goes in
      let blocks = second.goes in
      let a = (quad_pattern_decides template inner Template Inner r i).shorter second.mid blocks.first blocks.mid blocks.reads in
      omega (arith, ap length h.reads.2, ap length second.reads.2, ap length blocks.goes.1)

  pub operation_strict : (ts : Lexemes) (x : Operation) (us : Lexemes) → g.Update1 Template Inner Group' ts x us → length us < length ts
  operation_strict ts x us (inl h) = graph_operation_strict ts x us h
  operation_strict ts x us (inr (inl h)) = two_words terminal.Insert terminal.Data o.InsertData ts x us h
  operation_strict ts x us (inr (inr (inl h))) = two_words terminal.Delete terminal.Data o.DeleteData ts x us h
  operation_strict ts x us (inr (inr (inr (inl h)))) = two_words terminal.Delete terminal.Where o.DeleteWhere ts x us h
  operation_strict ts x us (inr (inr (inr (inr h)))) =
      let name = h.reads in
      let templates = name.goes in
      let word = templates.goes in
      let a = with_decides.shorter ts name.first name.mid name.reads in
      let b = templates_shorter template inner Template Inner r i name.mid templates.first templates.mid templates.reads in
      let c = s.decides.shorter word.mid word.goes.first word.goes.mid word.goes.reads in
      omega (arith, ap length word.reads.2, ap length word.goes.goes.1, ap length h.goes.1)

  templates_declare : (k : Option Terminal) → begins_templates k ≡ true → begins_declaration k ≡ false
  templates_declare (Some terminal.Insert) h = refl
  templates_declare (Some terminal.Delete) h = refl
  templates_declare _ h = absurd (cc)

  graph_operation_declares : (k : Option Terminal) → begins_graph_operation k ≡ true → begins_declaration k ≡ false
  graph_operation_declares (Some terminal.Prefix) h = absurd (cc)
  graph_operation_declares (Some terminal.Base) h = absurd (cc)
  graph_operation_declares _ h = refl

  modify_declares : (ts : Lexemes) (x : Modify) (us : Lexemes) → g.AModify Template Inner Group' ts x us → begins_declaration (next_terminal ts) ≡ false
  modify_declares ts x us h = at h.first h.reads
    where
      at : (name : Option Name) → grammar.maybe WithName ts name h.mid → begins_declaration (next_terminal ts) ≡ false
      at None d = rw d (templates_declare (next_terminal h.mid) (templates_begin template inner Template Inner r i h.mid h.goes.first h.goes.mid h.goes.reads))
      at (Some name) d = rw (with_terminal ts name h.mid d) refl

  pub operation_begins : (ts : Lexemes) (x : Operation) (us : Lexemes) → g.Update1 Template Inner Group' ts x us → begins_declaration (next_terminal ts) ≡ false
  operation_begins ts x us (inl h) = graph_operation_declares (next_terminal ts) (graph_operation_begins ts x us h)
  operation_begins ts x us (inr (inl h)) = rw (the_terminal terminal.Insert ts h.mid h.first h.reads) refl
  operation_begins ts x us (inr (inr (inl h))) = rw (the_terminal terminal.Delete ts h.mid h.first h.reads) refl
  operation_begins ts x us (inr (inr (inr (inl h)))) = rw (the_terminal terminal.Delete ts h.mid h.first h.reads) refl
  operation_begins ts x us (inr (inr (inr (inr h)))) = modify_declares ts h.first h.mid h.reads

  pub operation_decides : Decides (read.operation template inner group) (g.Update1 Template Inner Group') always
  unfolding read.operation
  operation_decides = record {
    sound = λ ts x us h. operation_sound (next_terminal ts) ts x us h;
    complete = λ ts x us h _. operation_complete ts x us h;
    shorter = λ ts x us h. let e = operation_strict ts x us h in omega arith;
  }
