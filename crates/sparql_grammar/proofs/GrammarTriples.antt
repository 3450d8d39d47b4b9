-- Triples are read just as they are derived.
use Rattle.std.proofs.Common.{◌≡◌, ℕ, suc, ◌<◌, ◌≤◌, Bool, true, false, ◌&&◌, not, cond, List, [], ◌∷◌, length, Option, Some, None, refl, sym, ◌∙◌, ap, arith, inl, inr}
use Rattle.std.proofs.lemmas.Bool.{and_parts, and_from}
use Rattle.rdf_grammar.specs.Steps as steps
use Rattle.rdf_grammar.specs.Readings as reading
use Rattle.rdf_grammar.specs.Readings.{next}
use Rattle.rdf_grammar.specs.Terminals.{next_terminal}
use Rattle.rdf_grammar.specs.Derivations as grammar
use Rattle.rdf_grammar.specs.Derivations.{Then, Star, stop, more}
use Rattle.rdf_grammar.proofs.CallerLemmas.{always, Decides, then_decides, pure_decides, repeat_decides, seen_passes, the_decides, after_terminal, starts_with, the_terminal, terminal_seen, unseen, one_decides, also, maybe_decides}
use Rattle.sparql_terminals.specs.declared.terminal.Terminal.{Terminal}
use Rattle.sparql_terminals.specs.declared.terminal.Terminal.TheVariants as terminal
use Rattle.sparql_grammar.specs.declared.tree.Node.{Node}
use Rattle.sparql_grammar.specs.declared.tree.Property.{Property}
use Rattle.sparql_grammar.specs.declared.tree.Triples.{Triples}
use Rattle.sparql_terminals.specs.Lexemes as lexemes
use Rattle.sparql_terminals.specs.Lexemes.{Lexemes, Reading, sees, Derives, Test}
use Rattle.sparql_terminals.specs.Terminals.{same_terminal, apart}
use Rattle.sparql_grammar.specs.Proper.{is_filled, stands_alone}
use Rattle.sparql_grammar.specs.Reading as read
use Rattle.sparql_grammar.specs.Grammar as g
use Rattle.sparql_terminals.proofs.CallerLemmas.{after_node}
use Rattle.sparql_grammar.proofs.GrammarNodes.{closes_list, ends_list, IsNodeRule, node_rule, property_list_not_empty_decides, property_list_decides, not_empty_behind, list_behind}
use Rattle.sparql_grammar.proofs.Trees.{alone_variable, alone_name, alone_literal, alone_label, alone_blank, alone_collection}

-- ---- which subjects stand alone

pub term_alone : (ts : Lexemes) (x : Node) (us : Lexemes) → g.VarOrTerm ts x us → stands_alone x ≡ false
term_alone ts x us (inl h) = ap stands_alone (sym h.goes.0) ∙ alone_variable h.first
term_alone ts x us (inr (inl h)) = ap stands_alone (sym h.goes.0) ∙ alone_name h.first
term_alone ts x us (inr (inr (inl h))) = ap stands_alone (sym h.goes.0) ∙ alone_literal h.first
term_alone ts x us (inr (inr (inr (inl (inl h))))) = ap stands_alone (sym h.goes.0) ∙ alone_label h.first
term_alone ts x us (inr (inr (inr (inl (inr h))))) = ap stands_alone (sym h.goes.goes.0) ∙ alone_blank h.first []
term_alone ts x us (inr (inr (inr (inr h)))) = ap stands_alone (sym h.goes.goes.0) ∙ alone_collection h.first []

pub node_alone : (inner : Derives Node) (ts : Lexemes) (x : Node) (us : Lexemes) → g.TriplesNode inner ts x us → stands_alone x ≡ true
node_alone inner ts x us (inl h) = ap stands_alone (sym h.goes.goes.goes.goes.0) ∙ alone_collection h.first (h.goes.first ∷ h.goes.goes.first)
node_alone inner ts x us (inr h) =
    let ps = h.goes.reads in
    ap stands_alone (sym h.goes.goes.goes.0) ∙ alone_blank h.first h.goes.first ∙ ap is_filled (sym ps.goes.goes.0)

-- ---- what may follow triples

-- no dot, and nothing that begins triples or goes on with them
abbrev pub closes_template : Option Terminal → Bool
closes_template (Some terminal.Dot) = false
closes_template k = closes_list k && not (read.begins_node k)

abbrev pub ends_template : Test
ends_template us = closes_template (next_terminal us)

template_list : (k : Option Terminal) → closes_template k ≡ true → closes_list k ≡ true
template_list (Some terminal.Dot) h = refl
template_list k h = (and_parts (closes_list k) (not (read.begins_node k)) h).0

not_true : (b : Bool) → not b ≡ true → b ≡ false
not_true true h = absurd (cc)
not_true false h = refl

template_no_node : (k : Option Terminal) → closes_template k ≡ true → read.begins_node k ≡ false
template_no_node (Some terminal.Dot) h = refl
template_no_node k h = not_true (read.begins_node k) (and_parts (closes_list k) (not (read.begins_node k)) h).1

-- triples may end here, and none follow
abbrev ends_triples : Test
ends_triples us = ends_list us && not (read.sees_another us)

-- ---- over a rule for what stands inside brackets

module _ (node : Reading Node) (Inner : Derives Node) (r : IsNodeRule node (g.GraphNode Inner)) where
  abbrev Properties : Bool → Derives (List Property)
  Properties true = g.PropertyList (g.GraphNode Inner)
  Properties false = g.PropertyListNotEmpty (g.GraphNode Inner)

  properties_decide : (b : Bool) → Decides (cond b (read.property_list node) (read.property_list_not_empty node)) (Properties b) ends_list
  properties_decide true = property_list_decides node (g.GraphNode Inner) r
  properties_decide false = property_list_not_empty_decides node (g.GraphNode Inner) r

  properties_behind : (b : Bool) (ts : Lexemes) (ps : List Property) (us : Lexemes) → Properties b ts ps us → ends_list us ≡ true → after_node ts ≡ true
  properties_behind true ts ps us h e = list_behind node (g.GraphNode Inner) r ts ps us h e
  properties_behind false ts ps us h e = not_empty_behind node (g.GraphNode Inner) r ts ps us h

  abbrev About : Derives Triples
  About = grammar.◌>>=◌ (g.GraphNode Inner) (λ subject. grammar.◌>>=◌ (Properties (stands_alone subject)) (λ ps. grammar.pure (read.triples_with subject ps)))

  about_decides : Decides (read.same_subject node) About ends_list
  unfolding read.same_subject read.properties_of
  about_decides =
      then_decides _ _ _ _ after_node ends_list r.decides
      (λ subject. then_decides _ _ _ _ ends_list ends_list (properties_decide (stands_alone subject)) (λ ps. pure_decides (read.triples_with subject ps) ends_list) (λ a mid b us h e. rw h.1 e))
      (λ subject mid x us h e. properties_behind (stands_alone subject) mid h.first h.mid h.reads (rw h.goes.1 e))

  carried : (a b : Bool) → a ≡ b → (ts : Lexemes) (ps : List Property) (us : Lexemes) → Properties a ts ps us → Properties b ts ps us
  carried a b e ts ps us h = rw (← e) h

  about_there : (ts : Lexemes) (x : Triples) (us : Lexemes) → About ts x us → g.TriplesSameSubject Inner ts x us
  about_there ts x us h = at h.reads
    where
      at : g.GraphNode Inner ts h.first h.mid → g.TriplesSameSubject Inner ts x us
      at (inl t) =
          let ps = carried (stands_alone h.first) false (term_alone ts h.first h.mid t) h.mid h.goes.first h.goes.mid h.goes.reads in
          inl (record { first = h.first; mid = h.mid; reads = t; goes = record { first = h.goes.first; mid = h.goes.mid; reads = ps; goes = h.goes.goes } })
      at (inr t) =
          let ps = carried (stands_alone h.first) true (node_alone Inner ts h.first h.mid t) h.mid h.goes.first h.goes.mid h.goes.reads in
          inr (record { first = h.first; mid = h.mid; reads = t; goes = record { first = h.goes.first; mid = h.goes.mid; reads = ps; goes = h.goes.goes } })

  about_back : (ts : Lexemes) (x : Triples) (us : Lexemes) → g.TriplesSameSubject Inner ts x us → About ts x us
  about_back ts x us (inl h) =
      let ps = carried false (stands_alone h.first) (sym (term_alone ts h.first h.mid h.reads)) h.mid h.goes.first h.goes.mid h.goes.reads in
      record { first = h.first; mid = h.mid; reads = inl h.reads; goes = record { first = h.goes.first; mid = h.goes.mid; reads = ps; goes = h.goes.goes } }
  about_back ts x us (inr h) =
      let ps = carried true (stands_alone h.first) (sym (node_alone Inner ts h.first h.mid h.reads)) h.mid h.goes.first h.goes.mid h.goes.reads in
      record { first = h.first; mid = h.mid; reads = inr h.reads; goes = record { first = h.goes.first; mid = h.goes.mid; reads = ps; goes = h.goes.goes } }

  same_subject_decides : Decides (read.same_subject node) (g.TriplesSameSubject Inner) ends_list
  same_subject_decides = also _ About (g.TriplesSameSubject Inner) ends_list about_decides about_there about_back

  about_begins : (ts : Lexemes) (x : Triples) (us : Lexemes) → About ts x us → read.sees_node ts ≡ true
  about_begins ts x us h = r.begins ts h.first h.mid h.reads

  same_subject_begins : (ts : Lexemes) (x : Triples) (us : Lexemes) → g.TriplesSameSubject Inner ts x us → read.sees_node ts ≡ true
  same_subject_begins ts x us h = about_begins ts x us (about_back ts x us h)

  properties_shorter : (b : Bool) (ts : Lexemes) (ps : List Property) (us : Lexemes) → Properties b ts ps us → length us ≤ length ts
  properties_shorter b ts ps us h = (properties_decide b).shorter ts ps us h

  about_strict : (ts : Lexemes) (x : Triples) (us : Lexemes) → About ts x us → length us < length ts
  about_strict ts x us h =
      let a = r.strict ts h.first h.mid h.reads in
      let b = properties_shorter (stands_alone h.first) h.mid h.goes.first h.goes.mid h.goes.reads in
      omega (arith, ap length h.goes.goes.1)

  same_subject_strict : (ts : Lexemes) (x : Triples) (us : Lexemes) → g.TriplesSameSubject Inner ts x us → length us < length ts
  same_subject_strict ts x us h = about_strict ts x us (about_back ts x us h)

  -- ---- ( "." TriplesSameSubject )*

  abbrev Another : Derives (List Triples)
  Another = grammar.one (grammar.◌>>◌ (grammar.the terminal.Dot) (g.TriplesSameSubject Inner))

  another_seen : (ts : Lexemes) (x : Triples) (us : Lexemes) → grammar.◌>>◌ (grammar.the terminal.Dot) (g.TriplesSameSubject Inner) ts x us → read.sees_another ts ≡ true
  another_seen ts x us h =
      let dot = terminal_seen same_terminal apart terminal.Dot ts (the_terminal terminal.Dot ts h.mid h.first h.reads) in
      let behind : next ts ≡ h.mid = ap next h.reads.2 in
      and_from (sees terminal.Dot ts) (read.sees_node (next ts)) dot (ap read.sees_node behind ∙ same_subject_begins h.mid x us h.goes)

  another_starts : (ts : Lexemes) (xs : List Triples) (us : Lexemes) → Another ts xs us → (read.sees_another ts ≡ true) × (length us < length ts)
  another_starts ts xs us h =
      let s = starts_with same_terminal apart terminal.Dot (g.TriplesSameSubject Inner) _ ends_list same_subject_decides ts h.first h.mid h.reads in
      (another_seen ts h.first h.mid h.reads, let l = s.1 in omega (arith, ap length h.goes.1))

  another_ends : (us : Lexemes) → read.sees_another us ≡ true → ends_list us ≡ true
  another_ends us h = seen_passes same_terminal apart closes_list terminal.Dot refl us (and_parts (sees terminal.Dot us) (read.sees_node (next us)) h).0

  others_decide : Decides (reading.repeat read.sees_another (reading.one (steps.◌>>◌ (lexemes.the terminal.Dot) (read.same_subject node)))) (Star Another) ends_triples
  others_decide = repeat_decides read.sees_another _ _ ends_list ends_triples
      (one_decides _ _ ends_list (after_terminal same_terminal apart terminal.Dot (read.same_subject node) (g.TriplesSameSubject Inner) ends_list same_subject_decides))
      another_starts (λ us h. not_true (read.sees_another us) (and_parts (ends_list us) (not (read.sees_another us)) h).1) (λ us h. (and_parts (ends_list us) (not (read.sees_another us)) h).0) another_ends

  -- ---- "."?

  abbrev MaybeDot : List Triples → Derives (List Triples)
  MaybeDot all = grammar.◌>>=◌ (grammar.maybe (grammar.the terminal.Dot)) (λ _. grammar.pure all)

  dot_decides : (all : List Triples) → Decides (steps.◌>>=◌ (reading.optional (sees terminal.Dot) (lexemes.the terminal.Dot)) (λ _. steps.pure all)) (MaybeDot all) ends_template
  dot_decides all =
      then_decides _ _ _ _ ends_template ends_template
      (maybe_decides (sees terminal.Dot) (lexemes.the terminal.Dot) (grammar.the terminal.Dot) always ends_template (the_decides same_terminal apart terminal.Dot)
      (λ ts x us h. terminal_seen same_terminal apart terminal.Dot ts (the_terminal terminal.Dot ts us x h)) (unseen same_terminal apart closes_template terminal.Dot refl) (λ us h. refl))
      (λ _. pure_decides all ends_template) (λ a mid b us h e. rw h.1 e)

  no_other : (us : Lexemes) → sees terminal.Dot us && read.sees_node (next us) ≡ false → ends_list us ≡ true → ends_triples us ≡ true
  no_other us none e = and_from (ends_list us) (not (read.sees_another us)) e (ap not none)

  and_false : (a b : Bool) → b ≡ false → a && b ≡ false
  and_false true b h = h
  and_false false b h = refl

  dot_behind : (all : List Triples) (ts : Lexemes) (x : List Triples) (us : Lexemes) → MaybeDot all ts x us → ends_template us ≡ true → ends_triples ts ≡ true
  dot_behind all ts x us h e = at h.first h.reads
    where
      closed : ends_template h.mid ≡ true
      closed = rw h.goes.1 e

      at : (o : Option (Unit {0})) → grammar.maybe (grammar.the terminal.Dot) ts o h.mid → ends_triples ts ≡ true
      at None m =
          let c : ends_template ts ≡ true = ap ends_template m ∙ closed in
          no_other ts (ap (λ b. b && read.sees_node (next ts)) (unseen same_terminal apart closes_template terminal.Dot refl ts c)) (template_list (next_terminal ts) c)
      at (Some x) m =
          let behind : next ts ≡ h.mid = ap next m.2 in
          let none : read.sees_node (next ts) ≡ false = ap read.sees_node behind ∙ template_no_node (next_terminal h.mid) closed in
          no_other ts (and_false (sees terminal.Dot ts) (read.sees_node (next ts)) none) (ap closes_list (the_terminal terminal.Dot ts h.mid x m))

  others_behind : (ts : Lexemes) (xs : List Triples) (us : Lexemes) → Star Another ts xs us → ends_triples us ≡ true → ends_list ts ≡ true
  others_behind ts xs us stop h = (and_parts (ends_list ts) (not (read.sees_another ts)) h).0
  others_behind ts xs us (more {mid = mid} {x = x} q s) h = another_ends ts (another_starts ts x mid q).0

  template_decides : Decides (read.triples_template node) (g.TriplesTemplate Inner) ends_template
  unfolding read.triples_template
  template_decides =
      then_decides _ _ _ _ ends_list ends_template same_subject_decides
      (λ first. then_decides _ _ _ _ ends_triples ends_template others_decide (λ others. dot_decides (first ∷ others)) (λ others mid x us h e. dot_behind (first ∷ others) mid x us h e))
      (λ first mid x us h e. others_behind mid h.first h.mid h.reads (dot_behind (first ∷ h.first) h.mid x us h.goes e))

  template_begins : (ts : Lexemes) (x : List Triples) (us : Lexemes) → g.TriplesTemplate Inner ts x us → read.sees_node ts ≡ true
  template_begins ts x us h = same_subject_begins ts h.first h.mid h.reads

  template_strict : (ts : Lexemes) (x : List Triples) (us : Lexemes) → g.TriplesTemplate Inner ts x us → length us < length ts
  template_strict ts x us h =
      let a = same_subject_strict ts h.first h.mid h.reads in
      let b = others_decide.shorter h.mid h.goes.first h.goes.mid h.goes.reads in
      let c = (dot_decides (h.first ∷ h.goes.first)).shorter h.goes.mid x us h.goes.goes in
      omega arith

-- ---- at each depth

-- Where nothing follows that could go on with them, triples are read just as they are derived.
pub triples_decides : (depth : ℕ) → Decides (read.triples_template (read.node (suc depth))) (g.TriplesTemplate (g.Nodes_at depth)) ends_template
triples_decides depth = template_decides (read.node (suc depth)) (g.Nodes_at depth) (node_rule (suc depth))

pub triples_begin : (depth : ℕ) (ts : Lexemes) (x : List Triples) (us : Lexemes) → g.TriplesTemplate (g.Nodes_at depth) ts x us → read.sees_node ts ≡ true
triples_begin depth = template_begins (read.node (suc depth)) (g.Nodes_at depth) (node_rule (suc depth))

pub triples_strict : (depth : ℕ) (ts : Lexemes) (x : List Triples) (us : Lexemes) → g.TriplesTemplate (g.Nodes_at depth) ts x us → length us < length ts
triples_strict depth = template_strict (read.node (suc depth)) (g.Nodes_at depth) (node_rule (suc depth))
