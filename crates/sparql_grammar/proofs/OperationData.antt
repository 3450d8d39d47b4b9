-- Data and templates are read just as they are derived, over rules for triples.
use Rattle.std.proofs.Common.{◌≡◌, ◌<◌, Bool, true, false, List, [], ◌∷◌, length, Option, Some, None, refl, ◌∙◌, ap, arith}
use Rattle.rdf_grammar.specs.Readings as reading
use Rattle.rdf_grammar.specs.Terminals.{next_terminal}
use Rattle.rdf_grammar.specs.Derivations as grammar
use Rattle.rdf_grammar.specs.Derivations.{Then, Star, stop, more}
use Rattle.rdf_grammar.proofs.CallerLemmas.{seq, last, maybe_decides, always, Decides, then_decides, pure_decides, repeat_decides, the_decides, the_terminal, terminal_seen, seen_terminal, unseen}
use Rattle.sparql_terminals.specs.declared.terminal.Terminal.{Terminal}
use Rattle.sparql_terminals.specs.declared.terminal.Terminal.TheVariants as terminal
use Rattle.sparql_grammar.specs.declared.tree.Block.{Block}
use Rattle.sparql_grammar.specs.declared.tree.Operation.{Operation}
use Rattle.sparql_grammar.specs.declared.tree.Triples.{Triples}
use Rattle.sparql_terminals.specs.Lexemes.{Lexemes, Reading, sees, Derives, Test}
use Rattle.sparql_grammar.specs.OperationGrammar as g
use Rattle.sparql_grammar.specs.OperationReading as read
use Rattle.sparql_grammar.specs.Reading.{all_of, begins_node, sees_node}
use Rattle.sparql_terminals.specs.Terminals.{same_terminal, apart}
use Rattle.sparql_grammar.proofs.OperationProductions.{perhaps_decides}
use Rattle.sparql_grammar.proofs.GrammarNodes.{var_or_iri_decides}

-- ---- what may follow

abbrev pub closes_triples : Option Terminal → Bool
closes_triples (Some terminal.CloseBrace) = true
closes_triples (Some terminal.Graph) = true
closes_triples _ = false

abbrev pub ends_triples : Test
ends_triples us = closes_triples (next_terminal us)

closes_no_node : (k : Option Terminal) → closes_triples k ≡ true → begins_node k ≡ false
closes_no_node (Some terminal.CloseBrace) h = refl
closes_no_node (Some terminal.Graph) h = refl
closes_no_node _ h = absurd (cc)

abbrev pub no_dot : Option Terminal → Bool
no_dot (Some terminal.Dot) = false
no_dot _ = true

abbrev pub ends_dot : Test
ends_dot us = no_dot (next_terminal us)

pub node_no_dot : (k : Option Terminal) → begins_node k ≡ true → no_dot k ≡ true
node_no_dot (Some terminal.Dot) h = absurd (cc)
node_no_dot _ h = refl

closes_no_dot : (k : Option Terminal) → closes_triples k ≡ true → no_dot k ≡ true
closes_no_dot (Some terminal.Dot) h = absurd (cc)
closes_no_dot _ h = refl

brace_closes : (us : Lexemes) → sees terminal.CloseBrace us ≡ true → ends_triples us ≡ true
brace_closes us h = rw (seen_terminal same_terminal apart terminal.CloseBrace us h) refl

abbrev closes_data : Option Terminal → Bool
closes_data (Some terminal.CloseBrace) = true
closes_data _ = false

brace_no_graph : (us : Lexemes) → sees terminal.CloseBrace us ≡ true → sees terminal.Graph us ≡ false
brace_no_graph us h = unseen same_terminal apart closes_data terminal.Graph refl us (ap closes_data (seen_terminal same_terminal apart terminal.CloseBrace us h))

graph_closes : (us : Lexemes) → sees terminal.Graph us ≡ true → ends_triples us ≡ true
graph_closes us h = rw (seen_terminal same_terminal apart terminal.Graph us h) refl

-- ---- over a rule for triples

pub record IsTemplateRule (template : Reading (List Triples)) (Template : Derives (List Triples)) : Type 0 where
  pub decides : Decides template Template ends_triples
  pub begins : (ts : Lexemes) (x : List Triples) (us : Lexemes) → Template ts x us → sees_node ts ≡ true

module _ (template : Reading (List Triples)) (Template : Derives (List Triples)) (r : IsTemplateRule template Template) where
  triples_decide : Decides (read.triples template) (g.MaybeTriples Template) ends_triples
  unfolding read.triples
  triples_decide = last all_of _ _ ends_triples (maybe_decides sees_node template Template ends_triples ends_triples r.decides
      r.begins (λ us h. closes_no_node (next_terminal us) h) (λ us h. h))

  -- triples, or what is behind them
  triples_begin : (ts : Lexemes) (x : List Triples) (us : Lexemes) → g.MaybeTriples Template ts x us → ends_triples us ≡ true → ends_dot ts ≡ true
  triples_begin ts x us h e = at h.first h.reads
    where
      at : (found : Option (List Triples)) → grammar.maybe Template ts found h.mid → ends_dot ts ≡ true
      at None d = rw (d ∙ h.goes.1) (closes_no_dot (next_terminal us) e)
      at (Some triples) d = node_no_dot (next_terminal ts) (r.begins ts triples h.mid d)

  pub default_block_decides : Decides (read.default_block template) (g.DefaultBlock Template) ends_triples
  unfolding read.default_block
  default_block_decides = last (read.block None) _ _ ends_triples triples_decide

  pub default_block_begins : (ts : Lexemes) (x : Block) (us : Lexemes) → g.DefaultBlock Template ts x us → ends_triples us ≡ true → ends_dot ts ≡ true
  default_block_begins ts x us h e = triples_begin ts h.first h.mid h.reads (rw h.goes.1 e)

  pub named_block_decides : Decides (read.named_block template) (g.QuadsNotTriples Template) always
  unfolding read.named_block
  named_block_decides =
      seq _ _ _ _ always (the_decides same_terminal apart terminal.Graph) (λ _. seq _ _ _ _ always var_or_iri_decides
      (λ graph. seq _ _ _ _ always (the_decides same_terminal apart terminal.OpenBrace) (λ _.
      then_decides _ _ _ _ ends_triples always triples_decide
      (λ triples. seq _ _ _ _ always (the_decides same_terminal apart terminal.CloseBrace) (λ _. pure_decides (read.block (Some graph) triples) always))
      (λ a mid b us h e. brace_closes mid (terminal_seen same_terminal apart terminal.CloseBrace mid (the_terminal terminal.CloseBrace mid h.mid h.first h.reads))))))

  pub named_block_seen : (ts : Lexemes) (x : Block) (us : Lexemes) → g.QuadsNotTriples Template ts x us → sees terminal.Graph ts ≡ true
  named_block_seen ts x us h = terminal_seen same_terminal apart terminal.Graph ts (the_terminal terminal.Graph ts h.mid h.first h.reads)

  pub named_block_strict : (ts : Lexemes) (x : Block) (us : Lexemes) → g.QuadsNotTriples Template ts x us → length us < length ts
  named_block_strict ts x us h =
      let graph = h.goes in
      let brace = graph.goes in
      let inside = brace.goes in
      let close = inside.goes in
      let a = var_or_iri_decides.shorter h.mid graph.first graph.mid graph.reads in
      let b = triples_decide.shorter brace.mid inside.first inside.mid inside.reads in
      omega (arith, ap length h.reads.2, ap length brace.reads.2, ap length close.reads.2, ap length close.goes.1)

module _ (template inner : Reading (List Triples)) (Template Inner : Derives (List Triples)) (r : IsTemplateRule template Template) (i : IsTemplateRule inner Inner) where
  named_and_default_decides : Decides (read.named_and_default template inner) (g.NamedAndDefault Template Inner) ends_triples
  unfolding read.named_and_default
  named_and_default_decides =
      seq _ _ _ _ ends_triples (named_block_decides inner Inner i)
      (λ named. then_decides _ _ _ _ ends_dot ends_triples (perhaps_decides terminal.Dot ends_dot (unseen same_terminal apart no_dot terminal.Dot refl))
      (λ _. then_decides _ _ _ _ ends_triples ends_triples (default_block_decides template Template r)
      (λ default. pure_decides (named ∷ default ∷ []) ends_triples) (λ a mid b us h e. rw h.1 e))
      (λ a mid b us h e. default_block_begins template Template r mid h.first h.mid h.reads (rw h.goes.1 e)))

  named_and_default_starts : (ts : Lexemes) (x : List Block) (us : Lexemes) → g.NamedAndDefault Template Inner ts x us → (sees terminal.Graph ts ≡ true) × (length us < length ts)
  named_and_default_starts ts x us h =
      let s = named_block_strict inner Inner i ts h.first h.mid h.reads in
      let dot = h.goes in
      let default = dot.goes in
      let a = (perhaps_decides terminal.Dot ends_dot (unseen same_terminal apart no_dot terminal.Dot refl)).shorter h.mid dot.first dot.mid dot.reads in
      let b = (default_block_decides template Template r).shorter dot.mid default.first default.mid default.reads in
      (named_block_seen inner Inner i ts h.first h.mid h.reads, omega (arith, ap length default.goes.1))

  named_decide : Decides (reading.repeat (sees terminal.Graph) (read.named_and_default template inner)) (Star (g.NamedAndDefault Template Inner)) (sees terminal.CloseBrace)
  named_decide = repeat_decides (sees terminal.Graph) _ _ ends_triples (sees terminal.CloseBrace) named_and_default_decides
      named_and_default_starts brace_no_graph brace_closes graph_closes

  named_begin : (ts : Lexemes) (xs : List Block) (us : Lexemes) → Star (g.NamedAndDefault Template Inner) ts xs us → sees terminal.CloseBrace us ≡ true → ends_triples ts ≡ true
  named_begin ts xs us stop h = brace_closes ts h
  named_begin ts xs us (more {mid = mid} {x = x} q s) h = graph_closes ts (named_and_default_starts ts x mid q).0

  quads_decide : Decides (read.quads template inner) (g.Quads Template Inner) (sees terminal.CloseBrace)
  unfolding read.quads
  quads_decide =
      then_decides _ _ _ _ ends_triples (sees terminal.CloseBrace) (default_block_decides template Template r)
      (λ first. then_decides _ _ _ _ (sees terminal.CloseBrace) (sees terminal.CloseBrace) named_decide (λ others. pure_decides (first ∷ others) (sees terminal.CloseBrace)) (λ a mid b us h e. rw h.1 e))
      (λ a mid b us h e. named_begin mid h.first h.mid h.reads (rw h.goes.1 e))

  pub quad_pattern_decides : Decides (read.quad_pattern template inner) (g.QuadPattern Template Inner) always
  unfolding read.quad_pattern
  quad_pattern_decides =
      seq _ _ _ _ always (the_decides same_terminal apart terminal.OpenBrace) (λ _.
      then_decides _ _ _ _ (sees terminal.CloseBrace) always quads_decide (λ blocks. seq _ _ _ _ always (the_decides same_terminal apart terminal.CloseBrace) (λ _. pure_decides blocks always))
      (λ a mid b us h e. terminal_seen same_terminal apart terminal.CloseBrace mid (the_terminal terminal.CloseBrace mid h.mid h.first h.reads)))

  pub quad_pattern_opens : (ts : Lexemes) (x : List Block) (us : Lexemes) → g.QuadPattern Template Inner ts x us → next_terminal ts ≡ Some terminal.OpenBrace
  quad_pattern_opens ts x us h = the_terminal terminal.OpenBrace ts h.mid h.first h.reads

  pub data_decides : (k : Terminal) (operation : List Block → Operation) → Decides (read.data_of template inner k operation) (g.DataOf Template Inner k operation) always
  unfolding read.data_of
  data_decides k operation = seq _ _ _ _ always (the_decides same_terminal apart k) (λ _. seq _ _ _ _ always (the_decides same_terminal apart terminal.Data)
      (λ _. seq _ _ _ _ always quad_pattern_decides (λ blocks. pure_decides (operation blocks) always)))
