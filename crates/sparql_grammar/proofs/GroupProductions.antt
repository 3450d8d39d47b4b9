-- Groups are read just as they are derived.
use Rattle.std.proofs.Common.{◌≡◌, ℕ, zero, suc, ◌<◌, Bool, true, false, List, ◌∷◌, ◌++◌, length, Option, Some, None, refl, ◌∙◌, ap, arith, inl, inr, ◌⊎◌}
use Rattle.std.specs.Prelude.{option_to_list}
use Rattle.rdf_grammar.specs.Steps as steps
use Rattle.rdf_grammar.specs.Readings as reading
use Rattle.rdf_grammar.specs.Terminals.{next_terminal}
use Rattle.rdf_grammar.specs.Derivations as grammar
use Rattle.rdf_grammar.specs.Derivations.{Then, Star, stop, more}
use Rattle.rdf_grammar.proofs.CallerLemmas.{seq, last, maybe_decides, always, Decides, then_decides, pure_decides, repeat_decides, MayPart, each_behind_decides, the_decides, the_terminal, terminal_seen, seen_terminal, unseen}
use Rattle.sparql_terminals.specs.declared.terminal.Terminal.{Terminal}
use Rattle.sparql_terminals.specs.declared.terminal.Terminal.TheVariants as terminal
use Rattle.sparql_expressions.specs.declared.tree.Expression.{Expression}
use Rattle.sparql_grammar.specs.declared.tree.Element.{Element}
use Rattle.sparql_grammar.specs.declared.tree.Element.TheVariants as e
use Rattle.sparql_grammar.specs.declared.tree.Group.{Group}
use Rattle.sparql_grammar.specs.declared.tree.Member.{Member}
use Rattle.sparql_grammar.specs.declared.tree.Member.TheVariants as m
use Rattle.sparql_grammar.specs.declared.tree.Triples.{Triples}
use Rattle.sparql_grammar.specs.Grammar.{AVarOrIri, Perhaps}
use Rattle.sparql_grammar.specs.GroupGrammar as g
use Rattle.sparql_grammar.specs.GroupReading as read
use Rattle.sparql_terminals.specs.Lexemes as lexemes
use Rattle.sparql_terminals.specs.Lexemes.{Lexemes, Reading, sees, Derives, Test}
use Rattle.sparql_grammar.specs.Reading.{begins_node, perhaps, sees_node}
use Rattle.sparql_terminals.specs.Terminals.{same_terminal, apart}
use Rattle.sparql_grammar.proofs.GrammarNodes.{var_or_iri_decides}
use Rattle.sparql_terminals.proofs.CallerLemmas.{keyword_sound, keyword_complete, keyword_terminal, keyword_strict}
use Rattle.sparql_grammar.proofs.OperationData.{no_dot, ends_dot, node_no_dot}
use Rattle.sparql_grammar.proofs.OperationProductions.{perhaps_decides, perhaps_terminal}

-- ---- what may follow

-- triples of a group: its brace, or what isn't triples
abbrev pub closes_block : Option Terminal → Bool
closes_block (Some terminal.CloseBrace) = true
closes_block (Some terminal.OpenBrace) = true
closes_block (Some terminal.Optional) = true
closes_block (Some terminal.MinusWord) = true
closes_block (Some terminal.Graph) = true
closes_block (Some terminal.Filter) = true
closes_block _ = false

abbrev pub ends_block : Test
ends_block us = closes_block (next_terminal us)

-- a pattern: no other group behind UNION
abbrev pub closes_pattern : Option Terminal → Bool
closes_pattern (Some terminal.Union) = false
closes_pattern _ = true

abbrev pub ends_pattern : Test
ends_pattern us = closes_pattern (next_terminal us)

block_no_node : (k : Option Terminal) → closes_block k ≡ true → begins_node k ≡ false
block_no_node (Some terminal.CloseBrace) h = refl
block_no_node (Some terminal.OpenBrace) h = refl
block_no_node (Some terminal.Optional) h = refl
block_no_node (Some terminal.MinusWord) h = refl
block_no_node (Some terminal.Graph) h = refl
block_no_node (Some terminal.Filter) h = refl
block_no_node _ h = absurd (cc)

block_no_dot : (k : Option Terminal) → closes_block k ≡ true → no_dot k ≡ true
block_no_dot (Some terminal.Dot) h = absurd (cc)
block_no_dot _ h = refl

block_no_union : (k : Option Terminal) → closes_block k ≡ true → closes_pattern k ≡ true
block_no_union (Some terminal.Union) h = absurd (cc)
block_no_union _ h = refl

node_no_union : (k : Option Terminal) → begins_node k ≡ true → closes_pattern k ≡ true
node_no_union (Some terminal.Union) h = absurd (cc)
node_no_union _ h = refl

pattern_closes : (k : Option Terminal) → read.begins_pattern k ≡ true → closes_block k ≡ true
pattern_closes (Some terminal.OpenBrace) h = refl
pattern_closes (Some terminal.Optional) h = refl
pattern_closes (Some terminal.MinusWord) h = refl
pattern_closes (Some terminal.Graph) h = refl
pattern_closes (Some terminal.Filter) h = refl
pattern_closes _ h = absurd (cc)

-- what begins a pattern that is no FILTER
abbrev begins_member : Option Terminal → Bool
begins_member (Some terminal.OpenBrace) = true
begins_member (Some terminal.Optional) = true
begins_member (Some terminal.MinusWord) = true
begins_member (Some terminal.Graph) = true
begins_member _ = false

member_pattern : (k : Option Terminal) → begins_member k ≡ true → read.begins_pattern k ≡ true
member_pattern (Some terminal.OpenBrace) h = refl
member_pattern (Some terminal.Optional) h = refl
member_pattern (Some terminal.MinusWord) h = refl
member_pattern (Some terminal.Graph) h = refl
member_pattern _ h = absurd (cc)

brace_closes : (us : Lexemes) → sees terminal.CloseBrace us ≡ true → ends_block us ≡ true
brace_closes us h = rw (seen_terminal same_terminal apart terminal.CloseBrace us h) refl

brace_no_pattern : (us : Lexemes) → sees terminal.CloseBrace us ≡ true → read.sees_pattern us ≡ false
brace_no_pattern us h = rw (seen_terminal same_terminal apart terminal.CloseBrace us h) refl

-- ---- over rules for triples, for constraints and for the groups inside

pub record IsBlockRule (block : Reading (List Triples)) (Block : Derives (List Triples)) : Type 0 where
  pub decides : Decides block Block ends_block
  pub begins : (ts : Lexemes) (x : List Triples) (us : Lexemes) → Block ts x us → sees_node ts ≡ true

pub record IsConstraintRule (constraint : Reading Expression) (Constraint' : Derives Expression) : Type 0 where
  pub decides : Decides constraint Constraint' always
  pub strict : (ts : Lexemes) (x : Expression) (us : Lexemes) → Constraint' ts x us → length us < length ts

pub record IsGroupRule (group : Reading Group) (Group' : Derives Group) : Type 0 where
  pub decides : Decides group Group' always
  pub opens : (ts : Lexemes) (x : Group) (us : Lexemes) → Group' ts x us → next_terminal ts ≡ Some terminal.OpenBrace
  pub strict : (ts : Lexemes) (x : Group) (us : Lexemes) → Group' ts x us → length us < length ts

module _ (block : Reading (List Triples)) (Block : Derives (List Triples)) (b : IsBlockRule block Block) where
  maybe_block_decides : Decides (read.maybe_block block) (g.MaybeBlock Block) ends_block
  unfolding read.maybe_block
  maybe_block_decides = maybe_decides sees_node _ _ ends_block ends_block (last e.Block _ _ ends_block b.decides)
      (λ ts x us h. b.begins ts h.first h.mid h.reads) (λ us h. block_no_node (next_terminal us) h) (λ us h. h)

  -- triples, or what is behind them
  maybe_block_no_dot : (ts : Lexemes) (x : Option Element) (us : Lexemes) → g.MaybeBlock Block ts x us → ends_block us ≡ true → ends_dot ts ≡ true
  maybe_block_no_dot ts None us h e = rw h (block_no_dot (next_terminal us) e)
  maybe_block_no_dot ts (Some x) us h e = node_no_dot (next_terminal ts) (b.begins ts h.first h.mid h.reads)

  maybe_block_no_union : (ts : Lexemes) (x : Option Element) (us : Lexemes) → g.MaybeBlock Block ts x us → ends_block us ≡ true → ends_pattern ts ≡ true
  maybe_block_no_union ts None us h e = rw h (block_no_union (next_terminal us) e)
  maybe_block_no_union ts (Some x) us h e = node_no_union (next_terminal ts) (b.begins ts h.first h.mid h.reads)

module _ (group : Reading Group) (Group' : Derives Group) (r : IsGroupRule group Group') where
  -- ---- groups with UNION between them

  unions : MayPart terminal.Union (λ k. true) closes_pattern
  unions = record { before = refl; apart = refl; goes = λ k h. refl }

  others_decide : Decides (lexemes.each_behind terminal.Union group) (grammar.EachBehind terminal.Union Group') ends_pattern
  others_decide = each_behind_decides same_terminal apart terminal.Union group Group' (λ k. true) closes_pattern unions r.decides

  union_decides : Decides (read.group_or_union group) (g.GroupOrUnionGraphPattern Group') ends_pattern
  unfolding read.group_or_union
  union_decides = seq _ _ _ _ ends_pattern r.decides (λ first. then_decides _ _ _ _ ends_pattern ends_pattern others_decide
      (λ others. pure_decides (m.Union (first ∷ others)) ends_pattern) (λ a mid x us h e. rw h.1 e))

  -- ---- what isn't triples

  optional_decides : Decides (steps.◌<$>◌ m.Optional group) (grammar.◌<$>◌ m.Optional Group') always
  optional_decides = last m.Optional _ _ always r.decides

  minus_decides : Decides (steps.◌<$>◌ m.Minus group) (grammar.◌<$>◌ m.Minus Group') always
  minus_decides = last m.Minus _ _ always r.decides

  abbrev GraphRest : Derives Member
  GraphRest = grammar.◌>>=◌ AVarOrIri (λ graph. grammar.◌>>=◌ Group' (λ inside. grammar.pure (m.Graph graph inside)))

  graph_decides : Decides (read.graph_pattern group) GraphRest always
  unfolding read.graph_pattern
  graph_decides = seq _ _ _ _ always var_or_iri_decides (λ graph. seq _ _ _ _ always r.decides (λ inside. pure_decides (m.Graph graph inside) always))

  pattern_sound : (k : Option Terminal) (ts : Lexemes) (x : Member) (us : Lexemes) → next_terminal ts ≡ k → read.pattern_by group k ts ≡ Some (x, us) → g.APattern Group' ts x us
  pattern_sound (Some terminal.Optional) ts x us q h = inr (inl (keyword_sound terminal.Optional _ _ optional_decides ts x us q h))
  pattern_sound (Some terminal.MinusWord) ts x us q h = inr (inr (inl (keyword_sound terminal.MinusWord _ _ minus_decides ts x us q h)))
  pattern_sound (Some terminal.Graph) ts x us q h = inr (inr (inr (keyword_sound terminal.Graph _ _ graph_decides ts x us q h)))
  pattern_sound _ ts x us q h = inl (union_decides.sound ts x us h)

  pattern_complete : (ts : Lexemes) (x : Member) (us : Lexemes) → g.APattern Group' ts x us → ends_pattern us ≡ true → read.pattern_by group (next_terminal ts) ts ≡ Some (x, us)
  pattern_complete ts x us (inl h) e = rw (r.opens ts h.first h.mid h.reads) (union_decides.complete ts x us h e)
  pattern_complete ts x us (inr (inl h)) e = let q = keyword_terminal terminal.Optional _ ts x us h in rw q (keyword_complete terminal.Optional _ _ optional_decides ts x us q h)
  pattern_complete ts x us (inr (inr (inl h))) e = let q = keyword_terminal terminal.MinusWord _ ts x us h in rw q (keyword_complete terminal.MinusWord _ _ minus_decides ts x us q h)
  pattern_complete ts x us (inr (inr (inr h))) e = let q = keyword_terminal terminal.Graph _ ts x us h in rw q (keyword_complete terminal.Graph _ _ graph_decides ts x us q h)

  pattern_begins : (ts : Lexemes) (x : Member) (us : Lexemes) → g.APattern Group' ts x us → begins_member (next_terminal ts) ≡ true
  pattern_begins ts x us (inl h) = rw (r.opens ts h.first h.mid h.reads) refl
  pattern_begins ts x us (inr (inl h)) = rw (keyword_terminal terminal.Optional _ ts x us h) refl
  pattern_begins ts x us (inr (inr (inl h))) = rw (keyword_terminal terminal.MinusWord _ ts x us h) refl
  pattern_begins ts x us (inr (inr (inr h))) = rw (keyword_terminal terminal.Graph _ ts x us h) refl

  pattern_strict : (ts : Lexemes) (x : Member) (us : Lexemes) → g.APattern Group' ts x us → length us < length ts
  pattern_strict ts x us (inl h) =
      let a = r.strict ts h.first h.mid h.reads in
      let c = others_decide.shorter h.mid h.goes.first h.goes.mid h.goes.reads in
      omega (arith, ap length h.goes.goes.1)
  pattern_strict ts x us (inr (inl h)) = keyword_strict terminal.Optional _ _ optional_decides ts x us h
  pattern_strict ts x us (inr (inr (inl h))) = keyword_strict terminal.MinusWord _ _ minus_decides ts x us h
  pattern_strict ts x us (inr (inr (inr h))) = keyword_strict terminal.Graph _ _ graph_decides ts x us h

  pattern_decides : Decides (read.pattern group) (g.APattern Group') ends_pattern
  unfolding read.pattern
  pattern_decides = record {
    sound = λ ts x us h. pattern_sound (next_terminal ts) ts x us refl h;
    complete = pattern_complete;
    shorter = λ ts x us h. let e = pattern_strict ts x us h in omega arith;
  }

module _ (constraint : Reading Expression) (group : Reading Group) (Constraint' : Derives Expression) (Group' : Derives Group)
    (c : IsConstraintRule constraint Constraint') (r : IsGroupRule group Group') where
  -- ---- a pattern or a FILTER

  filter_decides : Decides (steps.◌<$>◌ e.Filter constraint) (grammar.◌<$>◌ e.Filter Constraint') always
  filter_decides = last e.Filter _ _ always c.decides

  member_decides : Decides (steps.◌<$>◌ e.Pattern (read.pattern group)) (grammar.◌<$>◌ e.Pattern (g.APattern Group')) ends_pattern
  member_decides = last e.Pattern _ _ ends_pattern (pattern_decides group Group' r)

  member_read : (k : Option Terminal) (ts : Lexemes) → begins_member k ≡ true → read.pattern_or_filter_by constraint group k ts ≡ steps.◌<$>◌ e.Pattern (read.pattern group) ts
  member_read (Some terminal.Filter) ts h = absurd (cc)
  member_read _ ts h = refl

  either_sound : (k : Option Terminal) (ts : Lexemes) (x : Element) (us : Lexemes) → next_terminal ts ≡ k → read.pattern_or_filter_by constraint group k ts ≡ Some (x, us) → g.GraphPatternNotTriples Constraint' Group' ts x us
  either_sound (Some terminal.Filter) ts x us q h = inr (keyword_sound terminal.Filter _ _ filter_decides ts x us q h)
  either_sound _ ts x us q h = inl (member_decides.sound ts x us h)

  either_complete : (ts : Lexemes) (x : Element) (us : Lexemes) → g.GraphPatternNotTriples Constraint' Group' ts x us → ends_pattern us ≡ true → read.pattern_or_filter_by constraint group (next_terminal ts) ts ≡ Some (x, us)
  either_complete ts x us (inl h) e = member_read (next_terminal ts) ts (pattern_begins group Group' r ts h.first h.mid h.reads) ∙ member_decides.complete ts x us h e
  either_complete ts x us (inr h) e = let q = keyword_terminal terminal.Filter _ ts x us h in rw q (keyword_complete terminal.Filter _ _ filter_decides ts x us q h)

  either_begins : (ts : Lexemes) (x : Element) (us : Lexemes) → g.GraphPatternNotTriples Constraint' Group' ts x us → read.sees_pattern ts ≡ true
  either_begins ts x us (inl h) = member_pattern (next_terminal ts) (pattern_begins group Group' r ts h.first h.mid h.reads)
  either_begins ts x us (inr h) = rw (keyword_terminal terminal.Filter _ ts x us h) refl

  either_strict : (ts : Lexemes) (x : Element) (us : Lexemes) → g.GraphPatternNotTriples Constraint' Group' ts x us → length us < length ts
  either_strict ts x us (inl h) = let l = pattern_strict group Group' r ts h.first h.mid h.reads in omega (arith, ap length h.goes.1)
  either_strict ts x us (inr h) = keyword_strict terminal.Filter _ _ filter_decides ts x us h

  either_decides : Decides (read.pattern_or_filter constraint group) (g.GraphPatternNotTriples Constraint' Group') ends_pattern
  unfolding read.pattern_or_filter
  either_decides = record {
    sound = λ ts x us h. either_sound (next_terminal ts) ts x us refl h;
    complete = either_complete;
    shorter = λ ts x us h. let e = either_strict ts x us h in omega arith;
  }

module _ (block : Reading (List Triples)) (constraint : Reading Expression) (group : Reading Group)
    (Block : Derives (List Triples)) (Constraint' : Derives Expression) (Group' : Derives Group)
    (b : IsBlockRule block Block) (c : IsConstraintRule constraint Constraint') (r : IsGroupRule group Group') where
  -- ---- a pattern, and perhaps triples behind it

  dot_decides : Decides (perhaps terminal.Dot) (Perhaps terminal.Dot) ends_dot
  dot_decides = perhaps_decides terminal.Dot ends_dot (unseen same_terminal apart no_dot terminal.Dot refl)

  abbrev DotAndBlock : Element → Derives (List Element)
  DotAndBlock pattern = grammar.◌>>=◌ (Perhaps terminal.Dot) (λ _. grammar.◌>>=◌ (g.MaybeBlock Block) (λ x. grammar.pure (pattern ∷ option_to_list x)))

  dot_no_union : (pattern : Element) (ts : Lexemes) (x : List Element) (us : Lexemes) → DotAndBlock pattern ts x us → ends_block us ≡ true → ends_pattern ts ≡ true
  dot_no_union pattern ts x us h e = at (perhaps_terminal terminal.Dot ts h.first h.mid h.reads)
    where
      at : (next_terminal ts ≡ Some terminal.Dot) ⊎ (ts ≡ h.mid) → ends_pattern ts ≡ true
      at (inl q) = rw q refl
      at (inr q) = rw q (maybe_block_no_union block Block b h.mid h.goes.first h.goes.mid h.goes.reads (rw h.goes.goes.1 e))

  pattern_and_block_decides : Decides (read.pattern_and_block block constraint group) (g.PatternAndBlock Block Constraint' Group') ends_block
  unfolding read.pattern_and_block
  pattern_and_block_decides =
      then_decides _ _ _ _ ends_pattern ends_block (either_decides constraint group Constraint' Group' c r)
      (λ pattern. then_decides _ _ _ _ ends_dot ends_block dot_decides
      (λ _. then_decides _ _ _ _ ends_block ends_block (maybe_block_decides block Block b) (λ x. pure_decides (pattern ∷ option_to_list x) ends_block) (λ a mid x us h e. rw h.1 e))
      (λ a mid x us h e. maybe_block_no_dot block Block b mid h.first h.mid h.reads (rw h.goes.1 e)))
      (λ pattern mid x us h e. dot_no_union pattern mid x us h e)

  pattern_and_block_starts : (ts : Lexemes) (xs : List Element) (us : Lexemes) → g.PatternAndBlock Block Constraint' Group' ts xs us → (read.sees_pattern ts ≡ true) × (length us < length ts)
  pattern_and_block_starts ts xs us h =
      let s = either_strict constraint group Constraint' Group' c r ts h.first h.mid h.reads in
      let dot = h.goes in
      let behind = dot.goes in
      let a = dot_decides.shorter h.mid dot.first dot.mid dot.reads in
      let t = (maybe_block_decides block Block b).shorter dot.mid behind.first behind.mid behind.reads in
      (either_begins constraint group Constraint' Group' c r ts h.first h.mid h.reads, omega (arith, ap length behind.goes.1))

  -- ---- all members, and the braces around them

  patterns_decide : Decides (reading.repeat read.sees_pattern (read.pattern_and_block block constraint group)) (Star (g.PatternAndBlock Block Constraint' Group')) (sees terminal.CloseBrace)
  patterns_decide = repeat_decides read.sees_pattern _ _ ends_block (sees terminal.CloseBrace) pattern_and_block_decides
      pattern_and_block_starts brace_no_pattern brace_closes (λ us h. pattern_closes (next_terminal us) h)

  patterns_begin : (ts : Lexemes) (xs : List Element) (us : Lexemes) → Star (g.PatternAndBlock Block Constraint' Group') ts xs us → sees terminal.CloseBrace us ≡ true → ends_block ts ≡ true
  patterns_begin ts xs us stop h = brace_closes ts h
  patterns_begin ts xs us (more {mid = mid} {x = x} q s) h = pattern_closes (next_terminal ts) (pattern_and_block_starts ts x mid q).0

  contents_decide : Decides (read.contents block constraint group) (g.GroupGraphPatternSub Block Constraint' Group') (sees terminal.CloseBrace)
  unfolding read.contents
  contents_decide =
      then_decides _ _ _ _ ends_block (sees terminal.CloseBrace) (maybe_block_decides block Block b)
      (λ first. then_decides _ _ _ _ (sees terminal.CloseBrace) (sees terminal.CloseBrace) patterns_decide
      (λ others. pure_decides (read.group_with (option_to_list first ++ others)) (sees terminal.CloseBrace)) (λ a mid x us h e. rw h.1 e))
      (λ a mid x us h e. patterns_begin mid h.first h.mid h.reads (rw h.goes.1 e))

  pub group_graph_pattern_decides : Decides (read.group_graph_pattern block constraint group) (g.GroupGraphPattern Block Constraint' Group') always
  unfolding read.group_graph_pattern
  group_graph_pattern_decides =
      seq _ _ _ _ always (the_decides same_terminal apart terminal.OpenBrace) (λ _.
      then_decides _ _ _ _ (sees terminal.CloseBrace) always contents_decide (λ inside. seq _ _ _ _ always (the_decides same_terminal apart terminal.CloseBrace) (λ _. pure_decides inside always))
      (λ a mid x us h e. terminal_seen same_terminal apart terminal.CloseBrace mid (the_terminal terminal.CloseBrace mid h.mid h.first h.reads)))

  pub group_graph_pattern_rule : IsGroupRule (read.group_graph_pattern block constraint group) (g.GroupGraphPattern Block Constraint' Group')
  group_graph_pattern_rule = record {
    decides = group_graph_pattern_decides;
    opens = λ ts x us h. the_terminal terminal.OpenBrace ts h.mid h.first h.reads;
    strict = λ ts x us h.
        let a = contents_decide.shorter h.mid h.goes.first h.goes.mid h.goes.reads in
        omega (arith, ap length h.reads.2, ap length h.goes.goes.reads.2, ap length h.goes.goes.goes.1);
  }

-- ---- at each depth

pub group_rule : (block : Reading (List Triples)) (constraint : Reading Expression) (Block : Derives (List Triples)) (Constraint' : Derives Expression)
    → IsBlockRule block Block → IsConstraintRule constraint Constraint' → (depth : ℕ) → IsGroupRule (read.group block constraint depth) (g.Groups_at Block Constraint' depth)
unfolding read.group
group_rule block constraint Block Constraint' b c zero = record {
  decides = record { sound = λ ts x us h. absurd (cc); complete = λ ts x us h _. absurd h; shorter = λ ts x us h. absurd h };
  opens = λ ts x us h. absurd h;
  strict = λ ts x us h. absurd h;
}
group_rule block constraint Block Constraint' b c (suc depth) =
    group_graph_pattern_rule block constraint (read.group block constraint depth) Block Constraint' (g.Groups_at Block Constraint' depth) b c (group_rule block constraint Block Constraint' b c depth)
