-- Lists, brackets and nodes are read just as they are derived.
use Rattle.std.proofs.Common.{◌≡◌, ℕ, zero, suc, ◌<◌, Bool, true, false, List, [], ◌∷◌, ◌++◌, length, Option, Some, None, refl, sym, ◌∙◌, ap, arith, inl, inr, ◌⊎◌}
use Rattle.rdf_grammar.specs.declared.tree.Name.{Name}
use Rattle.rdf_grammar.specs.Steps as steps
use Rattle.rdf_grammar.specs.Readings as reading
use Rattle.rdf_grammar.specs.Terminals.{Slice, next_terminal}
use Rattle.rdf_grammar.specs.Derivations as grammar
use Rattle.rdf_grammar.specs.Derivations.{Then, Star, stop, more}
use Rattle.rdf_grammar.proofs.CallerLemmas.{always, Decides, then_decides, pure_decides, repeat_decides, MayPart, seen_passes, separated_decides, separated_loosely_decides, the_decides, value_decides, the_terminal, value_terminal, terminal_seen, seen_terminal, word_sound, word_complete, word_strict, one_decides, seq, last, also, maybe_decides}
use Rattle.sparql_terminals.specs.declared.terminal.Terminal.{Terminal}
use Rattle.sparql_terminals.specs.declared.terminal.Terminal.TheVariants as terminal
use Rattle.sparql_grammar.specs.declared.tree.Node.{Node}
use Rattle.sparql_grammar.specs.declared.tree.Node.TheVariants as n
use Rattle.sparql_grammar.specs.declared.tree.Property.{Property}
use Rattle.sparql_grammar.specs.declared.tree.VarOrIri.{VarOrIri}
use Rattle.sparql_grammar.specs.declared.tree.VarOrIri.TheVariants as i
use Rattle.sparql_grammar.specs.declared.tree.Verb.{Verb}
use Rattle.sparql_grammar.specs.declared.tree.Verb.TheVariants as v
use Rattle.sparql_terminals.specs.Lexemes as lexemes
use Rattle.sparql_terminals.specs.Lexemes.{Lexemes, Reading, sees, Derives, Test}
use Rattle.sparql_terminals.specs.Terminals.{same_terminal, apart}
use Rattle.sparql_grammar.specs.Reading as read
use Rattle.sparql_terminals.specs.WordReading as word
use Rattle.sparql_grammar.specs.Grammar as g
use Rattle.sparql_terminals.specs.WordGrammar.{Iri, ALiteral}
use Rattle.sparql_terminals.proofs.CallerLemmas.{iri_passes, iri_strict, iri_decides, ends_node, after_node, literal_decides, literal_strict, begins_literal, literal_begins}

-- ---- names and variables

abbrev is_iri : Option Terminal → Bool
is_iri (Some terminal.Iri) = true
is_iri (Some terminal.Pname) = true
is_iri _ = false

pub variable : {A : Type 0} (f : Slice → A) → Decides (steps.◌<$>◌ f (lexemes.value terminal.Variable)) (grammar.◌<$>◌ f g.Var) always
variable f = last f _ _ always (value_decides same_terminal apart terminal.Variable)

pub named : {A : Type 0} (f : Name → A) → Decides (steps.◌<$>◌ f word.iri) (grammar.◌<$>◌ f Iri) always
named f = last f _ _ always iri_decides

var_or_iri_sound : (k : Option Terminal) (ts : Lexemes) (x : VarOrIri) (us : Lexemes) → read.var_or_iri_by k ts ≡ Some (x, us) → g.AVarOrIri ts x us
var_or_iri_sound (Some terminal.Variable) ts x us h = inl ((variable i.Variable).sound ts x us h)
var_or_iri_sound _ ts x us h = inr ((named i.Name).sound ts x us h)

var_or_iri_named : (k : Option Terminal) → is_iri k ≡ true → read.var_or_iri_by k ≡ steps.◌<$>◌ i.Name word.iri
var_or_iri_named (Some terminal.Variable) h = absurd (cc)
var_or_iri_named _ h = refl

var_or_iri_complete : (ts : Lexemes) (x : VarOrIri) (us : Lexemes) → g.AVarOrIri ts x us → read.var_or_iri_by (next_terminal ts) ts ≡ Some (x, us)
var_or_iri_complete ts x us (inl h) = rw (value_terminal terminal.Variable ts h.mid h.first h.reads) ((variable i.Variable).complete ts x us h refl)
var_or_iri_complete ts x us (inr h) = rw (var_or_iri_named (next_terminal ts) (iri_passes is_iri refl refl ts h.first h.mid h.reads)) ((named i.Name).complete ts x us h refl)

pub var_or_iri_strict : (ts : Lexemes) (x : VarOrIri) (us : Lexemes) → g.AVarOrIri ts x us → length us < length ts
var_or_iri_strict ts x us (inl h) = omega (arith, ap length h.reads.3, ap length h.goes.1)
var_or_iri_strict ts x us (inr h) = let e = iri_strict ts h.first h.mid h.reads in omega (arith, ap length h.goes.1)

pub var_or_iri_decides : Decides read.var_or_iri g.AVarOrIri always
unfolding read.var_or_iri
var_or_iri_decides = record {
  sound = λ ts x us h. var_or_iri_sound (next_terminal ts) ts x us h;
  complete = λ ts x us h _. var_or_iri_complete ts x us h;
  shorter = λ ts x us h. let e = var_or_iri_strict ts x us h in omega arith;
}

-- ---- verbs

verb_sound : (k : Option Terminal) (ts : Lexemes) (x : Verb) (us : Lexemes) → next_terminal ts ≡ k → read.verb_by k ts ≡ Some (x, us) → g.AVerb ts x us
verb_sound (Some terminal.A) ts x us q h = inr (inr (word_sound same_terminal apart terminal.A v.Type x ts us q h))
verb_sound (Some terminal.Variable) ts x us q h = inl ((variable v.Variable).sound ts x us h)
verb_sound _ ts x us q h = inr (inl ((named v.Name).sound ts x us h))

verb_named : (k : Option Terminal) → is_iri k ≡ true → read.verb_by k ≡ steps.◌<$>◌ v.Name word.iri
verb_named (Some terminal.A) h = absurd (cc)
verb_named (Some terminal.Variable) h = absurd (cc)
verb_named _ h = refl

verb_complete : (ts : Lexemes) (x : Verb) (us : Lexemes) → g.AVerb ts x us → read.verb_by (next_terminal ts) ts ≡ Some (x, us)
verb_complete ts x us (inl h) = rw (value_terminal terminal.Variable ts h.mid h.first h.reads) ((variable v.Variable).complete ts x us h refl)
verb_complete ts x us (inr (inl h)) = rw (verb_named (next_terminal ts) (iri_passes is_iri refl refl ts h.first h.mid h.reads)) ((named v.Name).complete ts x us h refl)
verb_complete ts x us (inr (inr h)) = let q = the_terminal terminal.A ts h.mid h.first h.reads in rw q (word_complete same_terminal apart terminal.A v.Type x ts us q h)

verb_begins : (ts : Lexemes) (x : Verb) (us : Lexemes) → g.AVerb ts x us → read.sees_verb ts ≡ true
verb_begins ts x us (inl h) = rw (value_terminal terminal.Variable ts h.mid h.first h.reads) refl
verb_begins ts x us (inr (inl h)) = iri_passes read.begins_verb refl refl ts h.first h.mid h.reads
verb_begins ts x us (inr (inr h)) = rw (the_terminal terminal.A ts h.mid h.first h.reads) refl

verb_strict : (ts : Lexemes) (x : Verb) (us : Lexemes) → g.AVerb ts x us → length us < length ts
verb_strict ts x us (inl h) = omega (arith, ap length h.reads.3, ap length h.goes.1)
verb_strict ts x us (inr (inl h)) = let e = iri_strict ts h.first h.mid h.reads in omega (arith, ap length h.goes.1)
verb_strict ts x us (inr (inr h)) = word_strict terminal.A v.Type x ts us h

verb_decides : Decides read.verb g.AVerb always
unfolding read.verb
verb_decides = record {
  sound = λ ts x us h. verb_sound (next_terminal ts) ts x us refl h;
  complete = λ ts x us h _. verb_complete ts x us h;
  shorter = λ ts x us h. let e = verb_strict ts x us h in omega arith;
}

-- ---- what may follow

-- neither a comma nor what would go on with the last object
abbrev pub closes_objects : Option Terminal → Bool
closes_objects (Some terminal.AtWord) = false
closes_objects (Some terminal.Caret) = false
closes_objects (Some terminal.Comma) = false
closes_objects (Some terminal.A) = false
closes_objects (Some terminal.Variable) = false
closes_objects (Some terminal.Iri) = false
closes_objects (Some terminal.Pname) = false
closes_objects _ = true

-- and no semicolon
abbrev pub closes_list : Option Terminal → Bool
closes_list (Some terminal.Semicolon) = false
closes_list k = closes_objects k

abbrev pub ends_objects : Test
ends_objects us = closes_objects (next_terminal us)

abbrev pub ends_list : Test
ends_list us = closes_list (next_terminal us)

objects_node : (k : Option Terminal) → closes_objects k ≡ true → ends_node k ≡ true
objects_node (Some terminal.AtWord) h = absurd (cc)
objects_node (Some terminal.Caret) h = absurd (cc)
objects_node _ h = refl

pub list_objects : (k : Option Terminal) → closes_list k ≡ true → closes_objects k ≡ true
list_objects (Some terminal.Semicolon) h = refl
list_objects (Some terminal.AtWord) h = absurd (cc)
list_objects (Some terminal.Caret) h = absurd (cc)
list_objects (Some terminal.Comma) h = absurd (cc)
list_objects (Some terminal.A) h = absurd (cc)
list_objects (Some terminal.Variable) h = absurd (cc)
list_objects (Some terminal.Iri) h = absurd (cc)
list_objects (Some terminal.Pname) h = absurd (cc)
list_objects _ h = refl

pub list_node : (us : Lexemes) → ends_list us ≡ true → after_node us ≡ true
list_node us h = objects_node (next_terminal us) (list_objects (next_terminal us) h)

objects_no_verb : (k : Option Terminal) → closes_objects k ≡ true → read.begins_verb k ≡ false
objects_no_verb (Some terminal.A) h = absurd (cc)
objects_no_verb (Some terminal.Variable) h = absurd (cc)
objects_no_verb (Some terminal.Iri) h = absurd (cc)
objects_no_verb (Some terminal.Pname) h = absurd (cc)
objects_no_verb _ h = refl

node_ends : (k : Option Terminal) → read.begins_node k ≡ true → ends_node k ≡ true
node_ends (Some terminal.AtWord) h = absurd (cc)
node_ends (Some terminal.Caret) h = absurd (cc)
node_ends _ h = refl

verb_ends : (k : Option Terminal) → read.begins_verb k ≡ true → ends_node k ≡ true
verb_ends (Some terminal.AtWord) h = absurd (cc)
verb_ends (Some terminal.Caret) h = absurd (cc)
verb_ends _ h = refl

literal_node : (k : Option Terminal) → begins_literal k ≡ true → read.begins_node k ≡ true
literal_node (Some terminal.Text) h = refl
literal_node (Some terminal.Integer) h = refl
literal_node (Some terminal.Decimal) h = refl
literal_node (Some terminal.Double) h = refl
literal_node (Some terminal.SignedInteger) h = refl
literal_node (Some terminal.SignedDecimal) h = refl
literal_node (Some terminal.SignedDouble) h = refl
literal_node (Some terminal.True) h = refl
literal_node (Some terminal.False) h = refl
literal_node _ h = absurd (cc)

-- ---- over a rule for nodes

pub record IsNodeRule (node : Reading Node) (Node' : Derives Node) : Type 0 where
  pub decides : Decides node Node' after_node
  pub begins : (ts : Lexemes) (x : Node) (us : Lexemes) → Node' ts x us → read.sees_node ts ≡ true
  pub strict : (ts : Lexemes) (x : Node) (us : Lexemes) → Node' ts x us → length us < length ts

module _ (node : Reading Node) (Node' : Derives Node) (r : IsNodeRule node Node') where
  commas : MayPart terminal.Comma ends_node closes_objects
  commas = record { before = refl; apart = refl; goes = objects_node }

  objects_decide : Decides (read.objects node) (g.ObjectList Node') ends_objects
  unfolding read.objects
  objects_decide = separated_decides same_terminal apart terminal.Comma node Node' ends_node closes_objects commas r.decides

  property_decides : Decides (read.property node) (g.VerbObjects Node') ends_objects
  unfolding read.property
  property_decides =
      seq _ _ _ _ ends_objects verb_decides (λ v. then_decides _ _ _ _ ends_objects ends_objects objects_decide (λ os. pure_decides (read.property_with v os) ends_objects) (λ a mid b us h e. rw h.1 e))

  property_begins : (ts : Lexemes) (x : Property) (us : Lexemes) → g.VerbObjects Node' ts x us → read.sees_verb ts ≡ true
  property_begins ts x us h = verb_begins ts h.first h.mid h.reads

  semicolons : MayPart terminal.Semicolon closes_objects closes_list
  semicolons = record { before = refl; apart = refl; goes = list_objects }

  pub property_list_not_empty_decides : Decides (read.property_list_not_empty node) (g.PropertyListNotEmpty Node') ends_list
  unfolding read.property_list_not_empty
  property_list_not_empty_decides = separated_loosely_decides same_terminal apart terminal.Semicolon (read.property node) (g.VerbObjects Node') closes_objects closes_list semicolons property_decides
      read.sees_verb property_begins (λ us h. objects_no_verb (next_terminal us) h)

  property_list_not_empty_begins : (ts : Lexemes) (x : List Property) (us : Lexemes) → g.PropertyListNotEmpty Node' ts x us → read.sees_verb ts ≡ true
  property_list_not_empty_begins ts x us h = property_begins ts h.first h.mid h.reads

  pub property_list_decides : Decides (read.property_list node) (g.PropertyList Node') ends_list
  unfolding read.property_list
  property_list_decides = last read.all_of _ _ ends_list (maybe_decides read.sees_verb (read.property_list_not_empty node) (g.PropertyListNotEmpty Node') ends_list ends_list property_list_not_empty_decides
      property_list_not_empty_begins (λ us h. objects_no_verb (next_terminal us) (list_objects (next_terminal us) h)) (λ us h. h))

  -- what a property list begins with ends a node
  pub not_empty_behind : (ts : Lexemes) (x : List Property) (us : Lexemes) → g.PropertyListNotEmpty Node' ts x us → after_node ts ≡ true
  not_empty_behind ts x us h = verb_ends (next_terminal ts) (property_list_not_empty_begins ts x us h)

  pub list_behind : (ts : Lexemes) (x : List Property) (us : Lexemes) → g.PropertyList Node' ts x us → ends_list us ≡ true → after_node ts ≡ true
  list_behind ts x us h e = at h.first h.reads
    where
      at : (o : Option (List Property)) → grammar.maybe (g.PropertyListNotEmpty Node') ts o h.mid → after_node ts ≡ true
      at None m = list_node ts (rw (m, h.goes.1) e)
      at (Some ps) m = not_empty_behind ts ps h.mid m

  -- ---- brackets

  -- "[" PropertyList "]"
  abbrev Bracketed : Derives Node
  Bracketed = grammar.◌>>=◌ (grammar.value terminal.OpenBracket) (λ bracket. grammar.◌>>=◌ (g.PropertyList Node') (λ ps. grammar.◌>>=◌ (grammar.the terminal.CloseBracket) (λ _. grammar.pure (n.Blank bracket ps))))

  bracketed_decides : Decides (read.bracketed node) Bracketed always
  unfolding read.bracketed
  bracketed_decides =
      seq _ _ _ _ always (value_decides same_terminal apart terminal.OpenBracket) (λ bracket.
      then_decides _ _ _ _ ends_list always property_list_decides (λ ps. seq _ _ _ _ always (the_decides same_terminal apart terminal.CloseBracket) (λ _. pure_decides (n.Blank bracket ps) always))
      (λ a mid b us h e. let at = the_terminal terminal.CloseBracket mid h.mid h.first h.reads in rw at refl))

  items_start : (ts : Lexemes) (x : List Node) (us : Lexemes) → grammar.one Node' ts x us → (read.sees_node ts ≡ true) × (length us < length ts)
  items_start ts x us h = (r.begins ts h.first h.mid h.reads, let l = r.strict ts h.first h.mid h.reads in omega (arith, ap length h.goes.1))

  close_no_node : (us : Lexemes) → sees terminal.Close us ≡ true → read.sees_node us ≡ false
  close_no_node us s = rw (seen_terminal same_terminal apart terminal.Close us s) refl

  items_decide : Decides (reading.repeat read.sees_node (reading.one node)) (Star (grammar.one Node')) (sees terminal.Close)
  items_decide = repeat_decides read.sees_node _ _ after_node (sees terminal.Close) (one_decides _ _ after_node r.decides)
      items_start close_no_node (seen_passes same_terminal apart ends_node terminal.Close refl) (λ us h. node_ends (next_terminal us) h)

  -- "(" GraphNode* ")"
  abbrev Listed : Derives Node
  Listed = grammar.◌>>=◌ (grammar.value terminal.Open) (λ bracket. grammar.◌>>=◌ (Star (grammar.one Node')) (λ items. grammar.◌>>=◌ (grammar.the terminal.Close) (λ _. grammar.pure (n.Collection bracket items))))

  collection_decides : Decides (read.collection node) Listed always
  unfolding read.collection
  collection_decides =
      seq _ _ _ _ always (value_decides same_terminal apart terminal.Open) (λ bracket.
      then_decides _ _ _ _ (sees terminal.Close) always items_decide (λ items. seq _ _ _ _ always (the_decides same_terminal apart terminal.Close) (λ _. pure_decides (n.Collection bracket items) always))
      (λ a mid b us h e. terminal_seen same_terminal apart terminal.Close mid (the_terminal terminal.Close mid h.mid h.first h.reads)))

  bracketed_strict : (ts : Lexemes) (x : Node) (us : Lexemes) → Bracketed ts x us → length us < length ts
  bracketed_strict ts x us h =
      let a = property_list_decides.shorter h.mid h.goes.first h.goes.mid h.goes.reads in
      let z = h.goes.goes in
      omega (arith, ap length h.reads.3, ap length z.reads.2, ap length z.goes.1)

  collection_strict : (ts : Lexemes) (x : Node) (us : Lexemes) → Listed ts x us → length us < length ts
  collection_strict ts x us h =
      let a = items_decide.shorter h.mid h.goes.first h.goes.mid h.goes.reads in
      let z = h.goes.goes in
      omega (arith, ap length h.reads.3, ap length z.reads.2, ap length z.goes.1)

  -- ---- nodes, as they are read

  abbrev AnyNode : Derives Node
  AnyNode =
      grammar.◌∣◌ (grammar.◌<$>◌ n.Variable g.Var) (grammar.◌∣◌ (grammar.◌<$>◌ n.Name Iri) (grammar.◌∣◌ (grammar.◌<$>◌ n.Label (grammar.value terminal.BlankLabel))
      (grammar.◌∣◌ Bracketed (grammar.◌∣◌ Listed (grammar.◌<$>◌ n.Literal ALiteral)))))

  labelled : Decides (steps.◌<$>◌ n.Label (lexemes.value terminal.BlankLabel)) (grammar.◌<$>◌ n.Label (grammar.value terminal.BlankLabel)) always
  labelled = last n.Label _ _ always (value_decides same_terminal apart terminal.BlankLabel)

  literals : Decides (steps.◌<$>◌ n.Literal word.literal) (grammar.◌<$>◌ n.Literal ALiteral) after_node
  literals = last n.Literal _ _ after_node literal_decides

  node_sound : (k : Option Terminal) (ts : Lexemes) (x : Node) (us : Lexemes) → read.graph_node_by node k ts ≡ Some (x, us) → AnyNode ts x us
  node_sound (Some terminal.Variable) ts x us h = inl ((variable n.Variable).sound ts x us h)
  node_sound (Some terminal.Iri) ts x us h = inr (inl ((named n.Name).sound ts x us h))
  node_sound (Some terminal.Pname) ts x us h = inr (inl ((named n.Name).sound ts x us h))
  node_sound (Some terminal.BlankLabel) ts x us h = inr (inr (inl (labelled.sound ts x us h)))
  node_sound (Some terminal.OpenBracket) ts x us h = inr (inr (inr (inl (bracketed_decides.sound ts x us h))))
  node_sound (Some terminal.Open) ts x us h = inr (inr (inr (inr (inl (collection_decides.sound ts x us h)))))
  node_sound _ ts x us h = inr (inr (inr (inr (inr (literals.sound ts x us h)))))

  node_named : (k : Option Terminal) → is_iri k ≡ true → read.graph_node_by node k ≡ steps.◌<$>◌ n.Name word.iri
  node_named (Some terminal.Iri) h = refl
  node_named (Some terminal.Pname) h = refl
  node_named _ h = absurd (cc)

  node_literal : (k : Option Terminal) → begins_literal k ≡ true → read.graph_node_by node k ≡ steps.◌<$>◌ n.Literal word.literal
  node_literal (Some terminal.Text) h = refl
  node_literal (Some terminal.Integer) h = refl
  node_literal (Some terminal.Decimal) h = refl
  node_literal (Some terminal.Double) h = refl
  node_literal (Some terminal.SignedInteger) h = refl
  node_literal (Some terminal.SignedDecimal) h = refl
  node_literal (Some terminal.SignedDouble) h = refl
  node_literal (Some terminal.True) h = refl
  node_literal (Some terminal.False) h = refl
  node_literal _ h = absurd (cc)

  node_complete : (ts : Lexemes) (x : Node) (us : Lexemes) → AnyNode ts x us → after_node us ≡ true → read.graph_node_by node (next_terminal ts) ts ≡ Some (x, us)
  node_complete ts x us (inl h) e = rw (value_terminal terminal.Variable ts h.mid h.first h.reads) ((variable n.Variable).complete ts x us h refl)
  node_complete ts x us (inr (inl h)) e = rw (node_named (next_terminal ts) (iri_passes is_iri refl refl ts h.first h.mid h.reads)) ((named n.Name).complete ts x us h refl)
  node_complete ts x us (inr (inr (inl h))) e = rw (value_terminal terminal.BlankLabel ts h.mid h.first h.reads) (labelled.complete ts x us h refl)
  node_complete ts x us (inr (inr (inr (inl h)))) e = rw (value_terminal terminal.OpenBracket ts h.mid h.first h.reads) (bracketed_decides.complete ts x us h refl)
  node_complete ts x us (inr (inr (inr (inr (inl h))))) e = rw (value_terminal terminal.Open ts h.mid h.first h.reads) (collection_decides.complete ts x us h refl)
  node_complete ts x us (inr (inr (inr (inr (inr h))))) e = rw (node_literal (next_terminal ts) (literal_begins ts h.first h.mid h.reads)) (literals.complete ts x us h e)

  node_strict : (ts : Lexemes) (x : Node) (us : Lexemes) → AnyNode ts x us → length us < length ts
  node_strict ts x us (inl h) = omega (arith, ap length h.reads.3, ap length h.goes.1)
  node_strict ts x us (inr (inl h)) = let e = iri_strict ts h.first h.mid h.reads in omega (arith, ap length h.goes.1)
  node_strict ts x us (inr (inr (inl h))) = omega (arith, ap length h.reads.3, ap length h.goes.1)
  node_strict ts x us (inr (inr (inr (inl h)))) = bracketed_strict ts x us h
  node_strict ts x us (inr (inr (inr (inr (inl h))))) = collection_strict ts x us h
  node_strict ts x us (inr (inr (inr (inr (inr h))))) = let e = literal_strict ts h.first h.mid h.reads in omega (arith, ap length h.goes.1)

  node_begins : (ts : Lexemes) (x : Node) (us : Lexemes) → AnyNode ts x us → read.sees_node ts ≡ true
  node_begins ts x us (inl h) = rw (value_terminal terminal.Variable ts h.mid h.first h.reads) refl
  node_begins ts x us (inr (inl h)) = iri_passes read.begins_node refl refl ts h.first h.mid h.reads
  node_begins ts x us (inr (inr (inl h))) = rw (value_terminal terminal.BlankLabel ts h.mid h.first h.reads) refl
  node_begins ts x us (inr (inr (inr (inl h)))) = rw (value_terminal terminal.OpenBracket ts h.mid h.first h.reads) refl
  node_begins ts x us (inr (inr (inr (inr (inl h))))) = rw (value_terminal terminal.Open ts h.mid h.first h.reads) refl
  node_begins ts x us (inr (inr (inr (inr (inr h))))) = literal_node (next_terminal ts) (literal_begins ts h.first h.mid h.reads)

  any_decides : Decides (read.graph_node node) AnyNode after_node
  unfolding read.graph_node
  any_decides = record {
    sound = λ ts x us h. node_sound (next_terminal ts) ts x us h;
    complete = node_complete;
    shorter = λ ts x us h. let e = node_strict ts x us h in omega arith;
  }

  -- ---- and as the grammar writes them

  bracketed_is : (ts : Lexemes) (x : Node) (us : Lexemes) → Bracketed ts x us → (g.Anon ts x us) ⊎ (g.BlankNodePropertyList Node' ts x us)
  bracketed_is ts x us h = at h.goes.reads.first h.goes.reads.reads h.goes.reads.goes
    where
      at : (o : Option (List Property)) → grammar.maybe (g.PropertyListNotEmpty Node') h.mid o h.goes.reads.mid → grammar.pure (read.all_of o) h.goes.reads.mid h.goes.first h.goes.mid
          → (g.Anon ts x us) ⊎ (g.BlankNodePropertyList Node' ts x us)
      at None m e =
          let z = h.goes.goes in
          inl (record { first = h.first; mid = h.mid; reads = h.reads; goes = record { first = tt; mid = z.mid; reads = rw (m ∙ e.1) z.reads; goes = (ap (n.Blank h.first) e.0 ∙ z.goes.0, z.goes.1) } })
      at (Some qs) m e =
          let z = h.goes.goes in
          inr (record {
            first = h.first;
            mid = h.mid;
            reads = h.reads;
            goes = record { first = qs; mid = h.goes.reads.mid; reads = m; goes = record { first = tt; mid = z.mid; reads = rw e.1 z.reads; goes = (ap (n.Blank h.first) e.0 ∙ z.goes.0, z.goes.1) } };
          })

  anon_is : (ts : Lexemes) (x : Node) (us : Lexemes) → g.Anon ts x us → Bracketed ts x us
  anon_is ts x us h = record {
    first = h.first;
    mid = h.mid;
    reads = h.reads;
    goes = record { first = []; mid = h.mid; reads = record { first = None; mid = h.mid; reads = refl; goes = (refl, refl) }; goes = h.goes };
  }

  blank_node_property_list_is : (ts : Lexemes) (x : Node) (us : Lexemes) → g.BlankNodePropertyList Node' ts x us → Bracketed ts x us
  blank_node_property_list_is ts x us h = record {
    first = h.first;
    mid = h.mid;
    reads = h.reads;
    goes = record { first = h.goes.first; mid = h.goes.mid; reads = record { first = Some h.goes.first; mid = h.goes.mid; reads = h.goes.reads; goes = (refl, refl) }; goes = h.goes.goes };
  }

  -- the end of a list: its bracket, and the node
  abbrev Closed : Slice → List Node → Derives Node
  Closed bracket items = grammar.◌>>=◌ (grammar.the terminal.Close) (λ _. grammar.pure (n.Collection bracket items))

  abbrev Elements : Slice → Derives Node
  Elements bracket = grammar.◌>>=◌ Node' (λ first. grammar.◌>>=◌ (Star (grammar.one Node')) (λ others. Closed bracket (first ∷ others)))

  listed_is : (ts : Lexemes) (x : Node) (us : Lexemes) → Listed ts x us → (g.Nil ts x us) ⊎ (g.Collection Node' ts x us)
  listed_is ts x us h = to (at h.mid h.goes.first h.goes.mid h.goes.reads h.goes.goes)
    where
      at : (mid : Lexemes) (items : List Node) (behind : Lexemes) → Star (grammar.one Node') mid items behind → Closed h.first items behind x us
          → (Closed h.first [] mid x us) ⊎ (Elements h.first mid x us)
      at mid items behind stop c = inl c
      at mid items behind (more {mid = next} {x = y} {xs = ys} q s) c =
          let e : y ++ ys ≡ q.first ∷ ys = ap (λ zs. zs ++ ys) (sym q.goes.0) in
          inr (record { first = q.first; mid = q.mid; reads = q.reads; goes = record { first = ys; mid = behind; reads = rw q.goes.1 s; goes = rw (← e) c } })

      to : (Closed h.first [] h.mid x us) ⊎ (Elements h.first h.mid x us) → (g.Nil ts x us) ⊎ (g.Collection Node' ts x us)
      to (inl c) = inl (record { first = h.first; mid = h.mid; reads = h.reads; goes = c })
      to (inr c) = inr (record { first = h.first; mid = h.mid; reads = h.reads; goes = c })

  nil_is : (ts : Lexemes) (x : Node) (us : Lexemes) → g.Nil ts x us → Listed ts x us
  nil_is ts x us h = record { first = h.first; mid = h.mid; reads = h.reads; goes = record { first = []; mid = h.mid; reads = stop; goes = h.goes } }

  filled_is : (ts : Lexemes) (x : Node) (us : Lexemes) → g.Collection Node' ts x us → Listed ts x us
  filled_is ts x us h =
      let e = h.goes in
      record {
        first = h.first;
        mid = h.mid;
        reads = h.reads;
        goes = record {
          first = e.first ∷ e.goes.first;
          mid = e.goes.mid;
          reads = more {x = e.first ∷ []} (record { first = e.first; mid = e.mid; reads = e.reads; goes = (refl, refl) }) e.goes.reads;
          goes = e.goes.goes;
        };
      }

  node_there : (ts : Lexemes) (x : Node) (us : Lexemes) → AnyNode ts x us → g.GraphNode Node' ts x us
  node_there ts x us (inl h) = inl (inl h)
  node_there ts x us (inr (inl h)) = inl (inr (inl h))
  node_there ts x us (inr (inr (inl h))) = inl (inr (inr (inr (inl (inl h)))))
  node_there ts x us (inr (inr (inr (inl h)))) = at (bracketed_is ts x us h)
    where
      at : (g.Anon ts x us) ⊎ (g.BlankNodePropertyList Node' ts x us) → g.GraphNode Node' ts x us
      at (inl a) = inl (inr (inr (inr (inl (inr a)))))
      at (inr a) = inr (inr a)
  node_there ts x us (inr (inr (inr (inr (inl h))))) = at (listed_is ts x us h)
    where
      at : (g.Nil ts x us) ⊎ (g.Collection Node' ts x us) → g.GraphNode Node' ts x us
      at (inl a) = inl (inr (inr (inr (inr a))))
      at (inr a) = inr (inl a)
  node_there ts x us (inr (inr (inr (inr (inr h))))) = inl (inr (inr (inl h)))

  node_back : (ts : Lexemes) (x : Node) (us : Lexemes) → g.GraphNode Node' ts x us → AnyNode ts x us
  node_back ts x us (inl (inl h)) = inl h
  node_back ts x us (inl (inr (inl h))) = inr (inl h)
  node_back ts x us (inl (inr (inr (inl h)))) = inr (inr (inr (inr (inr h))))
  node_back ts x us (inl (inr (inr (inr (inl (inl h)))))) = inr (inr (inl h))
  node_back ts x us (inl (inr (inr (inr (inl (inr h)))))) = inr (inr (inr (inl (anon_is ts x us h))))
  node_back ts x us (inl (inr (inr (inr (inr h))))) = inr (inr (inr (inr (inl (nil_is ts x us h)))))
  node_back ts x us (inr (inl h)) = inr (inr (inr (inr (inl (filled_is ts x us h)))))
  node_back ts x us (inr (inr h)) = inr (inr (inr (inl (blank_node_property_list_is ts x us h))))

  pub graph_node_rule : IsNodeRule (read.graph_node node) (g.GraphNode Node')
  graph_node_rule = record {
    decides = also _ AnyNode (g.GraphNode Node') after_node any_decides node_there node_back;
    begins = λ ts x us h. node_begins ts x us (node_back ts x us h);
    strict = λ ts x us h. node_strict ts x us (node_back ts x us h);
  }

pub node_rule : (depth : ℕ) → IsNodeRule (read.node depth) (g.Nodes_at depth)
unfolding read.node
node_rule zero = record {
  decides = record { sound = λ ts x us h. absurd (cc); complete = λ ts x us h _. absurd h; shorter = λ ts x us h. absurd h };
  begins = λ ts x us h. absurd h;
  strict = λ ts x us h. absurd h;
}
node_rule (suc depth) = graph_node_rule (read.node depth) (g.Nodes_at depth) (node_rule depth)
