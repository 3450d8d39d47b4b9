-- Lists, brackets and nodes are read just as they are derived.
use Rattle.std.proofs.Common.{◌≡◌, ℕ, zero, suc, ◌<◌, Bool, true, false, List, [], length, Option, Some, None, refl, ◌∙◌, ap, arith, inl, inr, ◌⊎◌}
use Rattle.rdf_turtle.specs.declared.terminal.Terminal.{Terminal}
use Rattle.rdf_turtle.specs.declared.terminal.Terminal.TheVariants as terminal
use Rattle.rdf_turtle.specs.declared.tree.Node.{Node}
use Rattle.rdf_turtle.specs.declared.tree.Node.TheVariants as n
use Rattle.rdf_turtle.specs.declared.tree.Property.{Property}
use Rattle.rdf_grammar.specs.Steps as steps
use Rattle.rdf_turtle.specs.Lexemes as lexemes
use Rattle.rdf_grammar.specs.Readings as reading
use Rattle.rdf_turtle.specs.Lexemes.{Lexemes, Reading, sees, Derives, Test}
use Rattle.rdf_grammar.specs.Terminals.{next_terminal}
use Rattle.rdf_grammar.specs.Derivations as grammar
use Rattle.rdf_grammar.specs.Derivations.{Then, Star, stop, more}
use Rattle.rdf_turtle.specs.Inside.Reading as read
use Rattle.rdf_turtle.specs.Grammar as g
use Rattle.rdf_grammar.proofs.CallerLemmas.{always, Decides, then_decides, pure_decides, repeat_decides, MayPart, seen_passes, separated_decides, separated_loosely_decides, the_decides, value_decides, the_terminal, value_terminal, terminal_seen, seen_terminal, one_decides, seq, last, also, maybe_decides}
use Rattle.rdf_turtle.proofs.GrammarProductions.{iri_terminal, iri_strict, iri_decides, verb_begins, verb_decides, ends_node, after_node, literal_decides, literal_strict, begins_literal, literal_begins}
use Rattle.rdf_turtle.specs.Terminals.{same_terminal, apart}

-- ---- what may follow

abbrev pub closes_objects : Option Terminal → Bool
closes_objects (Some terminal.Semicolon) = true
closes_objects (Some terminal.Dot) = true
closes_objects (Some terminal.CloseBracket) = true
closes_objects _ = false

abbrev pub closes_list : Option Terminal → Bool
closes_list (Some terminal.Dot) = true
closes_list (Some terminal.CloseBracket) = true
closes_list _ = false

abbrev pub ends_objects : Test
ends_objects us = closes_objects (next_terminal us)

abbrev pub ends_list : Test
ends_list us = closes_list (next_terminal us)

objects_node : (k : Option Terminal) → closes_objects k ≡ true → ends_node k ≡ true
objects_node (Some terminal.Semicolon) h = refl
objects_node (Some terminal.Dot) h = refl
objects_node (Some terminal.CloseBracket) h = refl
objects_node _ h = absurd (cc)

list_objects : (k : Option Terminal) → closes_list k ≡ true → closes_objects k ≡ true
list_objects (Some terminal.Dot) h = refl
list_objects (Some terminal.CloseBracket) h = refl
list_objects _ h = absurd (cc)

objects_no_verb : (k : Option Terminal) → closes_objects k ≡ true → read.begins_verb k ≡ false
objects_no_verb (Some terminal.Semicolon) h = refl
objects_no_verb (Some terminal.Dot) h = refl
objects_no_verb (Some terminal.CloseBracket) h = refl
objects_no_verb _ h = absurd (cc)

node_ends : (k : Option Terminal) → read.begins_node k ≡ true → ends_node k ≡ true
node_ends (Some terminal.AtWord) h = absurd (cc)
node_ends (Some terminal.AtPrefix) h = absurd (cc)
node_ends (Some terminal.AtBase) h = absurd (cc)
node_ends (Some terminal.Caret) h = absurd (cc)
node_ends _ h = refl

literal_no_subject : (k : Option Terminal) → begins_literal k ≡ true → read.begins_subject k ≡ false
literal_no_subject (Some terminal.Text) h = refl
literal_no_subject (Some terminal.Integer) h = refl
literal_no_subject (Some terminal.Decimal) h = refl
literal_no_subject (Some terminal.Double) h = refl
literal_no_subject (Some terminal.True) h = refl
literal_no_subject (Some terminal.False) h = refl
literal_no_subject _ h = absurd (cc)

subject_node : (k : Option Terminal) → read.begins_subject k ≡ true → read.begins_node k ≡ true
subject_node (Some terminal.BlankLabel) h = refl
subject_node (Some terminal.OpenBracket) h = refl
subject_node (Some terminal.Open) h = refl
subject_node (Some terminal.Iri) h = refl
subject_node (Some terminal.Pname) h = refl
subject_node _ h = absurd (cc)

literal_node : (k : Option Terminal) → begins_literal k ≡ true → read.begins_node k ≡ true
literal_node (Some terminal.Text) h = refl
literal_node (Some terminal.Integer) h = refl
literal_node (Some terminal.Decimal) h = refl
literal_node (Some terminal.Double) h = refl
literal_node (Some terminal.True) h = refl
literal_node (Some terminal.False) h = refl
literal_node _ h = absurd (cc)

-- ---- over a rule for nodes

pub record IsNodeRule (node : Reading Node) (Node' : Derives Node) : Type 0 where
  pub decides : Decides node Node' after_node
  pub begins : (ts : Lexemes) (x : Node) (us : Lexemes) → Node' ts x us → read.sees_node ts ≡ true
  pub strict : (ts : Lexemes) (x : Node) (us : Lexemes) → Node' ts x us → length us < length ts

module _ (node : Reading Node) (Node' : Derives Node) (r : IsNodeRule node Node') where
  commas : MayPart terminal.Comma ends_node closes_objects
  commas = record { before = refl; apart = refl; goes = objects_node }

  objects_decide : Decides (read.objects node) (g.Objects Node') ends_objects
  unfolding read.objects
  objects_decide = separated_decides same_terminal apart terminal.Comma node Node' ends_node closes_objects commas r.decides

  property_decides : Decides (read.property node) (g.VerbObjects Node') ends_objects
  unfolding read.property
  property_decides =
      seq _ _ _ _ ends_objects verb_decides (λ v. then_decides _ _ _ _ ends_objects ends_objects objects_decide (λ os. pure_decides (g.property_with v os) ends_objects) (λ a mid b us h e. rw h.1 e))

  property_begins : (ts : Lexemes) (x : Property) (us : Lexemes) → g.VerbObjects Node' ts x us → read.sees_verb ts ≡ true
  property_begins ts x us h = verb_begins ts h.first h.mid h.reads

  semicolons : MayPart terminal.Semicolon closes_objects closes_list
  semicolons = record { before = refl; apart = refl; goes = list_objects }

  pub predicate_object_list_decides : Decides (read.predicate_object_list node) (g.PredicateObjectList Node') ends_list
  unfolding read.predicate_object_list
  predicate_object_list_decides = separated_loosely_decides same_terminal apart terminal.Semicolon (read.property node) (g.VerbObjects Node') closes_objects closes_list semicolons property_decides
      read.sees_verb property_begins (λ us h. objects_no_verb (next_terminal us) h)

  predicate_object_list_begins : (ts : Lexemes) (x : List Property) (us : Lexemes) → g.PredicateObjectList Node' ts x us → read.sees_verb ts ≡ true
  predicate_object_list_begins ts x us h = property_begins ts h.first h.mid h.reads

  abbrev pub OptionalPredicateObjectList : Derives (List Property)
  OptionalPredicateObjectList = grammar.◌<$>◌ g.all_of (grammar.maybe (g.PredicateObjectList Node'))

  pub optional_predicate_object_list_decides : Decides (read.optional_predicate_object_list node) OptionalPredicateObjectList ends_list
  unfolding read.optional_predicate_object_list
  optional_predicate_object_list_decides = last g.all_of _ _ ends_list (maybe_decides read.sees_verb (read.predicate_object_list node) (g.PredicateObjectList Node') ends_list ends_list predicate_object_list_decides
      predicate_object_list_begins (λ us h. objects_no_verb (next_terminal us) (list_objects (next_terminal us) h)) (λ us h. h))

  -- "[" predicateObjectList? "]"
  abbrev pub Bracketed : Derives (List Property)
  Bracketed = grammar.◌>>=◌ (grammar.the terminal.OpenBracket) (λ _. grammar.◌>>=◌ OptionalPredicateObjectList (λ ps. grammar.◌>>=◌ (grammar.the terminal.CloseBracket) (λ _. grammar.pure ps)))

  pub bracketed_decides : Decides (read.bracketed node) Bracketed always
  unfolding read.bracketed
  bracketed_decides =
      seq _ _ _ _ always (the_decides same_terminal apart terminal.OpenBracket) (λ _.
      then_decides _ _ _ _ ends_list always optional_predicate_object_list_decides (λ ps. seq _ _ _ _ always (the_decides same_terminal apart terminal.CloseBracket) (λ _. pure_decides ps always))
      (λ a mid b us h e. let at = the_terminal terminal.CloseBracket mid h.mid h.first h.reads in rw at refl))

  items_start : (ts : Lexemes) (x : List Node) (us : Lexemes) → grammar.one Node' ts x us → (read.sees_node ts ≡ true) × (length us < length ts)
  items_start ts x us h = (r.begins ts h.first h.mid h.reads, let l = r.strict ts h.first h.mid h.reads in omega (arith, ap length h.goes.1))

  close_no_node : (us : Lexemes) → sees terminal.Close us ≡ true → read.sees_node us ≡ false
  close_no_node us s = rw (seen_terminal same_terminal apart terminal.Close us s) refl

  items_decide : Decides (reading.repeat read.sees_node (reading.one node)) (Star (grammar.one Node')) (sees terminal.Close)
  items_decide = repeat_decides read.sees_node _ _ after_node (sees terminal.Close) (one_decides _ _ after_node r.decides)
      items_start close_no_node (seen_passes same_terminal apart ends_node terminal.Close refl) (λ us h. node_ends (next_terminal us) h)

  collection_decides : Decides (read.collection node) (g.Collection Node') always
  unfolding read.collection
  collection_decides =
      seq _ _ _ _ always (the_decides same_terminal apart terminal.Open) (λ _.
      then_decides _ _ _ _ (sees terminal.Close) always items_decide (λ items. seq _ _ _ _ always (the_decides same_terminal apart terminal.Close) (λ _. pure_decides items always))
      (λ a mid b us h e. terminal_seen same_terminal apart terminal.Close mid (the_terminal terminal.Close mid h.mid h.first h.reads)))

  -- ---- subjects

  abbrev pub AnySubject : Derives Node
  AnySubject = grammar.◌∣◌ (grammar.◌<$>◌ n.Name g.Iri) (grammar.◌∣◌ (grammar.◌<$>◌ n.Label (grammar.value terminal.BlankLabel)) (grammar.◌∣◌ (grammar.◌<$>◌ n.Blank Bracketed) (grammar.◌<$>◌ n.Collection (g.Collection Node'))))

  named : Decides (steps.◌<$>◌ n.Name read.iri) (grammar.◌<$>◌ n.Name g.Iri) always
  named = last n.Name _ _ always iri_decides

  labelled : Decides (steps.◌<$>◌ n.Label (lexemes.value terminal.BlankLabel)) (grammar.◌<$>◌ n.Label (grammar.value terminal.BlankLabel)) always
  labelled = last n.Label _ _ always (value_decides same_terminal apart terminal.BlankLabel)

  blank : Decides (steps.◌<$>◌ n.Blank (read.bracketed node)) (grammar.◌<$>◌ n.Blank Bracketed) always
  blank = last n.Blank _ _ always bracketed_decides

  listed : Decides (steps.◌<$>◌ n.Collection (read.collection node)) (grammar.◌<$>◌ n.Collection (g.Collection Node')) always
  listed = last n.Collection _ _ always collection_decides

  subject_sound : (k : Option Terminal) (ts : Lexemes) (x : Node) (us : Lexemes) → read.subject_by node k ts ≡ Some (x, us) → AnySubject ts x us
  subject_sound (Some terminal.BlankLabel) ts x us h = inr (inl (labelled.sound ts x us h))
  subject_sound (Some terminal.OpenBracket) ts x us h = inr (inr (inl (blank.sound ts x us h)))
  subject_sound (Some terminal.Open) ts x us h = inr (inr (inr (listed.sound ts x us h)))
  subject_sound _ ts x us h = inl (named.sound ts x us h)

  subject_named : (ts : Lexemes) (x : Node) (us : Lexemes) → grammar.◌<$>◌ n.Name g.Iri ts x us → (next_terminal ts ≡ Some terminal.Iri) ⊎ (next_terminal ts ≡ Some terminal.Pname) → read.subject_by node (next_terminal ts) ts ≡ Some (x, us)
  subject_named ts x us h (inl q) = rw q (named.complete ts x us h refl)
  subject_named ts x us h (inr q) = rw q (named.complete ts x us h refl)

  subject_complete : (ts : Lexemes) (x : Node) (us : Lexemes) → AnySubject ts x us → read.subject_by node (next_terminal ts) ts ≡ Some (x, us)
  subject_complete ts x us (inl h) = subject_named ts x us h (iri_terminal ts h.first h.mid h.reads)
  subject_complete ts x us (inr (inl h)) = rw (value_terminal terminal.BlankLabel ts h.mid h.first h.reads) (labelled.complete ts x us h refl)
  subject_complete ts x us (inr (inr (inl h))) = rw (the_terminal terminal.OpenBracket ts h.reads.mid h.reads.first h.reads.reads) (blank.complete ts x us h refl)
  subject_complete ts x us (inr (inr (inr h))) = rw (the_terminal terminal.Open ts h.reads.mid h.reads.first h.reads.reads) (listed.complete ts x us h refl)

  iri_subject : (ts : Lexemes) → (next_terminal ts ≡ Some terminal.Iri) ⊎ (next_terminal ts ≡ Some terminal.Pname) → read.begins_subject (next_terminal ts) ≡ true
  iri_subject ts (inl q) = rw q refl
  iri_subject ts (inr q) = rw q refl

  subject_begins : (ts : Lexemes) (x : Node) (us : Lexemes) → AnySubject ts x us → read.begins_subject (next_terminal ts) ≡ true
  subject_begins ts x us (inl h) = iri_subject ts (iri_terminal ts h.first h.mid h.reads)
  subject_begins ts x us (inr (inl h)) = rw (value_terminal terminal.BlankLabel ts h.mid h.first h.reads) refl
  subject_begins ts x us (inr (inr (inl h))) = rw (the_terminal terminal.OpenBracket ts h.reads.mid h.reads.first h.reads.reads) refl
  subject_begins ts x us (inr (inr (inr h))) = rw (the_terminal terminal.Open ts h.reads.mid h.reads.first h.reads.reads) refl

  bracketed_strict : (ts : Lexemes) (x : List Property) (us : Lexemes) → Bracketed ts x us → length us < length ts
  bracketed_strict ts x us h =
      let a = optional_predicate_object_list_decides.shorter h.mid h.goes.first h.goes.mid h.goes.reads in
      let z = h.goes.goes in
      omega (arith, ap length h.reads.2, ap length z.reads.2, ap length z.goes.1)

  collection_strict : (ts : Lexemes) (x : List Node) (us : Lexemes) → g.Collection Node' ts x us → length us < length ts
  collection_strict ts x us h =
      let a = items_decide.shorter h.mid h.goes.first h.goes.mid h.goes.reads in
      let z = h.goes.goes in
      omega (arith, ap length h.reads.2, ap length z.reads.2, ap length z.goes.1)

  subject_strict : (ts : Lexemes) (x : Node) (us : Lexemes) → AnySubject ts x us → length us < length ts
  subject_strict ts x us (inl h) = let e = iri_strict ts h.first h.mid h.reads in omega (arith, ap length h.goes.1)
  subject_strict ts x us (inr (inl h)) = omega (arith, ap length h.reads.3, ap length h.goes.1)
  subject_strict ts x us (inr (inr (inl h))) = let e = bracketed_strict ts h.first h.mid h.reads in omega (arith, ap length h.goes.1)
  subject_strict ts x us (inr (inr (inr h))) = let e = collection_strict ts h.first h.mid h.reads in omega (arith, ap length h.goes.1)

  pub subject_decides : Decides (read.subject node) AnySubject always
  unfolding read.subject
  subject_decides = record {
    sound = λ ts x us h. subject_sound (next_terminal ts) ts x us h;
    complete = λ ts x us h _. subject_complete ts x us h;
    shorter = λ ts x us h. let e = subject_strict ts x us h in omega arith;
  }

  -- ---- objects

  abbrev AnyObject : Derives Node
  AnyObject = grammar.◌∣◌ AnySubject (grammar.◌<$>◌ n.Literal g.ALiteral)

  literals : Decides (steps.◌<$>◌ n.Literal read.literal) (grammar.◌<$>◌ n.Literal g.ALiteral) after_node
  literals = last n.Literal _ _ after_node literal_decides

  object_sound : (b : Bool) (ts : Lexemes) (x : Node) (us : Lexemes) → read.object_by node b ts ≡ Some (x, us) → AnyObject ts x us
  object_sound true ts x us h = inl (subject_decides.sound ts x us h)
  object_sound false ts x us h = inr (literals.sound ts x us h)

  object_complete : (ts : Lexemes) (x : Node) (us : Lexemes) → AnyObject ts x us → after_node us ≡ true → read.object_by node (read.begins_subject (next_terminal ts)) ts ≡ Some (x, us)
  object_complete ts x us (inl h) e = rw (subject_begins ts x us h) (subject_decides.complete ts x us h refl)
  object_complete ts x us (inr h) e = rw (literal_no_subject (next_terminal ts) (literal_begins ts h.first h.mid h.reads)) (literals.complete ts x us h e)

  object_strict : (ts : Lexemes) (x : Node) (us : Lexemes) → AnyObject ts x us → length us < length ts
  object_strict ts x us (inl h) = subject_strict ts x us h
  object_strict ts x us (inr h) = let e = literal_strict ts h.first h.mid h.reads in omega (arith, ap length h.goes.1)

  object_begins : (ts : Lexemes) (x : Node) (us : Lexemes) → AnyObject ts x us → read.sees_node ts ≡ true
  object_begins ts x us (inl h) = subject_node (next_terminal ts) (subject_begins ts x us h)
  object_begins ts x us (inr h) = literal_node (next_terminal ts) (literal_begins ts h.first h.mid h.reads)

  any_decides : Decides (read.object node) AnyObject after_node
  unfolding read.object
  any_decides = record {
    sound = λ ts x us h. object_sound (read.begins_subject (next_terminal ts)) ts x us h;
    complete = object_complete;
    shorter = λ ts x us h. let e = object_strict ts x us h in omega arith;
  }

  -- ---- "[" "]" and propList

  pub bracketed_is : (ts : Lexemes) (ps : List Property) (us : Lexemes) → Bracketed ts ps us → (g.Anonymous Node' ts ps us) ⊎ (g.BlankNodePropertyList Node' ts ps us)
  bracketed_is ts ps us h = at h.goes.reads.first h.goes.reads.reads h.goes.reads.goes
    where
      at : (o : Option (List Property)) → grammar.maybe (g.PredicateObjectList Node') h.mid o h.goes.reads.mid → grammar.pure (g.all_of o) h.goes.reads.mid h.goes.first h.goes.mid
          → (g.Anonymous Node' ts ps us) ⊎ (g.BlankNodePropertyList Node' ts ps us)
      at None m e =
          let z = h.goes.goes in
          inl (record { first = tt; mid = h.mid; reads = h.reads; goes = record { first = tt; mid = z.mid; reads = rw (m ∙ e.1) z.reads; goes = (e.0 ∙ z.goes.0, z.goes.1) } })
      at (Some qs) m e =
          let z = h.goes.goes in
          inr (record { first = tt; mid = h.mid; reads = h.reads; goes = record { first = qs; mid = h.goes.reads.mid; reads = m; goes = record { first = tt; mid = z.mid; reads = rw e.1 z.reads; goes = (e.0 ∙ z.goes.0, z.goes.1) } } })

  pub anonymous_is : (ts : Lexemes) (ps : List Property) (us : Lexemes) → g.Anonymous Node' ts ps us → Bracketed ts ps us
  anonymous_is ts ps us h = record {
    first = tt;
    mid = h.mid;
    reads = h.reads;
    goes = record { first = []; mid = h.mid; reads = record { first = None; mid = h.mid; reads = refl; goes = (refl, refl) }; goes = h.goes };
  }

  pub blank_node_property_list_is : (ts : Lexemes) (ps : List Property) (us : Lexemes) → g.BlankNodePropertyList Node' ts ps us → Bracketed ts ps us
  blank_node_property_list_is ts ps us h = record {
    first = tt;
    mid = h.mid;
    reads = h.reads;
    goes = record { first = h.goes.first; mid = h.goes.mid; reads = record { first = Some h.goes.first; mid = h.goes.mid; reads = h.goes.reads; goes = (refl, refl) }; goes = h.goes.goes };
  }

  blank_object : (ts : Lexemes) (x : Node) (us : Lexemes) (ps : List Property) (mid : Lexemes) → (g.Anonymous Node' ts ps mid) ⊎ (g.BlankNodePropertyList Node' ts ps mid) → grammar.pure (n.Blank ps) mid x us → g.Object Node' ts x us
  blank_object ts x us ps mid (inl a) e = inr (inl (inr (record { first = ps; mid = mid; reads = a; goes = e })))
  blank_object ts x us ps mid (inr a) e = inr (inr (inr (inl (record { first = ps; mid = mid; reads = a; goes = e }))))

  object_there : (ts : Lexemes) (x : Node) (us : Lexemes) → AnyObject ts x us → g.Object Node' ts x us
  object_there ts x us (inl (inl h)) = inl h
  object_there ts x us (inl (inr (inl h))) = inr (inl (inl h))
  object_there ts x us (inl (inr (inr (inl h)))) = blank_object ts x us h.first h.mid (bracketed_is ts h.first h.mid h.reads) h.goes
  object_there ts x us (inl (inr (inr (inr h)))) = inr (inr (inl h))
  object_there ts x us (inr h) = inr (inr (inr (inr h)))

  object_back : (ts : Lexemes) (x : Node) (us : Lexemes) → g.Object Node' ts x us → AnyObject ts x us
  object_back ts x us (inl h) = inl (inl h)
  object_back ts x us (inr (inl (inl h))) = inl (inr (inl h))
  object_back ts x us (inr (inl (inr h))) = inl (inr (inr (inl (record { first = h.first; mid = h.mid; reads = anonymous_is ts h.first h.mid h.reads; goes = h.goes }))))
  object_back ts x us (inr (inr (inl h))) = inl (inr (inr (inr h)))
  object_back ts x us (inr (inr (inr (inl h)))) = inl (inr (inr (inl (record { first = h.first; mid = h.mid; reads = blank_node_property_list_is ts h.first h.mid h.reads; goes = h.goes }))))
  object_back ts x us (inr (inr (inr (inr h)))) = inr h

  pub object_rule : IsNodeRule (read.object node) (g.Object Node')
  object_rule = record {
    decides = also _ AnyObject (g.Object Node') after_node any_decides object_there object_back;
    begins = λ ts x us h. object_begins ts x us (object_back ts x us h);
    strict = λ ts x us h. object_strict ts x us (object_back ts x us h);
  }

pub node_rule : (depth : ℕ) → IsNodeRule (read.node depth) (g.Objects_at depth)
unfolding read.node
node_rule zero = record {
  decides = record { sound = λ ts x us h. absurd (cc); complete = λ ts x us h _. absurd h; shorter = λ ts x us h. absurd h };
  begins = λ ts x us h. absurd h;
  strict = λ ts x us h. absurd h;
}
node_rule (suc depth) = object_rule (read.node depth) (g.Objects_at depth) (node_rule depth)
