-- Triples that are derived of formed lexemes are proper.
use Rattle.std.proofs.Common.{◌≡◌, ◌∙◌, ap, refl, sym, ℕ, zero, suc, Bool, true, false, ◌||◌, List, [], ◌∷◌, map, Option, Some, None}
use Rattle.std.proofs.lemmas.Bool.{and_from}
use Rattle.std.specs.Prelude.{is_some, option_to_list}
use Rattle.std.specs.List.{list_all, AllByRecursion}
use Rattle.rdf_grammar.specs.declared.tree.Name.{Name}
use Rattle.rdf_grammar.specs.declared.tree.Literal.{Literal}
use Rattle.rdf_grammar.specs.Prologue.{is_proper}
use Rattle.rdf_grammar.specs.Terminals.{Slice}
use Rattle.sparql_terminals.specs.declared.terminal.Terminal.{Terminal}
use Rattle.sparql_terminals.specs.declared.terminal.Terminal.TheVariants as terminal
use Rattle.sparql_grammar.specs.declared.tree.Node.{Node}
use Rattle.sparql_grammar.specs.declared.tree.Node.TheVariants as n
use Rattle.sparql_grammar.specs.declared.tree.Property.{Property}
use Rattle.sparql_grammar.specs.declared.tree.Triples.{Triples}
use Rattle.sparql_grammar.specs.declared.tree.VarOrIri.TheVariants as i
use Rattle.sparql_grammar.specs.declared.tree.Verb.{Verb}
use Rattle.sparql_grammar.specs.declared.tree.Verb.TheVariants as v
use Rattle.sparql_terminals.specs.Formed.{AllFormed}
use Rattle.sparql_terminals.specs.Lexemes.{Lexemes, Derives}
use Rattle.rdf_grammar.specs.Literals.{proper_literal}
use Rattle.sparql_grammar.specs.Proper.{holds, is_filled, stands_alone, proper_verb, proper_node_of, proper_property_of, proper_node, proper_property, proper_triples, proper_var_or_iri}
use Rattle.sparql_grammar.specs.Reading as read
use Rattle.sparql_grammar.specs.Grammar as g
use Rattle.sparql_terminals.proofs.CallerLemmas.{Yields, Any, IsGoodOption, then_gives, pure_gives, or_gives, also_gives, the_gives, value_gives, map_gives, behind_gives, closed_gives, maybe_gives, star_gives, one_gives, Passes, iri_gives, literal_gives}
use Rattle.sparql_grammar.proofs.GrammarTriples.{node_alone}
use Rattle.sparql_grammar.proofs.Trees.{by-Variable, by-Name, by-Literal, by-Label, by-Blank, by-Collection, by-property, filled_map}

pub perhaps_gives : (k : Terminal) → Yields (g.Perhaps k) Any
perhaps_gives k = map_gives is_some _ (IsGoodOption Any) Any (maybe_gives _ Any (the_gives k)) (λ a h. tt)

pub all_pass : {A : Type 0} (test : A → Bool) (xs : List A) → AllByRecursion (Passes test) xs → list_all holds (map test xs) ≡ true
all_pass test [] all = refl
all_pass test (x ∷ xs) all = and_from (test x) (list_all holds (map test xs)) all.0 (all_pass test xs all.1)

-- ---- names and verbs

pub var_or_iri_gives : Yields g.AVarOrIri (Passes proper_var_or_iri)
var_or_iri_gives = or_gives _ _ (Passes proper_var_or_iri) (map_gives i.Variable _ _ (Passes proper_var_or_iri) (value_gives terminal.Variable) (λ a h. refl))
    (map_gives i.Name _ _ (Passes proper_var_or_iri) iri_gives (λ a h. h))

verb_gives : Yields g.AVerb (Passes proper_verb)
verb_gives = or_gives _ _ (Passes proper_verb) (map_gives v.Variable _ _ (Passes proper_verb) (value_gives terminal.Variable) (λ a h. refl))
    (or_gives _ _ (Passes proper_verb) (map_gives v.Name _ _ (Passes proper_verb) iri_gives (λ a h. h)) (closed_gives terminal.A v.Type (Passes proper_verb) refl))

-- ---- nodes by what they are

good_variable : (name : Slice) → proper_node (n.Variable name) ≡ true
good_variable name = by-Variable proper_node_of proper_property_of name

good_name : (name : Name) → is_proper name ≡ true → proper_node (n.Name name) ≡ true
good_name name h = by-Name proper_node_of proper_property_of name ∙ h

good_literal : (literal : Literal) → proper_literal literal ≡ true → proper_node (n.Literal literal) ≡ true
good_literal literal h = by-Literal proper_node_of proper_property_of literal ∙ h

good_label : (label : Slice) → proper_node (n.Label label) ≡ true
good_label label = by-Label proper_node_of proper_property_of label

good_blank : (bracket : Slice) (ps : List Property) → AllByRecursion (Passes proper_property) ps → proper_node (n.Blank bracket ps) ≡ true
good_blank bracket ps h = by-Blank proper_node_of proper_property_of bracket ps ∙ all_pass proper_property ps h

good_collection : (bracket : Slice) (xs : List Node) → AllByRecursion (Passes proper_node) xs → proper_node (n.Collection bracket xs) ≡ true
good_collection bracket xs h = by-Collection proper_node_of proper_property_of bracket xs ∙ all_pass proper_node xs h

-- a list with a member
abbrev pub Some_pass : {A : Type 0} → (A → Bool) → List A → Type 0
Some_pass test xs = AllByRecursion (Passes test) xs × (is_filled xs ≡ true)

good_property : (verb : Verb) (objects : List Node) → proper_verb verb ≡ true → Some_pass proper_node objects → proper_property (read.property_with verb objects) ≡ true
good_property verb objects h all =
    by-property proper_node_of proper_property_of verb objects
    ∙ and_from (proper_verb verb) _ h (and_from (is_filled (map proper_node objects)) (list_all holds (map proper_node objects)) (filled_map proper_node objects ∙ all.1) (all_pass proper_node objects all.0))

-- ---- terms

anon_gives : Yields g.Anon (Passes proper_node)
anon_gives = then_gives _ _ _ (Passes proper_node) (value_gives terminal.OpenBracket) (λ bracket h. closed_gives terminal.CloseBracket (n.Blank bracket []) (Passes proper_node) (good_blank bracket [] tt))

nil_gives : Yields g.Nil (Passes proper_node)
nil_gives = then_gives _ _ _ (Passes proper_node) (value_gives terminal.Open) (λ bracket h. closed_gives terminal.Close (n.Collection bracket []) (Passes proper_node) (good_collection bracket [] tt))

blank_gives : Yields g.BlankNode (Passes proper_node)
blank_gives = or_gives _ _ (Passes proper_node) (map_gives n.Label _ _ (Passes proper_node) (value_gives terminal.BlankLabel) (λ a h. good_label a)) anon_gives

term_gives : Yields g.VarOrTerm (Passes proper_node)
term_gives = or_gives _ _ (Passes proper_node) (map_gives n.Variable _ _ (Passes proper_node) (value_gives terminal.Variable) (λ a h. good_variable a))
    (or_gives _ _ (Passes proper_node) (map_gives n.Name _ _ (Passes proper_node) iri_gives good_name)
    (or_gives _ _ (Passes proper_node) (map_gives n.Literal _ _ (Passes proper_node) literal_gives good_literal) (or_gives _ _ (Passes proper_node) blank_gives nil_gives)))

-- ---- lists, over a grammar of nodes

module _ (P : Derives Node) (p : Yields P (Passes proper_node)) where
  objects_all : Yields (g.ObjectList P) (AllByRecursion (Passes proper_node))
  objects_all = then_gives _ _ (Passes proper_node) _ p (λ first h. then_gives _ _ (AllByRecursion (Passes proper_node)) _ (star_gives _ (Passes proper_node) (one_gives _ (Passes proper_node) (behind_gives terminal.Comma P (Passes proper_node) p)))
      (λ others hs. pure_gives (first ∷ others) (AllByRecursion (Passes proper_node)) (h, hs)))

  objects_give : Yields (g.ObjectList P) (Some_pass proper_node)
  objects_give = also_gives _ _ (Passes is_filled) objects_all (λ ts x us d. ap is_filled (sym d.goes.goes.0))

  property_gives : Yields (g.VerbObjects P) (Passes proper_property)
  property_gives = then_gives _ _ (Passes proper_verb) _ verb_gives (λ verb h. then_gives _ _ (Some_pass proper_node) _ objects_give
      (λ objects hs. pure_gives (read.property_with verb objects) (Passes proper_property) (good_property verb objects h hs)))

  some_property : (o : Option Property) → IsGoodOption (Passes proper_property) o → AllByRecursion (Passes proper_property) (option_to_list o)
  some_property None h = tt
  some_property (Some x) h = (h, tt)

  not_empty_all : Yields (g.PropertyListNotEmpty P) (AllByRecursion (Passes proper_property))
  not_empty_all = then_gives _ _ (Passes proper_property) _ property_gives (λ first h. then_gives _ _ (AllByRecursion (Passes proper_property)) _
      (star_gives _ (Passes proper_property) (behind_gives terminal.Semicolon _ (AllByRecursion (Passes proper_property))
      (map_gives option_to_list _ (IsGoodOption (Passes proper_property)) (AllByRecursion (Passes proper_property)) (maybe_gives _ (Passes proper_property) property_gives) some_property)))
      (λ others hs. pure_gives (first ∷ others) (AllByRecursion (Passes proper_property)) (h, hs)))

  not_empty_gives : Yields (g.PropertyListNotEmpty P) (Some_pass proper_property)
  not_empty_gives = also_gives _ _ (Passes is_filled) not_empty_all (λ ts x us d. ap is_filled (sym d.goes.goes.0))

  some_properties : (o : Option (List Property)) → IsGoodOption (AllByRecursion (Passes proper_property)) o → AllByRecursion (Passes proper_property) (read.all_of o)
  some_properties None h = tt
  some_properties (Some ps) h = h

  properties_give : Yields (g.PropertyList P) (AllByRecursion (Passes proper_property))
  properties_give = map_gives read.all_of _ (IsGoodOption (AllByRecursion (Passes proper_property))) _ (maybe_gives _ (AllByRecursion (Passes proper_property)) not_empty_all) some_properties

  blank_properties_give : Yields (g.BlankNodePropertyList P) (Passes proper_node)
  blank_properties_give = then_gives _ _ _ (Passes proper_node) (value_gives terminal.OpenBracket) (λ bracket h. then_gives _ _ (AllByRecursion (Passes proper_property)) _ not_empty_all
      (λ ps hs. closed_gives terminal.CloseBracket (n.Blank bracket ps) (Passes proper_node) (good_blank bracket ps hs)))

  collection_gives : Yields (g.Collection P) (Passes proper_node)
  collection_gives = then_gives _ _ _ (Passes proper_node) (value_gives terminal.Open) (λ bracket o. then_gives _ _ (Passes proper_node) _ p
      (λ first h. then_gives _ _ (AllByRecursion (Passes proper_node)) _ (star_gives _ (Passes proper_node) (one_gives P (Passes proper_node) p))
      (λ others hs. closed_gives terminal.Close (n.Collection bracket (first ∷ others)) (Passes proper_node) (good_collection bracket (first ∷ others) (h, hs)))))

  triples_node_gives : Yields (g.TriplesNode P) (Passes proper_node)
  triples_node_gives = or_gives _ _ (Passes proper_node) collection_gives blank_properties_give

  graph_node_gives : Yields (g.GraphNode P) (Passes proper_node)
  graph_node_gives = or_gives _ _ (Passes proper_node) term_gives triples_node_gives

-- ---- triples

good_triples : (subject : Node) (ps : List Property) → proper_node subject ≡ true → AllByRecursion (Passes proper_property) ps → stands_alone subject || is_filled ps ≡ true
    → proper_triples (read.triples_with subject ps) ≡ true
good_triples subject ps h all some =
    and_from (proper_node subject) _ h (and_from (list_all holds (map proper_property ps)) (stands_alone subject || is_filled ps) (all_pass proper_property ps all) some)

or_right : (a b : Bool) → b ≡ true → a || b ≡ true
or_right true b h = refl
or_right false b h = h

or_left : (a b : Bool) → a ≡ true → a || b ≡ true
or_left true b h = refl
or_left false b h = absurd (cc)

module _ (inner : Derives Node) (p : Yields inner (Passes proper_node)) where
  abbrev Object : Derives Node
  Object = g.GraphNode inner

  object_gives : Yields Object (Passes proper_node)
  object_gives = graph_node_gives inner p

  about_term_gives : Yields (g.AboutTerm inner) (Passes proper_triples)
  about_term_gives = then_gives _ _ (Passes proper_node) _ term_gives (λ subject h. then_gives _ _ (Some_pass proper_property) _ (not_empty_gives Object object_gives)
      (λ ps hs. pure_gives (read.triples_with subject ps) (Passes proper_triples) (good_triples subject ps h hs.0 (or_right (stands_alone subject) (is_filled ps) hs.1))))

  about_node_gives : Yields (g.AboutNode inner) (Passes proper_triples)
  about_node_gives = then_gives _ _ (λ x. Passes proper_node x × Passes stands_alone x) _ (also_gives _ _ (Passes stands_alone) (triples_node_gives inner p) (node_alone inner))
      (λ subject h. then_gives _ _ (AllByRecursion (Passes proper_property)) _ (properties_give Object object_gives)
      (λ ps hs. pure_gives (read.triples_with subject ps) (Passes proper_triples) (good_triples subject ps h.0 hs (or_left (stands_alone subject) (is_filled ps) h.1))))

  same_subject_gives : Yields (g.TriplesSameSubject inner) (Passes proper_triples)
  same_subject_gives = or_gives _ _ (Passes proper_triples) about_term_gives about_node_gives

  template_gives : Yields (g.TriplesTemplate inner) (AllByRecursion (Passes proper_triples))
  template_gives = then_gives _ _ (Passes proper_triples) _ same_subject_gives (λ first h. then_gives _ _ (AllByRecursion (Passes proper_triples)) _
      (star_gives _ (Passes proper_triples) (one_gives _ (Passes proper_triples) (behind_gives terminal.Dot _ (Passes proper_triples) same_subject_gives)))
      (λ others hs. then_gives _ _ (IsGoodOption Any) _ (maybe_gives _ Any (the_gives terminal.Dot)) (λ o d. pure_gives (first ∷ others) (AllByRecursion (Passes proper_triples)) (h, hs))))

nodes_give : (depth : ℕ) → Yields (g.Nodes_at depth) (Passes proper_node)
unfolding Yields
nodes_give zero ts x us d w = absurd d
nodes_give (suc depth) ts x us d w = graph_node_gives (g.Nodes_at depth) (nodes_give depth) ts x us d w

pub triples_give : (depth : ℕ) → Yields (g.TriplesTemplate (g.Nodes_at depth)) (AllByRecursion (Passes proper_triples))
triples_give depth = template_gives (g.Nodes_at depth) (nodes_give depth)

-- Triples that the grammar derives of formed lexemes are proper.
pub triples_proper : (depth : ℕ) (ts : Lexemes) (xs : List Triples) (us : Lexemes) → AllFormed ts → g.TriplesTemplate (g.Nodes_at depth) ts xs us
    → (list_all holds (map proper_triples xs) ≡ true) × AllFormed us
unfolding Yields
triples_proper depth ts xs us w d = let r = triples_give depth ts xs us d w in (all_pass proper_triples xs r.0, r.1)
