-- Triples, and the blank node labels that their lexemes carry.
use Rattle.std.proofs.Common.{◌≡◌, refl, sym, ℕ, zero, suc, true, false, List, [], ◌∷◌, ◌++◌, append-nil, Option}
use Rattle.std.specs.Prelude.{option_to_list}
use Rattle.rdf_grammar.specs.Productions as productions
use Rattle.rdf_grammar.specs.Terminals.{Slice}
use Rattle.rdf_grammar.specs.declared.tree.Literal.{Literal}
use Rattle.rdf_grammar.specs.declared.tree.Literal.TheVariants as l
use Rattle.rdf_grammar.specs.declared.tree.Name.{Name}
use Rattle.rdf_grammar.specs.declared.tree.Name.TheVariants.{Full}
use Rattle.rdf_grammar.specs.declared.word.Word.TheVariants as w
use Rattle.sparql_terminals.specs.declared.terminal.Terminal.TheVariants as terminal
use Rattle.sparql_terminals.specs.Lexemes.{Derives}
use Rattle.sparql_terminals.specs.Terminals.{word}
use Rattle.sparql_terminals.specs.WordGrammar as words
use Rattle.sparql_grammar.specs.declared.tree.Node.{Node}
use Rattle.sparql_grammar.specs.declared.tree.Node.TheVariants as n
use Rattle.sparql_grammar.specs.declared.tree.Node.TheOpen.{Node-F, Property-F}
use Rattle.sparql_grammar.specs.declared.tree.Node.TheFolds.{fold-Node, fold-Property}
use Rattle.sparql_grammar.specs.declared.tree.Property.{Property}
use Rattle.sparql_grammar.specs.declared.tree.Triples.{Triples}
use Rattle.sparql_grammar.specs.declared.tree.VarOrIri.TheVariants as i
use Rattle.sparql_grammar.specs.declared.tree.Verb.{Verb}
use Rattle.sparql_grammar.specs.declared.tree.Verb.TheVariants as v
use Rattle.sparql_grammar.specs.Grammar as g
use Rattle.sparql_grammar.specs.Reading as read
use Rattle.sparql_syntax.specs.declared.clause.Clause.{Clause}
use Rattle.sparql_syntax.proofs.LabelFronts.{Slices, Gives, joined, lists, then_gives, pure_gives, or_gives, map_gives, the_gives, behind_gives, closed_gives, sign_gives, label_gives, word_gives, the_word_gives, maybe_gives, later_gives, star_gives, one_gives, each_gives, first_gives}
use Rattle.sparql_syntax.proofs.NameNodes.{by-Variable, by-Name, by-Literal, by-Label, by-Blank, by-Collection, by-property}

-- ---- those of trees

abbrev pub labels_of_property : Property-F Slices Slices → Slices
labels_of_property p = joined p.objects

abbrev pub labels_of_node : Node-F Slices Slices → Slices
labels_of_node (Node-F.Variable name) = []
labels_of_node (Node-F.Name name) = []
labels_of_node (Node-F.Literal l) = []
labels_of_node (Node-F.Label label) = label ∷ []
labels_of_node (Node-F.Blank bracket properties) = joined properties
labels_of_node (Node-F.Collection bracket items) = joined items

abbrev pub node_labels : Node → Slices
node_labels = fold-Node Slices Slices labels_of_node labels_of_property

abbrev pub property_labels : Property → Slices
property_labels = fold-Property Slices Slices labels_of_node labels_of_property

abbrev pub triples_labels : Triples → Slices
triples_labels t = node_labels t.subject ++ lists property_labels t.properties

-- ---- nodes by what they are

variable_is : (name : Slice) → [] ≡ node_labels (n.Variable name)
variable_is name = sym (by-Variable labels_of_node labels_of_property name)

name_is : (name : Name) → [] ≡ node_labels (n.Name name)
name_is name = sym (by-Name labels_of_node labels_of_property name)

literal_is : (x : Literal) → [] ≡ node_labels (n.Literal x)
literal_is x = sym (by-Literal labels_of_node labels_of_property x)

label_is : (label : Slice) → label ∷ [] ≡ node_labels (n.Label label)
label_is label = sym (by-Label labels_of_node labels_of_property label)

blank_is : (bracket : Slice) (ps : List Property) → lists property_labels ps ≡ node_labels (n.Blank bracket ps)
blank_is bracket ps = sym (by-Blank labels_of_node labels_of_property bracket ps)

collection_is : (bracket : Slice) (xs : List Node) → lists node_labels xs ≡ node_labels (n.Collection bracket xs)
collection_is bracket xs = sym (by-Collection labels_of_node labels_of_property bracket xs)

property_is : (verb : Verb) (objects : List Node) → lists node_labels objects ≡ property_labels (read.property_with verb objects)
property_is verb objects = sym (by-property labels_of_node labels_of_property verb objects)

module _ (place : Clause) (label : List ℕ) (c : Clause) where
  -- ---- names, literals and verbs

  pub iri_gives : Gives place label c [] words.Iri (λ _. [])
  iri_gives = or_gives place label c _ _ [] _ (map_gives place label c Full _ [] (λ _. []) _ (word_gives place label c w.Iri []) (λ a. refl)) (map_gives place label c productions.prefixed _ [] (λ _. []) _ (word_gives place label c w.Pname []) (λ a. refl))

  suffix_gives : (form : Slice) → Gives place label c [] (productions.Suffix word form) (λ _. [])
  suffix_gives form = or_gives place label c _ _ [] _ (map_gives place label c (l.Tagged form) _ [] (λ _. []) _ (word_gives place label c w.Tag []) (λ a. refl))
      (or_gives place label c _ _ [] _ (then_gives place label c (productions.the word w.Caret) _ [] (λ _. []) _ (the_word_gives place label c w.Caret []) (λ _. map_gives place label c (l.Typed form) _ [] (λ _. []) _ iri_gives (λ a. refl)))
      (pure_gives place label c (l.Plain form) [] _ refl))

  text_gives : Gives place label c [] (productions.RDFLiteral word) (λ _. [])
  text_gives = then_gives place label c _ _ [] (λ _. []) _ (word_gives place label c w.Text []) suffix_gives

  number_gives : Gives place label c [] (productions.NumericLiteral word) (λ _. [])
  number_gives = or_gives place label c _ _ [] _ (map_gives place label c l.Integer _ [] (λ _. []) _ (word_gives place label c w.Integer []) (λ a. refl))
      (or_gives place label c _ _ [] _ (map_gives place label c l.Decimal _ [] (λ _. []) _ (word_gives place label c w.Decimal []) (λ a. refl)) (map_gives place label c l.Double _ [] (λ _. []) _ (word_gives place label c w.Double []) (λ a. refl)))

  boolean_gives : Gives place label c [] (productions.BooleanLiteral word) (λ _. [])
  boolean_gives = or_gives place label c _ _ [] _ (map_gives place label c (l.Boolean true) _ [] (λ _. []) _ (word_gives place label c w.True []) (λ a. refl))
      (map_gives place label c (l.Boolean false) _ [] (λ _. []) _ (word_gives place label c w.False []) (λ a. refl))

  pub literal_gives : Gives place label c [] words.ALiteral (λ _. [])
  literal_gives = or_gives place label c _ _ [] _ text_gives (or_gives place label c _ _ [] _ number_gives boolean_gives)

  variables_give : Gives place label c [] g.Var (λ _. [])
  variables_give = sign_gives place label c terminal.Variable [] refl

  pub place_gives : Gives place label c [] g.AVarOrIri (λ _. [])
  place_gives = or_gives place label c _ _ [] _ (map_gives place label c i.Variable _ [] (λ _. []) _ variables_give (λ a. refl)) (map_gives place label c i.Name _ [] (λ _. []) _ iri_gives (λ a. refl))

  verb_gives : Gives place label c [] g.AVerb (λ _. [])
  verb_gives = or_gives place label c _ _ [] _ (map_gives place label c v.Variable _ [] (λ _. []) _ variables_give (λ a. refl))
      (or_gives place label c _ _ [] _ (map_gives place label c v.Name _ [] (λ _. []) _ iri_gives (λ a. refl)) (closed_gives place label c terminal.A v.Type [] _ refl refl))

  -- ---- terms

  anon_gives : Gives place label c [] g.Anon node_labels
  anon_gives = then_gives place label c _ _ [] (λ _. []) node_labels (sign_gives place label c terminal.OpenBracket [] refl) (λ bracket. closed_gives place label c terminal.CloseBracket (n.Blank bracket []) [] node_labels refl (blank_is bracket []))

  nil_gives : Gives place label c [] g.Nil node_labels
  nil_gives = then_gives place label c _ _ [] (λ _. []) node_labels (sign_gives place label c terminal.Open [] refl) (λ bracket. closed_gives place label c terminal.Close (n.Collection bracket []) [] node_labels refl (collection_is bracket []))

  blank_gives : Gives place label c [] g.BlankNode node_labels
  blank_gives = or_gives place label c _ _ [] node_labels (map_gives place label c n.Label _ [] (λ (text : Slice). text ∷ []) node_labels (label_gives place label c) label_is) anon_gives

  term_gives : Gives place label c [] g.VarOrTerm node_labels
  term_gives = or_gives place label c _ _ [] node_labels (map_gives place label c n.Variable _ [] (λ _. []) node_labels variables_give variable_is)
      (or_gives place label c _ _ [] node_labels (map_gives place label c n.Name _ [] (λ _. []) node_labels iri_gives name_is)
      (or_gives place label c _ _ [] node_labels (map_gives place label c n.Literal _ [] (λ _. []) node_labels literal_gives literal_is) (or_gives place label c _ _ [] node_labels blank_gives nil_gives)))

  -- ---- lists, over a grammar of nodes

  module _ (P : Derives Node) (p : Gives place label c [] P node_labels) where
    objects_give : Gives place label c [] (g.ObjectList P) (lists node_labels)
    objects_give = first_gives place label c P _ node_labels p (each_gives place label c terminal.Comma P node_labels refl p)

    property_gives : Gives place label c [] (g.VerbObjects P) property_labels
    property_gives = then_gives place label c _ _ [] (λ _. []) property_labels verb_gives
        (λ verb. then_gives place label c _ _ [] (lists node_labels) property_labels objects_give
        (λ objects. pure_gives place label c (read.property_with verb objects) _ property_labels (property_is verb objects)))

    abbrev some_property : Option Property → Slices
    some_property o = lists property_labels (option_to_list o)

    abbrev some_properties : Option (List Property) → Slices
    some_properties o = lists property_labels (read.all_of o)

    not_empty_gives : Gives place label c [] (g.PropertyListNotEmpty P) (lists property_labels)
    not_empty_gives = first_gives place label c _ _ property_labels property_gives
        (star_gives place label c _ property_labels (behind_gives place label c terminal.Semicolon _ [] (lists property_labels) refl
        (map_gives place label c option_to_list _ [] some_property (lists property_labels)
        (maybe_gives place label c _ [] property_labels some_property property_gives refl (λ x. sym (append-nil (property_labels x)))) (λ a. refl))))

    properties_give : Gives place label c [] (g.PropertyList P) (lists property_labels)
    properties_give = map_gives place label c read.all_of _ [] some_properties (lists property_labels)
        (maybe_gives place label c _ [] (lists property_labels) some_properties not_empty_gives refl (λ x. refl)) (λ a. refl)

    blank_properties_give : Gives place label c [] (g.BlankNodePropertyList P) node_labels
    blank_properties_give = then_gives place label c _ _ [] (λ _. []) node_labels (sign_gives place label c terminal.OpenBracket [] refl)
        (λ bracket. then_gives place label c _ _ [] (lists property_labels) node_labels not_empty_gives
        (λ ps. closed_gives place label c terminal.CloseBracket (n.Blank bracket ps) (lists property_labels ps) node_labels refl (blank_is bracket ps)))

    collection_gives : Gives place label c [] (g.Collection P) node_labels
    collection_gives = then_gives place label c _ _ [] (λ _. []) node_labels (sign_gives place label c terminal.Open [] refl)
        (λ bracket. then_gives place label c _ _ [] node_labels node_labels p
        (λ first. then_gives place label c _ _ (node_labels first) (λ xs. node_labels first ++ lists node_labels xs) node_labels
        (later_gives place label c _ (node_labels first) (lists node_labels) (star_gives place label c _ node_labels (one_gives place label c P node_labels p)))
        (λ others. closed_gives place label c terminal.Close (n.Collection bracket (first ∷ others)) _ node_labels refl (collection_is bracket (first ∷ others)))))

    triples_node_gives : Gives place label c [] (g.TriplesNode P) node_labels
    triples_node_gives = or_gives place label c _ _ [] node_labels collection_gives blank_properties_give

    graph_node_gives : Gives place label c [] (g.GraphNode P) node_labels
    graph_node_gives = or_gives place label c _ _ [] node_labels term_gives triples_node_gives

  -- ---- triples

  module _ (inner : Derives Node) (p : Gives place label c [] inner node_labels) where
    abbrev Object : Derives Node
    Object = g.GraphNode inner

    object_gives : Gives place label c [] Object node_labels
    object_gives = graph_node_gives inner p

    about_term_gives : Gives place label c [] (g.AboutTerm inner) triples_labels
    about_term_gives = then_gives place label c _ _ [] node_labels triples_labels term_gives
        (λ subject. then_gives place label c _ _ (node_labels subject) (λ ps. node_labels subject ++ lists property_labels ps) triples_labels
        (later_gives place label c _ (node_labels subject) (lists property_labels) (not_empty_gives Object object_gives))
        (λ ps. pure_gives place label c (read.triples_with subject ps) _ triples_labels refl))

    about_node_gives : Gives place label c [] (g.AboutNode inner) triples_labels
    about_node_gives = then_gives place label c _ _ [] node_labels triples_labels (triples_node_gives inner p)
        (λ subject. then_gives place label c _ _ (node_labels subject) (λ ps. node_labels subject ++ lists property_labels ps) triples_labels
        (later_gives place label c _ (node_labels subject) (lists property_labels) (properties_give Object object_gives))
        (λ ps. pure_gives place label c (read.triples_with subject ps) _ triples_labels refl))

    same_subject_gives : Gives place label c [] (g.TriplesSameSubject inner) triples_labels
    same_subject_gives = or_gives place label c _ _ [] triples_labels about_term_gives about_node_gives

    template_gives : Gives place label c [] (g.TriplesTemplate inner) (lists triples_labels)
    template_gives = then_gives place label c _ _ [] triples_labels (lists triples_labels) same_subject_gives
        (λ first. then_gives place label c _ _ (triples_labels first) (λ xs. triples_labels first ++ lists triples_labels xs) (lists triples_labels)
        (later_gives place label c _ (triples_labels first) (lists triples_labels) (each_gives place label c terminal.Dot _ triples_labels refl same_subject_gives))
        (λ others. then_gives place label c _ _ (lists triples_labels (first ∷ others)) (λ _. lists triples_labels (first ∷ others)) (lists triples_labels)
        (maybe_gives place label c _ (lists triples_labels (first ∷ others)) (λ _. lists triples_labels (first ∷ others)) (λ _. lists triples_labels (first ∷ others))
        (the_gives place label c terminal.Dot (lists triples_labels (first ∷ others)) refl) refl (λ x. refl))
        (λ _. pure_gives place label c (first ∷ others) (lists triples_labels (first ∷ others)) (lists triples_labels) refl)))

  nodes_give : (depth : ℕ) → Gives place label c [] (g.Nodes_at depth) node_labels
  unfolding Gives
  nodes_give zero ts x us d = absurd d
  nodes_give (suc depth) ts x us d = graph_node_gives (g.Nodes_at depth) (nodes_give depth) ts x us d

  pub triples_give : (depth : ℕ) → Gives place label c [] (g.TriplesTemplate (g.Nodes_at depth)) (lists triples_labels)
  triples_give depth = template_gives (g.Nodes_at depth) (nodes_give depth)
