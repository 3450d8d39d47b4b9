-- What triples say: a blank node label is listed just where it stands among their labels.
use Rattle.std.proofs.Common.{◌≡◌, ◌∙◌, ap, refl, sym, subst, ℕ, Bool, true, false, ◌&&◌, ◌||◌, not, ◌==◌, List, [], ◌∷◌, ◌++◌, map, Option, Some, None, true≢false}
use Rattle.std.proofs.lemmas.List.Folds.{list_any-append}
use Rattle.std.proofs.lemmas.Slice.Eq.{bytes_eq-Decides}
use Rattle.std.specs.List.{list_all, AllByRecursion}
use Rattle.rdf_grammar.specs.Holds.{holds}
use Rattle.rdf_grammar.specs.Keys.{key_of, same_key}
use Rattle.rdf_grammar.specs.Prologue.{Prologue, start as begin}
use Rattle.rdf_grammar.specs.Terminals.{Slice}
use Rattle.rdf_grammar.specs.declared.tree.Literal.{Literal}
use Rattle.rdf_grammar.specs.declared.tree.Literal.TheVariants as l
use Rattle.sparql_grammar.specs.declared.tree.Block.{Block}
use Rattle.sparql_grammar.specs.declared.tree.Node.{Node}
use Rattle.sparql_grammar.specs.declared.tree.Node.TheOpen.{Node-F, Property-F}
use Rattle.sparql_grammar.specs.declared.tree.Node.TheFolds.{fold-roll-Node, fold-roll-Property, map-Node, map-Property, ind-Node, ind-Property}
use Rattle.sparql_grammar.specs.declared.tree.Node.TheViews.{roll-Node, roll-Property}
use Rattle.sparql_grammar.specs.declared.tree.Property.{Property}
use Rattle.sparql_grammar.specs.declared.tree.Triples.{Triples}
use Rattle.sparql_grammar.specs.declared.tree.VarOrIri.{VarOrIri}
use Rattle.sparql_grammar.specs.declared.tree.VarOrIri.TheVariants as i
use Rattle.sparql_grammar.specs.declared.tree.Verb.{Verb}
use Rattle.sparql_grammar.specs.declared.tree.Verb.TheVariants as v
use Rattle.sparql_drafts.specs.Meaning.{quads_in, pattern_in}
use Rattle.sparql_drafts.specs.declared.draft.Quads.{Quads}
use Rattle.sparql_syntax.specs.RuleLaws.{stands_in}
use Rattle.sparql_syntax.specs.Rules.{is_literal}
use Rattle.sparql_syntax.proofs.LabelFronts.{Slices, lists}
use Rattle.sparql_syntax.proofs.LabelNodes.{labels_of_node, labels_of_property, node_labels, property_labels, triples_labels}
use Rattle.sparql_syntax.proofs.NameFronts.{and_true}
use Rattle.sparql_syntax.proofs.SharedLabels.{or_no, or_yes}
use Rattle.sparql_syntax.proofs.TripleQuestions.{Question, is_literal_node, asks_literal, asks_verb, asks_property_of, asks_node_of, asks_node, asks_property, asks_triples, asks_graph, asks_block, asks_blocks}
use Rattle.sparql_syntax.proofs.TriplesSaid as said
use Rattle.sparql_syntax.proofs.TriplesSaid.{Answers, Sound, every, fits_iri, fits_pattern, fits_quads, iri_fits, pattern_by_subject}

abbrev pub block_labels : Block → Slices
block_labels b = lists triples_labels b.triples

module _ (label : List ℕ) where
  -- it is another label
  abbrev other : Slice → Bool
  other text = not (same_key (key_of label) (key_of text))

  abbrev question : Question
  question = record { name = λ _. true; variable = true; label = other; blank = true; literal = true; word = true }

  abbrev sound : Sound question
  sound = record {
    strict = false;
    against = begin None;
    names = λ e name. refl;
    there = λ e name. absurd (true≢false (sym e));
    alike = λ one another e. ap (λ (key : List ℕ). not (same_key (key_of label) key)) ((bytes_eq-Decides (key_of one) (key_of another)).0 e);
    labels = λ l e. refl;
  }

  abbrev lacks : Slices → Bool
  lacks xs = not (stands_in label xs)

  lacks-append : (xs ys : Slices) → lacks xs && lacks ys ≡ lacks (xs ++ ys)
  lacks-append xs ys = by (stands_in label xs) ∙ ap not (sym (list_any-append (λ (l : List ℕ). same_key (key_of label) (key_of l)) xs ys))
    where
      by : (b : Bool) → not b && lacks ys ≡ not (b || stands_in label ys)
      by true = refl
      by false = refl

  all_lack : {A : Type 0} (flag : A → Bool) (value : A → Slices) (xs : List A) → AllByRecursion (λ x. flag x ≡ lacks (value x)) xs → list_all holds (map flag xs) ≡ lacks (lists value xs)
  all_lack flag value [] all = refl
  all_lack flag value (x ∷ xs) all =
      ap (λ (b : Bool). b && list_all holds (map flag xs)) all.0 ∙ ap (λ (b : Bool). lacks (value x) && b) (all_lack flag value xs all.1) ∙ lacks-append (value x) (lists value xs)

  -- ---- nodes

  abbrev NodeLacks : Node → Type 0
  NodeLacks d = asks_node question d ≡ lacks (node_labels d)

  abbrev PropertyLacks : Property → Type 0
  PropertyLacks d = asks_property question d ≡ lacks (property_labels d)

  abbrev GoodNode : Type 0
  GoodNode = (d : Node) × NodeLacks d

  abbrev GoodProperty : Type 0
  GoodProperty = (d : Property) × PropertyLacks d

  abbrev plain_node : Node-F GoodNode GoodProperty → Node-F Node Property
  plain_node = map-Node GoodNode GoodProperty Node Property (λ e. e.0) (λ e. e.0)

  abbrev plain_property : Property-F GoodNode GoodProperty → Property-F Node Property
  plain_property = map-Property GoodNode GoodProperty Node Property (λ e. e.0) (λ e. e.0)

  all_nodes : (ds : List GoodNode) → AllByRecursion NodeLacks (map (λ e. e.0) ds)
  all_nodes [] = tt
  all_nodes (d ∷ ds) = (d.1, all_nodes ds)

  all_properties : (ds : List GoodProperty) → AllByRecursion PropertyLacks (map (λ e. e.0) ds)
  all_properties [] = tt
  all_properties (d ∷ ds) = (d.1, all_properties ds)

  typed_literal : (w : Literal) → asks_literal question w ≡ true
  typed_literal (l.Typed text name) = refl
  typed_literal _ = refl

  good_node : (y : Node-F GoodNode GoodProperty) → asks_node_of question (map-Node Node Property Bool Bool (asks_node question) (asks_property question) (plain_node y))
      ≡ lacks (labels_of_node (map-Node Node Property Slices Slices node_labels property_labels (plain_node y)))
  good_node (Node-F.Variable name) = refl
  good_node (Node-F.Name name) = refl
  good_node (Node-F.Literal w) = typed_literal w
  good_node (Node-F.Label text) = ap not (sym (or_no (same_key (key_of label) (key_of text))))
  good_node (Node-F.Blank bracket ps) = all_lack (asks_property question) property_labels (map (λ e. e.0) ps) (all_properties ps)
  good_node (Node-F.Collection bracket []) = refl
  good_node (Node-F.Collection bracket (d ∷ ds)) = all_lack (asks_node question) node_labels (map (λ e. e.0) (d ∷ ds)) (all_nodes (d ∷ ds))

  typed_verb : (w : Verb) → asks_verb question w ≡ true
  typed_verb (v.Variable name) = refl
  typed_verb _ = refl

  good_property : (y : Property-F GoodNode GoodProperty) → asks_property_of question (map-Property Node Property Bool Bool (asks_node question) (asks_property question) (plain_property y))
      ≡ lacks (labels_of_property (map-Property Node Property Slices Slices node_labels property_labels (plain_property y)))
  good_property y =
      ap (λ (b : Bool). b && list_all holds (map (asks_node question) (map (λ e. e.0) y.objects))) (typed_verb y.verb)
      ∙ all_lack (asks_node question) node_labels (map (λ e. e.0) y.objects) (all_nodes y.objects)

  node_step : (z : Node-F Node Property) (y : Node-F GoodNode GoodProperty) → plain_node y ≡ z → NodeLacks (roll-Node z)
  node_step z y is = subst (λ (e : Node-F Node Property). NodeLacks (roll-Node e)) is
      (fold-roll-Node Bool Bool (asks_node_of question) (asks_property_of question) (plain_node y) ∙ good_node y ∙ ap lacks (sym (fold-roll-Node Slices Slices labels_of_node labels_of_property (plain_node y))))

  property_step : (z : Property-F Node Property) (y : Property-F GoodNode GoodProperty) → plain_property y ≡ z → PropertyLacks (roll-Property z)
  property_step z y is = subst (λ (e : Property-F Node Property). PropertyLacks (roll-Property e)) is
      (fold-roll-Property Bool Bool (asks_node_of question) (asks_property_of question) (plain_property y) ∙ good_property y ∙ ap lacks (sym (fold-roll-Property Slices Slices labels_of_node labels_of_property (plain_property y))))

  node_lacks : (d : Node) → NodeLacks d
  node_lacks = ind-Node NodeLacks PropertyLacks node_step property_step

  property_lacks : (d : Property) → PropertyLacks d
  property_lacks = ind-Property NodeLacks PropertyLacks node_step property_step

  -- ---- triples and blocks

  all_of : {A : Type 0} (P : A → Type 0) → ((x : A) → P x) → (xs : List A) → AllByRecursion P xs
  all_of P h [] = tt
  all_of P h (x ∷ xs) = (h x, all_of P h xs)

  triples_lack : (ts : Triples) → asks_triples question ts ≡ lacks (triples_labels ts)
  triples_lack ts =
      ap (λ (b : Bool). b && (asks_node question ts.subject && list_all holds (map (asks_property question) ts.properties))) (or_yes (not (is_literal_node ts.subject)))
      ∙ ap (λ (b : Bool). b && list_all holds (map (asks_property question) ts.properties)) (node_lacks ts.subject)
      ∙ ap (λ (b : Bool). lacks (node_labels ts.subject) && b) (all_lack (asks_property question) property_labels ts.properties (all_of PropertyLacks property_lacks ts.properties))
      ∙ lacks-append (node_labels ts.subject) (lists property_labels ts.properties)

  list_lacks : (ts : List Triples) → list_all holds (map (asks_triples question) ts) ≡ lacks (lists triples_labels ts)
  list_lacks ts = all_lack (asks_triples question) triples_labels ts (all_of (λ t. asks_triples question t ≡ lacks (triples_labels t)) triples_lack ts)

  graph_asked : (g : Option VarOrIri) → asks_graph question g ≡ true
  graph_asked None = refl
  graph_asked (Some (i.Variable name)) = refl
  graph_asked (Some (i.Name name)) = refl

  block_lacks : (b : Block) → asks_block question b ≡ lacks (block_labels b)
  block_lacks b = ap (λ (c : Bool). c && list_all holds (map (asks_triples question) b.triples)) (graph_asked b.graph) ∙ list_lacks b.triples

  -- the labels of data, and where they have no blank nodes none
  pub record SaysLabels (added : Slices) (d : Quads) : Type 0 where
    pub says : stands_in label d.labels ≡ stands_in label added
    pub few : d.blanks ≡ 0 → d.labels ≡ []

  not_same : (a b : Bool) → not a ≡ not b → a ≡ b
  not_same true true e = refl
  not_same true false e = sym e
  not_same false true e = sym e
  not_same false false e = refl

  listed : (labels : Slices) → list_all other labels ≡ lacks labels
  listed [] = refl
  listed (text ∷ labels) = ap (λ (b : Bool). other text && b) (listed labels) ∙ by (same_key (key_of label) (key_of text))
    where
      by : (b : Bool) → not b && lacks labels ≡ not (b || stands_in label labels)
      by true = refl
      by false = refl

  -- nothing else is asked of quads
  only_labels : (d : Quads) → fits_quads question d ≡ lacks d.labels
  only_labels d =
      ap (λ (b : Bool). b && (list_all other d.labels && (list_all (fits_pattern question) d.patterns && list_all (fits_iri question) d.graphs))) (or_yes (d.blanks == 0))
      ∙ ap (λ (b : Bool). list_all other d.labels && (b && list_all (fits_iri question) d.graphs))
      (every (fits_pattern question) (λ p. pattern_by_subject question refl p ∙ or_yes (not (is_literal p.subject))) d.patterns)
      ∙ ap (λ (b : Bool). list_all other d.labels && b) (every (fits_iri question) (iri_fits question refl) d.graphs) ∙ and_true (list_all other d.labels) ∙ listed d.labels

  said_labels : (v : Bool) (added : Slices) (d : Quads) → Answers question sound v d → v ≡ lacks added → SaysLabels added d
  said_labels v added d a e = record { says = not_same (stands_in label d.labels) (stands_in label added) (sym (only_labels d) ∙ a.is ∙ e); few = a.few }

  pub blocks_say : (bs : List Block) (p : Prologue) (d : Quads) → quads_in bs p ≡ Some d → SaysLabels (lists block_labels bs) d
  blocks_say bs p d e =
      said_labels (asks_blocks question bs) (lists block_labels bs) d (said.blocks_say question sound refl bs p d e)
      (all_lack (asks_block question) block_labels bs (all_of (λ b. asks_block question b ≡ lacks (block_labels b)) block_lacks bs))

  pub pattern_says : (ts : List Triples) (p : Prologue) (d : Quads) → pattern_in ts p ≡ Some d → SaysLabels (lists triples_labels ts) d
  pattern_says ts p d e = said_labels (list_all holds (map (asks_triples question) ts)) (lists triples_labels ts) d (said.pattern_says question sound refl ts p d e) (list_lacks ts)
