-- Where triples stand: each step of a drafting only says more of them, in the graph around it.
use Rattle.std.proofs.Common.{append-nil, append_assoc, ◌≡◌, ◌∙◌, ◌||◌, ap, refl, sym, subst, ℕ, Bool, true, false, if◌then◌else◌, List, [], ◌∷◌, ◌++◌, map, Option, Some, None, Contains}
use Rattle.std.proofs.lemmas.List.Elements.{Contains-append_left, Contains-push}
use Rattle.std.proofs.lemmas.Option.{same_Some}
use Rattle.std.specs.List.{AllByRecursion}
use Rattle.std.specs.Option.{option_map}
use Rattle.rdf_grammar.specs.Prologue.{Prologue, iri_of}
use Rattle.rdf_grammar.specs.Steps.{Outcome, each, and_then, ◌>>=◌, ◌>>◌}
use Rattle.rdf_grammar.specs.declared.tree.Name.{Name}
use Rattle.rdf_terms.specs.declared.term.Term.TheVariants as t
use Rattle.sparql_grammar.specs.Proper.{is_filled, stands_alone}
use Rattle.sparql_grammar.specs.declared.tree.Block.{Block}
use Rattle.sparql_grammar.specs.declared.tree.Node.{Node}
use Rattle.sparql_grammar.specs.declared.tree.Node.TheOpen.{Node-F, Property-F}
use Rattle.sparql_grammar.specs.declared.tree.Node.TheFolds.{fold-roll-Node, fold-roll-Property, map-Node, map-Property, ind-Node, ind-Property}
use Rattle.sparql_grammar.specs.declared.tree.Node.TheViews.{roll-Node, roll-Property}
use Rattle.sparql_grammar.specs.declared.tree.Property.{Property}
use Rattle.sparql_grammar.specs.declared.tree.Triples.{Triples}
use Rattle.sparql_grammar.specs.declared.tree.VarOrIri as written
use Rattle.sparql_grammar.specs.declared.tree.VarOrIri.TheVariants as w
use Rattle.sparql_grammar.specs.declared.tree.Verb.{Verb}
use Rattle.sparql_grammar.specs.declared.tree.Verb.TheVariants as v
use Rattle.sparql_drafts.specs.declared.draft.QuadPattern.{QuadPattern}
use Rattle.sparql_drafts.specs.declared.draft.Quads.{Quads}
use Rattle.sparql_drafts.specs.declared.draft.VarOrIri.{VarOrIri}
use Rattle.sparql_drafts.specs.declared.draft.VarOrIri.TheVariants as i
use Rattle.sparql_drafts.specs.declared.draft.VarOrTerm.{VarOrTerm}
use Rattle.sparql_drafts.specs.declared.draft.VarOrTerm.TheVariants as x
use Rattle.sparql_drafts.specs.Drafting.{Drafting, Does, start, quads, fresh, labelled, in_default, in_graph, says}
use Rattle.sparql_drafts.specs.Meaning.{Meaning, Says, iri, verb, var_or_iri, literal, object, objects, first, rest, nil, behind, list_term, list_inside, node_of, property_of, meaning, property, subject_with, triples, graph, block, quads_in, pattern_in}
use Rattle.sparql_drafts.specs.Stands.{StandIn, Goes, IsSaid, StandsFor, HasObject, IsVerb, HasProperty, HasProperties, PropertiesStand, HasTriples, TriplesStand, BracketsStand, IsList, ListsStand, IsGraph, names_of, opened, BlocksStand, AreOfBlocks, DataStand, PatternsStand}
use Rattle.sparql_drafts.proofs.AbbreviationLemmas.{meaning-Blank, meaning-Collection, property-is, behind-is}
use Rattle.rdf_grammar.proofs.CallerLemmas.{then_parts}
use Rattle.sparql_drafts.proofs.LeafSteps.{iri_same, literal_same, verb_same, var_or_iri_same}

-- ---- from state to state

all_append : {A : Type 0} (P : A → Type 0) (xs ys : List A) → AllByRecursion P xs → AllByRecursion P ys → AllByRecursion P (xs ++ ys)
all_append P [] ys all other = other
all_append P (b ∷ bs) ys all other = (all.0, all_append P bs ys all.1 other)

pub record Same (a b : Drafting) : Type 0 where
  prologue : b.prologue ≡ a.prologue
  graph : b.graph ≡ a.graph
  graphs : b.graphs ≡ a.graphs
  patterns : b.patterns ≡ a.patterns

goes_by : (a b : Drafting) → Same a b → Goes a b
goes_by a b h = record { prologue = h.prologue; graph = h.graph; graphs = h.graphs; more = []; patterns = h.patterns ∙ sym (append-nil a.patterns); stand = tt }

same_goes : (a b : Drafting) → a ≡ b → Goes a b
same_goes a b e = goes_by a b (record {
  prologue = ap (λ (z : Drafting). z.prologue) (sym e);
  graph = ap (λ (z : Drafting). z.graph) (sym e);
  graphs = ap (λ (z : Drafting). z.graphs) (sym e);
  patterns = ap (λ (z : Drafting). z.patterns) (sym e);
})

goes_nowhere : (a : Drafting) → Goes a a
goes_nowhere a = same_goes a a refl

goes_on : (a b c : Drafting) → Goes a b → Goes b c → Goes a c
goes_on a b c g h = record {
  prologue = h.prologue ∙ g.prologue;
  graph = h.graph ∙ g.graph;
  graphs = h.graphs ∙ g.graphs;
  more = g.more ++ h.more;
  patterns = h.patterns ∙ ap (λ (q : List QuadPattern). q ++ h.more) g.patterns ∙ append_assoc a.patterns g.more h.more;
  stand = all_append (λ (q : QuadPattern). q.graph ≡ a.graph) g.more h.more g.stand (subst (λ (z : Option VarOrIri). StandIn z h.more) g.graph h.stand);
}

said_on : (a b : Drafting) (where_it_stands : Option VarOrIri) (subject : VarOrTerm) (predicate : VarOrIri) (o : VarOrTerm) → Goes a b → IsSaid a where_it_stands subject predicate o → IsSaid b where_it_stands subject predicate o
said_on a b where_it_stands subject predicate o g h =
    let q : QuadPattern = record { graph = where_it_stands; subject = subject; predicate = predicate; object = o } in
    subst (λ (z : List QuadPattern). Contains z q) (sym g.patterns) (Contains-append_left a.patterns g.more q h)

-- a step that only says triples
abbrev Steady : {A : Type 0} → Does A → Type 0
Steady {A} f = (a b : Drafting) (r : A) → f a ≡ Some (r, b) → Goes a b

then_steady : {A B : Type 0} (f : Does A) (g : A → Does B) → Steady f → ((r : A) → Steady (g r)) → Steady (λ z. and_then (f z) g)
then_steady f g h k a b r e =
    let p = then_parts (f a) g (r, b) e in
    goes_on a p.1 b (h a p.1 p.0 p.2) (k p.0 p.1 b r p.3)

-- a step that changes nothing
still : {A : Type 0} (f : Does A) → ((a b : Drafting) (r : A) → f a ≡ Some (r, b) → a ≡ b) → Steady f
still f h a b r e = same_goes a b (h a b r e)

pure_steady : {A : Type 0} (r : A) → Steady (λ z. Some (r, z))
pure_steady r a b q e = same_goes a b (ap (λ p. p.1) (same_Some _ _ e))

none_steady : {A : Type 0} → Steady {A = A} (λ z. None)
none_steady a b r e = absurd (cc e)

fresh_steady : Steady fresh
unfolding fresh
fresh_steady a b r e =
    let same = ap (λ p. p.1) (same_Some _ _ e) in
    goes_by a b (record {
      prologue = ap (λ (z : Drafting). z.prologue) (sym same);
      graph = ap (λ (z : Drafting). z.graph) (sym same);
      graphs = ap (λ (z : Drafting). z.graphs) (sym same);
      patterns = ap (λ (z : Drafting). z.patterns) (sym same);
    })

labelled_steady : (label : List ℕ) → Steady (labelled label)
unfolding labelled
labelled_steady label a b r e =
    let same = ap (λ p. p.1) (same_Some _ _ e) in
    goes_by a b (record {
      prologue = ap (λ (z : Drafting). z.prologue) (sym same);
      graph = ap (λ (z : Drafting). z.graph) (sym same);
      graphs = ap (λ (z : Drafting). z.graphs) (sym same);
      patterns = ap (λ (z : Drafting). z.patterns) (sym same);
    })

fresh_is_next : (a b : Drafting) (r : VarOrTerm) → fresh a ≡ Some (r, b) → r ≡ x.Term (t.Blank a.numbering.next)
unfolding fresh
fresh_is_next a b r e = sym (ap (λ p. p.0) (same_Some _ _ e))

says_goes : (subject : VarOrTerm) (predicate : VarOrIri) (o : VarOrTerm) (a b : Drafting) → says subject predicate o a ≡ Some (tt, b) → Goes a b × IsSaid b a.graph subject predicate o
unfolding says
says_goes subject predicate o a b e =
    let q : QuadPattern = record { graph = a.graph; subject = subject; predicate = predicate; object = o } in
    let same = ap (λ p. p.1) (same_Some _ _ e) in (
      record {
        prologue = ap (λ (z : Drafting). z.prologue) (sym same);
        graph = ap (λ (z : Drafting). z.graph) (sym same);
        graphs = ap (λ (z : Drafting). z.graphs) (sym same);
        more = q ∷ [];
        patterns = ap (λ (z : Drafting). z.patterns) (sym same);
        stand = (refl, tt);
      },
      subst (λ (z : Drafting). Contains z.patterns q) same (Contains-push a.patterns q),
    )

says_steady : (subject : VarOrTerm) (predicate : VarOrIri) (o : VarOrTerm) → Steady (says subject predicate o)
says_steady subject predicate o a b r e = (says_goes subject predicate o a b e).0

-- ---- nodes and properties

record SteadyNode (m : Meaning) : Type 0 where
  term : Steady m.term
  inside : (r : VarOrTerm) → Steady (m.inside r)

abbrev SteadySays : Says → Type 0
SteadySays f = (subject : VarOrTerm) → Steady (f subject)

object_steady : (subject : VarOrTerm) (predicate : VarOrIri) (m : Meaning) → SteadyNode m → Steady (object subject predicate m)
unfolding object
object_steady subject predicate m g =
    then_steady m.term _ g.term (λ o. then_steady (says subject predicate o) _ (says_steady subject predicate o) (λ _. g.inside o))

each_object_steady : (subject : VarOrTerm) (predicate : VarOrIri) (ms : List Meaning) → AllByRecursion SteadyNode ms → Steady (each (object subject predicate) ms)
each_object_steady subject predicate [] all = pure_steady tt
each_object_steady subject predicate (m ∷ ms) all =
    then_steady (object subject predicate m) _ (object_steady subject predicate m all.0) (λ _. each_object_steady subject predicate ms all.1)

objects_steady : (subject : VarOrTerm) (predicate : VarOrIri) (ms : List Meaning) → AllByRecursion SteadyNode ms → Steady (objects subject predicate ms)
objects_steady subject predicate [] all = none_steady
objects_steady subject predicate (m ∷ ms) all = each_object_steady subject predicate (m ∷ ms) all

-- the next cell of a list, with its element, and the others behind it
abbrev next_cells : VarOrTerm → Meaning → List Meaning → Does (Unit {0})
next_cells cell m ms = fresh >>= (λ next. says cell rest next >> (object next first m >> behind next ms))

next_cells_steady : (cell : VarOrTerm) (m : Meaning) (ms : List Meaning) → SteadyNode m → ((next : VarOrTerm) → Steady (behind next ms)) → Steady (next_cells cell m ms)
next_cells_steady cell m ms good others =
    then_steady fresh _ fresh_steady (λ next.
    then_steady (says cell rest next) _ (says_steady cell rest next) (λ _.
    then_steady (object next first m) _ (object_steady next first m good) (λ _. others next)))

behind_steady : (cell : VarOrTerm) (ms : List Meaning) → AllByRecursion SteadyNode ms → Steady (behind cell ms)
behind_steady cell [] all a b r e = says_steady cell rest nil a b r e
behind_steady cell (m ∷ ms) all a b r e =
    next_cells_steady cell m ms all.0 (λ next. behind_steady next ms all.1) a b r (sym (behind-is cell m ms a) ∙ e)

list_term_steady : (ms : List Meaning) → Steady (list_term ms)
list_term_steady [] = pure_steady nil
list_term_steady (m ∷ ms) = fresh_steady

list_inside_steady : (ms : List Meaning) → AllByRecursion SteadyNode ms → (cell : VarOrTerm) → Steady (list_inside ms cell)
list_inside_steady [] all cell = pure_steady tt
list_inside_steady (m ∷ ms) all cell =
    then_steady (object cell first m) _ (object_steady cell first m all.0) (λ _. behind_steady cell ms all.1)

properties_of_steady : (subject : VarOrTerm) (ps : List Says) → AllByRecursion SteadySays ps → Steady (each (λ p. p subject) ps)
properties_of_steady subject [] all = pure_steady tt
properties_of_steady subject (p ∷ ps) all = then_steady (p subject) _ (all.0 subject) (λ _. properties_of_steady subject ps all.1)

only_steady : (f : Does VarOrTerm) → Steady f → SteadyNode (record { term = f; inside = λ _ z. Some (tt, z) })
only_steady f h = record { term = h; inside = λ _. pure_steady tt }

-- ---- trees

abbrev OneNode : Type 0
OneNode = (d : Node) × SteadyNode (meaning d)

abbrev OneProperty : Type 0
OneProperty = (d : Property) × SteadySays (property d)

all_nodes : (ds : List OneNode) → AllByRecursion SteadyNode (map meaning (map (λ e. e.0) ds))
all_nodes [] = tt
all_nodes (d ∷ ds) = (d.1, all_nodes ds)

all_properties : (ds : List OneProperty) → AllByRecursion SteadySays (map property (map (λ e. e.0) ds))
all_properties [] = tt
all_properties (d ∷ ds) = (d.1, all_properties ds)

steady_verb : (word : Verb) → Steady (verb word)
steady_verb word = still (verb word) (verb_same word)

steady_node : (y : Node-F OneNode OneProperty) → SteadyNode (node_of (map-Node Node Property Meaning Says meaning property (map-Node OneNode OneProperty Node Property (λ e. e.0) (λ e. e.0) y)))
steady_node (Node-F.Variable name) = only_steady _ (pure_steady (x.Variable name))
steady_node (Node-F.Name name) = only_steady _ (then_steady (iri name) _ (still (iri name) (iri_same name)) (λ a. pure_steady (x.Term (t.Iri a))))
steady_node (Node-F.Literal l) = only_steady _ (then_steady (literal l) _ (still (literal l) (literal_same l)) (λ a. pure_steady (x.Term (t.Literal a))))
steady_node (Node-F.Label label) = only_steady _ (labelled_steady label)
steady_node (Node-F.Blank bracket ps) = record { term = fresh_steady; inside = λ subject. properties_of_steady subject _ (all_properties ps) }
steady_node (Node-F.Collection bracket ms) = record { term = list_term_steady _; inside = list_inside_steady _ (all_nodes ms) }

steady_property : (y : Property-F OneNode OneProperty) → SteadySays (property_of (map-Property Node Property Meaning Says meaning property (map-Property OneNode OneProperty Node Property (λ e. e.0) (λ e. e.0) y)))
steady_property y subject = then_steady (verb y.verb) _ (steady_verb y.verb) (λ predicate. objects_steady subject predicate _ (all_nodes y.objects))

abbrev NodeStep : Type 0
NodeStep = (z : Node-F Node Property) (y : Node-F OneNode OneProperty) → map-Node OneNode OneProperty Node Property (λ e. e.0) (λ e. e.0) y ≡ z → SteadyNode (meaning (roll-Node z))

node_step : NodeStep
node_step z y is = subst (λ a. SteadyNode (meaning (roll-Node a))) is (subst SteadyNode (sym (fold-roll-Node Meaning Says node_of property_of (map-Node OneNode OneProperty Node Property (λ e. e.0) (λ e. e.0) y))) (steady_node y))

abbrev PropertyStep : Type 0
PropertyStep = (z : Property-F Node Property) (y : Property-F OneNode OneProperty) → map-Property OneNode OneProperty Node Property (λ e. e.0) (λ e. e.0) y ≡ z → SteadySays (property (roll-Property z))

property_step : PropertyStep
property_step z y is = subst (λ a. SteadySays (property (roll-Property a))) is (subst SteadySays (sym (fold-roll-Property Meaning Says node_of property_of (map-Property OneNode OneProperty Node Property (λ e. e.0) (λ e. e.0) y))) (steady_property y))

nodes_steady : (d : Node) → SteadyNode (meaning d)
nodes_steady = ind-Node (λ d. SteadyNode (meaning d)) (λ d. SteadySays (property d)) node_step property_step

says_of_steady : (d : Property) → SteadySays (property d)
says_of_steady = ind-Property (λ d. SteadyNode (meaning d)) (λ d. SteadySays (property d)) node_step property_step

all_meanings : (ds : List Node) → AllByRecursion SteadyNode (map meaning ds)
all_meanings [] = tt
all_meanings (d ∷ ds) = (nodes_steady d, all_meanings ds)

all_says : (ds : List Property) → AllByRecursion SteadySays (map property ds)
all_says [] = tt
all_says (d ∷ ds) = (says_of_steady d, all_says ds)

-- ---- within a wider part of the drafting

all_of : {A : Type 0} (P Q : A → Type 0) → ((a : A) → P a → Q a) → (bs : List A) → AllByRecursion P bs → AllByRecursion Q bs
all_of P Q f [] all = tt
all_of P Q f (b ∷ bs) all = (f b all.0, all_of P Q f bs all.1)

module _ (a b c d : Drafting) (front : Goes a b) (back : Goes c d) where
  said_in : (subject : VarOrTerm) (predicate : VarOrIri) (o : VarOrTerm) → IsSaid c b.graph subject predicate o → IsSaid d a.graph subject predicate o
  said_in subject predicate o h = subst (λ (z : Option VarOrIri). IsSaid d z subject predicate o) front.graph (said_on c d b.graph subject predicate o back h)

  stands_on : (node : Node) (term : VarOrTerm) → StandsFor b c node term → StandsFor a d node term
  stands_on node term at =
      (at.0, at.1, at.2, at.3, goes_on a b at.0 front at.4, at.5, at.6, at.7, goes_on at.3 c d at.8 back)

  object_on : (subject : VarOrTerm) (predicate : VarOrIri) (node : Node) → HasObject b c subject predicate node → HasObject a d subject predicate node
  object_on subject predicate node h = (h.0, stands_on node h.0 h.1, said_in subject predicate h.0 h.2)

  verb_on : (word : Verb) (predicate : VarOrIri) → IsVerb b word predicate → IsVerb a word predicate
  verb_on (v.Variable name) predicate h = h
  verb_on (v.Name name) predicate h = (h.0, ap (iri_of name) (sym front.prologue) ∙ h.1, h.2)
  verb_on v.Type predicate h = h

  property_on : (subject : VarOrTerm) (p : Property) → HasProperty b c subject p → HasProperty a d subject p
  property_on subject p h =
      (h.0, verb_on p.verb h.0 h.1, all_of (HasObject b c subject h.0) (HasObject a d subject h.0) (object_on subject h.0) p.objects h.2)

  properties_on : (subject : VarOrTerm) (ps : List Property) → HasProperties b c subject ps → HasProperties a d subject ps
  properties_on subject ps h = all_of (HasProperty b c subject) (HasProperty a d subject) (property_on subject) ps h

  triples_on : (ts : Triples) → HasTriples b c ts → HasTriples a d ts
  triples_on ts h = (h.0, stands_on ts.subject h.0 h.1, properties_on h.0 ts.properties h.2)

  list_on : (ys : List Node) (cell : VarOrTerm) → IsList b c cell ys → IsList a d cell ys
  list_on [] cell h = h
  list_on (y ∷ ys) cell h =
      (h.0, object_on cell first y h.1, (h.2.0, said_in cell rest h.2.0 h.2.1, list_on ys h.2.0 h.2.2))

-- ---- verbs and objects

object_stands : (subject : VarOrTerm) (predicate : VarOrIri) (node : Node) (a b : Drafting) → object subject predicate (meaning node) a ≡ Some (tt, b)
    → HasObject a b subject predicate node
unfolding object
object_stands subject predicate node a b e =
    let p = then_parts ((meaning node).term a) _ (tt, b) e in
    let q = then_parts (says subject predicate p.0 p.1) _ (tt, b) p.3 in
    let at = says_goes subject predicate p.0 p.1 q.1 q.2 in
    let first_goes = (nodes_steady node).term a p.1 p.0 p.2 in (
      p.0,
      (a, p.1, q.1, b, goes_nowhere a, p.2, at.0, q.3, goes_nowhere b),
      said_in a p.1 q.1 b first_goes ((nodes_steady node).inside p.0 q.1 b tt q.3) subject predicate p.0 at.1,
    )

each_object_stands : (subject : VarOrTerm) (predicate : VarOrIri) (ds : List Node) (a b : Drafting)
    → each (object subject predicate) (map meaning ds) a ≡ Some (tt, b) → AllByRecursion (HasObject a b subject predicate) ds
each_object_stands subject predicate [] a b e = tt
each_object_stands subject predicate (d ∷ ds) a b e =
    let p = then_parts (object subject predicate (meaning d) a) _ (tt, b) e in
    let begun = object_steady subject predicate (meaning d) (nodes_steady d) a p.1 tt p.2 in
    let last = each_object_steady subject predicate (map meaning ds) (all_meanings ds) p.1 b tt p.3 in (
      object_on a a p.1 b (goes_nowhere a) last subject predicate d (object_stands subject predicate d a p.1 p.2),
      all_of (HasObject p.1 b subject predicate) (HasObject a b subject predicate) (object_on a p.1 b b begun (goes_nowhere b) subject predicate) ds
          (each_object_stands subject predicate ds p.1 b p.3),
    )

objects_stand : (subject : VarOrTerm) (predicate : VarOrIri) (ds : List Node) (a b : Drafting)
    → objects subject predicate (map meaning ds) a ≡ Some (tt, b) → AllByRecursion (HasObject a b subject predicate) ds
objects_stand subject predicate [] a b e = tt
objects_stand subject predicate (d ∷ ds) a b e = each_object_stands subject predicate (d ∷ ds) a b e

iri_is : (o : Option (List ℕ)) (a b : Drafting) (r : List ℕ) → option_map {U = List ℕ × Drafting} (λ z. (z, a)) o ≡ Some (r, b) → o ≡ Some r
iri_is None a b r e = absurd (cc e)
iri_is (Some z) a b r e = ap (λ (y : List ℕ). Some y) (ap (λ p. p.0) (same_Some _ _ e))

-- a name's IRI, as a verb or as a graph's name
name_is : (name : Name) (a b : Drafting) (r : VarOrIri) → and_then (iri name a) (λ z u. Some (i.Iri z, u)) ≡ Some (r, b)
    → (found : List ℕ) × (iri_of name a.prologue ≡ Some found) × (r ≡ i.Iri found)
unfolding iri
name_is name a b r e =
    let p = then_parts (iri name a) _ (r, b) e in
    (p.0, iri_is (iri_of name a.prologue) a p.1 p.0 p.2, sym (ap (λ q. q.0) (same_Some _ _ p.3)))

verb_is : (word : Verb) (a b : Drafting) (r : VarOrIri) → verb word a ≡ Some (r, b) → IsVerb a word r
unfolding verb
verb_is (v.Variable name) a b r e = sym (ap (λ p. p.0) (same_Some _ _ e))
verb_is (v.Name name) a b r e = name_is name a b r e
verb_is v.Type a b r e = sym (ap (λ p. p.0) (same_Some _ _ e))

property_stands : (subject : VarOrTerm) (d : Property) (a b : Drafting) → property d subject a ≡ Some (tt, b) → HasProperty a b subject d
property_stands subject d a b e =
    let whole : and_then (verb d.verb a) (λ predicate. objects subject predicate (map meaning d.objects)) ≡ Some (tt, b) =
    subst (λ (f : Says). f subject a ≡ Some (tt, b)) (property-is d.verb d.objects) e in
    let p = then_parts (verb d.verb a) (λ predicate. objects subject predicate (map meaning d.objects)) (tt, b) whole in
    let same : a ≡ p.1 = verb_same d.verb a p.1 p.0 p.2 in
    (p.0, verb_is d.verb a p.1 p.0 p.2, objects_stand subject p.0 d.objects a b (subst (λ (z : Drafting). objects subject p.0 (map meaning d.objects) z ≡ Some (tt, b)) (sym same) p.3))

pub properties_stand : PropertiesStand
properties_stand subject [] a b e = tt
properties_stand subject (d ∷ ds) a b e =
    let p = then_parts (property d subject a) _ (tt, b) e in
    let begun = says_of_steady d subject a p.1 tt p.2 in
    let last = properties_of_steady subject (map property ds) (all_says ds) p.1 b tt p.3 in (
      property_on a a p.1 b (goes_nowhere a) last subject d (property_stands subject d a p.1 p.2),
      properties_on a p.1 b b begun (goes_nowhere b) subject ds (properties_stand subject ds p.1 b p.3),
    )

subject_stands : (node : Node) (ds : List Property) (a b : Drafting) → subject_with node ds a ≡ Some (tt, b)
    → Goes a b × ((subject : VarOrTerm) × StandsFor a b node subject × HasProperties a b subject ds)
subject_stands node ds a b e =
    let p = then_parts ((meaning node).term a) _ (tt, b) e in
    let q = then_parts ((meaning node).inside p.0 p.1) _ (tt, b) p.3 in
    let begun = goes_on a p.1 q.1 ((nodes_steady node).term a p.1 p.0 p.2) ((nodes_steady node).inside p.0 p.1 q.1 tt q.2) in
    let last = properties_of_steady p.0 (map property ds) (all_says ds) q.1 b tt q.3 in (
      goes_on a q.1 b begun last,
      (
        p.0,
        (a, p.1, p.1, q.1, goes_nowhere a, p.2, goes_nowhere p.1, q.2, last),
        properties_on a q.1 b b begun (goes_nowhere b) p.0 ds (properties_stand p.0 ds q.1 b q.3),
      ),
    )

triples_go : (ts : Triples) (a b : Drafting) → triples ts a ≡ Some (tt, b) → Goes a b × HasTriples a b ts
unfolding triples
triples_go ts a b e = by (stands_alone ts.subject || is_filled ts.properties) e
  where
    by : (full : Bool) → if◌then◌else◌ {A = Does (Unit {0})} full (subject_with ts.subject ts.properties) (λ z. None) a ≡ Some (tt, b) → Goes a b × HasTriples a b ts
    by true e = subject_stands ts.subject ts.properties a b e
    by false e = absurd (cc e)

pub triples_stand : TriplesStand
triples_stand ts a b e = (triples_go ts a b e).1

-- ---- brackets and lists

pub brackets_stand : BracketsStand
brackets_stand bracket ps node a named c b e inner = (
  fresh_is_next a named node (subst (λ (m : Meaning). m.term a ≡ Some (node, named)) (meaning-Blank bracket ps) e),
  properties_stand node ps c b (subst (λ (m : Meaning). m.inside node c ≡ Some (tt, b)) (meaning-Blank bracket ps) inner),
)

-- the rest of a list behind a cell
abbrev HasRest : Drafting → Drafting → VarOrTerm → List Node → Type 0
HasRest a b cell ds = (next : VarOrTerm) × IsSaid b a.graph cell rest next × IsList a b next ds

behind_stands : (cell : VarOrTerm) (ds : List Node) (a b : Drafting) → behind cell (map meaning ds) a ≡ Some (tt, b) → HasRest a b cell ds
behind_stands cell [] a b e = (nil, (says_goes cell rest nil a b e).1, refl)
behind_stands cell (d ∷ ds) a b e =
    let whole : next_cells cell (meaning d) (map meaning ds) a ≡ Some (tt, b) = sym (behind-is cell (meaning d) (map meaning ds) a) ∙ e in
    let p = then_parts (fresh a) _ (tt, b) whole in
    let q = then_parts (says cell rest p.0 p.1) _ (tt, b) p.3 in
    let r = then_parts (object p.0 first (meaning d) q.1) _ (tt, b) q.3 in
    let linked = says_goes cell rest p.0 p.1 q.1 q.2 in
    let new = fresh_steady a p.1 p.0 p.2 in
    let begun = goes_on a p.1 q.1 new linked.0 in
    let one = object_steady p.0 first (meaning d) (nodes_steady d) q.1 r.1 tt r.2 in
    let last = behind_steady p.0 (map meaning ds) (all_meanings ds) r.1 b tt r.3 in
    let more = behind_stands p.0 ds r.1 b r.3 in (
      p.0,
      said_in a p.1 q.1 b new (goes_on q.1 r.1 b one last) cell rest p.0 linked.1,
      (
        (a.numbering.next, fresh_is_next a p.1 p.0 p.2),
        object_on a q.1 r.1 b begun last p.0 first d (object_stands p.0 first d q.1 r.1 r.2),
        (
          more.0,
          said_in a r.1 b b (goes_on a q.1 r.1 begun one) (goes_nowhere b) p.0 rest more.0 more.1,
          list_on a r.1 b b (goes_on a q.1 r.1 begun one) (goes_nowhere b) ds more.0 more.2,
        ),
      ),
    )

list_stands : (ds : List Node) (cell : VarOrTerm) (a named c b : Drafting) → list_term (map meaning ds) a ≡ Some (cell, named)
    → list_inside (map meaning ds) cell c ≡ Some (tt, b) → IsList c b cell ds
list_stands [] cell a named c b e inner = sym (ap (λ p. p.0) (same_Some _ _ e))
list_stands (d ∷ ds) cell a named c b e inner =
    let p = then_parts (object cell first (meaning d) c) _ (tt, b) inner in
    let one = object_steady cell first (meaning d) (nodes_steady d) c p.1 tt p.2 in
    let last = behind_steady cell (map meaning ds) (all_meanings ds) p.1 b tt p.3 in
    let more = behind_stands cell ds p.1 b p.3 in (
      (a.numbering.next, fresh_is_next a named cell e),
      object_on c c p.1 b (goes_nowhere c) last cell first d (object_stands cell first d c p.1 p.2),
      (more.0, said_in c p.1 b b one (goes_nowhere b) cell rest more.0 more.1, list_on c p.1 b b one (goes_nowhere b) ds more.0 more.2),
    )

pub lists_stand : ListsStand
lists_stand bracket ds cell a named c b e inner =
    list_stands ds cell a named c b
    (subst (λ (m : Meaning). m.term a ≡ Some (cell, named)) (meaning-Collection bracket ds) e)
    (subst (λ (m : Meaning). m.inside cell c ≡ Some (tt, b)) (meaning-Collection bracket ds) inner)

-- ---- graphs

each_triples_stand : (ts : List Triples) (a b : Drafting) → each (λ f. f) (map triples ts) a ≡ Some (tt, b) → Goes a b × AllByRecursion (HasTriples a b) ts
each_triples_stand [] a b e = (pure_steady tt a b tt e, tt)
each_triples_stand (s ∷ ts) a b e =
    let p = then_parts (triples s a) _ (tt, b) e in
    let begun = triples_go s a p.1 p.2 in
    let last = each_triples_stand ts p.1 b p.3 in (
      goes_on a p.1 b begun.0 last.0,
      (
        triples_on a a p.1 b (goes_nowhere a) last.0 s begun.1,
        all_of (HasTriples p.1 b) (HasTriples a b) (triples_on a p.1 b b begun.0 (goes_nowhere b)) ts last.1,
      ),
    )

-- what stands behind `GRAPH name {` is the drafting with that graph around it
abbrev Opens : Option written.VarOrIri → Drafting → Drafting → Type 0
Opens name a b = (g : Option VarOrIri) × IsGraph a.prologue name g × (opened g a ≡ b)

without_more : (a : Drafting) → opened None a ≡ record a { graph = None }
without_more a = ap (λ (z : List VarOrIri). record a { graph = None; graphs = z }) (append-nil a.graphs)

graph_name_is : (name : written.VarOrIri) (a b : Drafting) (r : VarOrIri) → var_or_iri name a ≡ Some (r, b) → IsGraph a.prologue (Some name) (Some r)
unfolding var_or_iri
graph_name_is (w.Variable name) a b r e = ap (λ (z : VarOrIri). Some z) (sym (ap (λ p. p.0) (same_Some _ _ e)))
graph_name_is (w.Name name) a b r e = (let found = name_is name a b r e in (found.0, found.1, ap (λ (z : VarOrIri). Some z) found.2))

graph_opens : (name : Option written.VarOrIri) (a b : Drafting) → graph name a ≡ Some (tt, b) → Opens name a b
unfolding in_default in_graph
graph_opens None a b e = (None, refl, without_more a ∙ ap (λ p. p.1) (same_Some _ _ e))
graph_opens (Some name) a b e =
    let p = then_parts (var_or_iri name a) _ (tt, b) e in
    let same : a ≡ p.1 = var_or_iri_same name a p.1 p.0 p.2 in
    (Some p.0, graph_name_is name a p.1 p.0 p.2, ap (opened (Some p.0)) same ∙ ap (λ q. q.1) (same_Some _ _ p.3))

pub blocks_stand : BlocksStand
blocks_stand b old new e =
    let p = then_parts (graph b.graph old) _ (tt, new) e in
    let at = graph_opens b.graph old p.1 p.2 in
    let inner = each_triples_stand b.triples p.1 new p.3 in (
      at.0,
      at.1,
      subst (λ (z : Drafting). Goes z new) (sym at.2) inner.0,
      subst (λ (z : Drafting). AllByRecursion (HasTriples z new) b.triples) (sym at.2) inner.1,
    )

-- what blocks say more
abbrev SayMore : List Block → Drafting → Drafting → Type 0
SayMore bs a b =
    (more : List QuadPattern) × (names : List VarOrIri) × (b.patterns ≡ a.patterns ++ more) × (b.graphs ≡ a.graphs ++ names) × AreOfBlocks a.prologue bs more names

each_block_stands : (bs : List Block) (old new : Drafting) → each (λ f. f) (map block bs) old ≡ Some (tt, new) → SayMore bs old new
each_block_stands [] old new e =
    let same : old ≡ new = ap (λ p. p.1) (same_Some _ _ e) in (
      [],
      [],
      ap (λ (z : Drafting). z.patterns) (sym same) ∙ sym (append-nil old.patterns),
      ap (λ (z : Drafting). z.graphs) (sym same) ∙ sym (append-nil old.graphs),
      (refl, refl),
    )
each_block_stands (b ∷ bs) old new e =
    let p = then_parts (block b old) _ (tt, new) e in
    let at = blocks_stand b old p.1 p.2 in
    let others = each_block_stands bs p.1 new p.3 in (
      at.2.more ++ others.0,
      names_of at.0 ++ others.1,
      others.2 ∙ ap (λ (z : List QuadPattern). z ++ others.0) at.2.patterns ∙ append_assoc old.patterns at.2.more others.0,
      others.3 ∙ ap (λ (z : List VarOrIri). z ++ others.1) at.2.graphs ∙ append_assoc old.graphs (names_of at.0) others.1,
      (
        at.0,
        at.2.more,
        others.0,
        others.1,
        at.1,
        refl,
        at.2.stand,
        refl,
        subst (λ (z : Prologue). AreOfBlocks z bs others.0 others.1) at.2.prologue others.4,
      ),
    )

pub data_stand : DataStand
unfolding quads_in
data_stand bs p q e = by (each (λ f. f) (map block bs) (start p)) refl e
  where
    by : (r : Outcome Drafting (Unit {0})) → each (λ f. f) (map block bs) (start p) ≡ r → option_map (λ z. quads z.1) r ≡ Some q → AreOfBlocks p bs q.patterns q.graphs
    by None d e = absurd (cc e)
    by (Some z) d e =
        let said = each_block_stands bs (start p) z.1 d in
        subst (λ (y : Quads). AreOfBlocks p bs y.patterns y.graphs) (same_Some _ _ e)
        (subst (λ (y : List QuadPattern). AreOfBlocks p bs y z.1.graphs) (sym said.2) (subst (λ (y : List VarOrIri). AreOfBlocks p bs said.0 y) (sym said.3) said.4))

abbrev StandsAlone : Quads → Type 0
StandsAlone q = StandIn None q.patterns × (q.graphs ≡ [])

pub patterns_stand : PatternsStand
unfolding pattern_in
patterns_stand ts p q e = by (each (λ f. f) (map triples ts) (start p)) refl e
  where
    by : (r : Outcome Drafting (Unit {0})) → each (λ f. f) (map triples ts) (start p) ≡ r → option_map (λ z. quads z.1) r ≡ Some q → StandsAlone q
    by None d e = absurd (cc e)
    by (Some z) d e =
        let said = (each_triples_stand ts (start p) z.1 d).0 in
        subst StandsAlone (same_Some _ _ e) (subst (StandIn None) (sym said.patterns) said.stand, said.graphs)
