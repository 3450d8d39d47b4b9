-- Where triples stand: each step of a reading only says more of them.
use Rattle.std.proofs.Common.{append-nil, append_assoc, ◌≡◌, ◌∙◌, ap, refl, sym, subst, ℕ, Bool, true, false, if◌then◌else◌, List, [], ◌∷◌, ◌++◌, map, Option, Some, None, Contains}
use Rattle.std.proofs.lemmas.List.Elements.{Contains-append_left, Contains-push}
use Rattle.std.proofs.lemmas.Option.{same_Some}
use Rattle.std.specs.List.{AllByRecursion}
use Rattle.std.specs.Option.{option_map}
use Rattle.rdf_grammar.proofs.CallerLemmas.{then_parts}
use Rattle.rdf_grammar.specs.Keys.{key_of}
use Rattle.rdf_grammar.specs.Numbering.{Numbering}
use Rattle.rdf_grammar.specs.Prologue.{iri_of}
use Rattle.rdf_grammar.specs.Steps.{Outcome, each, and_then}
use Rattle.rdf_terms.specs.Quad.{QuadParts, has_right_kinds}
use Rattle.rdf_terms.specs.Vocabulary.{rdf_first, rdf_rest, rdf_nil}
use Rattle.rdf_terms.specs.declared.term.Term.{Term}
use Rattle.rdf_terms.specs.declared.term.Term.TheVariants as t
use Rattle.rdf_turtle.specs.declared.tree.Node.{Node}
use Rattle.rdf_turtle.specs.declared.tree.Node.TheOpen.{Node-F, Property-F}
use Rattle.rdf_turtle.specs.declared.tree.Node.TheFolds.{fold-roll-Node, fold-roll-Property, map-Node, map-Property, ind-Node, ind-Property}
use Rattle.rdf_turtle.specs.declared.tree.Node.TheViews.{roll-Node, roll-Property}
use Rattle.rdf_turtle.specs.declared.tree.Property.{Property}
use Rattle.rdf_turtle.specs.declared.tree.Verb.{Verb}
use Rattle.rdf_turtle.specs.declared.tree.Verb.TheVariants as v
use Rattle.rdf_turtle.specs.Meaning.{Meaning, Says, iri, verb, literal, object, objects, behind, list_term, list_inside, node_of, property_of, meaning, property, properties, has_properties, statement}
use Rattle.rdf_turtle.specs.ParserState.{ParserState, Does, blank, fresh, labelled, triple, says}
use Rattle.rdf_turtle.specs.Stands.{Goes, IsSaid, StandsFor, HasObject, IsVerb, HasProperty, HasProperties, PropertiesStand, StatementsStand, BracketsStand, IsList, ListsStand}
use Rattle.rdf_turtle.proofs.AbbreviationLemmas.{meaning-Blank, meaning-Collection, property-is}
use Rattle.rdf_turtle.proofs.LeafSteps.{iri_same, literal_same, verb_same}

-- ---- from state to state

goes_by : (x y : ParserState) → y.prologue ≡ x.prologue → y.quads ≡ x.quads → Goes x y
goes_by x y p q = record { prologue = p; more = []; quads = q ∙ sym (append-nil x.quads) }

goes_nowhere : (x : ParserState) → Goes x x
goes_nowhere x = goes_by x x refl refl

same_goes : (x y : ParserState) → x ≡ y → Goes x y
same_goes x y e = goes_by x y (ap (λ (z : ParserState). z.prologue) (sym e)) (ap (λ (z : ParserState). z.quads) (sym e))

goes_on : (x y z : ParserState) → Goes x y → Goes y z → Goes x z
goes_on x y z g h = record {
  prologue = h.prologue ∙ g.prologue;
  more = g.more ++ h.more;
  quads = h.quads ∙ ap (λ (q : List QuadParts). q ++ h.more) g.quads ∙ append_assoc x.quads g.more h.more;
}

said_on : (x y : ParserState) (subject : Term) (predicate : List ℕ) (o : Term) → Goes x y → IsSaid x subject predicate o → IsSaid y subject predicate o
said_on x y subject predicate o g h =
    subst (λ (z : List QuadParts). Contains z (triple subject predicate o)) (sym g.quads) (Contains-append_left x.quads g.more (triple subject predicate o) h)

-- a step that only says triples
abbrev Steady : {A : Type 0} → Does A → Type 0
Steady {A} f = (x y : ParserState) (a : A) → f x ≡ Some (a, y) → Goes x y

then_steady : {A B : Type 0} (f : Does A) (g : A → Does B) → Steady f → ((a : A) → Steady (g a)) → Steady (λ z. and_then (f z) g)
then_steady f g h k x y b e =
    let p = then_parts (f x) g (b, y) e in
    goes_on x p.1 y (h x p.1 p.0 p.2) (k p.0 p.1 y b p.3)

-- a step that changes nothing
still : {A : Type 0} (f : Does A) → ((x y : ParserState) (a : A) → f x ≡ Some (a, y) → x ≡ y) → Steady f
still f h x y a e = same_goes x y (h x y a e)

pure_steady : {A : Type 0} (b : A) → Steady (λ z. Some (b, z))
pure_steady b x y a e = same_goes x y (ap (λ p. p.1) (same_Some _ _ e))

none_steady : {A : Type 0} → Steady {A = A} (λ z. None)
none_steady x y a e = absurd (cc e)

blank_steady : (f : Numbering → ℕ × Numbering) → Steady (blank f)
blank_steady f x y a e =
    let same : record x { numbering = (f x.numbering).1 } ≡ y = ap (λ p. p.1) (same_Some _ _ e) in
    goes_by x y (ap (λ (z : ParserState). z.prologue) (sym same)) (ap (λ (z : ParserState). z.quads) (sym same))

fresh_steady : Steady fresh
unfolding fresh
fresh_steady = blank_steady _

labelled_steady : (label : List ℕ) → Steady (labelled label)
unfolding labelled
labelled_steady label = blank_steady _

fresh_is_next : (x y : ParserState) (a : Term) → fresh x ≡ Some (a, y) → a ≡ t.Blank x.numbering.next
unfolding fresh
fresh_is_next x y a e = sym (ap (λ p. p.0) (same_Some _ _ e))

module _ (subject : Term) (predicate : List ℕ) (o : Term) (x y : ParserState) where
  said : ParserState
  said = record x { quads = x.quads ++ triple subject predicate o ∷ [] }

  said_goes : said ≡ y → Goes x y × IsSaid y subject predicate o
  unfolding said
  said_goes same = (
    record {
      prologue = ap (λ (z : ParserState). z.prologue) (sym same);
      more = triple subject predicate o ∷ [];
      quads = ap (λ (z : ParserState). z.quads) (sym same);
    },
    subst (λ (z : ParserState). IsSaid z subject predicate o) same (Contains-push x.quads (triple subject predicate o)),
  )

  says_goes : says subject predicate o x ≡ Some (tt, y) → Goes x y × IsSaid y subject predicate o
  unfolding says said
  says_goes e = by (has_right_kinds (triple subject predicate o)) e
    where
      by : (b : Bool) → if◌then◌else◌ {A = Outcome ParserState (Unit {0})} b (Some (tt, said)) None ≡ Some (tt, y) → Goes x y × IsSaid y subject predicate o
      by true e = said_goes (ap (λ p. p.1) (same_Some _ _ e))
      by false e = absurd (cc e)

says_steady : (subject : Term) (predicate : List ℕ) (o : Term) → Steady (says subject predicate o)
says_steady subject predicate o x y a e = (says_goes subject predicate o x y e).0

each_steady : {A : Type 0} (f : A → Does (Unit {0})) (xs : List A) → AllByRecursion (λ a. Steady (f a)) xs → Steady (each f xs)
each_steady f [] all = pure_steady tt
each_steady f (b ∷ bs) all = then_steady (f b) (λ _. each f bs) all.0 (λ _. each_steady f bs all.1)

-- ---- nodes and properties

record SteadyNode (m : Meaning) : Type 0 where
  term : Steady m.term
  inside : (a : Term) → Steady (m.inside a)

abbrev SteadySays : Says → Type 0
SteadySays f = (subject : Term) → Steady (f subject)

object_steady : (subject : Term) (predicate : List ℕ) (m : Meaning) → SteadyNode m → Steady (object subject predicate m)
unfolding object
object_steady subject predicate m g =
    then_steady m.term _ g.term (λ o. then_steady (says subject predicate o) _ (says_steady subject predicate o) (λ _. g.inside o))

each_object_steady : (subject : Term) (predicate : List ℕ) (ms : List Meaning) → AllByRecursion SteadyNode ms → Steady (each (object subject predicate) ms)
each_object_steady subject predicate [] all = pure_steady tt
each_object_steady subject predicate (m ∷ ms) all =
    then_steady (object subject predicate m) _ (object_steady subject predicate m all.0) (λ _. each_object_steady subject predicate ms all.1)

objects_steady : (subject : Term) (predicate : List ℕ) (ms : List Meaning) → AllByRecursion SteadyNode ms → Steady (objects subject predicate ms)
objects_steady subject predicate [] all = none_steady
objects_steady subject predicate (m ∷ ms) all = each_object_steady subject predicate (m ∷ ms) all

behind_steady : (cell : Term) (ms : List Meaning) → AllByRecursion SteadyNode ms → Steady (behind cell ms)
behind_steady cell [] all = says_steady cell rdf_rest (t.Iri rdf_nil)
behind_steady cell (m ∷ ms) all =
    then_steady fresh _ fresh_steady (λ next.
    then_steady (says cell rdf_rest next) _ (says_steady cell rdf_rest next) (λ _.
    then_steady (object next rdf_first m) _ (object_steady next rdf_first m all.0) (λ _. behind_steady next ms all.1)))

list_term_steady : (ms : List Meaning) → Steady (list_term ms)
list_term_steady [] = pure_steady (t.Iri rdf_nil)
list_term_steady (m ∷ ms) = fresh_steady

list_inside_steady : (ms : List Meaning) → AllByRecursion SteadyNode ms → (cell : Term) → Steady (list_inside ms cell)
list_inside_steady [] all cell = pure_steady tt
list_inside_steady (m ∷ ms) all cell =
    then_steady (object cell rdf_first m) _ (object_steady cell rdf_first m all.0) (λ _. behind_steady cell ms all.1)

properties_of_steady : (subject : Term) (ps : List Says) → AllByRecursion SteadySays ps → Steady (each (λ p. p subject) ps)
properties_of_steady subject [] all = pure_steady tt
properties_of_steady subject (p ∷ ps) all = then_steady (p subject) _ (all.0 subject) (λ _. properties_of_steady subject ps all.1)

only_steady : (f : Does Term) → Steady f → SteadyNode (record { term = f; inside = λ _ z. Some (tt, z); alone = false })
only_steady f h = record { term = h; inside = λ _. pure_steady tt }

-- ---- trees

abbrev OneNode : Type 0
OneNode = (d : Node) × SteadyNode (meaning d)

abbrev OneProperty : Type 0
OneProperty = (d : Property) × SteadySays (property d)

all_nodes : (ds : List OneNode) → AllByRecursion SteadyNode (map meaning (map (λ e. e.0) ds))
all_nodes [] = tt
all_nodes (d ∷ ds) = (d.1, all_nodes ds)

all_properties : (ds : List OneProperty) → AllByRecursion SteadySays (map property (map (λ e. e.0) ds))
all_properties [] = tt
all_properties (d ∷ ds) = (d.1, all_properties ds)

steady_node : (y : Node-F OneNode OneProperty) → SteadyNode (node_of (map-Node Node Property Meaning Says meaning property (map-Node OneNode OneProperty Node Property (λ e. e.0) (λ e. e.0) y)))
steady_node (Node-F.Name name) = only_steady _ (then_steady (iri name) _ (still (iri name) (iri_same name)) (λ i. pure_steady (t.Iri i)))
steady_node (Node-F.Label label) = only_steady _ (labelled_steady (key_of label))
steady_node (Node-F.Blank ps) = record { term = fresh_steady; inside = λ subject. properties_of_steady subject _ (all_properties ps) }
steady_node (Node-F.Collection ms) = record { term = list_term_steady _; inside = list_inside_steady _ (all_nodes ms) }
steady_node (Node-F.Literal w) = only_steady _ (then_steady (literal w) _ (still (literal w) (literal_same w)) (λ l. pure_steady (t.Literal l)))

steady_property : (y : Property-F OneNode OneProperty) → SteadySays (property_of (map-Property Node Property Meaning Says meaning property (map-Property OneNode OneProperty Node Property (λ e. e.0) (λ e. e.0) y)))
steady_property y subject =
    then_steady (verb y.verb) _ (still (verb y.verb) (verb_same y.verb)) (λ predicate. objects_steady subject predicate _ (all_nodes y.objects))

abbrev NodeStep : Type 0
NodeStep = (x : Node-F Node Property) (y : Node-F OneNode OneProperty) → map-Node OneNode OneProperty Node Property (λ e. e.0) (λ e. e.0) y ≡ x → SteadyNode (meaning (roll-Node x))

node_step : NodeStep
node_step x y is = subst (λ z. SteadyNode (meaning (roll-Node z))) is (subst SteadyNode (sym (fold-roll-Node Meaning Says node_of property_of (map-Node OneNode OneProperty Node Property (λ e. e.0) (λ e. e.0) y))) (steady_node y))

abbrev PropertyStep : Type 0
PropertyStep = (x : Property-F Node Property) (y : Property-F OneNode OneProperty) → map-Property OneNode OneProperty Node Property (λ e. e.0) (λ e. e.0) y ≡ x → SteadySays (property (roll-Property x))

property_step : PropertyStep
property_step x y is = subst (λ z. SteadySays (property (roll-Property z))) is (subst SteadySays (sym (fold-roll-Property Meaning Says node_of property_of (map-Property OneNode OneProperty Node Property (λ e. e.0) (λ e. e.0) y))) (steady_property y))

nodes_steady : (d : Node) → SteadyNode (meaning d)
nodes_steady = ind-Node (λ d. SteadyNode (meaning d)) (λ d. SteadySays (property d)) node_step property_step

says_of_steady : (d : Property) → SteadySays (property d)
says_of_steady = ind-Property (λ d. SteadyNode (meaning d)) (λ d. SteadySays (property d)) node_step property_step

all_meanings : (ds : List Node) → AllByRecursion SteadyNode (map meaning ds)
all_meanings [] = tt
all_meanings (d ∷ ds) = (nodes_steady d, all_meanings ds)

all_says : (ds : List Property) → AllByRecursion SteadySays (map property ds)
all_says [] = tt
all_says (d ∷ ds) = (says_of_steady d, all_says ds)

-- ---- within a wider part of the reading

all_of : {A : Type 0} (P Q : A → Type 0) → ((a : A) → P a → Q a) → (xs : List A) → AllByRecursion P xs → AllByRecursion Q xs
all_of P Q f [] all = tt
all_of P Q f (b ∷ bs) all = (f b all.0, all_of P Q f bs all.1)

module _ (x y z w : ParserState) (front : Goes x y) (back : Goes z w) where
  object_on : (subject : Term) (predicate : List ℕ) (node : Node) → HasObject y z subject predicate node → HasObject x w subject predicate node
  object_on subject predicate node h =
      let at = h.1 in (
        h.0,
        (at.0, at.1, at.2, at.3, goes_on x y at.0 front at.4, at.5, at.6, at.7, goes_on at.3 z w at.8 back),
        said_on z w subject predicate h.0 back h.2,
      )

  verb_on : (word : Verb) (predicate : List ℕ) → IsVerb y word predicate → IsVerb x word predicate
  verb_on (v.Name name) predicate h = ap (iri_of name) (sym front.prologue) ∙ h
  verb_on v.Type predicate h = h

  property_on : (subject : Term) (p : Property) → HasProperty y z subject p → HasProperty x w subject p
  property_on subject p h =
      (h.0, verb_on p.verb h.0 h.1, all_of (HasObject y z subject h.0) (HasObject x w subject h.0) (object_on subject h.0) p.objects h.2)

  list_on : (xs : List Node) (cell : Term) → IsList y z cell xs → IsList x w cell xs
  list_on [] cell h = h
  list_on (d ∷ ds) cell h =
      (h.0, object_on cell rdf_first d h.1, (h.2.0, said_on z w cell rdf_rest h.2.0 back h.2.1, list_on ds h.2.0 h.2.2))

-- ---- verbs and objects

object_stands : (subject : Term) (predicate : List ℕ) (node : Node) (x y : ParserState) → object subject predicate (meaning node) x ≡ Some (tt, y)
    → HasObject x y subject predicate node
unfolding object
object_stands subject predicate node x y e =
    let p = then_parts ((meaning node).term x) _ (tt, y) e in
    let q = then_parts (says subject predicate p.0 p.1) _ (tt, y) p.3 in
    let at = says_goes subject predicate p.0 p.1 q.1 q.2 in (
      p.0,
      (x, p.1, q.1, y, goes_nowhere x, p.2, at.0, q.3, goes_nowhere y),
      said_on q.1 y subject predicate p.0 ((nodes_steady node).inside p.0 q.1 y tt q.3) at.1,
    )

each_object_stands : (subject : Term) (predicate : List ℕ) (ds : List Node) (x y : ParserState)
    → each (object subject predicate) (map meaning ds) x ≡ Some (tt, y) → AllByRecursion (HasObject x y subject predicate) ds
each_object_stands subject predicate [] x y e = tt
each_object_stands subject predicate (d ∷ ds) x y e =
    let p = then_parts (object subject predicate (meaning d) x) _ (tt, y) e in
    let first = object_steady subject predicate (meaning d) (nodes_steady d) x p.1 tt p.2 in
    let rest = each_object_steady subject predicate (map meaning ds) (all_meanings ds) p.1 y tt p.3 in (
      object_on x x p.1 y (goes_nowhere x) rest subject predicate d (object_stands subject predicate d x p.1 p.2),
      all_of (HasObject p.1 y subject predicate) (HasObject x y subject predicate) (object_on x p.1 y y first (goes_nowhere y) subject predicate) ds
          (each_object_stands subject predicate ds p.1 y p.3),
    )

objects_stand : (subject : Term) (predicate : List ℕ) (ds : List Node) (x y : ParserState)
    → objects subject predicate (map meaning ds) x ≡ Some (tt, y) → AllByRecursion (HasObject x y subject predicate) ds
objects_stand subject predicate [] x y e = tt
objects_stand subject predicate (d ∷ ds) x y e = each_object_stands subject predicate (d ∷ ds) x y e

iri_is : (o : Option (List ℕ)) (x y : ParserState) (a : List ℕ) → option_map {U = List ℕ × ParserState} (λ i. (i, x)) o ≡ Some (a, y) → o ≡ Some a
iri_is None x y a e = absurd (cc e)
iri_is (Some i) x y a e = ap (λ (z : List ℕ). Some z) (ap (λ p. p.0) (same_Some _ _ e))

verb_is : (word : Verb) (x y : ParserState) (a : List ℕ) → verb word x ≡ Some (a, y) → IsVerb x word a
unfolding verb iri
verb_is (v.Name name) x y a e = iri_is (iri_of name x.prologue) x y a e
verb_is v.Type x y a e = sym (ap (λ p. p.0) (same_Some _ _ e))

property_stands : (subject : Term) (d : Property) (x y : ParserState) → property d subject x ≡ Some (tt, y) → HasProperty x y subject d
property_stands subject d x y e =
    let whole : and_then (verb d.verb x) (λ predicate. objects subject predicate (map meaning d.objects)) ≡ Some (tt, y) =
    subst (λ (f : Says). f subject x ≡ Some (tt, y)) (property-is d.verb d.objects) e in
    let p = then_parts (verb d.verb x) (λ predicate. objects subject predicate (map meaning d.objects)) (tt, y) whole in
    let same : x ≡ p.1 = verb_same d.verb x p.1 p.0 p.2 in
    (p.0, verb_is d.verb x p.1 p.0 p.2, objects_stand subject p.0 d.objects x y (subst (λ (z : ParserState). objects subject p.0 (map meaning d.objects) z ≡ Some (tt, y)) (sym same) p.3))

pub properties_stand : PropertiesStand
properties_stand subject [] x y e = tt
properties_stand subject (d ∷ ds) x y e =
    let p = then_parts (property d subject x) _ (tt, y) e in
    let first = says_of_steady d subject x p.1 tt p.2 in
    let rest = properties_of_steady subject (map property ds) (all_says ds) p.1 y tt p.3 in (
      property_on x x p.1 y (goes_nowhere x) rest subject d (property_stands subject d x p.1 p.2),
      all_of (HasProperty p.1 y subject) (HasProperty x y subject) (property_on x p.1 y y first (goes_nowhere y) subject) ds
          (properties_stand subject ds p.1 y p.3),
    )

triples_stand : (node : Node) (ds : List Property) (x y : ParserState)
    → and_then ((meaning node).term x) (λ a z. and_then ((meaning node).inside a z) (λ _ w. properties a ds w)) ≡ Some (tt, y)
    → (subject : Term) × StandsFor x y node subject × HasProperties x y subject ds
triples_stand node ds x y e =
    let p = then_parts ((meaning node).term x) _ (tt, y) e in
    let q = then_parts ((meaning node).inside p.0 p.1) _ (tt, y) p.3 in
    let first = (nodes_steady node).term x p.1 p.0 p.2 in
    let inner = (nodes_steady node).inside p.0 p.1 q.1 tt q.2 in
    let rest = properties_of_steady p.0 (map property ds) (all_says ds) q.1 y tt q.3 in (
      p.0,
      (x, p.1, p.1, q.1, goes_nowhere x, p.2, goes_nowhere p.1, q.2, rest),
      all_of (HasProperty q.1 y p.0) (HasProperty x y p.0) (property_on x q.1 y y (goes_on x p.1 q.1 first inner) (goes_nowhere y) p.0) ds
          (properties_stand p.0 ds q.1 y q.3),
    )

pub statements_stand : StatementsStand
unfolding statement
statements_stand node ds x y e = by (has_properties (meaning node).alone ds) e
  where
    by : (b : Bool)
        → if◌then◌else◌ {A = Does (Unit {0})} b (λ z. and_then ((meaning node).term z) (λ a u. and_then ((meaning node).inside a u) (λ _ w. properties a ds w))) (λ z. None) x ≡ Some (tt, y)
        → (subject : Term) × StandsFor x y node subject × HasProperties x y subject ds
    by true e = triples_stand node ds x y e
    by false e = absurd (cc e)

-- ---- brackets and lists

pub brackets_stand : BracketsStand
brackets_stand ps node x named z y e i = (
  fresh_is_next x named node (subst (λ (m : Meaning). m.term x ≡ Some (node, named)) (meaning-Blank ps) e),
  properties_stand node ps z y (subst (λ (m : Meaning). m.inside node z ≡ Some (tt, y)) (meaning-Blank ps) i),
)

-- the rest of a list behind a cell
abbrev HasRest : ParserState → ParserState → Term → List Node → Type 0
HasRest x y cell ds = (rest : Term) × IsSaid y cell rdf_rest rest × IsList x y rest ds

behind_stands : (cell : Term) (ds : List Node) (x y : ParserState) → behind cell (map meaning ds) x ≡ Some (tt, y) → HasRest x y cell ds
behind_stands cell [] x y e = (t.Iri rdf_nil, (says_goes cell rdf_rest (t.Iri rdf_nil) x y e).1, refl)
behind_stands cell (d ∷ ds) x y e =
    let p = then_parts (fresh x) _ (tt, y) e in
    let q = then_parts (says cell rdf_rest p.0 p.1) _ (tt, y) p.3 in
    let r = then_parts (object p.0 rdf_first (meaning d) q.1) _ (tt, y) q.3 in
    let linked = says_goes cell rdf_rest p.0 p.1 q.1 q.2 in
    let begun = goes_on x p.1 q.1 (fresh_steady x p.1 p.0 p.2) linked.0 in
    let first = object_steady p.0 rdf_first (meaning d) (nodes_steady d) q.1 r.1 tt r.2 in
    let last = behind_steady p.0 (map meaning ds) (all_meanings ds) r.1 y tt r.3 in
    let more = behind_stands p.0 ds r.1 y r.3 in (
      p.0,
      said_on q.1 y cell rdf_rest p.0 (goes_on q.1 r.1 y first last) linked.1,
      (
        (x.numbering.next, fresh_is_next x p.1 p.0 p.2),
        object_on x q.1 r.1 y begun last p.0 rdf_first d (object_stands p.0 rdf_first d q.1 r.1 r.2),
        (more.0, more.1, list_on x r.1 y y (goes_on x q.1 r.1 begun first) (goes_nowhere y) ds more.0 more.2),
      ),
    )

list_stands : (ds : List Node) (cell : Term) (x named z y : ParserState) → list_term (map meaning ds) x ≡ Some (cell, named)
    → list_inside (map meaning ds) cell z ≡ Some (tt, y) → IsList z y cell ds
list_stands [] cell x named z y e i = sym (ap (λ p. p.0) (same_Some _ _ e))
list_stands (d ∷ ds) cell x named z y e i =
    let p = then_parts (object cell rdf_first (meaning d) z) _ (tt, y) i in
    let first = object_steady cell rdf_first (meaning d) (nodes_steady d) z p.1 tt p.2 in
    let last = behind_steady cell (map meaning ds) (all_meanings ds) p.1 y tt p.3 in
    let more = behind_stands cell ds p.1 y p.3 in (
      (x.numbering.next, fresh_is_next x named cell e),
      object_on z z p.1 y (goes_nowhere z) last cell rdf_first d (object_stands cell rdf_first d z p.1 p.2),
      (more.0, more.1, list_on z p.1 y y first (goes_nowhere y) ds more.0 more.2),
    )

pub lists_stand : ListsStand
lists_stand ds cell x named z y e i =
    list_stands ds cell x named z y
    (subst (λ (m : Meaning). m.term x ≡ Some (cell, named)) (meaning-Collection ds) e)
    (subst (λ (m : Meaning). m.inside cell z ≡ Some (tt, y)) (meaning-Collection ds) i)
