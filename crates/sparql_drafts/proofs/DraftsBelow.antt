-- The blank nodes that data says are those that were numbered, and they come in order.
use Rattle.std.proofs.Common.{◌≡◌, ◌∙◌, ◌⊎◌, ◌≤◌, ◌<◌, ap, refl, sym, subst, inl, inr, ℕ, Bool, true, false, ◌||◌, if◌then◌else◌, List, [], ◌∷◌, ◌++◌, map, length, Option, Some, None, Contains, arith}
use Rattle.std.proofs.lemmas.Option.{same_Some}
use Rattle.std.proofs.lemmas.List.Elements.{Contains-append_left, Contains-append_right}
use Rattle.std.specs.List.{flat_map, AllByRecursion}
use Rattle.std.specs.Option.{option_map}
use Rattle.rdf_terms.specs.Literal.{LiteralParts}
use Rattle.rdf_terms.specs.declared.term.Term.TheVariants as t
use Rattle.rdf_terms.specs.Vocabulary.{rdf_nil}
use Rattle.rdf_grammar.specs.Prologue.{Prologue}
use Rattle.rdf_grammar.specs.Steps.{Outcome, each, and_then}
use Rattle.rdf_grammar.specs.declared.tree.Literal.{Literal}
use Rattle.rdf_grammar.specs.declared.tree.Name.{Name}
use Rattle.sparql_grammar.specs.Proper.{is_filled, stands_alone, stands_alone_of}
use Rattle.sparql_grammar.specs.declared.tree.Block.{Block}
use Rattle.sparql_grammar.specs.declared.tree.Node.{Node}
use Rattle.sparql_grammar.specs.declared.tree.Node.TheOpen.{Node-F, Property-F}
use Rattle.sparql_grammar.specs.declared.tree.Node.TheFolds.{fold-Property, fold-roll-Node, fold-roll-Property, map-Node, map-Property, ind-Node, ind-Property}
use Rattle.sparql_grammar.specs.declared.tree.Node.TheViews.{roll-Node, roll-Property}
use Rattle.sparql_grammar.specs.declared.tree.Property.{Property}
use Rattle.sparql_grammar.specs.declared.tree.Triples.{Triples}
use Rattle.sparql_grammar.specs.declared.tree.VarOrIri as written
use Rattle.sparql_grammar.specs.declared.tree.Verb.{Verb}
use Rattle.sparql_drafts.specs.Blanks.{place_blanks, pattern_blanks, AreInOrder, IsNumbered, DataAreNumbered, DataComeInOrder, PatternsAreNumbered, PatternsComeInOrder}
use Rattle.sparql_drafts.specs.Drafts.{IsPlaceBelow, ArePatternsBelow}
use Rattle.sparql_drafts.specs.declared.draft.QuadPattern.{QuadPattern}
use Rattle.sparql_drafts.specs.declared.draft.Quads.{Quads}
use Rattle.sparql_drafts.specs.declared.draft.VarOrIri.{VarOrIri}
use Rattle.sparql_drafts.specs.declared.draft.VarOrTerm.{VarOrTerm}
use Rattle.sparql_drafts.specs.declared.draft.VarOrTerm.TheVariants as x
use Rattle.sparql_drafts.specs.Drafting.{Drafting, Does, start, quads, fresh, in_default, in_graph, says}
use Rattle.sparql_drafts.specs.Meaning.{Meaning, Says, iri, verb, var_or_iri, literal, object, objects, first, rest, nil, next_cell, behind, list_term, list_inside, node_of, property_of, meaning, property, subject_with, triples, graph, block, quads_in, pattern_in}
use Rattle.sparql_drafts.proofs.LeafSteps.{iri_same, var_or_iri_same, verb_same, literal_same}
use Rattle.sparql_drafts.proofs.BlankSteps.{then_parts, node, nothing, nothing_at, variable_apart, Numbered, IsAt, IsBelow, Said, also, beside, only_last, below_on, says_numbered, TermKeeps, fresh_keeps, labelled_keeps, Stays, stays_keeps}

-- ---- leaves

-- a term that is no blank node
apart : (a b : VarOrTerm) → a ≡ b → ((k : ℕ) → a ≡ node k → ⊥) → (k : ℕ) → b ≡ node k → ⊥
apart a b e h = λ k z. h k (e ∙ z)

iri_apart : (a : List ℕ) (k : ℕ) → x.Term (t.Iri a) ≡ node k → ⊥
iri_apart a k e = cc

literal_apart : (a : LiteralParts) (k : ℕ) → x.Term (t.Literal a) ≡ node k → ⊥
literal_apart a k e = cc

pure_stays : (a : VarOrTerm) → ((k : ℕ) → a ≡ node k → ⊥) → Stays (λ s. Some (a, s))
pure_stays a h s u b e =
    let same = same_Some _ _ e in (ap (λ q. q.1) same, apart a b (ap (λ q. q.0) same) h)

name_stays : (name : Name) → Stays (λ s. and_then (iri name s) (λ a u. Some (x.Term (t.Iri a), u)))
name_stays name s u b e =
    let p = then_parts (iri name s) _ (b, u) e in
    let same = same_Some _ _ p.3 in (
      iri_same name s p.1 p.0 p.2 ∙ ap (λ q. q.1) same,
      apart (x.Term (t.Iri p.0)) b (ap (λ q. q.0) same) (iri_apart p.0),
    )

literal_stays : (w : Literal) → Stays (λ s. and_then (literal w s) (λ a u. Some (x.Term (t.Literal a), u)))
literal_stays w s u b e =
    let p = then_parts (literal w s) _ (b, u) e in
    let same = same_Some _ _ p.3 in (
      literal_same w s p.1 p.0 p.2 ∙ ap (λ q. q.1) same,
      apart (x.Term (t.Literal p.0)) b (ap (λ q. q.0) same) (literal_apart p.0),
    )

-- ---- nodes and properties

-- what is numbered after a step, when these were before
record Kept (pending : VarOrTerm) (s u : Drafting) : Type 0 where
  numbered : Numbered pending u
  grows : s.numbering.next ≤ u.numbering.next

-- patterns are said, about this subject first; nothing is left pending that wasn't
abbrev InsideKeeps : (VarOrTerm → Does (Unit {0})) → Type 0
InsideKeeps f = (subject pending : VarOrTerm) (s u : Drafting) → IsBelow subject s → IsAt pending subject → Numbered pending s → f subject s ≡ Some (tt, u) → Kept pending s u

-- and the subject stands in one
abbrev Uses : (VarOrTerm → Does (Unit {0})) → Type 0
Uses f = (subject pending : VarOrTerm) (s u : Drafting) → IsBelow subject s → IsAt pending subject → Numbered pending s → f subject s ≡ Some (tt, u) → Kept nothing s u

record Good (m : Meaning) : Type 0 where
  term : TermKeeps m.term
  inside : InsideKeeps m.inside

kept_also : (pending : VarOrTerm) (s u : Drafting) → Kept nothing s u → Kept pending s u
kept_also pending s u k = record { numbered = also pending u k.numbered; grows = k.grows }

kept_then : (a b : VarOrTerm) (s v u : Drafting) → Kept a s v → Kept b v u → Kept b s u
kept_then a b s v u k r =
    let first : s.numbering.next ≤ v.numbering.next = k.grows in
    let rest : v.numbering.next ≤ u.numbering.next = r.grows in
    record { numbered = r.numbered; grows = omega (arith, first, rest) }

kept_same : (pending : VarOrTerm) (s u : Drafting) → Numbered pending s → ◌≡◌ {A = Outcome Drafting (Unit {0})} (Some (tt, s)) (Some (tt, u)) → Kept pending s u
kept_same pending s u held e =
    let same : s ≡ u = ap (λ p. p.1) (same_Some _ _ e) in
    let next : s.numbering.next ≡ u.numbering.next = ap (λ (z : Drafting). z.numbering.next) same in
    record { numbered = subst (Numbered pending) same held; grows = omega (arith, next) }

nothing_keeps : InsideKeeps (λ _ s. Some (tt, s))
nothing_keeps subject pending s u b at held e = kept_same pending s u held e

uses_keeps : (f : VarOrTerm → Does (Unit {0})) → Uses f → InsideKeeps f
uses_keeps f h subject pending s u b at held e = kept_also pending s u (h subject pending s u b at held e)

object_uses : (predicate : VarOrIri) (m : Meaning) → Good m → Uses (λ subject. object subject predicate m)
unfolding object
object_uses predicate m g subject pending s u b at held e =
    let p = then_parts (m.term s) _ (tt, u) e in
    let o = g.term pending s p.1 p.0 held p.2 in
    let q = then_parts (says subject predicate p.0 p.1) _ (tt, u) p.3 in
    let said = says_numbered subject p.0 predicate pending p.1 at o.0 (below_on subject s p.1 o.1 b) o.2 q.1 q.2 in
    let l : p.1.numbering.next ≤ q.1.numbering.next = (let same : q.1.numbering.next ≡ p.1.numbering.next = said.1 in omega (arith, same)) in
    let grown : s.numbering.next ≤ q.1.numbering.next = (let a : s.numbering.next ≤ p.1.numbering.next = o.1 in omega (arith, a, l)) in
    kept_then nothing nothing s q.1 u (record { numbered = said.0; grows = grown }) (g.inside p.0 nothing q.1 u (below_on p.0 p.1 q.1 l o.2) (nothing_at p.0) said.0 q.3)

-- one step that uses the subject, and others behind it
then_keeps : (f g : VarOrTerm → Does (Unit {0})) → Uses f → InsideKeeps g → (subject pending : VarOrTerm) (s u : Drafting) → IsBelow subject s → IsAt pending subject → Numbered pending s
    → and_then (f subject s) (λ _. g subject) ≡ Some (tt, u) → Kept nothing s u
then_keeps f g h k subject pending s u b at held e =
    let p = then_parts (f subject s) (λ _. g subject) (tt, u) e in
    let first = h subject pending s p.1 b at held p.2 in
    kept_then nothing nothing s p.1 u first (k subject nothing p.1 u (below_on subject s p.1 first.grows b) (nothing_at subject) first.numbered p.3)

objects_keep : (predicate : VarOrIri) (ms : List Meaning) → AllByRecursion Good ms → InsideKeeps (λ subject. each (object subject predicate) ms)
objects_keep predicate [] all subject pending s u b at held e = kept_same pending s u held e
objects_keep predicate (m ∷ ms) all subject pending s u b at held e =
    kept_also pending s u (then_keeps (λ y. object y predicate m) (λ y. each (object y predicate) ms) (object_uses predicate m all.0) (objects_keep predicate ms all.1) subject pending s u b at held e)

objects_use : (predicate : VarOrIri) (ms : List Meaning) → AllByRecursion Good ms → Uses (λ subject. objects subject predicate ms)
objects_use predicate [] all subject pending s u b at held e = absurd (cc e)
objects_use predicate (m ∷ ms) all subject pending s u b at held e =
    then_keeps (λ y. object y predicate m) (λ y. each (object y predicate) ms) (object_uses predicate m all.0) (objects_keep predicate ms all.1) subject pending s u b at held e

property_uses : (word : Verb) (ms : List Meaning) → AllByRecursion Good ms → Uses (λ subject s. and_then (verb word s) (λ predicate. objects subject predicate ms))
property_uses word ms all subject pending s u b at held e =
    let p = then_parts (verb word s) _ (tt, u) e in
    let same : p.1 ≡ s = sym (verb_same word s p.1 p.0 p.2) in
    let h : objects subject p.0 ms s ≡ Some (tt, u) = subst (λ (z : Drafting). objects subject p.0 ms z ≡ Some (tt, u)) same p.3 in
    objects_use p.0 ms all subject pending s u b at held h

properties_keep : (ps : List Says) → AllByRecursion Uses ps → InsideKeeps (λ subject. each (λ p. p subject) ps)
properties_keep [] all subject pending s u b at held e = kept_same pending s u held e
properties_keep (f ∷ ps) all subject pending s u b at held e =
    kept_also pending s u (then_keeps f (λ y. each (λ p. p y) ps) all.0 (properties_keep ps all.1) subject pending s u b at held e)

properties_use : (f : Says) (ps : List Says) → AllByRecursion Uses (f ∷ ps) → Uses (λ subject. each (λ p. p subject) (f ∷ ps))
properties_use f ps all subject pending s u b at held e = then_keeps f (λ y. each (λ p. p y) ps) all.0 (properties_keep ps all.1) subject pending s u b at held e

-- ---- lists

next_cell_keeps : (m : Meaning) → Good m → (subject next pending : VarOrTerm) (s u : Drafting) → IsBelow subject s → IsAt pending subject → Numbered pending s → next_cell subject m s ≡ Some (next, u)
    → Kept nothing s u × IsBelow next u
next_cell_keeps m good subject next pending s u b at held e =
    let p = then_parts (fresh s) _ (next, u) e in
    let new = fresh_keeps pending s p.1 p.0 held p.2 in
    let q = then_parts (says subject rest p.0 p.1) _ (next, u) p.3 in
    let said = says_numbered subject p.0 rest pending p.1 at new.0 (below_on subject s p.1 new.1 b) new.2 q.1 q.2 in
    let near : p.1.numbering.next ≤ q.1.numbering.next = (let same : q.1.numbering.next ≡ p.1.numbering.next = said.1 in omega (arith, same)) in
    let grown : s.numbering.next ≤ q.1.numbering.next = (let y : s.numbering.next ≤ p.1.numbering.next = new.1 in omega (arith, y, near)) in
    let r = then_parts (object p.0 first m q.1) _ (next, u) q.3 in
    let one = object_uses first m good p.0 nothing q.1 r.1 (below_on p.0 p.1 q.1 near new.2) (nothing_at p.0) said.0 r.2 in
    let far : p.1.numbering.next ≤ r.1.numbering.next = (let y : q.1.numbering.next ≤ r.1.numbering.next = one.grows in omega (arith, near, y)) in
    let is_next : p.0 ≡ next = ap (λ z. z.0) (same_Some _ _ r.3) in
    let is_u : r.1 ≡ u = ap (λ z. z.1) (same_Some _ _ r.3) in (
      subst (λ (z : Drafting). Kept nothing s z) is_u (kept_then nothing nothing s q.1 r.1 (record { numbered = said.0; grows = grown }) one),
      subst (λ (z : VarOrTerm). IsBelow z u) is_next (subst (IsBelow p.0) is_u (below_on p.0 p.1 r.1 far new.2)),
    )

behind_keeps : (ms : List Meaning) → AllByRecursion Good ms → InsideKeeps (λ subject. behind subject ms)
behind_keeps [] all subject pending s u b at held e =
    let r = says_numbered subject nil rest pending s at (beside nil pending s held) b (λ k z. absurd (iri_apart rdf_nil k z)) u e in
    let same : u.numbering.next ≡ s.numbering.next = r.1 in
    kept_also pending s u (record { numbered = r.0; grows = omega (arith, same) })
behind_keeps (m ∷ ms) all subject pending s u b at held e =
    let p = then_parts (next_cell subject m s) _ (tt, u) e in
    let one = next_cell_keeps m all.0 subject p.0 pending s p.1 b at held p.2 in
    kept_also pending s u (kept_then nothing nothing s p.1 u one.0 (behind_keeps ms all.1 p.0 nothing p.1 u one.1 (nothing_at p.0) one.0.numbered p.3))

list_term_keeps : (ms : List Meaning) → TermKeeps (list_term ms)
list_term_keeps [] = stays_keeps _ (pure_stays nil (iri_apart rdf_nil))
list_term_keeps (m ∷ ms) = fresh_keeps

list_uses : (m : Meaning) (ms : List Meaning) → AllByRecursion Good (m ∷ ms) → Uses (list_inside (m ∷ ms))
list_uses m ms all subject pending s u b at held e =
    then_keeps (λ y. object y first m) (λ y. behind y ms) (object_uses first m all.0) (behind_keeps ms all.1) subject pending s u b at held e

list_keeps : (ms : List Meaning) → AllByRecursion Good ms → InsideKeeps (list_inside ms)
list_keeps [] all = nothing_keeps
list_keeps (m ∷ ms) all = uses_keeps (list_inside (m ∷ ms)) (list_uses m ms all)

-- ---- trees

only_good : (f : Does VarOrTerm) → TermKeeps f → Good (record { term = f; inside = λ _ s. Some (tt, s) })
only_good f h = record { term = h; inside = nothing_keeps }

-- and a node that stands alone uses itself
record IsGood (d : Node) : Type 0 where
  good : Good (meaning d)
  alone : stands_alone d ≡ true → Uses (meaning d).inside

abbrev GoodNode : Type 0
GoodNode = (d : Node) × IsGood d

abbrev GoodProperty : Type 0
GoodProperty = (d : Property) × Uses (property d)

all_nodes : (ds : List GoodNode) → AllByRecursion Good (map meaning (map (λ e. e.0) ds))
all_nodes [] = tt
all_nodes (d ∷ ds) = (d.1.good, all_nodes ds)

all_properties : (ds : List GoodProperty) → AllByRecursion Uses (map property (map (λ e. e.0) ds))
all_properties [] = tt
all_properties (d ∷ ds) = (d.1, all_properties ds)

abbrev plain : Node-F GoodNode GoodProperty → Node-F Node Property
plain y = map-Node GoodNode GoodProperty Node Property (λ e. e.0) (λ e. e.0) y

abbrev said_by : Node-F GoodNode GoodProperty → Meaning
said_by y = node_of (map-Node Node Property Meaning Says meaning property (plain y))

abbrev alone_by : Node-F GoodNode GoodProperty → Bool
alone_by y = stands_alone_of (map-Node Node Property Bool Bool stands_alone (fold-Property Bool Bool stands_alone_of (λ _. true)) (plain y))

good_node : (y : Node-F GoodNode GoodProperty) → Good (said_by y)
good_node (Node-F.Variable name) = only_good _ (stays_keeps _ (pure_stays (x.Variable name) (variable_apart name)))
good_node (Node-F.Name name) = only_good _ (stays_keeps _ (name_stays name))
good_node (Node-F.Literal word) = only_good _ (stays_keeps _ (literal_stays word))
good_node (Node-F.Label label) = only_good _ (labelled_keeps label)
good_node (Node-F.Blank bracket ps) = record { term = fresh_keeps; inside = properties_keep _ (all_properties ps) }
good_node (Node-F.Collection bracket ms) = record { term = list_term_keeps _; inside = list_keeps _ (all_nodes ms) }

good_alone : (y : Node-F GoodNode GoodProperty) → alone_by y ≡ true → Uses (said_by y).inside
good_alone (Node-F.Variable name) e = absurd (cc e)
good_alone (Node-F.Name name) e = absurd (cc e)
good_alone (Node-F.Literal word) e = absurd (cc e)
good_alone (Node-F.Label label) e = absurd (cc e)
good_alone (Node-F.Blank bracket []) e = absurd (cc e)
good_alone (Node-F.Blank bracket (p ∷ ps)) e = properties_use _ _ (all_properties (p ∷ ps))
good_alone (Node-F.Collection bracket []) e = absurd (cc e)
good_alone (Node-F.Collection bracket (m ∷ ms)) e = list_uses _ _ (all_nodes (m ∷ ms))

good_property : (y : Property-F GoodNode GoodProperty) → Uses (property_of (map-Property Node Property Meaning Says meaning property (map-Property GoodNode GoodProperty Node Property (λ e. e.0) (λ e. e.0) y)))
good_property y = property_uses y.verb _ (all_nodes y.objects)

rolled_good : (y : Node-F GoodNode GoodProperty) → IsGood (roll-Node (plain y))
rolled_good y =
    let is : meaning (roll-Node (plain y)) ≡ said_by y = fold-roll-Node Meaning Says node_of property_of (plain y) in
    let alone_is : stands_alone (roll-Node (plain y)) ≡ alone_by y = fold-roll-Node Bool Bool stands_alone_of (λ _. true) (plain y) in
    record {
      good = subst Good (sym is) (good_node y);
      alone = λ e. subst (λ (m : Meaning). Uses m.inside) (sym is) (good_alone y (sym alone_is ∙ e));
    }

abbrev NodeStep : Type 0
NodeStep = (z : Node-F Node Property) (y : Node-F GoodNode GoodProperty) → map-Node GoodNode GoodProperty Node Property (λ e. e.0) (λ e. e.0) y ≡ z → IsGood (roll-Node z)

node_step : NodeStep
node_step z y is = subst (λ a. IsGood (roll-Node a)) is (rolled_good y)

abbrev PropertyStep : Type 0
PropertyStep = (z : Property-F Node Property) (y : Property-F GoodNode GoodProperty) → map-Property GoodNode GoodProperty Node Property (λ e. e.0) (λ e. e.0) y ≡ z → Uses (property (roll-Property z))

property_step : PropertyStep
property_step z y is = subst (λ a. Uses (property (roll-Property a))) is (subst Uses (sym (fold-roll-Property Meaning Says node_of property_of (map-Property GoodNode GoodProperty Node Property (λ e. e.0) (λ e. e.0) y))) (good_property y))

nodes_good : (d : Node) → IsGood d
nodes_good = ind-Node IsGood (λ d. Uses (property d)) node_step property_step

properties_good : (d : Property) → Uses (property d)
properties_good = ind-Property IsGood (λ d. Uses (property d)) node_step property_step

all_good : (ps : List Property) → AllByRecursion Uses (map property ps)
all_good [] = tt
all_good (p ∷ ps) = (properties_good p, all_good ps)

-- ---- data

abbrev Closed : Does (Unit {0}) → Type 0
Closed f = (s u : Drafting) → Numbered nothing s → f s ≡ Some (tt, u) → Numbered nothing u

each_closed : (fs : List (Does (Unit {0}))) → AllByRecursion Closed fs → Closed (each (λ f. f) fs)
each_closed [] all s u h e = subst (Numbered nothing) (ap (λ p. p.1) (same_Some _ _ e)) h
each_closed (f ∷ fs) all s u h e =
    let p = then_parts (f s) _ (tt, u) e in
    each_closed fs all.1 p.1 u (all.0 s p.1 h p.2) p.3

-- of the subject or of its properties one uses it
subject_closed : (d : Node) (ps : List Property) → (stands_alone d ≡ true) ⊎ (is_filled ps ≡ true) → Closed (subject_with d ps)
subject_closed d ps (inl alone) s u h e =
    let p = then_parts ((meaning d).term s) _ (tt, u) e in
    let o = (nodes_good d).good.term nothing s p.1 p.0 h p.2 in
    let q = then_parts ((meaning d).inside p.0 p.1) _ (tt, u) p.3 in
    let r = (nodes_good d).alone alone p.0 p.0 p.1 q.1 o.2 (λ k z. z) (only_last p.0 p.1 o.0) q.2 in
    (properties_keep (map property ps) (all_good ps) p.0 nothing q.1 u (below_on p.0 p.1 q.1 r.grows o.2) (nothing_at p.0) r.numbered q.3).numbered
subject_closed d [] (inr none) s u h e = absurd (cc none)
subject_closed d (w ∷ ws) (inr there) s u h e =
    let p = then_parts ((meaning d).term s) _ (tt, u) e in
    let o = (nodes_good d).good.term nothing s p.1 p.0 h p.2 in
    let q = then_parts ((meaning d).inside p.0 p.1) _ (tt, u) p.3 in
    let r = (nodes_good d).good.inside p.0 p.0 p.1 q.1 o.2 (λ k z. z) (only_last p.0 p.1 o.0) q.2 in
    (properties_use _ _ (all_good (w ∷ ws)) p.0 p.0 q.1 u (below_on p.0 p.1 q.1 r.grows o.2) (λ k z. z) r.numbered q.3).numbered

either : (a b : Bool) → (a || b) ≡ true → (a ≡ true) ⊎ (b ≡ true)
either true b e = inl refl
either false b e = inr e

triples_closed : (ts : Triples) → Closed (triples ts)
unfolding triples
triples_closed ts = by (stands_alone ts.subject || is_filled ts.properties) refl
  where
    by : (b : Bool) → (stands_alone ts.subject || is_filled ts.properties) ≡ b
        → Closed (if◌then◌else◌ {A = Does (Unit {0})} b (subject_with ts.subject ts.properties) (λ z. None))
    by true h = subject_closed ts.subject ts.properties (either (stands_alone ts.subject) (is_filled ts.properties) h)
    by false h = λ s u numbered e. absurd (cc e)

same_numbers : (s u : Drafting) → Numbered nothing s → s.numbering ≡ u.numbering → s.patterns ≡ u.patterns → Numbered nothing u
same_numbers s u h numbering patterns = record {
  covered = λ k l. elim (h.covered k (subst (λ z. k < z.next) (sym numbering) l)) [ inl y ↦ inl (subst (λ (z : List QuadPattern). Said z k) patterns y) | inr y ↦ inr y ];
  below = λ k y. subst (λ z. k < z.next) numbering (h.below k (subst (λ (z : List QuadPattern). Said z k) (sym patterns) y));
  labels = subst (λ z. AllByRecursion (λ e. e.1 < z.next) z.labels) numbering h.labels;
  order = subst AreInOrder patterns h.order;
}

default_closed : Closed in_default
unfolding in_default
default_closed s u h e = let same = ap (λ p. p.1) (same_Some _ _ e) in same_numbers s u h (ap (λ (z : Drafting). z.numbering) same) (ap (λ (z : Drafting). z.patterns) same)

graph_is_closed : (name : VarOrIri) → Closed (in_graph name)
unfolding in_graph
graph_is_closed name s u h e = let same = ap (λ p. p.1) (same_Some _ _ e) in same_numbers s u h (ap (λ (z : Drafting). z.numbering) same) (ap (λ (z : Drafting). z.patterns) same)

graph_closed : (name : Option written.VarOrIri) → Closed (graph name)
graph_closed None s u h e = default_closed s u h e
graph_closed (Some name) s u h e =
    let p = then_parts (var_or_iri name s) _ (tt, u) e in
    graph_is_closed p.0 p.1 u (subst (Numbered nothing) (var_or_iri_same name s p.1 p.0 p.2) h) p.3

all_triples : (ts : List Triples) → AllByRecursion Closed (map triples ts)
all_triples [] = tt
all_triples (t ∷ ts) = (triples_closed t, all_triples ts)

block_closed : (b : Block) → Closed (block b)
block_closed b s u h e =
    let p = then_parts (graph b.graph s) _ (tt, u) e in
    each_closed (map triples b.triples) (all_triples b.triples) p.1 u (graph_closed b.graph s p.1 h p.2) p.3

all_blocks : (bs : List Block) → AllByRecursion Closed (map block bs)
all_blocks [] = tt
all_blocks (b ∷ bs) = (block_closed b, all_blocks bs)

none_stands : {A : Type 0} (front back : List ℕ) (number : ℕ) → [] ≡ front ++ number ∷ back → A
none_stands [] back number e = absurd (cc e)
none_stands (k ∷ front) back number e = absurd (cc e)

start_numbered : (p : Prologue) → Numbered nothing (start p)
start_numbered p = record {
  covered = λ k l. absurd (let z : k < 0 = l in omega (arith, z));
  below = λ k h. absurd (let z : h.0 < 0 = h.1 in omega (arith, z));
  labels = tt;
  order = λ front back number smaller e l. none_stands front back number e;
}

numbered_quads : (s : Drafting) → Numbered nothing s → IsNumbered (quads s)
numbered_quads s h = λ k. ((λ l. elim (h.covered k l) [ inl said ↦ said | inr none ↦ absurd (variable_apart [] k none) ]), (λ said. h.below k said))

-- what holds of each state that is numbered holds of what is said in the end
said_in_the_end : (P : Quads → Type 0) → ((s : Drafting) → Numbered nothing s → P (quads s)) → (fs : List (Does (Unit {0}))) (p : Prologue) (q : Quads) → AllByRecursion Closed fs
    → option_map (λ z. quads z.1) (each (λ f. f) fs (start p)) ≡ Some q → P q
said_in_the_end P holds fs p q closed e = by (each (λ f. f) fs (start p)) refl e
  where
    by : (r : Outcome Drafting (Unit {0})) → each (λ f. f) fs (start p) ≡ r → option_map (λ z. quads z.1) r ≡ Some q → P q
    by None d e = absurd (cc e)
    by (Some z) d e = subst P (same_Some _ _ e) (holds z.1 (each_closed fs closed (start p) z.1 (start_numbered p) d))

abbrev IsOrdered : Quads → Type 0
IsOrdered q = AreInOrder q.patterns

pub data_numbered : DataAreNumbered
unfolding quads_in
data_numbered bs p q e = said_in_the_end IsNumbered numbered_quads (map block bs) p q (all_blocks bs) e

pub pattern_numbered : PatternsAreNumbered
unfolding pattern_in
pattern_numbered ts p q e = said_in_the_end IsNumbered numbered_quads (map triples ts) p q (all_triples ts) e

pub data_in_order : DataComeInOrder
unfolding quads_in
data_in_order bs p q e = said_in_the_end IsOrdered (λ s h. h.order) (map block bs) p q (all_blocks bs) e

pub pattern_in_order : PatternsComeInOrder
unfolding pattern_in
pattern_in_order ts p q e = said_in_the_end IsOrdered (λ s h. h.order) (map triples ts) p q (all_triples ts) e

-- ---- below their count

place_below : (limit : ℕ) (a : VarOrTerm) → ((k : ℕ) → Contains (place_blanks a) k → k < limit) → IsPlaceBelow limit a
place_below limit (x.Variable name) h = tt
place_below limit (x.Term (t.Blank k)) h = h k (0, (let z : 0 < length (k ∷ []) = omega arith in z), refl)
place_below limit (x.Term (t.Iri a)) h = search
place_below limit (x.Term (t.Literal a)) h = search

patterns_below : (limit : ℕ) (qs : List QuadPattern) → ((k : ℕ) → Contains (flat_map pattern_blanks qs) k → k < limit) → ArePatternsBelow limit qs
patterns_below limit [] h = tt
patterns_below limit (q ∷ qs) h =
    let here = λ (k : ℕ) (c : Contains (pattern_blanks q) k). h k (Contains-append_left (pattern_blanks q) (flat_map pattern_blanks qs) k c) in (
      (
        place_below limit q.subject (λ k c. here k (Contains-append_left (place_blanks q.subject) (place_blanks q.object) k c)),
        place_below limit q.object (λ k c. here k (Contains-append_right (place_blanks q.subject) (place_blanks q.object) k c)),
      ),
      patterns_below limit qs (λ k c. h k (Contains-append_right (pattern_blanks q) (flat_map pattern_blanks qs) k c)),
    )

-- the patterns of data have blank numbers below their count
pub numbered_below : (q : Quads) → IsNumbered q → ArePatternsBelow q.blanks q.patterns
numbered_below q h = patterns_below q.blanks q.patterns (λ k c. (h k).1 c)
