-- The blank nodes that a document says are those that were numbered, and they come in order.
use Rattle.std.proofs.Common.{◌≡◌, ◌∙◌, ◌⊎◌, ◌≤◌, ◌<◌, ap, refl, sym, subst, inl, inr, ℕ, Bool, true, false, if◌then◌else◌, List, [], ◌∷◌, ◌++◌, map, Option, Some, None, Contains, arith}
use Rattle.std.specs.Prelude.{Ok, Err, ok_or}
use Rattle.std.proofs.lemmas.Option.{same_Some}
use Rattle.std.specs.List.{flat_map, AllByRecursion}
use Rattle.std.specs.Option.{option_map}
use Rattle.rdf_terms.specs.Literal.{LiteralParts}
use Rattle.rdf_terms.specs.Quad.{QuadParts}
use Rattle.rdf_terms.specs.Vocabulary.{rdf_first, rdf_rest, rdf_nil}
use Rattle.rdf_terms.specs.declared.term.Term.{Term}
use Rattle.rdf_terms.specs.declared.term.Term.TheVariants as t
use Rattle.rdf_turtle.specs.declared.fault.TurtleFaultKind.TheVariants.{Relative, UnknownPrefix}
use Rattle.rdf_grammar.specs.declared.tree.Name.{Name}
use Rattle.rdf_turtle.specs.declared.tree.Verb.{Verb}
use Rattle.rdf_grammar.specs.declared.tree.Literal.{Literal}
use Rattle.rdf_turtle.specs.declared.tree.Node.{Node}
use Rattle.rdf_turtle.specs.declared.tree.Node.TheOpen.{Node-F, Property-F}
use Rattle.rdf_turtle.specs.declared.tree.Node.TheFolds.{fold-roll-Node, fold-roll-Property, map-Node, map-Property, ind-Node, ind-Property}
use Rattle.rdf_turtle.specs.declared.tree.Node.TheViews.{roll-Node, roll-Property}
use Rattle.rdf_turtle.specs.declared.tree.Property.{Property}
use Rattle.rdf_turtle.specs.declared.tree.Statement.{Statement}
use Rattle.rdf_turtle.specs.declared.tree.Statement.TheVariants as s
use Rattle.rdf_terms.specs.Blanks.{blanks_of, AreNumberedInOrder}
use Rattle.rdf_turtle.specs.Blanks.{BlankNumbersAreBelow, IsTriple}
use Rattle.rdf_turtle.specs.Known.{declares_first}
use Rattle.rdf_grammar.specs.Keys.{key_of}
use Rattle.rdf_grammar.specs.Prologue.{Prologue, resolved, declares, moves_base}
use Rattle.rdf_grammar.specs.Steps.{Outcome, each, and_then}
use Rattle.rdf_turtle.specs.ParserState.{ParserState, Does, start, told, declared, fresh, says}
use Rattle.rdf_turtle.specs.Meaning.{answer, Meaning, Says, iri, verb, literal, object, objects, behind, list_term, list_inside, is_some_property, node_of, property_of, meaning, property, properties, has_properties, statement, document, triples_of}
use Rattle.rdf_turtle.proofs.LeafSteps.{told_same, iri_same, verb_same, literal_same}
use Rattle.rdf_turtle.proofs.ScopeSteps.{then_parts, Numbered, IsAt, IsBelow, Said, nothing, nothing_at, iri_apart, also, beside, only_last, below_on, says_numbered, TermKeeps, fresh_keeps, labelled_keeps, Stays, stays_keeps}

-- ---- leaves

-- a term that is no blank node
apart : (x y : Term) → x ≡ y → ((n : ℕ) → x ≡ t.Blank n → ⊥) → (n : ℕ) → y ≡ t.Blank n → ⊥
apart x y e h = λ n b. h n (e ∙ b)

name_stays : (name : Name) → Stays (λ s. and_then (iri name s) (λ i u. Some (t.Iri i, u)))
name_stays name s u x e =
    let p = then_parts (iri name s) _ (x, u) e in
    let same = same_Some _ _ p.3 in (
      iri_same name s p.1 p.0 p.2 ∙ ap (λ q. q.1) same,
      apart (t.Iri p.0) x (ap (λ q. q.0) same) (iri_apart p.0),
    )

literal_apart : (w : LiteralParts) (n : ℕ) → t.Literal w ≡ t.Blank n → ⊥
literal_apart w n e = cc

literal_stays : (w : Literal) → Stays (λ s. and_then (literal w s) (λ a u. Some (t.Literal a, u)))
literal_stays w s u x e =
    let p = then_parts (literal w s) _ (x, u) e in
    let same = same_Some _ _ p.3 in (
      literal_same w s p.1 p.0 p.2 ∙ ap (λ q. q.1) same,
      apart (t.Literal p.0) x (ap (λ q. q.0) same) (literal_apart p.0),
    )

nil_stays : Stays (λ s. Some (t.Iri rdf_nil, s))
nil_stays s u x e =
    let same = same_Some _ _ e in (ap (λ q. q.1) same, apart (t.Iri rdf_nil) x (ap (λ q. q.0) same) (iri_apart rdf_nil))

-- ---- nodes and properties

-- what is numbered after a step, when these were before
record Kept (pending : Term) (s u : ParserState) : Type 0 where
  numbered : Numbered pending u
  grows : s.numbering.next ≤ u.numbering.next

-- triples are said, about this subject first; nothing is left pending that wasn't
abbrev InsideKeeps : (Term → Does (Unit {0})) → Type 0
InsideKeeps f = (x pending : Term) (s u : ParserState) → IsBelow x s → IsAt pending x → Numbered pending s → f x s ≡ Some (tt, u) → Kept pending s u

-- and the subject stands in one
abbrev Uses : (Term → Does (Unit {0})) → Type 0
Uses f = (x pending : Term) (s u : ParserState) → IsBelow x s → IsAt pending x → Numbered pending s → f x s ≡ Some (tt, u) → Kept nothing s u

record Good (m : Meaning) : Type 0 where
  term : TermKeeps m.term
  inside : InsideKeeps m.inside
  alone : m.alone ≡ true → Uses m.inside

kept_also : (pending : Term) (s u : ParserState) → Kept nothing s u → Kept pending s u
kept_also pending s u k = record { numbered = also pending u k.numbered; grows = k.grows }

kept_then : (a b : Term) (s v u : ParserState) → Kept a s v → Kept b v u → Kept b s u
kept_then a b s v u k r =
    let first : s.numbering.next ≤ v.numbering.next = k.grows in
    let rest : v.numbering.next ≤ u.numbering.next = r.grows in
    record { numbered = r.numbered; grows = omega (arith, first, rest) }

kept_same : (pending : Term) (s u : ParserState) → Numbered pending s → ◌≡◌ {A = Outcome ParserState (Unit {0})} (Some (tt, s)) (Some (tt, u)) → Kept pending s u
kept_same pending s u n e =
    let same : s ≡ u = ap (λ p. p.1) (same_Some _ _ e) in
    let next : s.numbering.next ≡ u.numbering.next = ap (λ (z : ParserState). z.numbering.next) same in
    record { numbered = subst (Numbered pending) same n; grows = omega (arith, next) }

uses_keeps : (f : Term → Does (Unit {0})) → Uses f → InsideKeeps f
uses_keeps f h x pending s u b at n e = kept_also pending s u (h x pending s u b at n e)

object_uses : (predicate : List ℕ) (m : Meaning) → Good m → Uses (λ x. object x predicate m)
unfolding object
object_uses predicate m g x pending s u b at n e =
    let p = then_parts (m.term s) _ (tt, u) e in
    let o = g.term pending s p.1 p.0 n p.2 in
    let q = then_parts (says x predicate p.0 p.1) _ (tt, u) p.3 in
    let said = says_numbered x p.0 predicate pending p.1 at o.0 (below_on x s p.1 o.1 b) o.2 q.1 q.2 in
    let l : p.1.numbering.next ≤ q.1.numbering.next = (let same : q.1.numbering.next ≡ p.1.numbering.next = said.1 in omega (arith, same)) in
    let grown : s.numbering.next ≤ q.1.numbering.next = (let a : s.numbering.next ≤ p.1.numbering.next = o.1 in omega (arith, a, l)) in
    kept_then nothing nothing s q.1 u (record { numbered = said.0; grows = grown }) (g.inside p.0 nothing q.1 u (below_on p.0 p.1 q.1 l o.2) (nothing_at p.0) said.0 q.3)

-- one step that uses the subject, and others behind it
then_keeps : (f g : Term → Does (Unit {0})) → Uses f → InsideKeeps g → (x pending : Term) (s u : ParserState) → IsBelow x s → IsAt pending x → Numbered pending s
    → and_then (f x s) (λ _. g x) ≡ Some (tt, u) → Kept nothing s u
then_keeps f g h k x pending s u b at n e =
    let p = then_parts (f x s) (λ _. g x) (tt, u) e in
    let first = h x pending s p.1 b at n p.2 in
    kept_then nothing nothing s p.1 u first (k x nothing p.1 u (below_on x s p.1 first.grows b) (nothing_at x) first.numbered p.3)

objects_keep : (predicate : List ℕ) (ms : List Meaning) → AllByRecursion Good ms → InsideKeeps (λ x. each (object x predicate) ms)
objects_keep predicate [] all x pending s u b at n e = kept_same pending s u n e
objects_keep predicate (m ∷ ms) all x pending s u b at n e =
    kept_also pending s u (then_keeps (λ y. object y predicate m) (λ y. each (object y predicate) ms) (object_uses predicate m all.0) (objects_keep predicate ms all.1) x pending s u b at n e)

objects_use : (predicate : List ℕ) (ms : List Meaning) → AllByRecursion Good ms → Uses (λ x. objects x predicate ms)
objects_use predicate [] all x pending s u b at n e = absurd (cc e)
objects_use predicate (m ∷ ms) all x pending s u b at n e =
    then_keeps (λ y. object y predicate m) (λ y. each (object y predicate) ms) (object_uses predicate m all.0) (objects_keep predicate ms all.1) x pending s u b at n e

property_uses : (w : Verb) (ms : List Meaning) → AllByRecursion Good ms → Uses (λ x s. and_then (verb w s) (λ predicate. objects x predicate ms))
property_uses w ms all x pending s u b at n e =
    let p = then_parts (verb w s) _ (tt, u) e in
    let same : p.1 ≡ s = sym (verb_same w s p.1 p.0 p.2) in
    let h : objects x p.0 ms s ≡ Some (tt, u) = subst (λ (z : ParserState). objects x p.0 ms z ≡ Some (tt, u)) same p.3 in
    objects_use p.0 ms all x pending s u b at n h

properties_keep : (ps : List Says) → AllByRecursion Uses ps → InsideKeeps (λ x. each (λ p. p x) ps)
properties_keep [] all x pending s u b at n e = kept_same pending s u n e
properties_keep (f ∷ ps) all x pending s u b at n e =
    kept_also pending s u (then_keeps f (λ y. each (λ p. p y) ps) all.0 (properties_keep ps all.1) x pending s u b at n e)

properties_use : (ps : List Says) → is_some_property ps ≡ true → AllByRecursion Uses ps → Uses (λ x. each (λ p. p x) ps)
properties_use [] some all = absurd (cc some)
properties_use (f ∷ ps) some all = λ x pending s u b at n e. then_keeps f (λ y. each (λ p. p y) ps) all.0 (properties_keep ps all.1) x pending s u b at n e

-- ---- lists

behind_keeps : (ms : List Meaning) → AllByRecursion Good ms → InsideKeeps (λ x. behind x ms)
behind_keeps [] all x pending s u b at n e =
    let r = says_numbered x (t.Iri rdf_nil) rdf_rest pending s at (beside (t.Iri rdf_nil) pending s n) b (λ k z. absurd (iri_apart rdf_nil k z)) u e in
    let same : u.numbering.next ≡ s.numbering.next = r.1 in
    kept_also pending s u (record { numbered = r.0; grows = omega (arith, same) })
behind_keeps (m ∷ ms) all x pending s u b at n e =
    let p = then_parts (fresh s) _ (tt, u) e in
    let new = fresh_keeps pending s p.1 p.0 n p.2 in
    let q = then_parts (says x rdf_rest p.0 p.1) _ (tt, u) p.3 in
    let said = says_numbered x p.0 rdf_rest pending p.1 at new.0 (below_on x s p.1 new.1 b) new.2 q.1 q.2 in
    let l : p.1.numbering.next ≤ q.1.numbering.next = (let same : q.1.numbering.next ≡ p.1.numbering.next = said.1 in omega (arith, same)) in
    let grown : s.numbering.next ≤ q.1.numbering.next = (let a : s.numbering.next ≤ p.1.numbering.next = new.1 in omega (arith, a, l)) in
    let rest = then_keeps (λ y. object y rdf_first m) (λ y. behind y ms) (object_uses rdf_first m all.0) (behind_keeps ms all.1) p.0 nothing q.1 u (below_on p.0 p.1 q.1 l new.2) (nothing_at p.0) said.0 q.3 in
    kept_also pending s u (kept_then nothing nothing s q.1 u (record { numbered = said.0; grows = grown }) rest)

list_term_keeps : (ms : List Meaning) → TermKeeps (list_term ms)
list_term_keeps [] = stays_keeps _ nil_stays
list_term_keeps (m ∷ ms) = fresh_keeps

list_inside_keeps : (ms : List Meaning) → AllByRecursion Good ms → InsideKeeps (list_inside ms)
list_inside_keeps [] all x pending s u b at n e = kept_same pending s u n e
list_inside_keeps (m ∷ ms) all x pending s u b at n e =
    kept_also pending s u (then_keeps (λ y. object y rdf_first m) (λ y. behind y ms) (object_uses rdf_first m all.0) (behind_keeps ms all.1) x pending s u b at n e)

-- ---- trees

only_good : (f : Does Term) → TermKeeps f → Good (record { term = f; inside = λ _ s. Some (tt, s); alone = false })
only_good f h = record {
  term = h;
  inside = λ x pending s u b at n e. kept_same pending s u n e;
  alone = λ no. absurd (cc no);
}

abbrev GoodNode : Type 0
GoodNode = (d : Node) × Good (meaning d)

abbrev GoodProperty : Type 0
GoodProperty = (d : Property) × Uses (property d)

all_nodes : (ds : List GoodNode) → AllByRecursion Good (map meaning (map (λ e. e.0) ds))
all_nodes [] = tt
all_nodes (d ∷ ds) = (d.1, all_nodes ds)

all_properties : (ds : List GoodProperty) → AllByRecursion Uses (map property (map (λ e. e.0) ds))
all_properties [] = tt
all_properties (d ∷ ds) = (d.1, all_properties ds)

good_node : (y : Node-F GoodNode GoodProperty) → Good (node_of (map-Node Node Property Meaning Says meaning property (map-Node GoodNode GoodProperty Node Property (λ e. e.0) (λ e. e.0) y)))
good_node (Node-F.Name name) = only_good _ (stays_keeps _ (name_stays name))
good_node (Node-F.Label label) = only_good _ (labelled_keeps (key_of label))
good_node (Node-F.Blank ps) =
    let all = all_properties ps in
    record { term = fresh_keeps; inside = properties_keep _ all; alone = λ some. properties_use _ some all }
good_node (Node-F.Collection ms) =
    let all = all_nodes ms in
    record { term = list_term_keeps _; inside = list_inside_keeps _ all; alone = λ no. absurd (cc no) }
good_node (Node-F.Literal w) = only_good _ (stays_keeps _ (literal_stays w))

good_property : (y : Property-F GoodNode GoodProperty) → Uses (property_of (map-Property Node Property Meaning Says meaning property (map-Property GoodNode GoodProperty Node Property (λ e. e.0) (λ e. e.0) y)))
good_property y = property_uses y.verb _ (all_nodes y.objects)

abbrev NodeStep : Type 0
NodeStep = (x : Node-F Node Property) (y : Node-F GoodNode GoodProperty) → map-Node GoodNode GoodProperty Node Property (λ e. e.0) (λ e. e.0) y ≡ x → Good (meaning (roll-Node x))

node_step : NodeStep
node_step x y is = subst (λ z. Good (meaning (roll-Node z))) is (subst Good (sym (fold-roll-Node Meaning Says node_of property_of (map-Node GoodNode GoodProperty Node Property (λ e. e.0) (λ e. e.0) y))) (good_node y))

abbrev PropertyStep : Type 0
PropertyStep = (x : Property-F Node Property) (y : Property-F GoodNode GoodProperty) → map-Property GoodNode GoodProperty Node Property (λ e. e.0) (λ e. e.0) y ≡ x → Uses (property (roll-Property x))

property_step : PropertyStep
property_step x y is = subst (λ z. Uses (property (roll-Property z))) is (subst Uses (sym (fold-roll-Property Meaning Says node_of property_of (map-Property GoodNode GoodProperty Node Property (λ e. e.0) (λ e. e.0) y))) (good_property y))

nodes_good : (d : Node) → Good (meaning d)
nodes_good = ind-Node (λ d. Good (meaning d)) (λ d. Uses (property d)) node_step property_step

properties_good : (d : Property) → Uses (property d)
properties_good = ind-Property (λ d. Good (meaning d)) (λ d. Uses (property d)) node_step property_step

all_good : (ps : List Property) → AllByRecursion Uses (map property ps)
all_good [] = tt
all_good (p ∷ ps) = (properties_good p, all_good ps)

-- ---- statements

abbrev Closed : Does (Unit {0}) → Type 0
Closed f = (s u : ParserState) → Numbered nothing s → f s ≡ Some (tt, u) → Numbered nothing u

same_numbers : (s u : ParserState) → Numbered nothing s → s.numbering.next ≡ u.numbering.next → s.quads ≡ u.quads → s.numbering.labels ≡ u.numbering.labels → Numbered nothing u
same_numbers s u h next quads labels = record {
  covered = λ n l. elim (h.covered n (subst (λ (i : ℕ). n < i) (sym next) l)) [ inl x ↦ inl (subst (λ (z : List QuadParts). Said z n) quads x) | inr y ↦ inr y ];
  below = λ n x. subst (λ (i : ℕ). n < i) next (h.below n (subst (λ (z : List QuadParts). Said z n) (sym quads) x));
  labels = subst (λ z. AllByRecursion (λ e. e.1 < u.numbering.next) z) labels (subst (λ (i : ℕ). AllByRecursion (λ e. e.1 < i) s.numbering.labels) next h.labels);
  triples = subst (λ z. AllByRecursion IsTriple z) quads h.triples;
  order = subst AreNumberedInOrder quads h.order;
}

declared_closed : (f : Prologue → Prologue) → Closed (declared f)
declared_closed f s u h e =
    let same = ap (λ p. p.1) (same_Some _ _ e) in
    same_numbers s u h (ap (λ (z : ParserState). z.numbering.next) same) (ap (λ (z : ParserState). z.quads) same) (ap (λ (z : ParserState). z.numbering.labels) same)

resolved_closed : (r : List ℕ) (f : List ℕ → Does (Unit {0})) → ((i : List ℕ) → Closed (f i)) → Closed (λ s. and_then (told (resolved r) s) f)
resolved_closed r f h s u n e =
    let p = then_parts (told (resolved r) s) f (tt, u) e in
    let same = told_same (resolved r) s p.1 p.0 p.2 in
    h p.0 p.1 u (subst (Numbered nothing) same n) p.3

triples_closed : (m : Meaning) (ps : List Says) → Good m → AllByRecursion Uses ps → (m.alone ≡ true) ⊎ (is_some_property ps ≡ true)
    → Closed (λ s. and_then (m.term s) (λ x. λ a. and_then (m.inside x a) (λ _ b. each (λ p. p x) ps b)))
triples_closed m ps g all some s u n e =
    let p = then_parts (m.term s) _ (tt, u) e in
    let o = g.term nothing s p.1 p.0 n p.2 in
    let first : Numbered p.0 p.1 = only_last p.0 p.1 o.0 in
    let q = then_parts (m.inside p.0 p.1) _ (tt, u) p.3 in
    elim some [
      | inl alone ↦ (
          let r = g.alone alone p.0 p.0 p.1 q.1 o.2 (λ k z. z) first q.2 in
          (properties_keep ps all p.0 nothing q.1 u (below_on p.0 p.1 q.1 r.grows o.2) (nothing_at p.0) r.numbered q.3).numbered)
      | inr there ↦ (
          let r = g.inside p.0 p.0 p.1 q.1 o.2 (λ k z. z) first q.2 in
          (properties_use ps there all p.0 p.0 q.1 u (below_on p.0 p.1 q.1 r.grows o.2) (λ k z. z) r.numbered q.3).numbered)
    ]

some_of : (alone : Bool) (ps : List Property) → has_properties alone ps ≡ true → (alone ≡ true) ⊎ (is_some_property (map property ps) ≡ true)
some_of alone [] h = inl h
some_of alone (p ∷ ps) h = inr refl

statement_closed : (w : Statement) → Closed (statement w)
unfolding statement
statement_closed (s.Prefix prefix reference) = resolved_closed reference (λ i. declared (declares (key_of prefix) i)) (λ i. declared_closed (declares (key_of prefix) i))
statement_closed (s.Base reference) = resolved_closed reference (λ i. declared (moves_base i)) (λ i. declared_closed (moves_base i))
statement_closed (s.Triples node ps) = λ x u n e. by x u n (has_properties (meaning node).alone ps) refl e
  where
    by : (x u : ParserState) → Numbered nothing x → (b : Bool) → has_properties (meaning node).alone ps ≡ b
        → if◌then◌else◌ {A = Does (Unit {0})} b (λ z. and_then ((meaning node).term z) (λ y. λ a. and_then ((meaning node).inside y a) (λ _ c. properties y ps c))) (λ z. None) x ≡ Some (tt, u) → Numbered nothing u
    by x u n true h e = triples_closed (meaning node) (map property ps) (nodes_good node) (all_good ps) (some_of (meaning node).alone ps h) x u n e
    by x u n false h e = absurd (cc e)

document_closed : (ws : List Statement) → Closed (document ws)
document_closed [] s u n e = subst (Numbered nothing) (ap (λ p. p.1) (same_Some _ _ e)) n
document_closed (w ∷ ws) s u n e =
    let p = then_parts (statement w s) _ (tt, u) e in
    document_closed ws p.1 u (statement_closed w s p.1 n p.2) p.3

-- ---- documents

none_stands : {A : Type 0} (front back : List ℕ) (number : ℕ) → [] ≡ front ++ number ∷ back → A
none_stands [] back number e = absurd (cc e)
none_stands (k ∷ front) back number e = absurd (cc e)

start_numbered : (base : Option (List ℕ)) → Numbered nothing (start base)
start_numbered base = record {
  covered = λ n l. absurd (let z : n < 0 = l in omega (arith, z));
  below = λ n h. absurd (let z : h.0 < 0 = h.1 in omega (arith, z));
  labels = tt;
  triples = tt;
  order = λ front back number smaller e l. none_stands front back number e;
}

answered : (ok : Bool) (o : Option (List QuadParts)) (quads : List QuadParts) → (if ok then ok_or o Relative else Err UnknownPrefix) ≡ Ok quads → o ≡ Some quads
answered true None quads e = absurd (cc e)
answered true (Some qs) quads e = (let same : qs ≡ quads = cc e in ap (λ z. Some z) same)
answered false o quads e = absurd (cc e)

at_end : (base : Option (List ℕ)) (ws : List Statement) (quads : List QuadParts) → triples_of base ws ≡ Some quads → (u : ParserState) × Numbered nothing u × (u.quads ≡ quads)
unfolding triples_of
at_end base ws quads e = by (document ws (start base)) refl e
  where
    by : (o : Outcome ParserState (Unit {0})) → document ws (start base) ≡ o → option_map (λ p. (p.1).quads) o ≡ Some quads → (u : ParserState) × Numbered nothing u × (u.quads ≡ quads)
    by None d e = absurd (cc e)
    by (Some p) d e = (p.1, document_closed ws (start base) p.1 (start_numbered base) d, same_Some _ _ e)

pub numbers : BlankNumbersAreBelow
numbers base ws quads e =
    let end = at_end base ws quads (answered (declares_first [] ws) (triples_of base ws) quads e) in (
      end.0.numbering.next,
      (λ n. (
        (λ l. elim (end.1.covered n l) [ inl said ↦ subst (λ z. Contains (flat_map blanks_of z) n) end.2 said | inr none ↦ absurd (iri_apart [] n none) ]),
        (λ h. end.1.below n (subst (λ z. Contains (flat_map blanks_of z) n) (sym end.2) h)),
      )),
      subst (λ z. AllByRecursion IsTriple z) end.2 end.1.triples,
    )

-- the numbers of a document come in order
pub numbers_in_order : (base : Option (List ℕ)) (ws : List Statement) (quads : List QuadParts) → answer base ws ≡ Ok quads → AreNumberedInOrder quads
numbers_in_order base ws quads e =
    let end = at_end base ws quads (answered (declares_first [] ws) (triples_of base ws) quads e) in
    subst AreNumberedInOrder end.2 end.1.order
