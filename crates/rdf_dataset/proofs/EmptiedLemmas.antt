-- What the parts of a view that were emptied hold, and what emptying leaves.
use Rattle.std.proofs.Common.{◌≡◌, Bool, true, false, ◌||◌, ◌&&◌, not, List, [], ◌∷◌, ◌++◌, Option, None, Some, refl, sym, ap, ◌∙◌, subst, IsTrue, Bor}
use mathlib.Core.Bool.{true≢false}
use Rattle.std.specs.Prelude.{IfOk, IfSome, Err, Ok, Result, option_copied}
use Rattle.std.specs.Result.{result_ok}
use Rattle.std.specs.Ordering.{eq_by_cmp}
use Rattle.std.specs.FinSet as set
use Rattle.std.specs.FinSet.{contains, from_list, same_set, contains-empty, contains-from_list, contains-insert, contains-remove, contains-union, insert, len-empty, remove, retain}
use Rattle.rdf_terms.specs.declared.term.Term.{Term}
use Rattle.rdf_terms.specs.declared.quad.GraphName.{GraphName}
use Rattle.rdf_terms.specs.declared.quad.GraphName.TheVariants.{Default, Named}
use Rattle.rdf_terms.specs.Quad.{QuadParts}
use Rattle.rdf_terms.specs.Order.{graph_cmp, quad_cmp, term_cmp}
use Rattle.rdf_terms.specs.OrderLaws.{graph_cmp_total, graph_cmp-IsAntisymmetric, quad_cmp_total, quad_cmp-IsAntisymmetric, term_cmp_total, term_cmp-IsAntisymmetric}
use Rattle.std.specs.List.Sorted.{IsStrictlySortedBy}
use Rattle.rdf_terms.specs.Lists.{AppendsOnce, ListsOnce}
use Rattle.rdf_sets.proofs.CallerLemmas.{lists_once, retained, tie_itself, tie_same}
use Rattle.rdf_orders.specs.Contents.{IsDisjoint}
use Rattle.rdf_store.specs.Stored.{Stored}
use Rattle.rdf_store.specs.Stored as stored
use Rattle.rdf_dataset.specs.State.{State, Change, Names, Quads, IsEmptyGraph, IsSound, applied, in_named, is_default, matches, net_between, with_graph, with_quad, without_graph, without_named}
use Rattle.rdf_dataset.proofs.ClearingLemmas.{turned}
use Rattle.rdf_dataset.proofs.StateLemmas.{net_ends}
use Rattle.rdf_dataset.specs.declared.emptied.Emptied.{Emptied}
use Rattle.rdf_dataset.specs.Inside.Emptied.{AreHeld, AreNames, AreParts, FindsTheSame, IsPart, in_default, in_graphs, is_among}

kept : (quads : Quads) (test : QuadParts → Bool) (q : QuadParts) → contains (retain quads test) q ≡ (contains quads q && test q)
kept quads test q = retained quad_cmp_total quad_cmp-IsAntisymmetric quads test q

same : (s t : Quads) → ((q : QuadParts) → contains s q ≡ contains t q) → s ≡ t
same s t h = same_set quad_cmp_total quad_cmp-IsAntisymmetric s t h

-- ---- a quad comes or goes

pub part_gained : (quads part new : Quads) (test : QuadParts → Bool) (q : QuadParts) → IsTrue (test q) → part ≡ retain quads test → new ≡ insert part q → new ≡ retain (insert quads q) test
part_gained quads part new test q t e n =
    n ∙ ap (λ s. insert s q) e
    ∙ same _ _ (λ x.
    contains-insert quad_cmp_total (retain quads test) q x ∙ ap (λ b. eq_by_cmp quad_cmp x q || b) (kept quads test x)
    ∙ both (eq_by_cmp quad_cmp x q) (contains quads x) (test x) (λ h. ap test (tie_same quad_cmp_total quad_cmp-IsAntisymmetric x q h) ∙ t)
    ∙ sym (kept (insert quads q) test x ∙ ap (λ b. b && test x) (contains-insert quad_cmp_total quads q x)))
  where
    both : (e a b : Bool) → (e ≡ true → b ≡ true) → (e || (a && b)) ≡ ((e || a) && b)
    both true a b h = sym (h refl)
    both false a b h = refl

-- a quad that is no part of it comes
pub part_same : (quads part : Quads) (test : QuadParts → Bool) (q : QuadParts) → test q ≡ false → part ≡ retain quads test → part ≡ retain (insert quads q) test
part_same quads part test q t e =
    e
    ∙ same _ _ (λ x.
    kept quads test x
    ∙ none (eq_by_cmp quad_cmp x q) (contains quads x) (test x) (λ h. ap test (tie_same quad_cmp_total quad_cmp-IsAntisymmetric x q h) ∙ t)
    ∙ sym (kept (insert quads q) test x ∙ ap (λ b. b && test x) (contains-insert quad_cmp_total quads q x)))
  where
    none : (e a b : Bool) → (e ≡ true → b ≡ false) → (a && b) ≡ ((e || a) && b)
    none true true b h = refl
    none true false b h = sym (h refl)
    none false a b h = refl

pub part_lost : (quads part new : Quads) (test : QuadParts → Bool) (q : QuadParts) → part ≡ retain quads test → new ≡ remove part q → new ≡ retain (remove quads q) test
part_lost quads part new test q e n =
    n ∙ ap (λ s. remove s q) e
    ∙ same _ _ (λ x.
    contains-remove quad_cmp_total (retain quads test) q x ∙ ap (λ b. not (eq_by_cmp quad_cmp x q) && b) (kept quads test x)
    ∙ in_a_row (not (eq_by_cmp quad_cmp x q)) (contains quads x) (test x)
    ∙ sym (kept (remove quads q) test x ∙ ap (λ b. b && test x) (contains-remove quad_cmp_total quads q x)))
  where
    in_a_row : (a b c : Bool) → (a && (b && c)) ≡ ((a && b) && c)
    in_a_row true b c = refl
    in_a_row false b c = refl

-- ---- look-ups

-- what lies in the graph passes the test
finds : (g : GraphName) (part quads : Quads) (test : QuadParts → Bool) → ((q : QuadParts) → eq_by_cmp graph_cmp g q.graph ≡ true → test q ≡ true) → part ≡ retain quads test → FindsTheSame g part quads
finds g part quads test all e s p o =
    ap (λ z. retain z (matches g s p o)) e
    ∙ same _ _ (λ q.
    kept (retain quads test) (matches g s p o) q ∙ ap (λ b. b && matches g s p o q) (kept quads test q)
    ∙ within (contains quads q) (test q) (eq_by_cmp graph_cmp g q.graph) _ (all q)
    ∙ sym (kept quads (matches g s p o) q))
  where
    within : (a t g m : Bool) → (g ≡ true → t ≡ true) → ((a && t) && (g && m)) ≡ (a && (g && m))
    within true true g m h = refl
    within true false true m h = absurd (true≢false (sym (h refl)))
    within true false false m h = refl
    within false t g m h = refl

pub finds_default : (g : GraphName) (part quads : Quads) → g ≡ Default → part ≡ retain quads in_default → FindsTheSame g part quads
finds_default g part quads e p = finds g part quads in_default (λ q t. sym (ap is_default (sym e ∙ tie_same graph_cmp_total graph_cmp-IsAntisymmetric g q.graph t))) p

pub finds_named : (g : GraphName) (n : Term) (part quads : Quads) → g ≡ Named n → part ≡ retain quads in_named → FindsTheSame g part quads
finds_named g n part quads e p = finds g part quads in_named (λ q t. sym (ap (λ x. not (is_default x)) (sym e ∙ tie_same graph_cmp_total graph_cmp-IsAntisymmetric g q.graph t))) p

finds_among : (g : GraphName) (part quads : Quads) (names : Names) → is_among names g ≡ true → part ≡ retain quads (in_graphs names) → FindsTheSame g part quads
finds_among g part quads names among e = finds g part quads (in_graphs names) (λ q t. ap (is_among names) (sym (tie_same graph_cmp_total graph_cmp-IsAntisymmetric g q.graph t)) ∙ among) e

-- ---- the parts of a state

others_stay : (test : QuadParts → Bool) (part : Option Stored) (quads : Quads) (q : QuadParts) → test q ≡ false → IsPart test part quads → IsPart test part (insert quads q)
others_stay test None quads q t h = tt
others_stay test (Some s) quads q t h = part_same quads s.quads test q t h

-- a quad of the default graph is in none of them
graphs_stay : (graphs : Option Stored) (quads : Quads) (q : QuadParts) → q.graph ≡ Default → AreHeld graphs quads → AreHeld graphs (insert quads q)
graphs_stay None quads q g h = tt
graphs_stay (Some s) quads q g h = part_same quads s.quads (in_graphs s.names) q (ap (is_among s.names) g) h

pub parts_with_default : (e : Emptied) (s : State) (q : QuadParts) (part gained : Option Stored) → q.graph ≡ Default → part ≡ e.default
    → ((quads : Quads) (test : QuadParts → Bool) → IsTrue (test q) → IsPart test part quads → IsPart test gained (insert quads q))
    → AreParts e s → AreParts (record { default = gained; named = e.named; names = e.names; graphs = e.graphs }) (with_quad s q)
parts_with_default e s q part gained g is comes a = record {
  in_default_graph = comes s.quads in_default (ap is_default g) (subst (λ p. IsPart in_default p s.quads) (sym is) a.in_default_graph);
  in_named_graphs = others_stay in_named e.named s.quads q (ap (λ x. not (is_default x)) g) a.in_named_graphs;
  of_graphs = subst (λ x. AreNames e.names (with_graph s.names x)) (sym g) a.of_graphs;
  in_each_graph = graphs_stay e.graphs s.quads q g a.in_each_graph;
}

pub parts_with_named : (e : Emptied) (s : State) (q : QuadParts) (n : Term) (part gained : Option Stored) (names more : Option (List Term)) (graphs apart : Option Stored) → q.graph ≡ Named n → part ≡ e.named → names ≡ e.names → graphs ≡ e.graphs
    → ((quads : Quads) (test : QuadParts → Bool) → IsTrue (test q) → IsPart test part quads → IsPart test gained (insert quads q))
    → ((known : Names) → AreNames names known → AreNames more (insert known n))
    → ((quads : Quads) → q.graph ≡ Named n → AreHeld graphs quads → AreHeld apart (insert quads q))
    → AreParts e s → AreParts (record { default = e.default; named = gained; names = more; graphs = apart }) (with_quad s q)
parts_with_named e s q n part gained names more graphs apart g is named_is graphs_are comes name_comes comes_apart a = record {
  in_default_graph = others_stay in_default e.default s.quads q (ap is_default g) a.in_default_graph;
  in_named_graphs = comes s.quads in_named (ap (λ x. not (is_default x)) g) (subst (λ p. IsPart in_named p s.quads) (sym is) a.in_named_graphs);
  of_graphs = subst (λ x. AreNames more (with_graph s.names x)) (sym g) (name_comes s.names (subst (λ p. AreNames p s.names) (sym named_is) a.of_graphs));
  in_each_graph = comes_apart s.quads g (subst (λ p. AreHeld p s.quads) (sym graphs_are) a.in_each_graph);
}

-- the part in which a graph is found, where it was emptied
abbrev pub Found : GraphName → Emptied → Option (Bor Stored) → Type 0
Found g e found = IfSome found (λ part. (s : State) → AreParts e s → FindsTheSame g part.now.quads s.quads)

pub found_default : (g : GraphName) (e : Emptied) (found : Option (Bor Stored)) → g ≡ Default → option_copied found ≡ e.default → Found g e found
found_default g e None is v = tt
found_default g e (Some part) is v = λ s a. finds_default g part.now.quads s.quads is (subst (λ p. IsPart in_default p s.quads) (sym v) a.in_default_graph)

pub found_named : (g : GraphName) (n : Term) (e : Emptied) (found : Option (Bor Stored)) → g ≡ Named n → option_copied found ≡ e.named → Found g e found
found_named g n e None is v = tt
found_named g n e (Some part) is v = λ s a. finds_named g n part.now.quads s.quads is (subst (λ p. IsPart in_named p s.quads) (sym v) a.in_named_graphs)

pub found_apart : (g : GraphName) (n : Term) (e : Emptied) (found : Option (Bor Stored)) → g ≡ Named n → IfSome found (λ part. (s : State) → AreParts e s → FindsTheSame (Named n) part.now.quads s.quads) → Found g e found
found_apart g n e found is h = subst (λ x. Found x e found) (sym is) h

pub found_in_graphs : (n : Term) (e : Emptied) (found : Stored) → Some found ≡ e.graphs → contains found.names n ≡ true → (s : State) → AreParts e s → FindsTheSame (Named n) found.quads s.quads
found_in_graphs n e found v among s a = finds_among (Named n) found.quads s.quads found.names among (subst (λ p. AreHeld p s.quads) (sym v) a.in_each_graph)

-- ---- a staged view

-- the net leads to a sound state, and the parts hold what it has of them
abbrev pub KeepsParts : State → Change → Emptied → Type 0
KeepsParts u n e = (n ≡ net_between u (applied n u)) × IsSound (applied n u) × AreParts e (applied n u)

pub restaged_with : (u t : State) (n : Change) (e : Emptied) → n ≡ net_between u t → IsSound t → AreParts e t → KeepsParts u n e
restaged_with u t n e is sound parts =
    let a = net_ends u t n is in
    (subst (λ x. n ≡ net_between u x) (sym a) is, subst IsSound (sym a) sound, subst (AreParts e) (sym a) parts)

-- ---- names that are listed

pub names_listed : (part : Option (List Term)) (listed old new : List Term) (names : Names) → part ≡ Some listed → AreNames part names → IsStrictlySortedBy term_cmp listed → new ≡ old ++ listed → AppendsOnce names old new
names_listed part listed old new names is known rises e = record {
  found = listed;
  appended = e;
  each_once = subst (λ z. ListsOnce z listed) (subst (λ p. AreNames p names) is known) (lists_once term_cmp_total term_cmp-IsAntisymmetric listed rises);
}

-- tests that agree on the quads
alike : (quads : Quads) (p r : QuadParts → Bool) → ((q : QuadParts) → contains quads q ≡ true → p q ≡ r q) → retain quads p ≡ retain quads r
alike quads p r h = same _ _ (λ q. kept quads p q ∙ where_true (contains quads q) (p q) (r q) (h q) ∙ sym (kept quads r q))
  where
    where_true : (a x y : Bool) → (a ≡ true → x ≡ y) → (a && x) ≡ (a && y)
    where_true true x y h = h refl
    where_true false x y h = refl

-- ---- a part is emptied

nothing_passes : (quads : Quads) (p r : QuadParts → Bool) → retain quads p ≡ quads → ((q : QuadParts) → r q ≡ not (p q)) → set.empty ≡ retain quads r
nothing_passes quads p r e h = same _ _ (λ q.
    contains-empty quad_cmp q
    ∙ sym (kept quads r q ∙ ap (λ b. contains quads q && b) (h q) ∙ ap (λ z. contains z q && not (p q)) (sym e) ∙ ap (λ b. b && not (p q)) (kept quads p q) ∙ out (contains quads q) (p q)))
  where
    out : (a b : Bool) → ((a && b) && not b) ≡ false
    out true true = refl
    out true false = refl
    out false b = refl

-- none of the quads passes the test
none_passes : (quads : Quads) (r : QuadParts → Bool) → ((q : QuadParts) → contains quads q ≡ true → r q ≡ false) → set.empty ≡ retain quads r
none_passes quads r h = same _ _ (λ q. contains-empty quad_cmp q ∙ sym (kept quads r q ∙ neither (contains quads q) (r q) (h q)))
  where
    neither : (a b : Bool) → (a ≡ true → b ≡ false) → (a && b) ≡ false
    neither true b h = h refl
    neither false b h = refl

-- the quads of a graph are those that a look-up in it finds
of_default : (g : GraphName) → (eq_by_cmp graph_cmp Default g && true) ≡ is_default g
of_default Default = refl
of_default (Named n) = refl

-- a store that was empty has what came in
pub part_is : (part new : Stored) (quads : List QuadParts) → part ≡ stored.empty_stored → new ≡ stored.with_all part quads [] → new.quads ≡ from_list quads
part_is part new quads none is =
    ap (λ (z : Stored). z.quads) is ∙ ap (λ (z : Stored). set.union z.quads (from_list quads)) none
    ∙ same _ _ (λ q. contains-union quad_cmp_total set.empty (from_list quads) q ∙ ap (λ b. b || contains (from_list {R = quad_cmp} quads) q) (contains-empty quad_cmp q))

pub no_quads_apart : (part : Stored) (quads : Quads) → part ≡ stored.empty_stored → IsDisjoint part.quads quads
no_quads_apart part quads none q h _ = true≢false (sym h ∙ ap (λ (z : Stored). contains z.quads q) none ∙ contains-empty quad_cmp q)

pub no_names_apart : (part : Stored) (names : Names) → part ≡ stored.empty_stored → IsDisjoint part.names names
no_names_apart part names none n h _ = true≢false (sym h ∙ ap (λ (z : Stored). contains z.names n) none ∙ contains-empty term_cmp n)

-- a name that was copied
pub name_copied : {E : Type 0} (r : Result Term E) (o : Option Term) (m n : Term) → o ≡ result_ok r → o ≡ Some m → IfOk r (λ t. t ≡ n) → m ≡ n
name_copied r o m n e is h = subst (λ z. IfSome z (λ t. t ≡ n)) (sym e ∙ is) (kept_ok r h)
  where
    kept_ok : {E : Type 0} (r : Result Term E) → IfOk r (λ t. t ≡ n) → IfSome (result_ok r) (λ t. t ≡ n)
    kept_ok (Ok x) h = h
    kept_ok (Err e) h = tt

-- the default graph is found in a part of its own
pub default_held : (s : State) (e : Emptied) (part : Option Stored) (g : GraphName) (quads : List QuadParts) → g ≡ Default → IfSome part (λ p. p.quads ≡ from_list quads)
    → ListsOnce (retain s.quads (matches g None None None)) quads → AreParts e s → AreParts (record { default = part; named = e.named; names = e.names; graphs = e.graphs }) s
default_held s e part g quads d is l a = record {
  in_default_graph = found part is;
  in_named_graphs = a.in_named_graphs;
  of_graphs = a.of_graphs;
  in_each_graph = a.in_each_graph;
}
  where
    found : (part : Option Stored) → IfSome part (λ p. p.quads ≡ from_list quads) → IsPart in_default part s.quads
    found None h = tt
    found (Some p) h = h ∙ l.all ∙ ap (λ x. retain s.quads (matches x None None None)) d ∙ alike s.quads _ in_default (λ q _. of_default q.graph)

-- no named graph has a quad
pub named_renewed : (s : State) (e : Emptied) (part : Stored) → part.quads ≡ set.empty → without_named s ≡ s → AreParts e s → AreParts (record { default = e.default; named = Some part; names = e.names; graphs = e.graphs }) s
named_renewed s e part none only a = record {
  in_default_graph = a.in_default_graph;
  in_named_graphs = none ∙ nothing_passes s.quads (λ q. is_default q.graph) in_named (ap (λ (t : State). t.quads) only) (λ q. refl);
  of_graphs = a.of_graphs;
  in_each_graph = a.in_each_graph;
}

pub names_renewed : (s : State) (e : Emptied) (listed : List Term) → from_list listed ≡ s.names → AreParts e s → AreParts (record { default = e.default; named = e.named; names = Some listed; graphs = e.graphs }) s
names_renewed s e listed is a = record { in_default_graph = a.in_default_graph; in_named_graphs = a.in_named_graphs; of_graphs = is; in_each_graph = a.in_each_graph }

-- ---- graphs that were emptied one by one

-- there is none
pub none_held : (quads : Quads) → AreHeld (Some stored.empty_stored) quads
none_held quads = none_passes quads (in_graphs set.empty) (λ q h. outside q.graph)
  where
    outside : (g : GraphName) → is_among set.empty g ≡ false
    outside Default = refl
    outside (Named n) = contains-empty term_cmp n

-- a graph is one of them, or is not
pub gained_there : (graphs : Stored) (quads : Quads) (q : QuadParts) (n : Term) (new : Stored) → q.graph ≡ Named n → contains graphs.names n ≡ true → new ≡ stored.with_quad graphs q → AreHeld (Some graphs) quads → AreHeld (Some new) (insert quads q)
gained_there graphs quads q n new g among is h =
    subst (λ (z : Stored). AreHeld (Some z) (insert quads q)) (sym is)
    (part_gained quads graphs.quads _ (in_graphs graphs.names) q (ap (is_among graphs.names) g ∙ among) h refl)

pub gained_elsewhere : (graphs : Stored) (quads : Quads) (q : QuadParts) (n : Term) → q.graph ≡ Named n → contains graphs.names n ≡ false → AreHeld (Some graphs) quads → AreHeld (Some graphs) (insert quads q)
gained_elsewhere graphs quads q n g apart h = part_same quads graphs.quads (in_graphs graphs.names) q (ap (is_among graphs.names) g ∙ apart) h

pub lost_there : (graphs : Stored) (quads : Quads) (q : QuadParts) (new : Stored) → new ≡ stored.without_quad graphs q → AreHeld (Some graphs) quads → AreHeld (Some new) (remove quads q)
lost_there graphs quads q new is h =
    subst (λ (z : Stored). AreHeld (Some z) (remove quads q)) (sym is) (part_lost quads graphs.quads _ (in_graphs graphs.names) q h refl)

-- a graph that isn't one of them becomes one
module _ (graphs : Stored) (s : State) (n : Term) (quads : List QuadParts) (h : AreHeld (Some graphs) s.quads) (l : ListsOnce (retain s.quads (matches (Named n) None None None)) quads) where
  among_them : (q : QuadParts) → contains graphs.quads q ≡ (contains s.quads q && is_among graphs.names q.graph)
  among_them q = ap (λ z. contains z q) h ∙ kept s.quads (in_graphs graphs.names) q

  in_this : (q : QuadParts) → contains (from_list {R = quad_cmp} quads) q ≡ (contains s.quads q && (eq_by_cmp graph_cmp (Named n) q.graph && true))
  in_this q = ap (λ z. contains z q) l.all ∙ kept s.quads (matches (Named n) None None None) q

  pub graphs_apart : contains graphs.names n ≡ false → IsDisjoint graphs.quads (from_list quads)
  graphs_apart new q e f =
      let same_graph = tie_same graph_cmp_total graph_cmp-IsAntisymmetric (Named n) q.graph (first_of (eq_by_cmp graph_cmp (Named n) q.graph) (second_of (contains s.quads q) _ (sym (in_this q) ∙ f))) in
      true≢false (sym (second_of (contains s.quads q) _ (sym (among_them q) ∙ e)) ∙ ap (is_among graphs.names) (sym same_graph) ∙ new)
    where
      first_of : (a : Bool) → (a && true) ≡ true → a ≡ true
      first_of true x = refl
      first_of false x = x

      second_of : (a b : Bool) → (a && b) ≡ true → b ≡ true
      second_of true b x = x
      second_of false b x = absurd (true≢false (sym x))

  pub with_graph_held : (new : Stored) (m : Term) → m ≡ n → new ≡ stored.with_all graphs quads (m ∷ []) → AreHeld (Some new) s.quads
  with_graph_held new m is e =
      subst (λ (z : Stored). AreHeld (Some z) s.quads) (sym (e ∙ ap (λ x. stored.with_all graphs quads (x ∷ [])) is))
      (same _ _ (λ q.
      contains-union quad_cmp_total graphs.quads (from_list quads) q ∙ (λ i. among_them q i || in_this q i) ∙ one_of (contains s.quads q) q.graph
      ∙ sym (kept s.quads (in_graphs (set.union graphs.names (from_list (n ∷ [])))) q)))
    where
      none_more : (c : Bool) → ((c && false) || (c && false)) ≡ (c && false)
      none_more true = refl
      none_more false = refl

      spread : (c a b : Bool) → ((c && a) || (c && (b && true))) ≡ (c && (a || (b || false)))
      spread true a true = refl
      spread true true false = refl
      spread true false false = refl
      spread false a b = refl

      one_of : (c : Bool) (g : GraphName) → ((c && is_among graphs.names g) || (c && (eq_by_cmp graph_cmp (Named n) g && true))) ≡ (c && is_among (set.union graphs.names (from_list (n ∷ []))) g)
      one_of c Default = none_more c
      one_of c (Named x) =
          spread c (contains graphs.names x) (eq_by_cmp term_cmp n x)
          ∙ ap (λ b. c && (contains graphs.names x || (b || false))) (turned x n)
          ∙ ap (λ b. c && b) (sym (contains-union term_cmp_total graphs.names (from_list (n ∷ [])) x ∙ ap (λ b. contains graphs.names x || b) (contains-from_list term_cmp_total (n ∷ []) x)))

pub name_apart : (names : Names) (n m : Term) → m ≡ n → contains names n ≡ false → IsDisjoint names (from_list (m ∷ []))
name_apart names n m is new x h k =
    true≢false (sym h ∙ ap (contains names) (tie_same term_cmp_total term_cmp-IsAntisymmetric x m (alone (eq_by_cmp term_cmp x m) (sym (contains-from_list term_cmp_total (m ∷ []) x) ∙ k)) ∙ is) ∙ new)
  where
    alone : (a : Bool) → (a || false) ≡ true → a ≡ true
    alone true e = refl
    alone false e = e

-- a graph that is emptied has no quad
pub is_emptied : (s t : State) (g : GraphName) → t ≡ without_graph s g → IsEmptyGraph t g
is_emptied s t g e q h is =
    let left = sym (kept s.quads (λ x. not (eq_by_cmp graph_cmp g x.graph)) q) ∙ ap (λ (z : State). contains z.quads q) (sym e) ∙ h in
    true≢false (sym (second (contains s.quads q) _ left) ∙ ap not (ap (eq_by_cmp graph_cmp g) is ∙ tie_itself graph_cmp_total graph_cmp-IsAntisymmetric g))
  where
    second : (a b : Bool) → (a && b) ≡ true → b ≡ true
    second true b h = h
    second false b h = absurd (true≢false (sym h))

-- no quad of it is listed
pub nothing_listed : (s : State) (g : GraphName) → IsEmptyGraph s g → ListsOnce (retain s.quads (matches g None None None)) []
nothing_listed s g empty =
    let none : from_list [] ≡ retain s.quads (matches g None None None) = none_passes s.quads (matches g None None None) (λ q h. not_there (eq_by_cmp graph_cmp g q.graph) (λ t. empty q h (sym (tie_same graph_cmp_total graph_cmp-IsAntisymmetric g q.graph t)))) in
    record { all = none; once = sym (len-empty quad_cmp) ∙ ap set.len none }
  where
    not_there : (b : Bool) → ¬ (b ≡ true) → (b && true) ≡ false
    not_there true h = absurd (h refl)
    not_there false h = refl

-- what a part that was emptied has of named graphs is all of it
pub named_part : (quads part : Quads) → part ≡ retain quads in_named → retain part in_named ≡ retain quads in_named
named_part quads part e = ap (λ z. retain z in_named) e ∙ same _ _ (λ q. kept (retain quads in_named) in_named q ∙ ap (λ b. b && in_named q) (kept quads in_named q) ∙ twice (contains quads q) (in_named q) ∙ sym (kept quads in_named q))
  where
    twice : (a b : Bool) → ((a && b) && b) ≡ (a && b)
    twice true true = refl
    twice true false = refl
    twice false b = refl
