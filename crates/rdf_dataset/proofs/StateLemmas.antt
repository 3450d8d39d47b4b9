-- States, the nets between them, and what keeps a state sound.
use Rattle.std.proofs.Common.{◌≡◌, ◌⊎◌, inl, inr, ℕ, ◌+◌, ◌≤◌, Bool, true, false, not, ◌&&◌, ◌||◌, List, [], ◌∷◌, refl, sym, ap, ◌∙◌, subst, IsTrue, arith}
use mathlib.Core.Bool.{true≢false}
use Rattle.std.specs.declared.cmp.Ordering.{Ordering}
use Rattle.std.specs.Ordering.{eq_by_cmp, is_eq}
use Rattle.std.specs.Cmp.{IsTotalOrder, tied_itself}
use Rattle.std.specs.FinSet as set
use Rattle.std.specs.FinSet.{contains, from_list, IsAntisymmetric, same_set, contains-insert, contains-remove, contains-union, contains-difference, contains-empty, insert, remove, union, difference}
use Rattle.rdf_terms.specs.declared.term.Term.{Term}
use Rattle.rdf_terms.specs.declared.term.Term.TheVariants.{Blank, Iri, Literal}
use Rattle.rdf_terms.specs.declared.quad.GraphName.{GraphName}
use Rattle.rdf_terms.specs.declared.quad.GraphName.TheVariants.{Default, Named}
use Rattle.rdf_terms.specs.Term.{is_term}
use Rattle.rdf_terms.specs.Quad.{QuadParts, is_graph, is_quad, has_right_kinds, may_name_graph}
use Rattle.rdf_terms.specs.Order.{term_cmp, quad_cmp}
use Rattle.rdf_terms.specs.OrderLaws.{term_cmp_total, term_cmp-IsAntisymmetric, quad_cmp_total, quad_cmp-IsAntisymmetric}
use Rattle.rdf_dataset.specs.State.{State, Change, Quads, Names, IsSound, IsQuadBelow, IsGraphBelow, IsTermBelow, IsNamed, IsEmptyGraph, IsKnownGraph, is_graph_name, with_graph, with_quad, without_quad, with_name, without_name, with_blanks, net_between, applied, last_number}
use Rattle.rdf_dataset.specs.Staging.{Staging}
use Rattle.rdf_sets.specs.Delta.{IsDelta}
use Rattle.rdf_dataset.specs.Inside.Delta.{IsStateDelta}
use Rattle.rdf_sets.proofs.CallerLemmas.{tie_same, tie_itself, at_tie, insert_there, ends_at, applied as delta_applied, taken_back as delta_taken_back}

-- ---- nets

abbrev pub net : List QuadParts → List QuadParts → List Term → List Term → ℕ → ℕ → Change
net a r na nr before after = record { added = from_list a; removed = from_list r; names_added = from_list na; names_removed = from_list nr; before = before; after = after }

pub leads_of : (s t : State) (a r : List QuadParts) (na nr : List Term) (before after : ℕ) → net a r na nr before after ≡ net_between s t → IsStateDelta s t a r na nr after
leads_of s t a r na nr before after e = record {
  quads = record { gained = ap (λ (n : Change). n.added) e; lost = ap (λ (n : Change). n.removed) e };
  names = record { gained = ap (λ (n : Change). n.names_added) e; lost = ap (λ (n : Change). n.names_removed) e };
  next = ap (λ (n : Change). n.after) e;
}

pub leads_back : (s t : State) (a r : List QuadParts) (na nr : List Term) (before after : ℕ) → net a r na nr before after ≡ net_between s t → IsStateDelta t s r a nr na before
leads_back s t a r na nr before after e = record {
  quads = record { gained = ap (λ (n : Change). n.removed) e; lost = ap (λ (n : Change). n.added) e };
  names = record { gained = ap (λ (n : Change). n.names_removed) e; lost = ap (λ (n : Change). n.names_added) e };
  next = ap (λ (n : Change). n.before) e;
}

pub net_of : (s t : State) (a r : List QuadParts) (na nr : List Term) (before after : ℕ) → IsStateDelta s t a r na nr after → before ≡ s.next → net a r na nr before after ≡ net_between s t
net_of s t a r na nr before after l b = λ i. record {
  added = l.quads.gained i;
  removed = l.quads.lost i;
  names_added = l.names.gained i;
  names_removed = l.names.lost i;
  before = b i;
  after = l.next i;
}

abbrev pub state : Quads → Names → ℕ → State
state q n c = record { quads = q; names = n; next = c }

pub same_state : {q q' : Quads} {n n' : Names} {c c' : ℕ} → q ≡ q' → n ≡ n' → c ≡ c' → state q n c ≡ state q' n' c'
same_state p q r = λ i. record { quads = p i; names = q i; next = r i }

there : {K : Type 0} {R : K → K → Ordering} (o : IsTotalOrder R) → IsAntisymmetric R → (s t : set.FinSet R) → difference (union s (difference t s)) (difference s t) ≡ t
there o apart s t = same_set o apart _ _ (λ q.
    contains-difference o (union s (difference t s)) (difference s t) q
    ∙ (λ i. (contains-union o s (difference t s) q ∙ ap (λ b. contains s q || b) (contains-difference o t s q)) i && not (contains-difference o s t q i))
    ∙ ends_at (contains s q) (contains t q))

-- the state after the net between two states is the second
pub net_ends : (s t : State) (n : Change) → n ≡ net_between s t → applied n s ≡ t
net_ends s t n e = ap (λ n. applied n s) e ∙ same_state (there quad_cmp_total quad_cmp-IsAntisymmetric s.quads t.quads) (there term_cmp_total term_cmp-IsAntisymmetric s.names t.names) refl

-- ---- a staged view

abbrev pub Keeps : State → Change → Type 0
Keeps u n = (n ≡ net_between u (applied n u)) × IsSound (applied n u)

abbrev pub over : State → State → Staging
over u t = record { under = u; now = t }

pub restaged : (u t : State) (n : Change) → n ≡ net_between u t → IsSound t → Keeps u n × (over u (applied n u) ≡ over u t)
restaged u t n e s =
    let a = net_ends u t n e in
    ((subst (λ x. n ≡ net_between u x) (sym a) e, subst IsSound (sym a) s), ap (over u) a)

-- ---- soundness

pub either : (a b : Bool) → IsTrue (a || b) → IsTrue a ⊎ IsTrue b
either true b h = inl refl
either false b h = inr h

pub or_right : (a b : Bool) → IsTrue b → IsTrue (a || b)
or_right true b h = refl
or_right false b h = h

pub second_of : (a b : Bool) → IsTrue (a && b) → IsTrue b
second_of true b h = h
second_of false b h = absurd (true≢false (sym h))

pub first_of : (a b : Bool) → IsTrue (a && b) → IsTrue a
first_of true b h = refl
first_of false b h = absurd (true≢false (sym h))

named_more : (names : Names) (g : GraphName) (graph : GraphName) → IsNamed names graph → IsNamed (with_graph names g) graph
named_more names Default graph h = h
named_more names (Named n) Default h = h
named_more names (Named n) (Named name) h = contains-insert term_cmp_total names n name ∙ or_right (eq_by_cmp term_cmp name n) (contains names name) h

named_here : (names : Names) (g : GraphName) → IsNamed (with_graph names g) g
named_here names Default = tt
named_here names (Named n) = contains-insert term_cmp_total names n n ∙ ap (λ b. b || contains names n) (tie_itself term_cmp_total term_cmp-IsAntisymmetric n)

name_below : (names : Names) (next : ℕ) (g : GraphName) → IsGraphBelow next g → ((n : Term) → IsTrue (contains names n) → IsTermBelow next n) → (n : Term) → IsTrue (contains (with_graph names g) n) → IsTermBelow next n
name_below names next Default b all n h = all n h
name_below names next (Named name) b all n h =
    elim (either (eq_by_cmp term_cmp n name) (contains names n) (sym (contains-insert term_cmp_total names name n) ∙ h)) [
      | inl t ↦ subst (IsTermBelow next) (sym (tie_same term_cmp_total term_cmp-IsAntisymmetric n name t)) b
      | inr m ↦ all n m
    ]

both_of : (a b : Bool) → IsTrue a → IsTrue b → IsTrue (a && b)
both_of true b h k = k
both_of false b h k = h

graph_of_quad : (q : QuadParts) → IsTrue (is_quad q) → IsTrue (is_graph q.graph && may_name_graph q.graph)
graph_of_quad q r =
    both_of (is_graph q.graph) (may_name_graph q.graph) (first_of (is_graph q.graph) _ (second_of (has_right_kinds q) _ r)) (first_of (may_name_graph q.graph) _ (first_of (has_right_kinds q) _ r))

name_right : (names : Names) (g : GraphName) → IsTrue (is_graph g && may_name_graph g) → ((n : Term) → IsTrue (contains names n) → IsTrue (is_graph_name n)) → (n : Term) → IsTrue (contains (with_graph names g) n) → IsTrue (is_graph_name n)
name_right names Default r all n h = all n h
name_right names (Named name) r all n h =
    elim (either (eq_by_cmp term_cmp n name) (contains names n) (sym (contains-insert term_cmp_total names name n) ∙ h)) [
      | inl t ↦ subst (λ n. IsTrue (is_graph_name n)) (sym (tie_same term_cmp_total term_cmp-IsAntisymmetric n name t)) r
      | inr m ↦ all n m
    ]

pub sound_with_quad : (s : State) (q : QuadParts) → IsSound s → IsTrue (is_quad q) → IsQuadBelow s.next q → IsSound (with_quad s q)
sound_with_quad s q h r b = record {
  right_quads = λ p m. elim (either (eq_by_cmp quad_cmp p q) (contains s.quads p) (sym (contains-insert quad_cmp_total s.quads q p) ∙ m)) [
    | inl t ↦ subst (λ x. IsTrue (is_quad x)) (sym (tie_same quad_cmp_total quad_cmp-IsAntisymmetric p q t)) r
    | inr m ↦ h.right_quads p m
  ];
  right_names = name_right s.names q.graph (graph_of_quad q r) h.right_names;
  named = λ p m. elim (either (eq_by_cmp quad_cmp p q) (contains s.quads p) (sym (contains-insert quad_cmp_total s.quads q p) ∙ m)) [
    | inl t ↦ subst (λ (x : QuadParts). IsNamed (with_graph s.names q.graph) x.graph) (sym (tie_same quad_cmp_total quad_cmp-IsAntisymmetric p q t)) (named_here s.names q.graph)
    | inr m ↦ named_more s.names q.graph p.graph (h.named p m)
  ];
  quads_below = λ p m. elim (either (eq_by_cmp quad_cmp p q) (contains s.quads p) (sym (contains-insert quad_cmp_total s.quads q p) ∙ m)) [
    | inl t ↦ subst (IsQuadBelow s.next) (sym (tie_same quad_cmp_total quad_cmp-IsAntisymmetric p q t)) b
    | inr m ↦ h.quads_below p m
  ];
  names_below = name_below s.names s.next q.graph b.graph h.names_below;
  limit = h.limit;
}

pub sound_without_quad : (s : State) (q : QuadParts) → IsSound s → IsSound (without_quad s q)
sound_without_quad s q h =
    let still = λ (p : QuadParts) (m : IsTrue (contains (remove s.quads q) p)). second_of (not (eq_by_cmp quad_cmp p q)) (contains s.quads p) (sym (contains-remove quad_cmp_total s.quads q p) ∙ m) in
    record { right_quads = λ p m. h.right_quads p (still p m); right_names = h.right_names; named = λ p m. h.named p (still p m); quads_below = λ p m. h.quads_below p (still p m); names_below = h.names_below; limit = h.limit }

pub sound_with_name : (s : State) (n : Term) → IsSound s → IsTrue (is_term n) → IsTrue (may_name_graph (Named n)) → IsTermBelow s.next n → IsSound (with_name s n)
sound_with_name s n h t r b = record {
  right_quads = h.right_quads;
  right_names = name_right s.names (Named n) (both_of (is_term n) (may_name_graph (Named n)) t r) h.right_names;
  named = λ p m. named_more s.names (Named n) p.graph (h.named p m);
  quads_below = h.quads_below;
  names_below = name_below s.names s.next (Named n) b h.names_below;
  limit = h.limit;
}

named_less : (names : Names) (n : Term) (g : GraphName) → IsNamed names g → ¬ (g ≡ Named n) → IsNamed (remove names n) g
named_less names n Default h apart = tt
named_less names n (Named name) h apart =
    contains-remove term_cmp_total names n name ∙ kept (eq_by_cmp term_cmp name n) (contains names name) h (λ t. apart (ap Named (tie_same term_cmp_total term_cmp-IsAntisymmetric name n t)))
  where
    kept : (e a : Bool) → IsTrue a → ¬ (e ≡ true) → IsTrue (not e && a)
    kept true a h out = absurd (out refl)
    kept false a h out = h

pub sound_without_name : (s : State) (n : Term) → IsSound s → IsEmptyGraph s (Named n) → IsSound (without_name s n)
sound_without_name s n h empty = record {
  right_quads = h.right_quads;
  right_names = λ t m. h.right_names t (second_of (not (eq_by_cmp term_cmp t n)) (contains s.names t) (sym (contains-remove term_cmp_total s.names n t) ∙ m));
  named = λ p m. named_less s.names n p.graph (h.named p m) (empty p m);
  quads_below = h.quads_below;
  names_below = λ t m. h.names_below t (second_of (not (eq_by_cmp term_cmp t n)) (contains s.names t) (sym (contains-remove term_cmp_total s.names n t) ∙ m));
  limit = h.limit;
}

term_later : (next more : ℕ) (t : Term) → IsTermBelow next t → IsTermBelow (next + more) t
term_later next more (Blank n) h = omega arith
term_later next more (Iri n) h = tt
term_later next more (Literal l) h = tt

graph_later : (next more : ℕ) (g : GraphName) → IsGraphBelow next g → IsGraphBelow (next + more) g
graph_later next more Default h = tt
graph_later next more (Named n) h = term_later next more n h

pub sound_with_blanks : (s : State) (count : ℕ) → IsSound s → s.next + count ≤ last_number → IsSound (with_blanks s count)
sound_with_blanks s count h limit = record {
  right_quads = h.right_quads;
  right_names = h.right_names;
  named = h.named;
  quads_below = λ q m. let b = h.quads_below q m in record {
    graph = graph_later s.next count q.graph b.graph;
    subject = term_later s.next count q.subject b.subject;
    predicate = term_later s.next count q.predicate b.predicate;
    object = term_later s.next count q.object b.object;
  };
  names_below = λ n m. term_later s.next count n (h.names_below n m);
  limit = limit;
}

not_in_empty : {K : Type 0} (R : K → K → Ordering) (s : set.FinSet R) (x : K) → s ≡ set.empty → IsTrue (contains s x) → ⊥
not_in_empty R s x e h = true≢false (sym h ∙ ap (λ s. contains s x) e ∙ contains-empty R x)

pub sound_empty : (q : Quads) (n : Names) (c : ℕ) → q ≡ set.empty → n ≡ set.empty → c ≤ last_number → IsSound (state q n c)
sound_empty q n c e f h = record {
  right_quads = λ p m. absurd (not_in_empty quad_cmp q p e m);
  right_names = λ t m. absurd (not_in_empty term_cmp n t f m);
  named = λ p m. absurd (not_in_empty quad_cmp q p e m);
  quads_below = λ p m. absurd (not_in_empty quad_cmp q p e m);
  names_below = λ t m. absurd (not_in_empty term_cmp n t f m);
  limit = h;
}

-- a list whose set is empty is empty
pub no_items : {K : Type 0} {R : K → K → Ordering} (o : IsTotalOrder R) (xs : List K) → from_list {R = R} xs ≡ set.empty → xs ≡ []
no_items o [] e = refl
no_items {R = R} o (x ∷ xs) e = absurd (not_in_empty R (from_list (x ∷ xs)) x e (contains-insert o (from_list xs) x x ∙ ap (λ b. b || contains (from_list {R = R} xs) x) (ap is_eq (tied_itself o x))))

-- ---- what a dataset goes to

pub gone_to : (s t : State) (a r : List QuadParts) (na nr : List Term) (after : ℕ) (mid new : Quads) (names_mid names_new : Names) → IsStateDelta s t a r na nr after
    → mid ≡ union s.quads (from_list a) → new ≡ difference mid (from_list r) → names_mid ≡ union s.names (from_list na) → names_new ≡ difference names_mid (from_list nr)
    → state new names_new after ≡ t
gone_to s t a r na nr after mid new names_mid names_new l m n p q =
    same_state (delta_applied quad_cmp_total quad_cmp-IsAntisymmetric s.quads t.quads a r l.quads mid new m n) (delta_applied term_cmp_total term_cmp-IsAntisymmetric s.names t.names na nr l.names names_mid names_new p q) l.next

pub gone_back : (s t : State) (a r : List QuadParts) (na nr : List Term) (after : ℕ) (mid new : Quads) (names_new : Names) → IsStateDelta s t a r na nr after
    → mid ≡ union s.quads (from_list a) → new ≡ difference mid (from_list a) → names_new ≡ s.names → state new names_new s.next ≡ s
gone_back s t a r na nr after mid new names_new l m n p =
    same_state (delta_taken_back quad_cmp_total quad_cmp-IsAntisymmetric s.quads t.quads a r l.quads mid new m n) p refl

-- ---- a net, and one change more

pub net_with_quad : (s t : State) (q : QuadParts) (a r a' r' : List QuadParts) (na nr na' nr' : List Term) (before after : ℕ) → net a r na nr before after ≡ net_between s t
    → IsDelta s.quads (insert t.quads q) a' r' → IsDelta s.names (with_graph t.names q.graph) na' nr' → net a' r' na' nr' before after ≡ net_between s (with_quad t q)
net_with_quad s t q a r a' r' na nr na' nr' before after e d f =
    net_of s (with_quad t q) a' r' na' nr' before after (record { quads = d; names = f; next = ap (λ (n : Change). n.after) e }) (ap (λ (n : Change). n.before) e)

pub named_delta : (s t : Names) (g : GraphName) (name : Term) (a r : List Term) → g ≡ Named name → IsDelta s (insert t name) a r → IsDelta s (with_graph t g) a r
named_delta s t g name a r e d = subst (λ g. IsDelta s (with_graph t g) a r) (sym e) d

pub known_name : (names : Names) (known : Bool) (g : GraphName) (name : Term) → g ≡ Named name → IsKnownGraph names known g → known ≡ contains names name
known_name names known g name e k = subst (IsKnownGraph names known) e k

-- a name that went in as a new one and out again
pub name_back : (names : Names) (name : Term) → contains names name ≡ false → remove (insert names name) name ≡ names
name_back names name out = same_set term_cmp_total term_cmp-IsAntisymmetric _ _ (λ q.
    contains-remove term_cmp_total (insert names name) name q
    ∙ ap (λ b. not (eq_by_cmp term_cmp q name) && b) (contains-insert term_cmp_total names name q)
    ∙ gone (eq_by_cmp term_cmp q name) (contains names q) (at_tie term_cmp_total term_cmp-IsAntisymmetric names q name false out))
  where
    gone : (e a : Bool) → (e ≡ true → a ≡ false) → (not e && (e || a)) ≡ a
    gone true a h = sym (h refl)
    gone false a h = refl

-- a name that was there already
pub name_still : (names : Names) (name : Term) → contains names name ≡ true → insert names name ≡ names
name_still names name there = sym (insert_there term_cmp_total term_cmp-IsAntisymmetric names name there)

pub not_true : (a : Bool) → true ≡ not a → a ≡ false
not_true true e = e
not_true false e = refl

pub not_false : (a : Bool) → false ≡ not a → a ≡ true
not_false true e = refl
not_false false e = absurd (true≢false (sym e))

pub graph_there : (names : Names) (g : GraphName) → IsNamed names g → with_graph names g ≡ names
graph_there names Default h = refl
graph_there names (Named n) h = sym (insert_there term_cmp_total term_cmp-IsAntisymmetric names n h)

pub quad_there : (s : State) (q : QuadParts) → IsSound s → contains s.quads q ≡ true → with_quad s q ≡ s
quad_there s q h e = same_state (sym (insert_there quad_cmp_total quad_cmp-IsAntisymmetric s.quads q e)) (graph_there s.names q.graph (h.named q e)) refl
