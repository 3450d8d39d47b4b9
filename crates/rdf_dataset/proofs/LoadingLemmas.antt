-- The net that the quads of a document make.
use Rattle.std.proofs.Common.{◌≡◌, ◌⊎◌, inl, inr, ℕ, ◌+◌, ◌-◌, ◌≤◌, Bool, true, false, ◌||◌, ◌&&◌, not, List, [], ◌∷◌, ◌++◌, map, refl, sym, ap, ◌∙◌, subst, arith, zero-add, add-one, drop, drop-cons, get_or, length, ◌<◌, IsTrue, Result, Ok, Err, IfOk}
use Rattle.std.specs.Prelude.{filter, OnOk, Option, None, Some, IfSome}
use Rattle.std.specs.List.{AllByRecursion}
use Rattle.std.specs.FinSet as set
use Rattle.std.specs.FinSet.{contains, contains-difference, contains-from_list, contains-insert, contains-union, difference, from_list, same_set}
use Rattle.rdf_terms.specs.Below.{AreBelow, IsGraphBelow, IsQuadBelow, IsTermBelow}
use Rattle.rdf_terms.specs.Order.{quad_cmp}
use Rattle.rdf_terms.specs.OrderLaws.{quad_cmp_total, quad_cmp-IsAntisymmetric, term_cmp_total, term_cmp-IsAntisymmetric}
use Rattle.rdf_terms.specs.Quad.{QuadParts, is_quad}
use Rattle.rdf_terms.specs.declared.quad.GraphName.{GraphName}
use Rattle.rdf_terms.specs.declared.quad.GraphName.TheVariants.{Default, Named}
use Rattle.rdf_terms.specs.declared.term.Term.{Term}
use Rattle.rdf_terms.specs.declared.term.Term.TheVariants.{Blank, Iri, Literal}
use Rattle.rdf_sets.specs.Delta.{IsDelta}
use Rattle.rdf_sets.proofs.CallerLemmas.{filter_contains, tie_itself}
use Rattle.rdf_dataset.specs.Insertion.{graph_from, quad_from, term_from, with_all, with_data}
use Rattle.rdf_dataset.specs.Loading.{names_with, quads_with}
use Rattle.rdf_dataset.specs.State.{State, Change, Names, Quads, IsNamed, IsSound, last_number, net_between, with_blanks, with_graph, with_quad}
use Rattle.rdf_dataset.proofs.InsertionLemmas.{quad_below, quad_sooner, with_all-more, with_all-nothing}
use Rattle.rdf_dataset.proofs.StateLemmas.{graph_there, sound_with_blanks, sound_with_quad}

-- ---- numbers that stay

-- counted on from 0, or with no blank node
abbrev pub Stays : ℕ → ℕ → Type 0
Stays first blanks = (first ≡ 0) ⊎ (blanks ≡ 0)

term_stays : (first blanks : ℕ) (t : Term) → Stays first blanks → IsTermBelow blanks t → term_from first t ≡ t
term_stays first blanks (Blank number) (inl e) b = ap (λ n. Blank (n + number)) e ∙ ap Blank (zero-add number)
term_stays first blanks (Blank number) (inr e) b = absurd (omega (arith, b, e))
term_stays first blanks (Iri iri) s b = refl
term_stays first blanks (Literal l) s b = refl

graph_stays : (first blanks : ℕ) (g : GraphName) → Stays first blanks → IsGraphBelow blanks g → graph_from first g ≡ g
graph_stays first blanks Default s b = refl
graph_stays first blanks (Named t) s b = ap Named (term_stays first blanks t s b)

quad_stays : (first blanks : ℕ) (q : QuadParts) → Stays first blanks → IsQuadBelow blanks q → quad_from first q ≡ q
quad_stays first blanks q s b = λ i. record {
  graph = graph_stays first blanks q.graph s b.graph i;
  subject = term_stays first blanks q.subject s b.subject i;
  predicate = term_stays first blanks q.predicate s b.predicate i;
  object = term_stays first blanks q.object s b.object i;
}

pub all_stay : (first blanks : ℕ) (qs : List QuadParts) → Stays first blanks → AreBelow blanks qs → qs ≡ map (quad_from first) qs
all_stay first blanks [] s b = refl
all_stay first blanks (q ∷ qs) s b = λ i. sym (quad_stays first blanks q s b.0) i ∷ all_stay first blanks qs s b.1 i

-- ---- numbers that move

-- some of the quads have been numbered on
pub record IsNumbering (first blanks : ℕ) (quads moved rest : List QuadParts) : Type 0 where
  pub all : moved ++ map (quad_from first) rest ≡ map (quad_from first) quads
  pub below : AreBelow blanks rest

pub numbering_begins : (first blanks : ℕ) (quads moved rest : List QuadParts) → AreBelow blanks quads → moved ≡ [] → rest ≡ quads → IsNumbering first blanks quads moved rest
numbering_begins first blanks quads moved rest b m r = record {
  all = λ i. m i ++ map (quad_from first) (r i);
  below = subst (AreBelow blanks) (sym r) b;
}

pub next_has_room : (first blanks : ℕ) (quads moved rest more : List QuadParts) (q : QuadParts) → IsNumbering first blanks quads moved rest → first + blanks ≤ last_number → rest ≡ q ∷ more → IsQuadBelow (last_number - first) q
next_has_room first blanks quads moved rest more q h room e =
    quad_sooner blanks (last_number - first) q (subst (AreBelow blanks) e h.below).0 (omega (arith, room))

joined : (xs ys : List QuadParts) (y : QuadParts) → (xs ++ y ∷ []) ++ ys ≡ xs ++ y ∷ ys
joined [] ys y = refl
joined (x ∷ xs) ys y = ap (λ l. x ∷ l) (joined xs ys y)

pub numbering_goes_on : (first blanks : ℕ) (quads moved next rest more : List QuadParts) (q p : QuadParts) → IsNumbering first blanks quads moved rest → rest ≡ q ∷ more → p ≡ quad_from first q → next ≡ moved ++ p ∷ [] → IsNumbering first blanks quads next more
numbering_goes_on first blanks quads moved next rest more q p h e is n = record {
  all = ap (λ l. l ++ map (quad_from first) more) (n ∙ ap (λ x. moved ++ x ∷ []) is) ∙ joined moved (map (quad_from first) more) (quad_from first q) ∙ ap (λ l. moved ++ map (quad_from first) l) (sym e) ∙ h.all;
  below = (subst (AreBelow blanks) e h.below).1;
}

and_nothing : (xs : List QuadParts) → xs ++ [] ≡ xs
and_nothing [] = refl
and_nothing (x ∷ xs) = ap (λ l. x ∷ l) (and_nothing xs)

pub numbering_ends : (first blanks : ℕ) (quads moved rest : List QuadParts) → IsNumbering first blanks quads moved rest → rest ≡ [] → moved ≡ map (quad_from first) quads
numbering_ends first blanks quads moved rest h e = sym (and_nothing moved) ∙ ap (λ l. moved ++ map (quad_from first) l) (sym e) ∙ h.all

-- ---- the quads

not_beneath : (a b : Bool) → (b && not a) ≡ ((a || b) && not a)
not_beneath true true = refl
not_beneath true false = refl
not_beneath false true = refl
not_beneath false false = refl

none_lost : (a b : Bool) → false ≡ (a && not (a || b))
none_lost true b = refl
none_lost false b = refl

pub new_ones : (s : Quads) (quads : List QuadParts) → from_list {R = quad_cmp} (filter (λ q. not (contains s q)) quads) ≡ difference (quads_with s quads) s
new_ones s quads = same_set quad_cmp_total quad_cmp-IsAntisymmetric _ _ (λ q.
    filter_contains quad_cmp_total quad_cmp-IsAntisymmetric (λ x. not (contains s x)) quads q
    ∙ not_beneath (contains s q) (contains (from_list quads) q)
    ∙ sym (contains-difference quad_cmp_total (quads_with s quads) s q ∙ ap (λ b. b && not (contains s q)) (contains-union quad_cmp_total s (from_list quads) q)))

none_removed : (s : Quads) (quads : List QuadParts) → from_list {R = quad_cmp} [] ≡ difference s (quads_with s quads)
none_removed s quads = same_set quad_cmp_total quad_cmp-IsAntisymmetric _ _ (λ q.
    contains-from_list quad_cmp_total [] q ∙ none_lost (contains s q) (contains (from_list quads) q)
    ∙ sym (contains-difference quad_cmp_total s (quads_with s quads) q ∙ ap (λ b. contains s q && not b) (contains-union quad_cmp_total s (from_list quads) q)))

-- ---- the names

-- the names of some of the graphs have come in, that of the quad before among them, and the rest are to come
pub record IsNaming (s : Names) (quads : List QuadParts) (added removed : List Term) (before : Option GraphName) (rest : List QuadParts) : Type 0 where
  pub now : Names
  pub delta : IsDelta s now added removed
  pub all : names_with now rest ≡ names_with s quads
  pub there : IfSome before (IsNamed now)

-- a state that has these names
abbrev named : Names → State
named names = record { quads = set.empty; names = names; next = 0 }

pub naming_begins : (s : Names) (quads rest : List QuadParts) (added removed : List Term) → IsDelta s s added removed → rest ≡ quads → IsNaming s quads added removed None rest
naming_begins s quads rest added removed d e = record { now = s; delta = d; all = ap (names_with s) e; there = tt }

named_now : (names : Names) (graph : GraphName) → IsNamed (with_graph names graph) graph
named_now names Default = tt
named_now names (Named name) = contains-insert term_cmp_total names name name ∙ ap (λ b. b || contains names name) (tie_itself term_cmp_total term_cmp-IsAntisymmetric name)

pub naming_goes_on : (s : Names) (quads rest more : List QuadParts) (q : QuadParts) (added removed new gone : List Term) (before : Option GraphName) (graph : GraphName) (h : IsNaming s quads added removed before rest) → rest ≡ q ∷ more → graph ≡ q.graph
    → IsDelta s (with_graph h.now q.graph) new gone → IsNaming s quads new gone (Some graph) more
naming_goes_on s quads rest more q added removed new gone before graph h e is d = record {
  now = with_graph h.now q.graph;
  delta = d;
  all = ap (λ (t : State). t.names) (with_all-more (named h.now) q more) ∙ ap (names_with h.now) (sym e) ∙ h.all;
  there = subst (IsNamed (with_graph h.now q.graph)) (sym is) (named_now h.now q.graph);
}

-- the name of the graph has come in with the quad before
pub naming_skips : (s : Names) (quads rest more : List QuadParts) (q : QuadParts) (added removed : List Term) (before : Option GraphName) (graph : GraphName) → IsNaming s quads added removed before rest → rest ≡ q ∷ more → graph ≡ q.graph → before ≡ Some graph → IsNaming s quads added removed (Some graph) more
naming_skips s quads rest more q added removed before graph h e is same =
    let is_there : IsNamed h.now graph = subst (λ b. IfSome b (IsNamed h.now)) same h.there in
    record {
      now = h.now;
      delta = h.delta;
      all = ap (λ names. names_with names more) (sym (graph_there h.now q.graph (subst (IsNamed h.now) is is_there))) ∙ ap (λ (t : State). t.names) (with_all-more (named h.now) q more) ∙ ap (names_with h.now) (sym e) ∙ h.all;
      there = is_there;
    }

pub naming_ends : (s : Names) (quads rest : List QuadParts) (added removed : List Term) (before : Option GraphName) → IsNaming s quads added removed before rest → rest ≡ [] → IsDelta s (names_with s quads) added removed
naming_ends s quads rest added removed before h e =
    subst (λ t. IsDelta s t added removed) (sym (ap (λ (t : State). t.names) (with_all-nothing (named h.now))) ∙ ap (names_with h.now) (sym e) ∙ h.all) h.delta

-- ---- soundness

abbrev pub Sound : List QuadParts → Type 0
Sound quads = AllByRecursion (λ q. IsTrue (is_quad q)) quads

pub sound_with_all : (s : State) (quads : List QuadParts) → IsSound s → Sound quads → AreBelow s.next quads → IsSound (with_all s quads)
sound_with_all s [] h r b = subst IsSound (sym (with_all-nothing s)) h
sound_with_all s (q ∷ qs) h r b = subst IsSound (with_all-more s q qs) (sound_with_all (with_quad s q) qs (sound_with_quad s q h r.0 b.0) r.1 b.1)

pub moved_below : (first blanks next : ℕ) (quads : List QuadParts) → AreBelow blanks quads → first + blanks ≤ next → AreBelow next (map (quad_from first) quads)
moved_below first blanks next [] b h = tt
moved_below first blanks next (q ∷ qs) b h = (quad_below first blanks next q b.0 h, moved_below first blanks next qs b.1 h)

pub sound_with_data : (s : State) (quads : List QuadParts) (blanks : ℕ) → IsSound s → s.next + blanks ≤ last_number → AreBelow blanks quads → Sound (map (quad_from s.next) quads) → IsSound (with_data s quads blanks)
sound_with_data s quads blanks h limit b r =
    sound_with_all (with_blanks s blanks) (map (quad_from s.next) quads) (sound_with_blanks s blanks h limit) r (moved_below s.next blanks (s.next + blanks) quads b (omega arith))

-- ---- the net

pub net_with_data : (s : State) (quads : List QuadParts) (blanks : ℕ) (added removed : List QuadParts) (names_added names_removed : List Term) (before after : ℕ)
    → from_list {R = quad_cmp} added ≡ difference (quads_with s.quads (map (quad_from s.next) quads)) s.quads → removed ≡ []
    → IsDelta s.names (names_with s.names (map (quad_from s.next) quads)) names_added names_removed → before ≡ s.next → after ≡ s.next + blanks
    → (let net : Change = record { added = from_list added; removed = from_list removed; names_added = from_list names_added; names_removed = from_list names_removed; before = before; after = after } in
    net ≡ net_between s (with_data s quads blanks))
net_with_data s quads blanks added removed names_added names_removed before after a r n b c = λ i. record {
  added = a i;
  removed = (ap (from_list {R = quad_cmp}) r ∙ none_removed s.quads (map (quad_from s.next) quads)) i;
  names_added = n.gained i;
  names_removed = n.lost i;
  before = b i;
  after = c i;
}

-- ---- by place

pub next_quad : (quads : List QuadParts) (i : ℕ) (q : QuadParts) → i < length quads → q ≡ get_or quads i q → drop i quads ≡ q ∷ drop (i + 1) quads
next_quad quads i q h e = drop-cons quads i q h ∙ (λ j. sym e j ∷ drop (sym (add-one i) j) quads)

pub sound_before : (quads rest more : List QuadParts) (q : QuadParts) → rest ≡ q ∷ more → (Sound rest → Sound quads) → IsTrue (is_quad q) → Sound more → Sound quads
sound_before quads rest more q e f r h = f (subst Sound (sym e) (r, h))

-- ---- what comes of a call that may be refused

pub if_ok_both : {T E : Type 0} (r : Result T E) (P Q C : T → Type 0) → ((x : T) → P x → Q x → C x) → IfOk r P → IfOk r Q → IfOk r C
if_ok_both (Ok x) P Q C f p q = f x p q
if_ok_both (Err e) P Q C f p q = tt

pub on_ok_any : {T E P : Type 0} (r : Result T E) → P → OnOk r P
on_ok_any (Ok x) p = p
on_ok_any (Err e) p = tt

pub same_delta : (s t : Names) (a r b l : List Term) → IsDelta s t a r → b ≡ a → l ≡ r → IsDelta s t b l
same_delta s t a r b l d e f = record { gained = ap from_list e ∙ d.gained; lost = ap from_list f ∙ d.lost }
