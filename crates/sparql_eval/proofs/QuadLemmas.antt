-- Quads that go and come, one after another.
use Rattle.std.proofs.Common.{◌≡◌, ℕ, ◌+◌, ◌<◌, Bool, true, false, ◌||◌, ◌&&◌, not, List, [], ◌∷◌, length, drop, get_or, map, refl, sym, ap, ◌∙◌, subst, Option, Some, None, if◌then◌else◌}
use mathlib.Core.Bool.{true≢false}
use Rattle.std.specs.FinSet as set
use Rattle.std.specs.FinSet.{contains, contains-from_list, contains-insert, contains-union, from_list, retain, same_set, union}
use Rattle.std.specs.List.{flat_map, list_any}
use Rattle.std.specs.Ordering.{eq_by_cmp}
use Rattle.rdf_terms.specs.Below.{AreBelow, IsGraphBelow, IsQuadBelow}
use Rattle.rdf_terms.specs.Order.{quad_cmp, term_cmp}
use Rattle.rdf_terms.specs.OrderLaws.{term_cmp_total, term_cmp-IsAntisymmetric, quad_cmp_total, quad_cmp-IsAntisymmetric}
use Rattle.rdf_terms.specs.Quad.{QuadParts, has_right_kinds, is_quad, may_name_graph}
use Rattle.rdf_terms.specs.Term.{is_iri_term, is_literal_term}
use Rattle.rdf_terms.specs.declared.quad.GraphName.{GraphName}
use Rattle.rdf_terms.specs.declared.quad.GraphName.TheVariants.{Default, Named}
use Rattle.rdf_terms.specs.declared.term.Term.{Term}
use Rattle.rdf_dataset.specs.Insertion.{names_in, with_all}
use Rattle.rdf_dataset.specs.Sorted.{AppendsOnce}
use Rattle.rdf_dataset.specs.State.{Names, Quads, State, IsSound, matches, with_graph, with_name, with_quad, without_quad}
use Rattle.rdf_dataset.proofs.CallerLemmas.{with_all-more, with_all-nothing}
use Rattle.sparql_eval.specs.Graphs.{quad_in, quads_in, quads_of, same_graph}
use Rattle.sparql_eval.specs.Operations.{added, without_all}
use Rattle.sparql_eval.proofs.SetLemmas.{and_first, and_second, and_true, any_item, contains-kept, difference-more, difference-nothing, each_item, front_nothing, next_of, or_false}

-- ---- quads go

-- the quads of a list are to go
pub without_all-nothing : (s : State) → without_all s [] ≡ s
without_all-nothing s = λ i. record { quads = difference-nothing quad_cmp_total quad_cmp-IsAntisymmetric s.quads i; names = s.names; next = s.next }

pub without_all-more : (s : State) (q : QuadParts) (qs : List QuadParts) → without_all (without_quad s q) qs ≡ without_all s (q ∷ qs)
without_all-more s q qs = λ i. record { quads = difference-more quad_cmp_total quad_cmp-IsAntisymmetric s.quads q qs i; names = s.names; next = s.next }

-- the quads from the place on are to go, and one goes
pub removing_goes_on : (s now new : State) (qs : List QuadParts) (i : ℕ) (q : QuadParts) → i < length qs → q ≡ get_or qs i q → new ≡ without_quad now q
    → without_all now (drop i qs) ≡ without_all s qs → without_all new (drop (i + 1) qs) ≡ without_all s qs
removing_goes_on s now new qs i q h is n e =
    ap (λ t. without_all t (drop (i + 1) qs)) n ∙ without_all-more now q (drop (i + 1) qs) ∙ ap (without_all now) (sym (next_of qs q i h is)) ∙ e

-- none is left to go
pub removing_ends : (s now : State) (qs rest : List QuadParts) → rest ≡ [] → without_all now rest ≡ without_all s qs → now ≡ without_all s qs
removing_ends s now qs rest r e = sym (without_all-nothing now) ∙ ap (without_all now) (sym r) ∙ e

-- ---- quads come

-- the quads of a list are to come, and one comes
pub coming_goes_on : (now new t : State) (qs rest : List QuadParts) (q : QuadParts) → qs ≡ q ∷ rest → new ≡ with_quad now q → with_all now qs ≡ t → with_all new rest ≡ t
coming_goes_on now new t qs rest q e n h = ap (λ z. with_all z rest) n ∙ with_all-more now q rest ∙ ap (with_all now) (sym e) ∙ h

pub coming_below : (now new : State) (qs rest : List QuadParts) (q : QuadParts) → qs ≡ q ∷ rest → new ≡ with_quad now q → AreBelow now.next qs → AreBelow new.next rest
coming_below now new qs rest q e n b = subst (λ k. AreBelow k rest) (sym (ap (λ (z : State). z.next) n)) (subst (AreBelow now.next) e b).1

-- none is left to come
pub coming_ends : (now t : State) (rest : List QuadParts) → rest ≡ [] → with_all now rest ≡ t → now ≡ t
coming_ends now t rest r e = sym (with_all-nothing now) ∙ ap (with_all now) (sym r) ∙ e

-- ---- the quads of a graph

-- a look-up of a graph's quads passes each of them
pub matches_all : (g : GraphName) (q : QuadParts) → matches g None None None q ≡ same_graph g q.graph
matches_all g q = and_true (same_graph g q.graph)

-- ---- triples come into another graph

literal_and : (a b c : Bool) → a ≡ true → (b && c) ≡ true → (a && c) ≡ true
literal_and a b c h k = ap (λ x. x && c) h ∙ and_second b c k

-- what `Quad::new` answers of a quad's triple in another graph
pub quad_in-made : (g : GraphName) (q : QuadParts) (s p o : Term) (r : Option QuadParts) → s ≡ q.subject → p ≡ q.predicate → o ≡ q.object
    → r ≡ (let parts : QuadParts = record { graph = g; subject = s; predicate = p; object = o } in if has_right_kinds parts then Some parts else None)
    → may_name_graph g ≡ true → is_quad q ≡ true → r ≡ Some (quad_in g q)
quad_in-made g q s p o r es ep eo e named sound =
    e ∙ (λ i. let parts : QuadParts = record { graph = g; subject = es i; predicate = ep i; object = eo i } in if has_right_kinds parts then Some parts else None)
    ∙ ap (λ b. if b then Some (quad_in g q) else None)
    (literal_and (may_name_graph g) (may_name_graph q.graph) (not (is_literal_term q.subject) && is_iri_term q.predicate) named (and_first (has_right_kinds q) _ sound))

-- the name of the graph comes last
abbrev pub named : State → GraphName → State
named s g = record { quads = s.quads; names = with_graph s.names g; next = s.next }

names_there : (h : Term) (qs : List QuadParts) (n : Term) → list_any (eq_by_cmp term_cmp n) (flat_map names_in (map (quad_in (Named h)) qs)) ≡ true → eq_by_cmp term_cmp n h ≡ true
names_there h [] n a = absurd (true≢false (sym a))
names_there h (q ∷ qs) n a =
    elim (eq_by_cmp term_cmp n h) as (λ t. (t || list_any (eq_by_cmp term_cmp n) (flat_map names_in (map (quad_in (Named h)) qs))) ≡ true → (list_any (eq_by_cmp term_cmp n) (flat_map names_in (map (quad_in (Named h)) qs)) ≡ true → t ≡ true) → t ≡ true) [
      | true ↦ λ _ _. refl
      | false ↦ λ a f. f a
    ] a (names_there h qs n)

no_names : (qs : List QuadParts) → flat_map names_in (map (quad_in Default) qs) ≡ []
no_names [] = refl
no_names (q ∷ qs) = no_names qs

or_within : (t a l : Bool) → (l ≡ true → t ≡ true) → (t || (a || l)) ≡ (t || a)
or_within true a l h = refl
or_within false a true h = absurd (true≢false (sym (h refl)))
or_within false a false h = or_false a

names_come : (names : Names) (g : GraphName) (qs : List QuadParts) → with_graph (union names (from_list (flat_map names_in (map (quad_in g) qs)))) g ≡ with_graph names g
names_come names Default qs = same_set term_cmp_total term_cmp-IsAntisymmetric _ _ (λ n.
    contains-union term_cmp_total names (from_list (flat_map names_in (map (quad_in Default) qs))) n
    ∙ ap (λ b. contains names n || b) (contains-from_list term_cmp_total (flat_map names_in (map (quad_in Default) qs)) n ∙ ap (list_any (eq_by_cmp term_cmp n)) (no_names qs))
    ∙ or_false (contains names n))
names_come names (Named h) qs = same_set term_cmp_total term_cmp-IsAntisymmetric _ _ (λ n.
    contains-insert term_cmp_total (union names (from_list (flat_map names_in (map (quad_in (Named h)) qs)))) h n
    ∙ ap (λ b. eq_by_cmp term_cmp n h || b) (contains-union term_cmp_total names _ n ∙ ap (λ b. contains names n || b) (contains-from_list term_cmp_total (flat_map names_in (map (quad_in (Named h)) qs)) n))
    ∙ or_within (eq_by_cmp term_cmp n h) (contains names n) _ (names_there h qs n)
    ∙ sym (contains-insert term_cmp_total names h n))

pub any_map : (p : QuadParts → Bool) (f : QuadParts → QuadParts) (qs : List QuadParts) → list_any p (map f qs) ≡ list_any (λ q. p (f q)) qs
any_map p f [] = refl
any_map p f (q ∷ qs) = ap (λ b. p (f q) || b) (any_map p f qs)

-- the listed quads of a set in another graph are the set's
pub listed_in : (s : Quads) (g : GraphName) (qs : List QuadParts) → from_list qs ≡ s → from_list (map (quad_in g) qs) ≡ quads_in g s
listed_in s g qs e = same_set quad_cmp_total quad_cmp-IsAntisymmetric _ _ (λ q.
    contains-from_list quad_cmp_total (map (quad_in g) qs) q
    ∙ any_map (eq_by_cmp quad_cmp q) (quad_in g) qs
    ∙ any_item quad_cmp_total quad_cmp-IsAntisymmetric s qs (λ x. eq_by_cmp quad_cmp q (quad_in g x)) e
    ∙ sym (any_map (eq_by_cmp quad_cmp q) (quad_in g) (set.items s))
    ∙ sym (contains-from_list quad_cmp_total (map (quad_in g) (set.items s)) q))

-- what a look-up found is the graph's quads
found_all : (s : State) (g : GraphName) (old found : List QuadParts) → old ≡ [] → AppendsOnce (retain s.quads (matches g None None None)) old found → from_list found ≡ quads_of s.quads g
found_all s g old found none l =
    ap from_list (front_nothing old found l.found none l.appended) ∙ l.each_once.all
    ∙ same_set quad_cmp_total quad_cmp-IsAntisymmetric _ _ (λ q.
    contains-kept quad_cmp_total quad_cmp-IsAntisymmetric s.quads (matches g None None None) q
    ∙ ap (λ b. contains s.quads q && b) (matches_all g q)
    ∙ sym (contains-kept quad_cmp_total quad_cmp-IsAntisymmetric s.quads (λ q. same_graph g q.graph) q))

-- some of the quads of one graph have come into another, and the rest are to come
pub record IsAdding (s now : State) (g h : GraphName) (rest : List QuadParts) : Type 0 where
  pub all : named (with_all now (map (quad_in h) rest)) h ≡ added s g h
  pub below : AreBelow s.next rest
  pub counter : now.next ≡ s.next

pub adding_begins : (s : State) (g h : GraphName) (old found rest : List QuadParts) → IsSound s → old ≡ [] → AppendsOnce (retain s.quads (matches g None None None)) old found → rest ≡ found → IsAdding s s g h rest
adding_begins s g h old found rest sound none l e =
    let all = found_all s g old found none l in
    record {
      all = ap (λ xs. named (with_all s (map (quad_in h) xs)) h) e
          ∙ (λ i. record { quads = union s.quads (listed_in (quads_of s.quads g) h found all i); names = names_come s.names h found i; next = s.next });
      below = subst (AreBelow s.next) (sym e) (each_item quad_cmp_total quad_cmp-IsAntisymmetric (IsQuadBelow s.next) found (λ q a.
          sound.quads_below q (and_first (contains s.quads q) _ (sym (contains-kept quad_cmp_total quad_cmp-IsAntisymmetric s.quads (λ q. same_graph g q.graph) q) ∙ ap (λ z. contains z q) (sym all) ∙ contains-from_list quad_cmp_total found q ∙ a))));
      counter = refl;
    }

pub adding_goes_on : (s now new : State) (g h : GraphName) (rest more : List QuadParts) (q moved : QuadParts) → IsAdding s now g h rest → rest ≡ q ∷ more → moved ≡ quad_in h q → new ≡ with_quad now moved → IsAdding s new g h more
adding_goes_on s now new g h rest more q moved a e m n =
    let is : new ≡ with_quad now (quad_in h q) = n ∙ ap (with_quad now) m in
    record {
      all = ap (λ t. named (with_all t (map (quad_in h) more)) h) is ∙ ap (λ t. named t h) (with_all-more now (quad_in h q) (map (quad_in h) more))
          ∙ ap (λ xs. named (with_all now (map (quad_in h) xs)) h) (sym e) ∙ a.all;
      below = (subst (AreBelow s.next) e a.below).1;
      counter = ap (λ (t : State). t.next) is ∙ a.counter;
    }

pub adding_ends : (s now : State) (g h : GraphName) (rest : List QuadParts) → IsAdding s now g h rest → rest ≡ [] → named now h ≡ added s g h
adding_ends s now g h rest a e = ap (λ t. named t h) (sym (with_all-nothing now)) ∙ ap (λ xs. named (with_all now (map (quad_in h) xs)) h) (sym e) ∙ a.all

-- the next quad's numbers
pub adding_below : (s now : State) (g h : GraphName) (rest more : List QuadParts) (q moved : QuadParts) → IsAdding s now g h rest → rest ≡ q ∷ more → IsGraphBelow s.next h → moved ≡ quad_in h q → IsQuadBelow now.next moved
adding_below s now g h rest more q moved a e b m =
    let below = (subst (AreBelow s.next) e a.below).0 in
    subst (λ n. IsQuadBelow n moved) (sym a.counter) (subst (IsQuadBelow s.next) (sym m) (record { graph = b; subject = below.subject; predicate = below.predicate; object = below.object }))

-- and the name of the graph comes
pub name_comes : (now new t : State) (h : GraphName) (n n' : Term) → named now h ≡ t → h ≡ Named n → n' ≡ n → new ≡ with_name now n' → new ≡ t
name_comes now new t h n n' e is same w = w ∙ ap (with_name now) same ∙ ap (named now) (sym is) ∙ e

pub no_name_comes : (now t : State) (h : GraphName) → named now h ≡ t → h ≡ Default → now ≡ t
no_name_comes now t h e is = ap (named now) (sym is) ∙ e
