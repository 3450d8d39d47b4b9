-- The names of the graphs of quads, and their numbers, as sets.
use Rattle.std.proofs.Common.{◌≡◌, ℕ, zero, suc, ◌+◌, Bool, true, false, ◌||◌, List, [], ◌∷◌, ◌++◌, All, append-nil, add-one, map, refl, sym, ap, subst, ◌∙◌, arith, inl, inr}
use mathlib.Core.Bool.{true≢false}
use Rattle.std.specs.Prelude.{IsTrue, Some, slice_get}
use Rattle.std.specs.List.{AllByRecursion, flat_map}
use Rattle.std.proofs.lemmas.List.{flat_map_more}
use Rattle.std.specs.declared.cmp.Ordering.{Ordering}
use Rattle.std.specs.Ordering.{eq_by_cmp, nat_cmp}
use Rattle.std.specs.Cmp.{IsTotalOrder, both_ways, nat_cmp_total}
use Rattle.std.specs.FinSet as set
use Rattle.std.specs.FinSet.{IsAntisymmetric, nat_cmp-IsAntisymmetric, contains-empty, contains-insert, contains-union, same_set}
use Rattle.rdf_terms.specs.declared.term.Term.{Term}
use Rattle.rdf_terms.specs.Quad.{QuadParts, is_quad}
use Rattle.rdf_terms.specs.Order.{term_cmp}
use Rattle.rdf_terms.specs.OrderLaws.{term_cmp_total, term_cmp-IsAntisymmetric, quad_cmp_total, quad_cmp-IsAntisymmetric}
use Rattle.rdf_terms.specs.Table.{IsIdOf}
use Rattle.rdf_orders.specs.declared.order.Order.TheVariants.{Spo}
use Rattle.rdf_orders.specs.Quads.{IdQuad, IdQuads, id_quad_cmp, key_in, quad_of, quads_of}
use Rattle.rdf_orders.specs.Contents as contents
use Rattle.rdf_orders.specs.Contents.{Contents, IsDisjoint, ListsKeys, empty_contents, ids_of}
use Rattle.rdf_orders.proofs.CallerLemmas.{id_quad_cmp_total, id_quad_cmp-IsAntisymmetric, is_either, either_first, either_second}
use Rattle.rdf_store.specs.Stored.{Stored, with_all}
use Rattle.rdf_store.specs.Gathered.{gathered, graph_names, names_in}
use Rattle.rdf_store.specs.Inside.Names.{name_in, named_by}
use Rattle.rdf_store.specs.Inside.Numbers.{AreIds, HasTerms, HaveTerms, IsGraphNumber, graph_at, image, parts_of, shown, term_at}
use Rattle.rdf_store.proofs.GrowthLemmas.{keys_matched}
use Rattle.rdf_store.proofs.ImageLemmas.{eq_of_same, image-from_list, same_of_eq}
use Rattle.rdf_store.proofs.StoreLemmas.{kept_nothing, kept_with_all, shown_nothing, shown_with_all}

-- ---- lists as sets

swapped : (a b c : Bool) → (a || (b || c)) ≡ (b || (a || c))
swapped true true c = refl
swapped true false c = refl
swapped false b c = refl

absorbed : (a b : Bool) → (a ≡ true → b ≡ true) → (a || b) ≡ b
absorbed true b h = sym (h refl)
absorbed false b h = refl

module _ {K : Type 0} {R : K → K → Ordering} (o : IsTotalOrder R) (apart : IsAntisymmetric R) where
  -- an item behind others
  pub from_pushed : (xs : List K) (x : K) → set.from_list {R = R} (xs ++ x ∷ []) ≡ set.insert (set.from_list xs) x
  from_pushed [] x = refl
  from_pushed (y ∷ ys) x = ap (λ (s : set.FinSet R). set.insert s y) (from_pushed ys x) ∙ same_set o apart _ _ (λ q.
      contains-insert o (set.insert (set.from_list ys) x) y q ∙ ap (λ b. eq_by_cmp R q y || b) (contains-insert o (set.from_list ys) x q)
      ∙ swapped (eq_by_cmp R q y) (eq_by_cmp R q x) (set.contains (set.from_list {R = R} ys) q)
      ∙ sym (contains-insert o (set.insert (set.from_list ys) y) x q ∙ ap (λ b. eq_by_cmp R q x || b) (contains-insert o (set.from_list ys) y q)))

  -- a first item is a member, and so is each of the others
  pub first_in : (x : K) (xs : List K) → set.contains (set.from_list {R = R} (x ∷ xs)) x ≡ true
  first_in x xs = contains-insert o (set.from_list xs) x x ∙ either_first _ _ (eq_of_same o apart x x refl)

  pub other_in : (x : K) (xs : List K) (y : K) → set.contains (set.from_list {R = R} xs) y ≡ true → set.contains (set.from_list {R = R} (x ∷ xs)) y ≡ true
  other_in x xs y h = contains-insert o (set.from_list xs) x y ∙ either_second (eq_by_cmp R y x) _ h

  got_in : (xs : List K) (k : ℕ) (x : K) → slice_get xs k ≡ Some x → set.contains (set.from_list {R = R} xs) x ≡ true
  got_in [] k x e = cc
  got_in (y ∷ ys) zero x e = let same : x ≡ y = cc in subst (λ z. set.contains (set.from_list {R = R} (z ∷ ys)) x ≡ true) same (first_in x ys)
  got_in (y ∷ ys) (suc k) x e = other_in y ys x (got_in ys k x e)

  -- an item that is there comes in again
  pub from_again : (xs : List K) (k : ℕ) (x : K) → slice_get xs k ≡ Some x → set.from_list {R = R} xs ≡ set.from_list (xs ++ x ∷ [])
  from_again xs k x e = sym (from_pushed xs x ∙ same_set o apart _ _ (λ q.
      contains-insert o (set.from_list xs) x q
      ∙ absorbed (eq_by_cmp R q x) (set.contains (set.from_list {R = R} xs) q) (λ t. ap (set.contains (set.from_list {R = R} xs)) (same_of_eq o apart q x t) ∙ got_in xs k x e)))

-- ---- the numbers of names

pub no_name : (names : List ℕ) (graph : ℕ) → graph ≡ 0 → ids_of names ≡ ids_of (names ++ named_by graph)
no_name names graph e = ap ids_of (sym (append-nil names)) ∙ ap (λ g. ids_of (names ++ named_by g)) (sym e)

pub last_name : (names : List ℕ) (graph name k : ℕ) → graph ≡ name + 1 → slice_get names k ≡ Some name → ids_of names ≡ ids_of (names ++ named_by graph)
last_name names graph name k e h = from_again nat_cmp_total nat_cmp-IsAntisymmetric names k name h ∙ ap (λ g. ids_of (names ++ named_by g)) (sym (e ∙ add-one name))

pub next_name : (names new : List ℕ) (graph name : ℕ) → graph ≡ name + 1 → new ≡ names ++ name ∷ [] → ids_of new ≡ ids_of (names ++ named_by graph)
next_name names new graph name e h = ap ids_of h ∙ ap (λ g. ids_of (names ++ named_by g)) (sym (e ∙ add-one name))

-- the same set, with the name of one key more
with_name_in : (xs ys : List ℕ) (graph : ℕ) → ids_of xs ≡ ids_of ys → ids_of (xs ++ named_by graph) ≡ ids_of (ys ++ named_by graph)
with_name_in xs ys zero e = ap ids_of (append-nil xs) ∙ e ∙ ap ids_of (sym (append-nil ys))
with_name_in xs ys (suc id) e = from_pushed nat_cmp_total nat_cmp-IsAntisymmetric xs id ∙ ap (λ s. set.insert s id) e ∙ sym (from_pushed nat_cmp_total nat_cmp-IsAntisymmetric ys id)

names_more : (keys : List (List ℕ)) (key : List ℕ) → flat_map name_in keys ++ name_in key ≡ flat_map name_in (keys ++ key ∷ [])
names_more keys key = flat_map_more name_in [] keys key

pub next_names : (old new : List ℕ) (keys : List (List ℕ)) (key : List ℕ) → ids_of old ≡ ids_of (flat_map name_in keys) → ids_of new ≡ ids_of (old ++ name_in key) → ids_of new ≡ ids_of (flat_map name_in (keys ++ key ∷ []))
next_names old new keys key was e = e ∙ with_name_in old (flat_map name_in keys) (quad_of key).graph was ∙ ap ids_of (names_more keys key)

-- ---- what they stand for

graph_name_is : (table : List Term) (graph : ℕ) (names : List ℕ) (terms : List Term) → map (term_at table) names ≡ terms → map (term_at table) (named_by graph ++ names) ≡ graph_names (graph_at table graph) ++ terms
graph_name_is table zero names terms e = e
graph_name_is table (suc id) names terms e = ap (λ l. term_at table id ∷ l) e

names_are : (table : List Term) (keys : List (List ℕ)) → map (term_at table) (flat_map name_in keys) ≡ flat_map names_in (map (parts_of table) keys)
names_are table [] = refl
names_are table (key ∷ keys) = graph_name_is table (quad_of key).graph (flat_map name_in keys) (flat_map names_in (map (parts_of table) keys)) (names_are table keys)

-- the numbers stand for the names of the graphs
pub names_shown : (table : List Term) (names : List ℕ) (keys : List (List ℕ)) → ids_of names ≡ ids_of (flat_map name_in keys) → set.from_list {R = term_cmp} (map (term_at table) names) ≡ set.from_list (flat_map names_in (map (parts_of table) keys))
names_shown table names keys e =
    sym (image-from_list nat_cmp_total nat_cmp-IsAntisymmetric term_cmp_total term_cmp-IsAntisymmetric (term_at table) names)
    ∙ ap (image (term_at table)) e
    ∙ image-from_list nat_cmp_total nat_cmp-IsAntisymmetric term_cmp_total term_cmp-IsAntisymmetric (term_at table) (flat_map name_in keys)
    ∙ ap (set.from_list {R = term_cmp}) (names_are table keys)

graph_name_kept : (table : List Term) (graph : ℕ) (names : List ℕ) (id : ℕ) → IsGraphNumber table graph (graph_at table graph) → (set.contains (ids_of names) id ≡ true → IsIdOf table id (term_at table id))
    → set.contains (ids_of (named_by graph ++ names)) id ≡ true → IsIdOf table id (term_at table id)
graph_name_kept table zero names id n more h = more h
graph_name_kept table (suc name) names id n more h = elim (is_either (eq_by_cmp nat_cmp id name) (set.contains (ids_of names) id) (sym (contains-insert nat_cmp_total (ids_of names) name id) ∙ h)) [
  | inl same ↦ subst (λ i. IsIdOf table i (term_at table i)) (sym (same_of_eq nat_cmp_total nat_cmp-IsAntisymmetric id name same)) n
  | inr other ↦ more other
]

names_kept : (table : List Term) (keys : List (List ℕ)) (id : ℕ) → AllByRecursion (λ key. HasTerms table (quad_of key)) keys → set.contains (ids_of (flat_map name_in keys)) id ≡ true → IsIdOf table id (term_at table id)
names_kept table [] id kept h = absurd (true≢false (sym h ∙ contains-empty nat_cmp id))
names_kept table (key ∷ keys) id kept h = graph_name_kept table (quad_of key).graph (flat_map name_in keys) id kept.0.graph (names_kept table keys id kept.1) h

ids_from : (table : List Term) (names : List ℕ) → ((id : ℕ) → set.contains (ids_of names) id ≡ true → IsIdOf table id (term_at table id)) → AreIds table names (map (term_at table) names)
ids_from table [] each = tt
ids_from table (name ∷ names) each =
    (each name (first_in nat_cmp_total nat_cmp-IsAntisymmetric name names), ids_from table names (λ id h. each id (other_in nat_cmp_total nat_cmp-IsAntisymmetric name names id h)))

-- the numbers are those of terms
pub names_have_terms : (table : List Term) (names : List ℕ) (keys : List (List ℕ)) → ids_of names ≡ ids_of (flat_map name_in keys) → All (λ key. HasTerms table (quad_of key)) keys → AreIds table names (map (term_at table) names)
names_have_terms table names keys e kept = ids_from table names (λ id h. names_kept table keys id (each keys kept) (subst (λ s. set.contains s id ≡ true) e h))
  where
    each : (ks : List (List ℕ)) → All (λ key. HasTerms table (quad_of key)) ks → AllByRecursion (λ key. HasTerms table (quad_of key)) ks
    each [] a = tt
    each (k ∷ ks) a = (a 0 k (omega arith), each ks (λ i d lt. a (suc i) d (omega arith)))

-- ---- the names of the graphs of a set of quads

-- some key of a list has the name
record HasName (keys : List (List ℕ)) (name : ℕ) : Type 0 where
  at : IdQuad
  in_list : set.contains (quads_of keys) at ≡ true
  is : at.graph ≡ suc name

name_from_graph : (key : List ℕ) (keys : List (List ℕ)) (graph : ℕ) (names : List ℕ) (name : ℕ) → (quad_of key).graph ≡ graph → (set.contains (ids_of names) name ≡ true → HasName keys name)
    → set.contains (ids_of (named_by graph ++ names)) name ≡ true → HasName (key ∷ keys) name
name_from_graph key keys zero names name e more h =
    let m = more h in
    record { at = m.at; in_list = other_in id_quad_cmp_total id_quad_cmp-IsAntisymmetric (quad_of key) (map quad_of keys) m.at m.in_list; is = m.is }
name_from_graph key keys (suc n) names name e more h = elim (is_either (eq_by_cmp nat_cmp name n) (set.contains (ids_of names) name) (sym (contains-insert nat_cmp_total (ids_of names) n name) ∙ h)) [
  | inl same ↦
      record {
        at = quad_of key;
        in_list = first_in id_quad_cmp_total id_quad_cmp-IsAntisymmetric (quad_of key) (map quad_of keys);
        is = e ∙ ap suc (sym (same_of_eq nat_cmp_total nat_cmp-IsAntisymmetric name n same));
      }
  | inr other ↦
      let m = more other in
      record { at = m.at; in_list = other_in id_quad_cmp_total id_quad_cmp-IsAntisymmetric (quad_of key) (map quad_of keys) m.at m.in_list; is = m.is }
]

name_from : (keys : List (List ℕ)) (name : ℕ) → set.contains (ids_of (flat_map name_in keys)) name ≡ true → HasName keys name
name_from [] name h = absurd (true≢false (sym h ∙ contains-empty nat_cmp name))
name_from (key ∷ keys) name h = name_from_graph key keys (quad_of key).graph (flat_map name_in keys) name refl (name_from keys name) h

name_to_first : (graph : ℕ) (names : List ℕ) (name : ℕ) → graph ≡ suc name → set.contains (ids_of (named_by graph ++ names)) name ≡ true
name_to_first graph names name e = subst (λ g. set.contains (ids_of (named_by g ++ names)) name ≡ true) (sym e) (first_in nat_cmp_total nat_cmp-IsAntisymmetric name names)

name_to_more : (graph : ℕ) (names : List ℕ) (name : ℕ) → set.contains (ids_of names) name ≡ true → set.contains (ids_of (named_by graph ++ names)) name ≡ true
name_to_more zero names name h = h
name_to_more (suc n) names name h = other_in nat_cmp_total nat_cmp-IsAntisymmetric n names name h

name_to : (keys : List (List ℕ)) (q : IdQuad) (name : ℕ) → set.contains (quads_of keys) q ≡ true → q.graph ≡ suc name → set.contains (ids_of (flat_map name_in keys)) name ≡ true
name_to [] q name h e = absurd (true≢false (sym h ∙ contains-empty id_quad_cmp q))
name_to (key ∷ keys) q name h e = elim (is_either (eq_by_cmp id_quad_cmp q (quad_of key)) (set.contains (quads_of keys) q) (sym (contains-insert id_quad_cmp_total (quads_of keys) (quad_of key) q) ∙ h)) [
  | inl same ↦
      name_to_first (quad_of key).graph (flat_map name_in keys) name (ap (λ (x : IdQuad). x.graph) (sym (same_of_eq id_quad_cmp_total id_quad_cmp-IsAntisymmetric q (quad_of key) same)) ∙ e)
  | inr more ↦ name_to_more (quad_of key).graph (flat_map name_in keys) name (name_to keys q name more e)
]

within : (xs ys : List (List ℕ)) (name : ℕ) → quads_of xs ≡ quads_of ys → set.contains (ids_of (flat_map name_in xs)) name ≡ true → set.contains (ids_of (flat_map name_in ys)) name ≡ true
within xs ys name e h = let m = name_from xs name h in name_to ys m.at name (subst (λ (s : IdQuads). set.contains s m.at ≡ true) e m.in_list) m.is

-- two lists of the same quads
same_names : (xs ys : List (List ℕ)) → quads_of xs ≡ quads_of ys → ids_of (flat_map name_in xs) ≡ ids_of (flat_map name_in ys)
same_names xs ys e = same_set nat_cmp_total nat_cmp-IsAntisymmetric _ _ (λ name. both_ways _ _ (within xs ys name e) (within ys xs name (sym e)))

-- ---- what is made of keys

union_none : {K : Type 0} {R : K → K → Ordering} (o : IsTotalOrder R) (apart : IsAntisymmetric R) (s : set.FinSet R) → set.union s set.empty ≡ s
union_none {K} {R} o apart s = same_set o apart _ _ (λ q. contains-union o s set.empty q ∙ ap (λ b. set.contains s q || b) (contains-empty R q) ∙ or_false (set.contains s q))
  where
    or_false : (b : Bool) → (b || false) ≡ b
    or_false true = refl
    or_false false = refl

none_union : {K : Type 0} {R : K → K → Ordering} (o : IsTotalOrder R) (apart : IsAntisymmetric R) (s : set.FinSet R) → set.union set.empty s ≡ s
none_union {K} {R} o apart s = same_set o apart _ _ (λ q. contains-union o set.empty s q ∙ ap (λ b. b || set.contains s q) (contains-empty R q))

-- nothing is a member of two sets, where one is empty
pub none_left : {K : Type 0} {R : K → K → Ordering} (s t : set.FinSet R) → s ≡ set.empty → IsDisjoint s t
none_left {K} {R} s t e q h k = true≢false (sym h ∙ ap (λ (z : set.FinSet R). set.contains z q) e ∙ contains-empty R q)

pub none_right : {K : Type 0} {R : K → K → Ordering} (s t : set.FinSet R) → t ≡ set.empty → IsDisjoint s t
none_right s t e q h k = none_left t s e q k h

pub no_names_yet : (c : Contents) (keys : List (List ℕ)) → c ≡ contents.with_all empty_contents keys [] → c.names ≡ set.empty
no_names_yet c keys e = ap (λ (x : Contents). x.names) e ∙ union_none nat_cmp_total nat_cmp-IsAntisymmetric set.empty

-- the keys of a list
listed_keys : (found : List IdQuad) → map quad_of (map (key_in Spo) found) ≡ found
listed_keys [] = refl
listed_keys (q ∷ found) = ap (λ l. q ∷ l) (listed_keys found)

-- the quads come in, and then the names of their graphs, which were taken from a list of them
pub names_behind : (c d : Contents) (keys listed : List (List ℕ)) (names : List ℕ) → c ≡ contents.with_all empty_contents keys [] → ListsKeys c.quads listed → ids_of names ≡ ids_of (flat_map name_in listed)
    → d ≡ contents.with_all c [] names → d ≡ contents.with_all empty_contents keys (flat_map name_in keys)
names_behind c d keys listed names e l n f =
    let found : quads_of listed ≡ quads_of keys =
    ap quads_of l.are_keys ∙ ap (set.from_list {R = id_quad_cmp}) (listed_keys l.found) ∙ l.sorted.lists.all
    ∙ ap (λ (x : Contents). x.quads) e ∙ none_union id_quad_cmp_total id_quad_cmp-IsAntisymmetric (quads_of keys) in
    let quads : d.quads ≡ set.union set.empty (quads_of keys) =
    ap (λ (x : Contents). x.quads) f ∙ union_none id_quad_cmp_total id_quad_cmp-IsAntisymmetric c.quads ∙ ap (λ (x : Contents). x.quads) e in
    let named : d.names ≡ set.union set.empty (ids_of (flat_map name_in keys)) =
    ap (λ (x : Contents). x.names) f ∙ ap (λ s. set.union s (ids_of names)) (no_names_yet c keys e) ∙ ap (set.union {R = nat_cmp} set.empty) (n ∙ same_names listed keys found) in
    λ i. record { quads = quads i; names = named i }

-- ---- and what the store shows of them

module _ (table : List Term) (keys : List (List ℕ)) (quads : List QuadParts) (c : Contents) (kept : All (λ key. HasTerms table (quad_of key)) keys) (are : map (parts_of table) keys ≡ quads)
    (e : c ≡ contents.with_all empty_contents keys (flat_map name_in keys)) where
  pub gathered_kept : HaveTerms table c
  gathered_kept = subst (HaveTerms table) (sym e)
      (kept_with_all table empty_contents (kept_nothing table) keys (flat_map name_in keys) (map (parts_of table) keys) (map (term_at table) (flat_map name_in keys))
      (keys_matched table keys kept) (names_have_terms table (flat_map name_in keys) keys refl kept))

  pub gathered_shown : shown table c ≡ gathered quads
  gathered_shown =
      ap (shown table) e
      ∙ shown_with_all table empty_contents (kept_nothing table) keys (flat_map name_in keys) (map (parts_of table) keys) (map (term_at table) (flat_map name_in keys))
      (keys_matched table keys kept) (names_have_terms table (flat_map name_in keys) keys refl kept)
      ∙ ap (λ (s : Stored). with_all s (map (parts_of table) keys) (map (term_at table) (flat_map name_in keys))) (shown_nothing table)
      ∙ (λ i. record {
        quads = none_union quad_cmp_total quad_cmp-IsAntisymmetric (set.from_list (map (parts_of table) keys)) i;
        names = (none_union term_cmp_total term_cmp-IsAntisymmetric (set.from_list (map (term_at table) (flat_map name_in keys))) ∙ names_shown table (flat_map name_in keys) keys refl) i;
      })
      ∙ ap gathered are

  pub gathered_sound : AllByRecursion (λ q. IsTrue (is_quad q)) quads
  gathered_sound = subst (AllByRecursion (λ q. IsTrue (is_quad q))) are (each keys kept)
    where
      each : (ks : List (List ℕ)) → All (λ key. HasTerms table (quad_of key)) ks → AllByRecursion (λ q. IsTrue (is_quad q)) (map (parts_of table) ks)
      each [] a = tt
      each (k ∷ ks) a = ((a 0 k (omega arith)).sound, each ks (λ i d lt. a (suc i) d (omega arith)))
