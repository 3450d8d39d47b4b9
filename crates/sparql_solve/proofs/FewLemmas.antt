-- Some of the quads that are looked up under a row: what they lead to, all of the graph lead to.
use Rattle.std.proofs.Common.{◌≡◌, ℕ, ◌+◌, Bool, true, false, ◌&&◌, ◌||◌, List, [], ◌∷◌, ◌++◌, Option, None, refl, sym, ap, ◌∙◌, subst, length, arith, length-append, nat_eq}
use Rattle.std.specs.List.{list_all, list_any}
use Rattle.std.specs.Ordering.{eq_by_cmp, is_eq}
use Rattle.std.specs.Cmp.{Equal-is, tied_itself}
use Rattle.std.specs.FinSet as set
use Rattle.std.specs.FinSet.{contains-from_list, contains-retain}
use Rattle.std.proofs.lemmas.List.Elements.{filter_map-append}
use Rattle.rdf_terms.specs.Order.{quad_cmp}
use Rattle.rdf_terms.specs.OrderLaws.{quad_cmp_total, quad_cmp-IsAntisymmetric}
use Rattle.rdf_terms.specs.Quad.{QuadParts}
use Rattle.rdf_terms.specs.declared.quad.GraphName.{GraphName}
use Rattle.rdf_terms.specs.declared.term.Term.{Term}
use Rattle.rdf_dataset.specs.State.{State, AppendsSome, matches}
use Rattle.rdf_dataset.specs.Sorted.{ListsOnce}
use Rattle.sparql_values.specs.Mapping.{Mapping}
use Rattle.sparql_algebra.specs.Listing.{Listing, Lists, graph_quads}
use Rattle.sparql_algebra.specs.Results.{is_some_solution}
use Rattle.sparql_algebra.proofs.CallerLemmas.{some_same}
use Rattle.sparql_solve.specs.declared.place.Places.{Places}
use Rattle.sparql_solve.specs.Matching.{has_held, held, matched, matches_of, quads_under}
use Rattle.sparql_solve.specs.Members.{AreSolutions}
use Rattle.sparql_solve.proofs.AskLemmas.{InParts, some_append}
use Rattle.sparql_solve.proofs.FitLemmas.{each_had, either_last, under_graph, under_held, under_there}
use Rattle.sparql_solve.proofs.LookUpLemmas.{look_up_gives}

-- ---- lists

-- the list has the quad
abbrev has : List QuadParts → QuadParts → Bool
has xs q = list_any (eq_by_cmp quad_cmp q) xs

-- what is true of one of a list is true of one of each list that has all of it
module _ (leads : QuadParts → Bool) where
  one_at : (x : QuadParts) (ys : List QuadParts) → has ys x ≡ true → leads x ≡ true → list_any leads ys ≡ true
  one_at x [] h e = cc
  one_at x (y ∷ ys) h e = by_head (eq_by_cmp quad_cmp x y) refl h (λ r. one_at x ys r e)
    where
      by_head : (b : Bool) → eq_by_cmp quad_cmp x y ≡ b → (b || has ys x) ≡ true → (has ys x ≡ true → list_any leads ys ≡ true) → list_any leads (y ∷ ys) ≡ true
      by_head true k r f = ap (λ b. b || list_any leads ys) (ap leads (sym (quad_cmp-IsAntisymmetric x y ((Equal-is (quad_cmp x y)).0 k))) ∙ e)
      by_head false k r f = either_last (leads y) (list_any leads ys) (f r)

  one_of : (xs ys : List QuadParts) → ((q : QuadParts) → has xs q ≡ true → has ys q ≡ true) → list_any leads xs ≡ true → list_any leads ys ≡ true
  one_of [] ys f e = cc
  one_of (x ∷ xs) ys f e = by_head (leads x) refl e (λ r. one_of xs ys (λ q h. f q (either_last (eq_by_cmp quad_cmp q x) (has xs q) h)) r)
    where
      by_head : (b : Bool) → leads x ≡ b → (b || list_any leads xs) ≡ true → (list_any leads xs ≡ true → list_any leads ys ≡ true) → list_any leads ys ≡ true
      by_head true k r w = one_at x ys (f x (ap (λ b. b || has xs x) (ap is_eq (tied_itself quad_cmp_total x)))) k
      by_head false k r w = w r

-- ---- what quads lead to

pub matches_parts : (p : Places) (m : Mapping) (xs ys : List QuadParts) → matches_of (xs ++ ys) p m ≡ matches_of xs p m ++ matches_of ys p m
matches_parts p m xs ys = filter_map-append (matched p m) xs ys

pub none_twice : (xs : List Mapping) → xs ≡ xs ++ xs → is_some_solution xs ≡ false
none_twice [] e = refl
none_twice (x ∷ xs) e =
    let n : length (x ∷ xs) ≡ length (x ∷ xs) + length (x ∷ xs) = ap length e ∙ length-append (x ∷ xs) (x ∷ xs) in
    absurd (omega (arith, n))

module _ (G : List Mapping → List Mapping) (h : InParts G) (p : Places) (m : Mapping) where
  abbrev leads : QuadParts → Bool
  leads q = is_some_solution (G (matches_of (q ∷ []) p m))

  -- quads lead to a solution where one of them does
  one_leads : (quads : List QuadParts) → is_some_solution (G (matches_of quads p m)) ≡ list_any leads quads
  one_leads [] = none_twice (G []) (h [] [])
  one_leads (q ∷ quads) =
      ap (λ (xs : List Mapping). is_some_solution (G xs)) (matches_parts p m (q ∷ []) quads)
      ∙ ap is_some_solution (h (matches_of (q ∷ []) p m) (matches_of quads p m))
      ∙ some_append (G (matches_of (q ∷ []) p m)) (G (matches_of quads p m))
      ∙ ap (λ b. leads q || b) (one_leads quads)

  pub few_lead : (few quads : List QuadParts) → ((q : QuadParts) → has few q ≡ true → has quads q ≡ true) →
      is_some_solution (G (matches_of few p m)) ≡ true → is_some_solution (G (matches_of quads p m)) ≡ true
  few_lead few quads f e = one_leads quads ∙ one_of leads few quads f (sym (one_leads few) ∙ e)

-- ---- those of a look-up

few_under : (s : State) (g : GraphName) (p : Places) (m : Mapping) (a b c : Option Term) (all : Bool) (old few : List QuadParts) → a ≡ held m p.subject →
    b ≡ held m p.predicate → c ≡ held m p.object → old ≡ [] → AppendsSome (set.retain s.quads (matches g a b c)) all old few → AppendsSome (quads_under s g p m) all [] few
few_under s g p m a b c all old few ea eb ec eo h =
    subst (λ (xs : List QuadParts). AppendsSome (quads_under s g p m) all xs few) eo
    (subst (λ (z : Option Term). AppendsSome (set.retain s.quads (matches g (held m p.subject) (held m p.predicate) z)) all old few) ec
    (subst (λ (y : Option Term). AppendsSome (set.retain s.quads (matches g (held m p.subject) y c)) all old few) eb
    (subst (λ (x : Option Term). AppendsSome (set.retain s.quads (matches g x b c)) all old few) ea h)))

module _ (s : State) (g : GraphName) (p : Places) (m : Mapping) (all : Bool) (few : List QuadParts) (h : AppendsSome (quads_under s g p m) all [] few) where
  listed : ListsOnce h.some few
  listed = subst (ListsOnce h.some) (sym h.appended.appended) h.appended.each_once

  under : (q : QuadParts) → has few q ≡ true → set.contains (quads_under s g p m) q ≡ true
  under q k = h.within q (ap (λ z. set.contains z q) (sym listed.all) ∙ contains-from_list quad_cmp_total few q ∙ k)

  few_held : list_all (has_held p m) few ≡ true
  few_held = each_had (has_held p m) few (λ q k. under_held s g p m q (under q k))

  pub few_all : all ≡ true → ListsOnce (quads_under s g p m) few
  few_all e = subst (λ quads. ListsOnce quads few) (h.whole e) listed

  pub few_in : (quads : List QuadParts) → ListsOnce (graph_quads s g) quads → (q : QuadParts) → has few q ≡ true → has quads q ≡ true
  few_in quads l q k =
      let in_graph = matches g None None None in
      sym (contains-from_list quad_cmp_total quads q) ∙ ap (λ z. set.contains z q) l.all
      ∙ contains-retain s.quads in_graph q (λ x i. ap in_graph (sym (quad_cmp-IsAntisymmetric q x i)))
      ∙ ap (λ b. b && in_graph q) (under_there s g p m q (under q k))
      ∙ ap (λ b. b && true) (under_graph s g p m q (under q k))

  -- the rows that they make are some where the graph's quads make some
  module _ (given : List QuadParts) (rows : List Mapping) (eg : given ≡ few) (er : rows ≡ matches_of given p m) (d : Listing) (l : Lists s d) where
    pub all_enough : all ≡ true → is_some_solution rows ≡ is_some_solution (matches_of (d.quads g) p m)
    all_enough e = some_same rows (matches_of (d.quads g) p m) (look_up_gives s g p m few given rows (few_all e) eg er d l)

    pub one_enough : (n : ℕ) → nat_eq n 0 ≡ false → n ≡ length rows → is_some_solution rows ≡ is_some_solution (matches_of (d.quads g) p m)
    one_enough n e en =
        let found : is_some_solution rows ≡ true = not_empty rows n e en in
        found
        ∙ sym (few_lead (λ xs. xs) (λ xs ys. refl) p m few (d.quads g) (few_in (d.quads g) (l.quads g))
        (ap (λ (qs : List QuadParts). is_some_solution (matches_of qs p m)) (sym eg) ∙ ap is_some_solution (sym er) ∙ found))
      where
        not_empty : (xs : List Mapping) (i : ℕ) → nat_eq i 0 ≡ false → i ≡ length xs → is_some_solution xs ≡ true
        not_empty [] i h k = let none : nat_eq i 0 ≡ true = ap (λ (j : ℕ). nat_eq j 0) k in cc
        not_empty (x ∷ xs) i h k = refl

pub some_as : (s : State) (F : Listing → List Mapping) (out : List Mapping) → AreSolutions s out F → (d : Listing) → Lists s d → is_some_solution out ≡ is_some_solution (F d)
some_as s F out h d l = some_same out (F d) (h d l)

pub asked_held : (s : State) (g : GraphName) (p : Places) (m : Mapping) (a b c : Option Term) (all : Bool) (old few : List QuadParts) → a ≡ held m p.subject →
    b ≡ held m p.predicate → c ≡ held m p.object → old ≡ [] → AppendsSome (set.retain s.quads (matches g a b c)) all old few → list_all (has_held p m) few ≡ true
asked_held s g p m a b c all old few ea eb ec eo h = few_held s g p m all few (few_under s g p m a b c all old few ea eb ec eo h)
