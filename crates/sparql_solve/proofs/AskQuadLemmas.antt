-- Whether a row's quads lead to a solution, from some of them before the others.
use Rattle.std.proofs.Common.{◌≡◌, ℕ, ◌+◌, ◌<◌, ◌≤◌, Bool, true, false, List, [], ◌∷◌, ◌++◌, refl, sym, ap, ◌∙◌, length, take, drop, get_or, append-nil, Bor}
use Rattle.std.specs.List.{list_all, remove, sum_by}
use Rattle.std.proofs.lemmas.List.{drop-drop, drop_all, take-append-drop}
use Rattle.std.proofs.lemmas.List.Folds.{list_all-append}
use Rattle.rdf_terms.specs.Quad.{QuadParts}
use Rattle.rdf_terms.specs.declared.quad.GraphName.{GraphName}
use Rattle.rdf_dataset.specs.State.{State, AppendsSome}
use Rattle.rdf_dataset.specs.Sorted.{ListsOnce}
use Rattle.sparql_trees.specs.declared.expression.Expression.{Expression}
use Rattle.sparql_trees.specs.declared.pattern.Member.{Member}
use Rattle.sparql_values.specs.Mapping.{Variables, Mapping}
use Rattle.sparql_algebra.specs.Listing.{Listing, Lists}
use Rattle.sparql_algebra.specs.Results.{is_some_solution}
use Rattle.sparql_algebra.proofs.CallerLemmas.{and_left, and_right}
use Rattle.sparql_solve.specs.declared.place.Places.{Places}
use Rattle.sparql_solve.specs.Ask.{has_columns}
use Rattle.sparql_solve.specs.Matching.{has_held, matches_of, quads_under, stepped}
use Rattle.sparql_solve.proofs.AskLemmas.{Grows, InParts, grown_parts, grown_same, grows_to, some_first, some_rest}
use Rattle.sparql_solve.proofs.FewLemmas.{few_all, few_in, few_lead, none_twice, matches_parts}
use Rattle.sparql_solve.proofs.LookUpLemmas.{SameBag-matching, look_up_gives}
use Rattle.sparql_solve.proofs.PatternOrderLemmas.{asked, one_before}

-- ---- quads in parts

-- the first of some quads, and those behind them
matches_cut : (p : Places) (m : Mapping) (quads : List QuadParts) (n : ℕ) → matches_of quads p m ≡ matches_of (take n quads) p m ++ matches_of (drop n quads) p m
matches_cut p m quads n = ap (λ (qs : List QuadParts). matches_of qs p m) (sym (take-append-drop n quads)) ∙ matches_parts p m (take n quads) (drop n quads)

all_behind : (q : QuadParts → Bool) (n : ℕ) (quads : List QuadParts) → list_all q quads ≡ true → list_all q (drop n quads) ≡ true
all_behind q n quads h =
    and_right (list_all q (take n quads)) _ (sym (list_all-append q (take n quads) (drop n quads)) ∙ ap (list_all q) (take-append-drop n quads) ∙ h)

all_before : (q : QuadParts → Bool) (n : ℕ) (quads : List QuadParts) → list_all q quads ≡ true → list_all q (take n quads) ≡ true
all_before q n quads h =
    and_left (list_all q (take n quads)) _ (sym (list_all-append q (take n quads) (drop n quads)) ∙ ap (list_all q) (take-append-drop n quads) ∙ h)

pub part_held : (p : Places) (m : Mapping) (quads rest : List QuadParts) (done len : ℕ) → rest ≡ drop done quads → list_all (has_held p m) quads ≡ true →
    list_all (has_held p m) (take len rest) ≡ true
part_held p m quads rest done len er h =
    all_before (has_held p m) len rest (ap (list_all (has_held p m)) er ∙ all_behind (has_held p m) done quads h)

module _ (G : List Mapping → List Mapping) (h : InParts G) (p : Places) (m : Mapping) (quads rest : List QuadParts) (done len : ℕ) (whole : Bool) (er : rest ≡ drop done quads)
    (k : is_some_solution (G (matches_of (drop done quads) p m)) ≡ whole) where
  parted : matches_of (drop done quads) p m ≡ matches_of (take len rest) p m ++ matches_of (drop (done + len) quads) p m
  parted =
      ap (λ (qs : List QuadParts). matches_of qs p m) (sym er) ∙ matches_cut p m rest len
      ∙ ap (λ (qs : List QuadParts). matches_of (take len rest) p m ++ matches_of qs p m) (ap (drop len) er ∙ drop-drop len done quads)

  pub first_quads : (first : List Mapping) (answer : Bool) → first ≡ matches_of (take len rest) p m → answer ≡ is_some_solution (G first) → answer ≡ true → true ≡ whole
  first_quads first answer ef e t =
      some_first G h (matches_of (drop done quads) p m) (matches_of (take len rest) p m) (matches_of (drop (done + len) quads) p m) answer whole parted k
      (e ∙ ap (λ (xs : List Mapping). is_some_solution (G xs)) ef) t

  pub rest_quads : (first : List Mapping) (answer : Bool) → first ≡ matches_of (take len rest) p m → answer ≡ is_some_solution (G first) → answer ≡ false →
      is_some_solution (G (matches_of (drop (done + len) quads) p m)) ≡ whole
  rest_quads first answer ef e t =
      some_rest G h (matches_of (drop done quads) p m) (matches_of (take len rest) p m) (matches_of (drop (done + len) quads) p m) answer whole parted k
      (e ∙ ap (λ (xs : List Mapping). is_some_solution (G xs)) ef) t

pub no_quads : (G : List Mapping → List Mapping) → InParts G → (p : Places) (m : Mapping) (quads : List QuadParts) (done : ℕ) (whole : Bool) → length quads ≤ done →
    is_some_solution (G (matches_of (drop done quads) p m)) ≡ whole → false ≡ whole
no_quads G h p m quads done whole le k =
    sym (none_twice (G []) (h [] [])) ∙ ap (λ (qs : List QuadParts). is_some_solution (G (matches_of qs p m))) (sym (drop_all done quads le)) ∙ k

-- ---- a row's quads

module _ (vs : Variables) (s : State) (g : GraphName) (a : Mapping) (own : GraphName) (ms : List Member) (F : List Expression) where
  -- those that were looked up stand for all of the graph
  pub lone_some : (p : Places) (m : Mapping) (ps : List Places) (found given : List QuadParts) (answer : Bool) (d : Listing) → Lists s d →
      ListsOnce (quads_under s own p m) found → given ≡ found → answer ≡ is_some_solution (grows_to vs d g a own ms F ps (matches_of given p m)) →
      answer ≡ is_some_solution (grows_to vs d g a own ms F ps (matches_of (d.quads own) p m))
  lone_some p m ps found given answer d l h eg e =
      e ∙ grown_same vs s g a own ms F d ps ps (matches_of given p m) (matches_of (d.quads own) p m)
      (SameBag-matching (d.quads own) ps (matches_of given p m) (matches_of (d.quads own) p m) (look_up_gives s own p m found given (matches_of given p m) h eg refl d l))

  -- a few of them lead to what all of the graph lead to
  pub few_some : (p : Places) (m : Mapping) (ps : List Places) (all : Bool) (few given : List QuadParts) (answer : Bool) (d : Listing) → Lists s d →
      AppendsSome (quads_under s own p m) all [] few → given ≡ few → answer ≡ is_some_solution (grows_to vs d g a own ms F ps (matches_of given p m)) → answer ≡ true →
      true ≡ is_some_solution (grows_to vs d g a own ms F ps (matches_of (d.quads own) p m))
  few_some p m ps all few given answer d l h eg e t =
      let G : List Mapping → List Mapping = grows_to vs d g a own ms F ps in
      sym (few_lead G (grown_parts vs d g a own ms F ps) p m few (d.quads own) (few_in s own p m all few h (d.quads own) (l.quads own))
      (ap (λ (qs : List QuadParts). is_some_solution (G (matches_of qs p m))) (sym eg) ∙ sym e ∙ t))

  -- nothing more is looked up where they are all
  pub few_none : (p : Places) (m : Mapping) (ps : List Places) (all : Bool) (few given : List QuadParts) (answer : Bool) (d : Listing) → Lists s d →
      AppendsSome (quads_under s own p m) all [] few → given ≡ few → answer ≡ is_some_solution (grows_to vs d g a own ms F ps (matches_of given p m)) → answer ≡ false →
      all ≡ true → false ≡ is_some_solution (grows_to vs d g a own ms F ps (matches_of (d.quads own) p m))
  few_none p m ps all few given answer d l h eg e t k = sym t ∙ lone_some p m ps few given answer d l (few_all s own p m all few h k) eg e

  -- by one of the triple patterns before the others
  pub lone_grown : (all : List Places) (rest after : List (Bor Places)) (i : ℕ) (x : Bor Places) → i < length rest → x ≡ get_or rest i x → after ≡ remove rest i →
      (start rows : List Mapping) (m : Mapping) (given : List Mapping) (answer : Bool) (d : Listing) → given ≡ rows → given ≡ m ∷ [] →
      Grows vs d g a own ms F all (asked rest) start rows →
      (has_columns vs m ≡ true → answer ≡ is_some_solution (grows_to vs d g a own ms F (asked after) (matches_of (d.quads own) x.now m))) →
      answer ≡ is_some_solution (grows_to vs d g a own ms F all start)
  lone_grown all rest after i x lt here er start rows m given answer d eg em h k =
      let is : rows ≡ m ∷ [] = sym eg ∙ em in
      let quads : List QuadParts = d.quads own in
      k (and_left (has_columns vs m) _ (ap (list_all (has_columns vs)) (sym is) ∙ h.wide))
      ∙ grown_same vs s g a own ms F d (asked after) (asked rest) (matches_of quads x.now m) rows
      (one_before quads rest after i x rows (matches_of quads x.now m) lt here er
      (λ f. ap (sum_by f) (sym (append-nil (matches_of quads x.now m)) ∙ ap (λ (xs : List Mapping). stepped quads xs x.now) (sym is))))
      ∙ h.same
