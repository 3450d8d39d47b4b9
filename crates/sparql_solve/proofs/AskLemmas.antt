-- Whether rows have a solution, from some of them before the others.
use Rattle.std.proofs.Common.{◌≡◌, ℕ, ◌+◌, ◌<◌, ◌≤◌, Bool, true, false, ◌&&◌, ◌||◌, List, [], ◌∷◌, ◌++◌, map, filter, Option, Some, None, IfSome, refl, sym, ap, ◌∙◌, subst, length, take, drop, replicate, get_or, arith, length-append, Bor}
use Rattle.std.specs.List.{flat_map, list_all, cons_option, remove}
use Rattle.std.proofs.lemmas.Bool.{eqb-true, eq-eqb, le-leb, leb-true}
use Rattle.std.proofs.lemmas.Grind.{flat_map-append}
use Rattle.std.proofs.lemmas.List.{drop_more, drop_all, map-append, length-take-le}
use Rattle.std.proofs.lemmas.List.Elements.{filter-append}
use Rattle.std.proofs.lemmas.List.Folds.{list_all-append}
use Rattle.rdf_terms.specs.Quad.{QuadParts}
use Rattle.rdf_terms.specs.declared.quad.GraphName.{GraphName}
use Rattle.rdf_dataset.specs.State.{State}
use Rattle.sparql_trees.specs.declared.expression.Expression.{Expression}
use Rattle.sparql_trees.specs.declared.pattern.Member.{Member}
use Rattle.sparql_values.specs.Mapping.{Variables, Mapping, compatible}
use Rattle.sparql_algebra.specs.Algebra.{Algebra, Element, joined, optional, element, removed}
use Rattle.sparql_algebra.specs.Bags.{SameBag}
use Rattle.sparql_algebra.specs.Listing.{Listing, Lists}
use Rattle.sparql_algebra.specs.Results.{is_some_solution}
use Rattle.sparql_algebra.specs.Solutions.{merges, or_alone, satisfies, solutions, shares}
use Rattle.sparql_algebra.specs.Under.{agreeing}
use Rattle.sparql_algebra.proofs.CallerLemmas.{and_left, and_right, some_same, SameBag-refl, SameBag-filter, SameBag-map, SameBag-flat_map, has_length, length_from, length_to, all_filter, merges_length, solutions_length}
use Rattle.sparql_solve.specs.declared.look_ups.Graphs.{Graphs}
use Rattle.sparql_solve.specs.declared.look_ups.Graphs.TheVariants.{One}
use Rattle.sparql_solve.specs.declared.look_ups.LookUp.{LookUp}
use Rattle.sparql_solve.specs.declared.place.Places.{Places}
use Rattle.sparql_solve.specs.Ask.{cut_under, followed, has_columns, looked_up_under}
use Rattle.sparql_solve.specs.LookUps.{widened}
use Rattle.sparql_solve.specs.Matching.{matched, matches_of, stepped, matching}
use Rattle.sparql_solve.specs.Members.{AreSolutions, element_solutions}
use Rattle.sparql_solve.specs.Sides.{found_in, found_among}
use Rattle.sparql_solve.specs.Under.{is_joined, is_wide, kept, made, AreMade, IsLookUpOf, where_none, all_made}
use Rattle.sparql_solve.proofs.LengthLemmas.{matched_keeps}
use Rattle.sparql_solve.proofs.PatternOrderLemmas.{asked, one_looked_up}
use Rattle.sparql_solve.proofs.SideLemmas.{same_all, all_give}

-- ---- some of a list

pub some_append : (xs ys : List Mapping) → is_some_solution (xs ++ ys) ≡ (is_some_solution xs || is_some_solution ys)
some_append [] ys = refl
some_append (x ∷ xs) ys = refl

-- ---- what is found chunk by chunk

-- what is made of lists is made of each of their parts
abbrev pub InParts : (List Mapping → List Mapping) → Type 0
InParts G = (xs ys : List Mapping) → G (xs ++ ys) ≡ G xs ++ G ys

module _ (G : List Mapping → List Mapping) (h : InParts G) where
  pub some_first : (rows first rest : List Mapping) (answer whole : Bool) → rows ≡ first ++ rest → is_some_solution (G rows) ≡ whole →
      answer ≡ is_some_solution (G first) → answer ≡ true → true ≡ whole
  some_first rows first rest answer whole e k a t =
      ap (λ b. b || is_some_solution (G rest)) (sym t ∙ a) ∙ sym (some_append (G first) (G rest)) ∙ ap is_some_solution (sym (h first rest) ∙ ap G (sym e)) ∙ k

  pub some_rest : (rows first rest : List Mapping) (answer whole : Bool) → rows ≡ first ++ rest → is_some_solution (G rows) ≡ whole →
      answer ≡ is_some_solution (G first) → answer ≡ false → is_some_solution (G rest) ≡ whole
  some_rest rows first rest answer whole e k a t =
      ap (λ b. b || is_some_solution (G rest)) (sym t ∙ a) ∙ sym (some_append (G first) (G rest)) ∙ ap is_some_solution (sym (h first rest) ∙ ap G (sym e)) ∙ k

module _ (q : Mapping → Bool) where
  pub first_all : (rows first rest : List Mapping) → rows ≡ first ++ rest → list_all q rows ≡ true → list_all q first ≡ true
  first_all rows first rest e w = and_left (list_all q first) _ (sym (list_all-append q first rest) ∙ ap (list_all q) (sym e) ∙ w)

  pub rest_all : (rows first rest : List Mapping) → rows ≡ first ++ rest → list_all q rows ≡ true → list_all q rest ≡ true
  rest_all rows first rest e w = and_right (list_all q first) _ (sym (list_all-append q first rest) ∙ ap (list_all q) (sym e) ∙ w)

-- ---- elements, one after another

module _ (vs : Variables) (d : Listing) (g : GraphName) (a : Mapping) where
  all_made_parts : (ks : List Element) → InParts (all_made vs d g a ks)
  all_made_parts [] xs ys = refl
  all_made_parts (k ∷ ks) xs ys =
      ap (all_made vs d g a ks) (flat_map-append (made vs d g a k) xs ys) ∙ all_made_parts ks (flat_map (made vs d g a k) xs) (flat_map (made vs d g a k) ys)

  pub followed_parts : (ks : List Element) (F : List Expression) → InParts (followed vs d g a ks F)
  followed_parts ks F xs ys =
      ap (filter (satisfies vs F)) (all_made_parts ks xs ys) ∙ filter-append (satisfies vs F) (all_made vs d g a ks xs) (all_made vs d g a ks ys)

  pub all_made_bag : (ks : List Element) (xs ys : List Mapping) → SameBag xs ys → SameBag (all_made vs d g a ks xs) (all_made vs d g a ks ys)
  all_made_bag [] xs ys h = h
  all_made_bag (k ∷ ks) xs ys h =
      all_made_bag ks (flat_map (made vs d g a k) xs) (flat_map (made vs d g a k) ys)
      (SameBag-flat_map (made vs d g a k) (made vs d g a k) xs ys h (λ x. SameBag-refl (made vs d g a k x)))

  pub followed_same : (ks : List Element) (F : List Expression) (xs ys : List Mapping) → SameBag xs ys →
      is_some_solution (followed vs d g a ks F xs) ≡ is_some_solution (followed vs d g a ks F ys)
  followed_same ks F xs ys h =
      some_same (followed vs d g a ks F xs) (followed vs d g a ks F ys)
      (SameBag-filter (satisfies vs F) (all_made vs d g a ks xs) (all_made vs d g a ks ys) (all_made_bag ks xs ys h))

-- ---- what elements make is as wide as the variables

wide_from : (vs : Variables) (x : Mapping) → is_wide vs x ≡ true → length x ≡ length vs
wide_from vs x h = eqb-true (length x) (length vs) h

wide_to : (vs : Variables) (x : Mapping) → length x ≡ length vs → is_wide vs x ≡ true
wide_to vs x e = eq-eqb (length x) (length vs) e

all_wide : (vs : Variables) (xs : List Mapping) → list_all (has_length (length vs)) xs ≡ true → list_all (is_wide vs) xs ≡ true
all_wide vs [] h = refl
all_wide vs (x ∷ xs) h =
    ap (λ b. b && list_all (is_wide vs) xs) (wide_to vs x (length_from (length vs) x (and_left (has_length (length vs) x) _ h)))
    ∙ all_wide vs xs (and_right (has_length (length vs) x) _ h)

or_alone_wide : (vs : Variables) (x : Mapping) (ms : List Mapping) → is_wide vs x ≡ true → list_all (is_wide vs) ms ≡ true → list_all (is_wide vs) (or_alone x ms) ≡ true
or_alone_wide vs x [] h k = ap (λ b. b && true) h
or_alone_wide vs x (m ∷ ms) h k = k

where_none_wide : (vs : Variables) (x : Mapping) (ms : List Mapping) → is_wide vs x ≡ true → list_all (is_wide vs) (where_none x ms) ≡ true
where_none_wide vs x [] h = ap (λ b. b && true) h
where_none_wide vs x (m ∷ ms) h = refl

all_in : {X Y : Type 0} (p : X → Bool) (q : Y → Bool) (f : X → List Y) → ((x : X) → p x ≡ true → list_all q (f x) ≡ true) → (xs : List X) →
    list_all p xs ≡ true → list_all q (flat_map f xs) ≡ true
all_in p q f each [] h = refl
all_in p q f each (x ∷ xs) h =
    list_all-append q (f x) (flat_map f xs) ∙ ap (λ b. b && list_all q (flat_map f xs)) (each x (and_left (p x) _ h))
    ∙ all_in p q f each xs (and_right (p x) _ h)

module _ (vs : Variables) (d : Listing) (g : GraphName) (a : Mapping) where
  merges_wide : (A : Algebra) (x : Mapping) → is_wide vs x ≡ true → list_all (is_wide vs) (merges (solutions vs d g A) x) ≡ true
  merges_wide A x w =
      all_wide vs (merges (solutions vs d g A) x)
      (merges_length (length vs) (solutions vs d g A) x (solutions_length vs d g A) (length_to (length vs) x (wide_from vs x w)))

  made_wide : (k : Element) (x : Mapping) → is_wide vs x ≡ true → list_all (is_wide vs) (made vs d g a k x) ≡ true
  made_wide (joined A) x w = all_filter (is_wide vs) (compatible a) (merges (solutions vs d g A) x) (merges_wide A x w)
  made_wide (optional F A) x w =
      let ms : List Mapping = merges (solutions vs d g A) x in
      all_filter (is_wide vs) (compatible a) (or_alone x (filter (satisfies vs F) ms))
      (or_alone_wide vs x (filter (satisfies vs F) ms) w (all_filter (is_wide vs) (satisfies vs F) ms (merges_wide A x w)))
  made_wide (removed A) x w =
      let ms : List Mapping = merges (filter (shares x) (solutions vs d g A)) x in
      all_filter (is_wide vs) (compatible a) (where_none x ms) (where_none_wide vs x ms w)

module _ (vs : Variables) (s : State) (g : GraphName) (a : Mapping) (d : Listing) (l : Lists s d) (ea : length a ≡ length vs) where
  -- the rows after an element
  pub after_wide : (k : Element) (rows out : List Mapping) → list_all (is_wide vs) rows ≡ true → AreMade vs s g a k rows out → list_all (is_wide vs) out ≡ true
  after_wide k rows out w h =
      same_all (is_wide vs) out (flat_map (made vs d g a k) rows) (h ea w d l)
      (all_in (is_wide vs) (is_wide vs) (made vs d g a k) (made_wide vs d g a k) rows w)

  after_some : (k : Element) (ks : List Element) (F : List Expression) (rows out : List Mapping) → list_all (is_wide vs) rows ≡ true → AreMade vs s g a k rows out →
      is_some_solution (followed vs d g a ks F out) ≡ is_some_solution (followed vs d g a (k ∷ ks) F rows)
  after_some k ks F rows out w h = followed_same vs d g a ks F out (flat_map (made vs d g a k) rows) (h ea w d l)

-- ---- the loop over the members

-- What the loop knows of the members and rows that are left: what all members make of all rows has a solution where these have one.
pub record Asks (vs : Variables) (d : Listing) (g : GraphName) (a : Mapping) (F : List Expression) (all ms : List Member) (start rows : List Mapping) : Type 0 where
  pub wide : list_all (is_wide vs) rows ≡ true
  pub same : is_some_solution (followed vs d g a (map element ms) F rows) ≡ is_some_solution (followed vs d g a (map element all) F start)

module _ (vs : Variables) (s : State) (g : GraphName) (a : Mapping) (F : List Expression) where
  pub asks_all : (d : Listing) (ms : List Member) (rows : List Mapping) → list_all (is_wide vs) rows ≡ true → Asks vs d g a F ms ms rows rows
  asks_all d ms rows w = record { wide = w; same = refl }

  module _ (ms : List Member) (i : ℕ) (x : Member) (rest : List Member) (lt : i < length ms) (here : x ≡ get_or ms i x) (er : rest ≡ drop (i + 1) ms)
      (d : Listing) (l : Lists s d) (ea : length a ≡ length vs) (start rows : List Mapping) (h : Asks vs d g a F ms (drop i ms) start rows) where
    next : drop i ms ≡ x ∷ rest
    next = drop_more ms i x lt ∙ ap (λ (y : Member). y ∷ drop (i + 1) ms) (sym here) ∙ ap (λ (ys : List Member). x ∷ ys) (sym er)

    left : is_some_solution (followed vs d g a (element x ∷ map element rest) F rows) ≡ is_some_solution (followed vs d g a (map element ms) F start)
    left = ap (λ (ys : List Member). is_some_solution (followed vs d g a (map element ys) F rows)) (sym next) ∙ h.same

    pub after_all : (out : List Mapping) → AreMade vs s g a (element x) rows out → list_all (is_wide vs) out ≡ true
    after_all out r = after_wide vs s g a d l ea (element x) rows out h.wide r

    pub some_after : (out kept : List Mapping) (answer : Bool) → AreMade vs s g a (element x) rows out →
        (list_all (is_wide vs) out ≡ true → (answer || is_some_solution (followed vs d g a (map element rest) F kept)) ≡ is_some_solution (followed vs d g a (map element rest) F out)) →
        answer ≡ true → true ≡ is_some_solution (followed vs d g a (map element ms) F start)
    some_after out kept answer r k t =
        ap (λ b. b || is_some_solution (followed vs d g a (map element rest) F kept)) (sym t) ∙ k (after_all out r)
        ∙ after_some vs s g a d l ea (element x) (map element rest) F rows out h.wide r ∙ left

    pub asks_rest : (out kept : List Mapping) (answer : Bool) → AreMade vs s g a (element x) rows out →
        (list_all (is_wide vs) out ≡ true → (answer || is_some_solution (followed vs d g a (map element rest) F kept)) ≡ is_some_solution (followed vs d g a (map element rest) F out)) →
        (list_all (is_wide vs) out ≡ true → list_all (is_wide vs) kept ≡ true) → answer ≡ false → Asks vs d g a F ms (drop (i + 1) ms) start kept
    asks_rest out kept answer r k w t = record {
      wide = w (after_all out r);
      same =
          ap (λ (ys : List Member). is_some_solution (followed vs d g a (map element ys) F kept)) (sym er)
          ∙ ap (λ b. b || is_some_solution (followed vs d g a (map element rest) F kept)) (sym t) ∙ k (after_all out r)
          ∙ after_some vs s g a d l ea (element x) (map element rest) F rows out h.wide r ∙ left;
    }

    made_as : (k : Element) (u : LookUp) (own : GraphName) → u.graphs ≡ One own → is_joined k ≡ true → IsLookUpOf vs s u (λ e. element_solutions vs e g k) →
        SameBag (flat_map (looked_up_under d u own a) rows) (flat_map (made vs d g a k) rows)
    made_as (optional E A) u own eg j r = cc
    made_as (removed A) u own eg j r = cc
    made_as (joined A) u own eg j r =
        all_give (is_wide vs) (looked_up_under d u own a) (made vs d g a (joined A)) rows h.wide
        (λ y w. SameBag-filter (compatible a) (found_in d u own y) (merges (solutions vs d g A) y)
        (subst (λ (gs : Graphs). SameBag (found_among vs d u gs y) (merges (solutions vs d g A) y)) eg (r d l y (wide_from vs y w))))

    pub looked_up_after : (o : Option LookUp) (u : LookUp) (own : GraphName) (given : List Mapping) (answer : Bool) → o ≡ Some u → u.graphs ≡ One own →
        is_joined (element x) ≡ true → IfSome o (λ t. IsLookUpOf vs s t (λ e. element_solutions vs e g (element x))) → given ≡ rows →
        (list_all (is_wide vs) given ≡ true → answer ≡ is_some_solution (followed vs d g a (map element rest) F (flat_map (looked_up_under d u own a) given))) →
        answer ≡ is_some_solution (followed vs d g a (map element ms) F start)
    looked_up_after o u own given answer eo eg j r0 ev k =
        let r : IsLookUpOf vs s u (λ e. element_solutions vs e g (element x)) =
        subst (λ (t : Option LookUp). IfSome t (λ w. IsLookUpOf vs s w (λ e. element_solutions vs e g (element x)))) eo r0 in
        k (ap (list_all (is_wide vs)) ev ∙ h.wide)
        ∙ ap (λ (xs : List Mapping). is_some_solution (followed vs d g a (map element rest) F (flat_map (looked_up_under d u own a) xs))) ev
        ∙ followed_same vs d g a (map element rest) F (flat_map (looked_up_under d u own a) rows) (flat_map (made vs d g a (element x)) rows) (made_as (element x) u own eg j r)
        ∙ left

  pub none_after : (d : Listing) (ms : List Member) (i : ℕ) (start rows given : List Mapping) (answer : Bool) → length ms ≤ i → Asks vs d g a F ms (drop i ms) start rows →
      given ≡ rows → answer ≡ is_some_solution (filter (satisfies vs F) given) → answer ≡ is_some_solution (followed vs d g a (map element ms) F start)
  none_after d ms i start rows given answer le h eg e =
      e ∙ ap (λ (xs : List Mapping). is_some_solution (filter (satisfies vs F) xs)) eg
      ∙ ap (λ (ys : List Member). is_some_solution (followed vs d g a (map element ys) F rows)) (sym (drop_all i ms le)) ∙ h.same

-- ---- triple patterns, one after another

module _ (vs : Variables) where
  columns_as : (m k : Mapping) → has_columns vs m ≡ true → length k ≡ length m → has_columns vs k ≡ true
  columns_as m k h e =
      let le : length vs ≤ length m = leb-true (length vs) (length m) h in
      le-leb (length vs) (length k) (omega (arith, le, e))

  pub matches_columns : (quads : List QuadParts) (p : Places) (m : Mapping) → has_columns vs m ≡ true → list_all (has_columns vs) (matches_of quads p m) ≡ true
  matches_columns [] p m h = refl
  matches_columns (q ∷ quads) p m h = by_case (matched p m q) (matched_keeps p m q) (matches_columns quads p m h)
    where
      by_case : (o : Option Mapping) → IfSome o (λ k. length k ≡ length m) → list_all (has_columns vs) (matches_of quads p m) ≡ true →
          list_all (has_columns vs) (cons_option o (matches_of quads p m)) ≡ true
      by_case None e r = r
      by_case (Some k) e r = ap (λ b. b && list_all (has_columns vs) (matches_of quads p m)) (columns_as m k h e) ∙ r

  stepped_columns : (quads : List QuadParts) (rows : List Mapping) (p : Places) → list_all (has_columns vs) rows ≡ true →
      list_all (has_columns vs) (stepped quads rows p) ≡ true
  stepped_columns quads rows p w = all_in (has_columns vs) (has_columns vs) (matches_of quads p) (λ m h. matches_columns quads p m h) rows w

  cut_wide : (rows : List Mapping) → list_all (has_columns vs) rows ≡ true → list_all (is_wide vs) (map (take (length vs)) rows) ≡ true
  cut_wide [] w = refl
  cut_wide (x ∷ rows) w =
      ap (λ b. b && list_all (is_wide vs) (map (take (length vs)) rows))
      (wide_to vs (take (length vs) x) (length-take-le (length vs) x (leb-true (length vs) (length x) (and_left (has_columns vs x) _ w))))
      ∙ cut_wide rows (and_right (has_columns vs x) _ w)

matching_parts : (quads : List QuadParts) (ps : List Places) → InParts (matching quads ps)
matching_parts quads [] xs ys = refl
matching_parts quads (p ∷ ps) xs ys =
    ap (matching quads ps) (flat_map-append (matches_of quads p) xs ys) ∙ matching_parts quads ps (stepped quads xs p) (stepped quads ys p)

cut_parts : (vs : Variables) (a : Mapping) → InParts (cut_under vs a)
cut_parts vs a xs ys =
    ap (filter (compatible a)) (map-append (take (length vs)) xs ys) ∙ filter-append (compatible a) (map (take (length vs)) xs) (map (take (length vs)) ys)

-- ---- the loop over triple patterns

-- what the members make of what grows from rows by triple patterns
abbrev pub grows_to : Variables → Listing → GraphName → Mapping → GraphName → List Member → List Expression → List Places → List Mapping → List Mapping
grows_to vs d g a own ms F ps rows = followed vs d g a (map element ms) F (cut_under vs a (matching (d.quads own) ps rows))

pub grown_parts : (vs : Variables) (d : Listing) (g : GraphName) (a : Mapping) (own : GraphName) (ms : List Member) (F : List Expression) (ps : List Places) →
    InParts (grows_to vs d g a own ms F ps)
grown_parts vs d g a own ms F ps xs ys =
    let quads : List QuadParts = d.quads own in
    ap (λ (zs : List Mapping). followed vs d g a (map element ms) F (cut_under vs a zs)) (matching_parts quads ps xs ys)
    ∙ ap (followed vs d g a (map element ms) F) (cut_parts vs a (matching quads ps xs) (matching quads ps ys))
    ∙ followed_parts vs d g a (map element ms) F (cut_under vs a (matching quads ps xs)) (cut_under vs a (matching quads ps ys))

pub same_patterns : (copied patterns : List (Bor Places)) (answer : Bool) (some : List Places → Bool) → copied ≡ patterns → answer ≡ some (asked copied) →
    answer ≡ some (asked patterns)
same_patterns copied patterns answer some e h = h ∙ ap (λ (ps : List (Bor Places)). some (asked ps)) e

-- What the loop knows of the triple patterns and rows that are left.
pub record Grows (vs : Variables) (d : Listing) (g : GraphName) (a : Mapping) (own : GraphName) (ms : List Member) (F : List Expression) (all ps : List Places)
    (start rows : List Mapping) : Type 0 where
  pub wide : list_all (has_columns vs) rows ≡ true
  pub same : is_some_solution (grows_to vs d g a own ms F ps rows) ≡ is_some_solution (grows_to vs d g a own ms F all start)

module _ (vs : Variables) (s : State) (g : GraphName) (a : Mapping) (own : GraphName) (ms : List Member) (F : List Expression) where
  pub grows_all : (d : Listing) (ps : List Places) (rows : List Mapping) → list_all (has_columns vs) rows ≡ true → Grows vs d g a own ms F ps ps rows rows
  grows_all d ps rows w = record { wide = w; same = refl }

  pub grown_same : (d : Listing) (ps qs : List Places) (xs ys : List Mapping) → SameBag (matching (d.quads own) ps xs) (matching (d.quads own) qs ys) →
      is_some_solution (grows_to vs d g a own ms F ps xs) ≡ is_some_solution (grows_to vs d g a own ms F qs ys)
  grown_same d ps qs xs ys h =
      followed_same vs d g a (map element ms) F (cut_under vs a (matching (d.quads own) ps xs)) (cut_under vs a (matching (d.quads own) qs ys))
      (SameBag-filter (compatible a) (map (take (length vs)) (matching (d.quads own) ps xs)) (map (take (length vs)) (matching (d.quads own) qs ys))
      (SameBag-map (take (length vs)) (matching (d.quads own) ps xs) (matching (d.quads own) qs ys) h))

  module _ (all : List Places) (rest after : List (Bor Places)) (i : ℕ) (x : Bor Places) (lt : i < length rest) (here : x ≡ get_or rest i x) (er : after ≡ remove rest i)
      (start rows out : List Mapping) (r : AreSolutions s out (λ d. stepped (d.quads own) rows x.now)) (d : Listing) (l : Lists s d)
      (h : Grows vs d g a own ms F all (asked rest) start rows) where
    grown_columns : list_all (has_columns vs) out ≡ true
    grown_columns = same_all (has_columns vs) out (stepped (d.quads own) rows x.now) (r d l) (stepped_columns vs (d.quads own) rows x.now h.wide)

    grown_some : is_some_solution (grows_to vs d g a own ms F (asked after) out) ≡ is_some_solution (grows_to vs d g a own ms F all start)
    grown_some =
        grown_same d (asked after) (asked rest) out rows
        (one_looked_up s own (asked rest) rest after i x rows out rows lt here er (λ d2 l2 f. refl) r d l) ∙ h.same

    pub some_grown : (kept : List Mapping) (answer : Bool) →
        (list_all (has_columns vs) out ≡ true → (answer || is_some_solution (grows_to vs d g a own ms F (asked after) kept)) ≡ is_some_solution (grows_to vs d g a own ms F (asked after) out)) →
        answer ≡ true → true ≡ is_some_solution (grows_to vs d g a own ms F all start)
    some_grown kept answer k t =
        ap (λ b. b || is_some_solution (grows_to vs d g a own ms F (asked after) kept)) (sym t) ∙ k grown_columns ∙ grown_some

    pub grows_rest : (kept : List Mapping) (answer : Bool) →
        (list_all (has_columns vs) out ≡ true → (answer || is_some_solution (grows_to vs d g a own ms F (asked after) kept)) ≡ is_some_solution (grows_to vs d g a own ms F (asked after) out)) →
        (list_all (has_columns vs) out ≡ true → list_all (has_columns vs) kept ≡ true) → answer ≡ false → Grows vs d g a own ms F all (asked after) start kept
    grows_rest kept answer k w t = record {
      wide = w grown_columns;
      same = ap (λ b. b || is_some_solution (grows_to vs d g a own ms F (asked after) kept)) (sym t) ∙ k grown_columns ∙ grown_some;
    }

  none_left : (rest : List (Bor Places)) → length rest ≡ 0 → [] ≡ asked rest
  none_left [] e = refl
  none_left (x ∷ rest) e = absurd (omega (arith, e))

  pub grown_all : (all : List Places) (rest : List (Bor Places)) (start rows cut out : List Mapping) (n : ℕ) (answer : Bool) (d : Listing) → length rest ≡ 0 →
      Grows vs d g a own ms F all (asked rest) start rows → cut ≡ map (take n) rows → n ≡ length vs → out ≡ agreeing cut a →
      (list_all (is_wide vs) out ≡ true → answer ≡ is_some_solution (followed vs d g a (map element ms) F out)) →
      answer ≡ is_some_solution (grows_to vs d g a own ms F all start)
  grown_all all rest start rows cut out n answer d e h ec en eo k =
      let is : out ≡ cut_under vs a rows = eo ∙ ap (λ (xs : List Mapping). agreeing xs a) (ec ∙ ap (λ (i : ℕ). map (take i) rows) en) in
      k (ap (list_all (is_wide vs)) is ∙ all_filter (is_wide vs) (compatible a) (map (take (length vs)) rows) (cut_wide vs rows h.wide))
      ∙ ap (λ (xs : List Mapping). is_some_solution (followed vs d g a (map element ms) F xs)) is
      ∙ ap (λ (ps : List Places). is_some_solution (grows_to vs d g a own ms F ps rows)) (none_left rest e)
      ∙ h.same

  -- ---- from the rows of the group

  widened_columns : (hidden : ℕ) (rows : List Mapping) → list_all (is_wide vs) rows ≡ true → list_all (has_columns vs) (map (widened hidden) rows) ≡ true
  widened_columns hidden [] w = refl
  widened_columns hidden (x ∷ rows) w =
      let e : length x ≡ length vs = wide_from vs x (and_left (is_wide vs x) _ w) in
      let more : length (widened hidden x) ≡ length x + length (replicate hidden None) = length-append x (replicate hidden None) in
      ap (λ b. b && list_all (has_columns vs) (map (widened hidden) rows)) (le-leb (length vs) (length (widened hidden x)) (omega (arith, e, more)))
      ∙ widened_columns hidden rows (and_right (is_wide vs x) _ w)

  looked_up_is : (d : Listing) (u : LookUp) (rows : List Mapping) → list_all (is_wide vs) rows ≡ true →
      cut_under vs a (matching (d.quads own) u.places (map (widened u.hidden) rows)) ≡ flat_map (looked_up_under d u own a) rows
  looked_up_is d u [] w = ap (cut_under vs a) (matching_none (d.quads own) u.places)
    where
      matching_none : (quads : List QuadParts) (ps : List Places) → matching quads ps [] ≡ []
      matching_none quads [] = refl
      matching_none quads (p ∷ ps) = matching_none quads ps
  looked_up_is d u (x ∷ rows) w =
      let one : List Mapping = matching (d.quads own) u.places (widened u.hidden x ∷ []) in
      let more : List Mapping = matching (d.quads own) u.places (map (widened u.hidden) rows) in
      ap (cut_under vs a) (matching_parts (d.quads own) u.places (widened u.hidden x ∷ []) (map (widened u.hidden) rows))
      ∙ cut_parts vs a one more
      ∙ ap (λ (n : ℕ). agreeing (map (take n) one) a ++ cut_under vs a more) (sym (wide_from vs x (and_left (is_wide vs x) _ w)))
      ∙ ap (λ (xs : List Mapping). looked_up_under d u own a x ++ xs) (looked_up_is d u rows (and_right (is_wide vs x) _ w))

  pub looked_up_some : (u : LookUp) (rows start : List Mapping) (given : List Places) (patterns : List (Bor Places)) (answer : Bool) (d : Listing) → start ≡ map (widened u.hidden) rows →
      given ≡ u.places → map (λ r. r.now) patterns ≡ given → list_all (is_wide vs) rows ≡ true →
      (list_all (has_columns vs) start ≡ true → answer ≡ is_some_solution (grows_to vs d g a own ms F (asked patterns) start)) →
      answer ≡ is_some_solution (followed vs d g a (map element ms) F (flat_map (looked_up_under d u own a) rows))
  looked_up_some u rows start given patterns answer d es eg ep w k =
      k (ap (list_all (has_columns vs)) es ∙ widened_columns u.hidden rows w)
      ∙ ap (λ (xs : List Mapping). is_some_solution (grows_to vs d g a own ms F (asked patterns) xs)) es
      ∙ ap (λ (ps : List Places). is_some_solution (grows_to vs d g a own ms F ps (map (widened u.hidden) rows))) (ep ∙ eg)
      ∙ ap (λ (xs : List Mapping). is_some_solution (followed vs d g a (map element ms) F xs)) (looked_up_is d u rows w)
