-- The quads of a triple pattern that were found once, and what rows make of them.
use Rattle.std.proofs.Common.{◌≡◌, ℕ, zero, suc, ◌+◌, ◌<◌, Bool, true, false, cond, not, ◌&&◌, List, [], ◌∷◌, ◌++◌, map, filter, Option, Some, None, refl, sym, ap, ◌∙◌, subst, length, take, get_or, is_some, replicate, arith, append-nil, Bor}
use Rattle.std.specs.List.{cons_option, flat_map, list_all, sum_by, IsLastAndRest}
use Rattle.std.proofs.lemmas.List.{length-map, map-append}
use Rattle.std.proofs.lemmas.List.Elements.{filter-append}
use Rattle.rdf_terms.specs.declared.term.Term.{Term}
use Rattle.rdf_terms.specs.declared.quad.GraphName.{GraphName}
use Rattle.rdf_terms.specs.Quad.{QuadParts}
use Rattle.rdf_dataset.specs.State.{State, fits_place}
use Rattle.rdf_dataset.specs.Sorted.{ListsOnce}
use Rattle.sparql_values.specs.Mapping.{Variables, Mapping, empty_mapping, same_term, value_at}
use Rattle.sparql_algebra.specs.Algebra.{Element, joined, optional, removed}
use Rattle.sparql_algebra.specs.Results.{is_some_solution}
use Rattle.sparql_algebra.specs.Solutions.{or_alone}
use Rattle.sparql_algebra.proofs.CallerLemmas.{and_false, and_left, and_right, filter_always, found_quads, sum_by-cong, sum_by-filter}
use Rattle.sparql_solve.specs.declared.grown.Spot.{Spot}
use Rattle.sparql_solve.specs.declared.grown.Spot.TheVariants.{Known, Free, Asked}
use Rattle.sparql_solve.specs.declared.look_ups.Graphs.{Graphs}
use Rattle.sparql_solve.specs.declared.look_ups.LookUp.{LookUp}
use Rattle.sparql_solve.specs.declared.place.Place.{Place}
use Rattle.sparql_solve.specs.declared.place.Place.TheVariants.{Fixed, Column, Nowhere}
use Rattle.sparql_solve.specs.declared.place.Places.{Places}
use Rattle.sparql_solve.specs.Grown.{AreTold, IsPut, is_told, spots_in}
use Rattle.sparql_solve.specs.LookUps.{widened}
use Rattle.sparql_solve.specs.Matching.{assigned, has_held, held, matched, matches_of, quads_under}
use Rattle.sparql_solve.specs.Members.{AreSolutions, element_solutions}
use Rattle.sparql_solve.specs.Partners.{AreFound, asks_end, beside, end_of, end_term, free_at, has_no_condition}
use Rattle.sparql_solve.specs.Sides.{found, found_among}
use Rattle.sparql_solve.specs.Under.{AreMade, IsLookUpFor, binds_none, counting, is_joined, is_removed, kept, masked, own_columns, where_none}
use Rattle.sparql_solve.proofs.FitLemmas.{listed_held, no_terms, terms_under}
use Rattle.sparql_solve.proofs.FollowLemmas.{bound_counts, made_append, made_nothing, none_counts}
use Rattle.sparql_solve.proofs.LengthLemmas.{lone_gives}
use Rattle.sparql_solve.proofs.MatchingLemmas.{num, sum_by-filter_map}
use Rattle.sparql_solve.proofs.OnceLemmas.{split_off}
use Rattle.sparql_solve.proofs.SharedLemmas.{SameBag-kept, agreeing_none}
use Rattle.sparql_solve.proofs.SpotLemmas.{all_put, put_object, put_predicate, put_subject, vacant_put}
use Rattle.sparql_solve.proofs.StepLemmas.{alone_made}

-- the quads of these references
abbrev pub quads_of : List (Bor QuadParts) → List QuadParts
quads_of qs = map (λ (q : Bor QuadParts). q.now) qs

-- ---- places that have nothing

none_at : (n c : ℕ) → value_at (replicate n None) c ≡ None
none_at zero c = refl
none_at (suc n) zero = refl
none_at (suc n) (suc c) = none_at n c

free_held : (x : Place) (m : Mapping) → free_at x m ≡ true → held m x ≡ held [] x
free_held (Fixed t) m h = refl
free_held (Column c) m h = at (value_at m c) refl h
  where
    at : (o : Option Term) → value_at m c ≡ o → not (is_some o) ≡ true → value_at m c ≡ None
    at None e k = e
    at (Some t) e k = cc
free_held Nowhere m h = refl

nothing_held : (n : ℕ) (x : Place) → held (replicate n None) x ≡ held [] x
nothing_held n (Fixed t) = refl
nothing_held n (Column c) = none_at n c
nothing_held n Nowhere = refl

-- a term that the mapping which binds nothing refuses, each one refuses
refused : (m : Mapping) (x : Place) (u : Term) → fits_place (held [] x) u ≡ false → fits_place (held m x) u ≡ false
refused m (Fixed t) u h = h
refused m (Column c) u h = cc
refused m Nowhere u h = cc

fits_all : (a b c : Bool) → a ≡ true → b ≡ true → c ≡ true → (a && (b && c)) ≡ true
fits_all a b c e f g = λ i. e i && (f i && g i)

-- ---- the quads that a mapping asks for by one end

module _ (p : Places) (m : Mapping) where
  abbrev fits_end : Bool → QuadParts → Bool
  fits_end b q = fits_place (held m (end_of b p)) (end_term b q)

  end_held : (b : Bool) (q : QuadParts) → asks_end b p m ≡ true → has_held p [] q ≡ true → fits_end b q ≡ true → has_held p m q ≡ true
  end_held true q a h f =
      let rest : (fits_place (held [] p.predicate) q.predicate && fits_place (held [] p.object) q.object) ≡ true = and_right (fits_place (held [] p.subject) q.subject) _ h in
      fits_all _ _ _ f
      (ap (λ (o : Option Term). fits_place o q.predicate) (free_held p.predicate m (and_left (free_at p.predicate m) _ a)) ∙ and_left (fits_place (held [] p.predicate) q.predicate) _ rest)
      (ap (λ (o : Option Term). fits_place o q.object) (free_held p.object m (and_right (free_at p.predicate m) _ a)) ∙ and_right (fits_place (held [] p.predicate) q.predicate) _ rest)
  end_held false q a h f =
      let rest : (fits_place (held [] p.predicate) q.predicate && fits_place (held [] p.object) q.object) ≡ true = and_right (fits_place (held [] p.subject) q.subject) _ h in
      fits_all _ _ _
      (ap (λ (o : Option Term). fits_place o q.subject) (free_held p.subject m (and_right (free_at p.predicate m) _ a)) ∙ and_left (fits_place (held [] p.subject) q.subject) _ h)
      (ap (λ (o : Option Term). fits_place o q.predicate) (free_held p.predicate m (and_left (free_at p.predicate m) _ a)) ∙ and_left (fits_place (held [] p.predicate) q.predicate) _ rest)
      f

  end_refused : (b : Bool) (q : QuadParts) → fits_end b q ≡ false → matched p m q ≡ None
  end_refused true q f = no_terms p m q (ap (λ c. c && (fits_place (held m p.predicate) q.predicate && fits_place (held m p.object) q.object)) f)
  end_refused false q f =
      no_terms p m q
      (ap (λ c. fits_place (held m p.subject) q.subject && (fits_place (held m p.predicate) q.predicate && c)) f
      ∙ ap (λ c. fits_place (held m p.subject) q.subject && c) (and_false (fits_place (held m p.predicate) q.predicate)) ∙ and_false (fits_place (held m p.subject) q.subject))

  module _ (b : Bool) (a : asks_end b p m ≡ true) where
    pub all_held : held m (end_of b p) ≡ None → (qs : List QuadParts) → list_all (has_held p []) qs ≡ true → list_all (has_held p m) qs ≡ true
    all_held e [] h = refl
    all_held e (q ∷ qs) h =
        λ i. end_held b q a (and_left (has_held p [] q) _ h) (ap (λ (o : Option Term). fits_place o (end_term b q)) e) i
        && all_held e qs (and_right (has_held p [] q) _ h) i

    module _ (t : Term) (e : held m (end_of b p) ≡ Some t) where
      abbrev in_bin : QuadParts → Bool
      in_bin q = same_term t (end_term b q)

      fits_is : (q : QuadParts) → fits_end b q ≡ in_bin q
      fits_is q = ap (λ (o : Option Term). fits_place o (end_term b q)) e

      pub bin_held : (qs : List QuadParts) → list_all (has_held p []) qs ≡ true → list_all (has_held p m) (filter in_bin qs) ≡ true
      bin_held [] h = refl
      bin_held (q ∷ qs) h = by_test (bin_held qs (and_right (has_held p [] q) _ h)) (in_bin q) refl
        where
          by_test : list_all (has_held p m) (filter in_bin qs) ≡ true → (c : Bool) → in_bin q ≡ c → list_all (has_held p m) (cond c (q ∷ filter in_bin qs) (filter in_bin qs)) ≡ true
          by_test r true k = λ i. end_held b q a (and_left (has_held p [] q) _ h) (fits_is q ∙ k) i && r i
          by_test r false k = r

      pub bin_matches : (qs : List QuadParts) → matches_of (filter in_bin qs) p m ≡ matches_of qs p m
      bin_matches [] = refl
      bin_matches (q ∷ qs) = by_test (bin_matches qs) (in_bin q) refl
        where
          by_test : matches_of (filter in_bin qs) p m ≡ matches_of qs p m → (c : Bool) → in_bin q ≡ c →
              matches_of (cond c (q ∷ filter in_bin qs) (filter in_bin qs)) p m ≡ cons_option (matched p m q) (matches_of qs p m)
          by_test r true k = ap (cons_option (matched p m q)) r
          by_test r false k = r ∙ ap (λ (o : Option Mapping). cons_option o (matches_of qs p m)) (sym (end_refused b q (fits_is q ∙ k)))

-- ---- references

pub last_of : (qs others : List (Bor QuadParts)) (last : Bor QuadParts) → IsLastAndRest qs last others → IsLastAndRest (quads_of qs) last.now (quads_of others)
last_of qs others last h =
    split_off (quads_of qs) (quads_of others) last.now (ap quads_of h.0 ∙ map-append (λ (q : Bor QuadParts). q.now) others (last ∷ []))

pub ref_held : (p : Places) (m : Mapping) (qs : List (Bor QuadParts)) (i : ℕ) (q : Bor QuadParts) → i < length qs → q ≡ get_or qs i q →
    list_all (has_held p m) (quads_of qs) ≡ true → has_held p m q.now ≡ true
ref_held p m [] i q lt e h = absurd (omega arith)
ref_held p m (x ∷ qs) zero q lt e h = ap (λ (r : Bor QuadParts). has_held p m r.now) e ∙ and_left (has_held p m x.now) _ h
ref_held p m (x ∷ qs) (suc i) q lt e h = ref_held p m qs i q (omega arith) e (and_right (has_held p m x.now) _ h)

-- ---- the bins

module _ (b : Bool) (quads : List QuadParts) (i : ℕ) (x : QuadParts) where
  pub quad_put : (before after : Term → List QuadParts) (u : Term) → take (i + 1) quads ≡ take i quads ++ x ∷ [] → u ≡ end_term b x →
      ((t : Term) → before t ≡ filter (λ (q : QuadParts). same_term t (end_term b q)) (take i quads)) →
      ((t : Term) → after t ≡ before t ++ cond (same_term t u) (x ∷ []) []) →
      (t : Term) → after t ≡ filter (λ (q : QuadParts). same_term t (end_term b q)) (take (i + 1) quads)
  quad_put before after u more e h p t =
      let test : QuadParts → Bool = λ (q : QuadParts). same_term t (end_term b q) in
      p t ∙ ap (λ (l : List QuadParts). l ++ cond (same_term t u) (x ∷ []) []) (h t)
      ∙ ap (λ (v : Term). filter test (take i quads) ++ cond (same_term t v) (x ∷ []) []) e
      ∙ sym (filter-append test (take i quads) (x ∷ [])) ∙ ap (filter test) (sym more)

-- ---- a quad that fits, where no place has to be asked

told_put : (s : Spot) (m : Mapping) (x : Place) (u : Term) → is_told s ≡ true → IsPut s m x u → is_some (assigned m x u) ≡ true
told_put Known m x u h p = ap is_some p
told_put (Free c) m x u h p = ap is_some (vacant_put m x c u p)
told_put Asked m x u h p = cc

module _ (p : Places) (m : Mapping) (told : AreTold (spots_in p m)) where
  pub told_matches : (q : QuadParts) → has_held p m q ≡ true → is_some (matched p m q) ≡ true
  told_matches q h = first (assigned m p.predicate q.predicate) refl (told_put _ m p.predicate q.predicate told.predicate (put_predicate m p (spots_in p m) refl q.predicate fits_predicate))
    where
      rest : (fits_place (held m p.predicate) q.predicate && fits_place (held m p.object) q.object) ≡ true
      rest = and_right (fits_place (held m p.subject) q.subject) _ h

      fits_predicate : fits_place (held m p.predicate) q.predicate ≡ true
      fits_predicate = and_left (fits_place (held m p.predicate) q.predicate) _ rest

      fits_subject : fits_place (held m p.subject) q.subject ≡ true
      fits_subject = and_left (fits_place (held m p.subject) q.subject) _ h

      fits_object : fits_place (held m p.object) q.object ≡ true
      fits_object = and_right (fits_place (held m p.predicate) q.predicate) _ rest

      third : (k l : Mapping) → assigned m p.predicate q.predicate ≡ Some k → assigned k p.subject q.subject ≡ Some l → (o : Option Mapping) → assigned l p.object q.object ≡ o →
          is_some o ≡ true → is_some (matched p m q) ≡ true
      third k l a e None f g = cc
      third k l a e (Some n) f g = ap is_some (all_put m k l n p q a e f)

      second : (k : Mapping) → assigned m p.predicate q.predicate ≡ Some k → (o : Option Mapping) → assigned k p.subject q.subject ≡ o → is_some o ≡ true → is_some (matched p m q) ≡ true
      second k a None e g = cc
      second k a (Some l) e g =
          third k l a e (assigned l p.object q.object) refl
          (told_put _ l p.object q.object told.object (put_object m p (spots_in p m) refl q.object q.predicate q.subject k l fits_object a e))

      first : (o : Option Mapping) → assigned m p.predicate q.predicate ≡ o → is_some o ≡ true → is_some (matched p m q) ≡ true
      first None a g = cc
      first (Some k) a g =
          second k a (assigned k p.subject q.subject) refl
          (told_put _ k p.subject q.subject told.subject (put_subject m p (spots_in p m) refl q.subject q.predicate k fits_subject a))

  -- one at least makes a mapping
  pub told_some : (qs : List QuadParts) → list_all (has_held p m) qs ≡ true → (length qs ≡ 0 → ⊥) → is_some_solution (matches_of qs p m) ≡ true
  told_some [] h n = absurd (n refl)
  told_some (q ∷ qs) h n = by_match (matched p m q) (told_matches q (and_left (has_held p m q) _ h))
    where
      by_match : (o : Option Mapping) → is_some o ≡ true → is_some_solution (cons_option o (matches_of qs p m)) ≡ true
      by_match None e = cc
      by_match (Some k) e = refl

pub some_alone : (x : Mapping) (ms : List Mapping) → is_some_solution ms ≡ true → ms ≡ or_alone x ms
some_alone x [] h = cc
some_alone x (m ∷ ms) h = refl

-- ---- what an element makes of a mapping

module _ (vs : Variables) (l : LookUp) (p : Places) (quads : List QuadParts) (x : Mapping) where
  abbrev made_beside : Element → List Mapping
  made_beside k = kept vs k x (beside vs l p quads k x)

  pub removed_beside : (k : Element) → is_removed k ≡ true → where_none x (cond (binds_none (masked (own_columns vs l) x)) [] (matches_of quads p x)) ≡ made_beside k
  removed_beside (joined A) h = cc
  removed_beside (optional F A) h = cc
  removed_beside (removed A) h = refl

  pub joined_beside : (k : Element) → is_joined k ≡ true → matches_of quads p x ≡ made_beside k
  joined_beside (joined A) h = refl
  joined_beside (optional F A) h = cc
  joined_beside (removed A) h = cc

  -- without a condition all merges are kept
  pub optional_beside : (k : Element) → is_removed k ≡ false → is_joined k ≡ false → has_no_condition k ≡ true → or_alone x (matches_of quads p x) ≡ made_beside k
  optional_beside (joined A) r j h = cc
  optional_beside (optional [] A) r j h = ap (or_alone x) (sym (filter_always (matches_of quads p x)))
  optional_beside (optional (y ∷ F) A) r j h = cc
  optional_beside (removed A) r j h = cc

-- one at least of these references makes a mapping
module _ (p : Places) (m : Mapping) where
  pub told_one : AreTold (spots_in p m) → (qs : List (Bor QuadParts)) → list_all (has_held p m) (quads_of qs) ≡ true → (length qs ≡ 0 → ⊥) →
      is_some_solution (matches_of (quads_of qs) p m) ≡ true
  told_one told qs h n = told_some p m told (quads_of qs) h (λ e. n (sym (length-map qs (λ (q : Bor QuadParts). q.now)) ∙ e))

-- ---- what the quads of the graph give

module _ (s : State) (g : GraphName) (p : Places) (n : ℕ) where
  abbrev nothing : Mapping
  nothing = replicate n None

  nothing_fits : (x : Place) (u : Term) → fits_place (held nothing x) u ≡ fits_place (held [] x) u
  nothing_fits x u = ap (λ (o : Option Term). fits_place o u) (nothing_held n x)

  pub held_nothing : (q : QuadParts) → has_held p nothing q ≡ has_held p [] q
  held_nothing q = λ i. nothing_fits p.subject q.subject i && (nothing_fits p.predicate q.predicate i && nothing_fits p.object q.object i)

  all_nothing : (qs : List QuadParts) → list_all (has_held p nothing) qs ≡ list_all (has_held p []) qs
  all_nothing [] = refl
  all_nothing (q ∷ qs) = λ i. held_nothing q i && all_nothing qs i

  pub found_held : (qs : List QuadParts) → ListsOnce (quads_under s g p nothing) qs → list_all (has_held p []) qs ≡ true
  found_held qs h = sym (all_nothing qs) ∙ listed_held s g p nothing qs qs h refl

  by_places : (m : Mapping) (q : QuadParts) (a b c : Bool) → fits_place (held [] p.subject) q.subject ≡ a → fits_place (held [] p.predicate) q.predicate ≡ b →
      fits_place (held [] p.object) q.object ≡ c → (a && (b && c)) ≡ false → terms_under p m q ≡ false
  by_places m q false b c ea eb ec h = ap (λ x. x && (fits_place (held m p.predicate) q.predicate && fits_place (held m p.object) q.object)) (refused m p.subject q.subject ea)
  by_places m q true false c ea eb ec h =
      ap (λ x. fits_place (held m p.subject) q.subject && (x && fits_place (held m p.object) q.object)) (refused m p.predicate q.predicate eb) ∙ and_false (fits_place (held m p.subject) q.subject)
  by_places m q true true false ea eb ec h =
      ap (λ x. fits_place (held m p.subject) q.subject && (fits_place (held m p.predicate) q.predicate && x)) (refused m p.object q.object ec)
      ∙ ap (λ x. fits_place (held m p.subject) q.subject && x) (and_false (fits_place (held m p.predicate) q.predicate)) ∙ and_false (fits_place (held m p.subject) q.subject)
  by_places m q true true true ea eb ec h = cc

  -- a quad of the graph that wasn't found is no match
  not_found : (m : Mapping) (q : QuadParts) → terms_under p nothing q ≡ false → matched p m q ≡ None
  not_found m q h = no_terms p m q (by_places m q _ _ _ refl refl refl (sym (held_nothing q) ∙ h))

  others : (m : Mapping) (f : Mapping → ℕ) (q : QuadParts) (b : Bool) → terms_under p nothing q ≡ b → cond b (num (matched p m q) f) 0 ≡ num (matched p m q) f
  others m f q true e = refl
  others m f q false e = sym (ap (λ o. num o f) (not_found m q e))

  pub found_match : (m : Mapping) (qs : List QuadParts) → ListsOnce (quads_under s g p nothing) qs → AreSolutions s (matches_of qs p m) (λ d. matches_of (d.quads g) p m)
  found_match m qs h d l f =
      sum_by-filter_map f (matched p m) qs
      ∙ found_quads s g (held nothing p.subject) (held nothing p.predicate) (held nothing p.object) qs (d.quads g) h (l.quads g) (λ q. num (matched p m q) f)
      ∙ sum_by-filter (λ q. num (matched p m q) f) (terms_under p nothing) (d.quads g)
      ∙ sum_by-cong (λ q. cond (terms_under p nothing q) (num (matched p m q) f) 0) (λ q. num (matched p m q) f) (d.quads g) (λ q. others m f q (terms_under p nothing q) refl)
      ∙ sym (sum_by-filter_map f (matched p m) (d.quads g))

-- ---- what is made of rows

unhidden : (vs : Variables) (n : ℕ) → n ≡ 0 → widened n (empty_mapping vs) ≡ replicate (length vs) None
unhidden vs n e = ap (λ (h : ℕ). widened h (empty_mapping vs)) e ∙ append-nil (empty_mapping vs)

module _ (vs : Variables) (s : State) (l : LookUp) (p : Places) (quads : List QuadParts) (is : AreFound vs s l quads) (lone : l.places ≡ p ∷ []) (shown : l.hidden ≡ 0) where
  first_is : {X : Type 0} (x y : X) → x ∷ [] ≡ y ∷ [] → x ≡ y
  first_is x y e = cc

  listed : ListsOnce (quads_under s is.graph p (replicate (length vs) None)) quads
  listed =
      subst (λ (m : Mapping). ListsOnce (quads_under s is.graph p m) quads) (unhidden vs l.hidden shown)
      (subst (λ (q : Places). ListsOnce (quads_under s is.graph q (widened l.hidden (empty_mapping vs))) quads) (first_is is.places p (sym is.alone ∙ lone)) is.listed)

  pub quads_held : list_all (has_held p []) quads ≡ true
  quads_held = found_held s is.graph p (length vs) quads listed

  gives : (x : Mapping) → AreSolutions s (matches_of quads p x) (λ d. found vs d l x)
  gives x d k f =
      lone_gives s is.graph l x p (matches_of quads p x) lone shown (found_match s is.graph p (length vs) x quads listed) d k f
      ∙ ap (λ (gs : Graphs). sum_by f (found_among vs d l gs x)) (sym is.in_graph)

  counts : (k : Element) (x : Mapping) → AreSolutions s (beside vs l p quads k x) (λ d. counting vs d l k x)
  counts (joined A) x = gives x
  counts (optional F A) x = gives x
  counts (removed A) x = by_test (binds_none (masked (own_columns vs l) x)) refl
    where
      by_test : (b : Bool) → binds_none (masked (own_columns vs l) x) ≡ b → AreSolutions s (cond b [] (matches_of quads p x)) (λ d. counting vs d l (removed A) x)
      by_test true e = none_counts vs s (removed A) l x (own_columns vs l) [] refl refl e refl
      by_test false e = bound_counts vs s (removed A) l x (own_columns vs l) (matches_of quads p x) refl e (gives x)

  module _ (g : GraphName) (a : Mapping) (k : Element) (counted : IsLookUpFor vs s k l (λ d. element_solutions vs d g k)) (none : binds_none a ≡ true) where
    each_made : (x : Mapping) → AreMade vs s g a k (x ∷ []) (kept vs k x (beside vs l p quads k x))
    each_made x =
        alone_made vs s g a k x l counted (beside vs l p quads k x) (kept vs k x (beside vs l p quads k x))
        (λ d h. SameBag-kept vs k x (beside vs l p quads k x) (counting vs d l k x) (counts k x d h))
        (sym (agreeing_none a (kept vs k x (beside vs l p quads k x)) none))

    all_beside : (rows : List Mapping) → AreMade vs s g a k rows (flat_map (λ x. kept vs k x (beside vs l p quads k x)) rows)
    all_beside [] = made_nothing vs s g a k [] refl
    all_beside (x ∷ rows) =
        made_append vs s g a k (x ∷ []) rows (x ∷ rows) (kept vs k x (beside vs l p quads k x)) (flat_map (λ y. kept vs k y (beside vs l p quads k y)) rows)
        (flat_map (λ y. kept vs k y (beside vs l p quads k y)) (x ∷ rows)) refl refl (each_made x) (all_beside rows)

    pub beside_made : (rows out : List Mapping) → out ≡ flat_map (λ x. kept vs k x (beside vs l p quads k x)) rows → AreMade vs s g a k rows out
    beside_made rows out e = subst (λ (ys : List Mapping). AreMade vs s g a k rows ys) (sym e) (all_beside rows)
