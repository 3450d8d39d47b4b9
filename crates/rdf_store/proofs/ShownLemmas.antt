-- Lists of what a store shows, by the numbers that its sets list.
use Rattle.std.proofs.Common.{◌≡◌, ℕ, ◌<◌, zero, suc, Bool, true, List, [], ◌∷◌, ◌++◌, map, length, refl, sym, ap, subst, ◌∙◌, arith, append-nil, get_or}
use Rattle.std.specs.Prelude.{All, IsPermutation, IsSorted, IsTrue}
use Rattle.std.proofs.lemmas.List.{length-map}
use Rattle.std.proofs.lemmas.List.Elements.{All-map}
use Rattle.std.specs.declared.cmp.Ordering.{Ordering}
use Rattle.std.specs.Ordering.{eq_by_cmp}
use Rattle.std.specs.Cmp.{IsTotalOrder, nat_cmp_total}
use Rattle.std.specs.FinSet as set
use Rattle.std.specs.FinSet.{IsAntisymmetric, nat_cmp-IsAntisymmetric, contains-insert, len-empty}
use Rattle.rdf_terms.specs.declared.term.Term.{Term}
use Rattle.rdf_terms.specs.Quad.{QuadParts}
use Rattle.rdf_terms.specs.Order.{quad_cmp}
use Rattle.rdf_terms.specs.Table.{IsIdOf, AreHeldOnce}
use Rattle.rdf_orders.specs.declared.order.Order.TheVariants.{Spo}
use Rattle.rdf_orders.specs.Quads.{IdQuad, id_quad_cmp, is_from, key_in, quad_of}
use Rattle.rdf_orders.specs.Contents.{Contents, ListsKeys, ListsIds}
use Rattle.rdf_orders.specs.Runs.{AppendsKeysOnce, AppendsSomeKeys}
use Rattle.rdf_orders.proofs.CallerLemmas.{id_quad_cmp_total, id_quad_cmp-IsAntisymmetric, contains_kept, first_of_both, either_first, either_second}
use Rattle.rdf_terms.specs.Lists.{AppendsOnce, ListsOnce, ListsSorted}
use Rattle.rdf_terms.specs.OrderLaws.{quad_cmp_total, quad_cmp-IsAntisymmetric}
use Rattle.rdf_store.proofs.OrderLemmas.{listed_in_order}
use Rattle.rdf_store.specs.Stored.{AppendsSome, Stored}
use Rattle.rdf_store.specs.Inside.Numbers.{AreNumbersOf, HasTerms, HaveTerms, image, shown, parts_at, parts_of, term_at}
use Rattle.rdf_store.proofs.ImageLemmas.{eq_of_same}
use Rattle.rdf_store.proofs.StoreLemmas.{quads_listed, names_listed, kept_listed, none_kept, passing, some_listed, some_passing}

-- each item of a list is in its set
item_in : {K : Type 0} {R : K → K → Ordering} → IsTotalOrder R → IsAntisymmetric R → (xs : List K) → All (λ x. set.contains (set.from_list {R = R} xs) x ≡ true) xs
item_in o apart [] k d lt = absurd (omega arith)
item_in o apart (x ∷ xs) zero d lt = contains-insert o (set.from_list xs) x x ∙ either_first _ _ (eq_of_same o apart x x refl)
item_in {R = R} o apart (x ∷ xs) (suc k) d lt =
    let within : k < length xs = omega arith in
    contains-insert o (set.from_list xs) x (get_or xs k d) ∙ either_second (eq_by_cmp R (get_or xs k d) x) _ (item_in o apart xs k d within)

parts_of_keys : (table : List Term) (found : List IdQuad) → map (parts_of table) (map (key_in Spo) found) ≡ map (parts_at table) found
parts_of_keys table [] = refl
parts_of_keys table (q ∷ found) = ap (λ l. parts_at table q ∷ l) (parts_of_keys table found)

module _ (table : List Term) (c : Contents) (s : Stored) (kept : HaveTerms table c) (is : shown table c ≡ s) where
  kept_keys : (members : set.FinSet id_quad_cmp) (found : List IdQuad) → ((k : IdQuad) → set.contains members k ≡ true → set.contains c.quads k ≡ true) → ListsOnce members found
      → All (λ key. HasTerms table (quad_of key)) (map (key_in Spo) found)
  kept_keys members found some l = All-map (λ key. HasTerms table (quad_of key)) (key_in Spo) found
      (λ k d lt. kept.quads (get_or found k d) (some (get_or found k d) (subst (λ z. set.contains z (get_or found k d) ≡ true) l.all (item_in id_quad_cmp_total id_quad_cmp-IsAntisymmetric found k d lt))))

  pub listed_kept : (keys : List (List ℕ)) → ListsKeys c.quads keys → All (λ key. HasTerms table (quad_of key)) keys
  listed_kept keys l = subst (All (λ key. HasTerms table (quad_of key))) (sym l.are_keys) (kept_keys c.quads l.found (λ k h. h) l.sorted.lists)

  pub listed_ids_kept : (numbers : List ℕ) → ListsIds c.names numbers → All (λ id. IsIdOf table id (term_at table id)) numbers
  listed_ids_kept numbers l k d lt = kept.names (get_or numbers k d) (subst (λ z. set.contains z (get_or numbers k d) ≡ true) l.lists.all (item_in nat_cmp_total nat_cmp-IsAntisymmetric numbers k d lt))

  pub found_kept : (test : IdQuad → Bool) (start keys keys' : List (List ℕ)) → start ≡ [] → AppendsKeysOnce (set.retain c.quads test) start keys → keys' ≡ keys → All (λ key. HasTerms table (quad_of key)) keys'
  found_kept test start keys keys' none a e = subst (All (λ key. HasTerms table (quad_of key))) (sym (e ∙ a.appended ∙ ap (λ ks. ks ++ map (key_in Spo) a.found) none))
      (kept_keys (set.retain c.quads test) a.found (λ k h. first_of_both _ _ (sym (contains_kept c.quads test k) ∙ h)) a.each_once)

  module _ (once : AreHeldOnce table) where
    pub counted : (keys : List (List ℕ)) → ListsKeys c.quads keys → length keys ≡ set.len s.quads
    counted keys l =
        ap length l.are_keys ∙ length-map l.found (key_in Spo) ∙ sym (length-map l.found (parts_at table))
        ∙ (quads_listed table c kept once l.found l.sorted.lists).once ∙ ap (λ (v : Stored). set.len v.quads) is

    pub quads_appended : (keys : List (List ℕ)) (old new : List QuadParts) → ListsKeys c.quads keys → new ≡ old ++ map (parts_of table) keys → AppendsOnce s.quads old new
    quads_appended keys old new l e = record {
      found = map (parts_at table) l.found;
      appended = e ∙ ap (λ ks. old ++ ks) (ap (map (parts_of table)) l.are_keys ∙ parts_of_keys table l.found);
      each_once = subst (λ (v : Stored). ListsOnce v.quads (map (parts_at table) l.found)) is (quads_listed table c kept once l.found l.sorted.lists);
    }

    pub quads_in_order : (keys : List (List ℕ)) (quads : List QuadParts) → ListsKeys c.quads keys → IsPermutation (map (parts_of table) keys) quads → IsSorted quad_cmp quads → ListsSorted s.quads quads
    quads_in_order keys quads l moved sorted =
        let a = quads_appended keys [] (map (parts_of table) keys) l refl in
        listed_in_order quad_cmp_total quad_cmp-IsAntisymmetric s.quads (map (parts_of table) keys) quads (subst (ListsOnce s.quads) (sym a.appended) a.each_once) moved sorted

    pub names_appended : (numbers : List ℕ) (old new : List Term) → ListsIds c.names numbers → new ≡ old ++ map (term_at table) numbers → AppendsOnce s.names old new
    names_appended numbers old new l e = record {
      found = map (term_at table) numbers;
      appended = e;
      each_once = subst (λ (v : Stored). ListsOnce v.names (map (term_at table) numbers)) is (names_listed table c kept once numbers l.lists);
    }

    pub matches_appended : (test : IdQuad → Bool) (wanted : QuadParts → Bool) → ((k : IdQuad) (q : QuadParts) → AreNumbersOf table k q → test k ≡ wanted q)
        → (start keys keys' : List (List ℕ)) (old new : List QuadParts) → start ≡ [] → AppendsKeysOnce (set.retain c.quads test) start keys → keys' ≡ keys
        → new ≡ old ++ map (parts_of table) keys' → AppendsOnce (set.retain s.quads wanted) old new
    matches_appended test wanted same start keys keys' old new none a k e = record {
      found = map (parts_at table) a.found;
      appended = e ∙ ap (λ ks. old ++ ks) (ap (map (parts_of table)) (k ∙ a.appended ∙ ap (λ ks. ks ++ map (key_in Spo) a.found) none) ∙ parts_of_keys table a.found);
      each_once = subst (λ (v : Stored). ListsOnce (set.retain v.quads wanted) (map (parts_at table) a.found)) is (kept_listed table c kept once test wanted same a.found a.each_once);
    }

    -- the same of some of them
    pub some_appended : (test : IdQuad → Bool) (wanted : QuadParts → Bool) → ((k : IdQuad) (q : QuadParts) → AreNumbersOf table k q → test k ≡ wanted q)
        → (all : Bool) (start keys keys' : List (List ℕ)) (old new : List QuadParts) → start ≡ [] → AppendsSomeKeys (set.retain c.quads test) all start keys → keys' ≡ keys
        → new ≡ old ++ map (parts_of table) keys' → AppendsSome (set.retain s.quads wanted) all old new
    some_appended test wanted same all start keys keys' old new none a k e = record {
      some = image (parts_at table) a.some;
      within = λ q h. subst (λ (v : Stored). set.contains (set.retain v.quads wanted) q ≡ true) is (some_passing table c kept test wanted same a.some a.within q h);
      appended = record {
        found = map (parts_at table) a.appended.found;
        appended = e ∙ ap (λ ks. old ++ ks) (ap (map (parts_of table)) (k ∙ a.appended.appended ∙ ap (λ ks. ks ++ map (key_in Spo) a.appended.found) none) ∙ parts_of_keys table a.appended.found);
        each_once = some_listed table c kept once test a.some a.within a.appended.found a.appended.each_once;
      };
      whole = λ h. ap (image (parts_at table)) (a.whole h) ∙ passing table c kept test wanted same ∙ ap (λ (v : Stored). set.retain v.quads wanted) is;
    }

    -- the quads of the graphs from a number on
    pub from_appended : (g : ℕ) (wanted : QuadParts → Bool) → ((k : IdQuad) (q : QuadParts) → AreNumbersOf table k q → is_from g k ≡ wanted q)
        → (keys keys' : List (List ℕ)) (old new : List QuadParts) → ListsKeys (set.retain c.quads (is_from g)) keys → keys' ≡ keys
        → new ≡ old ++ map (parts_of table) keys' → AppendsOnce (set.retain s.quads wanted) old new
    from_appended g wanted same keys keys' old new l k e =
        matches_appended (is_from g) wanted same [] keys keys' old new refl (record { found = l.found; appended = l.are_keys; each_once = l.sorted.lists }) k e

  pub some_found_kept : (test : IdQuad → Bool) (all : Bool) (start keys keys' : List (List ℕ)) → start ≡ [] → AppendsSomeKeys (set.retain c.quads test) all start keys → keys' ≡ keys → All (λ key. HasTerms table (quad_of key)) keys'
  some_found_kept test all start keys keys' none a e =
      subst (All (λ key. HasTerms table (quad_of key))) (sym (e ∙ a.appended.appended ∙ ap (λ ks. ks ++ map (key_in Spo) a.appended.found) none))
      (kept_keys a.some a.appended.found (λ k h. first_of_both _ _ (sym (contains_kept c.quads test k) ∙ a.within k h)) a.appended.each_once)

  pub from_kept : (test : IdQuad → Bool) (keys keys' : List (List ℕ)) → ListsKeys (set.retain c.quads test) keys → keys' ≡ keys → All (λ key. HasTerms table (quad_of key)) keys'
  from_kept test keys keys' l e = found_kept test [] keys keys' refl (record { found = l.found; appended = l.are_keys; each_once = l.sorted.lists }) e

  pub none_appended : (wanted : QuadParts → Bool) → ((k : IdQuad) (q : QuadParts) → AreNumbersOf table k q → ¬ IsTrue (wanted q)) → (old : List QuadParts) → AppendsOnce (set.retain s.quads wanted) old old
  none_appended wanted none old =
      let nothing = sym (none_kept table c kept wanted none) ∙ ap (λ (v : Stored). set.retain v.quads wanted) is in
      record { found = []; appended = sym (append-nil old); each_once = record { all = nothing; once = sym (len-empty quad_cmp) ∙ ap set.len nothing } }

  pub none_of_some : (wanted : QuadParts → Bool) → ((k : IdQuad) (q : QuadParts) → AreNumbersOf table k q → ¬ IsTrue (wanted q)) → (old : List QuadParts) → AppendsSome (set.retain s.quads wanted) true old old
  none_of_some wanted none old = record { some = set.retain s.quads wanted; within = λ q h. h; appended = none_appended wanted none old; whole = λ _. refl }
