-- What operations on numbers make of the quads and names that they stand for.
use Rattle.std.proofs.Common.{◌≡◌, ℕ, Bool, true, false, ◌&&◌, not, List, [], ◌∷◌, ◌++◌, map, refl, sym, ap, subst, ◌∙◌, inl, inr}
use mathlib.Core.Bool.{true≢false}
use Rattle.std.specs.Prelude.{IsTrue}
use Rattle.std.specs.declared.cmp.Ordering.{Ordering}
use Rattle.std.specs.Ordering.{eq_by_cmp, nat_cmp}
use Rattle.std.specs.Cmp.{IsTotalOrder, nat_cmp_total}
use Rattle.std.specs.FinSet as set
use Rattle.std.specs.FinSet.{IsAntisymmetric, nat_cmp-IsAntisymmetric, contains-insert, contains-remove, contains-union, contains-empty, contains-retain, same_set}
use Rattle.rdf_terms.specs.declared.term.Term.{Term}
use Rattle.rdf_terms.specs.Quad.{QuadParts}
use Rattle.rdf_terms.specs.Order.{term_cmp, quad_cmp}
use Rattle.rdf_terms.specs.OrderLaws.{term_cmp_total, term_cmp-IsAntisymmetric, quad_cmp_total, quad_cmp-IsAntisymmetric}
use Rattle.rdf_terms.specs.Table.{IsIdOf, AreHeldOnce}
use Rattle.rdf_orders.specs.Quads.{IdQuad, id_quad_cmp, quad_of, quads_of}
use Rattle.rdf_orders.specs.Contents as contents
use Rattle.rdf_orders.specs.Contents.{Contents, Ids, ids_of, IsDisjoint, empty_contents}
use Rattle.rdf_terms.specs.Lists.{ListsOnce}
use Rattle.rdf_orders.proofs.CallerLemmas.{id_quad_cmp_total, id_quad_cmp-IsAntisymmetric, contains_kept, is_either, first_of_both, second_of_both, difference_none, difference_push}
use Rattle.rdf_store.specs.Stored.{Stored, empty_stored, with_quad, without_quad, with_name, without_name, with_all, without_all}
use Rattle.rdf_store.specs.Inside.Numbers.{AreNumbersOf, IsGrown, HasTerms, HaveTerms, AreKeys, AreIds, image, shown, parts_at, parts_of, term_at}
use Rattle.rdf_store.proofs.ImageLemmas.{IsAlone, from_image, in_image, same_of_eq, image-empty, image-insert, image-from_list, image-union, image-retain, image-same, image-lacks, image-contains, image-remove, image_listed}
use Rattle.rdf_store.proofs.ListLemmas.{matched_map, matched_members}
use Rattle.rdf_store.proofs.NumberLemmas.{numbered_grown, numbered_is, numbered_kept, numbered_once, term_is, id_kept}

-- ---- nothing, and a table that grows

pub kept_nothing : (table : List Term) → HaveTerms table empty_contents
kept_nothing table = record {
  quads = λ k h. absurd (true≢false (sym h ∙ contains-empty id_quad_cmp k));
  names = λ id h. absurd (true≢false (sym h ∙ contains-empty nat_cmp id));
}

pub shown_nothing : (table : List Term) → shown table empty_contents ≡ empty_stored
shown_nothing table = λ i. record {
  quads = image-empty id_quad_cmp_total id_quad_cmp-IsAntisymmetric quad_cmp_total quad_cmp-IsAntisymmetric (parts_at table) i;
  names = image-empty nat_cmp_total nat_cmp-IsAntisymmetric term_cmp_total term_cmp-IsAntisymmetric (term_at table) i;
}

pub kept_grown : (old new : List Term) (c : Contents) → IsGrown old new → HaveTerms old c → HaveTerms new c
kept_grown old new c grown kept = record {
  quads = λ k h. numbered_kept new k (parts_at old k) (numbered_grown old new grown k (parts_at old k) (kept.quads k h));
  names = λ id h. id_kept new id (term_at old id) (grown.keeps id (term_at old id) (kept.names id h));
}

pub shown_grown : (old new : List Term) (c : Contents) → IsGrown old new → HaveTerms old c → shown new c ≡ shown old c
shown_grown old new c grown kept = λ i. record {
  quads = image-same id_quad_cmp_total id_quad_cmp-IsAntisymmetric quad_cmp_total quad_cmp-IsAntisymmetric (parts_at new) (parts_at old) c.quads
      (λ k h. numbered_is new k (parts_at old k) (numbered_grown old new grown k (parts_at old k) (kept.quads k h))) i;
  names = image-same nat_cmp_total nat_cmp-IsAntisymmetric term_cmp_total term_cmp-IsAntisymmetric (term_at new) (term_at old) c.names
      (λ id h. term_is new id (term_at old id) (grown.keeps id (term_at old id) (kept.names id h))) i;
}

module _ (table : List Term) (c : Contents) (kept : HaveTerms table c) where
  -- ---- one quad, one name

  pub quad_lacks : (q : QuadParts) → ((k : IdQuad) → ¬ AreNumbersOf table k q) → set.contains (shown table c).quads q ≡ false
  quad_lacks q none = image-lacks id_quad_cmp_total id_quad_cmp-IsAntisymmetric quad_cmp_total quad_cmp-IsAntisymmetric (parts_at table) c.quads q
      (λ k h e. none k (subst (AreNumbersOf table k) e (kept.quads k h)))

  pub name_lacks : (t : Term) → ((id : ℕ) → ¬ IsIdOf table id t) → set.contains (shown table c).names t ≡ false
  name_lacks t none = image-lacks nat_cmp_total nat_cmp-IsAntisymmetric term_cmp_total term_cmp-IsAntisymmetric (term_at table) c.names t
      (λ id h e. none id (subst (IsIdOf table id) e (kept.names id h)))

  pub kept_with_quad : (k : IdQuad) (q : QuadParts) → AreNumbersOf table k q → HaveTerms table (contents.with_quad c k)
  kept_with_quad k q n = record {
    quads = λ x h. elim (is_either (eq_by_cmp id_quad_cmp x k) (set.contains c.quads x) (sym (contains-insert id_quad_cmp_total c.quads k x) ∙ h)) [
      | inl same ↦ subst (HasTerms table) (sym (same_of_eq id_quad_cmp_total id_quad_cmp-IsAntisymmetric x k same)) (numbered_kept table k q n)
      | inr more ↦ kept.quads x more
    ];
    names = kept.names;
  }

  pub shown_with_quad : (k : IdQuad) (q : QuadParts) → AreNumbersOf table k q → shown table (contents.with_quad c k) ≡ with_quad (shown table c) q
  shown_with_quad k q n = λ i. record {
    quads = (image-insert id_quad_cmp_total id_quad_cmp-IsAntisymmetric quad_cmp_total quad_cmp-IsAntisymmetric (parts_at table) c.quads k
        ∙ ap (set.insert (shown table c).quads) (numbered_is table k q n)) i;
    names = (shown table c).names;
  }

  pub kept_with_name : (id : ℕ) (t : Term) → IsIdOf table id t → HaveTerms table (contents.with_name c id)
  kept_with_name id t e = record {
    quads = kept.quads;
    names = λ x h. elim (is_either (eq_by_cmp nat_cmp x id) (set.contains c.names x) (sym (contains-insert nat_cmp_total c.names id x) ∙ h)) [
      | inl same ↦ subst (λ n. IsIdOf table n (term_at table n)) (sym (same_of_eq nat_cmp_total nat_cmp-IsAntisymmetric x id same)) (id_kept table id t e)
      | inr more ↦ kept.names x more
    ];
  }

  pub shown_with_name : (id : ℕ) (t : Term) → IsIdOf table id t → shown table (contents.with_name c id) ≡ with_name (shown table c) t
  shown_with_name id t e = λ i. record {
    quads = (shown table c).quads;
    names = (image-insert nat_cmp_total nat_cmp-IsAntisymmetric term_cmp_total term_cmp-IsAntisymmetric (term_at table) c.names id
        ∙ ap (set.insert (shown table c).names) (term_is table id t e)) i;
  }

  pub kept_without_quad : (k : IdQuad) → HaveTerms table (contents.without_quad c k)
  kept_without_quad k = record {
    quads = λ x h. kept.quads x (second_of_both (not (eq_by_cmp id_quad_cmp x k)) _ (sym (contains-remove id_quad_cmp_total c.quads k x) ∙ h));
    names = kept.names;
  }

  pub kept_without_name : (id : ℕ) → HaveTerms table (contents.without_name c id)
  kept_without_name id = record {
    quads = kept.quads;
    names = λ x h. kept.names x (second_of_both (not (eq_by_cmp nat_cmp x id)) _ (sym (contains-remove nat_cmp_total c.names id x) ∙ h));
  }

  -- ---- terms are held once

  module _ (once : AreHeldOnce table) where
    quads_apart : (k : IdQuad) → HasTerms table k → IsAlone id_quad_cmp_total id_quad_cmp-IsAntisymmetric quad_cmp_total quad_cmp-IsAntisymmetric (parts_at table) c.quads k
    quads_apart k n x h e = numbered_once table once x k (parts_at table k) (subst (AreNumbersOf table x) e (kept.quads x h)) n

    names_apart : (id : ℕ) → IsIdOf table id (term_at table id) → IsAlone nat_cmp_total nat_cmp-IsAntisymmetric term_cmp_total term_cmp-IsAntisymmetric (term_at table) c.names id
    names_apart id n x h e = once x id (term_at table id) (subst (IsIdOf table x) e (kept.names x h)) n

    pub contains_shown : (k : IdQuad) (q : QuadParts) → AreNumbersOf table k q → set.contains c.quads k ≡ set.contains (shown table c).quads q
    contains_shown k q n =
        sym (image-contains id_quad_cmp_total id_quad_cmp-IsAntisymmetric quad_cmp_total quad_cmp-IsAntisymmetric (parts_at table) c.quads k (quads_apart k (numbered_kept table k q n)))
        ∙ ap (set.contains (shown table c).quads) (numbered_is table k q n)

    pub has_shown : (id : ℕ) (t : Term) → IsIdOf table id t → set.contains c.names id ≡ set.contains (shown table c).names t
    has_shown id t e =
        sym (image-contains nat_cmp_total nat_cmp-IsAntisymmetric term_cmp_total term_cmp-IsAntisymmetric (term_at table) c.names id (names_apart id (id_kept table id t e)))
        ∙ ap (set.contains (shown table c).names) (term_is table id t e)

    pub shown_without_quad : (k : IdQuad) (q : QuadParts) → AreNumbersOf table k q → shown table (contents.without_quad c k) ≡ without_quad (shown table c) q
    shown_without_quad k q n = λ i. record {
      quads = (image-remove id_quad_cmp_total id_quad_cmp-IsAntisymmetric quad_cmp_total quad_cmp-IsAntisymmetric (parts_at table) c.quads k (quads_apart k (numbered_kept table k q n))
          ∙ ap (set.remove (shown table c).quads) (numbered_is table k q n)) i;
      names = (shown table c).names;
    }

    pub shown_without_name : (id : ℕ) (t : Term) → IsIdOf table id t → shown table (contents.without_name c id) ≡ without_name (shown table c) t
    shown_without_name id t e = λ i. record {
      quads = (shown table c).quads;
      names = (image-remove nat_cmp_total nat_cmp-IsAntisymmetric term_cmp_total term_cmp-IsAntisymmetric (term_at table) c.names id (names_apart id (id_kept table id t e))
          ∙ ap (set.remove (shown table c).names) (term_is table id t e)) i;
    }

    -- ---- lists

    pub quads_listed : (found : List IdQuad) → ListsOnce c.quads found → ListsOnce (shown table c).quads (map (parts_at table) found)
    quads_listed found l = image_listed id_quad_cmp_total id_quad_cmp-IsAntisymmetric quad_cmp_total quad_cmp-IsAntisymmetric (parts_at table) c.quads found (λ k h. quads_apart k (kept.quads k h)) l

    pub names_listed : (found : List ℕ) → ListsOnce c.names found → ListsOnce (shown table c).names (map (term_at table) found)
    names_listed found l = image_listed nat_cmp_total nat_cmp-IsAntisymmetric term_cmp_total term_cmp-IsAntisymmetric (term_at table) c.names found (λ id h. names_apart id (kept.names id h)) l

    -- the quads that pass a test, listed by the numbers that pass one
    pub kept_listed : (test : IdQuad → Bool) (wanted : QuadParts → Bool) → ((k : IdQuad) (q : QuadParts) → AreNumbersOf table k q → test k ≡ wanted q)
        → (found : List IdQuad) → ListsOnce (set.retain c.quads test) found → ListsOnce (set.retain (shown table c).quads wanted) (map (parts_at table) found)
    kept_listed test wanted same found l =
        subst (λ s. ListsOnce s (map (parts_at table) found))
        (image-retain id_quad_cmp_total id_quad_cmp-IsAntisymmetric quad_cmp_total quad_cmp-IsAntisymmetric (parts_at table) c.quads test wanted (λ k h. same k (parts_at table k) (kept.quads k h)))
        (image_listed id_quad_cmp_total id_quad_cmp-IsAntisymmetric quad_cmp_total quad_cmp-IsAntisymmetric (parts_at table) (set.retain c.quads test) found
        (λ k h x g e. quads_apart k (kept.quads k (held k h)) x (held x g) e) l)
      where
        held : (k : IdQuad) → set.contains (set.retain c.quads test) k ≡ true → set.contains c.quads k ≡ true
        held k h = first_of_both _ _ (sym (contains_kept c.quads test k) ∙ h)

    -- quads listed by their numbers
    pub some_listed : (test : IdQuad → Bool) (some : set.FinSet id_quad_cmp) → ((k : IdQuad) → set.contains some k ≡ true → set.contains (set.retain c.quads test) k ≡ true)
        → (found : List IdQuad) → ListsOnce some found → ListsOnce {R = quad_cmp} (image (parts_at table) some) (map (parts_at table) found)
    some_listed test some within found l =
        image_listed id_quad_cmp_total id_quad_cmp-IsAntisymmetric quad_cmp_total quad_cmp-IsAntisymmetric (parts_at table) some found
        (λ k h x g e. quads_apart k (kept.quads k (held k (within k h))) x (held x (within x g)) e) l
      where
        held : (k : IdQuad) → set.contains (set.retain c.quads test) k ≡ true → set.contains c.quads k ≡ true
        held k h = first_of_both _ _ (sym (contains_kept c.quads test k) ∙ h)

  -- those that pass a test are those whose numbers pass one
  pub passing : (test : IdQuad → Bool) (wanted : QuadParts → Bool) → ((k : IdQuad) (q : QuadParts) → AreNumbersOf table k q → test k ≡ wanted q)
      → image (parts_at table) (set.retain c.quads test) ≡ set.retain (shown table c).quads wanted
  passing test wanted same = image-retain id_quad_cmp_total id_quad_cmp-IsAntisymmetric quad_cmp_total quad_cmp-IsAntisymmetric (parts_at table) c.quads test wanted (λ k h. same k (parts_at table k) (kept.quads k h))

  -- what some of them stand for are some of those
  pub some_passing : (test : IdQuad → Bool) (wanted : QuadParts → Bool) → ((k : IdQuad) (q : QuadParts) → AreNumbersOf table k q → test k ≡ wanted q)
      → (some : set.FinSet id_quad_cmp) → ((k : IdQuad) → set.contains some k ≡ true → set.contains (set.retain c.quads test) k ≡ true)
      → (q : QuadParts) → set.contains {R = quad_cmp} (image (parts_at table) some) q ≡ true → set.contains (set.retain (shown table c).quads wanted) q ≡ true
  some_passing test wanted same some within q h =
      let i = from_image id_quad_cmp_total id_quad_cmp-IsAntisymmetric quad_cmp_total quad_cmp-IsAntisymmetric (parts_at table) some q h in
      subst (λ z. set.contains z q ≡ true) (passing test wanted same)
      (subst (λ x. set.contains {R = quad_cmp} (image (parts_at table) (set.retain c.quads test)) x ≡ true) i.is
      (in_image id_quad_cmp_total id_quad_cmp-IsAntisymmetric quad_cmp_total quad_cmp-IsAntisymmetric (parts_at table) (set.retain c.quads test) i.at (within i.at i.in_set)))

  -- nothing matches
  pub none_kept : (wanted : QuadParts → Bool) → ((k : IdQuad) (q : QuadParts) → AreNumbersOf table k q → ¬ IsTrue (wanted q)) → set.retain (shown table c).quads wanted ≡ set.empty
  none_kept wanted none = same_set quad_cmp_total quad_cmp-IsAntisymmetric _ _ (λ q. lacks q ∙ sym (contains-empty quad_cmp q))
    where
      not_true : (b : Bool) → (b ≡ true → ⊥) → b ≡ false
      not_true true h = absurd (h refl)
      not_true false h = refl

      lacks : (q : QuadParts) → set.contains (set.retain (shown table c).quads wanted) q ≡ false
      lacks q =
          contains-retain (shown table c).quads wanted q (λ x e. ap wanted (sym (quad_cmp-IsAntisymmetric q x e)))
          ∙ not_true _ (λ h.
          let i = from_image id_quad_cmp_total id_quad_cmp-IsAntisymmetric quad_cmp_total quad_cmp-IsAntisymmetric (parts_at table) c.quads q (first_of_both _ _ h) in
          none i.at q (subst (AreNumbersOf table i.at) i.is (kept.quads i.at i.in_set)) (second_of_both (set.contains (shown table c).quads q) _ h))

  -- ---- many at once

  module _ (keys : List (List ℕ)) (numbers : List ℕ) (quads : List QuadParts) (names : List Term) (are_keys : AreKeys table keys quads) (are_ids : AreIds table numbers names) where
    keys_shown : image (parts_at table) (quads_of keys) ≡ set.from_list {R = quad_cmp} quads
    keys_shown =
        image-from_list id_quad_cmp_total id_quad_cmp-IsAntisymmetric quad_cmp_total quad_cmp-IsAntisymmetric (parts_at table) (map quad_of keys)
        ∙ ap set.from_list (maps keys ∙ matched_map _ (parts_of table) (λ key q n. numbered_is table (quad_of key) q n) keys quads are_keys)
      where
        maps : (ks : List (List ℕ)) → map (parts_at table) (map quad_of ks) ≡ map (parts_of table) ks
        maps [] = refl
        maps (k ∷ ks) = ap (λ l. parts_of table k ∷ l) (maps ks)

    ids_shown : image (term_at table) (ids_of numbers) ≡ set.from_list {R = term_cmp} names
    ids_shown =
        image-from_list nat_cmp_total nat_cmp-IsAntisymmetric term_cmp_total term_cmp-IsAntisymmetric (term_at table) numbers
        ∙ ap set.from_list (matched_map _ (term_at table) (λ id t e. term_is table id t e) numbers names are_ids)

    key_kept : (k : IdQuad) → set.contains (quads_of keys) k ≡ true → HasTerms table k
    key_kept = matched_members id_quad_cmp_total id_quad_cmp-IsAntisymmetric _ quad_of (HasTerms table) (λ key q n. numbered_kept table (quad_of key) q n) keys quads are_keys

    id_is_kept : (id : ℕ) → set.contains (ids_of numbers) id ≡ true → IsIdOf table id (term_at table id)
    id_is_kept id h = matched_members nat_cmp_total nat_cmp-IsAntisymmetric _ (λ n. n) (λ n. IsIdOf table n (term_at table n)) (λ n t e. id_kept table n t e) numbers names are_ids id
        (subst (λ l. set.contains (set.from_list {R = nat_cmp} l) id ≡ true) (sym (map_same numbers)) h)
      where
        map_same : (xs : List ℕ) → map (λ x. x) xs ≡ xs
        map_same [] = refl
        map_same (x ∷ xs) = ap (λ l. x ∷ l) (map_same xs)

    pub kept_with_all : HaveTerms table (contents.with_all c keys numbers)
    kept_with_all = record {
      quads = λ k h. elim (is_either (set.contains c.quads k) (set.contains (quads_of keys) k) (sym (contains-union id_quad_cmp_total c.quads (quads_of keys) k) ∙ h)) [
        | inl was ↦ kept.quads k was
        | inr came ↦ key_kept k came
      ];
      names = λ id h. elim (is_either (set.contains c.names id) (set.contains (ids_of numbers) id) (sym (contains-union nat_cmp_total c.names (ids_of numbers) id) ∙ h)) [
        | inl was ↦ kept.names id was
        | inr came ↦ id_is_kept id came
      ];
    }

    pub shown_with_all : shown table (contents.with_all c keys numbers) ≡ with_all (shown table c) quads names
    shown_with_all = λ i. record {
      quads = (image-union id_quad_cmp_total id_quad_cmp-IsAntisymmetric quad_cmp_total quad_cmp-IsAntisymmetric (parts_at table) c.quads (quads_of keys) ∙ ap (set.union (shown table c).quads) keys_shown) i;
      names = (image-union nat_cmp_total nat_cmp-IsAntisymmetric term_cmp_total term_cmp-IsAntisymmetric (term_at table) c.names (ids_of numbers) ∙ ap (set.union (shown table c).names) ids_shown) i;
    }

    pub new_keys : IsDisjoint (shown table c).quads (set.from_list quads) → IsDisjoint c.quads (quads_of keys)
    new_keys apart k h g = apart (parts_at table k)
        (in_image id_quad_cmp_total id_quad_cmp-IsAntisymmetric quad_cmp_total quad_cmp-IsAntisymmetric (parts_at table) c.quads k h)
        (subst (λ s. set.contains s (parts_at table k) ≡ true) keys_shown (in_image id_quad_cmp_total id_quad_cmp-IsAntisymmetric quad_cmp_total quad_cmp-IsAntisymmetric (parts_at table) (quads_of keys) k g))

    pub new_ids : IsDisjoint (shown table c).names (set.from_list names) → IsDisjoint c.names (ids_of numbers)
    new_ids apart id h g = apart (term_at table id)
        (in_image nat_cmp_total nat_cmp-IsAntisymmetric term_cmp_total term_cmp-IsAntisymmetric (term_at table) c.names id h)
        (subst (λ s. set.contains s (term_at table id) ≡ true) ids_shown (in_image nat_cmp_total nat_cmp-IsAntisymmetric term_cmp_total term_cmp-IsAntisymmetric (term_at table) (ids_of numbers) id g))

-- ---- what is not there stays away

stays : (a b : Bool) → (a ≡ true → b ≡ false) → b ≡ (not a && b)
stays true b h = h refl
stays false b h = refl

remove_absent : {K : Type 0} {R : K → K → Ordering} → IsTotalOrder R → IsAntisymmetric R → (s : set.FinSet R) (x : K) → set.contains s x ≡ false → s ≡ set.remove s x
remove_absent {R = R} total apart s x none = same_set total apart _ _ (λ y.
    stays (eq_by_cmp R y x) (set.contains s y) (λ e. ap (set.contains s) (same_of_eq total apart y x e) ∙ none)
    ∙ sym (contains-remove total s x y))

pub remove_absent_quad : (s : Stored) (q : QuadParts) → set.contains s.quads q ≡ false → s ≡ without_quad s q
remove_absent_quad s q none = λ i. record { quads = remove_absent quad_cmp_total quad_cmp-IsAntisymmetric s.quads q none i; names = s.names }

pub remove_absent_name : (s : Stored) (t : Term) → set.contains s.names t ≡ false → s ≡ without_name s t
remove_absent_name s t none = λ i. record { quads = s.quads; names = remove_absent term_cmp_total term_cmp-IsAntisymmetric s.names t none i }

-- ---- one more goes

pub without_none : (s : Stored) → without_all s [] [] ≡ s
without_none s = λ i. record {
  quads = difference_none quad_cmp_total quad_cmp-IsAntisymmetric s.quads i;
  names = difference_none term_cmp_total term_cmp-IsAntisymmetric s.names i;
}

pub without_one_quad : (s : Stored) (quads : List QuadParts) (names : List Term) (q : QuadParts) → without_quad (without_all s quads names) q ≡ without_all s (quads ++ q ∷ []) names
without_one_quad s quads names q = λ i. record {
  quads = sym (difference_push quad_cmp_total quad_cmp-IsAntisymmetric s.quads quads q) i;
  names = set.difference s.names (set.from_list names);
}

pub without_one_name : (s : Stored) (quads : List QuadParts) (names : List Term) (t : Term) → without_name (without_all s quads names) t ≡ without_all s quads (names ++ t ∷ [])
without_one_name s quads names t = λ i. record {
  quads = set.difference s.quads (set.from_list quads);
  names = sym (difference_push term_cmp_total term_cmp-IsAntisymmetric s.names names t) i;
}
