-- What a store shows after its table has grown and its sets were called.
use Rattle.std.proofs.Common.{◌≡◌, ℕ, suc, arith, ◌+◌, ◌<◌, Bool, not, List, [], ◌∷◌, ◌++◌, map, take, length, get_or, sym, ap, subst, ◌∙◌}
use Rattle.std.specs.Prelude.{All, Result, OnOk, OnErr, IfOk}
use Rattle.std.specs.FinSet as set
use Rattle.rdf_terms.specs.declared.term.Term.{Term}
use Rattle.rdf_terms.specs.Quad.{QuadParts}
use Rattle.rdf_terms.specs.Table.{IsIdOf, AreHeldOnce}
use Rattle.rdf_orders.specs.Quads.{IdQuad, quad_of, quads_of}
use Rattle.rdf_orders.specs.Contents as contents
use Rattle.rdf_orders.specs.Contents.{Contents, IsDisjoint, ids_of}
use Rattle.rdf_store.specs.Stored.{Stored, with_quad, with_name, with_all, without_quad, without_name, without_all}
use Rattle.rdf_store.specs.Inside.Numbers.{AreNumbersOf, AppendsKey, HasTerms, IsGrown, HaveTerms, AreKeys, AreIds, parts_of, shown}
use Rattle.rdf_store.proofs.ListLemmas.{matched_all, matched_map, matched_push, matched_to, matched_next, take_next}
use Rattle.rdf_store.proofs.NumberLemmas.{numbered_grown, numbered_is, numbered_kept}
use Rattle.rdf_store.proofs.ResultLemmas.{on_ok_to, on_err_to, if_ok_to, either_way}
use Rattle.rdf_store.proofs.StoreLemmas.{kept_grown, shown_grown, contains_shown, has_shown, kept_with_quad, shown_with_quad, kept_with_name, shown_with_name, kept_with_all, shown_with_all, new_keys, new_ids, without_one_quad, without_one_name}

pub keys_grown : (old new : List Term) (keys : List (List ℕ)) (quads : List QuadParts) → IsGrown old new → AreKeys old keys quads → AreKeys new keys quads
keys_grown old new keys quads grown m = matched_to (λ k q. AreNumbersOf old (quad_of k) q) (λ k q. AreNumbersOf new (quad_of k) q) (λ k q n. numbered_grown old new grown (quad_of k) q n) keys quads m

pub ids_grown : (old new : List Term) (numbers : List ℕ) (terms : List Term) → IsGrown old new → AreIds old numbers terms → AreIds new numbers terms
ids_grown old new numbers terms grown m = matched_to (λ id t. IsIdOf old id t) (λ id t. IsIdOf new id t) grown.keeps numbers terms m

-- keys of quads have their terms
pub keys_kept : (table : List Term) (keys : List (List ℕ)) (quads : List QuadParts) → AreKeys table keys quads → All (λ key. HasTerms table (quad_of key)) keys
keys_kept table keys quads m = matched_all (λ k q. AreNumbersOf table (quad_of k) q) (λ key. HasTerms table (quad_of key)) (λ k q n. numbered_kept table (quad_of k) q n) keys quads m

pub keys_parts : (table : List Term) (keys : List (List ℕ)) (quads : List QuadParts) → AreKeys table keys quads → map (parts_of table) keys ≡ quads
keys_parts table keys quads m = matched_map _ (parts_of table) (λ key q n. numbered_is table (quad_of key) q n) keys quads m

pub keys_matched : (table : List Term) (keys : List (List ℕ)) → All (λ key. HasTerms table (quad_of key)) keys → AreKeys table keys (map (parts_of table) keys)
keys_matched table [] kept = tt
keys_matched table (key ∷ keys) kept = (kept 0 key (omega arith), keys_matched table keys (λ i d lt. kept (suc i) d (omega arith)))

module _ (old new : List Term) (c d : Contents) (s : Stored) (kept : HaveTerms old c) (is : shown old c ≡ s) (grown : IsGrown old new) where
  pub grown_kept : HaveTerms new c
  grown_kept = kept_grown old new c grown kept

  pub grown_is : shown new c ≡ s
  grown_is = shown_grown old new c grown kept ∙ is

  pub err_is : {A E : Type 0} (r : Result A E) → OnErr r (d ≡ c) → OnErr r (shown new d ≡ s)
  err_is r h = on_err_to r (λ e. ap (shown new) e ∙ grown_is) h

  module _ (k : IdQuad) (q : QuadParts) (n : AreNumbersOf new k q) where
    pub insert_kept : {A E : Type 0} (r : Result A E) → OnOk r (d ≡ contents.with_quad c k) → OnErr r (d ≡ c) → HaveTerms new d
    insert_kept r h g = either_way r (λ e. subst (HaveTerms new) (sym e) (kept_with_quad new c grown_kept k q n)) (λ e. subst (HaveTerms new) (sym e) grown_kept) h g

    pub insert_is : {A E : Type 0} (r : Result A E) → OnOk r (d ≡ contents.with_quad c k) → OnOk r (shown new d ≡ with_quad s q)
    insert_is r h = on_ok_to r (λ e. ap (shown new) e ∙ shown_with_quad new c grown_kept k q n ∙ ap (λ (v : Stored). with_quad v q) grown_is) h

    pub insert_new : {E : Type 0} → AreHeldOnce new → (r : Result Bool E) → IfOk r (λ b. b ≡ not (set.contains c.quads k)) → IfOk r (λ b. b ≡ not (set.contains s.quads q))
    insert_new once r h = if_ok_to r (λ b e. e ∙ ap not (contains_shown new c grown_kept once k q n ∙ ap (λ (v : Stored). set.contains v.quads q) grown_is)) h

  module _ (id : ℕ) (t : Term) (n : IsIdOf new id t) where
    pub add_kept : {A E : Type 0} (r : Result A E) → OnOk r (d ≡ contents.with_name c id) → OnErr r (d ≡ c) → HaveTerms new d
    add_kept r h g = either_way r (λ e. subst (HaveTerms new) (sym e) (kept_with_name new c grown_kept id t n)) (λ e. subst (HaveTerms new) (sym e) grown_kept) h g

    pub add_is : {A E : Type 0} (r : Result A E) → OnOk r (d ≡ contents.with_name c id) → OnOk r (shown new d ≡ with_name s t)
    add_is r h = on_ok_to r (λ e. ap (shown new) e ∙ shown_with_name new c grown_kept id t n ∙ ap (λ (v : Stored). with_name v t) grown_is) h

    pub add_new : {E : Type 0} → AreHeldOnce new → (r : Result Bool E) → IfOk r (λ b. b ≡ not (set.contains c.names id)) → IfOk r (λ b. b ≡ not (set.contains s.names t))
    add_new once r h = if_ok_to r (λ b e. e ∙ ap not (has_shown new c grown_kept once id t n ∙ ap (λ (v : Stored). set.contains v.names t) grown_is)) h

  module _ (keys : List (List ℕ)) (numbers : List ℕ) (quads : List QuadParts) (names : List Term) (are_keys : AreKeys new keys quads) (are_ids : AreIds new numbers names) where
    pub all_new_keys : IsDisjoint s.quads (set.from_list quads) → IsDisjoint c.quads (quads_of keys)
    all_new_keys h = new_keys new c grown_kept keys numbers quads names are_keys are_ids (subst (λ (v : Stored). IsDisjoint v.quads (set.from_list quads)) (sym grown_is) h)

    pub all_new_ids : IsDisjoint s.names (set.from_list names) → IsDisjoint c.names (ids_of numbers)
    all_new_ids h = new_ids new c grown_kept keys numbers quads names are_keys are_ids (subst (λ (v : Stored). IsDisjoint v.names (set.from_list names)) (sym grown_is) h)

    pub all_kept : {A E : Type 0} (r : Result A E) → OnOk r (d ≡ contents.with_all c keys numbers) → OnErr r (d ≡ c) → HaveTerms new d
    all_kept r h g = either_way r (λ e. subst (HaveTerms new) (sym e) (kept_with_all new c grown_kept keys numbers quads names are_keys are_ids)) (λ e. subst (HaveTerms new) (sym e) grown_kept) h g

    pub all_is : {A E : Type 0} (r : Result A E) → OnOk r (d ≡ contents.with_all c keys numbers) → OnOk r (shown new d ≡ with_all s quads names)
    all_is r h = on_ok_to r (λ e. ap (shown new) e ∙ shown_with_all new c grown_kept keys numbers quads names are_keys are_ids ∙ ap (λ (v : Stored). with_all v quads names) grown_is) h

pub keys_passed : (old new : List Term) (keys keys' : List (List ℕ)) (quads : List QuadParts) → IsGrown old new → keys' ≡ keys → AreKeys old keys quads → AreKeys new keys' quads
keys_passed old new keys keys' quads grown e m = subst (λ ks. AreKeys new ks quads) (sym e) (keys_grown old new keys quads grown m)

-- the list of quads with one more
module _ (old new : List Term) (keys keys' : List (List ℕ)) (quads : List QuadParts) (q : QuadParts) (kept : All (λ key. HasTerms old (quad_of key)) keys) (are : map (parts_of old) keys ≡ quads) (grown : IsGrown old new) where
  list_grown : AreKeys new keys quads
  list_grown = keys_grown old new keys quads grown (subst (AreKeys old keys) are (keys_matched old keys kept))

  pub list_kept : keys' ≡ keys → All (λ key. HasTerms new (quad_of key)) keys'
  list_kept e = subst (All (λ key. HasTerms new (quad_of key))) (sym e) (keys_kept new keys quads list_grown)

  pub list_is : keys' ≡ keys → map (parts_of new) keys' ≡ quads
  list_is e = ap (map (parts_of new)) e ∙ keys_parts new keys quads list_grown

  pushed : AppendsKey new keys keys' q → AreKeys new keys' (quads ++ q ∷ [])
  pushed a = subst (λ ks. AreKeys new ks (quads ++ q ∷ [])) (sym a.appended) (matched_push (λ k x. AreNumbersOf new (quad_of k) x) keys quads a.key q list_grown a.numbers)

  pub push_kept : AppendsKey new keys keys' q → All (λ key. HasTerms new (quad_of key)) keys'
  push_kept a = keys_kept new keys' (quads ++ q ∷ []) (pushed a)

  pub push_is : AppendsKey new keys keys' q → map (parts_of new) keys' ≡ quads ++ q ∷ []
  push_is a = keys_parts new keys' (quads ++ q ∷ []) (pushed a)

pub ids_passed : (table : List Term) (numbers numbers' : List ℕ) (names : List Term) → numbers' ≡ numbers → AreIds table numbers names → AreIds table numbers' names
ids_passed table numbers numbers' names e m = subst (λ ns. AreIds table ns names) (sym e) m

pub next_key : (old new : List Term) (keys keys' : List (List ℕ)) (quads : List QuadParts) (i : ℕ) (q : QuadParts) → AreKeys old keys (take i quads) → IsGrown old new → AppendsKey new keys keys' q
    → i < length quads → q ≡ get_or quads i q → AreKeys new keys' (take (i + 1) quads)
next_key old new keys keys' quads i q m grown a lt is =
    matched_next (λ k x. AreNumbersOf old (quad_of k) x) (λ k x. AreNumbersOf new (quad_of k) x) (λ k x h. numbered_grown old new grown (quad_of k) x h) keys keys' quads i a.key q m a.numbers a.appended lt is

pub next_id : (old new : List Term) (numbers numbers' : List ℕ) (terms : List Term) (i : ℕ) (id : ℕ) (t : Term) → AreIds old numbers (take i terms) → IsGrown old new → IsIdOf new id t
    → numbers' ≡ numbers ++ id ∷ [] → i < length terms → t ≡ get_or terms i t → AreIds new numbers' (take (i + 1) terms)
next_id old new numbers numbers' terms i id t m grown n e lt is =
    matched_next (λ k x. IsIdOf old k x) (λ k x. IsIdOf new k x) grown.keeps numbers numbers' terms i id t m n e lt is

-- ---- one more goes

pub next_quad_gone : (s now new : Stored) (quads : List QuadParts) (i : ℕ) (q : QuadParts) → now ≡ without_all s (take i quads) [] → new ≡ without_quad now q
    → i < length quads → q ≡ get_or quads i q → new ≡ without_all s (take (i + 1) quads) []
next_quad_gone s now new quads i q was e lt is =
    e ∙ ap (λ (v : Stored). without_quad v q) was ∙ without_one_quad s (take i quads) [] q ∙ ap (λ qs. without_all s qs []) (sym (take_next quads i q lt is))

pub next_name_gone : (s now new : Stored) (quads : List QuadParts) (names : List Term) (i : ℕ) (t : Term) → now ≡ without_all s quads (take i names) → new ≡ without_name now t
    → i < length names → t ≡ get_or names i t → new ≡ without_all s quads (take (i + 1) names)
next_name_gone s now new quads names i t was e lt is =
    e ∙ ap (λ (v : Stored). without_name v t) was ∙ without_one_name s quads (take i names) t ∙ ap (without_all s quads) (sym (take_next names i t lt is))
