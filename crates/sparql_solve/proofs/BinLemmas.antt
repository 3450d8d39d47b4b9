-- Items in bins: what one more makes of them, and that a bin of rows has all that are compatible.
use Rattle.std.proofs.Common.{◌≡◌, ℕ, zero, suc, ◌+◌, ◌<◌, ◌≤◌, Bool, true, false, cond, ◌&&◌, ◌||◌, List, [], ◌∷◌, ◌++◌, map, filter, Option, Some, None, refl, sym, ap, ◌∙◌, subst, length, take, get_or, set, is_some, arith, append-nil, Bor, if◌then◌else◌}
use Rattle.std.specs.List.{All, list_all}
use Rattle.std.specs.Prelude.{slice_get}
use Rattle.std.proofs.lemmas.List.{length-append, map-append, take_more}
use Rattle.std.proofs.lemmas.List.Elements.{filter-append}
use Rattle.rdf_terms.specs.declared.term.Term.{Term}
use Rattle.rdf_terms.specs.Table.{AreHeldOnce, IsIdOf, is_held, with_term}
use Rattle.sparql_values.specs.Mapping.{Mapping, compatible, same_term, value_at}
use Rattle.sparql_algebra.proofs.CallerLemmas.{and_left, same_term_is}
use Rattle.sparql_values.proofs.CallerLemmas.{same_term_own}
use Rattle.sparql_algebra.specs.Under.{agreeing}
use Rattle.sparql_solve.specs.Bins.{binned, binned_in, has_at, is_term, with_at}
use Rattle.sparql_solve.specs.Keys.{IsKeyOf, all_bind, binds}
use Rattle.sparql_solve.proofs.KeyLemmas.{agree_at, filter_within, left_has, right_has, rows_of}

-- ---- terms

same_turned : (s t : Term) → same_term s t ≡ false → same_term t s ≡ false
same_turned s t h = by_test (same_term t s) refl
  where
    by_test : (b : Bool) → same_term t s ≡ b → same_term t s ≡ false
    by_test false e = e
    by_test true e = let i : t ≡ s = same_term_is t s e in let own : same_term s t ≡ true = subst (λ (u : Term). same_term s u ≡ true) (sym i) (same_term_own s) in cc

once_behind : (u : Term) (us : List Term) → AreHeldOnce (u ∷ us) → AreHeldOnce us
once_behind u us h i j t a b = let e : suc i ≡ suc j = h (suc i) (suc j) t a b in omega (arith, e)

-- the first one isn't held again
first_once : (u t : Term) (us : List Term) (k : ℕ) → AreHeldOnce (u ∷ us) → IsIdOf us k t → same_term t u ≡ false
first_once u t us k h a = by_test (same_term t u) refl
  where
    by_test : (b : Bool) → same_term t u ≡ b → same_term t u ≡ false
    by_test false e = e
    by_test true e =
        let i : t ≡ u = same_term_is t u e in
        let here : IsIdOf (u ∷ us) 0 t = ap Some (sym i) in
        let n : 0 ≡ suc k = h 0 (suc k) t here a in absurd (omega (arith, n))

pub id_below : (us : List Term) (k : ℕ) (t : Term) → IsIdOf us k t → k < length us
id_below [] k t h = cc
id_below (u ∷ us) zero t h = omega arith
id_below (u ∷ us) (suc k) t h = let i : k < length us = id_below us k t h in omega (arith, i)

id_behind : (us : List Term) (t : Term) → IsIdOf (us ++ t ∷ []) (length us) t
id_behind [] t = refl
id_behind (u ∷ us) t = id_behind us t

-- a term with a place in the table is held as it was, where the place is one that was there, and else it is new
with_new : (us : List Term) (t : Term) (k : ℕ) → IsIdOf (with_term us t) k t → k ≡ length us → with_term us t ≡ us ++ t ∷ []
with_new us t k h e = by_test (is_held us t) refl
  where
    by_test : (b : Bool) → is_held us t ≡ b → with_term us t ≡ us ++ t ∷ []
    by_test false p = ap (λ (c : Bool). if c then us else us ++ t ∷ []) p
    by_test true p =
        let same : with_term us t ≡ us = ap (λ (c : Bool). if c then us else us ++ t ∷ []) p in
        let lt : k < length us = id_below us k t (subst (λ (l : List Term). IsIdOf l k t) same h) in absurd (omega (arith, lt, e))

with_held : (us : List Term) (t : Term) (k : ℕ) → AreHeldOnce (with_term us t) → IsIdOf (with_term us t) k t → (k ≡ length us → ⊥) → with_term us t ≡ us
with_held us t k o h e = by_test (is_held us t) refl
  where
    by_test : (b : Bool) → is_held us t ≡ b → with_term us t ≡ us
    by_test true p = ap (λ (c : Bool). if c then us else us ++ t ∷ []) p
    by_test false p =
        let new : with_term us t ≡ us ++ t ∷ [] = ap (λ (c : Bool). if c then us else us ++ t ∷ []) p in
        let at : k ≡ length us = subst (λ (l : List Term). AreHeldOnce l) new o k (length us) t (subst (λ (l : List Term). IsIdOf l k t) new h) (id_behind us t) in
        absurd (e at)

-- what the bins are before an item comes in: a new term has an empty one
record IsReady {X : Type 0} (us new : List Term) (old bins : List (List X)) : Type 0 where
  pub paired : length bins ≡ length new
  pub same : (s : Term) → binned new bins s ≡ binned us old s

module _ {X : Type 0} where
  -- ---- one item more

  pub one_put : (us : List Term) (bins : List (List X)) (k : ℕ) (t : Term) (m : X) (s : Term) → AreHeldOnce us → IsIdOf us k t → length us ≡ length bins →
      binned us (with_at k m bins) s ≡ binned us bins s ++ cond (same_term s t) (m ∷ []) []
  one_put [] bins k t m s h i e = cc
  one_put (u ∷ us) [] k t m s h i e = absurd (omega (arith, e))
  one_put (u ∷ us) (bin ∷ bins) zero t m s h i e =
      subst (λ (v : Term). binned (u ∷ us) ((bin ++ m ∷ []) ∷ bins) s ≡ binned (u ∷ us) (bin ∷ bins) s ++ cond (same_term s v) (m ∷ []) []) (some_same u t i) (by_test (same_term s u) refl)
    where
      some_same : (x y : Term) → Some x ≡ Some y → x ≡ y
      some_same x y p = cc

      by_test : (b : Bool) → same_term s u ≡ b → cond (same_term s u) (bin ++ m ∷ []) (binned us bins s) ≡ cond (same_term s u) bin (binned us bins s) ++ cond (same_term s u) (m ∷ []) []
      by_test true p = ap (λ (c : Bool). cond c (bin ++ m ∷ []) (binned us bins s)) p ∙ sym (ap (λ (c : Bool). cond c bin (binned us bins s) ++ cond c (m ∷ []) []) p)
      by_test false p = ap (λ (c : Bool). cond c (bin ++ m ∷ []) (binned us bins s)) p ∙ sym (append-nil (binned us bins s)) ∙ sym (ap (λ (c : Bool). cond c bin (binned us bins s) ++ cond c (m ∷ []) []) p)
  one_put (u ∷ us) (bin ∷ bins) (suc k) t m s h i e = by_test (one_put us bins k t m s (once_behind u us h) i (omega (arith, e))) (same_term s u) refl
    where
      -- where the term is the first one, it isn't the other
      other : same_term s u ≡ true → same_term s t ≡ false
      other p = subst (λ (v : Term). same_term v t ≡ false) (sym (same_term_is s u p)) (same_turned t u (first_once u t us k h i))

      by_test : binned us (with_at k m bins) s ≡ binned us bins s ++ cond (same_term s t) (m ∷ []) [] → (b : Bool) → same_term s u ≡ b →
          cond (same_term s u) bin (binned us (with_at k m bins) s) ≡ cond (same_term s u) bin (binned us bins s) ++ cond (same_term s t) (m ∷ []) []
      by_test rest true p =
          ap (λ (c : Bool). cond c bin (binned us (with_at k m bins) s)) p ∙ sym (append-nil bin) ∙ ap (λ (c : Bool). bin ++ cond c (m ∷ []) []) (sym (other p))
          ∙ ap (λ (c : Bool). cond c bin (binned us bins s) ++ cond (same_term s t) (m ∷ []) []) (sym p)
      by_test rest false p =
          ap (λ (c : Bool). cond c bin (binned us (with_at k m bins) s)) p ∙ rest
          ∙ ap (λ (c : Bool). cond c bin (binned us bins s) ++ cond (same_term s t) (m ∷ []) []) (sym p)

  no_matter : (b : Bool) (l : List X) → cond b l l ≡ l
  no_matter true l = refl
  no_matter false l = refl

  pub empty_behind : (us : List Term) (bins : List (List X)) (t s : Term) → length us ≡ length bins → binned (us ++ t ∷ []) (bins ++ [] ∷ []) s ≡ binned us bins s
  empty_behind [] [] t s e = no_matter (same_term s t) []
  empty_behind [] (bin ∷ bins) t s e = absurd (omega (arith, e))
  empty_behind (u ∷ us) [] t s e = absurd (omega (arith, e))
  empty_behind (u ∷ us) (bin ∷ bins) t s e = ap (λ (l : List X). cond (same_term s u) bin l) (empty_behind us bins t s (omega (arith, e)))

  -- ---- look-ups

  pub bin_found : (us : List Term) (bins : List (List X)) (k : ℕ) (t : Term) (bin : List X) → AreHeldOnce us → IsIdOf us k t → length us ≡ length bins →
      slice_get bins k ≡ Some bin → binned us bins t ≡ bin
  bin_found [] bins k t bin h i e g = cc
  bin_found (u ∷ us) [] k t bin h i e g = cc
  bin_found (u ∷ us) (b ∷ bins) zero t bin h i e g =
      ap (λ (c : Bool). cond c b (binned us bins t)) (subst (λ (v : Term). same_term t v ≡ true) (own u t i) (same_term_own t)) ∙ same b bin g
    where
      own : (x y : Term) → Some x ≡ Some y → y ≡ x
      own x y p = cc

      same : (x y : List X) → Some x ≡ Some y → x ≡ y
      same x y p = cc
  bin_found (u ∷ us) (b ∷ bins) (suc k) t bin h i e g =
      ap (λ (c : Bool). cond c b (binned us bins t)) (first_once u t us k h i) ∙ bin_found us bins k t bin (once_behind u us h) i (omega (arith, e)) g

  pub bin_missing : (us : List Term) (bins : List (List X)) (t : Term) → is_held us t ≡ false → binned us bins t ≡ []
  bin_missing [] bins t h = refl
  bin_missing (u ∷ us) [] t h = refl
  bin_missing (u ∷ us) (b ∷ bins) t h = by_test (bin_missing us bins t) (same_term t u) (is_held us t) refl refl h
    where
      by_test : (is_held us t ≡ false → binned us bins t ≡ []) → (c d : Bool) → same_term t u ≡ c → is_held us t ≡ d → (c || d) ≡ false →
          cond (same_term t u) b (binned us bins t) ≡ []
      by_test behind true d p q r = cc
      by_test behind false d p q r = ap (λ (x : Bool). cond x b (binned us bins t)) p ∙ behind (q ∙ r)

  -- ---- the list of bins

  module _ {Y : Type 0} (f : Y → List X) where
    pub set_put : (xs : List Y) (k : ℕ) (old new : Y) (m : X) → k < length xs → old ≡ get_or xs k old → f new ≡ f old ++ m ∷ [] →
        map f (set xs k new) ≡ with_at k m (map f xs)
    set_put [] k old new m lt e n = absurd (omega arith)
    set_put (x ∷ xs) zero old new m lt e n =
        ap (λ (l : List X). l ∷ map f xs) (n ∙ ap (λ (y : Y). f y ++ m ∷ []) e)
    set_put (x ∷ xs) (suc k) old new m lt e n = ap (λ (l : List (List X)). f x ∷ l) (set_put xs k old new m (omega arith) e n)

    pub past_put : (xs : List Y) (k : ℕ) (m : X) → length xs ≤ k → map f xs ≡ with_at k m (map f xs)
    past_put [] k m le = refl
    past_put (x ∷ xs) zero m le = absurd (omega arith)
    past_put (x ∷ xs) (suc k) m le = ap (λ (l : List (List X)). f x ∷ l) (past_put xs k m (omega arith))

  with_at_length : (k : ℕ) (m : X) (bins : List (List X)) → length (with_at k m bins) ≡ length bins
  with_at_length k m [] = refl
  with_at_length zero m (bin ∷ bins) = refl
  with_at_length (suc k) m (bin ∷ bins) = ap suc (with_at_length k m bins)

  module _ (us new : List Term) (old bins : List (List X)) (t : Term) (k : ℕ) (n : new ≡ with_term us t) (i : IsIdOf new k t) (p : length old ≡ length us) where
    at_new : IsIdOf (with_term us t) k t
    at_new = subst (λ (l : List Term). IsIdOf l k t) n i

    ready_new : k ≡ length old → bins ≡ old ++ [] ∷ [] → IsReady us new old bins
    ready_new e b =
        let behind : new ≡ us ++ t ∷ [] = n ∙ with_new us t k at_new (e ∙ p) in
        record {
          paired = ap length b ∙ length-append old ([] ∷ []) ∙ ap (λ (x : ℕ). x + 1) p ∙ sym (length-append us (t ∷ [])) ∙ ap length (sym behind);
          same = λ s. ap (λ (l : List Term). binned l bins s) behind ∙ ap (λ (l : List (List X)). binned (us ++ t ∷ []) l s) b ∙ empty_behind us old t s (sym p);
        }

    ready_held : AreHeldOnce new → (k ≡ length old → ⊥) → bins ≡ old → IsReady us new old bins
    ready_held o e b =
        let held : new ≡ us = n ∙ with_held us t k (subst AreHeldOnce n o) at_new (λ a. e (a ∙ sym p)) in
        record {
          paired = ap length b ∙ p ∙ ap length (sym held);
          same = λ s. ap (λ (l : List Term). binned l bins s) held ∙ ap (λ (l : List (List X)). binned us l s) b;
        }

  module _ (us new : List Term) (old bins after : List (List X)) (t : Term) (k : ℕ) (m : X) (r : IsReady us new old bins) (o : AreHeldOnce new)
      (i : IsIdOf new k t) (e : after ≡ with_at k m bins) where
    put_paired : length after ≡ length new
    put_paired = ap length e ∙ with_at_length k m bins ∙ r.paired

    put_gives : (s : Term) → binned new after s ≡ binned us old s ++ cond (same_term s t) (m ∷ []) []
    put_gives s =
        ap (λ (l : List (List X)). binned new l s) e ∙ one_put new bins k t m s o i (sym r.paired)
        ∙ ap (λ (l : List X). l ++ cond (same_term s t) (m ∷ []) []) (r.same s)

  -- the bin of a term that is held has the item
  module _ (us new : List Term) (old after : List (List X)) (t : Term) (k : ℕ) (m : X) (n : new ≡ with_term us t) (i : IsIdOf new k t)
      (p : length old ≡ length us) (o : AreHeldOnce new) (e : k ≡ length old → ⊥) (a : after ≡ with_at k m old) where
    is_ready : IsReady us new old old
    is_ready = ready_held us new old old t k n i p o e refl

    pub held_paired : length after ≡ length new
    held_paired = put_paired us new old old after t k m is_ready o i a

    pub held_gives : (s : Term) → binned new after s ≡ binned us old s ++ cond (same_term s t) (m ∷ []) []
    held_gives = put_gives us new old old after t k m is_ready o i a

  -- a bin that is new has the item
  with_at_end : (bins : List (List X)) (k : ℕ) (m : X) → k ≡ length bins → bins ++ (m ∷ []) ∷ [] ≡ with_at k m (bins ++ [] ∷ [])
  with_at_end [] zero m e = refl
  with_at_end [] (suc k) m e = absurd (omega (arith, e))
  with_at_end (bin ∷ bins) zero m e = absurd (omega (arith, e))
  with_at_end (bin ∷ bins) (suc k) m e = ap (λ (l : List (List X)). bin ∷ l) (with_at_end bins k m (omega (arith, e)))

  module _ (us new : List Term) (old after : List (List X)) (t : Term) (k : ℕ) (m : X) (n : new ≡ with_term us t) (i : IsIdOf new k t)
      (p : length old ≡ length us) (o : AreHeldOnce new) (e : k ≡ length old) (a : after ≡ old ++ (m ∷ []) ∷ []) where
    readied : IsReady us new old (old ++ [] ∷ [])
    readied = ready_new us new old (old ++ [] ∷ []) t k n i p e refl

    pub new_gives : (s : Term) → binned new after s ≡ binned us old s ++ cond (same_term s t) (m ∷ []) []
    new_gives = put_gives us new old (old ++ [] ∷ []) after t k m readied o i (a ∙ with_at_end old k m e)

-- ---- the loop over the rows

module _ (column : ℕ) (rows : List (Bor Mapping)) (i : ℕ) (x : Bor Mapping) (lt : i < length rows) (here : x ≡ get_or rows i x) where
  row_more : (t : Term) → filter (has_at column t) (rows_of (take (i + 1) rows))
      ≡ filter (has_at column t) (rows_of (take i rows)) ++ cond (has_at column t x.now) (x.now ∷ []) []
  row_more t =
      ap (λ (l : List (Bor Mapping)). filter (has_at column t) (rows_of l)) (take_more rows i x lt ∙ ap (λ (y : Bor Mapping). take i rows ++ y ∷ []) (sym here))
      ∙ ap (filter (has_at column t)) (map-append (λ (r : Bor Mapping). r.now) (take i rows) (x ∷ []))
      ∙ filter-append (has_at column t) (rows_of (take i rows)) (x.now ∷ [])

  pub row_put : (before after : Term → List Mapping) (u : Term) → Some u ≡ value_at x.now column → ((t : Term) → before t ≡ filter (has_at column t) (rows_of (take i rows))) →
      ((t : Term) → after t ≡ before t ++ cond (same_term t u) (x.now ∷ []) []) → (t : Term) → after t ≡ filter (has_at column t) (rows_of (take (i + 1) rows))
  row_put before after u v h p t =
      p t ∙ ap (λ (l : List Mapping). l ++ cond (same_term t u) (x.now ∷ []) []) (h t)
      ∙ ap (λ (c : Bool). filter (has_at column t) (rows_of (take i rows)) ++ cond c (x.now ∷ []) []) (ap (is_term t) v) ∙ sym (row_more t)

  pub row_passed : (before : Term → List Mapping) → None ≡ value_at x.now column → ((t : Term) → before t ≡ filter (has_at column t) (rows_of (take i rows))) →
      (t : Term) → before t ≡ filter (has_at column t) (rows_of (take (i + 1) rows))
  row_passed before v h t =
      h t ∙ sym (append-nil (filter (has_at column t) (rows_of (take i rows))))
      ∙ ap (λ (c : Bool). filter (has_at column t) (rows_of (take i rows)) ++ cond c (x.now ∷ []) []) (ap (is_term t) v) ∙ sym (row_more t)

-- ---- what stands at a place

pub get_found : {X Y : Type 0} (f : X → List Y) (xs : List X) (k : ℕ) (x : X) → k < length xs → x ≡ get_or xs k x → slice_get (map f xs) k ≡ Some (f x)
get_found f [] k x lt e = absurd (omega arith)
get_found f (y ∷ xs) zero x lt e = ap (λ z. Some (f z)) (sym e)
get_found f (y ∷ xs) (suc k) x lt e = get_found f xs k x (omega arith) e

-- ---- a bin has all that are compatible

just : (b : Bool) → (b && true) ≡ true → b ≡ true
just true h = refl
just false h = cc

bound_left : (column : ℕ) (A B : List Mapping) (i : ℕ) (d : Mapping) → i < length A → IsKeyOf (column ∷ []) A B → binds column (get_or A i d) ≡ true
bound_left column A B i d lt k = just (binds column (get_or A i d)) (left_has (column ∷ []) A B i d lt k)

bound_right : (column : ℕ) (A B : List Mapping) (i : ℕ) (d : Mapping) → i < length B → IsKeyOf (column ∷ []) A B → binds column (get_or B i d) ≡ true
bound_right column A B i d lt k = just (binds column (get_or B i d)) (right_has (column ∷ []) A B i d lt k)

by_value : (column : ℕ) (a : Mapping) (B : List Mapping) (terms : List Term) (bins : List (List Mapping)) → binds column a ≡ true →
    ((j : ℕ) (d : Mapping) → j < length B → binds column (get_or B j d) ≡ true) → ((t : Term) → binned terms bins t ≡ filter (has_at column t) B) →
    (v : Option Term) → value_at a column ≡ v → agreeing (binned_in terms bins v) a ≡ agreeing B a
by_value column a B terms bins own others h None e = let none : is_some (value_at a column) ≡ false = ap is_some e in cc
by_value column a B terms bins own others h (Some t) e =
    ap (filter (compatible a)) (h t)
    ∙ filter_within (compatible a) (has_at column t) B (λ j d l c.
    ap (is_term t) (sym (agree_at a (get_or B j d) column c own (others j d l)) ∙ e) ∙ same_term_own t)

bin_gives : (columns : List ℕ) (column : ℕ) (A B : List Mapping) (terms : List Term) (bins : List (List Mapping)) → columns ≡ column ∷ [] →
    IsKeyOf columns A B → ((t : Term) → binned terms bins t ≡ filter (has_at column t) B) →
    All (λ a. agreeing (binned_in terms bins (value_at a column)) a ≡ agreeing B a) A
bin_gives columns column A B terms bins e k h i d lt =
    let one : IsKeyOf (column ∷ []) A B = subst (λ (cs : List ℕ). IsKeyOf cs A B) e k in
    by_value column (get_or A i d) B terms bins (bound_left column A B i d lt one) (λ j w l. bound_right column A B j w l one) h (value_at (get_or A i d) column) refl

one_only : (xs : List ℕ) → 0 < length xs → length xs < 2 → xs ≡ get_or xs 0 0 ∷ []
one_only [] a b = absurd (omega arith)
one_only (x ∷ []) a b = refl
one_only (x ∷ y ∷ xs) a b = absurd (omega (arith, b))

pub bins_give : (columns used : List ℕ) (column : ℕ) (A B : List Mapping) (terms : List Term) (bins : List (List Mapping)) → used ≡ columns → 0 < length used →
    length used < 2 → column ≡ get_or used 0 0 → IsKeyOf columns A B → ((t : Term) → binned terms bins t ≡ filter (has_at (get_or used 0 0) t) B) →
    All (λ a. agreeing (binned_in terms bins (value_at a column)) a ≡ agreeing B a) A
bins_give columns used column A B terms bins e some few own k h =
    subst (λ (n : ℕ). All (λ a. agreeing (binned_in terms bins (value_at a n)) a ≡ agreeing B a) A) (sym own)
    (bin_gives columns (get_or used 0 0) A B terms bins (sym e ∙ one_only used some few) k h)

-- the bins by the first of several columns
pub first_gives : (columns : List ℕ) (column at : ℕ) (A B : List Mapping) (terms : List Term) (bins : List (List Mapping)) → Some column ≡ slice_get columns 0 →
    at ≡ column → IsKeyOf columns A B → ((t : Term) → binned terms bins t ≡ filter (has_at column t) B) →
    All (λ a. agreeing (binned_in terms bins (value_at a at)) a ≡ agreeing B a) A
first_gives [] column at A B terms bins first own k h = cc
first_gives (x ∷ xs) column at A B terms bins first own k h =
    let same : column ≡ x = cc in
    subst (λ (n : ℕ). All (λ a. agreeing (binned_in terms bins (value_at a n)) a ≡ agreeing B a) A) (sym own)
    (bin_gives (x ∷ []) column A B terms bins (ap (λ (n : ℕ). n ∷ []) (sym same))
    (ap (λ (b : Bool). b && true) (and_left (all_bind A B x) (list_all (all_bind A B) xs) k)) h)
