-- Lists of the columns that mappings bind, each column once.
use Rattle.std.proofs.Common.{◌≡◌, ℕ, ◌+◌, ◌<◌, ◌≤◌, inl, inr, Bool, true, false, ◌&&◌, ◌||◌, cond, List, [], ◌∷◌, ◌++◌, length, take, get_or, Option, Some, None, is_some, not, refl, sym, ap, ◌∙◌, subst, arith, nat_eq, nat_lt, true≢false, Bor}
use Rattle.std.specs.List.{dedup, dedup_from, list_any}
use Rattle.std.specs.List.Sorted.{IsPermutation}
use Rattle.std.proofs.lemmas.Bool.{cases_lt, cases_order, eq-eqb, eqb-true, le-ltb, lt-ltb, ne_eqb}
use Rattle.std.proofs.lemmas.List.{get_or_past, map-append, take_all, take_more}
use Rattle.std.proofs.lemmas.List.Folds.{list_any-append, list_any_at}
use Rattle.std.proofs.lemmas.List.Sorted.{list_any-IsPermutation}
use Rattle.sparql_values.specs.Mapping.{Mapping, value_at}
use Rattle.sparql_values.specs.NextBound.{IsFirstFrom, IsNextBound}
use Rattle.sparql_solve.specs.Keys.{binds}
use Rattle.sparql_solve.proofs.KeyLemmas.{rows_of}

-- ---- repeats left out

or_twice : (a b c : Bool) → b ≡ a → (a || c) ≡ (a || (b || c))
or_twice true b c e = refl
or_twice false b c e = sym (ap (λ t. t || c) e)

module _ (p : ℕ → Bool) where
  any_from : (k : ℕ) (xs : List ℕ) → list_any p (dedup_from nat_eq k xs) ≡ (p k || list_any p xs)
  any_from k [] = refl
  any_from k (x ∷ xs) = by_same (nat_eq x k) refl (any_from k xs) (any_from x xs)
    where
      by_same : (b : Bool) → nat_eq x k ≡ b → list_any p (dedup_from nat_eq k xs) ≡ (p k || list_any p xs) →
          list_any p (dedup_from nat_eq x xs) ≡ (p x || list_any p xs) →
          list_any p (cond b (dedup_from nat_eq k xs) (k ∷ dedup_from nat_eq x xs)) ≡ (p k || (p x || list_any p xs))
      by_same true e h j = h ∙ or_twice (p k) (p x) (list_any p xs) (ap p (eqb-true x k e))
      by_same false e h j = ap (λ b. p k || b) j

  any_dedup : (xs : List ℕ) → list_any p (dedup nat_eq xs) ≡ list_any p xs
  any_dedup [] = refl
  any_dedup (x ∷ xs) = any_from x xs

  -- in order and without repeats they are the same columns
  pub any_once : (xs ys zs : List ℕ) → IsPermutation xs ys → zs ≡ dedup nat_eq ys → list_any p zs ≡ list_any p xs
  any_once xs ys zs moved e = ap (list_any p) e ∙ any_dedup ys ∙ sym (list_any-IsPermutation p xs ys moved)

-- ---- the columns that a mapping binds

or_none : (b : Bool) → b ≡ (b || false)
or_none true = refl
or_none false = refl

and_none : (b : Bool) → (b && false) ≡ false
and_none true = refl
and_none false = refl

-- those that were there, and those below this one that the mapping binds
abbrev pub HasBoundBelow : List ℕ → List ℕ → Mapping → ℕ → Type 0
HasBoundBelow old columns m from = (at : ℕ) → list_any (nat_eq at) columns ≡ (list_any (nat_eq at) old || (nat_lt at from && binds at m))

pub bound_none : (columns : List ℕ) (m : Mapping) → HasBoundBelow columns columns m 0
bound_none columns m at =
    or_none (list_any (nat_eq at) columns)
    ∙ ap (λ b. list_any (nat_eq at) columns || (b && binds at m)) (sym (le-ltb at 0 (omega arith)))

one_more : (o l k e b : Bool) → ((l && b) || e) ≡ (k && b) → ((o || (l && b)) || (e || false)) ≡ (o || (k && b))
one_more true l k e b h = refl
one_more false l k e b h = ap (λ x. (l && b) || x) (sym (or_none e)) ∙ h

told : (l k e b lv kv ev bv : Bool) → l ≡ lv → k ≡ kv → e ≡ ev → b ≡ bv → ((lv && bv) || ev) ≡ (kv && bv) → ((l && b) || e) ≡ (k && b)
told l k e b lv kv ev bv p q r s h = cc

unbound_at : (m : Mapping) (at : ℕ) → value_at m at ≡ None → binds at m ≡ false
unbound_at m at e = ap is_some e

pub bound_next : (old columns new : List ℕ) (m : Mapping) (from c : ℕ) → HasBoundBelow old columns m from → IsFirstFrom m from c → new ≡ columns ++ c ∷ [] →
    HasBoundBelow old new m (c + 1)
bound_next old columns new m from c h first e at =
    ap (list_any (nat_eq at)) e ∙ list_any-append (nat_eq at) columns (c ∷ []) ∙ ap (λ b. b || (nat_eq at c || false)) (h at)
    ∙ one_more (list_any (nat_eq at) old) (nat_lt at from) (nat_lt at (c + 1)) (nat_eq at c) (binds at m) by_place
  where
    by_place : ((nat_lt at from && binds at m) || nat_eq at c) ≡ (nat_lt at (c + 1) && binds at m)
    by_place = elim (cases_lt at from) [
      | inl l ↦
          told (nat_lt at from) (nat_lt at (c + 1)) (nat_eq at c) (binds at m) true true false (binds at m) (lt-ltb at from l)
          (lt-ltb at (c + 1) (omega (arith, l, first.after))) (ne_eqb at c (omega (arith, l, first.after))) refl (sym (or_none (binds at m)))
      | inr l ↦ elim (cases_order at c) [
        | inl is ↦
            told (nat_lt at from) (nat_lt at (c + 1)) (nat_eq at c) (binds at m) false true true true (le-ltb at from l)
            (lt-ltb at (c + 1) (omega (arith, is))) (eq-eqb at c is) (subst (λ n. binds n m ≡ true) (sym is) first.bound) refl
        | inr (inl less) ↦
            told (nat_lt at from) (nat_lt at (c + 1)) (nat_eq at c) (binds at m) false true false false (le-ltb at from l)
            (lt-ltb at (c + 1) (omega (arith, less))) (ne_eqb at c (omega (arith, less))) (unbound_at m at (first.none_between at l less)) refl
        | inr (inr more) ↦
            told (nat_lt at from) (nat_lt at (c + 1)) (nat_eq at c) (binds at m) false false false (binds at m) (le-ltb at from l)
            (le-ltb at (c + 1) (omega (arith, more))) (ne_eqb at c (omega (arith, more))) refl refl
      ]
    ]

pub bound_all : (old columns : List ℕ) (m : Mapping) (from : ℕ) → HasBoundBelow old columns m from → IsNextBound m from None →
    (at : ℕ) → list_any (nat_eq at) columns ≡ (list_any (nat_eq at) old || binds at m)
bound_all old columns m from h none at = h at ∙ ap (λ b. list_any (nat_eq at) old || b) by_place
  where
    by_place : (nat_lt at from && binds at m) ≡ binds at m
    by_place = elim (cases_lt at from) [
      | inl l ↦ ap (λ t. t && binds at m) (lt-ltb at from l)
      | inr l ↦
          let no : binds at m ≡ false = unbound_at m at (none at l) in
          ap (λ b. nat_lt at from && b) no ∙ and_none (nat_lt at from) ∙ sym no
    ]

-- no column is bound behind the last one
pub none_past : (m : Mapping) (from : ℕ) → length m ≤ from → IsNextBound m from None
none_past m from le i l = get_or_past m i None (omega (arith, le, l))

-- those below this one that the mapping binds are among these
abbrev pub AreSeenBelow : Mapping → List ℕ → ℕ → Type 0
AreSeenBelow m columns from = (at : ℕ) → at < from → binds at m ≡ true → list_any (nat_eq at) columns ≡ true

pub seen_next : (m : Mapping) (columns : List ℕ) (from c i : ℕ) → AreSeenBelow m columns from → IsFirstFrom m from c → i < length columns → c ≡ get_or columns i 0 →
    AreSeenBelow m columns (c + 1)
seen_next m columns from c i h first lt here at l e = elim (cases_lt at from) [
  | inl less ↦ h at less e
  | inr more ↦ elim (cases_lt at c) [
    | inl before ↦ absurd (true≢false (sym e ∙ unbound_at m at (first.none_between at more before)))
    | inr behind ↦
        let is : at ≡ c = omega (arith, l, behind) in
        list_any_at (nat_eq at) columns i 0 lt (eq-eqb at (get_or columns i 0) (is ∙ here))
  ]
]

pub seen_all : (m : Mapping) (columns : List ℕ) (from : ℕ) → AreSeenBelow m columns from → IsNextBound m from None → (at : ℕ) → binds at m ≡ true →
    list_any (nat_eq at) columns ≡ true
seen_all m columns from h none at e = elim (cases_lt at from) [
  | inl less ↦ h at less e
  | inr more ↦ absurd (true≢false (sym e ∙ unbound_at m at (none at more)))
]

pub seen_last : (m : Mapping) (columns : List ℕ) (from : ℕ) (next : Option ℕ) (b : Bool) → AreSeenBelow m columns from → IsNextBound m from next → is_some next ≡ not b →
    b ≡ true → (at : ℕ) → binds at m ≡ true → list_any (nat_eq at) columns ≡ true
seen_last m columns from (Some c) b h none eb t at e = absurd (true≢false (eb ∙ ap not t))
seen_last m columns from None b h none eb t at e = seen_all m columns from h none at e

-- ---- the columns that one of some mappings binds

abbrev pub AreBoundIn : List ℕ → List Mapping → Type 0
AreBoundIn columns rows = (at : ℕ) → list_any (nat_eq at) columns ≡ list_any (binds at) rows

pub row_bound : (rows : List (Bor Mapping)) (i : ℕ) (x : Bor Mapping) (columns new : List ℕ) → i < length rows → x ≡ get_or rows i x →
    AreBoundIn columns (rows_of (take i rows)) → ((at : ℕ) → list_any (nat_eq at) new ≡ (list_any (nat_eq at) columns || binds at x.now)) →
    AreBoundIn new (rows_of (take (i + 1) rows))
row_bound rows i x columns new lt here h e at =
    let more : rows_of (take (i + 1) rows) ≡ rows_of (take i rows) ++ x.now ∷ [] =
    ap rows_of (take_more rows i x lt ∙ ap (λ (y : Bor Mapping). take i rows ++ y ∷ []) (sym here)) ∙ map-append (λ (r : Bor Mapping). r.now) (take i rows) (x ∷ []) in
    e at ∙ ap (λ b. b || binds at x.now) (h at)
    ∙ ap (λ b. list_any (binds at) (rows_of (take i rows)) || b) (or_none (binds at x.now))
    ∙ sym (list_any-append (binds at) (rows_of (take i rows)) (x.now ∷ [])) ∙ sym (ap (list_any (binds at)) more)

had : (a b : Bool) → (b ≡ true → a ≡ true) → a ≡ (a || b)
had true b h = refl
had false true h = h refl
had false false h = refl

pub row_seen : (rows : List (Bor Mapping)) (i : ℕ) (x : Bor Mapping) (columns slice : List ℕ) → i < length rows → x ≡ get_or rows i x → slice ≡ columns →
    AreBoundIn columns (rows_of (take i rows)) → ((at : ℕ) → binds at x.now ≡ true → list_any (nat_eq at) slice ≡ true) →
    AreBoundIn columns (rows_of (take (i + 1) rows))
row_seen rows i x columns slice lt here es h seen =
    row_bound rows i x columns columns lt here h
    (λ at. had (list_any (nat_eq at) columns) (binds at x.now) (λ e. ap (λ (l : List ℕ). list_any (nat_eq at) l) (sym es) ∙ seen at e))

pub rows_bound : (rows : List (Bor Mapping)) (i : ℕ) (columns sorted out : List ℕ) → length rows ≤ i → AreBoundIn columns (rows_of (take i rows)) →
    IsPermutation columns sorted → out ≡ dedup nat_eq sorted → AreBoundIn out (rows_of rows)
rows_bound rows i columns sorted out le h moved e at =
    any_once (nat_eq at) columns sorted out moved e ∙ h at ∙ ap (λ (ys : List (Bor Mapping)). list_any (binds at) (rows_of ys)) (take_all i rows le)
