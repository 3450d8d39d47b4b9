-- What a mapping shows at other columns than its own, each of which has its place among them.
use Rattle.std.proofs.Common.{◌≡◌, ◌≢◌, ℕ, zero, suc, ◌+◌, ◌<◌, inl, inr, true, cond, List, [], ◌∷◌, map, replicate, get_or, length, Option, Some, None, refl, sym, ap, ◌∙◌, subst, arith, nat_lt, is_some, true≢false}
use Rattle.std.proofs.lemmas.Bool.{cases_lt, cases_order, le-ltb, lt-ltb}
use Rattle.std.specs.List.Sorted.{IsStrictlySortedBy}
use Rattle.rdf_terms.specs.Order.{text_cmp}
use Rattle.rdf_terms.specs.declared.term.Term.{Term}
use Rattle.sparql_values.specs.Mapping.{Mapping, Variables, column, value_at, value_in}
use Rattle.sparql_values.specs.NextBound.{IsFirstFrom, IsNextBound}
use Rattle.sparql_values.proofs.CallerLemmas.{column_at, column_is}
use Rattle.sparql_solve.specs.Pairs.{AreTurned, PutsAt, with_value_in}
use Rattle.sparql_solve.proofs.BoundLemmas.{puts_term}

some_is : {m n : ℕ} → Some m ≡ Some n → m ≡ n
some_is h = cc

none_is : {n : ℕ} → None ≡ Some n → ⊥
none_is h = cc

-- ---- columns of names in order

-- what stands at a place of a list of columns
place_at : (vs : Variables) (f : List ℕ → Option ℕ) (i c : ℕ) → get_or (map f vs) i None ≡ Some c → (i < length vs) × (f (get_or vs i []) ≡ Some c)
place_at [] f i c e = absurd (none_is e)
place_at (v ∷ vs) f zero c e = (omega arith, e)
place_at (v ∷ vs) f (suc i) c e = let rest = place_at vs f i c e in (omega (arith, rest.0), rest.1)

at_place : (vs : Variables) (f : List ℕ → Option ℕ) (i : ℕ) → i < length vs → get_or (map f vs) i None ≡ f (get_or vs i [])
at_place [] f i l = absurd (omega (arith, l))
at_place (v ∷ vs) f zero l = refl
at_place (v ∷ vs) f (suc i) l = at_place vs f i (omega (arith, l))

-- where one of these names has its column among those, that one has its place among these
turned_once : (vs ws : Variables) (i c : ℕ) → IsStrictlySortedBy text_cmp vs → get_or (map (column ws) vs) i None ≡ Some c → get_or (map (column vs) ws) c None ≡ Some i
turned_once vs ws i c s e =
    let here = place_at vs (column ws) i c e in
    let there = column_is ws (get_or vs i []) [] c here.1 in
    at_place ws (column vs) c there.0 ∙ ap (column vs) there.1 ∙ column_at vs i [] s here.0

pub columns_turned : (names vs : Variables) (columns cs places ps : List (Option ℕ)) (ns us : Variables) → IsStrictlySortedBy text_cmp names → IsStrictlySortedBy text_cmp vs →
    ns ≡ names → us ≡ vs → columns ≡ map (column names) us → cs ≡ columns → places ≡ map (column vs) ns → ps ≡ places → AreTurned cs ps
columns_turned names vs columns cs places ps ns us sn sv en eu ec es ep eq = record {
  there = λ c p e. ap (λ (l : List (Option ℕ)). get_or l c None) isp ∙ turned_once vs names p c sv (sym (ap (λ (l : List (Option ℕ)). get_or l p None) isc) ∙ e);
  back = λ c p e. ap (λ (l : List (Option ℕ)). get_or l p None) isc ∙ turned_once names vs c p sn (sym (ap (λ (l : List (Option ℕ)). get_or l c None) isp) ∙ e);
}
  where
    isc : cs ≡ map (column names) vs
    isc = es ∙ ec ∙ ap (λ (l : Variables). map (column names) l) eu

    isp : ps ≡ map (column vs) names
    isp = eq ∙ ep ∙ ap (λ (l : Variables). map (column vs) l) en

-- ---- what is shown so far

-- what a mapping has at a column below this one
abbrev pub seen : Mapping → ℕ → Option ℕ → Option Term
seen m from (Some c) = cond (nat_lt c from) (value_at m c) None
seen m from None = None

pub record IsShownBelow (columns : List (Option ℕ)) (m out : Mapping) (from : ℕ) : Type 0 where
  pub len : length out ≡ length columns
  pub here : (i : ℕ) → i < length out → value_at out i ≡ seen m from (get_or columns i None)

value_of_none : (n i : ℕ) → value_at (replicate n None) i ≡ None
value_of_none zero i = refl
value_of_none (suc n) zero = refl
value_of_none (suc n) (suc i) = value_of_none n i

length_nones : (n : ℕ) → length {A = Option Term} (replicate n None) ≡ n
length_nones zero = refl
length_nones (suc n) = omega (arith, length_nones n)

seen_none : (m : Mapping) (o : Option ℕ) → None ≡ seen m zero o
seen_none m (Some c) = sym (ap (λ t. cond t (value_at m c) None) (le-ltb c zero (omega arith)))
seen_none m None = refl

pub shown_none : (columns : List (Option ℕ)) (m out : Mapping) (n : ℕ) → out ≡ replicate n None → n ≡ length columns → IsShownBelow columns m out 0
shown_none columns m out n e en = record {
  len = ap length e ∙ length_nones n ∙ en;
  here = λ i l. ap (λ (z : Mapping). value_at z i) e ∙ value_of_none n i ∙ seen_none m (get_or columns i None);
}

-- a column that isn't the next one shows the same as before
seen_further : (m : Mapping) (from c : ℕ) (o : Option ℕ) → IsFirstFrom m from c → (o ≡ Some c → ⊥) → seen m from o ≡ seen m (c + 1) o
seen_further m from c None first ne = refl
seen_further m from c (Some k) first ne = elim (cases_lt k from) [
  | inl l ↦
      ap (λ t. cond t (value_at m k) None) (lt-ltb k from l)
      ∙ sym (ap (λ t. cond t (value_at m k) None) (lt-ltb k (c + 1) (omega (arith, l, first.after))))
  | inr l ↦
      ap (λ t. cond t (value_at m k) None) (le-ltb k from l)
      ∙ elim (cases_order k c) [
        | inl is ↦ absurd (ne (ap Some is))
        | inr (inl less) ↦
            sym (ap (λ t. cond t (value_at m k) None) (lt-ltb k (c + 1) (omega (arith, less))) ∙ first.none_between k l less)
        | inr (inr more) ↦ sym (ap (λ t. cond t (value_at m k) None) (le-ltb k (c + 1) (omega (arith, more))))
      ]
]

seen_here : (m : Mapping) (c : ℕ) (o : Option ℕ) → o ≡ Some c → value_at m c ≡ seen m (c + 1) o
seen_here m c o e = sym (ap (seen m (c + 1)) e ∙ ap (λ t. cond t (value_at m c) None) (lt-ltb c (c + 1) (omega arith)))

module _ (columns places : List (Option ℕ)) (turned : AreTurned columns places) (m out new : Mapping) (from c : ℕ) where
  nowhere : IsFirstFrom m from c → IsShownBelow columns m out from → get_or places c None ≡ None → new ≡ out → IsShownBelow columns m new (c + 1)
  nowhere first h missing e = record {
    len = ap length e ∙ h.len;
    here = λ i l.
        ap (λ (z : Mapping). value_at z i) e ∙ h.here i (subst (λ (z : Mapping). i < length z) e l)
        ∙ seen_further m from c (get_or columns i None) first (λ is. none_is (sym missing ∙ turned.there c i is));
  }

  placed : (p : ℕ) → IsFirstFrom m from c → IsShownBelow columns m out from → get_or places c None ≡ Some p → PutsAt out new p (value_at m c) →
      IsShownBelow columns m new (c + 1)
  placed p first h at put = record {
    len = put.len ∙ h.len;
    here = λ i l. elim (cases_order i p) [
      | inl is ↦
          subst (λ k. value_at new k ≡ seen m (c + 1) (get_or columns k None)) (sym is)
          (put.here (omega (arith, l, is, put.len)) ∙ seen_here m c (get_or columns p None) (turned.back c p at))
      | inr other ↦
          let ne : i ≢ p = λ is. elim other [ inl less ↦ omega (arith, less, is) | inr more ↦ omega (arith, more, is) ] in
          put.others i ne ∙ h.here i (omega (arith, l, put.len))
          ∙ seen_further m from c (get_or columns i None) first (λ is. ne (some_is (sym (turned.there c i is) ∙ at)))
    ];
  }

  put_at : (o : Option ℕ) (v : Option Term) → IsFirstFrom m from c → IsShownBelow columns m out from → get_or places c None ≡ o → value_at m c ≡ v →
      new ≡ with_value_in out o v → IsShownBelow columns m new (c + 1)
  put_at None v first h eo ev e = nowhere first h eo e
  put_at (Some p) (Some t) first h eo ev e =
      placed p first h eo (subst (λ (x : Option Term). PutsAt out new p x) (sym ev) (puts_term out new p (Some t) e))
  put_at (Some p) None first h eo ev e = absurd (nothing ev first.bound)
    where
      nothing : value_at m c ≡ None → is_some (value_at m c) ≡ true → ⊥
      nothing q b = true≢false (sym b ∙ ap is_some q)

pub shown_next : (columns places : List (Option ℕ)) (m out new : Mapping) (from c : ℕ) (o : Option ℕ) (v : Option Term) → AreTurned columns places → IsFirstFrom m from c →
    IsShownBelow columns m out from → o ≡ get_or places c None → v ≡ value_at m c → new ≡ with_value_in out o v → IsShownBelow columns m new (c + 1)
shown_next columns places m out new from c o v turned first h eo ev e = put_at columns places turned m out new from c o v first h (sym eo) (sym ev) e

-- ---- all of it

shown_is : (columns : List (Option ℕ)) (m out : Mapping) → length out ≡ length columns →
    ((i : ℕ) → i < length out → value_at out i ≡ value_in m (get_or columns i None)) → out ≡ map (value_in m) columns
shown_is [] m [] e h = refl
shown_is [] m (x ∷ out) e h = absurd (omega (arith, e))
shown_is (c ∷ columns) m [] e h = absurd (omega (arith, e))
shown_is (c ∷ columns) m (x ∷ out) e h =
    ap (λ (v : Option Term). v ∷ out) (h zero (omega arith))
    ∙ ap (λ (vs : Mapping). value_in m c ∷ vs) (shown_is columns m out (omega (arith, e)) (λ i l. h (suc i) (omega (arith, l))))

pub shown_all : (columns : List (Option ℕ)) (m out : Mapping) (from : ℕ) → IsShownBelow columns m out from → IsNextBound m from None → out ≡ map (value_in m) columns
shown_all columns m out from h none = shown_is columns m out h.len (λ i l. h.here i l ∙ whole (get_or columns i None))
  where
    whole : (o : Option ℕ) → seen m from o ≡ value_in m o
    whole None = refl
    whole (Some c) = elim (cases_lt c from) [
      | inl l ↦ ap (λ t. cond t (value_at m c) None) (lt-ltb c from l)
      | inr l ↦ ap (λ t. cond t (value_at m c) None) (le-ltb c from l) ∙ sym (none c l)
    ]
