-- Flags that are up at some columns, and what a mapping shows there.
use Rattle.std.proofs.Common.{◌≡◌, ℕ, ◌+◌, ◌<◌, ◌≤◌, zero, suc, Bool, true, false, ◌||◌, List, [], ◌∷◌, Option, Some, None, refl, sym, ap, ◌∙◌, length, take, get_or, min, replicate, arith, nat_eq, add-one}
use Rattle.std.specs.List.{dedup, list_any}
use Rattle.std.specs.List.Sorted.{IsPermutation}
use Rattle.std.proofs.Math.Dec.{eqb-zero-suc, eqb-suc-zero, eqb-suc-suc}
use Rattle.std.proofs.lemmas.List.{take_all}
use Rattle.rdf_terms.specs.declared.term.Term.{Term}
use Rattle.sparql_values.specs.Mapping.{Mapping, value_at}
use Rattle.sparql_solve.specs.Flags.{raised}
use Rattle.sparql_solve.specs.Matching.{has_column}
use Rattle.sparql_solve.specs.Pairs.{with_value}
use Rattle.sparql_solve.specs.Under.{flags_where, masked, shown}
use Rattle.sparql_solve.specs.declared.place.Places.{Places}
use Rattle.sparql_solve.proofs.BoundColumnLemmas.{any_once}
use Rattle.sparql_solve.proofs.OwnLemmas.{any_take, flags_same}

pub length_flags : (t : ℕ → Bool) (n : ℕ) → length (flags_where t n) ≡ n
length_flags t zero = refl
length_flags t (suc n) = omega (arith, length_flags (λ at. t (suc at)) n)

pub flags_same_below : (p q : ℕ → Bool) (n : ℕ) → ((c : ℕ) → c < n → p c ≡ q c) → flags_where p n ≡ flags_where q n
flags_same_below p q zero e = refl
flags_same_below p q (suc n) e =
    ap (λ b. b ∷ flags_where (λ c. p (suc c)) n) (e zero (omega arith))
    ∙ ap (λ (l : List Bool). q zero ∷ l) (flags_same_below (λ c. p (suc c)) (λ c. q (suc c)) n (λ c l. e (suc c) (omega (arith, l))))

-- ---- the columns of places

pub own_all : (ps : List Places) (i n : ℕ) (cs : List ℕ) → length ps ≤ i → ((at : ℕ) → at < n → list_any (nat_eq at) cs ≡ list_any (has_column at) (take i ps)) →
    raised false cs n ≡ flags_where (λ at. list_any (has_column at) ps) n
own_all ps i n cs ge same =
    flags_same_below (λ at. list_any (nat_eq at) cs) (λ at. list_any (has_column at) ps) n
    (λ at l. same at l ∙ ap (λ (qs : List Places). list_any (has_column at) qs) (take_all i ps ge))

-- ---- masks

shown_none : (b : Bool) → None ≡ shown (None, b)
shown_none true = refl
shown_none false = refl

with_value_later : (x : Option Term) (m : Mapping) (c : ℕ) (v : Option Term) → with_value (x ∷ m) (suc c) v ≡ x ∷ with_value m c v
with_value_later x m c (Some t) = refl
with_value_later x m c None = refl

-- what stands at one column more
mask_more : (t : ℕ → Bool) (n c : ℕ) (m : Mapping) → with_value (masked (flags_where t n) m) c (value_at m c) ≡ masked (flags_where (λ at. nat_eq at c || t at) n) m
mask_more t zero c [] = refl
mask_more t zero c (x ∷ m) = nowhere (value_at (x ∷ m) c)
  where
    nowhere : (v : Option Term) → with_value [] c v ≡ []
    nowhere (Some u) = refl
    nowhere None = refl
mask_more t (suc n) c [] = refl
mask_more t (suc n) zero (x ∷ m) =
    first x
    ∙ ap (λ (l : List Bool). shown (x, true) ∷ masked l m)
    (flags_same (λ at. t (suc at)) (λ at. nat_eq (suc at) zero || t (suc at)) (λ at. ap (λ b. b || t (suc at)) (sym (eqb-suc-zero at))) n)
  where
    first : (y : Option Term) → with_value (shown (y, t zero) ∷ masked (flags_where (λ at. t (suc at)) n) m) zero y ≡ shown (y, true) ∷ masked (flags_where (λ at. t (suc at)) n) m
    first (Some u) = refl
    first None = ap (λ (v : Option Term). v ∷ masked (flags_where (λ at. t (suc at)) n) m) (sym (shown_none (t zero)))
mask_more t (suc n) (suc c) (x ∷ m) =
    with_value_later (shown (x, t zero)) (masked (flags_where (λ at. t (suc at)) n) m) c (value_at m c)
    ∙ ap (λ (ms : Mapping). shown (x, t zero) ∷ ms)
    (mask_more (λ at. t (suc at)) n c m
    ∙ ap (λ (l : List Bool). masked l m) (flags_same (λ at. nat_eq at c || t (suc at)) (λ at. nat_eq (suc at) (suc c) || t (suc at)) (λ at. ap (λ b. b || t (suc at)) (sym (eqb-suc-suc at c))) n))
    ∙ ap (λ b. shown (x, b || t zero) ∷ masked (flags_where (λ at. nat_eq (suc at) (suc c) || t (suc at)) n) m) (sym (eqb-zero-suc c))

nothing_masked : (n : ℕ) (m : Mapping) (k : ℕ) → k ≡ min (length m) n → replicate k None ≡ masked (flags_where (λ at. false) n) m
nothing_masked zero [] zero e = refl
nothing_masked zero [] (suc k) e = absurd (omega (arith, e))
nothing_masked zero (x ∷ m) zero e = refl
nothing_masked zero (x ∷ m) (suc k) e = absurd (omega (arith, e))
nothing_masked (suc n) [] zero e = refl
nothing_masked (suc n) [] (suc k) e = absurd (omega (arith, e))
nothing_masked (suc n) (x ∷ m) zero e = absurd (omega (arith, e))
nothing_masked (suc n) (x ∷ m) (suc k) e = ap (λ (ms : Mapping). None ∷ ms) (nothing_masked n m k (omega (arith, e)))

pub masked_first : (cs : List ℕ) (n k : ℕ) (m out : Mapping) → k ≡ min (length m) n → out ≡ replicate k None → out ≡ masked (raised false (take zero cs) n) m
masked_first cs n k m out ek e = e ∙ nothing_masked n m k ek

pub masked_further : (cs : List ℕ) (i n c : ℕ) (m out new : Mapping) → i < length cs → c ≡ get_or cs i c → out ≡ masked (raised false (take i cs) n) m →
    new ≡ with_value out c (value_at m c) → new ≡ masked (raised false (take (i + 1) cs) n) m
masked_further cs i n c m out new lt here h e =
    e ∙ ap (λ (z : Mapping). with_value z c (value_at m c)) h ∙ mask_more (λ at. list_any (nat_eq at) (take i cs)) n c m
    ∙ ap (λ (l : List Bool). masked l m)
    (flags_same (λ at. nat_eq at c || list_any (nat_eq at) (take i cs)) (λ at. list_any (nat_eq at) (take (i + 1) cs))
    (λ at. any_take (nat_eq at) cs i c lt here ∙ ap (λ k. list_any (nat_eq at) (take k cs)) (sym (add-one i))) n)

-- where all are up
pub masked_all_up : (n : ℕ) (m : Mapping) → take n m ≡ masked (raised true [] n) m
masked_all_up zero [] = refl
masked_all_up zero (x ∷ m) = refl
masked_all_up (suc n) [] = refl
masked_all_up (suc n) (x ∷ m) = ap (λ (ms : Mapping). x ∷ ms) (masked_all_up n m)

pub masked_cut : (flags : List Bool) (m copy out : Mapping) (n : ℕ) → out ≡ take n copy → copy ≡ m → n ≡ length flags → flags ≡ raised true [] (length flags) → out ≡ masked flags m
masked_cut flags m copy out n h e en all =
    h ∙ ap (take n) e ∙ ap (λ k. take k m) en ∙ masked_all_up (length flags) m ∙ ap (λ (l : List Bool). masked l m) (sym all)

-- ---- what flags say of themselves

-- the columns in order and without repeats have the same flags up
pub raised_once : (cs sorted out : List ℕ) (n : ℕ) → IsPermutation cs sorted → out ≡ dedup nat_eq sorted → raised false out n ≡ raised false cs n
raised_once cs sorted out n moved e =
    flags_same (λ at. list_any (nat_eq at) out) (λ at. list_any (nat_eq at) cs) (λ at. any_once (nat_eq at) cs sorted out moved e) n

pub flags_len : (flags : List Bool) (all : Bool) (cs : List ℕ) (n : ℕ) → raised all cs n ≡ flags → n ≡ length flags
flags_len flags all cs n v = sym (length_flags (λ at. all || list_any (nat_eq at) cs) n) ∙ ap length v

pub flags_all : (flags : List Bool) (all : Bool) (cs : List ℕ) (n : ℕ) → raised all cs n ≡ flags → all ≡ true → flags ≡ raised true [] (length flags)
flags_all flags all cs n v e = sym v ∙ ap (λ b. raised b cs n) e ∙ ap (λ k. raised true [] k) (flags_len flags all cs n v)

pub flags_some : (flags : List Bool) (all : Bool) (cs slice : List ℕ) (n : ℕ) → raised all cs n ≡ flags → all ≡ false → slice ≡ cs →
    flags ≡ raised false slice (length flags)
flags_some flags all cs slice n v e es =
    sym v ∙ ap (λ b. raised b cs n) e ∙ ap (λ k. raised false cs k) (flags_len flags all cs n v) ∙ ap (λ (l : List ℕ). raised false l (length flags)) (sym es)
