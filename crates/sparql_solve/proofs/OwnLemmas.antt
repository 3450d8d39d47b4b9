-- The columns of triple patterns, found by going over these.
use Rattle.std.proofs.Common.{◌≡◌, ℕ, ◌+◌, ◌<◌, zero, suc, Bool, true, false, not, ◌&&◌, ◌||◌, List, [], ◌∷◌, Option, Some, None, is_some, is_none, refl, sym, ap, ◌∙◌, length, take, get_or, replicate, arith, nat_eq, nat_lt}
use Rattle.std.specs.List.{list_any}
use Rattle.std.proofs.Math.Dec.{eqb-zero-suc, eqb-suc-zero, eqb-suc-suc, leb-zero, leb-suc-zero, leb-suc-suc}
use Rattle.rdf_terms.specs.declared.term.Term.{Term}
use Rattle.sparql_values.specs.Mapping.{Variables, Mapping, empty_mapping, value_at}
use Rattle.sparql_solve.specs.declared.look_ups.LookUp.{LookUp}
use Rattle.sparql_solve.specs.declared.place.Place.{Place}
use Rattle.sparql_solve.specs.declared.place.Place.TheVariants.{Fixed, Column, Nowhere}
use Rattle.sparql_solve.specs.declared.place.Places.{Places}
use Rattle.sparql_solve.specs.Matching.{has_column, is_place_at}
use Rattle.sparql_solve.specs.Own.{is_bound_at, is_bound_in}
use Rattle.sparql_solve.specs.Under.{binds_none, flags_where, masked, own_columns, shown}
use Rattle.sparql_algebra.proofs.CallerLemmas.{and_false}

pub flags_same : (p q : ℕ → Bool) → ((c : ℕ) → p c ≡ q c) → (n : ℕ) → flags_where p n ≡ flags_where q n
flags_same p q e zero = refl
flags_same p q e (suc n) =
    ap (λ b. b ∷ flags_where (λ c. p (suc c)) n) (e zero) ∙ ap (λ (l : List Bool). q zero ∷ l) (flags_same (λ c. p (suc c)) (λ c. q (suc c)) (λ c. e (suc c)) n)

or_swap : (a b c : Bool) → (a || (b || c)) ≡ (b || (a || c))
or_swap true true c = refl
or_swap true false c = refl
or_swap false b c = refl

pub any_take : {X : Type 0} (q : X → Bool) (xs : List X) (i : ℕ) (x : X) → i < length xs → x ≡ get_or xs i x →
    (q x || list_any q (take i xs)) ≡ list_any q (take (suc i) xs)
any_take q [] i x lt e = absurd (omega arith)
any_take q (y ∷ ys) zero x lt e = ap (λ z. q z || false) e
any_take q (y ∷ ys) (suc i) x lt e =
    or_swap (q x) (q y) (list_any q (take i ys)) ∙ ap (λ b. q y || b) (any_take q ys i x (omega arith) e)

-- ---- what a mapping binds of them

none_shown : (n : ℕ) (m : Mapping) → binds_none (masked (flags_where (λ _. false) n) m) ≡ true
none_shown zero [] = refl
none_shown zero (x ∷ m) = refl
none_shown (suc n) [] = refl
none_shown (suc n) (x ∷ m) = none_shown n m

and_both : (t r s : Bool) → (t && (r && s)) ≡ ((t && r) && (t && s))
and_both true r s = refl
and_both false r s = refl

and_first : (t r s : Bool) → (t && (r && s)) ≡ ((t && r) && s)
and_first true r s = refl
and_first false r s = refl

and_turn : (t r s : Bool) → (t && (r && s)) ≡ (r && (t && s))
and_turn true r s = refl
and_turn false true s = refl
and_turn false false s = refl

or_shown : (x : Option Term) (a b r s : Bool) →
    (is_none (shown (x, a || b)) && (r && s)) ≡ ((is_none (shown (x, a)) && r) && (is_none (shown (x, b)) && s))
or_shown x true true r s = and_both (is_none x) r s
or_shown x true false r s = and_first (is_none x) r s
or_shown x false true r s = and_turn (is_none x) r s
or_shown x false false r s = refl

both_shown : (f g : ℕ → Bool) (n : ℕ) (m : Mapping) → binds_none (masked (flags_where (λ c. f c || g c) n) m)
    ≡ (binds_none (masked (flags_where f n) m) && binds_none (masked (flags_where g n) m))
both_shown f g zero [] = refl
both_shown f g zero (x ∷ m) = refl
both_shown f g (suc n) [] = refl
both_shown f g (suc n) (x ∷ m) =
    ap (λ b. is_none (shown (x, f zero || g zero)) && b) (both_shown (λ c. f (suc c)) (λ c. g (suc c)) n m)
    ∙ or_shown x (f zero) (g zero) (binds_none (masked (flags_where (λ c. f (suc c)) n) m)) (binds_none (masked (flags_where (λ c. g (suc c)) n) m))

below_none : (c : ℕ) (b : Bool) → not (nat_lt c zero && b) ≡ true
below_none c b = ap (λ t. not (t && b)) (leb-suc-zero c)

past_end : (c n : ℕ) → not (nat_lt c n && is_some (value_at [] c)) ≡ true
past_end zero n = ap not (and_false (nat_lt zero n))
past_end (suc c) n = ap not (and_false (nat_lt (suc c) n))

not_either : (x : Option Term) → (is_none x && true) ≡ not (true && is_some x)
not_either (Some t) = refl
not_either None = refl

one_column : (n : ℕ) (m : Mapping) (c : ℕ) →
    binds_none (masked (flags_where (λ at. nat_eq at c) n) m) ≡ not (nat_lt c n && is_some (value_at m c))
one_column zero [] c = sym (below_none c (is_some (value_at [] c)))
one_column zero (x ∷ m) c = sym (below_none c (is_some (value_at (x ∷ m) c)))
one_column (suc n) [] c = sym (past_end c (suc n))
one_column (suc n) (x ∷ m) zero =
    ap (λ b. is_none x && b)
    (ap (λ (l : List Bool). binds_none (masked l m)) (flags_same (λ at. nat_eq (suc at) zero) (λ _. false) (λ at. eqb-suc-zero at) n) ∙ none_shown n m)
    ∙ not_either x
    ∙ ap (λ t. not (t && is_some x)) (sym (leb-suc-suc zero n ∙ leb-zero n))
one_column (suc n) (x ∷ m) (suc c) =
    ap (λ b. is_none (shown (x, b)) && binds_none (masked (flags_where (λ at. nat_eq (suc at) (suc c)) n) m)) (eqb-zero-suc c)
    ∙ ap (λ (l : List Bool). binds_none (masked l m)) (flags_same (λ at. nat_eq (suc at) (suc c)) (λ at. nat_eq at c) (λ at. eqb-suc-suc at c) n)
    ∙ one_column n m c
    ∙ ap (λ t. not (t && is_some (value_at m c))) (sym (leb-suc-suc (suc c) n))

one_place : (n : ℕ) (m : Mapping) (p : Place) → binds_none (masked (flags_where (λ at. is_place_at at p) n) m) ≡ not (is_bound_at n m p)
one_place n m (Fixed t) = none_shown n m
one_place n m (Column c) = one_column n m c
one_place n m Nowhere = none_shown n m

not_both : (a b : Bool) → (not a && not b) ≡ not (a || b)
not_both true b = refl
not_both false b = refl

one_pattern : (n : ℕ) (m : Mapping) (p : Places) → binds_none (masked (flags_where (λ at. has_column at p) n) m) ≡ not (is_bound_in n m p)
one_pattern n m p =
    both_shown (λ at. is_place_at at p.subject) (λ at. is_place_at at p.predicate || is_place_at at p.object) n m
    ∙ ap (λ b. binds_none (masked (flags_where (λ at. is_place_at at p.subject) n) m) && b)
    (both_shown (λ at. is_place_at at p.predicate) (λ at. is_place_at at p.object) n m)
    ∙ ap (λ b. b && (binds_none (masked (flags_where (λ at. is_place_at at p.predicate) n) m) && binds_none (masked (flags_where (λ at. is_place_at at p.object) n) m)))
    (one_place n m p.subject)
    ∙ ap (λ b. not (is_bound_at n m p.subject) && (b && binds_none (masked (flags_where (λ at. is_place_at at p.object) n) m))) (one_place n m p.predicate)
    ∙ ap (λ b. not (is_bound_at n m p.subject) && (not (is_bound_at n m p.predicate) && b)) (one_place n m p.object)
    ∙ ap (λ b. not (is_bound_at n m p.subject) && b) (not_both (is_bound_at n m p.predicate) (is_bound_at n m p.object))
    ∙ not_both (is_bound_at n m p.subject) (is_bound_at n m p.predicate || is_bound_at n m p.object)

pub unbound_in : (n : ℕ) (m : Mapping) (ps : List Places) →
    not (list_any (is_bound_in n m) ps) ≡ binds_none (masked (flags_where (λ at. list_any (has_column at) ps) n) m)
unbound_in n m [] = sym (none_shown n m)
unbound_in n m (p ∷ ps) =
    sym (both_shown (λ at. has_column at p) (λ at. list_any (has_column at) ps) n m
    ∙ ap (λ b. b && binds_none (masked (flags_where (λ at. list_any (has_column at) ps) n) m)) (one_pattern n m p)
    ∙ ap (λ b. not (is_bound_in n m p) && b) (sym (unbound_in n m ps))
    ∙ not_both (is_bound_in n m p) (list_any (is_bound_in n m) ps))

-- ---- look-ups

pub own_is : (vs : Variables) (l : LookUp) (n : ℕ) (ps : List Places) → n ≡ length vs → ps ≡ l.places →
    flags_where (λ at. list_any (has_column at) ps) n ≡ own_columns vs l
own_is vs l n ps en ep =
    ap (λ k. flags_where (λ at. list_any (has_column at) ps) k) en ∙ ap (λ (qs : List Places). flags_where (λ at. list_any (has_column at) qs) (length vs)) ep

pub unbound_of : (vs : Variables) (l : LookUp) (m : Mapping) (n : ℕ) (ps : List Places) → n ≡ length vs → ps ≡ l.places →
    not (list_any (is_bound_in n m) ps) ≡ binds_none (masked (own_columns vs l) m)
unbound_of vs l m n ps en ep = unbound_in n m ps ∙ ap (λ (flags : List Bool). binds_none (masked flags m)) (own_is vs l n ps en ep)

-- ---- the mapping that binds nothing

pub nothing_is : (vs : Variables) (m : Mapping) → m ≡ empty_mapping vs → m ≡ replicate (length vs + 0) None
nothing_is vs m h = let e : length vs ≡ length vs + 0 = omega arith in h ∙ ap (λ n. replicate n None) e
