-- Runs: what is found by the keys that are ahead.
use Rattle.std.proofs.Common.{◌≡◌, ℕ, suc, ◌+◌, ◌≤◌, true, false, cond, ◌||◌, List, [], ◌∷◌, ◌++◌, map, length, refl, sym, ap, subst, ◌∙◌, arith, append_assoc, append-nil, inl, inr, IsTrue, ◌↔◌, Bool}
use Rattle.std.specs.Prelude.{Option, Some, None, eqb}
use Rattle.std.specs.List.{starts_with}
use Rattle.std.specs.declared.cmp.Ordering.{Ordering}
use Rattle.std.specs.Cmp.{IsTotalOrder}
use Rattle.std.specs.FinSet as set
use Rattle.std.specs.FinSet.{IsAntisymmetric, len-empty, len-insert}
use Rattle.rdf_orders.specs.declared.order.Order.{Order}
use Rattle.rdf_orders.specs.declared.order.Order.TheVariants.{Spo}
use Rattle.rdf_orders.specs.Quads.{IdQuad, IdQuads, id_quad_cmp, key_in, quad_at}
use Rattle.rdf_orders.specs.Runs.{BeginsWith, AppendsKeysOnce, AppendsSomeKeys, raised_by}
use Rattle.rdf_orders.specs.Inside.Ahead.{AreKeysAhead}
use Rattle.rdf_orders.specs.Inside.Run.{run_of}
use Rattle.rdf_orders.proofs.AheadLemmas.{first_is_next, none_ahead, none_behind_run, behind_next, goes_on_behind}
use Rattle.rdf_orders.proofs.KeyLemmas.{id_quad_cmp_total, id_quad_cmp-IsAntisymmetric}
use Rattle.rdf_orders.proofs.LookUpLemmas.{IsProgress, progress_start, progress_push, progress_found}
use Rattle.rdf_orders.proofs.NextLemmas.{begins_from, not_begins_from}
use Rattle.rdf_orders.proofs.SetLemmas.{contains_joined}
use Rattle.rdf_orders.proofs.TestLemmas.{cases, either_first}

pub run_first : (order : Order) (prefix k : List ℕ) (t : List (List ℕ)) → starts_with eqb k prefix ≡ true → run_of order prefix (k ∷ t) ≡ key_in Spo (quad_at order k) ∷ run_of order prefix t
run_first order prefix k t e = ap (λ (b : Bool). cond {A = List (List ℕ)} b (key_in Spo (quad_at order k) ∷ run_of order prefix t) []) e

pub run_ends : (order : Order) (prefix k : List ℕ) (t : List (List ℕ)) → starts_with eqb k prefix ≡ false → run_of order prefix (k ∷ t) ≡ []
run_ends order prefix k t e = ap (λ (b : Bool). cond {A = List (List ℕ)} b (key_in Spo (quad_at order k) ∷ run_of order prefix t) []) e

module _ (quads : IdQuads) (order : Order) (prefix : List ℕ) (test : IdQuad → Bool) (just : (q : IdQuad) → BeginsWith prefix (key_in order q) ↔ IsTrue (test q)) where
  abbrev Found : List (List ℕ) → Type 0
  Found keys = AppendsKeysOnce (set.retain quads test) [] keys

  -- what was found so far, and the run of the keys ahead
  found_ahead : (keys : List (List ℕ)) (after : Option (List ℕ)) (now : List (List ℕ)) (to : ℕ) → IsProgress quads test order after [] now 0 to → AreKeysAhead quads order prefix after keys
      → Found (now ++ run_of order prefix keys)
  found_ahead [] after now to p a =
      subst Found (sym (append-nil now)) (progress_found quads order prefix test just [] 0 after now to p (none_ahead quads order prefix after a))
  found_ahead (k ∷ t) after now to p a = elim (cases (starts_with eqb k prefix)) [
    | inl it ↦
        let begins : BeginsWith prefix k = begins_from prefix k _ refl it in
        let next = first_is_next quads order prefix after k t a begins in
        let on = goes_on_behind quads order prefix k t begins (behind_next quads order prefix after k t a) in
        let here : List ℕ = key_in Spo (quad_at order k) in
        let more = progress_push quads order prefix test just [] 0 after k here now (now ++ here ∷ []) to (raised_by 1 to) p next refl refl refl in
        subst Found (append_assoc now (here ∷ []) (run_of order prefix t) ∙ ap (λ (x : List (List ℕ)). now ++ x) (sym (run_first order prefix k t it)))
        (found_ahead t (Some k) (now ++ here ∷ []) (raised_by 1 to) more on)
    | inr isn ↦
        subst Found (sym (ap (λ (x : List (List ℕ)). now ++ x) (run_ends order prefix k t isn) ∙ append-nil now))
        (progress_found quads order prefix test just [] 0 after now to p (none_behind_run quads order prefix after k t a (not_begins_from prefix k _ refl isn)))
  ]

  pub run_found : (keys : List (List ℕ)) → AreKeysAhead quads order prefix None keys → AppendsKeysOnce (set.retain quads test) [] (run_of order prefix keys)
  run_found keys a = found_ahead keys None [] 0 (progress_start quads order prefix test just [] 0) a

-- ---- the front of a run

neither_first : (a b : Bool) → (a || b) ≡ false → a ≡ false
neither_first true b e = e
neither_first false b e = refl

one_more : (b : Bool) (m n : ℕ) → m ≤ n → cond {A = ℕ} b m (m + 1) ≤ suc n
one_more true m n h = omega arith
one_more false m n h = omega arith

module _ {K : Type 0} {R : K → K → Ordering} (o : IsTotalOrder R) (apart : IsAntisymmetric R) where
  abbrev of : List K → set.FinSet R
  of xs = set.from_list xs

  no_more : (xs : List K) → set.len (of xs) ≤ length xs
  no_more [] = let none = len-empty R in omega arith
  no_more (x ∷ xs) = let e = len-insert o (of xs) x in let h = one_more (set.contains (of xs) x) (set.len (of xs)) (length xs) (no_more xs) in omega arith

  -- where a list has each item once, so has its front
  front_once : (xs ys : List K) → length (xs ++ ys) ≡ set.len (of (xs ++ ys)) → length xs ≡ set.len (of xs)
  front_once [] ys e = sym (len-empty R)
  front_once (x ∷ xs) ys e = elim (cases (set.contains (of (xs ++ ys)) x)) [
    | inl again ↦
        let same : set.len (of (x ∷ (xs ++ ys))) ≡ set.len (of (xs ++ ys)) = len-insert o (of (xs ++ ys)) x ∙ ap (λ (b : Bool). cond {A = ℕ} b (set.len (of (xs ++ ys))) (set.len (of (xs ++ ys)) + 1)) again in
        let most = no_more (xs ++ ys) in
        absurd (omega arith)
    | inr new ↦
        let more : set.len (of (x ∷ (xs ++ ys))) ≡ set.len (of (xs ++ ys)) + 1 = len-insert o (of (xs ++ ys)) x ∙ ap (λ (b : Bool). cond {A = ℕ} b (set.len (of (xs ++ ys))) (set.len (of (xs ++ ys)) + 1)) new in
        let rest : length xs ≡ set.len (of xs) = front_once xs ys (omega arith) in
        let absent : set.contains (of xs) x ≡ false = neither_first _ _ (sym (contains_joined o apart xs ys x) ∙ new) in
        let one : set.len (of (x ∷ xs)) ≡ set.len (of xs) + 1 = len-insert o (of xs) x ∙ ap (λ (b : Bool). cond {A = ℕ} b (set.len (of xs)) (set.len (of xs) + 1)) absent in
        omega arith
  ]

-- what a list of keys is made of, by its front
record Parted (found : List IdQuad) (xs ys : List (List ℕ)) : Type 0 where
  front : List IdQuad
  behind : List IdQuad
  whole : front ++ behind ≡ found
  front_is : xs ≡ map (key_in Spo) front
  behind_is : ys ≡ map (key_in Spo) behind

parted : (found : List IdQuad) (xs ys : List (List ℕ)) → xs ++ ys ≡ map (key_in Spo) found → Parted found xs ys
parted found [] ys e = record { front = []; behind = found; whole = refl; front_is = refl; behind_is = e }
parted [] (x ∷ xs) ys e = cc
parted (q ∷ found) (x ∷ xs) ys e =
    let first : x ≡ key_in Spo q = cc in
    let others : xs ++ ys ≡ map (key_in Spo) found = cc in
    let p = parted found xs ys others in
    record {
      front = q ∷ p.front;
      behind = p.behind;
      whole = ap (λ (qs : List IdQuad). q ∷ qs) p.whole;
      front_is = (λ i. first i ∷ p.front_is i);
      behind_is = p.behind_is;
    }

none_behind : (behind : List IdQuad) → [] ≡ map (key_in Spo) behind → behind ≡ []
none_behind [] e = refl
none_behind (q ∷ behind) e = cc

-- the keys that come first in a run are those of some of its quads, and of all of them where none are left
pub some_of_run : (members : IdQuads) (all : Bool) (xs ys : List (List ℕ)) → AppendsKeysOnce members [] (xs ++ ys) → (all ≡ true → ys ≡ []) → AppendsSomeKeys members all [] xs
some_of_run members all xs ys a none =
    let p = parted a.found xs ys a.appended in
    let found_is : set.from_list (p.front ++ p.behind) ≡ members = ap set.from_list p.whole ∙ a.each_once.all in
    let once : length (p.front ++ p.behind) ≡ set.len (set.from_list {R = id_quad_cmp} (p.front ++ p.behind)) = ap length p.whole ∙ a.each_once.once ∙ ap set.len (sym found_is) in
    record {
      some = set.from_list p.front;
      within = λ q h. ap (λ (s : IdQuads). set.contains s q) (sym found_is) ∙ contains_joined id_quad_cmp_total id_quad_cmp-IsAntisymmetric p.front p.behind q ∙ either_first _ _ h;
      appended = record { found = p.front; appended = p.front_is; each_once = record { all = refl; once = front_once id_quad_cmp_total id_quad_cmp-IsAntisymmetric p.front p.behind once } };
      whole = λ h. ap set.from_list (sym (ap (λ (qs : List IdQuad). p.front ++ qs) (none_behind p.behind (sym (none h) ∙ p.behind_is)) ∙ append-nil p.front)) ∙ found_is;
    }
