-- Columns in a tree: what stands at each, and the next one that has a term.
use Rattle.std.proofs.Common.{◌≡◌, ℕ, zero, suc, ◌+◌, ◌-◌, ◌<◌, ◌≤◌, Bool, true, false, List, [], ◌∷◌, ◌++◌, length, take, set, get_or, replicate, cond, Option, Some, None, is_some, Box, Global, refl, sym, ap, ◌∙◌, subst, arith, inl, inr, append-nil}
use Rattle.std.proofs.lemmas.Bool.{both_ways, cases_lt}
use Rattle.std.proofs.lemmas.List.{get_or_append_left, get_or-append_right, get_or_past, get_or-replicate, set-append_left, set-append_right, replicate-append-replicate, take-append-le, length-append, length-replicate, length-set, length-take, take-replicate}
use Rattle.std.proofs.Math.Seq.{take-append-add}
use Rattle.rdf_terms.specs.declared.term.Term.{Term}
use Rattle.sparql_values.specs.Columns.{values, IsFork, IsRight}
use Rattle.sparql_values.specs.Mapping.{Mapping, value_at}
use Rattle.sparql_values.specs.NextBound.{IsFirstFrom, IsNextBound}
use Rattle.sparql_values.specs.declared.columns.Columns.{Columns}
use Rattle.sparql_values.specs.declared.columns.Form.{Form}
use Rattle.sparql_values.specs.declared.columns.Form.TheVariants.{Plain, Nothing, Fork}

-- ---- a fork

-- what is known of columns once their form is a fork
pub record AtFork (m first : Mapping) (many : ℕ) (others : Mapping) : Type 0 where
  pub is : m ≡ first ++ others
  pub fork : IsFork first many others

pub at_Fork : {f : Form} {m : Mapping} {l r : Box Columns Global} {n : ℕ} → values f ≡ m → IsRight f → f ≡ Fork l n r → AtFork m l.value n r.value
at_Fork {f} {m} {l} {r} {n} view_is right is = record { is = sym view_is ∙ ap values is; fork = subst IsRight is right }

pub at_Nothing : {f : Form} {m : Mapping} {n : ℕ} → values f ≡ m → f ≡ Nothing n → m ≡ replicate n None
at_Nothing view_is is = sym view_is ∙ ap values is

module _ {m l : Mapping} {n : ℕ} {r : Mapping} (at : AtFork m l n r) where
  pub fork_len : n + length r ≡ length m
  fork_len = omega (arith, at.fork.many_is, length-append l r, ap length at.is)

  pub fork_shorter : (length l < length m) × (length r < length m)
  fork_shorter = (omega (arith, fork_len, at.fork.some_others, at.fork.many_is), omega (arith, fork_len, at.fork.some_first, at.fork.many_is))

  pub fork_value_left : (c : ℕ) → c < n → value_at l c ≡ value_at m c
  fork_value_left c h = sym (ap (λ (z : Mapping). value_at z c) at.is ∙ get_or_append_left l r None c (omega (arith, h, at.fork.many_is)))

  pub fork_value_right : (c : ℕ) → n ≤ c → value_at r (c - n) ≡ value_at m c
  fork_value_right c h = sym (ap (λ (z : Mapping). value_at z c) at.is ∙ get_or-append_right l r n c None (sym at.fork.many_is) h)

  pub fork_set_left : (c : ℕ) (x : Option Term) → c < n → set l c x ++ r ≡ set m c x
  fork_set_left c x h = sym (ap (λ (z : Mapping). set z c x) at.is ∙ set-append_left l r c x (omega (arith, h, at.fork.many_is)))

  pub fork_set_right : (c : ℕ) (x : Option Term) → n ≤ c → l ++ set r (c - n) x ≡ set m c x
  fork_set_right c x h = sym (ap (λ (z : Mapping). set z c x) at.is ∙ set-append_right l r n c x (sym at.fork.many_is) h)

  pub fork_take_left : (c : ℕ) → c ≤ n → take c l ≡ take c m
  fork_take_left c h = sym (ap (λ (z : Mapping). take c z) at.is ∙ take-append-le c l r (omega (arith, h, at.fork.many_is)))

  pub fork_take_right : (c : ℕ) → n ≤ c → l ++ take (c - n) r ≡ take c m
  fork_take_right c h =
      let split : c ≡ length l + (c - n) = omega (arith, h, at.fork.many_is) in
      sym (ap (λ (z : Mapping). take c z) at.is ∙ ap (λ k. take k (l ++ r)) split ∙ take-append-add l r (c - n))

-- ---- no column has a term

pub value_of_nothing : (n i : ℕ) → value_at (replicate n None) i ≡ None
value_of_nothing n i =
    elim (cases_lt i n) [
      | inl h ↦ get_or-replicate n i None None h
      | inr h ↦ get_or_past (replicate n None) i None (omega (arith, h, length-replicate {A = Option Term} n None))
    ]

-- ---- the next column that has a term

-- a column that has a term is one of them
pub has_column_within : (m : Mapping) (c : ℕ) → is_some (value_at m c) ≡ true → c < length m
has_column_within m c e =
    elim (cases_lt c (length m)) [
      | inl h ↦ h
      | inr h ↦ absurd (both_ways (is_some (value_at m c)) (ap is_some (get_or_past m c None h)) e)
    ]

pub next_within : (m : Mapping) (from : ℕ) (c : ℕ) → IsNextBound m from (Some c) → c < length m
next_within m from c h = has_column_within m c h.bound

module _ {m l : Mapping} {n : ℕ} {r : Mapping} (at : AtFork m l n r) where
  next_in_left : (from c : ℕ) → IsFirstFrom l from c → IsFirstFrom m from c
  next_in_left from c h =
      let within : c < n = omega (arith, has_column_within l c h.bound, at.fork.many_is) in
      record {
        after = h.after;
        bound = ap is_some (sym (fork_value_left at c within)) ∙ h.bound;
        none_between = λ i a b. sym (fork_value_left at i (omega (arith, b, within))) ∙ h.none_between i a b;
      }

  none_in_left : (from : ℕ) → IsNextBound l from None → (i : ℕ) → from ≤ i → i < n → value_at m i ≡ None
  none_in_left from h i a b = sym (fork_value_left at i b) ∙ h i a

  next_in_right : (from c : ℕ) → n ≤ from → IsFirstFrom r (from - n) c → IsFirstFrom m from (n + c)
  next_in_right from c le h =
      let back : (n + c) - n ≡ c = omega arith in
      record {
        after = omega (arith, h.after, le);
        bound = ap is_some (sym (fork_value_right at (n + c) (omega arith)) ∙ ap (value_at r) back) ∙ h.bound;
        none_between = λ i a b. sym (fork_value_right at i (omega (arith, a, le))) ∙ h.none_between (i - n) (omega (arith, a, le)) (omega (arith, a, b, le));
      }

  none_in_right : (from : ℕ) → IsNextBound r from None → (i : ℕ) → n + from ≤ i → value_at m i ≡ None
  none_in_right from h i a = sym (fork_value_right at i (omega (arith, a))) ∙ h (i - n) (omega (arith, a))

  -- the search goes on in the right side
  pub next_from_right : (from : ℕ) (o : Option ℕ) → n ≤ from → IsNextBound r (from - n) o → (p : Option ℕ) → ((c : ℕ) → o ≡ Some c → p ≡ Some (n + c)) → (o ≡ None → p ≡ None) → IsNextBound m from p
  next_from_right from (Some c) le h p some none = subst (IsNextBound m from) (sym (some c refl)) (next_in_right from c le h)
  next_from_right from None le h p some none =
      subst (IsNextBound m from) (sym (none refl)) (λ i a. none_in_right (from - n) h i (omega (arith, a, le)))

  pub next_from_left : (from c : ℕ) → IsNextBound l from (Some c) → IsNextBound m from (Some c)
  next_from_left from c h = next_in_left from c h

  -- or behind the left side, which has none
  pub next_behind_left : (from : ℕ) → from < n → IsNextBound l from None → (o : Option ℕ) → IsNextBound r 0 o → (p : Option ℕ) → ((c : ℕ) → o ≡ Some c → p ≡ Some (n + c)) → (o ≡ None → p ≡ None) → IsNextBound m from p
  next_behind_left from lt left (Some c) h p some none =
      let right = next_in_right n c (omega arith) (subst (λ k. IsFirstFrom r k c) (omega arith) h) in
      subst (IsNextBound m from) (sym (some c refl)) (record {
        after = omega (arith, lt);
        bound = right.bound;
        none_between = λ i a b. elim (cases_lt i n) [
          | inl k ↦ none_in_left from left i a k
          | inr k ↦ right.none_between i k b
        ];
      })
  next_behind_left from lt left None h p some none =
      subst (IsNextBound m from) (sym (none refl)) (λ i a. elim (cases_lt i n) [
        | inl k ↦ none_in_left from left i a k
        | inr k ↦ none_in_right 0 h i (omega (arith, k))
      ])

-- ---- a tree that grows

-- one term among columns that have nothing
pub sprouted_left : (n half rest c : ℕ) (x : Option Term) (first others : Mapping) → half + rest ≡ n → c < half → first ≡ set (replicate half None) c x →
    others ≡ replicate rest None → first ++ others ≡ set (replicate n None) c x
sprouted_left n half rest c x first others sum lt ef eo =
    ap (λ (z : Mapping). z ++ others) ef ∙ ap (λ (z : Mapping). set (replicate half None) c x ++ z) eo
    ∙ sym (set-append_left (replicate half None) (replicate rest None) c x (omega (arith, lt, length-replicate {A = Option Term} half None)))
    ∙ ap (λ (z : Mapping). set z c x) (replicate-append-replicate half rest None ∙ ap (λ k. replicate k None) sum)

pub sprouted_right : (n half rest c : ℕ) (x : Option Term) (first others : Mapping) → half + rest ≡ n → half ≤ c → first ≡ replicate half None →
    others ≡ set (replicate rest None) (c - half) x → first ++ others ≡ set (replicate n None) c x
sprouted_right n half rest c x first others sum le ef eo =
    ap (λ (z : Mapping). z ++ others) ef ∙ ap (λ (z : Mapping). replicate half None ++ z) eo
    ∙ sym (set-append_right (replicate half None) (replicate rest None) half c x (length-replicate half None) le)
    ∙ ap (λ (z : Mapping). set z c x) (replicate-append-replicate half rest None ∙ ap (λ k. replicate k None) sum)

-- ---- a term that is put below a fork

-- what is left, where b says that it went through
pub record SetsBelow (b : Bool) (m : Mapping) (c : ℕ) (x : Option Term) (first : Mapping) (many : ℕ) (others : Mapping) : Type 0 where
  pub is : first ++ others ≡ cond b (set m c x) m
  pub fork : IsFork first many others

pub sets_left : {m l r new : Mapping} {n c : ℕ} {x : Option Term} (b : Bool) → AtFork m l n r → c < n → new ≡ cond b (set l c x) l → SetsBelow b m c x new n r
sets_left {m} {l} {r} {new} {n} {c} {x} true at h e =
    let same : length new ≡ length l = ap length e ∙ length-set l c x in
    record {
      is = ap (λ (z : Mapping). z ++ r) e ∙ fork_set_left at c x h;
      fork = record {
        many_is = at.fork.many_is ∙ sym same;
        some_first = omega (arith, at.fork.some_first, same);
        some_others = at.fork.some_others;
        fits = omega (arith, at.fork.fits, same);
      };
    }
sets_left {m} {l} {r} {new} {n} {c} {x} false at h e = record {
  is = ap (λ (z : Mapping). z ++ r) e ∙ sym at.is;
  fork = subst (λ (z : Mapping). IsFork z n r) (sym e) at.fork;
}

pub sets_right : {m l r new : Mapping} {n c : ℕ} {x : Option Term} (b : Bool) → AtFork m l n r → n ≤ c → new ≡ cond b (set r (c - n) x) r → SetsBelow b m c x l n new
sets_right {m} {l} {r} {new} {n} {c} {x} true at h e =
    let same : length new ≡ length r = ap length e ∙ length-set r (c - n) x in
    record {
      is = ap (λ (z : Mapping). l ++ z) e ∙ fork_set_right at c x h;
      fork = record {
        many_is = at.fork.many_is;
        some_first = at.fork.some_first;
        some_others = omega (arith, at.fork.some_others, same);
        fits = omega (arith, at.fork.fits, same);
      };
    }
sets_right {m} {l} {r} {new} {n} {c} {x} false at h e = record {
  is = ap (λ (z : Mapping). l ++ z) e ∙ sym at.is;
  fork = subst (λ (z : Mapping). IsFork l n z) (sym e) at.fork;
}

-- ---- the first columns

pub cut_nothing : (m : Mapping) (n c k : ℕ) (out : Mapping) → m ≡ replicate n None → k ≡ length m → c < k → out ≡ replicate c None → out ≡ take c m
cut_nothing m n c k out e ek h eo =
    let le : c ≤ n = omega (arith, h, ek, ap length e, length-replicate {A = Option Term} n None) in
    eo ∙ sym (ap (λ (z : Mapping). take c z) e ∙ take-replicate c n None le)

pub cut_fork : {m l r : Mapping} {n : ℕ} (at : AtFork m l n r) (c : ℕ) (first inner others : Mapping) → n ≤ c → first ≡ l → inner ≡ r → others ≡ take (c - n) inner →
    first ++ others ≡ take c m
cut_fork {m} {l} {r} {n} at c first inner others h ef ei eo =
    ap (λ (z : Mapping). z ++ others) ef ∙ ap (λ (z : Mapping). l ++ z) (eo ∙ ap (λ (z : Mapping). take (c - n) z) ei) ∙ fork_take_right at c h
