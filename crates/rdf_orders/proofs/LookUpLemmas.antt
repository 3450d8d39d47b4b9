-- The steps of a look-up: what the keys so far hold, and how many quads are left.
use Rattle.std.proofs.Common.{◌≡◌, ℕ, ◌+◌, ◌<◌, ◌≤◌, Bool, true, false, cond, ◌&&◌, ◌||◌, not, List, [], ◌∷◌, ◌++◌, map, length, refl, sym, ap, subst, ◌∙◌, arith, length-append, append_assoc, append-nil, ◌-◌, inl, inr, IsTrue, ◌↔◌}
use Rattle.std.specs.Prelude.{Option, None, Some, IfSome}
use mathlib.Core.Bool.{true≢false}
use Rattle.std.proofs.lemmas.List.{map-append, length-map}
use Rattle.std.specs.List.{list_any}
use Rattle.std.specs.declared.cmp.Ordering.{Ordering}
use Rattle.std.specs.declared.cmp.Ordering.TheVariants.{Less, Equal, Greater}
use Rattle.std.specs.Ordering.{is_gt, eq_by_cmp, ordering_reverse}
use Rattle.std.specs.Cmp.{both_ways, upto, tied_itself}
use Rattle.std.specs.BTreeMap.Range.{IsLeBy, IsLtBy}
use Rattle.std.specs.FinSet as set
use Rattle.std.specs.FinSet.{contains-insert, contains-empty, from_list_push, same_set, len-insert, len-empty, contains-items}
use Rattle.rdf_orders.specs.declared.order.Order.{Order}
use Rattle.rdf_orders.specs.declared.order.Order.TheVariants.{Spo}
use Rattle.rdf_orders.specs.Quads.{IdQuad, IdQuads, key_in, key_cmp, id_quad_cmp, quad_at}
use Rattle.rdf_orders.specs.Runs.{BeginsWith, IsNextKey, NoneAhead, AppendsKeysOnce, AppendsSomeKeys, raised_by}
use Rattle.rdf_orders.proofs.TestLemmas.{both, first_of_both, second_of_both, is_either, either_first, either_second, cases}
use Rattle.rdf_orders.proofs.KeyLemmas.{key_cmp_total, id_quad_cmp_total, id_quad_cmp-IsAntisymmetric, same_quad, same_from_eq, eq_from_same, contains_kept, quad_at-key_in}

-- ---- the order of keys

turned : (r s : Ordering) → s ≡ ordering_reverse r → is_gt r ≡ true → s ≡ Less
turned Less s e h = absurd (true≢false (sym h))
turned Equal s e h = absurd (true≢false (sym h))
turned Greater s e h = e

pub below_from_above : (x y : List ℕ) → is_gt (key_cmp x y) ≡ true → key_cmp y x ≡ Less
below_from_above x y h = turned (key_cmp x y) (key_cmp y x) (key_cmp_total.antisymm y x) h

level : (r s : Ordering) → s ≡ ordering_reverse r → is_gt r ≡ false → is_gt s ≡ false → r ≡ Equal
level Less s e h k = absurd (true≢false (sym (ap is_gt e) ∙ k))
level Equal s e h k = refl
level Greater s e h k = absurd (true≢false h)

pub tied_by_both : (x y : List ℕ) → IsLeBy key_cmp x y → IsLeBy key_cmp y x → key_cmp x y ≡ Equal
tied_by_both x y h k = level (key_cmp x y) (key_cmp y x) (key_cmp_total.antisymm y x) h k

-- ---- what a look-up has passed

-- whether the quad's key is not greater than `after`
abbrev pub is_passed : Order → Option (List ℕ) → IdQuad → Bool
is_passed order None q = false
is_passed order (Some a) q = not (is_gt (key_cmp (key_in order q) a))

le_from_not : (b : Bool) → not b ≡ true → b ≡ false
le_from_not true e = absurd (true≢false (sym e))
le_from_not false e = refl

gt_from_not : (b : Bool) → not b ≡ false → b ≡ true
gt_from_not true e = refl
gt_from_not false e = absurd (true≢false e)

later_from_not_passed : (order : Order) (after : Option (List ℕ)) (q : IdQuad) → is_passed order after q ≡ false → IfSome after (λ a. IsLtBy key_cmp a (key_in order q))
later_from_not_passed order None q e = tt
later_from_not_passed order (Some a) q e = below_from_above (key_in order q) a (gt_from_not _ e)

-- what was passed is passed at a later key
passed_on : (order : Order) (after : Option (List ℕ)) (key : List ℕ) (q : IdQuad) → IfSome after (λ a. IsLtBy key_cmp a key) → is_passed order after q ≡ true → is_passed order (Some key) q ≡ true
passed_on order None key q later e = absurd (true≢false (sym e))
passed_on order (Some a) key q later e = ap not (upto key_cmp_total _ a key (le_from_not _ e) (ap is_gt later))

not_passed_itself : (order : Order) (after : Option (List ℕ)) (q : IdQuad) → IfSome after (λ a. IsLtBy key_cmp a (key_in order q)) → is_passed order after q ≡ false
not_passed_itself order None q later = refl
not_passed_itself order (Some a) q later = ap (λ r. not (is_gt r)) (key_cmp_total.antisymm (key_in order q) a ∙ ap ordering_reverse later)

neither_passed : (a b : Bool) → (a && (b && false)) ≡ false
neither_passed true true = refl
neither_passed true false = refl
neither_passed false b = refl

-- ---- fewer are left

-- how many pass the test
abbrev pub tally : {X : Type 0} → (X → Bool) → List X → ℕ
tally p [] = 0
tally p (x ∷ xs) = cond (p x) 1 0 + tally p xs

one_le : (a b : Bool) → (a ≡ true → b ≡ true) → cond a 1 0 ≤ cond b 1 0
one_le true b h = let e : cond {A = ℕ} b 1 0 ≡ 1 = ap (λ (c : Bool). cond {A = ℕ} c 1 0) (h refl) in omega arith
one_le false b h = omega arith

tally_le : {X : Type 0} (p r : X → Bool) → ((x : X) → p x ≡ true → r x ≡ true) → (xs : List X) → tally p xs ≤ tally r xs
tally_le p r each [] = omega arith
tally_le p r each (x ∷ xs) = let here = one_le (p x) (r x) (each x) in let rest = tally_le p r each xs in omega arith

-- fewer pass a test that implies another, and fails at a member where the other holds
pub tally_lt : {X : Type 0} (p r e : X → Bool) → ((x : X) → p x ≡ true → r x ≡ true) → ((x : X) → e x ≡ true → (p x ≡ false) × (r x ≡ true)) → (xs : List X) → list_any e xs ≡ true → tally p xs < tally r xs
tally_lt p r e each apart [] some = absurd (true≢false (sym some))
tally_lt p r e each apart (x ∷ xs) some = elim (is_either (e x) (list_any e xs) some) [
  | inl it ↦
      let no : cond {A = ℕ} (p x) 1 0 ≡ 0 = ap (λ (c : Bool). cond {A = ℕ} c 1 0) (apart x it).0 in
      let yes : cond {A = ℕ} (r x) 1 0 ≡ 1 = ap (λ (c : Bool). cond {A = ℕ} c 1 0) (apart x it).1 in
      let rest = tally_le p r each xs in
      omega arith
  | inr it ↦ let here = one_le (p x) (r x) (each x) in let rest = tally_lt p r e each apart xs it in omega arith
]

-- the matching quads that were passed
abbrev pub passed : IdQuads → Order → (IdQuad → Bool) → Option (List ℕ) → IdQuads
passed quads order test after = set.retain quads (λ q. test q && is_passed order after q)

-- how many quads are not passed
abbrev pub left_of : IdQuads → Order → Option (List ℕ) → ℕ
left_of quads order after = tally (λ q. not (is_passed order after q)) (set.items quads)

module _ (quads : IdQuads) (order : Order) (prefix : List ℕ) (test : IdQuad → Bool) (just : (q : IdQuad) → BeginsWith prefix (key_in order q) ↔ IsTrue (test q)) where
  abbrev in_passed : Option (List ℕ) → IdQuad → Bool
  in_passed after q = set.contains quads q && (test q && is_passed order after q)

  module _ (after : Option (List ℕ)) (key : List ℕ) (n : IsNextKey quads order prefix after key) where
    key_later : IfSome after (λ a. IsLtBy key_cmp a (key_in order n.quad))
    key_later = subst (λ k. IfSome after (λ a. IsLtBy key_cmp a k)) n.is n.ahead.later

    passes : is_passed order (Some key) n.quad ≡ true
    passes = ap (λ k. not (is_gt (key_cmp (key_in order n.quad) k))) n.is ∙ ap (λ r. not (is_gt r)) (tied_itself key_cmp_total (key_in order n.quad))

    now_in : in_passed (Some key) n.quad ≡ true
    now_in = both n.has (both ((just n.quad).0 (subst (BeginsWith prefix) n.is n.ahead.begins)) passes)

    next_is : (q : IdQuad) → (eq_by_cmp id_quad_cmp q n.quad || in_passed after q) ≡ in_passed (Some key) q
    next_is q = both_ways _ _ (λ e. elim (is_either _ _ e) [
      | inl same ↦ subst (λ x. in_passed (Some key) x ≡ true) (sym (same_from_eq q n.quad same)) now_in
      | inr was ↦
          let held = first_of_both (set.contains quads q) _ was in
          let rest = second_of_both (set.contains quads q) _ was in
          both held (both (first_of_both (test q) _ rest) (passed_on order after key q n.ahead.later (second_of_both (test q) _ rest)))
    ]) (λ e.
        let held = first_of_both (set.contains quads q) _ e in
        let rest = second_of_both (set.contains quads q) _ e in
        let fits = first_of_both (test q) _ rest in
        elim (cases (is_passed order after q)) [
          | inl was ↦ either_second (eq_by_cmp id_quad_cmp q n.quad) _ (both held (both fits was))
          | inr ahead ↦
              let least = n.least q held (record { begins = (just q).1 fits; later = later_from_not_passed order after q ahead }) in
              let tie : key_cmp (key_in order q) key ≡ Equal = tied_by_both (key_in order q) key (le_from_not _ (second_of_both (test q) _ rest)) least in
              let same : q ≡ n.quad = same_quad order q n.quad (ap (key_cmp (key_in order q)) (sym n.is) ∙ tie) in
              either_first _ _ (eq_from_same q n.quad same)
        ])

    pub push_members : (found : List IdQuad) → set.from_list found ≡ passed quads order test after → set.from_list (found ++ n.quad ∷ []) ≡ passed quads order test (Some key)
    push_members found e =
        from_list_push id_quad_cmp_total id_quad_cmp-IsAntisymmetric found n.quad
        ∙ ap (λ s. set.insert s n.quad) e
        ∙ same_set id_quad_cmp_total id_quad_cmp-IsAntisymmetric _ _ (λ q.
        contains-insert id_quad_cmp_total (passed quads order test after) n.quad q
        ∙ ap (λ b. eq_by_cmp id_quad_cmp q n.quad || b) (contains_kept quads _ q)
        ∙ next_is q
        ∙ sym (contains_kept quads _ q))

    not_yet : set.contains (passed quads order test after) n.quad ≡ false
    not_yet = contains_kept quads _ n.quad ∙ ap (λ b. set.contains quads n.quad && (test n.quad && b)) (not_passed_itself order after n.quad key_later) ∙ neither_passed _ _

    pub push_once : (found : List IdQuad) → set.from_list found ≡ passed quads order test after → length found ≡ set.len (set.from_list {R = id_quad_cmp} found) → length (found ++ n.quad ∷ []) ≡ set.len (set.from_list {R = id_quad_cmp} (found ++ n.quad ∷ []))
    push_once found e once =
        let new = ap set.len (from_list_push id_quad_cmp_total id_quad_cmp-IsAntisymmetric found n.quad) in
        let more = len-insert id_quad_cmp_total (set.from_list found) n.quad in
        let absent = ap (λ s. set.contains s n.quad) e ∙ not_yet in
        length-append found (n.quad ∷ []) ∙ ap (λ k. k + 1) once ∙ sym (new ∙ more ∙ ap (λ b. cond b (set.len (set.from_list {R = id_quad_cmp} found)) (set.len (set.from_list {R = id_quad_cmp} found) + 1)) absent)

  pub none_passed : set.from_list [] ≡ passed quads order test None
  none_passed = same_set id_quad_cmp_total id_quad_cmp-IsAntisymmetric _ _ (λ q. contains-empty id_quad_cmp q ∙ sym (contains_kept quads _ q ∙ neither_passed _ _))

  -- where no key is ahead, all matching quads were passed
  pub all_passed : (after : Option (List ℕ)) → NoneAhead quads order prefix after → passed quads order test after ≡ set.retain quads test
  all_passed after none = same_set id_quad_cmp_total id_quad_cmp-IsAntisymmetric _ _ (λ q.
      contains_kept quads _ q
      ∙ both_ways _ _
      (λ e. both (first_of_both _ _ e) (first_of_both (test q) _ (second_of_both (set.contains quads q) _ e)))
      (λ e. let held = first_of_both (set.contains quads q) _ e in let fits = second_of_both (set.contains quads q) _ e in
      both held (both fits (elim (cases (is_passed order after q)) [
        | inl was ↦ was
        | inr ahead ↦ absurd (none q held (record { begins = (just q).1 fits; later = later_from_not_passed order after q ahead }))
      ])))
      ∙ sym (contains_kept quads test q))

  pub fewer_left : (after : Option (List ℕ)) (key : List ℕ) → IsNextKey quads order prefix after key → left_of quads order (Some key) < left_of quads order after
  fewer_left after key n = tally_lt _ _ (eq_by_cmp id_quad_cmp n.quad)
      (λ q e. elim (cases (is_passed order after q)) [
        | inl was ↦ absurd (true≢false (sym e ∙ ap not (passed_on order after key q n.ahead.later was)))
        | inr ahead ↦ ap not ahead
      ])
      (λ q e. let same = same_from_eq n.quad q e in
      subst (λ x. (not (is_passed order (Some key) x) ≡ false) × (not (is_passed order after x) ≡ true)) same
      (ap not (passes after key n), ap not (not_passed_itself order after n.quad (key_later after key n))))
      (set.items quads) (sym (contains-items quads n.quad) ∙ n.has)

-- ---- the loop

-- the keys so far are those of the matching quads that were passed, each once, and so many were counted
pub record IsProgress (quads : IdQuads) (test : IdQuad → Bool) (order : Order) (after : Option (List ℕ)) (old now : List (List ℕ)) (from to : ℕ) : Type 0 where
  pub found : List IdQuad
  pub appended : now ≡ old ++ map (key_in Spo) found
  pub members : set.from_list found ≡ passed quads order test after
  pub once : length found ≡ set.len (set.from_list {R = id_quad_cmp} found)
  pub counted : to ≡ raised_by (length found) from

module _ (quads : IdQuads) (order : Order) (prefix : List ℕ) (test : IdQuad → Bool) (just : (q : IdQuad) → BeginsWith prefix (key_in order q) ↔ IsTrue (test q)) (old : List (List ℕ)) (from : ℕ) where
  pub progress_start : IsProgress quads test order None old old from from
  progress_start = record {
    found = [];
    appended = sym (append-nil old);
    members = none_passed quads order prefix test just;
    once = sym (len-empty id_quad_cmp);
    counted = omega arith;
  }

  pub progress_push : (after : Option (List ℕ)) (key key' : List ℕ) (now now' : List (List ℕ)) (to to' : ℕ) → IsProgress quads test order after old now from to
      → IsNextKey quads order prefix after key → key' ≡ key_in Spo (quad_at order key) → now' ≡ now ++ key' ∷ [] → to' ≡ raised_by 1 to
      → IsProgress quads test order (Some key) old now' from to'
  progress_push after key key' now now' to to' p n restored pushed counted =
      let is : key' ≡ key_in Spo n.quad = restored ∙ ap (λ k. key_in Spo (quad_at order k)) n.is ∙ ap (key_in Spo) (quad_at-key_in order n.quad) in
      let longer = length-append p.found (n.quad ∷ []) in
      record {
        found = p.found ++ n.quad ∷ [];
        appended = pushed ∙ ap (λ k. now ++ k ∷ []) is ∙ ap (λ ks. ks ++ key_in Spo n.quad ∷ []) p.appended ∙ append_assoc old _ _ ∙ ap (λ ks. old ++ ks) (sym (map-append (key_in Spo) p.found (n.quad ∷ [])));
        members = push_members quads order prefix test just after key n p.found p.members;
        once = push_once quads order prefix test just after key n p.found p.members p.once;
        counted = let was = p.counted in omega arith;
      }

  pub progress_found : (after : Option (List ℕ)) (now : List (List ℕ)) (to : ℕ) → IsProgress quads test order after old now from to → NoneAhead quads order prefix after → AppendsKeysOnce (set.retain quads test) old now
  progress_found after now to p none =
      let members = p.members ∙ all_passed quads order prefix test just after none in
      record { found = p.found; appended = p.appended; each_once = record { all = members; once = p.once ∙ ap set.len members } }

  -- what was found so far is some of it
  pub progress_some : (after : Option (List ℕ)) (now : List (List ℕ)) (to : ℕ) → IsProgress quads test order after old now from to → AppendsSomeKeys (set.retain quads test) false old now
  progress_some after now to p = record {
    some = passed quads order test after;
    within = λ q h.
        let both_hold = sym (contains_kept quads _ q) ∙ h in
        contains_kept quads test q ∙ both (first_of_both _ _ both_hold) (first_of_both (test q) _ (second_of_both (set.contains quads q) _ both_hold));
    appended = record { found = p.found; appended = p.appended; each_once = record { all = p.members; once = p.once ∙ ap set.len p.members } };
    whole = λ no. absurd (true≢false (sym no));
  }

  pub progress_all : (after : Option (List ℕ)) (now : List (List ℕ)) (to : ℕ) → IsProgress quads test order after old now from to → NoneAhead quads order prefix after → AppendsSomeKeys (set.retain quads test) true old now
  progress_all after now to p none = record {
    some = set.retain quads test;
    within = λ q h. h;
    appended = progress_found after now to p none;
    whole = λ _. refl;
  }

-- one key more, where they weren't as many yet
pub one_more_key : (old now new : List (List ℕ)) (key : List ℕ) (most : ℕ) → new ≡ now ++ key ∷ [] → length now - length old < most → length old ≤ length now → length new ≤ length old + most
one_more_key old now new key most e h k = let longer = ap length e ∙ length-append now (key ∷ []) in omega arith

pub progress_counted : (quads : IdQuads) (test : IdQuad → Bool) (order : Order) (after : Option (List ℕ)) (old now : List (List ℕ)) (from to to' : ℕ) → IsProgress quads test order after old now from to → to' ≡ raised_by 0 to → to' ≡ raised_by (length now - length old) from
progress_counted quads test order after old now from to to' p e =
    let was = p.counted in
    let long : length now ≡ length old + length p.found = ap length p.appended ∙ length-append old (map (key_in Spo) p.found) ∙ ap (λ k. length old + k) (length-map p.found (key_in Spo)) in
    omega arith
