-- The entries of a map as marks: what a change of the map makes of them.
use Rattle.std.proofs.Common.{◌≡◌, ℕ, ◌-◌, ◌≤◌, Bool, true, false, cond, List, [], ◌∷◌, map as map_list, refl, sym, ap, ◌∙◌, arith, Option, Some, None}
use Rattle.std.specs.Prelude.{SomeIff, filter, Vec}
use Rattle.std.specs.BTreeMap.{BTreeMap, UpdatesBy, is_at}
use Rattle.std.specs.declared.alloc.Global.{Global}
use Rattle.std.specs.declared.cmp.Ordering.{Ordering}
use Rattle.std.specs.declared.cmp.Ordering.TheVariants.{Less}
use Rattle.std.specs.Cmp.Lexicographic.{nat_list_cmp_total}
use Rattle.std.specs.FinMap as map
use Rattle.std.specs.FinMap.{get-from_entries}
use Rattle.std.specs.List.{AllByRecursion}
use Rattle.std.specs.List.Sorted.{IsStrictlySortedBy}
use Rattle.std.specs.Map.{AreApart, IsKeyTest, KeepsOthers, keys_of, lookup}
use Rattle.std.specs.Ordering.{eq_by_cmp, is_eq}
use Rattle.rdf_session.proofs.BehindLemmas.{alike, behind, behind_gone, behind_there, get_behind, get_lower, lower}
use Rattle.rdf_session.proofs.MarkLemmas.{order, one_name, same}
use Rattle.rdf_session.specs.History.{Marks, marks_behind, marks_lower}
use Rattle.rdf_session.specs.Inside.Marks.{Entry, mark_of, marks_of}

abbrev pub Name : Type 0
Name = Vec ℕ Global

-- the order of names
abbrev pub by_name : Name → Name → Ordering
by_name a b = order a.items b.items

-- a place that passes the test
abbrev pub kept : (ℕ → Bool) → Option ℕ → Option ℕ
kept p None = None
kept p (Some k) = cond (p k) (Some k) None

abbrev found : List ℕ → List Entry → Option ℕ
found q es = map.find order q (map_list mark_of es)

get_is : (es : List Entry) (q : List ℕ) → map.get (marks_of es) q ≡ found q es
get_is es q = get-from_entries nat_list_cmp_total (map_list mark_of es) q

-- ---- where a name is

abbrev looked_up : List ℕ → List Entry → Option ℕ
looked_up q es = lookup (is_at (λ (k : Name). order q k.items)) es

found_by : (q : List ℕ) (es : List Entry) → looked_up q es ≡ found q es
found_by q [] = refl
found_by q (e ∷ es) = ap (cond (same q e.0.items) (Some e.1)) (found_by q es)

pub place_found : (q : List ℕ) (es : List Entry) → lookup (is_at (λ (k : Name). order q k.items)) es ≡ map.get (marks_of es) q
place_found q es = found_by q es ∙ sym (get_is es q)

-- ---- a name whose place changes

name_test : (q : List ℕ) → IsKeyTest (eq_by_cmp by_name) (λ (k : Name). same q k.items)
name_test q x y e = ap (λ n. same n y.items) (one_name q x.items e)

names_apart : (name : Name) (q : List ℕ) → same q name.items ≡ false → AreApart (is_at (by_name name)) (λ (k : Name). same q k.items)
names_apart name q e k is = ap (same q) (sym (one_name name.items k.items is)) ∙ e

pub place_updated : (name : Name) (w : Option ℕ) (m n : BTreeMap Name ℕ) → UpdatesBy by_name (by_name name) m n w → (q : List ℕ) → map.get (marks_of n.entries) q ≡ cond (same q name.items) w (map.get (marks_of m.entries) q)
unfolding KeepsOthers
place_updated name w m n u q =
    sym (place_found q n.entries)
    ∙ elim (same q name.items) as (λ b. same q name.items ≡ b → looked_up q n.entries ≡ cond b w (map.get (marks_of m.entries) q)) [
      | true ↦ λ t. ap (λ name. looked_up name n.entries) (one_name q name.items t) ∙ u.1
      | false ↦ λ t. u.3 (λ (k : Name). same q k.items) (name_test q) (names_apart name q t) ∙ place_found q m.entries
    ] refl

-- ---- those that pass a test of their places

none_above : (x : Name) (es : List Entry) (q : List ℕ) → same q x.items ≡ true → AllByRecursion (λ y. by_name x y ≡ Less) (keys_of es) → found q es ≡ None
none_above x [] q t all = refl
none_above x (e ∷ es) q t all =
    let apart : same q e.0.items ≡ false = ap (λ n. is_eq (order n e.0.items)) (one_name q x.items t) ∙ ap is_eq all.0 in
    ap (λ b. cond b (Some e.1) (found q es)) apart ∙ none_above x es q t all.1

rising_head : (e : Entry) (es : List Entry) → IsStrictlySortedBy by_name (keys_of (e ∷ es)) → AllByRecursion (λ y. by_name e.0 y ≡ Less) (keys_of es)
unfolding IsStrictlySortedBy
rising_head e es s = s.0

rising_tail : (e : Entry) (es : List Entry) → IsStrictlySortedBy by_name (keys_of (e ∷ es)) → IsStrictlySortedBy by_name (keys_of es)
unfolding IsStrictlySortedBy
rising_tail e es s = s.1

kept_found : (p : ℕ → Bool) (es : List Entry) (q : List ℕ) → IsStrictlySortedBy by_name (keys_of es) → found q (filter (λ e. p e.1) es) ≡ kept p (found q es)
kept_found p [] q s = refl
kept_found p (e ∷ es) q s =
    let ih : found q others ≡ kept p (found q es) = kept_found p es q (rising_tail e es s) in
    elim (same q e.0.items) as (λ b. same q e.0.items ≡ b → found q (cond (p e.1) (e ∷ others) others) ≡ kept p (cond b (Some e.1) (found q es))) [
      | true ↦ λ t.
          elim (p e.1) as (λ v. found q (cond v (e ∷ others) others) ≡ cond v (Some e.1) None) [
            | true ↦ ap (λ b. cond b (Some e.1) (found q others)) t
            | false ↦ ih ∙ ap (kept p) (none_above e.0 es q t (rising_head e es s))
          ]
      | false ↦ λ t.
          elim (p e.1) as (λ v. found q (cond v (e ∷ others) others) ≡ kept p (found q es)) [
            | true ↦ ap (λ b. cond b (Some e.1) (found q others)) t ∙ ih
            | false ↦ ih
          ]
    ] refl
  where
    others : List Entry
    others = filter (λ x. p x.1) es

pub places_kept : (p : ℕ → Bool) (es new : List Entry) → IsStrictlySortedBy by_name (keys_of es) → new ≡ filter (λ e. p e.1) es → (q : List ℕ) → map.get (marks_of new) q ≡ kept p (map.get (marks_of es) q)
places_kept p es new s e q = get_is new q ∙ ap (found q) e ∙ kept_found p es q s ∙ ap (kept p) (sym (get_is es q))

-- ---- lowered ones

lowered_found : (count : ℕ) (es : List Entry) (q : List ℕ) → found q (map_list (λ e. (e.0, e.1 - count)) es) ≡ lower count (found q es)
lowered_found count [] q = refl
lowered_found count (e ∷ es) q =
    elim (same q e.0.items) as (λ b. cond b (Some (e.1 - count)) (found q (map_list (λ x. (x.0, x.1 - count)) es)) ≡ lower count (cond b (Some e.1) (found q es))) [
      | true ↦ refl
      | false ↦ lowered_found count es q
    ]

pub places_lowered : (count : ℕ) (es new : List Entry) → new ≡ map_list (λ e. (e.0, e.1 - count)) es → marks_of new ≡ marks_lower count (marks_of es)
places_lowered count es new e =
    alike _ _ (λ q.
    get_is new q ∙ ap (found q) e ∙ lowered_found count es q ∙ ap (lower count) (sym (get_is es q)) ∙ sym (get_lower (marks_of es) count q))

-- ---- places behind so many

pub place_behind : (name : List ℕ) (count : ℕ) (marks : Marks) (answer : Option ℕ) (at : ℕ) → map.get marks name ≡ Some at → SomeIff answer (count ≤ at) (at - count) → answer ≡ map.get (marks_behind count marks) name
place_behind name count marks (Some place) at e h = sym (get_behind marks count name ∙ ap (behind count) e ∙ behind_there count at h.0 ∙ ap Some (sym h.1))
place_behind name count marks None at e h = sym (get_behind marks count name ∙ ap (behind count) e ∙ behind_gone count at (omega (arith, h)))

pub nowhere_behind : (name : List ℕ) (count : ℕ) (marks : Marks) → map.get marks name ≡ None → None ≡ map.get (marks_behind count marks) name
nowhere_behind name count marks e = sym (get_behind marks count name ∙ ap (behind count) e)
