-- Names listed by their places: what changes of the list and of the marks leave of it.
use Rattle.std.proofs.Common.{◌≡◌, ◌≢◌, ℕ, ◌+◌, ◌<◌, ◌≤◌, Bool, true, false, cond, List, [], length, refl, sym, ap, ◌∙◌, arith, eqb, eqb-true, Option, Some, None}
use Rattle.std.specs.Prelude.{IfSome, IsTrue, is_some, nat_le, ◌∷◌, ◌||◌}
use Rattle.std.proofs.lemmas.Cmp.{ranked}
use mathlib.Core.Bool.{true≢false}
use Rattle.std.specs.BTreeSet.{BTreeSet, IsLowerBound, IsUpperBound, Updates, UpdatesBy, contains}
use Rattle.std.specs.Cmp.{nat_cmp_total, tied_itself}
use Rattle.std.specs.Cmp.Lexicographic.{nat_list_cmp_total}
use Rattle.std.specs.declared.cmp.Ordering.{Ordering}
use Rattle.std.specs.declared.cmp.Ordering.TheVariants.{Less, Equal, Greater}
use Rattle.std.specs.FinMap as map
use Rattle.std.specs.FinMap.{get-empty, get-insert, nat_cmp-IsAntisymmetric}
use Rattle.std.specs.List.{AllByRecursion}
use Rattle.std.specs.Option.{option_eq}
use Rattle.std.specs.Map.{AreApart, IsKeyTest}
use Rattle.std.specs.Ordering.{eq_by_cmp, is_eq, is_gt, is_lt, nat_cmp, ordering_then}
use Rattle.std.specs.BTreeMap.{is_at}
use Rattle.std.specs.Set.{KeepsOthers}
use Rattle.rdf_session.proofs.BehindLemmas.{alike, get_from, is_there}
use Rattle.rdf_session.proofs.MarkLemmas.{equal_of, get_upto, one_name, order, same, same_itself}
use Rattle.rdf_session.proofs.PlaceLemmas.{kept}
use Rattle.rdf_session.specs.History.{Marks, is_from, is_upto, marks_from, marks_upto}
use Rattle.rdf_session.specs.Inside.Marks.{Lists, Spot, Takes, is_listed, is_spot}

-- ---- spots

-- the order of spots
abbrev pub by_spot : Spot → Spot → Ordering
by_spot a b = ordering_then (nat_cmp a.0 b.0) (order a.1.items b.1.items)

both_equal : (r s : Ordering) → is_eq (ordering_then r s) ≡ true → (r ≡ Equal) × (s ≡ Equal)
both_equal Less s e = absurd (true≢false (sym e))
both_equal Equal s e = (refl, equal_of s e)
both_equal Greater s e = absurd (true≢false (sym e))

spot_is : (k : ℕ) (q : List ℕ) (s : Spot) → is_spot k q s ≡ true → (k ≡ s.0) × (same q s.1.items ≡ true)
spot_is k q s e = let both = both_equal (nat_cmp k s.0) (order q s.1.items) e in (nat_cmp-IsAntisymmetric k s.0 both.0, ap is_eq both.1)

spot_there : (k : ℕ) (q : List ℕ) (s : Spot) → k ≡ s.0 → same q s.1.items ≡ true → is_spot k q s ≡ true
spot_there k q s at name =
    ap (λ j. is_spot j q s) at ∙ ap (λ r. is_eq (ordering_then r (order q s.1.items))) (tied_itself nat_cmp_total s.0) ∙ name

pub spot_itself : (s : Spot) → is_spot s.0 s.1.items s ≡ true
spot_itself s = spot_there s.0 s.1.items s refl (same_itself s.1.items)

-- ---- a spot that comes or goes

spot_test : (k : ℕ) (q : List ℕ) → IsKeyTest (eq_by_cmp by_spot) (is_spot k q)
spot_test k q x y e =
    let at = spot_is k q x e in
    ap (λ j. is_spot j q y) at.0 ∙ ap (λ n. is_spot x.0 n y) (one_name q x.1.items at.1)

spots_apart : (spot : Spot) (k : ℕ) (q : List ℕ) → is_spot k q spot ≡ false → AreApart (is_at (by_spot spot)) (is_spot k q)
spots_apart spot k q e s is =
    let at = spot_is spot.0 spot.1.items s is in
    ap (λ j. is_eq (ordering_then (nat_cmp k j) (order q s.1.items))) (sym at.0)
    ∙ ap (λ n. is_eq (ordering_then (nat_cmp k spot.0) (order q n))) (sym (one_name spot.1.items s.1.items at.1)) ∙ e

pub listed_updated : (spot : Spot) (b : Bool) (s n : BTreeSet Spot) → UpdatesBy by_spot (by_spot spot) s n b → (q : List ℕ) (k : ℕ) → is_listed k q n.keys ≡ cond (is_spot k q spot) b (is_listed k q s.keys)
unfolding KeepsOthers
listed_updated spot b s n u q k =
    elim (is_spot k q spot) as (λ v. is_spot k q spot ≡ v → is_listed k q n.keys ≡ cond v b (is_listed k q s.keys)) [
      | true ↦ λ t.
          let at = spot_is k q spot t in
          ap (λ j. is_listed j q n.keys) at.0 ∙ ap (λ name. is_listed spot.0 name n.keys) (one_name q spot.1.items at.1) ∙ u.1
      | false ↦ λ t. u.3 (is_spot k q) (spot_test k q) (spots_apart spot k q t)
    ] refl

pub takes_from : (spot : Spot) (s n : BTreeSet Spot) → IsTrue (contains by_spot s spot) → UpdatesBy by_spot (by_spot spot) s n false → length n.keys + 1 ≡ length s.keys → Takes spot s.keys n.keys
takes_from spot s n was u fewer = record { was = was; others = λ q k. listed_updated spot false s n u q k; fewer = fewer }

-- ---- what is listed

pub no_place : (k : ℕ) → None ≡ Some k → ⊥
no_place k e = cc

one_place : (i j : ℕ) → Some i ≡ Some j → i ≡ j
one_place i j e = cc

pub lists_nothing : Lists true [] map.empty
lists_nothing = record {
  sound = λ q k e. absurd (true≢false (sym e));
  whole = λ t q k e. absurd (no_place k (sym (get-empty order q) ∙ e));
}

-- of no spots nothing is said where not all are listed
pub lists_none : (marks : Marks) → Lists false [] marks
lists_none marks = record { sound = λ q k e. absurd (true≢false (sym e)); whole = λ t q k e. absurd (true≢false (sym t)) }

-- a number that is there
pub some_is : (o : Option ℕ) (k : ℕ) → option_eq eqb o (Some k) ≡ true → o ≡ Some k
some_is None k e = absurd (true≢false (sym e))
some_is (Some j) k e = ap Some (eqb-true j k e)

-- by what a test answers
by_cases : (G : Type 0) (b : Bool) → (b ≡ true → G) → (b ≡ false → G) → G
by_cases G true f g = f refl
by_cases G false f g = g refl

-- ---- a name that is put

abbrev pub Puts : List ℕ → ℕ → Marks → Marks → Type 0
Puts name place old new = (q : List ℕ) → map.get new q ≡ cond (same q name) (Some place) (map.get old q)

abbrev pub Sets : Spot → Bool → BTreeSet Spot → BTreeSet Spot → Type 0
Sets spot b s t = (q : List ℕ) (k : ℕ) → is_listed k q t.keys ≡ cond (is_spot k q spot) b (is_listed k q s.keys)

pub put_is : (name : List ℕ) (place : ℕ) (old new : Marks) → Puts name place old new → new ≡ map.insert old name place
put_is name place old new put = alike _ _ (λ q. put q ∙ sym (get-insert nat_list_cmp_total old name place q))

-- a name at its place is put there
pub put_again : (name : List ℕ) (place : ℕ) (marks : Marks) → map.get marks name ≡ Some place → marks ≡ map.insert marks name place
put_again name place marks e =
    put_is name place marks marks (λ q.
    elim (same q name) as (λ b. same q name ≡ b → map.get marks q ≡ cond b (Some place) (map.get marks q)) [
      | true ↦ λ t. ap (map.get marks) (one_name q name t) ∙ e
      | false ↦ λ t. refl
    ] refl)

module _ (all : Bool) (old new : Marks) (spot : Spot) (s t : BTreeSet Spot) (lists : Lists all s.keys old) (nowhere : map.get old spot.1.items ≡ None) (puts : Puts spot.1.items spot.0 old new) (comes : Sets spot true s t) where
  put_there : (q : List ℕ) → same q spot.1.items ≡ true → map.get new q ≡ Some spot.0
  put_there q is = puts q ∙ ap (λ b. cond b (Some spot.0) (map.get old q)) is

  put_not : (q : List ℕ) → same q spot.1.items ≡ false → map.get new q ≡ map.get old q
  put_not q isnt = puts q ∙ ap (λ b. cond b (Some spot.0) (map.get old q)) isnt

  -- a name that was nowhere
  pub lists_added : Lists all t.keys new
  lists_added = record {
    sound = λ q k e.
        by_cases (map.get new q ≡ Some k) (is_spot k q spot)
        (λ is. let at = spot_is k q spot is in put_there q at.1 ∙ ap Some (sym at.0))
        (λ isnt.
        let was = lists.sound q k (sym (comes q k ∙ ap (λ b. cond b true (is_listed k q s.keys)) isnt) ∙ e) in
        by_cases (map.get new q ≡ Some k) (same q spot.1.items)
        (λ is. absurd (no_place k (sym nowhere ∙ ap (map.get old) (sym (one_name q spot.1.items is)) ∙ was)))
        (λ other. put_not q other ∙ was));
    whole = λ listed q k e.
        by_cases (is_listed k q t.keys ≡ true) (same q spot.1.items)
        (λ is. comes q k ∙ ap (λ b. cond b true (is_listed k q s.keys)) (spot_there k q spot (one_place k spot.0 (sym e ∙ put_there q is)) is))
        (λ other.
        comes q k ∙ ap (cond (is_spot k q spot) true) (lists.whole listed q k (sym (put_not q other) ∙ e))
        ∙ elim (is_spot k q spot) as (λ b. cond b true true ≡ true) [ true ↦ refl | false ↦ refl ]);
  }

module _ (all : Bool) (old new : Marks) (before spot : Spot) (s t u : BTreeSet Spot) (lists : Lists all s.keys old) (there : map.get old before.1.items ≡ Some before.0) (name : spot.1.items ≡ before.1.items) (elsewhere : spot.0 ≢ before.0) (puts : Puts spot.1.items spot.0 old new) (comes : Sets spot true s t) (goes : Sets before false t u) where
  moved_there : (q : List ℕ) → same q spot.1.items ≡ true → map.get new q ≡ Some spot.0
  moved_there q is = puts q ∙ ap (λ b. cond b (Some spot.0) (map.get old q)) is

  moved_not : (q : List ℕ) → same q spot.1.items ≡ false → map.get new q ≡ map.get old q
  moved_not q isnt = puts q ∙ ap (λ b. cond b (Some spot.0) (map.get old q)) isnt

  -- the name's old spot
  old_spot : (q : List ℕ) (k : ℕ) → same q spot.1.items ≡ true → map.get old q ≡ Some k → is_spot k q before ≡ true
  old_spot q k is was =
      spot_there k q before (one_place k before.0 (sym was ∙ ap (map.get old) (one_name q spot.1.items is ∙ name) ∙ there))
      (ap (same q) (sym name) ∙ is)

  stays : (q : List ℕ) (k : ℕ) → is_spot k q before ≡ false → is_listed k q u.keys ≡ cond (is_spot k q spot) true (is_listed k q s.keys)
  stays q k isnt = goes q k ∙ ap (λ b. cond b false (is_listed k q t.keys)) isnt ∙ comes q k

  -- a name that goes elsewhere
  pub lists_moved : Lists all u.keys new
  lists_moved = record {
    sound = λ q k e.
        by_cases (map.get new q ≡ Some k) (is_spot k q before)
        (λ is. absurd (true≢false (sym e ∙ goes q k ∙ ap (λ b. cond b false (is_listed k q t.keys)) is)))
        (λ isnt.
        by_cases (map.get new q ≡ Some k) (is_spot k q spot)
        (λ is. let at = spot_is k q spot is in moved_there q at.1 ∙ ap Some (sym at.0))
        (λ other.
        let was = lists.sound q k (sym (stays q k isnt ∙ ap (λ b. cond b true (is_listed k q s.keys)) other) ∙ e) in
        by_cases (map.get new q ≡ Some k) (same q spot.1.items)
        (λ is. absurd (true≢false (sym (old_spot q k is was) ∙ isnt)))
        (λ apart. moved_not q apart ∙ was)));
    whole = λ listed q k e.
        by_cases (is_listed k q u.keys ≡ true) (same q spot.1.items)
        (λ is.
        let at : k ≡ spot.0 = one_place k spot.0 (sym e ∙ moved_there q is) in
        by_cases (is_listed k q u.keys ≡ true) (is_spot k q before)
        (λ both. absurd (elsewhere (sym at ∙ (spot_is k q before both).0)))
        (λ isnt. stays q k isnt ∙ ap (λ b. cond b true (is_listed k q s.keys)) (spot_there k q spot at is)))
        (λ apart.
        let was = lists.whole listed q k (sym (moved_not q apart) ∙ e) in
        by_cases (is_listed k q u.keys ≡ true) (is_spot k q before)
        (λ is. absurd (true≢false (sym (ap (same q) name ∙ (spot_is k q before is).1) ∙ apart)))
        (λ isnt.
        stays q k isnt ∙ ap (cond (is_spot k q spot) true) was
        ∙ elim (is_spot k q spot) as (λ b. cond b true true ≡ true) [ true ↦ refl | false ↦ refl ]));
  }

-- a name that was nowhere, put and taken back
pub put_back : (name : List ℕ) (place : ℕ) (old new last : Marks) → map.get old name ≡ None → Puts name place old new → ((q : List ℕ) → map.get last q ≡ cond (same q name) None (map.get new q)) → last ≡ old
put_back name place old new last nowhere puts drops =
    alike _ _ (λ q.
    by_cases (map.get last q ≡ map.get old q) (same q name)
    (λ is. drops q ∙ ap (λ b. cond b None (map.get new q)) is ∙ sym (ap (map.get old) (one_name q name is) ∙ nowhere))
    (λ isnt. drops q ∙ ap (λ b. cond b None (map.get new q)) isnt ∙ puts q ∙ ap (λ b. cond b (Some place) (map.get old q)) isnt))

-- ---- names that go by a test of their places

-- those that pass are all there still
pub record Keeps (p : ℕ → Bool) (all : Bool) (spots : List Spot) (marks first : Marks) : Type 0 where
  pub lists : Lists all spots marks
  pub passing : (q : List ℕ) → kept p (map.get marks q) ≡ kept p (map.get first q)

pub keeps_first : (p : ℕ → Bool) (all : Bool) (spots : List Spot) (marks : Marks) → Lists all spots marks → Keeps p all spots marks marks
keeps_first p all spots marks lists = record { lists = lists; passing = λ q. refl }

module _ (p : ℕ → Bool) (all : Bool) (spot : Spot) (s t : List Spot) (old new first : Marks) (keeps : Keeps p all s old first) (takes : Takes spot s t) (fails : p spot.0 ≡ false) (drops : (q : List ℕ) → map.get new q ≡ cond (same q spot.1.items) None (map.get old q)) where
  it_was : (q : List ℕ) → same q spot.1.items ≡ true → map.get old q ≡ Some spot.0
  it_was q is = ap (map.get old) (one_name q spot.1.items is) ∙ keeps.lists.sound spot.1.items spot.0 takes.was

  dropped : (q : List ℕ) → same q spot.1.items ≡ true → map.get new q ≡ None
  dropped q is = drops q ∙ ap (λ b. cond b None (map.get old q)) is

  left : (q : List ℕ) → same q spot.1.items ≡ false → map.get new q ≡ map.get old q
  left q isnt = drops q ∙ ap (λ b. cond b None (map.get old q)) isnt

  lists_left : Lists all t new
  lists_left = record {
    sound = λ q k e.
        by_cases (map.get new q ≡ Some k) (is_spot k q spot)
        (λ is. absurd (true≢false (sym e ∙ takes.others q k ∙ ap (λ b. cond b false (is_listed k q s)) is)))
        (λ isnt.
        let was = keeps.lists.sound q k (sym (takes.others q k ∙ ap (λ b. cond b false (is_listed k q s)) isnt) ∙ e) in
        by_cases (map.get new q ≡ Some k) (same q spot.1.items)
        (λ is. absurd (true≢false (sym (spot_there k q spot (one_place k spot.0 (sym was ∙ it_was q is)) is) ∙ isnt)))
        (λ other. left q other ∙ was));
    whole = λ listed q k e.
        by_cases (is_listed k q t ≡ true) (same q spot.1.items)
        (λ is. absurd (no_place k (sym (dropped q is) ∙ e)))
        (λ other.
        by_cases (is_listed k q t ≡ true) (is_spot k q spot)
        (λ is. absurd (true≢false (sym (spot_is k q spot is).1 ∙ other)))
        (λ isnt. takes.others q k ∙ ap (λ b. cond b false (is_listed k q s)) isnt ∙ keeps.lists.whole listed q k (sym (left q other) ∙ e)));
  }

  passing_left : (q : List ℕ) → kept p (map.get new q) ≡ kept p (map.get old q)
  passing_left q =
      by_cases (kept p (map.get new q) ≡ kept p (map.get old q)) (same q spot.1.items)
      (λ is. ap (kept p) (dropped q is) ∙ sym (ap (kept p) (it_was q is) ∙ ap (λ b. cond b (Some spot.0) None) fails))
      (λ other. ap (kept p) (left q other))

  -- one that fails goes
  pub keeps_next : Keeps p all t new first
  keeps_next = record { lists = lists_left; passing = λ q. passing_left q ∙ keeps.passing q }

module _ (p : ℕ → Bool) (all : Bool) (spots : List Spot) (marks first : Marks) (keeps : Keeps p all spots marks first) (pass : (q : List ℕ) (k : ℕ) → is_listed k q spots ≡ true → p k ≡ true) where
  -- where all are listed, and each that is listed passes, the others are gone
  pub all_pass : all ≡ true → (q : List ℕ) → map.get marks q ≡ kept p (map.get first q)
  all_pass listed q =
      elim (map.get marks q) as (λ o. map.get marks q ≡ o → map.get marks q ≡ kept p (map.get first q)) [
        | None ↦ λ e. e ∙ sym (ap (kept p) e) ∙ keeps.passing q
        | Some k ↦ λ e. e ∙ ap (λ b. cond b (Some k) None) (sym (pass q k (keeps.lists.whole listed q k e))) ∙ sym (ap (kept p) e) ∙ keeps.passing q
      ] refl

  -- else they are looked through
  pub rest_passes : (new : Marks) → all ≡ false → ((q : List ℕ) → map.get new q ≡ kept p (map.get marks q)) → Lists all spots new
  rest_passes new isnt is = record {
    sound = λ q k e. is q ∙ ap (kept p) (keeps.lists.sound q k e) ∙ ap (λ b. cond b (Some k) None) (pass q k e);
    whole = λ listed q k e. absurd (true≢false (sym listed ∙ isnt));
  }

-- ---- the tests

all_listed : (p : ℕ → Bool) (spots : List Spot) → AllByRecursion (λ s. p s.0 ≡ true) spots → (q : List ℕ) (k : ℕ) → is_listed k q spots ≡ true → p k ≡ true
all_listed p [] pass q k e = absurd (true≢false (sym e))
all_listed p (s ∷ spots) pass q k e =
    by_cases (p k ≡ true) (is_spot k q s)
    (λ is. ap p (spot_is k q s is).0 ∙ pass.0)
    (λ isnt. all_listed p spots pass.1 q k (sym (ap (λ b. b || is_listed k q spots) isnt) ∙ e))

all_upto : (place : ℕ) (spots : List Spot) → AllByRecursion (λ s. s.0 ≤ place) spots → AllByRecursion (λ s. nat_le s.0 place ≡ true) spots
all_upto place [] h = tt
all_upto place (s ∷ spots) h = (is_there s.0 place h.0, all_upto place spots h.1)

pub listed_upto : (place : ℕ) (spots : List Spot) → AllByRecursion (λ s. s.0 ≤ place) spots → (q : List ℕ) (k : ℕ) → is_listed k q spots ≡ true → nat_le k place ≡ true
listed_upto place spots h = all_listed (λ k. nat_le k place) spots (all_upto place spots h)

all_from : (place : ℕ) (spots : List Spot) → AllByRecursion (λ s. place ≤ s.0) spots → AllByRecursion (λ s. nat_le place s.0 ≡ true) spots
all_from place [] h = tt
all_from place (s ∷ spots) h = (is_there place s.0 h.0, all_from place spots h.1)

pub listed_from : (place : ℕ) (spots : List Spot) → AllByRecursion (λ s. place ≤ s.0) spots → (q : List ℕ) (k : ℕ) → is_listed k q spots ≡ true → nat_le place k ≡ true
listed_from place spots h = all_listed (λ k. nat_le place k) spots (all_from place spots h)

upto_kept : (place : ℕ) (o : Option ℕ) → kept (λ k. nat_le k place) o ≡ cond (is_upto place o) o None
upto_kept place None = refl
upto_kept place (Some k) = refl

from_kept : (place : ℕ) (o : Option ℕ) → kept (λ k. nat_le place k) o ≡ cond (is_from place o) o None
from_kept place None = refl
from_kept place (Some k) = refl

pub upto_is : (place : ℕ) (new first : Marks) → ((q : List ℕ) → map.get new q ≡ kept (λ k. nat_le k place) (map.get first q)) → new ≡ marks_upto place first
upto_is place new first is = alike _ _ (λ q. is q ∙ upto_kept place (map.get first q) ∙ sym (get_upto first place q))

pub from_is : (place : ℕ) (new first : Marks) → ((q : List ℕ) → map.get new q ≡ kept (λ k. nat_le place k) (map.get first q)) → new ≡ marks_from place first
from_is place new first is = alike _ _ (λ q. is q ∙ from_kept place (map.get first q) ∙ sym (get_from first place q))

-- ---- the last spot, and the first

below_last : (i j : ℕ) (r o : Ordering) → r ≡ nat_cmp i j → is_lt (ordering_then r o) ≡ false → j ≤ i
below_last i j Less o is e = absurd (true≢false e)
below_last i j Equal o is e = let at = ranked i j Equal is in omega (arith, at)
below_last i j Greater o is e = let at = ranked i j Greater is in omega (arith, at)

above_first : (i j : ℕ) (r o : Ordering) → r ≡ nat_cmp i j → is_gt (ordering_then r o) ≡ false → i ≤ j
above_first i j Less o is e = let at = ranked i j Less is in omega (arith, at)
above_first i j Equal o is e = let at = ranked i j Equal is in omega (arith, at)
above_first i j Greater o is e = absurd (true≢false e)

pub last_taken : (r : Option Spot) (s n : BTreeSet Spot) (last : Spot) (place : ℕ) → place < last.0 → IsTrue (contains by_spot s last) → IfSome r (λ k. IsTrue (contains by_spot s k)) → IfSome r (IsUpperBound by_spot s) → IfSome r (λ k. Updates by_spot s n k false) → length n.keys + cond (is_some r) 1 0 ≡ length s.keys → IfSome r (λ k. (place < k.0) × Takes k s.keys n.keys)
last_taken None s n last place h among member greatest updates len = tt
last_taken (Some k) s n last place h among member greatest updates len =
    let at = below_last k.0 last.0 (nat_cmp k.0 last.0) (order k.1.items last.1.items) refl (greatest last among) in
    (omega (arith, h, at), takes_from k s n member updates len)

pub first_taken : (r : Option Spot) (s n : BTreeSet Spot) (first : Spot) (place : ℕ) → first.0 < place → IsTrue (contains by_spot s first) → IfSome r (λ k. IsTrue (contains by_spot s k)) → IfSome r (IsLowerBound by_spot s) → IfSome r (λ k. Updates by_spot s n k false) → length n.keys + cond (is_some r) 1 0 ≡ length s.keys → IfSome r (λ k. (k.0 < place) × Takes k s.keys n.keys)
first_taken None s n first place h among member least updates len = tt
first_taken (Some k) s n first place h among member least updates len =
    let at = above_first k.0 first.0 (nat_cmp k.0 first.0) (order k.1.items first.1.items) refl (least first among) in
    (omega (arith, h, at), takes_from k s n member updates len)
