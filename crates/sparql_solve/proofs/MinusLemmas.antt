-- Minus of rows, part by part.
use Rattle.std.proofs.Common.{◌≡◌, ℕ, suc, ◌+◌, ◌<◌, ◌≤◌, Bool, true, false, cond, not, ◌&&◌, ◌||◌, List, [], ◌∷◌, ◌++◌, map, filter, get_or, Some, None, refl, sym, ap, ◌∙◌, subst, length, take, drop, arith, append_assoc, nat_eq, Bor}
use mathlib.Core.Bool.{true≢false}
use Rattle.std.specs.List.{All, flat_map, list_any, sum_by}
use Rattle.std.proofs.lemmas.Bool.{eqb-true}
use Rattle.std.proofs.lemmas.List.{drop_more, take_all}
use Rattle.std.proofs.lemmas.List.Folds.{list_any-append, list_any_at}
use Rattle.sparql_values.specs.Mapping.{Mapping, compatible, merge}
use Rattle.sparql_algebra.specs.Bags.{SameBag}
use Rattle.sparql_algebra.proofs.CallerLemmas.{SameBag-refl}
use Rattle.sparql_algebra.specs.Solutions.{merges, minuses, shares, left_by}
use Rattle.sparql_algebra.specs.Under.{agreeing}
use Rattle.sparql_algebra.proofs.CallerLemmas.{any_filtered, SameBag-minuses}
use Rattle.sparql_solve.specs.Keys.{binds}
use Rattle.sparql_solve.specs.Parts.{is_left, left_in, meets, meets_in, part_run}
use Rattle.sparql_solve.specs.Under.{where_none}
use Rattle.sparql_solve.specs.declared.keyed.Part.{Part}
use Rattle.sparql_solve.proofs.KeyLemmas.{rows_of}
use Rattle.sparql_solve.proofs.BoundColumnLemmas.{AreBoundIn}
use Rattle.sparql_solve.proofs.PartLemmas.{Rows, all_rows, one_group, rows_more}

-- ---- what stays

-- a mapping stays where it has no merge with those that have a variable in common with it
left_one : (S : List Mapping) (x : Mapping) → where_none x (merges (filter (shares x) S) x) ≡ cond (left_by shares S x) (x ∷ []) []
left_one [] x = refl
left_one (y ∷ S) x = by_test (shares x y) (compatible x y) refl (left_one S x)
  where
    by_test : (b c : Bool) → compatible x y ≡ c → where_none x (merges (filter (shares x) S) x) ≡ cond (left_by shares S x) (x ∷ []) [] →
        where_none x (merges (cond b (y ∷ filter (shares x) S) (filter (shares x) S)) x)
        ≡ cond (not ((c && b) || list_any (λ z. compatible x z && shares x z) S)) (x ∷ []) []
    by_test true true e r =
        ap (λ t. where_none x (map (merge x) (cond t (y ∷ filter (compatible x) (filter (shares x) S)) (filter (compatible x) (filter (shares x) S))))) e
    by_test true false e r =
        ap (λ t. where_none x (map (merge x) (cond t (y ∷ filter (compatible x) (filter (shares x) S)) (filter (compatible x) (filter (shares x) S))))) e ∙ r
    by_test false true e r = r
    by_test false false e r = r

flat_cond : (q : Mapping → Bool) (xs : List Mapping) → flat_map (λ x. cond (q x) (x ∷ []) []) xs ≡ filter q xs
flat_cond q [] = refl
flat_cond q (x ∷ xs) = by_test (q x) (flat_cond q xs)
  where
    by_test : (b : Bool) → flat_map (λ y. cond (q y) (y ∷ []) []) xs ≡ filter q xs →
        cond b (x ∷ []) [] ++ flat_map (λ y. cond (q y) (y ∷ []) []) xs ≡ cond b (x ∷ filter q xs) (filter q xs)
    by_test true r = ap (λ (l : List Mapping). x ∷ l) r
    by_test false r = r

flat_same : (f g : Mapping → List Mapping) (xs : List Mapping) → ((x : Mapping) → f x ≡ g x) → flat_map f xs ≡ flat_map g xs
flat_same f g [] e = refl
flat_same f g (x ∷ xs) e = λ i. e x i ++ flat_same f g xs e i

pub all_left : (S xs : List Mapping) → flat_map (λ x. where_none x (merges (filter (shares x) S) x)) xs ≡ minuses xs S
all_left S xs =
    flat_same (λ x. where_none x (merges (filter (shares x) S) x)) (λ x. cond (left_by shares S x) (x ∷ []) []) xs (left_one S)
    ∙ flat_cond (left_by shares S) xs

pub any_of_rows : (p : Mapping → Bool) (xs : Rows) → list_any p (rows_of xs) ≡ list_any (λ (r : Bor Mapping). p r.now) xs
any_of_rows p [] = refl
any_of_rows p (x ∷ xs) = ap (λ b. p x.now || b) (any_of_rows p xs)

-- ---- columns

-- a column that both mappings bind
shared_column : (a y : Mapping) → shares a y ≡ true → (c : ℕ) × ((c < length a) × ((binds c a ≡ true) × (binds c y ≡ true)))
shared_column [] y h = cc
shared_column (x ∷ a) [] h = cc
shared_column (Some s ∷ a) (Some t ∷ y) h = (0, ((let z : 0 < length (Some s ∷ a) = omega arith in z), (refl, refl)))
shared_column (Some s ∷ a) (None ∷ y) h =
    let r : (c : ℕ) × ((c < length a) × ((binds c a ≡ true) × (binds c y ≡ true))) = shared_column a y h in
    (suc r.0, ((let z : r.0 < length a = r.1.0 in omega (arith, z)), r.1.1))
shared_column (None ∷ a) (z ∷ y) h =
    let r : (c : ℕ) × ((c < length a) × ((binds c a ≡ true) × (binds c y ≡ true))) = shared_column a y h in
    (suc r.0, ((let z : r.0 < length a = r.1.0 in omega (arith, z)), r.1.1))

-- an element that passes
or_right : (a b : Bool) → b ≡ true → (a || b) ≡ true
or_right true b h = refl
or_right false b h = h

module _ {X : Type 0} (p : X → Bool) where
  passes : (xs : List X) → list_any p xs ≡ true → (x : X) × ((p x ≡ true) × ((q : X → Bool) → q x ≡ true → list_any q xs ≡ true))
  passes [] h = cc
  passes (x ∷ xs) h = by_test (p x) refl h (passes xs)
    where
      by_test : (b : Bool) → p x ≡ b → (b || list_any p xs) ≡ true →
          (list_any p xs ≡ true → (y : X) × ((p y ≡ true) × ((q : X → Bool) → q y ≡ true → list_any q xs ≡ true))) →
          (y : X) × ((p y ≡ true) × ((q : X → Bool) → q y ≡ true → list_any q (x ∷ xs) ≡ true))
      by_test true e k r = (x, (e, λ q f. ap (λ c. c || list_any q xs) f))
      by_test false e k r =
          let there : (y : X) × ((p y ≡ true) × ((q : X → Bool) → q y ≡ true → list_any q xs ≡ true)) = r k in
          (there.0, (there.1.0, λ q f. or_right (q x) (list_any q xs) (there.1.1 q f)))

-- no column that a row of each side binds
pub none_shared : (L R : List Mapping) (columns : List ℕ) → AreBoundIn columns L → list_any (λ c. list_any (binds c) R) columns ≡ false →
    All (λ a. list_any (shares a) R ≡ false) L
none_shared L R columns h none k d lt = by_test (list_any (shares (get_or L k d)) R) refl
  where
    by_test : (b : Bool) → list_any (shares (get_or L k d)) R ≡ b → b ≡ false
    by_test false e = refl
    by_test true e =
        let a : Mapping = get_or L k d in
        let y : (y : Mapping) × ((shares a y ≡ true) × ((q : Mapping → Bool) → q y ≡ true → list_any q R ≡ true)) = passes (shares a) R e in
        let c : (c : ℕ) × ((c < length a) × ((binds c a ≡ true) × (binds c y.0 ≡ true))) = shared_column a y.0 y.1.0 in
        let left : list_any (binds c.0) L ≡ true = list_any_at (binds c.0) L k d lt c.1.1.0 in
        let right : list_any (binds c.0) R ≡ true = y.1.1 (binds c.0) c.1.1.1 in
        let there : (n : ℕ) × ((nat_eq c.0 n ≡ true) × ((q : ℕ → Bool) → q n ≡ true → list_any q columns ≡ true)) = passes (nat_eq c.0) columns (h c.0 ∙ left) in
        let is : c.0 ≡ there.0 = eqb-true c.0 there.0 there.1.0 in
        absurd (true≢false (sym (there.1.1 (λ n. list_any (binds n) R) (subst (λ n. list_any (binds n) R ≡ true) is right)) ∙ none))

-- ---- parts

meets_none : (a : Mapping) (B : List Mapping) → list_any (shares a) B ≡ false → list_any (meets a) B ≡ false
meets_none a [] h = refl
meets_none a (y ∷ B) h = by_test (shares a y) (compatible a y) h (meets_none a B)
  where
    by_test : (s c : Bool) → (s || list_any (shares a) B) ≡ false → (list_any (shares a) B ≡ false → list_any (meets a) B ≡ false) →
        ((c && s) || list_any (meets a) B) ≡ false
    by_test true c k r = cc
    by_test false true k r = r k
    by_test false false k r = r k

or_false : (b : Bool) → (b || false) ≡ b
or_false true = refl
or_false false = refl

module _ (A : List Mapping) (right : List (Bor Rows)) (i : ℕ) (x : Bor Rows) (lt : i < length right) (here : x ≡ get_or right i x) where
  -- one part more, or one with which nothing is shared
  pub one_met : (parts after : List Part) (p : Part) → All (λ a. list_any (meets_in a) parts ≡ list_any (meets a) (all_rows (take i right))) A →
      All (λ a. agreeing (part_run a p) a ≡ agreeing (rows_of x.now) a) A → after ≡ parts ++ p ∷ [] →
      All (λ a. list_any (meets_in a) after ≡ list_any (meets a) (all_rows (take (i + 1) right))) A
  one_met parts after p h hp e k d l =
      let a : Mapping = get_or A k d in
      let front : List Mapping = all_rows (take i right) in
      ap (list_any (meets_in a)) e ∙ list_any-append (meets_in a) parts (p ∷ [])
      ∙ ap (λ b. b || (meets_in a p || false)) (h k d l)
      ∙ ap (λ b. list_any (meets a) front || b)
      (or_false (meets_in a p) ∙ sym (any_filtered (compatible a) (shares a) (part_run a p)) ∙ ap (list_any (shares a)) (hp k d l)
      ∙ any_filtered (compatible a) (shares a) (rows_of x.now))
      ∙ sym (list_any-append (meets a) front (rows_of x.now)) ∙ ap (list_any (meets a)) (sym (rows_more right i x lt here))

  pub one_passed : (parts : List Part) → All (λ a. list_any (meets_in a) parts ≡ list_any (meets a) (all_rows (take i right))) A →
      All (λ a. list_any (shares a) (rows_of x.now) ≡ false) A →
      All (λ a. list_any (meets_in a) parts ≡ list_any (meets a) (all_rows (take (i + 1) right))) A
  one_passed parts h none k d l =
      let a : Mapping = get_or A k d in
      let front : List Mapping = all_rows (take i right) in
      h k d l ∙ sym (or_false (list_any (meets a) front)) ∙ ap (λ b. list_any (meets a) front || b) (sym (meets_none a (rows_of x.now) (none k d l)))
      ∙ sym (list_any-append (meets a) front (rows_of x.now)) ∙ ap (list_any (meets a)) (sym (rows_more right i x lt here))

pub all_met : (A : List Mapping) (right : List (Bor Rows)) (i : ℕ) (parts : List Part) → length right ≤ i →
    All (λ a. list_any (meets_in a) parts ≡ list_any (meets a) (all_rows (take i right))) A →
    All (λ a. list_any (meets_in a) parts ≡ list_any (meets a) (all_rows right)) A
all_met A right i parts le h =
    subst (λ (ps : List (Bor Rows)). All (λ a. list_any (meets_in a) parts ≡ list_any (meets a) (all_rows ps)) A) (take_all i right le) h

module _ (parts : List Part) (rows : Rows) (i : ℕ) (x : Bor Mapping) (b : Bool) (out whole : List Mapping) (lt : i < length rows) (here : x ≡ get_or rows i x)
    (eb : b ≡ list_any (meets_in x.now) parts) (h : out ++ flat_map (left_in parts) (rows_of (drop i rows)) ≡ whole) where
  next_left : out ++ (cond b [] (x.now ∷ []) ++ flat_map (left_in parts) (rows_of (drop (i + 1) rows))) ≡ whole
  next_left =
      ap (λ t. out ++ (cond t [] (x.now ∷ []) ++ flat_map (left_in parts) (rows_of (drop (i + 1) rows)))) eb
      ∙ ap (λ (ys : Rows). out ++ flat_map (left_in parts) (rows_of ys)) (sym (drop_more rows i x lt ∙ ap (λ (y : Bor Mapping). y ∷ drop (i + 1) rows) (sym here))) ∙ h

  pub one_taken : b ≡ true → out ++ flat_map (left_in parts) (rows_of (drop (i + 1) rows)) ≡ whole
  one_taken t = ap (λ c. out ++ (cond c [] (x.now ∷ []) ++ flat_map (left_in parts) (rows_of (drop (i + 1) rows)))) (sym t) ∙ next_left

  pub one_kept : (copy : Mapping) (after : List Mapping) → b ≡ false → copy ≡ x.now → after ≡ out ++ copy ∷ [] →
      after ++ flat_map (left_in parts) (rows_of (drop (i + 1) rows)) ≡ whole
  one_kept copy after t ec ea =
      ap (λ (xs : List Mapping). xs ++ flat_map (left_in parts) (rows_of (drop (i + 1) rows))) (ea ∙ ap (λ (m : Mapping). out ++ m ∷ []) ec)
      ∙ append_assoc out (x.now ∷ []) (flat_map (left_in parts) (rows_of (drop (i + 1) rows)))
      ∙ ap (λ c. out ++ (cond c [] (x.now ∷ []) ++ flat_map (left_in parts) (rows_of (drop (i + 1) rows)))) (sym t) ∙ next_left

-- ---- groups

cond_not : (b : Bool) (x : Mapping) → cond b [] (x ∷ []) ≡ cond (not b) (x ∷ []) []
cond_not true x = refl
cond_not false x = refl

abbrev left_of : List Mapping → Mapping → List Mapping
left_of B a = cond (left_by shares B a) (a ∷ []) []

pub group_left : (groups : List (Bor Rows)) (i : ℕ) (x : Bor Rows) (others given : List (Bor Rows)) (parts used : List Part) (out after : List Mapping) →
    i < length groups → x ≡ get_or groups i x → given ≡ others → used ≡ parts →
    All (λ a. list_any (meets_in a) parts ≡ list_any (meets a) (all_rows given)) (rows_of x.now) →
    out ≡ minuses (all_rows (take i groups)) (all_rows others) → after ≡ out ++ flat_map (left_in used) (rows_of x.now) →
    after ≡ minuses (all_rows (take (i + 1) groups)) (all_rows others)
group_left groups i x others given parts used out after lt here eg eu r h e =
    one_group (left_of (all_rows others)) (left_in used) groups i x out after lt here
    (h ∙ sym (flat_cond (left_by shares (all_rows others)) (all_rows (take i groups))))
    (λ k d l. let a : Mapping = get_or (rows_of x.now) k d in
    ap (λ (ps : List Part). left_in ps a) eu ∙ cond_not (list_any (meets_in a) parts) a
    ∙ ap (λ b. cond (not b) (a ∷ []) []) (r k d l ∙ ap (λ (ps : List (Bor Rows)). list_any (meets a) (all_rows ps)) eg)) e
    ∙ flat_cond (left_by shares (all_rows others)) (all_rows (take (i + 1) groups))

module _ (L R : List Mapping) (ls rs used seen : Rows) (groups others : List (Bor Rows)) (i : ℕ) (out : List Mapping) (bl : SameBag (rows_of ls) L)
    (br : SameBag (rows_of rs) R) (el : used ≡ ls) (er : seen ≡ rs) (gl : all_rows groups ≡ rows_of used) (gr : all_rows others ≡ rows_of seen)
    (lt : length groups ≤ i) where
  pub all_groups_left : out ≡ minuses (all_rows (take i groups)) (all_rows others) → SameBag out (minuses L R)
  all_groups_left h f =
      ap (sum_by f)
      (h ∙ ap (λ (A : List Mapping). minuses A (all_rows others)) (ap all_rows (take_all i groups lt) ∙ gl ∙ ap rows_of el)
      ∙ ap (minuses (rows_of ls)) (gr ∙ ap rows_of er))
      ∙ SameBag-minuses (rows_of ls) L (rows_of rs) R bl br f

-- ---- rows that are moved on

filter_where : (p q : Mapping → Bool) (xs : List Mapping) → All (λ a. p a ≡ q a) xs → filter p xs ≡ filter q xs
filter_where p q [] h = refl
filter_where p q (x ∷ xs) h =
    ap (λ b. cond b (x ∷ filter p xs) (filter p xs)) (h 0 x (omega arith))
    ∙ ap (λ (l : List Mapping). cond (q x) (x ∷ l) l) (filter_where p q xs (λ k d lt. h (suc k) d (omega arith)))

module _ (L R : List Mapping) (lent rs seen : Rows) (others given : List (Bor Rows)) (parts used : List Part) (out : List Mapping) (el : rows_of lent ≡ L)
    (br : SameBag (rows_of rs) R) (es : seen ≡ rs) (go : all_rows others ≡ rows_of seen) (eg : given ≡ others) (eu : used ≡ parts) where
  pub moved_left : All (λ a. list_any (meets_in a) parts ≡ list_any (meets a) (all_rows given)) (rows_of lent) → out ≡ filter (is_left used) L →
      SameBag out (minuses L R)
  moved_left r e f =
      let stays : All (λ a. is_left parts a ≡ left_by shares (all_rows others) a) (rows_of lent) =
      λ k d l. ap not (r k d l) ∙ ap (λ (ps : List (Bor Rows)). left_by shares (all_rows ps) (get_or (rows_of lent) k d)) eg in
      ap (sum_by f)
      (e ∙ ap (λ (ps : List Part). filter (is_left ps) L) eu
      ∙ filter_where (is_left parts) (left_by shares (all_rows others)) L
      (subst (λ (A : List Mapping). All (λ a. is_left parts a ≡ left_by shares (all_rows others) a) A) el stays)
      ∙ ap (minuses L) (go ∙ ap rows_of es))
      ∙ SameBag-minuses L L (rows_of rs) R (SameBag-refl L) br f
