-- The parts of a join's sides: that all of them together are the sides, and each by its key gives its merges.
use Rattle.std.proofs.Common.{◌≡◌, ℕ, suc, ◌+◌, ◌<◌, ◌≤◌, Bool, true, false, cond, List, [], ◌∷◌, ◌++◌, map, filter, refl, sym, ap, ◌∙◌, subst, length, take, drop, get_or, arith, append_assoc, append-nil, Bor}
use Rattle.std.specs.List.{All, flat_map, sum_by}
use Rattle.std.specs.List.Sorted.{IsPermutation}
use Rattle.std.proofs.lemmas.List.{get_or_default, length-append, map-append, take_all, take_more, take-append-drop}
use Rattle.std.proofs.lemmas.List.Concat.{flat_map-append}
use Rattle.std.proofs.lemmas.List.Elements.{filter-append}
use Rattle.std.proofs.lemmas.List.Sorted.{sum_by-IsPermutation}
use Rattle.sparql_values.specs.Mapping.{Mapping, compatible, merge}
use Rattle.sparql_algebra.specs.Bags.{SameBag}
use Rattle.sparql_algebra.specs.Solutions.{merges, joins, left_joins, or_alone}
use Rattle.sparql_algebra.specs.Under.{agreeing}
use Rattle.sparql_algebra.proofs.CallerLemmas.{sum_by-map, SameBag-joins, SameBag-left_joins, SameBag-refl}
use Rattle.sparql_solve.specs.declared.keyed.Part.{Part}
use Rattle.sparql_solve.specs.Keys.{IsIndex, IsKeyOf, run}
use Rattle.sparql_solve.specs.Parts.{merges_in, part_merges, part_run}
use Rattle.sparql_solve.proofs.KeyLemmas.{rows_of, compatible_in_run}

abbrev pub Rows : Type 0
Rows = List (Bor Mapping)

-- the rows of some parts, one after another
abbrev pub all_rows : List (Bor Rows) → List Mapping
all_rows parts = flat_map (λ p. rows_of p.now) parts

-- ---- the parts are all rows

pub parted_same : (rows : List Mapping) (xs ys : Rows) → rows_of xs ≡ rows → IsPermutation xs ys → SameBag (rows_of ys) rows
parted_same rows xs ys e p f =
    sum_by-map f (λ (r : Bor Mapping). r.now) ys ∙ sum_by-IsPermutation (λ (r : Bor Mapping). f r.now) xs ys p
    ∙ sym (sum_by-map f (λ (r : Bor Mapping). r.now) xs) ∙ ap (sum_by f) e

one_part : (p : Bor Rows) → all_rows (p ∷ []) ≡ rows_of p.now
one_part p = append-nil (rows_of p.now)

pub one_cut : (rows rest behind : Rows) (parts after : List (Bor Rows)) (part : Bor Rows) (n : ℕ) → all_rows parts ++ rows_of rest ≡ rows_of rows →
    part.now ≡ take n rest → behind ≡ drop n rest → after ≡ parts ++ part ∷ [] → all_rows after ++ rows_of behind ≡ rows_of rows
one_cut rows rest behind parts after part n h ep eb ea =
    let whole : rows_of part.now ++ rows_of behind ≡ rows_of rest =
    sym (map-append (λ (r : Bor Mapping). r.now) part.now behind) ∙ ap rows_of (ap (λ (l : Rows). l ++ behind) ep ∙ ap (λ (l : Rows). take n rest ++ l) eb ∙ take-append-drop n rest) in
    ap (λ (ps : List (Bor Rows)). all_rows ps ++ rows_of behind) ea
    ∙ ap (λ (l : List Mapping). l ++ rows_of behind) (flat_map-append (λ (p : Bor Rows). rows_of p.now) parts (part ∷ []))
    ∙ ap (λ (l : List Mapping). (all_rows parts ++ l) ++ rows_of behind) (one_part part)
    ∙ append_assoc (all_rows parts) (rows_of part.now) (rows_of behind)
    ∙ ap (λ (l : List Mapping). all_rows parts ++ l) whole ∙ h

nothing_left : (rest : Rows) → length rest ≡ 0 → rows_of rest ≡ []
nothing_left [] e = refl
nothing_left (x ∷ rest) e = absurd (omega (arith, e))

pub all_cut : (rows rest : Rows) (parts : List (Bor Rows)) → all_rows parts ++ rows_of rest ≡ rows_of rows → length rest ≡ 0 → all_rows parts ≡ rows_of rows
all_cut rows rest parts h e =
    sym (append-nil (all_rows parts)) ∙ ap (λ (l : List Mapping). all_rows parts ++ l) (sym (nothing_left rest e)) ∙ h

-- ---- each part by its key

pub part_gives : (columns used : List ℕ) (A B index : List Mapping) → used ≡ columns → IsKeyOf columns A B → IsIndex used B index →
    All (λ a. agreeing (run columns index a) a ≡ agreeing B a) A
part_gives columns used A B index e k h i d lt =
    compatible_in_run columns A B index i (get_or A i d) lt (get_or_default A i d (get_or A i d) lt) k (subst (λ (cs : List ℕ). IsIndex cs B index) e h)

merges-append : (B D : List Mapping) (a : Mapping) → merges (B ++ D) a ≡ merges B a ++ merges D a
merges-append B D a = ap (map (merge a)) (filter-append (compatible a) B D) ∙ map-append (merge a) (filter (compatible a) B) (filter (compatible a) D)

pub rows_more : (parts : List (Bor Rows)) (i : ℕ) (x : Bor Rows) → i < length parts → x ≡ get_or parts i x →
    all_rows (take (i + 1) parts) ≡ all_rows (take i parts) ++ rows_of x.now
rows_more parts i x lt here =
    ap all_rows (take_more parts i x lt ∙ ap (λ (y : Bor Rows). take i parts ++ y ∷ []) (sym here))
    ∙ flat_map-append (λ (q : Bor Rows). rows_of q.now) (take i parts) (x ∷ []) ∙ ap (λ (m : List Mapping). all_rows (take i parts) ++ m) (one_part x)

pub one_more_part : (A : List Mapping) (right : List (Bor Rows)) (i : ℕ) (x : Bor Rows) (parts after : List Part) (p : Part) → i < length right → x ≡ get_or right i x →
    All (λ a. merges_in parts a ≡ merges (all_rows (take i right)) a) A → All (λ a. agreeing (part_run a p) a ≡ agreeing (rows_of x.now) a) A → after ≡ parts ++ p ∷ [] →
    All (λ a. merges_in after a ≡ merges (all_rows (take (i + 1) right)) a) A
one_more_part A right i x parts after p lt here h hp e k d l =
    let a : Mapping = get_or A k d in
    let front : List Mapping = all_rows (take i right) in
    ap (λ (ps : List Part). merges_in ps a) e
    ∙ flat_map-append (part_merges a) parts (p ∷ [])
    ∙ ap (λ (m : List Mapping). m ++ flat_map (part_merges a) (p ∷ [])) (h k d l)
    ∙ ap (λ (m : List Mapping). merges front a ++ m) (append-nil (part_merges a p) ∙ ap (map (merge a)) (hp k d l))
    ∙ sym (merges-append front (rows_of x.now) a)
    ∙ ap (λ (B : List Mapping). merges B a) (sym (rows_more right i x lt here))

pub all_parts : (A : List Mapping) (right : List (Bor Rows)) (i : ℕ) (parts : List Part) → length right ≤ i →
    All (λ a. merges_in parts a ≡ merges (all_rows (take i right)) a) A → All (λ a. merges_in parts a ≡ merges (all_rows right) a) A
all_parts A right i parts lt h =
    subst (λ (ps : List (Bor Rows)). All (λ a. merges_in parts a ≡ merges (all_rows ps) a) A) (take_all i right lt) h

-- ---- what the parts give each row, they give all rows

module _ {X Y : Type 0} where
  flat_map_where : (F G : X → List Y) (xs : List X) → All (λ x. F x ≡ G x) xs → flat_map F xs ≡ flat_map G xs
  flat_map_where F G [] h = refl
  flat_map_where F G (x ∷ xs) h =
      ap (λ (l : List Y). l ++ flat_map F xs) (h 0 x (omega arith)) ∙ ap (λ (l : List Y). G x ++ l) (flat_map_where F G xs (λ k d lt. h (suc k) d (omega arith)))

-- one group more, where what it gives is what its rows do
pub one_group : (F G : Mapping → List Mapping) (groups : List (Bor Rows)) (i : ℕ) (x : Bor Rows) (out after : List Mapping) → i < length groups →
    x ≡ get_or groups i x → out ≡ flat_map F (all_rows (take i groups)) → All (λ a. G a ≡ F a) (rows_of x.now) → after ≡ out ++ flat_map G (rows_of x.now) →
    after ≡ flat_map F (all_rows (take (i + 1) groups))
one_group F G groups i x out after lt here h r e =
    let front : List Mapping = all_rows (take i groups) in
    e ∙ ap (λ (l : List Mapping). l ++ flat_map G (rows_of x.now)) h
    ∙ ap (λ (l : List Mapping). flat_map F front ++ l) (flat_map_where G F (rows_of x.now) r)
    ∙ sym (flat_map-append F front (rows_of x.now)) ∙ ap (flat_map F) (sym (rows_more groups i x lt here))

module _ (groups : List (Bor Rows)) (i : ℕ) (x : Bor Rows) (others given : List (Bor Rows)) (parts used : List Part) (out after : List Mapping)
    (lt : i < length groups) (here : x ≡ get_or groups i x) (eg : given ≡ others) (eu : used ≡ parts)
    (r : All (λ a. merges_in parts a ≡ merges (all_rows given) a) (rows_of x.now)) where
  same_merges : (k : ℕ) (d : Mapping) → k < length (rows_of x.now) → merges_in used (get_or (rows_of x.now) k d) ≡ merges (all_rows others) (get_or (rows_of x.now) k d)
  same_merges k d l =
      let a : Mapping = get_or (rows_of x.now) k d in
      ap (λ (ps : List Part). merges_in ps a) eu ∙ r k d l ∙ ap (λ (ps : List (Bor Rows)). merges (all_rows ps) a) eg

  pub group_joined : out ≡ joins (all_rows (take i groups)) (all_rows others) → after ≡ out ++ flat_map (merges_in used) (rows_of x.now) →
      after ≡ joins (all_rows (take (i + 1) groups)) (all_rows others)
  group_joined h e = one_group (merges (all_rows others)) (merges_in used) groups i x out after lt here h same_merges e

  pub group_left_joined : (T : Mapping → Bool) → out ≡ left_joins (all_rows (take i groups)) (all_rows others) T →
      after ≡ out ++ flat_map (λ a. or_alone a (filter T (merges_in used a))) (rows_of x.now) → after ≡ left_joins (all_rows (take (i + 1) groups)) (all_rows others) T
  group_left_joined T h e =
      one_group (λ a. or_alone a (filter T (merges (all_rows others) a))) (λ a. or_alone a (filter T (merges_in used a))) groups i x out after lt here h
      (λ k d l. ap (λ (m : List Mapping). or_alone (get_or (rows_of x.now) k d) (filter T m)) (same_merges k d l)) e

-- the groups and the parts are all rows of both sides
module _ (L R : List Mapping) (ls rs used seen : Rows) (groups others : List (Bor Rows)) (i : ℕ) (out : List Mapping) (bl : SameBag (rows_of ls) L)
    (br : SameBag (rows_of rs) R) (el : used ≡ ls) (er : seen ≡ rs) (gl : all_rows groups ≡ rows_of used) (gr : all_rows others ≡ rows_of seen)
    (lt : length groups ≤ i) where
  left_is : all_rows (take i groups) ≡ rows_of ls
  left_is = ap all_rows (take_all i groups lt) ∙ gl ∙ ap rows_of el

  right_is : all_rows others ≡ rows_of rs
  right_is = gr ∙ ap rows_of er

  pub all_joined : out ≡ joins (all_rows (take i groups)) (all_rows others) → SameBag out (joins L R)
  all_joined h f =
      ap (sum_by f) (h ∙ ap (λ (A : List Mapping). joins A (all_rows others)) left_is ∙ ap (joins (rows_of ls)) right_is)
      ∙ SameBag-joins (rows_of ls) L (rows_of rs) R bl br f

  pub all_left_joined : (T : Mapping → Bool) → out ≡ left_joins (all_rows (take i groups)) (all_rows others) T → SameBag out (left_joins L R T)
  all_left_joined T h f =
      ap (sum_by f) (h ∙ ap (λ (A : List Mapping). left_joins A (all_rows others) T) left_is ∙ ap (λ (B : List Mapping). left_joins (rows_of ls) B T) right_is)
      ∙ SameBag-left_joins T (rows_of ls) L (rows_of rs) R bl br f

-- ---- rows that are moved on

module _ (row : Mapping) (out M after : List Mapping) (e : after ≡ out ++ M) where
  pub some_merged : (length after ≡ length out → ⊥) → after ≡ out ++ or_alone row M
  some_merged n = by_merges M e
    where
      by_merges : (l : List Mapping) → after ≡ out ++ l → after ≡ out ++ or_alone row l
      by_merges [] k = absurd (n (ap length (k ∙ append-nil out)))
      by_merges (x ∷ l) k = k

  pub none_merged : (last : List Mapping) → length after ≡ length out → last ≡ after ++ row ∷ [] → last ≡ out ++ or_alone row M
  none_merged last n k = by_merges M e
    where
      by_merges : (l : List Mapping) → after ≡ out ++ l → last ≡ out ++ or_alone row l
      by_merges [] h = k ∙ ap (λ (xs : List Mapping). xs ++ row ∷ []) (h ∙ append-nil out)
      by_merges (x ∷ l) h = absurd (omega (arith, ap length h, length-append out (x ∷ l), n))

module _ (L R : List Mapping) (lent rs seen : Rows) (others given : List (Bor Rows)) (parts used : List Part) (out : List Mapping) (el : rows_of lent ≡ L)
    (br : SameBag (rows_of rs) R) (es : seen ≡ rs) (go : all_rows others ≡ rows_of seen) (eg : given ≡ others) (eu : used ≡ parts) (T : Mapping → Bool) where
  pub moved_left_joined : All (λ a. merges_in parts a ≡ merges (all_rows given) a) (rows_of lent) →
      out ≡ flat_map (λ a. or_alone a (filter T (merges_in used a))) L → SameBag out (left_joins L R T)
  moved_left_joined r e f =
      let same : All (λ a. merges_in used a ≡ merges (all_rows others) a) (rows_of lent) =
      λ k d l. let a : Mapping = get_or (rows_of lent) k d in
      ap (λ (ps : List Part). merges_in ps a) eu ∙ r k d l ∙ ap (λ (ps : List (Bor Rows)). merges (all_rows ps) a) eg in
      let here : All (λ a. merges_in used a ≡ merges (all_rows others) a) L =
      subst (λ (A : List Mapping). All (λ a. merges_in used a ≡ merges (all_rows others) a) A) el same in
      ap (sum_by f)
      (e ∙ flat_map_where (λ a. or_alone a (filter T (merges_in used a))) (λ a. or_alone a (filter T (merges (all_rows others) a))) L
      (λ k d l. ap (λ (m : List Mapping). or_alone (get_or L k d) (filter T m)) (here k d l))
      ∙ ap (λ (B : List Mapping). left_joins L B T) (go ∙ ap rows_of es))
      ∙ SameBag-left_joins T L L (rows_of rs) R (SameBag-refl L) br f

module _ (L R : List Mapping) (lent rs seen : Rows) (others given : List (Bor Rows)) (parts used : List Part) (out : List Mapping) (el : rows_of lent ≡ L)
    (br : SameBag (rows_of rs) R) (es : seen ≡ rs) (go : all_rows others ≡ rows_of seen) (eg : given ≡ others) (eu : used ≡ parts) where
  pub moved_joined : All (λ a. merges_in parts a ≡ merges (all_rows given) a) (rows_of lent) → out ≡ flat_map (merges_in used) L → SameBag out (joins L R)
  moved_joined r e f =
      let same : All (λ a. merges_in used a ≡ merges (all_rows others) a) (rows_of lent) =
      λ k d l. let a : Mapping = get_or (rows_of lent) k d in
      ap (λ (ps : List Part). merges_in ps a) eu ∙ r k d l ∙ ap (λ (ps : List (Bor Rows)). merges (all_rows ps) a) eg in
      let here : All (λ a. merges_in used a ≡ merges (all_rows others) a) L =
      subst (λ (A : List Mapping). All (λ a. merges_in used a ≡ merges (all_rows others) a) A) el same in
      ap (sum_by f) (e ∙ flat_map_where (merges_in used) (merges (all_rows others)) L here ∙ ap (λ (B : List Mapping). joins L B) (go ∙ ap rows_of es))
      ∙ SameBag-joins L L (rows_of rs) R (SameBag-refl L) br f

-- ---- a row and its only partner

pub lone_merges : (parts : List Part) (p : Part) (row other : Mapping) → parts ≡ p ∷ [] → part_run row p ≡ other ∷ [] → merges_in parts row ≡ merges (other ∷ []) row
lone_merges parts p row other e h =
    ap (λ (ps : List Part). merges_in ps row) e ∙ append-nil (part_merges row p) ∙ ap (λ (l : List Mapping). merges l row) h

pub one_merge : (row other : Mapping) → compatible row other ≡ true → merges (other ∷ []) row ≡ merge row other ∷ []
one_merge row other h = ap (λ (b : Bool). map (merge row) (cond b (other ∷ []) [])) h

pub no_merge : (row other : Mapping) → compatible row other ≡ false → merges (other ∷ []) row ≡ []
no_merge row other h = ap (λ (b : Bool). map (merge row) (cond b (other ∷ []) [])) h
