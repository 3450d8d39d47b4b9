-- The numbers that a document's blank nodes get, where their labels were written for numbers.
use Rattle.std.proofs.Common.{◌≡◌, ◌∙◌, ap, refl, sym, subst, inl, inr, ◌⊎◌, ℕ, zero, suc, ◌<◌, ◌≤◌, ◌^◌, arith, true, false, cond, nat_eq, List, [], ◌∷◌, ◌++◌, length, length-append, map, get_or, append_assoc, true≢false, None, Contains}
use Rattle.std.specs.Cmp.Lexicographic.{pointwise, bytes_decides}
use Rattle.std.specs.List.{flat_map, AllByRecursion}
use Rattle.std.proofs.lemmas.Bool.{cases_Bool, cases_lt, or_from, ltb-true, not-true}
use Rattle.std.proofs.lemmas.List.Folds.{list_any-append}
use Rattle.std.proofs.lemmas.List.Elements.{All-from_recursion, recursion_from_All}
use Rattle.std.proofs.lemmas.List.Sorted.{All-permutation, IsPermutation-refl}
use Rattle.std.proofs.lemmas.List.Sums.{passes_at_first}
use Rattle.rdf_terms.specs.Blanks.{AreNumberedInOrder, blanks_in, blanks_in_graph, blanks_of}
use Rattle.rdf_terms.specs.Term.{is_term, is_literal_term, is_iri_term}
use Rattle.rdf_terms.specs.Quad.{is_graph, is_quad, may_name_graph}
use Rattle.rdf_terms.specs.declared.term.Term.{Term}
use Rattle.rdf_terms.specs.declared.term.Term.TheVariants.{Blank, Iri, Literal}
use Rattle.rdf_terms.specs.declared.quad.GraphName.{GraphName}
use Rattle.rdf_terms.specs.declared.quad.GraphName.TheVariants.{Default, Named}
use Rattle.rdf_terms.specs.declared.quad.Quad.{Quad}
use Rattle.rdf_terms.proofs.CallerLemmas.{QuadTests, quad_tests}
use Rattle.rdf_lines.specs.Labels.{labels_in, labels_in_object, labels_in_graph, labels_of, noted, all_noted, number_of, term_in, object_in, graph_in, quad_in, numbered}
use Rattle.rdf_lines.specs.RoundTrip.{label_of, node_of, predicate_of, object_of, graph_of, statement_of, renamed_term, renamed_graph, renamed, SaysRenamed, DocumentsAreReadBack, SortedTextsAreReadBack, NumberedDocumentsAreReadBack, NumberedSortedTextsAreReadBack}
use Rattle.rdf_lines.specs.declared.format.LineFormat.TheVariants.{NQuads}
use Rattle.rdf_lines.specs.Document.{IsDocument}
use Rattle.rdf_lines.specs.QuadText.{quad_text}
use Rattle.rdf_lines.proofs.LabelLemmas.{has, has-append, has-own, number_of-append}
use Rattle.rdf_lines.proofs.BlankLemmas.{number_below, all_known, number_new}
use Rattle.rdf_lines.proofs.RoundTripLemmas.{label_of-injective}
use Rattle.rdf_lines.proofs.SortLemmas.{one_text}
use Rattle.rdf_lines.proofs.WrittenLineLemmas.{reads_all}

-- ---- the labels of the statements are those of the blank numbers

map_on : (xs ys : List ℕ) → map label_of (xs ++ ys) ≡ map label_of xs ++ map label_of ys
map_on [] ys = refl
map_on (x ∷ xs) ys = ap (λ (t : List (List ℕ)). label_of x ∷ t) (map_on xs ys)

node_labels : (t : Term) → labels_in (node_of t) ≡ map label_of (blanks_in t)
node_labels (Blank n) = refl
node_labels (Iri iri) = refl
node_labels (Literal l) = refl

object_labels : (t : Term) → labels_in_object (object_of t) ≡ map label_of (blanks_in t)
object_labels (Blank n) = refl
object_labels (Iri iri) = refl
object_labels (Literal l) = refl

graph_labels : (g : GraphName) → labels_in_graph (graph_of g) ≡ map label_of (blanks_in_graph g)
graph_labels Default = refl
graph_labels (Named name) = node_labels name

quad_labels : (q : Quad) → labels_of (statement_of q) ≡ map label_of (blanks_of q)
quad_labels q =
    (λ i. node_labels q.subject i ++ object_labels q.object i ++ graph_labels q.graph i)
    ∙ ap (λ (t : List (List ℕ)). t ++ map label_of (blanks_in_graph q.graph)) (sym (map_on (blanks_in q.subject) (blanks_in q.object)))
    ∙ sym (map_on (blanks_in q.subject ++ blanks_in q.object) (blanks_in_graph q.graph))

all_labels : (quads : List Quad) → flat_map labels_of (map statement_of quads) ≡ map label_of (flat_map blanks_of quads)
all_labels [] = refl
all_labels (q ∷ quads) = (λ i. quad_labels q i ++ all_labels quads i) ∙ sym (map_on (blanks_of q) (flat_map blanks_of quads))

-- ---- blank numbers have 64 bits

abbrev Small : List ℕ → Type 0
Small ns = AllByRecursion (λ n. n < 2 ^ 64) ns

all-append : (P : ℕ → Type 0) (xs ys : List ℕ) → AllByRecursion P xs → AllByRecursion P ys → AllByRecursion P (xs ++ ys)
all-append P [] ys h k = k
all-append P (x ∷ xs) ys h k = (h.0, all-append P xs ys h.1 k)

all-front : (P : ℕ → Type 0) (xs ys : List ℕ) → AllByRecursion P (xs ++ ys) → AllByRecursion P xs
all-front P [] ys h = tt
all-front P (x ∷ xs) ys h = (h.0, all-front P xs ys h.1)

all-back : (P : ℕ → Type 0) (xs ys : List ℕ) → AllByRecursion P (xs ++ ys) → AllByRecursion P ys
all-back P [] ys h = h
all-back P (x ∷ xs) ys h = all-back P xs ys h.1

at_place : (P : ℕ → Type 0) (xs : List ℕ) (k d : ℕ) → AllByRecursion P xs → k < length xs → P (get_or xs k d)
at_place P [] k d h l = absurd (omega (arith, l))
at_place P (x ∷ xs) zero d h l = h.0
at_place P (x ∷ xs) (suc k) d h l = at_place P xs k d h.1 (omega (arith, l))

term_small : (t : Term) → is_term t ≡ true → Small (blanks_in t)
term_small (Blank n) h = (ltb-true n 18446744073709551616 h, tt)
term_small (Iri iri) h = tt
term_small (Literal l) h = tt

graph_small : (g : GraphName) → is_graph g ≡ true → Small (blanks_in_graph g)
graph_small Default h = tt
graph_small (Named name) h = term_small name h

all_small : (quads : List Quad) → AllByRecursion (λ q. is_quad q ≡ true) quads → Small (flat_map blanks_of quads)
all_small [] h = tt
all_small (q ∷ quads) h =
    let t = quad_tests q h.0 in
    all-append _ (blanks_of q) (flat_map blanks_of quads)
    (all-append _ (blanks_in q.subject ++ blanks_in q.object) (blanks_in_graph q.graph)
    (all-append _ (blanks_in q.subject) (blanks_in q.object) (term_small q.subject t.subject) (term_small q.object t.object)) (graph_small q.graph t.graph)) (all_small quads h.1)

-- ---- a document's quads are the quads, renamed

pub same_label : (labels : List (List ℕ)) (k l : List ℕ) → has labels k ≡ true → has labels l ≡ true → number_of labels k ≡ number_of labels l → k ≡ l
same_label labels k l h j e = stands k h ∙ ap (λ n. get_or labels n []) e ∙ sym (stands l j)
  where
    stands : (l : List ℕ) → has labels l ≡ true → l ≡ get_or labels (number_of labels l) []
    stands l h = (bytes_decides l (get_or labels (number_of labels l) [])).0 (passes_at_first (pointwise nat_eq l) labels [] (number_below labels l h))

module _ (labels : List (List ℕ)) where
  abbrev rename : ℕ → ℕ
  rename n = number_of labels (label_of n)

  node_again : (t : Term) → is_literal_term t ≡ false → term_in labels (node_of t) ≡ renamed_term rename t
  node_again (Blank n) k = refl
  node_again (Iri iri) k = refl
  node_again (Literal l) k = absurd (true≢false k)

  predicate_again : (t : Term) → is_iri_term t ≡ true → Iri (predicate_of t) ≡ renamed_term rename t
  predicate_again (Iri iri) k = refl
  predicate_again (Blank n) k = absurd (true≢false (sym k))
  predicate_again (Literal l) k = absurd (true≢false (sym k))

  object_again : (t : Term) → object_in labels (object_of t) ≡ renamed_term rename t
  object_again (Blank n) = refl
  object_again (Iri iri) = refl
  object_again (Literal l) = refl

  graph_again : (g : GraphName) → may_name_graph g ≡ true → graph_in labels (graph_of g) ≡ renamed_graph rename g
  graph_again Default k = refl
  graph_again (Named name) k = ap Named (node_again name (not-true (is_literal_term name) k))

  quad_again : (q : Quad) → QuadTests q → quad_in labels (statement_of q) ≡ renamed rename q
  quad_again q t = λ i. record {
    graph = graph_again q.graph t.graph_kind i;
    subject = node_again q.subject t.subject_kind i;
    predicate = predicate_again q.predicate t.predicate_kind i;
    object = object_again q.object i;
  }

  quads_again : (quads : List Quad) → AllByRecursion (λ q. is_quad q ≡ true) quads → map (quad_in labels) (map statement_of quads) ≡ map (renamed rename) quads
  quads_again [] h = refl
  quads_again (q ∷ quads) h = λ i. quad_again q (quad_tests q h.0) i ∷ quads_again quads h.1 i

  of_map : (ns : List ℕ) → AllByRecursion (λ l. has labels l ≡ true) (map label_of ns) → AllByRecursion (λ n. has labels (label_of n) ≡ true) ns
  of_map [] h = tt
  of_map (n ∷ ns) h = (h.0, of_map ns h.1)

  no_two : (ns : List ℕ) → Small ns → AllByRecursion (λ l. has labels l ≡ true) (map label_of ns) → (m n : ℕ) → Contains ns m → Contains ns n → rename m ≡ rename n → m ≡ n
  no_two ns small known m n (j, at_j, is_m) (k, at_k, is_n) e =
      let own = of_map ns known in
      let has_m = subst (λ x. has labels (label_of x) ≡ true) is_m (at_place (λ x. has labels (label_of x) ≡ true) ns j m own at_j) in
      let has_n = subst (λ x. has labels (label_of x) ≡ true) is_n (at_place (λ x. has labels (label_of x) ≡ true) ns k n own at_k) in
      let small_m = subst (λ x. x < 2 ^ 64) is_m (at_place (λ x. x < 2 ^ 64) ns j m small at_j) in
      let small_n = subst (λ x. x < 2 ^ 64) is_n (at_place (λ x. x < 2 ^ 64) ns k n small at_k) in
      label_of-injective m n small_m small_n (same_label labels (label_of m) (label_of n) has_m has_n e)

abbrev labels_for : List Quad → List (List ℕ)
labels_for quads = all_noted [] (map label_of (flat_map blanks_of quads))

again : (quads : List Quad) → AllByRecursion (λ q. is_quad q ≡ true) quads → map (renamed (rename (labels_for quads))) quads ≡ numbered (map statement_of quads)
again quads h =
    sym (quads_again (labels_for quads) quads h) ∙ ap (λ (ls : List (List ℕ)). map (quad_in (all_noted [] ls)) (map statement_of quads)) (sym (all_labels quads))

pub documents_are_read_back : DocumentsAreReadBack
documents_are_read_back quads h = (
  rename (labels_for quads),
  no_two (labels_for quads) (flat_map blanks_of quads) (all_small quads h) (all_known [] (map label_of (flat_map blanks_of quads))),
  (map statement_of quads, reads_all 1 quads h, again quads h),
)

pub sorted_texts_are_read_back : SortedTextsAreReadBack
sorted_texts_are_read_back quads text h (sorted, moved, ordered, is) =
    let all : AllByRecursion (λ q. is_quad q ≡ true) sorted =
    recursion_from_All (λ q. is_quad q ≡ true) sorted (All-permutation (λ q. is_quad q ≡ true) quads sorted moved (All-from_recursion (λ q. is_quad q ≡ true) quads h)) in
    (sorted, moved, ordered, subst (λ (t : List ℕ). SaysRenamed t sorted) (sym is) (documents_are_read_back sorted all))

-- ---- numbers in order of first appearance stay

-- the labels of the numbers below
abbrev upto : ℕ → List (List ℕ)
upto zero = []
upto (suc n) = upto n ++ label_of n ∷ []

length-upto : (n : ℕ) → length (upto n) ≡ n
length-upto zero = refl
length-upto (suc n) = let before = length-upto n in omega (arith, before, length-append (upto n) (label_of n ∷ []))

lt_or_is : (m n : ℕ) → m < suc n → (m < n) ⊎ (m ≡ n)
lt_or_is m n h = elim (cases_lt m n) [
  | inl l ↦ inl l
  | inr l ↦ inr (omega (arith, h, l))
]

has_below : (k n : ℕ) → n < k → has (upto k) (label_of n) ≡ true
has_below zero n h = absurd (omega (arith, h))
has_below (suc k) n h = elim (lt_or_is n k h) [
  | inl l ↦ has-append (upto k) (label_of k ∷ []) (label_of n) (has_below k n l)
  | inr is ↦ subst (λ m. has (upto k ++ label_of k ∷ []) (label_of m) ≡ true) (sym is) (has-own (upto k) (label_of k))
]

has_none : (k n : ℕ) → k ≤ n → n < 2 ^ 64 → has (upto k) (label_of n) ≡ false
has_none zero n h s = refl
has_none (suc k) n h s =
    let apart : pointwise nat_eq (label_of n) (label_of k) ≡ false =
    elim (cases_Bool (pointwise nat_eq (label_of n) (label_of k))) [
      | inl same ↦
          let is = label_of-injective n k s (let l : k < 2 ^ 64 = omega (arith, h, s) in l) ((bytes_decides (label_of n) (label_of k)).0 same) in
          absurd (omega (arith, is, h))
      | inr other ↦ other
    ] in
    list_any-append (pointwise nat_eq (label_of n)) (upto k) (label_of k ∷ [])
    ∙ or_from (has (upto k) (label_of n)) _ (has_none k n (omega (arith, h)) s) (or_from (pointwise nat_eq (label_of n) (label_of k)) false apart refl)

stays : (k n : ℕ) → n < k → k ≤ 2 ^ 64 → number_of (upto k) (label_of n) ≡ n
stays zero n h s = absurd (omega (arith, h))
stays (suc k) n h s = elim (lt_or_is n k h) [
  | inl l ↦ number_of-append (upto k) (label_of k ∷ []) (label_of n) (has_below k n l) ∙ stays k n l (omega (arith, s))
  | inr is ↦
      ap (λ m. number_of (upto k ++ label_of k ∷ []) (label_of m)) is
      ∙ number_new (upto k) (label_of k) (has_none k k (omega arith) (omega (arith, s))) ∙ length-upto k ∙ sym is
]

-- each number was there, or is the next one
abbrev InOrder : ℕ → List ℕ → Type 0
InOrder next [] = Unit {0}
InOrder next (n ∷ ns) = ((n < next) × InOrder next ns) ⊎ ((n ≡ next) × InOrder (suc next) ns)

in_order : (all front ns : List ℕ) (next : ℕ) → ((front back : List ℕ) (n m : ℕ) → all ≡ front ++ n ∷ back → m < n → Contains front m)
    → all ≡ front ++ ns → AllByRecursion (λ m. m < next) front → InOrder next ns
in_order all front [] next h e below = tt
in_order all front (n ∷ ns) next h e below =
    let more : all ≡ (front ++ n ∷ []) ++ ns = e ∙ sym (append_assoc front (n ∷ []) ns) in
    elim (cases_lt n next) [
      | inl known ↦ inl (known, in_order all (front ++ n ∷ []) ns next h more (all-append (λ m. m < next) front (n ∷ []) below (known, tt)))
      | inr new ↦
          let is : n ≡ next = elim (cases_lt next n) [
            | inl skipped ↦
                let there = h front ns n next e skipped in
                let low : next < next = subst (λ m. m < next) there.2 (at_place (λ m. m < next) front there.0 next below there.1) in
                absurd (omega (arith, low))
            | inr low ↦ omega (arith, low, new)
          ] in
          inr (is, in_order all (front ++ n ∷ []) ns (suc next) h more (all-append (λ m. m < suc next) front (n ∷ []) (weaker front below) (omega (arith, is), tt)))
    ]
  where
    weaker : (xs : List ℕ) → AllByRecursion (λ m. m < next) xs → AllByRecursion (λ m. m < suc next) xs
    weaker [] w = tt
    weaker (x ∷ xs) w = (omega (arith, w.0), weaker xs w.1)

-- the labels noted are those of all the numbers below some number, and each number is below it
record Counted (next : ℕ) (ns : List ℕ) : Type 0 where
  count : ℕ
  labels : all_noted (upto next) (map label_of ns) ≡ upto count
  bound : count ≤ 2 ^ 64
  grows : next ≤ count
  below : AllByRecursion (λ n. n < count) ns

old_noted : (next n : ℕ) → n < next → noted (upto next) (label_of n) ≡ upto next
old_noted next n h = ap (λ b. cond b (upto next) (upto next ++ label_of n ∷ [])) (has_below next n h)

new_noted : (next n : ℕ) → n ≡ next → n < 2 ^ 64 → noted (upto next) (label_of n) ≡ upto (suc next)
new_noted next n e s =
    ap (λ b. cond b (upto next) (upto next ++ label_of n ∷ [])) (has_none next n (omega (arith, e)) s) ∙ ap (λ m. upto next ++ label_of m ∷ []) e

counted : (next : ℕ) (ns : List ℕ) → next ≤ 2 ^ 64 → Small ns → InOrder next ns → Counted next ns
counted next [] b s o = record { count = next; labels = refl; bound = b; grows = omega arith; below = tt }
counted next (n ∷ ns) b s o = elim o [
  | inl old ↦
      let c = counted next ns b s.1 old.1 in
      record {
        count = c.count;
        labels = ap (λ (k : List (List ℕ)). all_noted k (map label_of ns)) (old_noted next n old.0) ∙ c.labels;
        bound = c.bound;
        grows = c.grows;
        below = (omega (arith, old.0, c.grows), c.below);
      }
  | inr new ↦
      let c = counted (suc next) ns (omega (arith, s.0, new.0)) s.1 new.1 in
      record {
        count = c.count;
        labels = ap (λ (k : List (List ℕ)). all_noted k (map label_of ns)) (new_noted next n new.0 s.0) ∙ c.labels;
        bound = c.bound;
        grows = omega (arith, c.grows);
        below = (omega (arith, new.0, c.grows), c.below);
      }
]

module _ (f : ℕ → ℕ) where
  abbrev Fixed : List ℕ → Type 0
  Fixed ns = AllByRecursion (λ n. f n ≡ n) ns

  term_fixed : (t : Term) → Fixed (blanks_in t) → renamed_term f t ≡ t
  term_fixed (Blank n) h = ap Blank h.0
  term_fixed (Iri iri) h = refl
  term_fixed (Literal l) h = refl

  predicate_fixed : (t : Term) → is_iri_term t ≡ true → renamed_term f t ≡ t
  predicate_fixed (Iri iri) k = refl
  predicate_fixed (Blank n) k = absurd (true≢false (sym k))
  predicate_fixed (Literal l) k = absurd (true≢false (sym k))

  graph_fixed : (g : GraphName) → Fixed (blanks_in_graph g) → renamed_graph f g ≡ g
  graph_fixed Default h = refl
  graph_fixed (Named name) h = ap Named (term_fixed name h)

  quad_fixed : (q : Quad) → QuadTests q → Fixed (blanks_of q) → renamed f q ≡ q
  quad_fixed q t h =
      let two = all-front (λ n. f n ≡ n) (blanks_in q.subject ++ blanks_in q.object) (blanks_in_graph q.graph) h in
      let graph = graph_fixed q.graph (all-back (λ n. f n ≡ n) (blanks_in q.subject ++ blanks_in q.object) (blanks_in_graph q.graph) h) in
      let subject = term_fixed q.subject (all-front (λ n. f n ≡ n) (blanks_in q.subject) (blanks_in q.object) two) in
      let object = term_fixed q.object (all-back (λ n. f n ≡ n) (blanks_in q.subject) (blanks_in q.object) two) in
      λ i. record { graph = graph i; subject = subject i; predicate = predicate_fixed q.predicate t.predicate_kind i; object = object i }

  quads_fixed : (quads : List Quad) → AllByRecursion (λ q. is_quad q ≡ true) quads → Fixed (flat_map blanks_of quads) → map (renamed f) quads ≡ quads
  quads_fixed [] h k = refl
  quads_fixed (q ∷ quads) h k =
      let here = quad_fixed q (quad_tests q h.0) (all-front (λ n. f n ≡ n) (blanks_of q) (flat_map blanks_of quads) k) in
      let more = quads_fixed quads h.1 (all-back (λ n. f n ≡ n) (blanks_of q) (flat_map blanks_of quads) k) in
      λ i. here i ∷ more i

all_stay : (labels : List (List ℕ)) (count : ℕ) → labels ≡ upto count → count ≤ 2 ^ 64 → (ns : List ℕ) → AllByRecursion (λ n. n < count) ns → AllByRecursion (λ n. rename labels n ≡ n) ns
all_stay labels count e b [] h = tt
all_stay labels count e b (n ∷ ns) h = (ap (λ (k : List (List ℕ)). number_of k (label_of n)) e ∙ stays count n h.0 b, all_stay labels count e b ns h.1)

pub numbered_again : (quads : List Quad) → AllByRecursion (λ q. is_quad q ≡ true) quads → AreNumberedInOrder quads → quads ≡ numbered (map statement_of quads)
numbered_again quads h order =
    let ns = flat_map blanks_of quads in
    let c = counted 0 ns (omega arith) (all_small quads h) (in_order ns [] ns 0 order refl tt) in
    let fixed = quads_fixed (rename (labels_for quads)) quads h (all_stay (labels_for quads) c.count c.labels c.bound ns c.below) in
    sym fixed ∙ again quads h

pub numbered_documents_are_read_back : NumberedDocumentsAreReadBack
numbered_documents_are_read_back quads h order = (map statement_of quads, reads_all 1 quads h, numbered_again quads h order)

pub numbered_sorted_texts_are_read_back : NumberedSortedTextsAreReadBack
numbered_sorted_texts_are_read_back quads text h order ordered is =
    subst (λ (t : List ℕ). IsDocument NQuads t quads None)
    (sym (one_text quads text (flat_map quad_text quads) is (quads, IsPermutation-refl quads, ordered, refl)))
    (numbered_documents_are_read_back quads h order)
