-- The blank numbers of a document.
use Rattle.std.proofs.Common.{◌≡◌, ◌∙◌, inl, inr, ◌⊎◌, ap, refl, sym, subst, ℕ, ◌+◌, ◌<◌, arith, Bool, true, false, cond, not, ◌||◌, nat_eq, List, [], ◌∷◌, ◌++◌, length, length-append, map, get_or, suc, zero, Contains, Option, Some, None, true≢false}
use Rattle.std.proofs.lemmas.List.{get_or-map, length-map}
use Rattle.std.proofs.lemmas.Cmp.{nat_list_eq_equiv}
use Rattle.std.proofs.lemmas.Bool.{cases_lt}
use Rattle.std.specs.Cmp.Lexicographic.{pointwise}
use Rattle.std.specs.List.{flat_map, AllByRecursion}
use Rattle.rdf_lines.specs.declared.statement.Node.{Node}
use Rattle.rdf_lines.specs.declared.statement.Node.TheVariants.{Label, Iri}
use Rattle.rdf_lines.specs.declared.statement.Object.{Object}
use Rattle.rdf_lines.specs.declared.statement.Object.TheVariants.{Node as OfNode, Literal as OfLiteral}
use Rattle.rdf_lines.specs.declared.statement.Statement.{Statement}
use Rattle.rdf_lines.specs.Labels.{labels_in, labels_in_object, labels_in_graph, labels_of, noted, all_noted, number_of, term_in, object_in, graph_in, quad_in}
use Rattle.rdf_terms.specs.Blanks.{blanks_in, blanks_in_graph, blanks_of}
use Rattle.rdf_lines.specs.Blanks.{BlankNumbersAreBelow}
use Rattle.rdf_terms.specs.Quad.{has_right_kinds}
use Rattle.rdf_lines.proofs.LabelLemmas.{has, noted-own, all_noted-has, all_noted-number, right_kinds}

map_on : (f : List ℕ → ℕ) (xs ys : List (List ℕ)) → map f (xs ++ ys) ≡ map f xs ++ map f ys
map_on f [] ys = refl
map_on f (x ∷ xs) ys = ap (λ l. f x ∷ l) (map_on f xs ys)

-- ---- the blank numbers of a statement are its labels' numbers

module _ (labels : List (List ℕ)) where
  of_node : (node : Node) → blanks_in (term_in labels node) ≡ map (number_of labels) (labels_in node)
  of_node (Label l) = refl
  of_node (Iri i) = refl

  of_object : (object : Object) → blanks_in (object_in labels object) ≡ map (number_of labels) (labels_in_object object)
  of_object (OfNode node) = of_node node
  of_object (OfLiteral l) = refl

  of_graph : (graph : Option Node) → blanks_in_graph (graph_in labels graph) ≡ map (number_of labels) (labels_in_graph graph)
  of_graph None = refl
  of_graph (Some node) = of_node node

  of_statement : (s : Statement) → blanks_of (quad_in labels s) ≡ map (number_of labels) (labels_of s)
  of_statement s =
      (λ i. of_node s.subject i ++ of_object s.object i ++ of_graph s.graph i)
      ∙ ap (λ l. l ++ map (number_of labels) (labels_in_graph s.graph)) (sym (map_on (number_of labels) (labels_in s.subject) (labels_in_object s.object)))
      ∙ sym (map_on (number_of labels) (labels_in s.subject ++ labels_in_object s.object) (labels_in_graph s.graph))

  pub of_statements : (ss : List Statement) → flat_map blanks_of (map (quad_in labels) ss) ≡ map (number_of labels) (flat_map labels_of ss)
  of_statements [] = refl
  of_statements (s ∷ ss) = (λ i. of_statement s i ++ of_statements ss i) ∙ sym (map_on (number_of labels) (labels_of s) (flat_map labels_of ss))

  kinds : (ss : List Statement) → AllByRecursion (λ q. has_right_kinds q ≡ true) (map (quad_in labels) ss)
  kinds [] = tt
  kinds (s ∷ ss) = (right_kinds labels s, kinds ss)

-- ---- each number of a label is below the number of labels

pub number_below : (known : List (List ℕ)) (l : List ℕ) → has known l ≡ true → number_of known l < length known
number_below [] l h = absurd (true≢false (sym h))
number_below (k ∷ ks) l h = by (pointwise nat_eq l k) refl (number_below ks l)
  where
    by : (b : Bool) → pointwise nat_eq l k ≡ b → (has ks l ≡ true → number_of ks l < length ks) → cond (not (pointwise nat_eq l k)) (1 + number_of ks l) 0 < length (k ∷ ks)
    by true e later = subst (λ v. cond (not v) (1 + number_of ks l) 0 < length (k ∷ ks)) (sym e) (let z : 0 < length (k ∷ ks) = omega arith in z)
    by false e later =
        let there : number_of ks l < length ks = later (sym (ap (λ v. v || has ks l) e) ∙ h) in
        subst (λ v. cond (not v) (1 + number_of ks l) 0 < length (k ∷ ks)) (sym e) (let z : 1 + number_of ks l < length (k ∷ ks) = omega (arith, there) in z)

pub all_known : (known all : List (List ℕ)) → AllByRecursion (λ l. has (all_noted known all) l ≡ true) all
all_known known [] = tt
all_known known (l ∷ ls) = (all_noted-has (noted known l) ls l (noted-own known l), all_known (noted known l) ls)

at_place : (P : List ℕ → Type 0) (xs : List (List ℕ)) (k : ℕ) (d : List ℕ) → AllByRecursion P xs → k < length xs → P (get_or xs k d)
at_place P [] k d h l = absurd (omega (arith, l))
at_place P (x ∷ xs) zero d h l = h.0
at_place P (x ∷ xs) (suc k) d h l = at_place P xs k d h.1 (omega (arith, l))

below : (all : List (List ℕ)) (n : ℕ) → Contains (map (number_of (all_noted [] all)) all) n → n < length (all_noted [] all)
below all n (k, l, is) =
    let f = number_of (all_noted [] all) in
    let short : k < length all = (let e = length-map all f in omega (arith, l, e)) in
    let at : get_or (map f all) k n ≡ f (get_or all k []) = get_or-map f all k [] n short in
    subst (λ m. m < length (all_noted [] all)) (sym at ∙ is) (number_below (all_noted [] all) (get_or all k []) (at_place (λ l. has (all_noted [] all) l ≡ true) all k [] (all_known [] all) short))

-- ---- each number below is a label's

pub number_new : (known : List (List ℕ)) (l : List ℕ) → has known l ≡ false → number_of (known ++ l ∷ []) l ≡ length known
number_new [] l h = ap (λ v. cond (not v) (1 + 0) 0) (nat_list_eq_equiv.refl l)
number_new (k ∷ ks) l h = by (pointwise nat_eq l k) refl (number_new ks l)
  where
    by : (b : Bool) → pointwise nat_eq l k ≡ b → (has ks l ≡ false → number_of (ks ++ l ∷ []) l ≡ length ks) → cond (not (pointwise nat_eq l k)) (1 + number_of (ks ++ l ∷ []) l) 0 ≡ length (k ∷ ks)
    by true e later = absurd (true≢false (sym (ap (λ v. v || has ks l) e) ∙ h))
    by false e later =
        let there : number_of (ks ++ l ∷ []) l ≡ length ks = later (sym (ap (λ v. v || has ks l) e) ∙ h) in
        ap (λ v. cond (not v) (1 + number_of (ks ++ l ∷ []) l) 0) e ∙ (let z : 1 + number_of (ks ++ l ∷ []) l ≡ length (k ∷ ks) = omega (arith, there) in z)

abbrev Source : List (List ℕ) → List (List ℕ) → ℕ → Type 0
Source known all n = (n < length known) ⊎ ((l : List ℕ) × Contains all l × (number_of (all_noted known all) l ≡ n))

lt_or_is : (m n : ℕ) → m < n + 1 → (m < n) ⊎ (m ≡ n)
lt_or_is m n h = elim (cases_lt m n) [
  | inl l ↦ inl l
  | inr l ↦ inr (omega (arith, h, l))
]

-- behind one more label
source_noted : (known : List (List ℕ)) (m : List ℕ) (ms : List (List ℕ)) (n : ℕ) → n < length (noted known m) → Source known (m ∷ ms) n
source_noted known m ms n = by (has known m) refl
  where
    own : has known m ≡ false → number_of (all_noted (noted known m) ms) m ≡ length known
    own e =
        all_noted-number (noted known m) ms m (noted-own known m) ∙ ap (λ v. number_of (cond v known (known ++ m ∷ [])) m) e ∙ number_new known m e

    by : (b : Bool) → has known m ≡ b → n < length (cond b known (known ++ m ∷ [])) → Source known (m ∷ ms) n
    by true e h = inl h
    by false e h = elim (lt_or_is n (length known) (let s : n < length known + 1 = omega (arith, h, length-append known (m ∷ [])) in s)) [
      | inl l ↦ inl l
      | inr is ↦ inr (m, (0, (let z : 0 < length (m ∷ ms) = omega arith in z), refl), own e ∙ sym is)
    ]

source : (known all : List (List ℕ)) (n : ℕ) → n < length (all_noted known all) → Source known all n
source known [] n h = inl h
source known (m ∷ ms) n h = elim (source (noted known m) ms n h) [
  | inl old ↦ source_noted known m ms n old
  | inr (l, (k, short, at), is) ↦ inr (l, (suc k, (let z : suc k < length (m ∷ ms) = omega (arith, short) in z), at), is)
]

named : (all : List (List ℕ)) (n : ℕ) → n < length (all_noted [] all) → Contains (map (number_of (all_noted [] all)) all) n
named all n h = elim (source [] all n h) [
  | inl none ↦ absurd (let z : n < 0 = none in omega (arith, z))
  | inr (l, (k, short, at), is) ↦ (
      let f = number_of (all_noted [] all) in
      (k, (let e = length-map all f in let z : k < length (map f all) = omega (arith, short, e) in z), get_or-map f all k l n short ∙ ap f at ∙ is)
      )
]

pub numbers : BlankNumbersAreBelow
numbers format text quads ending (ss, reads, are) =
    let all = flat_map labels_of ss in
    let same : flat_map blanks_of quads ≡ map (number_of (all_noted [] all)) all = ap (flat_map blanks_of) are ∙ of_statements (all_noted [] all) ss in (
      ss,
      reads,
      are,
      (λ n. (λ h. subst (λ l. Contains l n) (sym same) (named all n h), λ h. below all n (subst (λ l. Contains l n) same h))),
      subst (AllByRecursion (λ q. has_right_kinds q ≡ true)) (sym are) (kinds (all_noted [] all) ss),
    )
