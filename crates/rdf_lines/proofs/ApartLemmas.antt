-- Labels and their numbers tell the same apart, and numbers come in order of first appearance.
use Rattle.std.proofs.Common.{◌≡◌, ◌∙◌, inl, inr, ◌⊎◌, ap, refl, sym, subst, ℕ, ◌+◌, ◌<◌, arith, Bool, true, false, cond, List, [], ◌∷◌, ◌++◌, length, length-append, map, get_or, suc, zero, Contains, Option, Some, None}
use Rattle.std.specs.List.{flat_map, AllByRecursion}
use Rattle.rdf_terms.specs.Blanks.{blanks_of}
use Rattle.rdf_lines.specs.declared.statement.Node.{Node}
use Rattle.rdf_lines.specs.declared.statement.Node.TheVariants.{Label, Iri}
use Rattle.rdf_lines.specs.declared.statement.Object.{Object}
use Rattle.rdf_lines.specs.declared.statement.Object.TheVariants.{Node as OfNode, Literal as OfLiteral}
use Rattle.rdf_lines.specs.declared.statement.Statement.{Statement}
use Rattle.rdf_lines.specs.Labels.{labels_in, labels_in_object, labels_in_graph, labels_of, nodes_in_object, nodes_in_graph, nodes_of, noted, all_noted, number_of, term_in}
use Rattle.rdf_lines.specs.Blanks.{NodesAreToldApart, NumbersComeInOrder}
use Rattle.rdf_lines.specs.RoundTrip.{ReadDocumentsAreReadAgain}
use Rattle.rdf_lines.proofs.LabelLemmas.{has, noted-own, all_noted-number}
use Rattle.rdf_lines.proofs.BlankLemmas.{number_below, number_new, all_known, of_statements}
use Rattle.rdf_lines.proofs.RenamedLemmas.{same_label, numbered_documents_are_read_back}

-- ---- lists

front : {X : Type 0} (P : X → Type 0) (xs ys : List X) → AllByRecursion P (xs ++ ys) → AllByRecursion P xs
front P [] ys h = tt
front P (x ∷ xs) ys h = (h.0, front P xs ys h.1)

back : {X : Type 0} (P : X → Type 0) (xs ys : List X) → AllByRecursion P (xs ++ ys) → AllByRecursion P ys
back P [] ys h = h
back P (x ∷ xs) ys h = back P xs ys h.1

both : {X : Type 0} (P : X → Type 0) (xs ys : List X) → AllByRecursion P xs → AllByRecursion P ys → AllByRecursion P (xs ++ ys)
both P [] ys h k = k
both P (x ∷ xs) ys h k = (h.0, both P xs ys h.1 k)

at_place : {X : Type 0} (P : X → Type 0) (xs : List X) (k : ℕ) (d : X) → AllByRecursion P xs → k < length xs → P (get_or xs k d)
at_place P [] k d h l = absurd (omega (arith, l))
at_place P (x ∷ xs) zero d h l = h.0
at_place P (x ∷ xs) (suc k) d h l = at_place P xs k d h.1 (omega (arith, l))

of_element : {X : Type 0} (P : X → Type 0) (xs : List X) (x : X) → AllByRecursion P xs → Contains xs x → P x
of_element P xs x h (k, short, is) = subst P is (at_place P xs k x h short)

-- ---- nodes and their terms

module _ (labels : List (List ℕ)) where
  abbrev HasLabel : List ℕ → Type 0
  HasLabel l = has labels l ≡ true

  abbrev IsKnown : Node → Type 0
  IsKnown (Label l) = has labels l ≡ true
  IsKnown (Iri i) = Unit {0}

  known_node : (node : Node) → AllByRecursion HasLabel (labels_in node) → IsKnown node
  known_node (Label l) h = h.0
  known_node (Iri i) h = tt

  known_object : (object : Object) → AllByRecursion HasLabel (labels_in_object object) → AllByRecursion IsKnown (nodes_in_object object)
  known_object (OfNode node) h = (known_node node h, tt)
  known_object (OfLiteral literal) h = tt

  known_graph : (graph : Option Node) → AllByRecursion HasLabel (labels_in_graph graph) → AllByRecursion IsKnown (nodes_in_graph graph)
  known_graph None h = tt
  known_graph (Some node) h = (known_node node h, tt)

  known_statement : (s : Statement) → AllByRecursion HasLabel (labels_of s) → AllByRecursion IsKnown (nodes_of s)
  known_statement s h =
      let ends = front HasLabel (labels_in s.subject ++ labels_in_object s.object) (labels_in_graph s.graph) h in (
        known_node s.subject (front HasLabel (labels_in s.subject) (labels_in_object s.object) ends),
        both IsKnown (nodes_in_object s.object) (nodes_in_graph s.graph) (known_object s.object (back HasLabel (labels_in s.subject) (labels_in_object s.object) ends))
            (known_graph s.graph (back HasLabel (labels_in s.subject ++ labels_in_object s.object) (labels_in_graph s.graph) h)),
      )

  known_nodes : (ss : List Statement) → AllByRecursion HasLabel (flat_map labels_of ss) → AllByRecursion IsKnown (flat_map nodes_of ss)
  known_nodes [] h = tt
  known_nodes (s ∷ ss) h =
      both IsKnown (nodes_of s) (flat_map nodes_of ss) (known_statement s (front HasLabel (labels_of s) (flat_map labels_of ss) h)) (known_nodes ss (back HasLabel (labels_of s) (flat_map labels_of ss) h))

  same_node : (a b : Node) → IsKnown a → IsKnown b → term_in labels a ≡ term_in labels b → a ≡ b
  same_node (Label k) (Label l) h j e = let n : number_of labels k ≡ number_of labels l = cc in ap Label (same_label labels k l h j n)
  same_node (Label k) (Iri i) h j e = cc
  same_node (Iri i) (Label l) h j e = cc
  same_node (Iri i) (Iri l) h j e = let n : i ≡ l = cc in ap Iri n

pub told_apart : NodesAreToldApart
told_apart format text quads ending (ss, reads, are) =
    let labels = all_noted [] (flat_map labels_of ss) in
    let known = known_nodes labels ss (all_known [] (flat_map labels_of ss)) in (
      ss,
      reads,
      are,
      λ a b at_a at_b. (same_node labels a b (of_element (IsKnown labels) (flat_map nodes_of ss) a known at_a) (of_element (IsKnown labels) (flat_map nodes_of ss) b known at_b), ap (term_in labels)),
    )

-- ---- numbers in order

-- a smaller number was known, or stands before
abbrev Before : List (List ℕ) → List ℕ → ℕ → Type 0
Before known front m = (m < length known) ⊎ Contains front m

one_later : (x m : ℕ) (xs : List ℕ) → Contains xs m → Contains (x ∷ xs) m
one_later x m xs (k, short, is) = (suc k, omega (arith, short), is)

-- the first label's number is that of the labels with it
own : (known : List (List ℕ)) (l : List ℕ) (ls : List (List ℕ)) → number_of (all_noted known (l ∷ ls)) l ≡ number_of (noted known l) l
own known l ls = all_noted-number (noted known l) ls l (noted-own known l)

lt_or_is : (m n : ℕ) → m < n + 1 → (m < n) ⊎ (m ≡ n)
lt_or_is zero zero h = inr refl
lt_or_is zero (suc n) h = inl (omega arith)
lt_or_is (suc m) zero h = absurd (omega (arith, h))
lt_or_is (suc m) (suc n) h = elim (lt_or_is m n (omega (arith, h))) [
  | inl l ↦ inl (omega (arith, l))
  | inr e ↦ inr (ap suc e)
]

-- what is below the first label's number was known
below_own : (known : List (List ℕ)) (l : List ℕ) (m : ℕ) → m < number_of (noted known l) l → m < length known
below_own known l m = by (has known l) refl
  where
    by : (b : Bool) → has known l ≡ b → m < number_of (cond b known (known ++ l ∷ [])) l → m < length known
    by true e h = let n = number_below known l e in omega (arith, h, n)
    by false e h = let n = number_new known l e in omega (arith, h, n)

-- what is known with the first label was known, or is its number
known_or_own : (known : List (List ℕ)) (l : List ℕ) (m : ℕ) → m < length (noted known l) → (m < length known) ⊎ (number_of (noted known l) l ≡ m)
known_or_own known l m = by (has known l) refl
  where
    by : (b : Bool) → has known l ≡ b → m < length (cond b known (known ++ l ∷ [])) → (m < length known) ⊎ (number_of (cond b known (known ++ l ∷ [])) l ≡ m)
    by true e h = inl h
    by false e h = elim (lt_or_is m (length known) (let s : m < length known + 1 = omega (arith, h, length-append known (l ∷ [])) in s)) [
      | inl old ↦ inl old
      | inr is ↦ inr (number_new known l e ∙ sym is)
    ]

in_order : (known all : List (List ℕ)) (numbers : List ℕ) (front back : List ℕ) (n m : ℕ) → numbers ≡ map (number_of (all_noted known all)) all → numbers ≡ front ++ n ∷ back → m < n → Before known front m
in_order known [] numbers [] back n m are parts h = cc
in_order known [] numbers (x ∷ front) back n m are parts h = cc
in_order known (l ∷ ls) numbers [] back n m are parts h =
    let first : n ≡ number_of (all_noted known (l ∷ ls)) l = cc in
    inl (below_own known l m (subst (λ k. m < k) (first ∙ own known l ls) h))
in_order known (l ∷ ls) numbers (x ∷ front) back n m are parts h =
    let first : x ≡ number_of (all_noted known (l ∷ ls)) l = cc in
    let rest : map (number_of (all_noted (noted known l) ls)) ls ≡ front ++ n ∷ back = cc in
    elim (in_order (noted known l) ls (front ++ n ∷ back) front back n m (sym rest) refl h) [
      | inr later ↦ inr (one_later x m front later)
      | inl low ↦ elim (known_or_own known l m low) [
        | inl old ↦ inl old
        | inr is ↦ inr (0, (let z : 0 < length (x ∷ front) = omega arith in z), first ∙ own known l ls ∙ is)
      ]
    ]

pub come_in_order : NumbersComeInOrder
come_in_order format text quads ending (ss, reads, are) front back n m parts h =
    let all = flat_map labels_of ss in
    let numbers : flat_map blanks_of quads ≡ map (number_of (all_noted [] all)) all = ap (flat_map blanks_of) are ∙ of_statements (all_noted [] all) ss in
    elim (in_order [] all (flat_map blanks_of quads) front back n m numbers parts h) [
      | inl none ↦ absurd (omega (arith, none))
      | inr there ↦ there
    ]

pub read_again : ReadDocumentsAreReadAgain
read_again format text quads ending document sound = numbered_documents_are_read_back quads sound (come_in_order format text quads ending document)
