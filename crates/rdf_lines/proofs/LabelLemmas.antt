-- A label keeps its number however the labels grow.
use Rattle.std.proofs.Common.{◌≡◌, ◌∙◌, ap, refl, sym, ℕ, ◌+◌, Bool, true, false, cond, not, ◌||◌, nat_eq, List, [], ◌∷◌, ◌++◌, true≢false, Option, Some, None}
use Rattle.std.proofs.lemmas.Cmp.{nat_list_eq_equiv}
use Rattle.std.specs.Cmp.Lexicographic.{pointwise}
use Rattle.std.specs.List.{list_any}
use Rattle.rdf_lines.specs.Labels.{labels_in, labels_in_object, labels_in_graph, labels_of, noted, all_noted, number_of, term_in, object_in, graph_in, quad_in}
use Rattle.rdf_lines.specs.declared.statement.Node.{Node}
use Rattle.rdf_lines.specs.declared.statement.Node.TheVariants.{Label, Iri}
use Rattle.rdf_lines.specs.declared.statement.Object.{Object}
use Rattle.rdf_lines.specs.declared.statement.Object.TheVariants.{Node as OfNode, Literal as OfLiteral}
use Rattle.rdf_lines.specs.declared.statement.Statement.{Statement}
use Rattle.rdf_terms.specs.Quad.{has_right_kinds}
use Rattle.rdf_terms.specs.declared.term.Term.{Term}
use Rattle.rdf_terms.specs.declared.term.Term.TheVariants as term
use Rattle.rdf_terms.specs.declared.quad.GraphName.{GraphName}
use Rattle.rdf_terms.specs.declared.quad.GraphName.TheVariants.{Named}
use Rattle.rdf_terms.specs.declared.quad.Quad.{Quad}

-- whether the label is known
abbrev pub has : List (List ℕ) → List ℕ → Bool
has known label = list_any (pointwise nat_eq label) known

pub has-append : (known more : List (List ℕ)) (l : List ℕ) → has known l ≡ true → has (known ++ more) l ≡ true
has-append [] more l h = absurd (true≢false (sym h))
has-append (k ∷ ks) more l h = by (pointwise nat_eq l k) refl (λ there. has-append ks more l there)
  where
    by : (b : Bool) → pointwise nat_eq l k ≡ b → (has ks l ≡ true → has (ks ++ more) l ≡ true) → (pointwise nat_eq l k || has (ks ++ more) l) ≡ true
    by true e later = ap (λ v. v || has (ks ++ more) l) e
    by false e later = ap (λ v. v || has (ks ++ more) l) e ∙ later (sym (ap (λ v. v || has ks l) e) ∙ h)

pub number_of-append : (known more : List (List ℕ)) (l : List ℕ) → has known l ≡ true → number_of (known ++ more) l ≡ number_of known l
number_of-append [] more l h = absurd (true≢false (sym h))
number_of-append (k ∷ ks) more l h = by (pointwise nat_eq l k) refl (λ there. number_of-append ks more l there)
  where
    by : (b : Bool) → pointwise nat_eq l k ≡ b → (has ks l ≡ true → number_of (ks ++ more) l ≡ number_of ks l) → cond (not (pointwise nat_eq l k)) (1 + number_of (ks ++ more) l) 0 ≡ cond (not (pointwise nat_eq l k)) (1 + number_of ks l) 0
    by true e later = ap (λ v. cond (not v) (1 + number_of (ks ++ more) l) 0) e ∙ sym (ap (λ v. cond (not v) (1 + number_of ks l) 0) e)
    by false e later =
        ap (λ n. cond (not (pointwise nat_eq l k)) (1 + n) 0) (later (sym (ap (λ v. v || has ks l) e) ∙ h))

pub has-own : (known : List (List ℕ)) (l : List ℕ) → has (known ++ l ∷ []) l ≡ true
has-own [] l = ap (λ v. v || false) (nat_list_eq_equiv.refl l)
has-own (k ∷ ks) l = by (pointwise nat_eq l k) (has-own ks l)
  where
    by : (b : Bool) → has (ks ++ l ∷ []) l ≡ true → (b || has (ks ++ l ∷ []) l) ≡ true
    by true later = refl
    by false later = later

-- a known label stays known, with its number
noted-has : (known : List (List ℕ)) (m l : List ℕ) → has known l ≡ true → has (noted known m) l ≡ true
noted-has known m l h = by (has known m)
  where
    by : (b : Bool) → has (cond b known (known ++ m ∷ [])) l ≡ true
    by true = h
    by false = has-append known (m ∷ []) l h

noted-number : (known : List (List ℕ)) (m l : List ℕ) → has known l ≡ true → number_of (noted known m) l ≡ number_of known l
noted-number known m l h = by (has known m)
  where
    by : (b : Bool) → number_of (cond b known (known ++ m ∷ [])) l ≡ number_of known l
    by true = refl
    by false = number_of-append known (m ∷ []) l h

pub noted-own : (known : List (List ℕ)) (l : List ℕ) → has (noted known l) l ≡ true
noted-own known l = by (has known l) refl
  where
    by : (b : Bool) → has known l ≡ b → has (cond (has known l) known (known ++ l ∷ [])) l ≡ true
    by true e = ap (λ v. has (cond v known (known ++ l ∷ [])) l) e ∙ e
    by false e = ap (λ v. has (cond v known (known ++ l ∷ [])) l) e ∙ has-own known l

pub all_noted-has : (known more : List (List ℕ)) (l : List ℕ) → has known l ≡ true → has (all_noted known more) l ≡ true
all_noted-has known [] l h = h
all_noted-has known (m ∷ ms) l h = all_noted-has (noted known m) ms l (noted-has known m l h)

pub all_noted-number : (known more : List (List ℕ)) (l : List ℕ) → has known l ≡ true → number_of (all_noted known more) l ≡ number_of known l
all_noted-number known [] l h = refl
all_noted-number known (m ∷ ms) l h = all_noted-number (noted known m) ms l (noted-has known m l h) ∙ noted-number known m l h

pub all_noted-append : (known xs ys : List (List ℕ)) → all_noted known (xs ++ ys) ≡ all_noted (all_noted known xs) ys
all_noted-append known [] ys = refl
all_noted-append known (x ∷ xs) ys = all_noted-append (noted known x) xs ys

-- a term whose label was noted keeps its number
pub term_in-kept : (known more : List (List ℕ)) (node : Node) → term_in (all_noted (all_noted known (labels_in node)) more) node ≡ term_in (all_noted known (labels_in node)) node
term_in-kept known more (Label l) = ap term.Blank (all_noted-number (noted known l) more l (noted-own known l))
term_in-kept known more (Iri iri) = refl

pub object_in-kept : (known more : List (List ℕ)) (object : Object) → object_in (all_noted (all_noted known (labels_in_object object)) more) object ≡ object_in (all_noted known (labels_in_object object)) object
object_in-kept known more (OfNode node) = term_in-kept known more node
object_in-kept known more (OfLiteral literal) = refl

pub graph_in-kept : (known more : List (List ℕ)) (graph : Option Node) → graph_in (all_noted (all_noted known (labels_in_graph graph)) more) graph ≡ graph_in (all_noted known (labels_in_graph graph)) graph
graph_in-kept known more None = refl
graph_in-kept known more (Some node) = ap Named (term_in-kept known more node)

parts : (p : Term) {s t o r : Term} {g h : GraphName} → s ≡ t → o ≡ r → g ≡ h → ◌≡◌ {A = Quad} (record { graph = g; subject = s; predicate = p; object = o }) (record { graph = h; subject = t; predicate = p; object = r })
parts p e f k = λ i. record { graph = k i; subject = e i; predicate = p; object = f i }

-- the labels behind subject, object and graph, one after the other
by_places : (known : List (List ℕ)) (s : Statement) → all_noted known (labels_of s) ≡ all_noted (all_noted (all_noted known (labels_in s.subject)) (labels_in_object s.object)) (labels_in_graph s.graph)
by_places known s =
    all_noted-append known (labels_in s.subject ++ labels_in_object s.object) (labels_in_graph s.graph)
    ∙ ap (λ k. all_noted k (labels_in_graph s.graph)) (all_noted-append known (labels_in s.subject) (labels_in_object s.object))

-- a statement's quad stays, whatever labels come later
pub quad_in-kept : (known more : List (List ℕ)) (s : Statement) → quad_in (all_noted (all_noted known (labels_of s)) more) s ≡ quad_in (all_noted known (labels_of s)) s
quad_in-kept known more s =
    let a = labels_in s.subject in
    let b = labels_in_object s.object in
    let c = labels_in_graph s.graph in
    let one = all_noted known a in
    let two = all_noted one b in
    let whole : all_noted known (labels_of s) ≡ all_noted two c = by_places known s in
    let behind_two : all_noted (all_noted known (labels_of s)) more ≡ all_noted two (c ++ more) = ap (λ k. all_noted k more) whole ∙ sym (all_noted-append two c more) in
    let behind_one : all_noted (all_noted known (labels_of s)) more ≡ all_noted one (b ++ (c ++ more)) = behind_two ∙ sym (all_noted-append one b (c ++ more)) in
    let whole_one : all_noted known (labels_of s) ≡ all_noted one (b ++ c) = whole ∙ sym (all_noted-append one b c) in
    parts (term.Iri s.predicate)
    (ap (λ k. term_in k s.subject) behind_one ∙ term_in-kept known (b ++ (c ++ more)) s.subject ∙ sym (ap (λ k. term_in k s.subject) whole_one ∙ term_in-kept known (b ++ c) s.subject))
    (ap (λ k. object_in k s.object) behind_two ∙ object_in-kept one (c ++ more) s.object ∙ sym (ap (λ k. object_in k s.object) whole ∙ object_in-kept one c s.object))
    (ap (λ k. graph_in (all_noted k more) s.graph) whole ∙ graph_in-kept two more s.graph ∙ sym (ap (λ k. graph_in k s.graph) whole))

-- a statement's quad, by the labels so far and one place after the other
pub quad_in-by_places : (known one two whole : List (List ℕ)) (s : Statement) {subject object : Term} {graph : GraphName} → one ≡ all_noted known (labels_in s.subject)
    → two ≡ all_noted one (labels_in_object s.object) → whole ≡ all_noted two (labels_in_graph s.graph) → subject ≡ term_in one s.subject → object ≡ object_in two s.object → graph ≡ graph_in whole s.graph
    → (whole ≡ all_noted known (labels_of s)) × ◌≡◌ {A = Quad} (record { graph = graph; subject = subject; predicate = term.Iri s.predicate; object = object }) (quad_in whole s)
quad_in-by_places known one two whole s p q r first second third =
    let b = labels_in_object s.object in
    let c = labels_in_graph s.graph in
    let from_one : whole ≡ all_noted one (b ++ c) = r ∙ ap (λ k. all_noted k c) q ∙ sym (all_noted-append one b c) in (
      r ∙ ap (λ k. all_noted k c) (q ∙ ap (λ k. all_noted k b) p) ∙ sym (by_places known s),
      parts (term.Iri s.predicate)
          (first ∙ sym (ap (λ k. term_in k s.subject) from_one ∙ ap (λ k. term_in (all_noted k (b ++ c)) s.subject) p ∙ term_in-kept known (b ++ c) s.subject ∙ sym (ap (λ k. term_in k s.subject) p)))
          (second ∙ sym (ap (λ k. object_in k s.object) r ∙ ap (λ k. object_in (all_noted k c) s.object) q ∙ object_in-kept one c s.object ∙ sym (ap (λ k. object_in k s.object) q)))
          third,
    )

-- each statement's quad is one
pub right_kinds : (labels : List (List ℕ)) (s : Statement) → has_right_kinds (quad_in labels s) ≡ true
right_kinds labels s = by s.graph s.subject
  where
    by : (g : Option Node) (n : Node) → has_right_kinds (record { graph = graph_in labels g; subject = term_in labels n; predicate = term.Iri s.predicate; object = object_in labels s.object }) ≡ true
    by None (Label l) = refl
    by None (Iri i) = refl
    by (Some (Label k)) (Label l) = refl
    by (Some (Label k)) (Iri i) = refl
    by (Some (Iri j)) (Label l) = refl
    by (Some (Iri j)) (Iri i) = refl

-- what `Quad::new` answers of the parts of a statement's quad
pub made : (labels : List (List ℕ)) (s : Statement) (parts : Quad) (r : Option Quad) → parts ≡ quad_in labels s → r ≡ cond (has_right_kinds parts) (Some parts) None → r ≡ Some parts
made labels s parts r e h = h ∙ ap (λ b. cond b (Some parts) None) (ap has_right_kinds e ∙ right_kinds labels s)
