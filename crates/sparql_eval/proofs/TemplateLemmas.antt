-- The instances of templates have no blank node from the counter on.
use Rattle.std.proofs.Common.{◌≡◌, ℕ, ◌+◌, ◌*◌, ◌≤◌, Bool, true, false, ltb, List, [], ◌∷◌, ◌++◌, length, refl, arith, Option, None, Some, if◌then◌else◌}
use Rattle.std.specs.Option.{option_map}
use Rattle.std.specs.Bool.{⊤}
use Rattle.std.specs.List.{AllByRecursion, cons_option}
use Rattle.std.proofs.Math.Nat.{suc-mul}
use Rattle.std.proofs.lemmas.Bool.{ltb-true}
use Rattle.rdf_terms.specs.Below.{AreBelow, IsGraphBelow, IsQuadBelow, IsTermBelow}
use Rattle.rdf_terms.specs.Quad.{QuadParts, has_right_kinds}
use Rattle.rdf_terms.specs.declared.quad.GraphName.{GraphName}
use Rattle.rdf_terms.specs.declared.quad.GraphName.TheVariants.{Named}
use Rattle.rdf_terms.specs.declared.term.Term.{Term}
use Rattle.rdf_terms.specs.declared.term.Term.TheVariants.{Blank, Iri, Literal}
use Rattle.sparql_algebra.specs.Bound.{AllValues, IsValueBelow}
use Rattle.sparql_algebra.proofs.CallerLemmas.{of_variable}
use Rattle.sparql_eval.specs.Templates.{all_instances, constant, graph_under, instance, instances, name_under, new_blank, term_under}
use Rattle.sparql_trees.specs.Quads.{quad_by}
use Rattle.sparql_trees.specs.declared.pattern.VarOrIri.{VarOrIri}
use Rattle.sparql_trees.specs.declared.pattern.VarOrIri.TheVariants as name
use Rattle.sparql_trees.specs.declared.pattern.VarOrTerm.{VarOrTerm}
use Rattle.sparql_trees.specs.declared.pattern.VarOrTerm.TheVariants as place
use Rattle.sparql_trees.specs.declared.template.QuadPattern.{QuadPattern}
use Rattle.sparql_values.specs.Mapping.{Mapping, Variables, value_of}

-- ---- what a solution has stays below a greater number

value_more : (a b : ℕ) (x : Option Term) → IsValueBelow a x → a ≤ b → IsValueBelow b x
value_more a b None h l = tt
value_more a b (Some (Blank number)) h l = omega (arith, h, l)
value_more a b (Some (Iri iri)) h l = tt
value_more a b (Some (Literal literal)) h l = tt

mapping_more : (a b : ℕ) (m : Mapping) → AllByRecursion (IsValueBelow a) m → a ≤ b → AllByRecursion (IsValueBelow b) m
mapping_more a b [] h l = tt
mapping_more a b (x ∷ m) h l = (value_more a b x h.0 l, mapping_more a b m h.1 l)

pub values_more : (a b : ℕ) (ms : List Mapping) → AllValues (IsValueBelow a) ms → a ≤ b → AllValues (IsValueBelow b) ms
values_more a b [] h l = tt
values_more a b (m ∷ ms) h l = (mapping_more a b m h.0 l, values_more a b ms h.1 l)

-- ---- terms

module _ (next : ℕ) (m : Mapping) (values : AllByRecursion (IsValueBelow next) m) where
  value_of_below : (variables : Variables) (variable : List ℕ) → IsValueBelow next (value_of variables m variable)
  value_of_below variables variable = of_variable (IsTermBelow next) variables m variable values

  new_blank_below : (blanks first number : ℕ) → first + blanks ≤ next → IsValueBelow next (new_blank blanks first number)
  new_blank_below blanks first number h =
      elim (ltb number blanks) as (λ b. ltb number blanks ≡ b → IsValueBelow next (if b then Some (Blank (first + number)) else None)) [
        | true ↦ λ e. let l = ltb-true number blanks e in omega (arith, h, l)
        | false ↦ λ _. tt
      ] refl

  constant_below : (t : Term) → IsValueBelow next (constant t)
  constant_below (Blank number) = tt
  constant_below (Iri iri) = tt
  constant_below (Literal literal) = tt

  term_below : (variables : Variables) (blanks first : ℕ) (x : VarOrTerm) → first + blanks ≤ next → IsValueBelow next (term_under variables blanks first m x)
  term_below variables blanks first (place.Variable variable) h = value_of_below variables variable
  term_below variables blanks first (place.Hidden number) h = new_blank_below blanks first number h
  term_below variables blanks first (place.Term t) h = constant_below t

  name_below : (variables : Variables) (x : VarOrIri) → IsValueBelow next (name_under variables m x)
  name_below variables (name.Variable variable) = value_of_below variables variable
  name_below variables (name.Iri iri) = tt

  -- ---- quads

  abbrev IsGraphBelowIfAny : Option GraphName → Type 0
  IsGraphBelowIfAny None = ⊤
  IsGraphBelowIfAny (Some g) = IsGraphBelow next g

  abbrev IsQuadBelowIfAny : Option QuadParts → Type 0
  IsQuadBelowIfAny None = ⊤
  IsQuadBelowIfAny (Some q) = IsQuadBelow next q

  graph_below : (variables : Variables) (home : GraphName) (graph : Option VarOrIri) → IsGraphBelow next home → IsGraphBelowIfAny (graph_under variables home m graph)
  graph_below variables home None h = h
  graph_below variables home (Some x) h = named (name_under variables m x) (name_below variables x)
    where
      named : (t : Option Term) → IsValueBelow next t → IsGraphBelowIfAny (option_map Named t)
      named None b = tt
      named (Some t) b = b

  made_below : (g : Option GraphName) (s p o : Option Term) → IsGraphBelowIfAny g → IsValueBelow next s → IsValueBelow next p → IsValueBelow next o → IsQuadBelowIfAny (quad_by g s p o)
  made_below None s p o bg bs bp bo = tt
  made_below (Some g) None p o bg bs bp bo = tt
  made_below (Some g) (Some s) None o bg bs bp bo = tt
  made_below (Some g) (Some s) (Some p) None bg bs bp bo = tt
  made_below (Some g) (Some s) (Some p) (Some o) bg bs bp bo = where_right (has_right_kinds (record { graph = g; subject = s; predicate = p; object = o }))
    where
      where_right : (b : Bool) → IsQuadBelowIfAny (if b then Some (record { graph = g; subject = s; predicate = p; object = o }) else None)
      where_right true = record { graph = bg; subject = bs; predicate = bp; object = bo }
      where_right false = tt

  module _ (variables : Variables) (home : GraphName) (blanks first : ℕ) (at_home : IsGraphBelow next home) (room : first + blanks ≤ next) where
    instance_below : (q : QuadPattern) → IsQuadBelowIfAny (instance variables home blanks first m q)
    instance_below q =
        made_below (graph_under variables home m q.graph) (term_under variables blanks first m q.triple.subject) (name_under variables m q.triple.predicate)
        (term_under variables blanks first m q.triple.object)
        (graph_below variables home q.graph at_home) (term_below variables blanks first q.triple.subject room) (name_below variables q.triple.predicate)
        (term_below variables blanks first q.triple.object room)

    instances_below : (quads : List QuadPattern) → AreBelow next (instances variables home blanks quads first m)
    instances_below [] = tt
    instances_below (q ∷ quads) = one_more (instance variables home blanks first m q) (instances variables home blanks quads first m) (instance_below q) (instances_below quads)
      where
        one_more : (x : Option QuadParts) (qs : List QuadParts) → IsQuadBelowIfAny x → AreBelow next qs → AreBelow next (cons_option x qs)
        one_more None qs b h = h
        one_more (Some x) qs b h = (b, h)

join_below : (next : ℕ) (xs ys : List QuadParts) → AreBelow next xs → AreBelow next ys → AreBelow next (xs ++ ys)
join_below next [] ys h k = k
join_below next (x ∷ xs) ys h k = (h.0, join_below next xs ys h.1 k)

-- those of a template under all solutions
pub all_instances_below : (next : ℕ) (variables : Variables) (home : GraphName) (blanks : ℕ) (quads : List QuadPattern) (first : ℕ) (rows : List Mapping)
    → AllValues (IsValueBelow next) rows → IsGraphBelow next home → first + length rows * blanks ≤ next → AreBelow next (all_instances variables home blanks quads first rows)
all_instances_below next variables home blanks quads first [] values at_home room = tt
all_instances_below next variables home blanks quads first (m ∷ ms) values at_home room =
    let one_more = suc-mul (length ms) blanks in
    join_below next (instances variables home blanks quads first m) (all_instances variables home blanks quads (first + blanks) ms)
    (instances_below next m values.0 variables home blanks first at_home (omega (arith, room, one_more)) quads)
    (all_instances_below next variables home blanks quads (first + blanks) ms values.1 at_home (omega (arith, room, one_more)))
