-- The solutions of a pattern, each as often as the algebra counts it (SPARQL 1.1 Query, sections 18.3 to 18.5).
use Rattle.std.specs.Prelude.{ℕ, zero, suc, ◌+◌, Bool, not, cond, true, false, ◌&&◌, ◌||◌, List, [], ◌∷◌, ◌++◌, length, Option, Some, None, map, filter, count_by, is_some, nat_eq, take, zip}
use Rattle.std.specs.List.{list_all, list_any, flat_map}
use Rattle.rdf_terms.specs.Quad.{QuadParts}
use Rattle.rdf_terms.specs.declared.term.Term.{Term}
use Rattle.rdf_terms.specs.declared.term.Term.TheVariants as t
use Rattle.rdf_terms.specs.declared.quad.GraphName.{GraphName}
use Rattle.rdf_terms.specs.declared.quad.GraphName.TheVariants.{Named}
use Rattle.sparql_trees.specs.declared.expression.Expression.{Expression}
use Rattle.sparql_trees.specs.declared.pattern.BasicGraphPattern.{BasicGraphPattern}
use Rattle.sparql_trees.specs.declared.pattern.TriplePattern.{TriplePattern}
use Rattle.sparql_trees.specs.declared.pattern.VarOrIri.{VarOrIri}
use Rattle.sparql_trees.specs.declared.pattern.VarOrIri.TheVariants as v
use Rattle.sparql_trees.specs.declared.pattern.VarOrTerm.{VarOrTerm}
use Rattle.sparql_trees.specs.declared.pattern.VarOrTerm.TheVariants as p
use Rattle.sparql_algebra.specs.Algebra as algebra
use Rattle.sparql_algebra.specs.Algebra.{Algebra, basic, join, left_join, union, minus, graph}
use Rattle.sparql_algebra.specs.Listing.{Listing}
use Rattle.sparql_values.specs.Mapping.{Variables, Mapping, same_term, same_mapping, column, value_at, value_in, value_of, single, compatible, merge}
use Rattle.sparql_values.specs.Values.{is_satisfied}

-- ---- basic graph patterns (section 18.3.1)

-- An assignment of a basic graph pattern is a mapping of its visible variables, and behind them of its hidden ones in the order of
-- their numbers.

-- a predicate as any place of a triple pattern
abbrev pub var_or_term : VarOrIri → VarOrTerm
var_or_term (v.Variable name) = p.Variable name
var_or_term (v.Iri iri) = p.Term (t.Iri iri)

-- the column of a variable; a term has none
abbrev pub column_at : Variables → VarOrTerm → Option ℕ
column_at variables (p.Variable name) = column variables name
column_at variables (p.Hidden number) = Some (length variables + number)
column_at variables (p.Term t) = None

-- the term at a place of a triple pattern
abbrev pub term_at : Variables → Mapping → VarOrTerm → Option Term
term_at variables m (p.Variable name) = value_in m (column variables name)
term_at variables m (p.Hidden number) = value_at m (length variables + number)
term_at variables m (p.Term t) = Some t

abbrev pub is_triple : Term → Term → Term → QuadParts → Bool
is_triple s p o q = same_term s q.subject && (same_term p q.predicate && same_term o q.object)

-- the graph holds this triple
abbrev pub holds : List QuadParts → Option Term → Option Term → Option Term → Bool
holds quads (Some s) (Some p) (Some o) = list_any (is_triple s p o) quads
holds quads (Some s) (Some p) None = false
holds quads (Some s) None o = false
holds quads None p o = false

-- the instance of a triple pattern lies in the graph
abbrev pub instance_lies : Variables → List QuadParts → Mapping → TriplePattern → Bool
instance_lies variables quads m t =
    holds quads (term_at variables m t.subject) (term_at variables m (var_or_term t.predicate)) (term_at variables m t.object)

abbrev pub is_at : ℕ → Option ℕ → Bool
is_at c (Some d) = nat_eq c d
is_at c None = false

abbrev pub is_column : Variables → ℕ → VarOrTerm → Bool
is_column variables c x = is_at c (column_at variables x)

-- the variable of the column stands in some triple pattern
abbrev pub occurs : Variables → List TriplePattern → ℕ → Bool
occurs variables triples c =
    list_any (λ t. is_column variables c t.subject || (is_column variables c (var_or_term t.predicate) || is_column variables c t.object)) triples

abbrev pub same_bool : Bool → Bool → Bool
same_bool true b = b
same_bool false b = not b

-- the mapping has a term in exactly the columns that the test names
abbrev pub binds_exactly : (ℕ → Bool) → Mapping → Bool
binds_exactly test [] = true
binds_exactly test (x ∷ m) = same_bool (is_some x) (test zero) && binds_exactly (λ c. test (suc c)) m

-- an assignment of exactly the variables that stand there, whose instances all lie in the graph
abbrev pub solves : Variables → List QuadParts → List TriplePattern → Mapping → Bool
solves variables quads triples m = list_all (instance_lies variables quads m) triples && binds_exactly (occurs variables triples) m

-- each term once
abbrev pub distinct : List Term → List Term
distinct [] = []
distinct (t ∷ ts) = cond (list_any (same_term t) ts) (distinct ts) (t ∷ distinct ts)

abbrev pub terms_of : List QuadParts → List Term
terms_of quads = distinct (flat_map (λ q. q.subject ∷ q.predicate ∷ q.object ∷ []) quads)

-- all mappings of n columns to terms of the list
abbrev pub all_mappings : ℕ → List Term → List Mapping
all_mappings zero T = [] ∷ []
all_mappings (suc n) T = flat_map (λ m. (None ∷ m) ∷ map (λ t. Some t ∷ m) T) (all_mappings n T)

-- the assignments to terms of the graph that solve the pattern
abbrev pub assignments : Variables → List QuadParts → BasicGraphPattern → List Mapping
assignments variables quads b = filter (solves variables quads b.triples) (all_mappings (length variables + b.hidden) (terms_of quads))

-- a mapping of the visible variables stands once for each assignment that widens it to the hidden ones
abbrev pub basic_solutions : Variables → List QuadParts → BasicGraphPattern → List Mapping
basic_solutions variables quads b = map (take (length variables)) (assignments variables quads b)

-- ---- Join and LeftJoin (section 18.5)

-- the merges of a mapping with the compatible ones
abbrev pub merges : List Mapping → Mapping → List Mapping
merges B a = map (merge a) (filter (compatible a) B)

abbrev pub joins : List Mapping → List Mapping → List Mapping
joins A B = flat_map (merges B) A

-- the mapping alone where there is no merge
abbrev pub or_alone : Mapping → List Mapping → List Mapping
or_alone a [] = a ∷ []
or_alone a (m ∷ ms) = m ∷ ms

-- the merges of which the test is true
abbrev pub left_joins : List Mapping → List Mapping → (Mapping → Bool) → List Mapping
left_joins A B F = flat_map (λ a. or_alone a (filter F (merges B a))) A

-- ---- Minus (section 18.5)

-- at one variable: both have it
abbrev pub both_have : Option Term × Option Term → Bool
both_have (Some s, Some t) = true
both_have (Some s, None) = false
both_have (None, y) = false

-- two mappings have a variable in common: their domains are not disjoint
abbrev pub shares : Mapping → Mapping → Bool
shares a b = list_any both_have (zip a b)

-- no compatible mapping of the list passes the test beside this one
abbrev pub left_by : (Mapping → Mapping → Bool) → List Mapping → Mapping → Bool
left_by test B a = not (list_any (λ b. compatible a b && test a b) B)

-- the mappings with which no compatible one has a variable in common
abbrev pub minuses : List Mapping → List Mapping → List Mapping
minuses A B = filter (left_by shares B) A

-- ---- conditions (section 18.5: Filter)

-- each expression is true of the mapping, none is false or an error
abbrev pub satisfies : Variables → List Expression → Mapping → Bool
satisfies variables F m = list_all (is_satisfied (value_of variables m)) F

-- ---- the pattern's solutions over a listing of the dataset, in the active graph

module _ (variables : Variables) (d : Listing) where
  abbrev pub solutions : GraphName → Algebra → List Mapping
  solutions g (basic b) = basic_solutions variables (d.quads g) b
  solutions g (join A B) = joins (solutions g A) (solutions g B)
  solutions g (left_join F A B) = left_joins (solutions g A) (solutions g B) (satisfies variables F)
  solutions g (algebra.filter F A) = filter (satisfies variables F) (solutions g A)
  solutions g (union A B) = solutions g A ++ solutions g B
  solutions g (minus A B) = minuses (solutions g A) (solutions g B)
  solutions g (graph (v.Iri iri) A) = cond (list_any (same_term (t.Iri iri)) d.names) (solutions (Named (t.Iri iri)) A) []
  solutions g (graph (v.Variable name) A) = flat_map (λ n. joins (solutions (Named n) A) (single variables name n ∷ [])) d.names

  -- how often a mapping is counted
  abbrev pub count : GraphName → Algebra → Mapping → ℕ
  count g P m = count_by (same_mapping m) (solutions g P)
