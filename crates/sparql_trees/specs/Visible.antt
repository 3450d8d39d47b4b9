-- The variables that a pattern names, and those that it shows (SPARQL 1.1 Query, section 18.2.1).
use Rattle.std.specs.Prelude.{ℕ, Bool, true, false, cond, List, [], ◌∷◌, ◌++◌}
use Rattle.std.specs.List.{flat_map}
use Rattle.std.specs.BTreeSet.{insert_key}
use Rattle.rdf_terms.specs.Order.{text_cmp}
use Rattle.sparql_trees.specs.declared.pattern.Member.{Member}
use Rattle.sparql_trees.specs.declared.pattern.Pattern.{Pattern}
use Rattle.sparql_trees.specs.declared.pattern.Member.TheFolds.{fold-Member, fold-Pattern}
use Rattle.sparql_trees.specs.declared.pattern.Member.TheOpen.{Member-F, Pattern-F}
use Rattle.sparql_trees.specs.declared.pattern.TriplePattern.{TriplePattern}
use Rattle.sparql_trees.specs.declared.pattern.VarOrIri.{VarOrIri}
use Rattle.sparql_trees.specs.declared.pattern.VarOrIri.TheVariants as name
use Rattle.sparql_trees.specs.declared.pattern.VarOrTerm.{VarOrTerm}
use Rattle.sparql_trees.specs.declared.pattern.VarOrTerm.TheVariants as place

abbrev pub Names : Type 0
Names = List (List ℕ)

-- ---- the names as they stand in the text

abbrev pub place_names : VarOrTerm → Names
place_names (place.Variable variable) = variable ∷ []
place_names (place.Hidden number) = []
place_names (place.Term t) = []

abbrev pub name_names : VarOrIri → Names
name_names (name.Variable variable) = variable ∷ []
name_names (name.Iri iri) = []

abbrev pub triple_names : TriplePattern → Names
triple_names t = place_names t.subject ++ (name_names t.predicate ++ place_names t.object)

abbrev pub joined : List Names → Names
joined lists = flat_map (λ names. names) lists

abbrev pub names_of_pattern : Pattern-F Names Names → Names
names_of_pattern p = joined p.members

-- Those in triple patterns, those that GRAPH names, and those of the groups inside; of MINUS's group, which shows none, where they are
-- asked for too.
abbrev pub names_of_member : Bool → Member-F Names Names → Names
names_of_member minus (Member-F.Basic triples) = flat_map triple_names triples.triples
names_of_member minus (Member-F.Union groups) = joined groups
names_of_member minus (Member-F.Optional group) = group
names_of_member minus (Member-F.Graph graph group) = name_names graph ++ group
names_of_member minus (Member-F.Minus group) = cond minus group []

abbrev pub names_where : Bool → Pattern → Names
names_where minus = fold-Pattern Names Names (names_of_member minus) names_of_pattern

abbrev pub member_names : Bool → Member → Names
member_names minus = fold-Member Names Names (names_of_member minus) names_of_pattern

-- those that are visible: outside MINUS
abbrev pub names_in : Pattern → Names
names_in = names_where false

-- those that stand anywhere, in MINUS too
abbrev pub all_names_in : Pattern → Names
all_names_in = names_where true

-- ---- the names in their order

-- the names, with more of them at their places, each once
abbrev pub with_names : Names → Names → Names
with_names known [] = known
with_names known (n ∷ ns) = with_names (insert_key text_cmp known n) ns

-- The visible variables: each name once, in the order of code points.
unfoldable pub visible : Pattern → Names
visible pattern = with_names [] (names_in pattern)

-- The variables that the pattern names anywhere, in the same order: a MINUS's right side has solutions of its own, which bind them.
unfoldable pub named : Pattern → Names
named pattern = with_names [] (all_names_in pattern)
