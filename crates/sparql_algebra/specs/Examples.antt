-- Examples of SPARQL 1.1 Query, and what the definitions make of them.
use Rattle.std.specs.Prelude.{◌≡◌, ℕ, List, [], ◌∷◌, length, Some, None, codes}
use Rattle.rdf_terms.specs.Quad.{QuadParts}
use Rattle.rdf_terms.specs.Vocabulary.{xsd_integer}
use Rattle.rdf_terms.specs.declared.quad.GraphName.{GraphName}
use Rattle.rdf_terms.specs.declared.quad.GraphName.TheVariants.{Default, Named}
use Rattle.rdf_terms.specs.declared.term.Term.{Term}
use Rattle.rdf_terms.specs.declared.term.Term.TheVariants as t
use Rattle.sparql_trees.specs.Visible.{named, visible}
use Rattle.sparql_trees.specs.declared.expression.Comparison.TheVariants.{Equal, Less}
use Rattle.sparql_trees.specs.declared.expression.Expression.{Expression}
use Rattle.sparql_trees.specs.declared.expression.Expression.TheVariants as e
use Rattle.sparql_trees.specs.declared.pattern.BasicGraphPattern.{BasicGraphPattern}
use Rattle.sparql_trees.specs.declared.pattern.Member.{Member}
use Rattle.sparql_trees.specs.declared.pattern.Member.TheVariants as m
use Rattle.sparql_trees.specs.declared.pattern.Pattern.{Pattern}
use Rattle.sparql_trees.specs.declared.pattern.TriplePattern.{TriplePattern}
use Rattle.sparql_trees.specs.declared.pattern.VarOrIri.TheVariants as v
use Rattle.sparql_trees.specs.declared.pattern.VarOrTerm.{VarOrTerm}
use Rattle.sparql_trees.specs.declared.pattern.VarOrTerm.TheVariants as p
use Rattle.sparql_algebra.specs.Algebra.{Algebra, basic, join, left_join, filter, union, minus, graph, empty_pattern, translation}
use Rattle.sparql_algebra.specs.Listing.{Listing}
use Rattle.sparql_values.specs.Mapping.{Variables, Mapping}
use Rattle.sparql_algebra.specs.Results.{pattern_solutions}
use Rattle.sparql_algebra.specs.Solutions.{solutions, count}

abbrev pub triple : VarOrTerm → List ℕ → VarOrTerm → TriplePattern
triple s predicate o = record { subject = s; predicate = v.Iri predicate; object = o }

-- one triple pattern alone, with so many hidden variables
abbrev pub alone : TriplePattern → ℕ → BasicGraphPattern
alone pattern hidden = record { triples = pattern ∷ []; hidden = hidden }

-- ---- translation (section 18.2.3)

abbrev pub first : BasicGraphPattern
first = alone (triple (p.Variable (codes "s")) (codes ":p1") (p.Variable (codes "v1"))) 0

abbrev pub second : BasicGraphPattern
second = alone (triple (p.Variable (codes "s")) (codes ":p2") (p.Variable (codes "v2"))) 0

abbrev pub group : List Member → Pattern
group members = record { members = members; filters = [] }

-- a group with one FILTER, wherever that stands in it
abbrev pub group_where : Expression → List Member → Pattern
group_where condition members = record { members = members; filters = condition ∷ [] }

abbrev pub in_group : BasicGraphPattern → Algebra
in_group b = join empty_pattern (basic b)

-- `?v1 < 3`
abbrev pub below_three : Expression
below_three = e.Compare Less (e.Variable (codes "v1")) (e.Term (t.Literal (record { lexical = codes "3"; datatype = xsd_integer; tag = None })))

-- `{ ?s :p1 ?v1 }`, `{ { ?s :p1 ?v1 } UNION { ?s :p2 ?v2 } }` and `{ ?s :p1 ?v1 OPTIONAL { ?s :p2 ?v2 } }`; nothing is simplified.
-- With FILTER: `{ ?s :p1 ?v1 . FILTER (?v1 < 3) }`, `{ ?s :p1 ?v1 FILTER (?v1 < 3) OPTIONAL { ?s :p2 ?v2 } }`,
-- `{ ?s :p1 ?v1 OPTIONAL { ?s :p2 ?v2 FILTER (?v1 < 3) } }`, and the last one with a group of its own around what stands in OPTIONAL.
-- `{ ?s :p1 ?v1 MINUS { ?s :p2 ?v2 } }`, and the same with FILTER (?v1 < 3) behind MINUS's group and in it.
pub record TranslationExamples : Type 0 where
  pub one : translation (group (m.Basic first ∷ [])) ≡ in_group first
  pub united :
      translation (group (m.Union (group (m.Basic first ∷ []) ∷ group (m.Basic second ∷ []) ∷ []) ∷ []))
      ≡ join empty_pattern (union (in_group first) (in_group second))
  pub optional :
      translation (group (m.Basic first ∷ m.Optional (group (m.Basic second ∷ [])) ∷ [])) ≡ left_join [] (in_group first) (in_group second)
  pub filtered : translation (group_where below_three (m.Basic first ∷ [])) ≡ filter (below_three ∷ []) (in_group first)
  pub at_the_end :
      translation (group_where below_three (m.Basic first ∷ m.Optional (group (m.Basic second ∷ [])) ∷ []))
      ≡ filter (below_three ∷ []) (left_join [] (in_group first) (in_group second))
  pub condition :
      translation (group (m.Basic first ∷ m.Optional (group_where below_three (m.Basic second ∷ [])) ∷ []))
      ≡ left_join (below_three ∷ []) (in_group first) (in_group second)
  pub inside :
      translation (group (m.Basic first ∷ m.Optional (group (m.Union (group_where below_three (m.Basic second ∷ []) ∷ []) ∷ [])) ∷ []))
      ≡ left_join [] (in_group first) (join empty_pattern (filter (below_three ∷ []) (in_group second)))
  pub taken :
      translation (group (m.Basic first ∷ m.Minus (group (m.Basic second ∷ [])) ∷ [])) ≡ minus (in_group first) (in_group second)
  pub taken_at_the_end :
      translation (group_where below_three (m.Basic first ∷ m.Minus (group (m.Basic second ∷ [])) ∷ []))
      ≡ filter (below_three ∷ []) (minus (in_group first) (in_group second))
  pub taken_inside :
      translation (group (m.Basic first ∷ m.Minus (group_where below_three (m.Basic second ∷ [])) ∷ []))
      ≡ minus (in_group first) (filter (below_three ∷ []) (in_group second))

-- ---- OPTIONAL (section 6.1)

abbrev pub quad : GraphName → Term → List ℕ → Term → QuadParts
quad g s predicate o = record { graph = g; subject = s; predicate = t.Iri predicate; object = o }

abbrev pub text : List ℕ → Term
text characters = t.Literal (record { lexical = characters; datatype = codes "string"; tag = None })

abbrev pub people : Listing
people = record {
  names = [];
  quads = λ g.
      quad g (t.Blank 0) (codes "name") (text (codes "Alice")) ∷ quad g (t.Blank 0) (codes "mbox") (t.Iri (codes "mailto:alice")) ∷
      quad g (t.Blank 0) (codes "mbox") (t.Iri (codes "mailto:work")) ∷ quad g (t.Blank 1) (codes "name") (text (codes "Bob")) ∷ [];
}

abbrev pub mailboxes : Variables
mailboxes = codes "mbox" ∷ codes "name" ∷ codes "x" ∷ []

-- `{ ?x name ?name }`
abbrev pub with_name : Algebra
with_name = in_group (alone (triple (p.Variable (codes "x")) (codes "name") (p.Variable (codes "name"))) 0)

-- `{ ?x mbox ?mbox }`
abbrev pub with_mailbox : Algebra
with_mailbox = in_group (alone (triple (p.Variable (codes "x")) (codes "mbox") (p.Variable (codes "mbox"))) 0)

-- `{ ?x name ?name OPTIONAL { ?x mbox ?mbox } }`
abbrev pub optional_mailbox : Algebra
optional_mailbox = left_join [] with_name with_mailbox

abbrev pub alice_alone : Mapping
alice_alone = None ∷ Some (text (codes "Alice")) ∷ Some (t.Blank 0) ∷ []

abbrev pub bob_alone : Mapping
bob_alone = None ∷ Some (text (codes "Bob")) ∷ Some (t.Blank 1) ∷ []

-- Alice has two mailboxes, Bob none
pub record OptionalExamples : Type 0 where
  pub three : length (solutions mailboxes people Default optional_mailbox) ≡ 3
  pub alice : count mailboxes people Default optional_mailbox (Some (t.Iri (codes "mailto:alice")) ∷ Some (text (codes "Alice")) ∷ Some (t.Blank 0) ∷ []) ≡ 1
  pub bob : count mailboxes people Default optional_mailbox bob_alone ≡ 1

-- ---- FILTER (sections 17.2, 17.4.1 and 18.5)

-- `! bound(?mbox)`
abbrev pub no_mailbox : Expression
no_mailbox = e.Not (e.Bound (codes "mbox"))

-- `sameTerm(?name, "Bob")`
abbrev pub is_bob : Expression
is_bob = e.SameTerm (e.Variable (codes "name")) (e.Term (text (codes "Bob")))

-- `! sameTerm(?mbox, <mailto:alice>)`
abbrev pub other_mailbox : Expression
other_mailbox = e.Not (e.SameTerm (e.Variable (codes "mbox")) (e.Term (t.Iri (codes "mailto:alice"))))

-- Bob alone has no mailbox. An error is not kept, not even under `!`. Under OPTIONAL a FILTER sees the left side, and where it fails, the
-- left mapping stays alone; behind OPTIONAL the same FILTER leaves it out.
pub record FilterExamples : Type 0 where
  pub unbound : solutions mailboxes people Default (filter (no_mailbox ∷ []) optional_mailbox) ≡ bob_alone ∷ []
  pub error :
      solutions mailboxes people Default (filter (other_mailbox ∷ []) optional_mailbox)
      ≡ (Some (t.Iri (codes "mailto:work")) ∷ Some (text (codes "Alice")) ∷ Some (t.Blank 0) ∷ []) ∷ []
  pub condition : solutions mailboxes people Default (left_join (is_bob ∷ []) with_name with_mailbox) ≡ alice_alone ∷ bob_alone ∷ []
  pub behind : solutions mailboxes people Default (filter (is_bob ∷ []) optional_mailbox) ≡ bob_alone ∷ []

-- ---- MINUS (sections 8.3.1 to 8.3.3)

-- one triple pattern in a group
abbrev pub asks : VarOrTerm → List ℕ → VarOrTerm → Algebra
asks s predicate o = in_group (alone (triple s predicate o) 0)

-- `:a :b :c`
abbrev pub one_triple : Listing
one_triple = record { names = []; quads = λ g. quad g (t.Iri (codes ":a")) (codes ":b") (t.Iri (codes ":c")) ∷ [] }

-- a triple pattern of three variables
abbrev pub any_triple : List ℕ → List ℕ → List ℕ → Algebra
any_triple subject predicate object =
    in_group (alone (record { subject = p.Variable subject; predicate = v.Variable predicate; object = p.Variable object }) 0)

-- `{ ?s ?p ?o MINUS { ?x ?y ?z } }`, over all of these variables
abbrev pub no_variable_shared : Algebra
no_variable_shared = minus (any_triple (codes "s") (codes "p") (codes "o")) (any_triple (codes "x") (codes "y") (codes "z"))

abbrev pub six_variables : Variables
six_variables = codes "o" ∷ codes "p" ∷ codes "s" ∷ codes "x" ∷ codes "y" ∷ codes "z" ∷ []

-- `{ ?s ?p ?o MINUS { :a :b :c } }`
abbrev pub fixed_pattern : Algebra
fixed_pattern = minus (any_triple (codes "s") (codes "p") (codes "o")) (asks (p.Term (t.Iri (codes ":a"))) (codes ":b") (p.Term (t.Iri (codes ":c"))))

abbrev pub three_variables : Variables
three_variables = codes "o" ∷ codes "p" ∷ codes "s" ∷ []

-- `:a :p "1" . :a :q "1" . :a :q "2" . :b :p "3" . :b :q "4" . :b :q "5"`
abbrev pub ps_and_qs : Listing
ps_and_qs = record {
  names = [];
  quads = λ g.
      quad g (t.Iri (codes ":a")) (codes ":p") (text (codes "1")) ∷ quad g (t.Iri (codes ":a")) (codes ":q") (text (codes "1")) ∷
      quad g (t.Iri (codes ":a")) (codes ":q") (text (codes "2")) ∷ quad g (t.Iri (codes ":b")) (codes ":p") (text (codes "3")) ∷
      quad g (t.Iri (codes ":b")) (codes ":q") (text (codes "4")) ∷ quad g (t.Iri (codes ":b")) (codes ":q") (text (codes "5")) ∷ [];
}

abbrev pub with_p : Algebra
with_p = asks (p.Variable (codes "x")) (codes ":p") (p.Variable (codes "n"))

abbrev pub with_q : Algebra
with_q = asks (p.Variable (codes "x")) (codes ":q") (p.Variable (codes "m"))

-- `?n = ?m`
abbrev pub same_numbers : Expression
same_numbers = e.Compare Equal (e.Variable (codes "n")) (e.Variable (codes "m"))

abbrev pub numbers : Variables
numbers = codes "m" ∷ codes "n" ∷ codes "x" ∷ []

abbrev pub a_with_one : Mapping
a_with_one = None ∷ Some (text (codes "1")) ∷ Some (t.Iri (codes ":a")) ∷ []

abbrev pub b_with_three : Mapping
b_with_three = None ∷ Some (text (codes "3")) ∷ Some (t.Iri (codes ":b")) ∷ []

-- Alice has a mailbox, and Bob none
abbrev pub any_mailbox : Algebra
any_mailbox = asks (p.Variable (codes "y")) (codes "mbox") (p.Variable (codes "mbox"))

abbrev pub with_another : Variables
with_another = codes "mbox" ∷ codes "name" ∷ codes "x" ∷ codes "y" ∷ []

-- `{ ?s :p ?o MINUS { ?s :q ?x } }`, over `:s :p "1" . :s :q "1" . :t :p "1"`
abbrev pub p_without_q : Pattern
p_without_q = group (m.Basic (alone (triple (p.Variable (codes "s")) (codes ":p") (p.Variable (codes "o"))) 0) ∷ m.Minus (group (m.Basic (alone (triple (p.Variable (codes "s")) (codes ":q") (p.Variable (codes "x"))) 0) ∷ [])) ∷ [])

abbrev pub s_and_t : Listing
s_and_t = record {
  names = [];
  quads = λ g.
      quad g (t.Iri (codes ":s")) (codes ":p") (text (codes "1")) ∷ quad g (t.Iri (codes ":s")) (codes ":q") (text (codes "1")) ∷
      quad g (t.Iri (codes ":t")) (codes ":p") (text (codes "1")) ∷ [];
}

-- Nothing is taken away where no variable is shared, be there a solution of all triples or of none that has a variable. A solution takes away
-- those with which it shares one; the filter of MINUS's group doesn't see ?n, so there it has no solution. A variable that OPTIONAL left
-- unbound is not shared: `{ ?x name ?name OPTIONAL { ?x mbox ?mbox } MINUS { ?y mbox ?mbox } }` leaves Bob. A variable that stands in MINUS
-- alone is not visible, and has its values there (section 18.2.1).
pub record MinusExamples : Type 0 where
  pub unshared : length (solutions six_variables one_triple Default no_variable_shared) ≡ 1
  pub fixed : length (solutions three_variables one_triple Default fixed_pattern) ≡ 1
  pub shared : solutions numbers ps_and_qs Default (minus with_p with_q) ≡ []
  pub inner : solutions numbers ps_and_qs Default (minus with_p (filter (same_numbers ∷ []) with_q)) ≡ a_with_one ∷ b_with_three ∷ []
  pub unbound :
      solutions with_another people Default (minus optional_mailbox any_mailbox)
      ≡ (None ∷ Some (text (codes "Bob")) ∷ Some (t.Blank 1) ∷ None ∷ []) ∷ []
  pub named_there : named p_without_q ≡ codes "o" ∷ codes "s" ∷ codes "x" ∷ []
  pub visible_there : visible p_without_q ≡ codes "o" ∷ codes "s" ∷ []
  pub shown : pattern_solutions p_without_q Default s_and_t ≡ (Some (text (codes "1")) ∷ Some (t.Iri (codes ":t")) ∷ []) ∷ []

-- ---- counts

abbrev pub graphs : GraphName → List QuadParts
graphs Default = quad Default (t.Iri (codes "s")) (codes "p") (text (codes "1")) ∷ quad Default (t.Iri (codes "s")) (codes "p") (text (codes "2")) ∷ []
graphs (Named name) = []

-- two triples, and an empty named graph
abbrev pub two_triples : Listing
two_triples = record { names = t.Iri (codes "g") ∷ []; quads = graphs }

abbrev pub one_variable : Variables
one_variable = codes "s" ∷ []

abbrev pub any_object : Algebra
any_object = basic (alone (triple (p.Variable (codes "s")) (codes "p") (p.Hidden 0)) 1)

abbrev pub s_alone : Mapping
s_alone = Some (t.Iri (codes "s")) ∷ []

-- A mapping counts once for each assignment of a hidden variable (section 18.3.1) and in each part of a UNION (section 7); an empty named
-- graph counts, and one that isn't there doesn't (section 8.3); a literal is no subject; a number past the hidden ones binds nothing.
pub record CountExamples : Type 0 where
  pub hidden : count one_variable two_triples Default any_object s_alone ≡ 2
  pub repeated : count one_variable two_triples Default (union any_object any_object) s_alone ≡ 4
  pub named : solutions one_variable two_triples Default (graph (v.Variable (codes "s")) empty_pattern) ≡ (Some (t.Iri (codes "g")) ∷ []) ∷ []
  pub there : length (solutions one_variable two_triples Default (graph (v.Iri (codes "g")) empty_pattern)) ≡ 1
  pub absent : solutions one_variable two_triples Default (graph (v.Iri (codes "h")) empty_pattern) ≡ []
  pub literal : solutions one_variable two_triples Default (basic (alone (triple (p.Term (text (codes "1"))) (codes "p") (p.Variable (codes "s"))) 0)) ≡ []
  pub unnumbered : solutions one_variable two_triples Default (basic (alone (triple (p.Variable (codes "s")) (codes "p") (p.Hidden 1)) 1)) ≡ []
