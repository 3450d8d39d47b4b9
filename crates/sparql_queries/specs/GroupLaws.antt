-- What groups and templates are, member by member as they are written (SPARQL 1.1 Query, sections 4.1.4, 5, 6, 7, 8.2 and 8.3; SPARQL 1.1 Update,
-- section 3.1.3).
use Rattle.std.specs.Prelude.{◌≡◌, ℕ, List, [], ◌∷◌, ◌++◌, Option, Some, None}
use Rattle.std.specs.List.{AllByRecursion}
use Rattle.rdf_grammar.specs.Prologue.{Prologue, iri_of}
use Rattle.rdf_terms.specs.declared.term.Term.TheVariants as term
use Rattle.sparql_drafts.specs.Meaning.{pattern_in, quads_in}
use Rattle.sparql_drafts.specs.declared.draft.QuadPattern as read
use Rattle.sparql_drafts.specs.declared.draft.Quads.{Quads}
use Rattle.sparql_drafts.specs.declared.draft.VarOrIri as read_name
use Rattle.sparql_drafts.specs.declared.draft.VarOrIri.TheVariants as read_name_of
use Rattle.sparql_drafts.specs.declared.draft.VarOrTerm as read_place
use Rattle.sparql_drafts.specs.declared.draft.VarOrTerm.TheVariants as read_place_of
use Rattle.sparql_expressions.specs.declared.tree.Expression as written_expression
use Rattle.sparql_grammar.specs.declared.tree.Block.{Block}
use Rattle.sparql_grammar.specs.declared.tree.Group.{Group}
use Rattle.sparql_grammar.specs.declared.tree.Member as written_member
use Rattle.sparql_grammar.specs.declared.tree.Member.TheVariants as written
use Rattle.sparql_grammar.specs.declared.tree.Triples.{Triples}
use Rattle.sparql_grammar.specs.declared.tree.VarOrIri as written_name
use Rattle.sparql_grammar.specs.declared.tree.VarOrIri.TheVariants as n
use Rattle.sparql_queries.specs.Expressions.{expression_in}
use Rattle.sparql_queries.specs.Groups.{Labels, group, member_in}
use Rattle.sparql_queries.specs.Templates.{template}
use Rattle.sparql_queries.specs.Variables.{variable_name}
use Rattle.sparql_trees.specs.declared.expression.Expression.{Expression}
use Rattle.sparql_trees.specs.declared.pattern.BasicGraphPattern.{BasicGraphPattern}
use Rattle.sparql_trees.specs.declared.pattern.Member.{Member}
use Rattle.sparql_trees.specs.declared.pattern.Member.TheVariants as member
use Rattle.sparql_trees.specs.declared.pattern.Pattern.{Pattern}
use Rattle.sparql_trees.specs.declared.pattern.TriplePattern.{TriplePattern}
use Rattle.sparql_trees.specs.declared.pattern.VarOrIri.{VarOrIri}
use Rattle.sparql_trees.specs.declared.pattern.VarOrIri.TheVariants as name
use Rattle.sparql_trees.specs.declared.pattern.VarOrTerm.{VarOrTerm}
use Rattle.sparql_trees.specs.declared.pattern.VarOrTerm.TheVariants as place
use Rattle.sparql_trees.specs.declared.template.QuadPattern.{QuadPattern}

-- as many of both, in one order
abbrev pub InOrder : {A B : Type 0} → (A → B → Type 0) → List A → List B → Type 0
InOrder Is [] [] = Unit {0}
InOrder Is (x ∷ xs) (y ∷ ys) = Is x y × InOrder Is xs ys
InOrder Is [] (y ∷ ys) = ⊥
InOrder Is (x ∷ xs) [] = ⊥

-- ---- triples

-- a variable has its name, a blank node is the hidden variable of its number, any other term stands for itself
abbrev pub IsPlace : read_place.VarOrTerm → VarOrTerm → Type 0
IsPlace (read_place_of.Variable variable) x = x ≡ place.Variable (variable_name variable)
IsPlace (read_place_of.Term (term.Blank number)) x = x ≡ place.Hidden number
IsPlace (read_place_of.Term (term.Iri iri)) x = x ≡ place.Term (term.Iri iri)
IsPlace (read_place_of.Term (term.Literal literal)) x = x ≡ place.Term (term.Literal literal)

abbrev pub IsPredicate : read_name.VarOrIri → VarOrIri → Type 0
IsPredicate (read_name_of.Variable variable) x = x ≡ name.Variable (variable_name variable)
IsPredicate (read_name_of.Iri iri) x = x ≡ name.Iri iri

abbrev pub IsTriple : read.QuadPattern → TriplePattern → Type 0
IsTriple q t = IsPlace q.subject t.subject × IsPredicate q.predicate t.predicate × IsPlace q.object t.object

-- the triples in their order, with as many hidden variables as there are blank nodes
abbrev pub IsBasic : Quads → BasicGraphPattern → Type 0
IsBasic q b = InOrder IsTriple q.patterns b.triples × (b.hidden ≡ q.blanks)

-- ---- groups

-- under the prologue, wherever they stand
abbrev pub SaysGroup : Prologue → Group → Pattern → Type 0
SaysGroup p g pattern = (before after : Labels) × (group p g before ≡ Some (pattern, after))

abbrev pub SaysMember : Prologue → written_member.Member → Member → Type 0
SaysMember p written said = (before after : Labels) × (member_in p written before ≡ Some (said, after))

abbrev pub SaysFilter : Prologue → written_expression.Expression → Expression → Type 0
SaysFilter p written said = expression_in p written ≡ Some said

-- what GRAPH names
abbrev pub IsName : Prologue → written_name.VarOrIri → VarOrIri → Type 0
IsName p (n.Variable variable) x = x ≡ name.Variable (variable_name variable)
IsName p (n.Name written) x = (iri : List ℕ) × (iri_of written p ≡ Some iri) × (x ≡ name.Iri iri)

-- each member and each FILTER, in its order
abbrev pub GroupsAreSaid : Type 0
GroupsAreSaid = (p : Prologue) (g : Group) (pattern : Pattern) → SaysGroup p g pattern
    → InOrder (SaysMember p) g.members pattern.members × InOrder (SaysFilter p) g.filters pattern.filters

-- triples that stand together are one basic graph pattern, whose blank nodes are numbered anew
abbrev pub TriplesAreBasic : Type 0
TriplesAreBasic = (p : Prologue) (triples : List Triples) (said : Member) → SaysMember p (written.Triples triples) said
    → (q : Quads) × (b : BasicGraphPattern) × (pattern_in triples p ≡ Some q) × IsBasic q b × (said ≡ member.Basic b)

-- a group alone, or groups with UNION between them
abbrev pub UnionsAreSaid : Type 0
UnionsAreSaid = (p : Prologue) (groups : List Group) (said : Member) → SaysMember p (written.Union groups) said
    → (patterns : List Pattern) × InOrder (SaysGroup p) groups patterns × (said ≡ member.Union patterns)

abbrev pub OptionalsAreSaid : Type 0
OptionalsAreSaid = (p : Prologue) (g : Group) (said : Member) → SaysMember p (written.Optional g) said
    → (pattern : Pattern) × SaysGroup p g pattern × (said ≡ member.Optional pattern)

abbrev pub MinusesAreSaid : Type 0
MinusesAreSaid = (p : Prologue) (g : Group) (said : Member) → SaysMember p (written.Minus g) said
    → (pattern : Pattern) × SaysGroup p g pattern × (said ≡ member.Minus pattern)

-- what stands in `GRAPH name { .. }` is asked of the graph of that name
abbrev pub GraphsAreSaid : Type 0
GraphsAreSaid = (p : Prologue) (w : written_name.VarOrIri) (g : Group) (said : Member) → SaysMember p (written.Graph w g) said
    → (x : VarOrIri) × (pattern : Pattern) × IsName p w x × SaysGroup p g pattern × (said ≡ member.Graph x pattern)

-- ---- templates

-- what GRAPH names around quad patterns, or no graph
abbrev pub IsGraph : Prologue → Option written_name.VarOrIri → Option VarOrIri → Type 0
IsGraph p None graph = graph ≡ None
IsGraph p (Some w) graph = (x : VarOrIri) × IsName p w x × (graph ≡ Some x)

-- those of blocks, one block behind the other, those of each in its graph
abbrev pub AreOfBlocks : Prologue → List Block → List QuadPattern → Type 0
AreOfBlocks p [] quads = quads ≡ []
AreOfBlocks p (b ∷ bs) quads =
    (graph : Option VarOrIri)
    × (own others : List QuadPattern)
    × IsGraph p b.graph graph
    × (quads ≡ own ++ others)
    × AllByRecursion (λ (q : QuadPattern). q.graph ≡ graph) own
    × AreOfBlocks p bs others

abbrev pub IsQuad : read.QuadPattern → QuadPattern → Type 0
IsQuad q said = IsTriple q said.triple

-- the quads of the text in their order, each in the graph that GRAPH names around it, with as many blank nodes of the template's own
abbrev pub TemplatesStand : Type 0
TemplatesStand = (blocks : List Block) (p : Prologue) (q : Quads) → quads_in blocks p ≡ Some q
    → AreOfBlocks p blocks (template q).quads × InOrder IsQuad q.patterns (template q).quads × ((template q).blanks ≡ q.blanks)
