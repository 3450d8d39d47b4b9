-- The blank nodes of data and of basic graph patterns, by their numbers.
use Rattle.std.specs.Prelude.{◌≡◌, ℕ, ◌<◌, ◌↔◌, List, [], ◌∷◌, ◌++◌, Contains, Some}
use Rattle.std.specs.List.{flat_map}
use Rattle.rdf_terms.specs.Blanks.{blanks_in}
use Rattle.rdf_grammar.specs.Prologue.{Prologue}
use Rattle.sparql_grammar.specs.declared.tree.Block.{Block}
use Rattle.sparql_grammar.specs.declared.tree.Triples.{Triples}
use Rattle.sparql_drafts.specs.declared.draft.QuadPattern.{QuadPattern}
use Rattle.sparql_drafts.specs.declared.draft.Quads.{Quads}
use Rattle.sparql_drafts.specs.declared.draft.VarOrTerm.{VarOrTerm}
use Rattle.sparql_drafts.specs.declared.draft.VarOrTerm.TheVariants.{Variable, Term}
use Rattle.sparql_drafts.specs.Meaning.{quads_in, pattern_in}

abbrev pub place_blanks : VarOrTerm → List ℕ
place_blanks (Variable name) = []
place_blanks (Term t) = blanks_in t

abbrev pub pattern_blanks : QuadPattern → List ℕ
pattern_blanks p = place_blanks p.subject ++ place_blanks p.object

-- the numbers that stand are just those below the count of blank nodes
abbrev pub IsNumbered : Quads → Type 0
IsNumbered q = (number : ℕ) → (number < q.blanks) ↔ Contains (flat_map pattern_blanks q.patterns) number

-- The data of an operation has blank nodes of its own, whose numbers are just those below their count.
abbrev pub DataAreNumbered : Type 0
DataAreNumbered = (blocks : List Block) (prologue : Prologue) (quads : Quads) → quads_in blocks prologue ≡ Some quads → IsNumbered quads

-- So has a basic graph pattern.
abbrev pub PatternsAreNumbered : Type 0
PatternsAreNumbered = (triples : List Triples) (prologue : Prologue) (quads : Quads) → pattern_in triples prologue ≡ Some quads → IsNumbered quads

-- before each number stand all the smaller ones
abbrev pub ComeInOrder : List ℕ → Type 0
ComeInOrder numbers = (front back : List ℕ) (number smaller : ℕ) → numbers ≡ front ++ number ∷ back → smaller < number → Contains front smaller

-- the blank nodes of patterns come in order of first appearance, pattern after pattern and in each its subject and its object
abbrev pub AreInOrder : List QuadPattern → Type 0
AreInOrder patterns = ComeInOrder (flat_map pattern_blanks patterns)

-- So do those of an operation's data, and those of a basic graph pattern.
abbrev pub DataComeInOrder : Type 0
DataComeInOrder = (blocks : List Block) (prologue : Prologue) (quads : Quads) → quads_in blocks prologue ≡ Some quads → AreInOrder quads.patterns

abbrev pub PatternsComeInOrder : Type 0
PatternsComeInOrder = (triples : List Triples) (prologue : Prologue) (quads : Quads) → pattern_in triples prologue ≡ Some quads → AreInOrder quads.patterns
