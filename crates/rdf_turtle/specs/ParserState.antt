-- The state in which a document is read (Turtle 1.1, section 7): the prologue and the numbering, as the text so far leaves them,
-- and the triples said.
use Rattle.std.specs.Prelude.{ℕ, List, [], ◌∷◌, ◌++◌, Option, Some, None, if◌then◌else◌}
use Rattle.std.specs.Option.{option_map}
use Rattle.rdf_terms.specs.Quad.{QuadParts, has_right_kinds}
use Rattle.rdf_terms.specs.declared.term.Term.{Term}
use Rattle.rdf_terms.specs.declared.term.Term.TheVariants.{Blank, Iri}
use Rattle.rdf_terms.specs.declared.quad.GraphName.TheVariants.{Default}
use Rattle.rdf_grammar.specs.Numbering as numbering
use Rattle.rdf_grammar.specs.Numbering.{Numbering}
use Rattle.rdf_grammar.specs.Prologue as prologue
use Rattle.rdf_grammar.specs.Prologue.{Prologue}
use Rattle.rdf_grammar.specs.Steps.{Step}

pub record ParserState : Type 0 where
  pub prologue : Prologue
  pub numbering : Numbering
  pub quads : List QuadParts

abbrev pub Does : Type 0 → Type 0
Does A = Step ParserState A

abbrev pub start : Option (List ℕ) → ParserState
start base = record { prologue = prologue.start base; numbering = numbering.start; quads = [] }

-- what the prologue tells, if it does
abbrev pub told : {A : Type 0} → (Prologue → Option A) → Does A
told f s = option_map (λ a. (a, s)) (f s.prologue)

-- what is declared
abbrev pub declared : (Prologue → Prologue) → Does (Unit {0})
declared f s = Some (tt, record s { prologue = f s.prologue })

-- the blank node of a number
abbrev pub blank : (Numbering → ℕ × Numbering) → Does Term
blank f s = Some (Blank (f s.numbering).0, record s { numbering = (f s.numbering).1 })

unfoldable pub fresh : Does Term
fresh = blank numbering.fresh

unfoldable pub labelled : List ℕ → Does Term
labelled label = blank (numbering.labelled label)

-- a triple in the default graph
abbrev pub triple : Term → List ℕ → Term → QuadParts
triple subject predicate object = record { graph = Default; subject = subject; predicate = Iri predicate; object = object }

-- says a triple, whose subject is no literal
unfoldable pub says : Term → List ℕ → Term → Does (Unit {0})
says subject predicate object s =
    if has_right_kinds (triple subject predicate object)
    then Some (tt, record s { quads = s.quads ++ triple subject predicate object ∷ [] }) else None

-- No list in memory is longer than this.
abbrev pub longest : ℕ
longest = 9223372036854775807
