-- A text says one thing: the quads of a document, or a fault.
use Rattle.std.specs.Prelude.{◌≡◌, ◌⊎◌, ℕ, Bool, true, false, List, Option}
use Rattle.rdf_terms.specs.declared.quad.Quad.{Quad}
use Rattle.rdf_turtle.specs.declared.fault.TurtleFault.{TurtleFault}
use Rattle.rdf_turtle.specs.declared.fault.TurtleFaultKind.{TurtleFaultKind}
use Rattle.rdf_turtle.specs.declared.fault.TurtleFaultKind.TheVariants.{Syntax}
use Rattle.rdf_turtle.specs.Document.{IsDocument, IsFaulty}

-- The kinds of faults whose line is the reader's own choice.
abbrev pub has_free_line : TurtleFaultKind → Bool
has_free_line Syntax = true
has_free_line kind = false

-- the same fault, but for a line that is free
abbrev pub SameFault : TurtleFault → TurtleFault → Type 0
SameFault a b = (a.kind ≡ b.kind) × ((has_free_line a.kind ≡ false) → a.line ≡ b.line)

-- each text is a document or faulty, against each base
abbrev pub SomeMeaning : Type 0
SomeMeaning = (base : Option (List ℕ)) (text : List ℕ) → ((quads : List Quad) × IsDocument base text quads) ⊎ ((fault : TurtleFault) × IsFaulty base text fault)

abbrev pub OneDocument : Type 0
OneDocument = (base : Option (List ℕ)) (text : List ℕ) (a b : List Quad) → IsDocument base text a → IsDocument base text b → a ≡ b

abbrev pub NeverBoth : Type 0
NeverBoth = (base : Option (List ℕ)) (text : List ℕ) (quads : List Quad) (fault : TurtleFault) → IsDocument base text quads → ¬ (IsFaulty base text fault)

abbrev pub OneFault : Type 0
OneFault = (base : Option (List ℕ)) (text : List ℕ) (a b : TurtleFault) → IsFaulty base text a → IsFaulty base text b → SameFault a b
