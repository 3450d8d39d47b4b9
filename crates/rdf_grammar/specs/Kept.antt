-- What a function that goes through a tree answers.
use Rattle.std.specs.Prelude.{◌≡◌, Option, Some, None, Result, Ok, Err}
use Rattle.rdf_grammar.specs.declared.prologue.PrologueFault.{PrologueFault}
use Rattle.rdf_grammar.specs.declared.prologue.PrologueFault.TheVariants.{UnknownPrefix, Relative, NoMemory}
use Rattle.rdf_grammar.specs.Steps.{Outcome}

-- Relative where the outcome is missing: each prefix is known to be declared
abbrev pub Fails : {A : Type 0} → Option A → PrologueFault → Type 0
Fails outcome (NoMemory e) = Unit {0}
Fails outcome (Relative start) = outcome ≡ None
Fails outcome (UnknownPrefix start) = ⊥

-- what is answered, and the state that is left: the step's outcome, unless memory was wanting
abbrev pub Gives : {S A : Type 0} → Outcome S A → Result A PrologueFault → S → Type 0
Gives outcome (Ok a) new = outcome ≡ Some (a, new)
Gives outcome (Err e) new = Fails outcome e

-- what is answered, unless memory was wanting
abbrev pub Tells : {A : Type 0} → Option A → Result A PrologueFault → Type 0
Tells outcome (Ok a) = outcome ≡ Some a
Tells outcome (Err e) = Fails outcome e
