-- What a function that goes through a tree answers.
use Rattle.std.specs.Prelude.{◌≡◌, Option, Some, None, Result, Ok, Err}
use Rattle.rdf_grammar.specs.Steps.{Outcome}
use Rattle.rdf_grammar.specs.declared.prologue.PrologueFault.{PrologueFault}
use Rattle.rdf_grammar.specs.declared.prologue.PrologueFault.TheVariants as why
use Rattle.sparql_drafts.specs.declared.fault.DraftFault.{DraftFault}
use Rattle.sparql_drafts.specs.declared.fault.DraftFault.TheVariants.{NoIri, NoMemory}

abbrev pub fault_of : PrologueFault → DraftFault
fault_of (why.UnknownPrefix start) = NoIri
fault_of (why.Relative start) = NoIri
fault_of (why.NoMemory refused) = NoMemory refused

-- what the prologue told, or the fault of what asked it
abbrev pub or_fault : {A : Type 0} → Result A PrologueFault → Result A DraftFault
or_fault (Ok a) = Ok a
or_fault (Err fault) = Err (fault_of fault)

-- the outcome is missing, unless memory was wanting
abbrev pub Fails : {A : Type 0} → Option A → DraftFault → Type 0
Fails outcome (NoMemory refused) = Unit {0}
Fails outcome NoIri = outcome ≡ None

-- what is answered, and the state that is left: the step's outcome, unless memory was wanting
abbrev pub Gives : {S A : Type 0} → Outcome S A → Result A DraftFault → S → Type 0
Gives outcome (Ok a) new = outcome ≡ Some (a, new)
Gives outcome (Err fault) new = Fails outcome fault

-- what is answered, unless memory was wanting
abbrev pub Tells : {A : Type 0} → Option A → Result A DraftFault → Type 0
Tells outcome (Ok a) = outcome ≡ Some a
Tells outcome (Err fault) = Fails outcome fault
