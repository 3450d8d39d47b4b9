-- What reading a state text answers.
use Rattle.std.specs.Prelude.{ℕ, List}
use Rattle.rdf_dataset.specs.State.{State, IsSound}
use Rattle.rdf_lines.specs.declared.state_text.fault.StateFault.{StateFault}
use Rattle.rdf_lines.specs.declared.state_text.fault.StateFault.TheVariants.{NotState, NoMemory}
use Rattle.rdf_session.specs.Saved.{IsTextOf}

-- the text of no sound state, or want of memory
abbrev pub TellsStateFault : List ℕ → StateFault → Type 0
TellsStateFault text NotState = (s : State) → IsSound s → ¬ (IsTextOf s text)
TellsStateFault text (NoMemory _) = Unit {0}
