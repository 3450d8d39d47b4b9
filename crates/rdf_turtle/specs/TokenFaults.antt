-- The faults of a text that has no token list.
use Rattle.std.specs.Prelude.{◌≡◌, ℕ, List, Err}
use Rattle.std.specs.Str.{chars}
use Rattle.rdf_tokens.specs.Lines.{line_of}
use Rattle.rdf_tokens.specs.Tokens.{Tokenizes}
use Rattle.rdf_turtle.specs.declared.fault.TurtleFault.{TurtleFault}
use Rattle.rdf_turtle.specs.declared.fault.TurtleFaultKind.{TurtleFaultKind}
use Rattle.rdf_turtle.specs.declared.fault.TurtleFaultKind.TheVariants as fault

-- A Token fault has the line of the first place where no token begins, and want of memory has line 0; there is no other fault.
abbrev pub IsFault : List ℕ → TurtleFaultKind → ℕ → Type 0
IsFault text fault.Token line = (place : ℕ) × Tokenizes (chars text) (Err place) × (line ≡ line_of text place)
IsFault text (fault.NoMemory _) line = line ≡ 0
IsFault text _ line = ⊥

abbrev pub IsTokenFault : List ℕ → TurtleFault → Type 0
IsTokenFault text f = IsFault text f.kind f.line
