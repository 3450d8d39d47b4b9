-- What the words query, update and check write, and how they end the program.
use Rattle.std.specs.Prelude.{◌≡◌, ◌≢◌, ℕ, List, [], ◌∷◌, ◌++◌, codes, decimal, Option, Result, Ok, Err, Bool, true, false}
use Rattle.std.specs.List.{concat}
use Rattle.std.specs.Io.KnownBytes.{Appends}
use Rattle.rdf_session.specs.Request.{Load}
use Rattle.rdf_session.specs.Session.{Session, Transition, Do, Commit, Changed, Done}
use Rattle.rdf_session.specs.declared.fault.Counts.{Counts}
use Rattle.rdf_session.specs.declared.fault.KeeperFault.{KeeperFault}
use Rattle.rdf_session.specs.declared.fault.KeeperFault.TheVariants as keeper
use Rattle.rdf_session.specs.declared.format.Format.{Format}
use Rattle.rdf_session.specs.declared.query.Answer.{Answer}
use Rattle.rdf_streams.specs.Conversion.Faults.{document_fault_line, document_fault_name}
use Rattle.rdf_streams.specs.declared.conversion.fault.ConvertFault.{ConvertFault}
use Rattle.rdf_streams.specs.declared.conversion.fault.ConvertFault.TheVariants as fault
use Rattle.rdf_streams.specs.declared.conversion.fault.DocumentFault.{DocumentFault}
use Rattle.rdf_keeper.specs.Inside.Outcomes.{outcome_of}
use Rattle.rdf_keeper.specs.Script.Answers.{line_text}
use Rattle.rdf_keeper.specs.Script.Show.{Shows}
use Rattle.rdf_keeper.specs.declared.program.outcome.Outcome.{Outcome}
use Rattle.rdf_keeper.specs.declared.program.outcome.Outcome.TheVariants as program
use Rattle.rdf_keeper.specs.declared.script.command.Topic.{Topic}

-- how a refused query or request ends the program
abbrev pub refusal : KeeperFault → Outcome
refusal (keeper.NoMemory refused) = program.NoMemory refused
refusal fault = program.BadText fault

-- The text is written, or a write call fails behind a proper front of it.
abbrev pub WritesOut : Option (List ℕ) → List ℕ → Outcome → Option (List ℕ) → Type 0
WritesOut before text program.Done after = Appends before after text
WritesOut before text program.WriteFailed after = (front more : List ℕ) × (text ≡ front ++ more) × (more ≢ []) × Appends before after front
WritesOut before text outcome after = ⊥

-- What a query writes, by its reply: its payload alone, or nothing where it is refused.
abbrev pub WritesReply : Option (List ℕ) → Result Answer KeeperFault → Outcome → Option (List ℕ) → Type 0
WritesReply before (Ok answer) outcome after = WritesOut before answer.payload outcome after
WritesReply before (Err fault) outcome after = (outcome ≡ refusal fault) × Appends before after []

-- What a request writes, by its reply and the session behind it: the lines that this shows, or nothing where it is refused or where
-- memory for them is wanting.
abbrev pub WritesShown : Topic → Session → Option (List ℕ) → Result Counts KeeperFault → Outcome → Option (List ℕ) → Type 0
WritesShown topic end before (Ok counts) (program.NoMemory refused) after = Appends before after []
WritesShown topic end before (Ok counts) outcome after = (lines : List (List ℕ)) × Shows topic end lines × WritesOut before (concat lines) outcome after
WritesShown topic end before (Err fault) outcome after = (outcome ≡ refusal fault) × Appends before after []

-- Documents are loaded one behind another, and what each brings is part of the start too.
abbrev pub LoadsAll : List Format → List (List ℕ) → Session → Session → Type 0
LoadsAll [] [] old new = new ≡ old
LoadsAll (format ∷ formats) (text ∷ texts) old new =
    (counts : Counts) × (loaded mid : Session) × Transition old (Do (Load format text)) (Changed counts) loaded × Transition loaded Commit Done mid × LoadsAll formats texts mid new
LoadsAll formats texts old new = ⊥

-- ---- the lines of a check

-- what stands behind the name of a file

abbrev pub counted_line : ℕ → List ℕ
counted_line count = codes ": " ++ decimal count ++ codes " statements\n"

abbrev pub faulty_line : DocumentFault → List ℕ
faulty_line at = codes ": refused: " ++ document_fault_name at ++ line_text (document_fault_line at) ++ codes "\n"

-- The line is written, or a write call fails behind a proper front of it.
abbrev pub WritesLine : Option (List ℕ) → List ℕ → Result (Unit {0}) Outcome → Option (List ℕ) → Type 0
WritesLine before line (Ok u) after = Appends before after line
WritesLine before line (Err outcome) after = (outcome ≡ program.WriteFailed) × ((front more : List ℕ) × (line ≡ front ++ more) × (more ≢ []) × Appends before after front)

-- The same, where it is then answered whether the document is sound.
abbrev pub Tells : Option (List ℕ) → List ℕ → Bool → Result Bool Outcome → Option (List ℕ) → Type 0
Tells before line sound (Ok is) after = (is ≡ sound) × Appends before after line
Tells before line sound (Err outcome) after = WritesLine before line (Err outcome) after

-- What is written of a file, by the answer of its check: how many statements it has, or why it is refused, or nothing.
abbrev pub WritesCheck : List ℕ → Option (List ℕ) → Result ℕ ConvertFault → Result Bool Outcome → Option (List ℕ) → Type 0
WritesCheck name before (Ok count) result after = Tells before (name ++ counted_line count) true result after
WritesCheck name before (Err (fault.Document at)) result after = Tells before (name ++ faulty_line at) false result after
WritesCheck name before (Err other) result after = (result ≡ Err (outcome_of (Err other))) × Appends before after []
