-- How the program ends: its exit status, and its line on standard error.
use Rattle.std.specs.Prelude.{ℕ, List, [], ◌++◌, codes, Option, None, Some, Result, Ok, Err}
use Rattle.rdf_keeper.specs.Inside.Told.{IsShown}
use Rattle.rdf_keeper.specs.Script.Answers.{place_text}
use Rattle.rdf_streams.specs.Conversion.Faults.{document_fault_line, document_fault_name}
use Rattle.rdf_lines.specs.FaultName.{state_fault_name}
use Rattle.rdf_lines.specs.declared.state_text.fault.StateFault.TheVariants as StateFault
use Rattle.rdf_session.specs.Faults.{line_of, name_of}
use Rattle.rdf_streams.specs.declared.conversion.fault.DocumentFault.{DocumentFault}
use Rattle.rdf_session.specs.declared.fault.KeeperFault.{KeeperFault}
use Rattle.rdf_streams.specs.declared.conversion.fault.ConvertFault.{ConvertFault}
use Rattle.rdf_streams.specs.declared.conversion.fault.ConvertFault.TheVariants as fault
use Rattle.rdf_keeper.specs.declared.program.outcome.Outcome.{Outcome}
use Rattle.rdf_keeper.specs.declared.program.outcome.Outcome.TheVariants.{Done, SomeRefused, BadDocument, BadText, BadWords, BadBase, BadData, NotState, ReadFailed, WriteFailed, NoMemory, ParserNoMemory}

-- how a conversion ends the program
abbrev pub outcome_of : Result (Unit {0}) ConvertFault → Outcome
outcome_of (Ok u) = Done
outcome_of (Err (fault.Document at)) = BadDocument at
outcome_of (Err fault.Read) = ReadFailed
outcome_of (Err fault.Write) = WriteFailed
outcome_of (Err (fault.NoMemory refused)) = NoMemory refused

abbrev pub status_of : Outcome → ℕ
status_of Done = 0
status_of SomeRefused = 1
status_of (BadDocument at) = 1
status_of (BadText fault) = 1
status_of BadWords = 2
status_of BadBase = 2
status_of (BadData fault) = 2
status_of NotState = 2
status_of ReadFailed = 3
status_of WriteFailed = 3
status_of (NoMemory refused) = 4
status_of ParserNoMemory = 4

-- the line of a refusal, by its word and its place
abbrev pub refused_line : List ℕ → Option ℕ → List ℕ
refused_line name place = codes "rdfkeep: refused: " ++ name ++ place_text place ++ codes "\n"

-- that of a document, and those of a query, a request and the data that a session begins with
abbrev pub refused_document : DocumentFault → List ℕ
refused_document at = refused_line (document_fault_name at) (Some (document_fault_line at))

abbrev pub refused_data : KeeperFault → List ℕ
refused_data fault = refused_line (name_of fault) (line_of fault)

abbrev pub refused_state : List ℕ
refused_state = refused_line (state_fault_name StateFault.NotState) None

-- the line on standard error; what is wrong with words is said by a text of its own
abbrev pub error_line : Outcome → List ℕ
error_line Done = []
error_line SomeRefused = []
error_line (BadDocument at) = refused_document at
error_line (BadText fault) = refused_data fault
error_line BadWords = []
error_line BadBase = codes "rdfkeep: bad base\n"
error_line (BadData fault) = refused_data fault
error_line NotState = refused_state
error_line ReadFailed = codes "rdfkeep: read failed\n"
error_line WriteFailed = codes "rdfkeep: write failed\n"
error_line (NoMemory refused) = codes "rdfkeep: no memory\n"
error_line ParserNoMemory = codes "rdfkeep: no memory\n"

-- What standard error gets of an ending where nothing is told there meanwhile: its line alone, or a front of that where it takes no more. Of wrong words it
-- gets a text of its own.
abbrev pub TellsEnding : Outcome → Option (List ℕ) → Option (List ℕ) → Type 0
TellsEnding BadWords before after = Unit {0}
TellsEnding outcome before after = IsShown before (error_line outcome) after
