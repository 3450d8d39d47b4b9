-- What the words of scripts ask for and what their answer lines say, one by one: the list of commands, as a reader of it has it.
use Rattle.std.specs.Prelude.{◌≡◌, ℕ, List, [], ◌∷◌, true, false, codes, None, Ok}
use Rattle.std.specs.FinSet as set
use Rattle.rdf_terms.specs.Quad.{QuadParts}
use Rattle.rdf_terms.specs.declared.quad.GraphName.TheVariants.{Named}
use Rattle.rdf_terms.specs.declared.term.Term.TheVariants.{Iri}
use Rattle.rdf_lines.specs.declared.fault.FaultKind.TheVariants.{Syntax}
use Rattle.rdf_dataset.specs.State.{Change}
use Rattle.rdf_session.specs.Request.{Load, Update}
use Rattle.rdf_session.specs.Session.{Changed, Do, Undo, Redo, Mark, Rollback, Commit, Refused as RefusedReply}
use Rattle.rdf_session.specs.declared.fault.KeeperFault.TheVariants.{Line}
use Rattle.rdf_session.specs.declared.format.Format.TheVariants.{NQuads, NTriples, Turtle}
use Rattle.rdf_keeper.specs.Script.Answers.{count_line, query_text, reply_line}
use Rattle.rdf_keeper.specs.Script.Commands.{Asked, act, ask, bad, commands, show, unended}
use Rattle.rdf_keeper.specs.Script.LineWords.{is_name}
use Rattle.rdf_keeper.specs.Script.Lines.{raw_lines}
use Rattle.rdf_keeper.specs.Script.Show.{ListsChange}
use Rattle.rdf_keeper.specs.Script.Statuses.{no_memory, status_code}
use Rattle.rdf_keeper.specs.declared.script.command.Topic.TheVariants.{Changes, Graphs, Quads, State}
use Rattle.rdf_keeper.specs.declared.script.status.Status.TheVariants.{Accepted, Refused, ReadFailed, WriteFailed}

-- what a whole text asks for
abbrev pub asked_by : List ℕ → List Asked
asked_by text = commands true None (raw_lines text)

-- ---- commands

-- those of one word
abbrev pub WordsAsk : Type 0
WordsAsk = asked_by (codes "%undo\n%redo\n%commit\n%changes\n%graphs\n%print\n%state\n")
    ≡ act Undo ∷ act Redo ∷ act Commit ∷ show Changes ∷ show Graphs ∷ show Quads ∷ show State ∷ []

-- Those with a name want just one, which is the name of a mark.
abbrev pub NamesAsk : Type 0
NamesAsk = asked_by (codes "%mark a\n%rollback a\n%mark\n%rollback\n%mark a b\n%mark a+\n%rollback a/b\n")
    ≡ act (Mark (codes "a")) ∷ act (Rollback (codes "a")) ∷ bad ∷ bad ∷ bad ∷ bad ∷ bad ∷ []

-- A load wants just one of these three formats, in small letters.
abbrev pub FormatsAsk : Type 0
FormatsAsk = asked_by (codes "%load nquads\n%end\n%load ntriples\n%end\n%load turtle\n%end\n%load Turtle\n%end\n%load\n%end\n%load nquads turtle\n%end\n")
    ≡ act (Do (Load NQuads [])) ∷ act (Do (Load NTriples [])) ∷ act (Do (Load Turtle [])) ∷ bad ∷ bad ∷ bad ∷ []

-- An update and a query are their bodies, and stand on a line of one word; behind another the body is passed over.
abbrev pub BodiesAsk : Type 0
BodiesAsk = asked_by (codes "%update\na\n%end\n%query\nb\n%end\n%update x\nc\n%end\n%query x\nd\n%end\n")
    ≡ act (Do (Update (codes "a\n"))) ∷ ask (codes "b\n") ∷ bad ∷ bad ∷ []

-- In a body all lines are its text, comments, empty lines and commands too, with their ends as they are.
abbrev pub BodiesAreTexts : Type 0
BodiesAreTexts = asked_by (codes "%update\n# a\r\n\n%undo\n%end\n%print") ≡ act (Do (Update (codes "# a\r\n\n%undo\n"))) ∷ show Quads ∷ []

-- The line `%end` ends a body, with a CR before its LF or without an LF too; with anything else on it, or in other letters, it is text.
abbrev pub EndsAreLines : Type 0
EndsAreLines = asked_by (codes "%query\n %end\n%END\n%end a\n%end\r\n%query\n%end") ≡ ask (codes " %end\n%END\n%end a\n") ∷ ask [] ∷ []

-- A body that is open where the script ends asks for its end, whatever began it.
abbrev pub OpenBodies : Type 0
OpenBodies = (asked_by (codes "%query\n") ≡ unended ∷ []) × (asked_by (codes "%load trig\na\n") ≡ unended ∷ [])

-- Outside bodies a line without words asks for nothing, nor one whose first word begins with #. A # behind that is a word.
abbrev pub CommentsAskNothing : Type 0
CommentsAskNothing = asked_by (codes "# %undo\n#%undo\n\n \t\r\n\t#\n%undo # a\n") ≡ bad ∷ []

-- Any other line is no command.
abbrev pub OthersAreBad : Type 0
OthersAreBad = asked_by (codes "undo\n%Undo\n%undo now\n%end\n%%undo\n%") ≡ bad ∷ bad ∷ bad ∷ bad ∷ bad ∷ bad ∷ []

-- The name of a mark is letters and digits of ASCII, `_`, `-` and `.`: at least one, and at most 64.
abbrev pub NamesOfMarks : Type 0
NamesOfMarks =
    (is_name (codes "azAZ09_-.") ≡ true) × (is_name [] ≡ false) × (is_name (codes "a:b") ≡ false) × (is_name (codes "é") ≡ false)
    × (is_name (codes "0123456789012345678901234567890123456789012345678901234567890123") ≡ true)
    × (is_name (codes "01234567890123456789012345678901234567890123456789012345678901234") ≡ false)

-- ---- answers

-- How many quads came stands first, then how many went; a fault has the line of the text that it lies in; a query's payload stands before
-- the number of its rows.
abbrev pub LinesTell : Type 0
LinesTell =
    (reply_line (Changed (record { added = 12; removed = 3 })) ≡ codes "ok +12 -3\n")
    × (reply_line (RefusedReply (Line (record { line = 3; kind = Syntax }))) ≡ codes "refused: Syntax line 3\n")
    × (count_line 20 ≡ codes "ok 20\n")
    × (query_text (Ok (record { payload = codes "?x\n1\n"; rows = 1 })) ≡ codes "?x\n1\nok 1\n")

-- a quad, a name and another of each
abbrev pub quad_in : List ℕ → QuadParts
quad_in name = record { graph = Named (Iri name); subject = Iri (codes "e:s"); predicate = Iri (codes "e:p"); object = Iri (codes "e:o") }

-- one graph with its quad went, and one came
abbrev pub one_for_another : Change
one_for_another = record {
  added = set.from_list (quad_in (codes "e:a") ∷ []);
  removed = set.from_list (quad_in (codes "e:r") ∷ []);
  names_added = set.from_list (Iri (codes "e:a") ∷ []);
  names_removed = set.from_list (Iri (codes "e:r") ∷ []);
  before = 0;
  after = 0;
}

-- What went stands before what came, and the names before the quads.
abbrev pub ChangesTell : Type 0
ChangesTell = (lines : List (List ℕ)) → ListsChange one_for_another lines
    → lines ≡ codes "- graph <e:r>\n" ∷ codes "- <e:s> <e:p> <e:o> <e:r> .\n" ∷ codes "+ graph <e:a>\n" ∷ codes "+ <e:s> <e:p> <e:o> <e:a> .\n" ∷ []

-- the exit status of each ending
abbrev pub StatusesTell : Type 0
StatusesTell =
    (status_code Accepted ≡ 0) × (status_code Refused ≡ 1) × (status_code ReadFailed ≡ 3) × (status_code WriteFailed ≡ 3) × (status_code no_memory ≡ 4)
