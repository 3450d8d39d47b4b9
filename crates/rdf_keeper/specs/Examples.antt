-- Worked examples: the commands of scripts, whole sessions with their answers, and what histories and blank nodes come to.
use Rattle.std.specs.Prelude.{◌≡◌, ℕ, List, [], ◌∷◌, true, false, codes, Option, Some, None}
use Rattle.std.specs.FinSet as set
use Rattle.rdf_terms.specs.Quad.{QuadParts}
use Rattle.rdf_terms.specs.declared.quad.GraphName.TheVariants.{Default, Named}
use Rattle.rdf_terms.specs.declared.term.Term.{Term}
use Rattle.rdf_terms.specs.declared.term.Term.TheVariants.{Blank, Iri}
use Rattle.rdf_dataset.specs.State.{State, empty_state}
use Rattle.rdf_keeper.specs.Script.Answers.{reply_line}
use Rattle.rdf_keeper.specs.Script.Commands.{Asked, act, bad, commands, show, unended}
use Rattle.rdf_session.specs.History.{History, marked, moved, nothing, place_of, pushed}
use Rattle.rdf_keeper.specs.Script.LineWords.{is_name}
use Rattle.rdf_keeper.specs.Script.Lines.{raw_lines, upto_last_end}
use Rattle.rdf_keeper.specs.Script.OneOutput.{AreFull, FirmAnswers, IsWhole}
use Rattle.rdf_dataset.specs.Insertion.{quad_from}
use Rattle.rdf_session.specs.Request.{Load, blank_limit}
use Rattle.rdf_keeper.specs.Script.Runs.{Serves, to_end, RunsOver}
use Rattle.rdf_session.specs.Session.{Session, Do, Done, Mark, Refused as RefusedReply, Undo, fresh, now}
use Rattle.rdf_session.specs.declared.fault.KeeperFault.TheVariants.{NoEnd}
use Rattle.rdf_session.specs.declared.format.Format.TheVariants.{NQuads}
use Rattle.rdf_keeper.specs.declared.script.command.Topic.TheVariants.{Quads}
use Rattle.rdf_keeper.specs.declared.script.status.Status.{Status}
use Rattle.rdf_keeper.specs.declared.script.status.Status.TheVariants.{Accepted, Refused}

-- ---- commands

-- what a whole text asks for
abbrev pub script : List ℕ → List Asked
script text = commands true None (raw_lines text)

abbrev pub NothingAsked : Type 0
NothingAsked = script [] ≡ []

-- a load, printed, undone and printed
abbrev pub FourCommands : Type 0
FourCommands = script (codes "%load nquads\na\n%end\n%print\n%undo\n%print\n") ≡ act (Do (Load NQuads (codes "a\n"))) ∷ show Quads ∷ act Undo ∷ show Quads ∷ []

-- the last line needs no end, a CR before an LF is part of it, and words stand between spaces and tabs
abbrev pub LineEnds : Type 0
LineEnds = script (codes "%undo\r\n # c\n\n\t%mark  a\t\n%print") ≡ act Undo ∷ act (Mark (codes "a")) ∷ show Quads ∷ []

-- a body without an end
abbrev pub OpenBody : Type 0
OpenBody = script (codes "%print\n%update\nINSERT DATA { }\n") ≡ show Quads ∷ unended ∷ []

-- `%end` and a space ends no body
abbrev pub EndAndSpace : Type 0
EndAndSpace = script (codes "%load nquads\n%end \n%end") ≡ act (Do (Load NQuads (codes "%end \n"))) ∷ []

-- a body is read over before a bad command is refused
abbrev pub BadCommands : Type 0
BadCommands = script (codes "%load trig\nx\n%end\n%frob\n%undo now\n%rollback\n") ≡ bad ∷ bad ∷ bad ∷ bad ∷ []

-- of a text that goes on, only whole lines count
abbrev pub WholeLines : Type 0
WholeLines = commands false None (raw_lines (upto_last_end (codes "%undo\n%print"))) ≡ act Undo ∷ []

abbrev pub MarkNames : Type 0
MarkNames = (is_name (codes "a_B-9.") ≡ true) × (is_name (codes "a b") ≡ false)

-- ---- answers

abbrev pub ReplyLines : Type 0
ReplyLines = (reply_line (RefusedReply NoEnd) ≡ codes "refused: NoEnd\n") × (reply_line Done ≡ codes "ok\n")

-- a session that begins with no quads, no names and no base IRI
abbrev pub begin : Session
begin = fresh None (empty_state 0)

-- The script may have these answers, one by one, and end with this status at this state.
abbrev pub MayAnswer : List ℕ → List (List ℕ) → Status → State → Type 0
MayAnswer text answers status state = (end : Session) × Serves (to_end FirmAnswers false Accepted) false (script text) begin answers end status × (now end ≡ state)

-- It has no others and ends no other way, where no answer is that memory is wanting and the session comes to its end.
abbrev pub AnswersNoOther : List ℕ → List (List ℕ) → Status → State → Type 0
AnswersNoOther text answers status state = (after : Option (List ℕ)) (others : List (List ℕ)) (end : Session) (otherwise : Status)
    → RunsOver false (Some text) after begin others end otherwise → IsWhole otherwise → AreFull others
    → (others ≡ answers) × (otherwise ≡ status) × (now end ≡ state)

-- both
abbrev pub MustAnswer : List ℕ → List (List ℕ) → Status → State → Type 0
MustAnswer text answers status state = MayAnswer text answers status state × AnswersNoOther text answers status state

-- the empty script
abbrev pub NothingAnswered : Type 0
NothingAnswered = MustAnswer [] [] Accepted (empty_state 0)

-- a document of one statement, its quad, and the state of that quad alone
abbrev pub document : List ℕ
document = codes "<e:s> <e:p> <e:o> .\n"

abbrev pub quad : QuadParts
quad = record { graph = Default; subject = Iri (codes "e:s"); predicate = Iri (codes "e:p"); object = Iri (codes "e:o") }

abbrev pub one_quad : State
one_quad = record { quads = set.from_list (quad ∷ []); names = set.empty; next = 0 }

-- a load, printed, undone and printed
abbrev pub LoadUndone : Type 0
LoadUndone = MustAnswer (codes "%load nquads\n<e:s> <e:p> <e:o> .\n%end\n%print\n%undo\n%print\n")
    (codes "ok +1 -0\n" ∷ codes "<e:s> <e:p> <e:o> .\nok 1\n" ∷ codes "ok +0 -1\n" ∷ codes "ok 0\n" ∷ []) Accepted (empty_state 0)

-- the same document twice: the second load brings nothing new, and an undo takes back that one alone
abbrev pub LoadTwice : Type 0
LoadTwice = MustAnswer (codes "%load nquads\n<e:s> <e:p> <e:o> .\n%end\n%load nquads\n<e:s> <e:p> <e:o> .\n%end\n%undo\n%print\n")
    (codes "ok +1 -0\n" ∷ codes "ok +0 -0\n" ∷ codes "ok +0 -0\n" ∷ codes "<e:s> <e:p> <e:o> .\nok 1\n" ∷ []) Accepted one_quad

-- a redo, and one more than there is
abbrev pub LoadRedone : Type 0
LoadRedone = MustAnswer (codes "%load nquads\n<e:s> <e:p> <e:o> .\n%end\n%undo\n%redo\n%redo\n")
    (codes "ok +1 -0\n" ∷ codes "ok +0 -1\n" ∷ codes "ok +1 -0\n" ∷ codes "refused: NothingToRedo\n" ∷ []) Refused one_quad

-- a rollback to a mark, and one to a mark that isn't there
abbrev pub MarkReached : Type 0
MarkReached = MustAnswer (codes "%mark a\n%load nquads\n<e:s> <e:p> <e:o> .\n%end\n%rollback a\n%rollback b\n")
    (codes "ok\n" ∷ codes "ok +1 -0\n" ∷ codes "ok +0 -1\n" ∷ codes "refused: NoSuchMark\n" ∷ []) Refused (empty_state 0)

-- a commit leaves nothing to undo
abbrev pub Committed : Type 0
Committed = MustAnswer (codes "%load nquads\n<e:s> <e:p> <e:o> .\n%end\n%commit\n%undo\n")
    (codes "ok +1 -0\n" ∷ codes "ok\n" ∷ codes "refused: NothingToUndo\n" ∷ []) Refused one_quad

-- a document of one statement with a blank node, in a named graph, its quad, and the state of that quad alone
abbrev pub named_document : List ℕ
named_document = codes "_:b0 <e:p> <e:o> <e:g> .\n"

abbrev pub graph_name : Term
graph_name = Iri (codes "e:g")

abbrev pub named_quad : QuadParts
named_quad = record { graph = Named graph_name; subject = Blank 0; predicate = Iri (codes "e:p"); object = Iri (codes "e:o") }

abbrev pub one_named : State
one_named = record { quads = set.from_list (named_quad ∷ []); names = set.from_list (graph_name ∷ []); next = 1 }

-- the graph comes with its quad and is shown as a change with it; an undo takes both back, and the blank number
abbrev pub GraphShown : Type 0
GraphShown = MustAnswer (codes "%load nquads\n_:b0 <e:p> <e:o> <e:g> .\n%end\n%graphs\n%changes\n%undo\n%graphs\n%changes\n")
    (codes "ok +1 -0\n" ∷ codes "<e:g>\nok 1\n" ∷ codes "+ graph <e:g>\n+ _:b0 <e:p> <e:o> <e:g> .\nok 2\n" ∷ codes "ok +0 -1\n" ∷ codes "ok 0\n" ∷ codes "ok 0\n" ∷ [])
    Accepted (empty_state 0)

-- behind a commit nothing has changed, and all is there
abbrev pub GraphCommitted : Type 0
GraphCommitted = MustAnswer (codes "%load nquads\n_:b0 <e:p> <e:o> <e:g> .\n%end\n%commit\n%changes\n%graphs\n%print\n")
    (codes "ok +1 -0\n" ∷ codes "ok\n" ∷ codes "ok 0\n" ∷ codes "<e:g>\nok 1\n" ∷ codes "_:b0 <e:p> <e:o> <e:g> .\nok 1\n" ∷ []) Accepted one_named

-- a body that is open at the end isn't loaded
abbrev pub OpenLoad : Type 0
OpenLoad = MustAnswer (codes "%print\n%load nquads\n<e:s> <e:p> <e:o> .\n")
    (codes "ok 0\n" ∷ codes "refused: NoEnd\n" ∷ []) Refused (empty_state 0)

-- a refusal isn't forgotten, whatever comes behind it
abbrev pub RefusedFirst : Type 0
RefusedFirst = MustAnswer (codes "%undo\n%print\n") (codes "refused: NothingToUndo\n" ∷ codes "ok 0\n" ∷ []) Refused (empty_state 0)

-- where the first refusal ends the session, it is answered, and nothing behind it
abbrev pub StoppedAtOnce : Type 0
StoppedAtOnce = Serves (to_end FirmAnswers true Accepted) false (script (codes "%undo\n%print\n")) begin (codes "refused: NothingToUndo\n" ∷ []) begin Refused

-- ---- histories, and the numbers of blank nodes

-- a request after an undo cuts what was undone, and the mark past it
abbrev pub cut_history : History ℕ
cut_history = pushed 3 (moved 1 (marked (codes "b") (pushed 2 (marked (codes "a") (pushed 1 nothing)))))

abbrev pub HistoryCut : Type 0
HistoryCut =
    (cut_history.items ≡ 1 ∷ 3 ∷ []) × (cut_history.cursor ≡ 2)
    × (place_of (codes "a") cut_history ≡ Some 1) × (place_of (codes "b") cut_history ≡ None)

-- blank node 0 of a load becomes that of the counter
abbrev pub blank_quad : ℕ → QuadParts
blank_quad number = record { graph = Named (Blank number); subject = Blank number; predicate = Iri (codes "e:p"); object = Iri (codes "e:o") }

abbrev pub BlankNumbers : Type 0
BlankNumbers = (blank_limit (blank_quad 0 ∷ blank_quad 4 ∷ []) ≡ 5) × (quad_from 7 (blank_quad 4) ≡ blank_quad 11)
