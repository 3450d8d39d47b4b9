-- A word of the program is a session in small: what it writes is what that command answers, without its answer line.
use Rattle.std.specs.Prelude.{◌≡◌, ℕ, true, false, None, List, [], ◌∷◌, ◌++◌, codes, length, Ok}
use Rattle.std.specs.List.{AllByRecursion, concat}
use Rattle.rdf_session.specs.Query.{Replies}
use Rattle.rdf_session.specs.Request.{Update}
use Rattle.rdf_session.specs.Session.{Session, Transition, Do, Changed}
use Rattle.rdf_session.specs.declared.fault.Counts.{Counts}
use Rattle.rdf_session.specs.declared.query.Answer.{Answer}
use Rattle.rdf_keeper.specs.Script.Answers.{Answers, count_line, reply_line}
use Rattle.rdf_keeper.specs.Script.Commands.{act, ask, show, commands, is_end}
use Rattle.rdf_keeper.specs.Script.LineLaws.{IsEnded}
use Rattle.rdf_keeper.specs.Script.Lines.{raw_lines}
use Rattle.rdf_keeper.specs.Script.Show.{Shows}
use Rattle.rdf_keeper.specs.declared.script.command.Topic.{Topic}

-- lines that may stand in a body: an LF ends each, and none is its end
abbrev pub AreBodyLines : List (List ℕ) → Type 0
AreBodyLines lines = AllByRecursion (λ line. IsEnded line × (is_end line ≡ false)) lines

-- the script of one command with a body
abbrev pub body_script : List ℕ → List (List ℕ) → List ℕ
body_script opener lines = opener ++ (concat lines ++ codes "%end\n")

-- The script of a query is that one command,
abbrev pub QueryScriptAsks : Type 0
QueryScriptAsks = (lines : List (List ℕ)) → AreBodyLines lines → commands true None (raw_lines (body_script (codes "%query\n") lines)) ≡ ask (concat lines) ∷ []

-- and so is that of a request.
abbrev pub UpdateScriptActs : Type 0
UpdateScriptActs = (lines : List (List ℕ)) → AreBodyLines lines → commands true None (raw_lines (body_script (codes "%update\n") lines)) ≡ act (Do (Update (concat lines))) ∷ []

-- What a query answers, and behind it the answer line, answers its command,
abbrev pub RepliesAreAnswers : Type 0
RepliesAreAnswers = (s : Session) (query : List ℕ) (answer : Answer) → Replies s query (Ok answer) → Answers (ask query) s (answer.payload ++ count_line answer.rows) false s

-- and nothing else does without refusing it.
abbrev pub AnswersAreReplies : Type 0
AnswersAreReplies = (s t : Session) (query text : List ℕ) → Answers (ask query) s text false t
    → (answer : Answer) × Replies s query (Ok answer) × (text ≡ answer.payload ++ count_line answer.rows) × (t ≡ s)

-- An accepted request, and then what the session behind it shows, answer these two commands.
abbrev pub ChangesAreShown : Type 0
ChangesAreShown = (s end : Session) (request : List ℕ) (counts : Counts) (topic : Topic) (lines : List (List ℕ)) → Transition s (Do (Update request)) (Changed counts) end → Shows topic end lines
    → Answers (act (Do (Update request))) s (reply_line (Changed counts)) false end × Answers (show topic) end (concat lines ++ count_line (length lines)) false end
