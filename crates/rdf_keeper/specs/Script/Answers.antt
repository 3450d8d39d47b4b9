-- The answers to commands, as bytes.
use Rattle.std.specs.Prelude.{◌≡◌, ◌⊎◌, ℕ, Bool, true, false, List, [], ◌∷◌, ◌++◌, codes, decimal, length, Option, Some, None, Result, Ok, Err, is_err}
use Rattle.std.specs.List.{concat}
use Rattle.rdf_keeper.specs.Script.Commands.{Asked, act, ask, show, bad, unended}
use Rattle.rdf_session.specs.Faults.{line_of, name_of, no_memory}
use Rattle.rdf_keeper.specs.Script.Show.{Shows}
use Rattle.rdf_session.specs.Query.{Replies}
use Rattle.rdf_session.specs.Session.{Session, Transition, Reply, Changed, Done, Refused}
use Rattle.rdf_session.specs.declared.fault.KeeperFault.{KeeperFault}
use Rattle.rdf_session.specs.declared.fault.KeeperFault.TheVariants.{BadCommand, NoEnd}
use Rattle.rdf_session.specs.declared.query.Answer.{Answer}

-- the number of a line
abbrev pub line_text : ℕ → List ℕ
line_text number = codes " line " ++ decimal number

-- the line of a fault, where it has one
abbrev pub place_text : Option ℕ → List ℕ
place_text (Some line) = line_text line
place_text None = []

-- the answer line of a reply
abbrev pub reply_line : Reply → List ℕ
reply_line (Changed c) = codes "ok +" ++ decimal c.added ++ codes " -" ++ decimal c.removed ++ 10 ∷ []
reply_line Done = codes "ok" ++ 10 ∷ []
reply_line (Refused fault) = codes "refused: " ++ name_of fault ++ place_text (line_of fault) ++ 10 ∷ []

-- the answer line after this many lines
abbrev pub count_line : ℕ → List ℕ
count_line n = codes "ok " ++ decimal n ++ 10 ∷ []

abbrev pub is_refused : Reply → Bool
is_refused (Refused fault) = true
is_refused (Changed counts) = false
is_refused Done = false

-- the bytes of a reply to a query: its payload, and how many rows there are, or its refusal
abbrev pub query_text : Result Answer KeeperFault → List ℕ
query_text (Ok answer) = answer.payload ++ count_line answer.rows
query_text (Err fault) = reply_line (Refused fault)

-- the bytes are those of a reply to the query at the session, and whether they refuse it
pub record WritesReply (s : Session) (query text : List ℕ) (refused : Bool) : Type 0 where
  pub reply : Result Answer KeeperFault
  pub replies : Replies s query reply
  pub bytes : text ≡ query_text reply
  pub refuses : refused ≡ is_err reply

-- the bytes of an answer, whether it is a refusal, and the session after it
abbrev pub Answers : Asked → Session → List ℕ → Bool → Session → Type 0
Answers (act c) s text refused t = (reply : Reply) × Transition s c reply t × (text ≡ reply_line reply) × (refused ≡ is_refused reply)
Answers (ask query) s text refused t = (t ≡ s) × WritesReply s query text refused
Answers (show topic) s text refused t =
    (t ≡ s) × (((lines : List (List ℕ)) × Shows topic s lines × (text ≡ concat lines ++ count_line (length lines)) × (refused ≡ false))
    ⊎ ((text ≡ reply_line (Refused no_memory)) × (refused ≡ true)))
Answers bad s text refused t = (t ≡ s) × (text ≡ reply_line (Refused BadCommand)) × (refused ≡ true)
Answers unended s text refused t = (t ≡ s) × (text ≡ reply_line (Refused NoEnd)) × (refused ≡ true)
