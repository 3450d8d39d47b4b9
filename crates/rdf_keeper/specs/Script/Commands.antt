-- The commands of a script.
use Rattle.std.specs.Prelude.{ℕ, Bool, false, List, [], ◌∷◌, ◌++◌, nat_eq, codes, if◌then◌else◌, Option, Some, None}
use Rattle.std.specs.Str.{bytes_eq}
use Rattle.rdf_keeper.specs.Script.Lines.{bare}
use Rattle.rdf_session.specs.Request.{Load, Update}
use Rattle.rdf_session.specs.Session as session
use Rattle.rdf_keeper.specs.Script.LineWords.{words, is_name}
use Rattle.rdf_session.specs.declared.format.Format.{Format}
use Rattle.rdf_session.specs.declared.format.Format.TheVariants.{NQuads, NTriples, Turtle}
use Rattle.rdf_keeper.specs.declared.script.command.Body.{Body}
use Rattle.rdf_keeper.specs.declared.script.command.Body.TheVariants.{Load as LoadBody, Update as UpdateBody, Query as QueryBody, Unknown as UnknownBody}
use Rattle.rdf_keeper.specs.declared.script.command.Topic.{Topic}
use Rattle.rdf_keeper.specs.declared.script.command.Topic.TheVariants.{Changes, Graphs, Quads, State}

pub data Asked : Type 0 where
  -- a transition of the session
  act : session.Command → Asked
  -- a query, by its text
  ask : List ℕ → Asked
  -- what the session is to show
  show : Topic → Asked
  -- no command
  bad : Asked
  -- a body without an end
  unended : Asked

-- what a line outside bodies is
pub data Line : Type 0 where
  skipped : Line
  -- a body begins
  opens : Body → Line
  asks : Asked → Line

abbrev pub format_named : List ℕ → Option Format
format_named word =
    if bytes_eq word (codes "nquads") then Some NQuads else
    if bytes_eq word (codes "ntriples") then Some NTriples else
    if bytes_eq word (codes "turtle") then Some Turtle else None

-- the format that the words after %load name
abbrev pub format_of : List (List ℕ) → Option Format
format_of [] = None
format_of (word ∷ []) = format_named word
format_of (word ∷ (other ∷ others)) = None

-- the body of a load
abbrev pub load_of : Option Format → Body
load_of (Some format) = LoadBody format
load_of None = UnknownBody

-- the body behind a line of one word
abbrev pub alone : Body → List (List ℕ) → Body
alone body [] = body
alone body (word ∷ words) = UnknownBody

-- a command of one word
abbrev pub plain : List ℕ → Asked
plain word =
    if bytes_eq word (codes "%undo") then act session.Undo else
    if bytes_eq word (codes "%redo") then act session.Redo else
    if bytes_eq word (codes "%commit") then act session.Commit else
    if bytes_eq word (codes "%changes") then show Changes else
    if bytes_eq word (codes "%graphs") then show Graphs else
    if bytes_eq word (codes "%print") then show Quads else
    if bytes_eq word (codes "%state") then show State else bad

-- a command with a name
abbrev pub named : List ℕ → List ℕ → Asked
named word name =
    if is_name name
    then (if bytes_eq word (codes "%mark") then act (session.Mark name) else if bytes_eq word (codes "%rollback") then act (session.Rollback name) else bad)
    else bad

-- a command without a body: its first word, and the others
abbrev pub asked : List ℕ → List (List ℕ) → Asked
asked word [] = plain word
asked word (name ∷ []) = named word name
asked word (name ∷ (other ∷ others)) = bad

-- a word begins with #
abbrev pub is_comment : List ℕ → Bool
is_comment [] = false
is_comment (b ∷ bs) = nat_eq b 35

-- what the words of a line outside bodies say
abbrev pub line_of_words : List (List ℕ) → Line
line_of_words [] = skipped
line_of_words (word ∷ rest) =
    if is_comment word then skipped else
    if bytes_eq word (codes "%load") then opens (load_of (format_of rest)) else
    if bytes_eq word (codes "%update") then opens (alone UpdateBody rest) else
    if bytes_eq word (codes "%query") then opens (alone QueryBody rest) else asks (asked word rest)

-- a body that has ended
abbrev pub body_asks : Body → List ℕ → Asked
body_asks (LoadBody format) text = act (session.Do (Load format text))
body_asks UpdateBody text = act (session.Do (Update text))
body_asks QueryBody text = ask text
body_asks UnknownBody text = bad

abbrev pub is_end : List ℕ → Bool
is_end line = bytes_eq (bare line) (codes "%end")

-- from a line outside bodies on: the commands where no body begins, and those where one does
abbrev pub after_line : Line → List Asked → (Body → List Asked) → List Asked
after_line skipped outside inside = outside
after_line (opens body) outside inside = inside body
after_line (asks a) outside inside = a ∷ outside

-- the commands of the lines, outside a body or within one so far; the first argument says whether the text has ended
abbrev pub commands : Bool → Option (Body × List ℕ) → List (List ℕ) → List Asked
commands ended None [] = []
commands ended (Some body) [] = if ended then unended ∷ [] else []
commands ended None (line ∷ lines) =
    after_line (line_of_words (words (bare line))) (commands ended None lines) (λ body. commands ended (Some (body, [])) lines)
commands ended (Some body) (line ∷ lines) =
    if is_end line then body_asks body.0 body.1 ∷ commands ended None lines else commands ended (Some (body.0, body.1 ++ line)) lines
