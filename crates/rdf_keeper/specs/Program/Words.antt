-- What the program does for its words: which files it opens, one behind another, what it reads and writes, and how it ends. The first fault ends it.
use Rattle.std.specs.Prelude.{◌≡◌, ◌⊎◌, ℕ, Bool, false, not, ◌||◌, if◌then◌else◌, List, [], ◌∷◌, Option, Some, Result, Err, MatchBool, map, string_bytes}
use Rattle.std.specs.List.{concat}
use Rattle.std.specs.Option.{option_copied}
use Rattle.std.specs.Io.KnownBytes.{Appends}
use Rattle.rdf_session.specs.Query.{RepliesIn}
use Rattle.rdf_session.specs.Request.{Update}
use Rattle.rdf_session.specs.Session.{Session, Transition, Do, reply_of}
use Rattle.rdf_session.specs.declared.fault.Counts.{Counts}
use Rattle.rdf_session.specs.declared.fault.KeeperFault.{KeeperFault}
use Rattle.rdf_session.specs.declared.format.Format.{Format}
use Rattle.rdf_session.specs.declared.query.Answer.{Answer}
use Rattle.rdf_streams.specs.Checks.{Checks}
use Rattle.rdf_streams.specs.Conversion.Converts.{Converts}
use Rattle.rdf_streams.specs.declared.conversion.fault.ConvertFault.{ConvertFault}
use Rattle.rdf_keeper.specs.Inside.Once.{WritesCheck, WritesOut, WritesReply, WritesShown}
use Rattle.rdf_keeper.specs.Inside.Outcomes.{outcome_of}
use Rattle.rdf_keeper.specs.Inside.Starts.{outcome_after}
use Rattle.rdf_keeper.specs.Program.Openings.{Opening, Opened, Unopened}
use Rattle.rdf_keeper.specs.Program.Sessions.{BeginsOnce, BeginsRun, GivesBase}
use Rattle.rdf_keeper.specs.Program.Stages.{Ends, EndsUnwritten, Part, Stays}
use Rattle.rdf_keeper.specs.Program.Texts.{OpensOrInput, ReadsNamed, is_input}
use Rattle.rdf_keeper.specs.Script.Runs.{RunsOver}
use Rattle.rdf_keeper.specs.declared.program.once_words.CheckWords.{CheckWords}
use Rattle.rdf_keeper.specs.declared.program.once_words.QueryWords.{QueryWords}
use Rattle.rdf_keeper.specs.declared.program.once_words.UpdateWords.{UpdateWords}
use Rattle.rdf_keeper.specs.declared.program.outcome.Outcome.{Outcome}
use Rattle.rdf_keeper.specs.declared.program.outcome.Outcome.TheVariants.{BadWords, Done, NoMemory, ParserNoMemory, ReadFailed, SomeRefused}
use Rattle.rdf_keeper.specs.declared.program.words.Asked.{Asked}
use Rattle.rdf_keeper.specs.declared.program.words.Asked.TheVariants as asked
use Rattle.rdf_keeper.specs.declared.program.words.ConvertWords.{ConvertWords}
use Rattle.rdf_keeper.specs.declared.program.words.RunWords.{RunWords}
use Rattle.rdf_keeper.specs.declared.script.command.Topic.{Topic}
use Rattle.rdf_keeper.specs.declared.script.status.Status.{Status}

-- ---- what is written, where standard output held something before and holds something after

-- The script of these bytes is run in a session.
abbrev pub RunsScript : Bool → Session → Option (List ℕ) → Option (List ℕ) → Option (List ℕ) → Outcome → Type 0
RunsScript stop start bytes before after outcome =
    (answers : List (List ℕ)) × (left : Option (List ℕ)) × (end : Session) × (status : Status)
    × Appends before after (concat answers) × RunsOver stop bytes left start answers end status × (outcome ≡ outcome_after status)

-- The document of these bytes is converted; what is written is said where they are known.
abbrev pub ConvertsBytes : Format → Option (List ℕ) → Option (List ℕ) → Option (List ℕ) → Option (List ℕ) → Outcome → Type 0
ConvertsBytes format base bytes before after outcome =
    (answer : Result (Unit {0}) ConvertFault) × (outcome ≡ outcome_of answer)
    × ((text : List ℕ) → bytes ≡ Some text → (out : List ℕ) × (left : Option (List ℕ)) × Appends before after out × Converts format base text left out answer)

-- The query of the text is answered.
abbrev pub AnswersQuery : QueryWords → Session → List ℕ → Option (List ℕ) → Option (List ℕ) → Outcome → Type 0
AnswersQuery words start text before after outcome =
    (reply : Result Answer KeeperFault) × RepliesIn words.results start text reply × WritesReply before reply outcome after

-- The request of the text is applied, and what the session behind it shows is written.
abbrev pub AppliesRequest : Topic → Session → List ℕ → Option (List ℕ) → Option (List ℕ) → Outcome → Type 0
AppliesRequest shown start text before after outcome =
    (reply : Result Counts KeeperFault) × (end : Session) × Transition start (Do (Update text)) (reply_of reply) end × WritesShown shown end before reply outcome after

-- The document of these bytes, which has this name, is checked; what is written is said where they are known.
abbrev pub ChecksBytes : Format → Option (List ℕ) → List ℕ → Option (List ℕ) → Option (List ℕ) → Option (List ℕ) → Result Bool Outcome → Type 0
ChecksBytes format base name bytes before after result =
    (answer : Result ℕ ConvertFault) × WritesCheck name before answer result after
    × ((text : List ℕ) → bytes ≡ Some text → (left : Option (List ℕ)) × Checks format base text left answer)

-- how the program ends where words ask for nothing, or can't be read
abbrev pub AsksNothing : Outcome → Type 0
AsksNothing BadWords = Unit {0}
AsksNothing (NoMemory refused) = Unit {0}
AsksNothing ParserNoMemory = Unit {0}
AsksNothing outcome = ⊥

module _ {Folder : Type 0} (step : Folder → Opening → Folder → Type 0) where
  -- ---- each word, over a folder and what standard input has left

  -- `run`: the session, then its script, which is opened
  abbrev pub RunsNamed : RunWords → Session → Option (List ℕ) → Option (List ℕ) → Option (List ℕ) → Folder → Outcome → Folder → Type 0
  RunsNamed words start input before after =
      EndsUnwritten before after (OpensOrInput step (option_copied words.script) input) (λ bytes.
      Stays (RunsScript words.stop start bytes before after))

  abbrev pub Runs : RunWords → Option (List ℕ) → Option (List ℕ) → Option (List ℕ) → Folder → Outcome → Folder → Type 0
  Runs words input before after =
      EndsUnwritten before after (BeginsRun step words) (λ start. RunsNamed words start input before after)

  -- `convert`: the base, then the document, which is opened
  abbrev pub ConvertsAll : ConvertWords → Option (List ℕ) → Option (List ℕ) → Option (List ℕ) → Folder → Outcome → Folder → Type 0
  ConvertsAll words input before after =
      EndsUnwritten before after (Stays (GivesBase (option_copied words.base))) (λ base.
      EndsUnwritten before after (OpensOrInput step (option_copied words.file) input) (λ bytes.
      Stays (ConvertsBytes words.from base bytes before after)))

  -- `query`: the session, then the query, which is opened and read
  abbrev pub QueriesNamed : QueryWords → Session → Option (List ℕ) → Option (List ℕ) → Folder × Option (List ℕ) → Outcome → Folder × Option (List ℕ) → Type 0
  QueriesNamed words start before after =
      EndsUnwritten before after (ReadsNamed step words.query.now) (λ text.
      Stays (AnswersQuery words start text before after))

  abbrev pub Queries : QueryWords → Option (List ℕ) → Option (List ℕ) → Folder × Option (List ℕ) → Outcome → Folder × Option (List ℕ) → Type 0
  Queries words before after =
      EndsUnwritten before after (BeginsOnce step (option_copied words.base) words.data) (λ start. QueriesNamed words start before after)

  -- `update`: the session, then the request, which is opened and read
  abbrev pub UpdatesNamed : UpdateWords → Session → Option (List ℕ) → Option (List ℕ) → Folder × Option (List ℕ) → Outcome → Folder × Option (List ℕ) → Type 0
  UpdatesNamed words start before after =
      EndsUnwritten before after (ReadsNamed step words.request.now) (λ text.
      Stays (AppliesRequest words.shown start text before after))

  abbrev pub Updates : UpdateWords → Option (List ℕ) → Option (List ℕ) → Folder × Option (List ℕ) → Outcome → Folder × Option (List ℕ) → Type 0
  Updates words before after =
      EndsUnwritten before after (BeginsOnce step (option_copied words.base) words.data) (λ start. UpdatesNamed words start before after)

  -- ---- `check`, over a folder, what standard input has left, and what standard output holds

  -- a file, or standard input, and whether its document is sound
  abbrev pub ChecksFile : Format → Option (List ℕ) → List ℕ → Part (Folder × Option (List ℕ) × Option (List ℕ)) Bool
  ChecksFile format base path old result new =
      MatchBool (is_input path)
      ((new.0 ≡ old.0) × ChecksBytes format base path old.1 old.2 new.2 result)
      ((new.1 ≡ old.1)
      × (((bytes : Option (List ℕ)) × step old.0 (Opened path bytes) new.0 × ChecksBytes format base path bytes old.2 new.2 result)
      ⊎ (step old.0 (Unopened path) new.0 × (result ≡ Err ReadFailed) × (new.2 ≡ old.2))))

  -- one behind another, whatever they are, where one of those before wasn't sound, or each was
  abbrev pub ChecksFiles : Format → Option (List ℕ) → List (List ℕ) → Bool → Folder × Option (List ℕ) × Option (List ℕ) → Outcome → Folder × Option (List ℕ) × Option (List ℕ) → Type 0
  ChecksFiles format base [] refused = Stays (λ outcome. outcome ≡ (if refused then SomeRefused else Done))
  ChecksFiles format base (path ∷ paths) refused = Ends (ChecksFile format base path) (λ sound. ChecksFiles format base paths (refused || not sound))

  -- the base, then the files
  abbrev pub ChecksAll : CheckWords → Folder × Option (List ℕ) × Option (List ℕ) → Outcome → Folder × Option (List ℕ) × Option (List ℕ) → Type 0
  ChecksAll words =
      Ends (Stays (GivesBase (option_copied words.base))) (λ base.
      ChecksFiles words.from base (map (λ path. path.now) words.files.items) false)

  -- ---- what words ask for

  abbrev pub Does : Asked → Option (List ℕ) → Option (List ℕ) → Option (List ℕ) → Folder → Outcome → Folder → Type 0
  Does (asked.Run words) input before after old outcome new = Runs words input before after old outcome new
  Does (asked.Convert words) input before after old outcome new = ConvertsAll words input before after old outcome new
  Does (asked.Query words) input before after old outcome new = (left : Option (List ℕ)) × Queries words before after (old, input) outcome (new, left)
  Does (asked.Update words) input before after old outcome new = (left : Option (List ℕ)) × Updates words before after (old, input) outcome (new, left)
  Does (asked.Check words) input before after old outcome new = (left : Option (List ℕ)) × ChecksAll words (old, input, before) outcome (new, left, after)
  Does (asked.Shown text) input before after old outcome new = WritesOut before (string_bytes text) outcome after × (new ≡ old)

  -- The words ask for something, which is done. Or they ask for nothing, or memory to read them is wanting: then nothing is opened or written.
  abbrev pub DoesAsked : Option (List ℕ) → Option (List ℕ) → Option (List ℕ) → Folder → Outcome → Folder → Type 0
  DoesAsked input before after old outcome new =
      ((asked : Asked) × Does asked input before after old outcome new) ⊎ (AsksNothing outcome × Appends before after [] × (new ≡ old))
