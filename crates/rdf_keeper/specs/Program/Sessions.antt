-- The session that the words begin with: their depth, their base, and then their data, each file of which is opened, read and loaded before the next.
use Rattle.std.specs.Prelude.{◌≡◌, ℕ, false, List, [], ◌∷◌, Option, None, Some, Result, Ok, Err, IfSome, IsTrue, MatchResult}
use Rattle.std.specs.Option.{option_copied}
use Rattle.rdf_dataset.specs.State.{empty_state}
use Rattle.rdf_session.specs.Depth.{IsDepth}
use Rattle.rdf_session.specs.Session.{Session, fresh, with_depth}
use Rattle.rdf_session.specs.declared.format.Format.{Format}
use Rattle.rdf_terms.specs.Iri.{is_iri}
use Rattle.rdf_keeper.specs.Inside.Once.{LoadsAll}
use Rattle.rdf_keeper.specs.Inside.Starts.{BeginsWith, RefusesData, RefusesLoad}
use Rattle.rdf_keeper.specs.Program.Openings.{Opening}
use Rattle.rdf_keeper.specs.Program.Stages.{Part, Stays, Then}
use Rattle.rdf_keeper.specs.Program.Texts.{ReadsFile, ReadsNamed}
use Rattle.rdf_keeper.specs.declared.program.once_words.DataWords.{DataWords}
use Rattle.rdf_keeper.specs.declared.program.once_words.DocumentWord.{DocumentWord}
use Rattle.rdf_keeper.specs.declared.program.once_words.StartWord.{StartWord}
use Rattle.rdf_keeper.specs.declared.program.outcome.Outcome.{Outcome}
use Rattle.rdf_keeper.specs.declared.program.outcome.Outcome.TheVariants.{BadWords, BadBase, NoMemory}
use Rattle.rdf_keeper.specs.declared.program.words.RunWords.{RunWords}
use Rattle.rdf_keeper.specs.declared.program.words.StartFormat.{StartFormat}

-- the depth that the words give, which has to be one
abbrev pub GivesDepth : Option ℕ → Result (Option ℕ) Outcome → Type 0
GivesDepth word result = MatchResult result (λ depth. (depth ≡ word) × IsDepth depth) (λ outcome. (IsDepth word → ⊥) × (outcome ≡ BadWords))

-- the base that the words give, which has to be an IRI
abbrev pub GivesBase : Option (List ℕ) → Result (Option (List ℕ)) Outcome → Type 0
GivesBase word (Ok base) = (base ≡ word) × IfSome base (λ text. IsTrue (is_iri text))
GivesBase word (Err BadBase) = (text : List ℕ) × (word ≡ Some text) × (is_iri text ≡ false)
GivesBase word (Err (NoMemory refused)) = Unit {0}
GivesBase word (Err outcome) = ⊥

-- a session that begins with nothing
abbrev pub IsFresh : Option (List ℕ) → Result Session Outcome → Type 0
IsFresh base result = result ≡ Ok (fresh base (empty_state 0))

-- one that begins with the data of a text, or their refusal
abbrev pub BeginsOver : StartFormat → Option (List ℕ) → List ℕ → Result Session Outcome → Type 0
BeginsOver format base text result = MatchResult result (λ start. BeginsWith format base text start) (λ outcome. RefusesData format base text outcome)

-- the session with one document more, or its refusal
abbrev pub LoadsOne : Format → List ℕ → Session → Result Session Outcome → Type 0
LoadsOne format text old result = MatchResult result (λ new. LoadsAll (format ∷ []) (text ∷ []) old new) (λ outcome. RefusesLoad format text old outcome)

module _ {Folder : Type 0} (step : Folder → Opening → Folder → Type 0) where
  -- the session that begins with the file that is named, or with nothing
  abbrev pub Begins : StartFormat → Option (List ℕ) → Option (List ℕ) → Part Folder Session
  Begins format None base = Stays (IsFresh base)
  Begins format (Some path) base = Then (ReadsFile step path) (λ text. Stays (BeginsOver format base text))

  -- the same, where standard input may be named
  abbrev pub BeginsNamed : StartFormat → List ℕ → Option (List ℕ) → Part (Folder × Option (List ℕ)) Session
  BeginsNamed format path base = Then (ReadsNamed step path) (λ text. Stays (BeginsOver format base text))

  -- that of a script
  abbrev pub BeginsRun : RunWords → Part Folder Session
  BeginsRun words =
      Then (Stays (GivesDepth words.depth)) (λ depth.
      Then (Stays (GivesBase (option_copied words.base))) (λ base.
      Then (Begins words.format (option_copied words.data) base) (λ start.
      Stays (λ result. result ≡ Ok (with_depth depth start)))))

  -- ---- where several files of data may be named

  abbrev pub BeginsFirst : Option StartWord → Option (List ℕ) → Part (Folder × Option (List ℕ)) Session
  BeginsFirst None base = Stays (IsFresh base)
  BeginsFirst (Some word) base = Then (ReadsNamed step word.path.now) (λ text. Stays (BeginsOver word.format base text))

  abbrev pub LoadsFurther : List DocumentWord → Session → Part (Folder × Option (List ℕ)) Session
  LoadsFurther [] old = Stays (λ result. result ≡ Ok old)
  LoadsFurther (word ∷ words) old =
      Then (ReadsNamed step word.path.now) (λ text.
      Then (Stays (LoadsOne word.format text old)) (λ mid.
      LoadsFurther words mid))

  abbrev pub BeginsAll : DataWords → Option (List ℕ) → Part (Folder × Option (List ℕ)) Session
  BeginsAll words base = Then (BeginsFirst words.first base) (λ start. LoadsFurther words.further.items start)

  -- that of a query or a request
  abbrev pub BeginsOnce : Option (List ℕ) → DataWords → Part (Folder × Option (List ℕ)) Session
  BeginsOnce base words = Then (Stays (GivesBase base)) (λ given. BeginsAll words given)
