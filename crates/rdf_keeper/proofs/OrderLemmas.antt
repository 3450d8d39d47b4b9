-- In which order files are opened.
use Rattle.std.proofs.Common.{◌≡◌, ◌∙◌, append_assoc, append-nil, refl, sym, ap, subst, ℕ, Bool, true, false, not, ◌||◌, List, [], ◌∷◌, ◌++◌, map, Option, Some, None, inl, inr}
use Rattle.std.specs.Prelude.{Result, Ok, Err, MatchBool, if◌then◌else◌}
use Rattle.std.specs.Option.{option_copied}
use Rattle.rdf_session.specs.Session.{Session}
use Rattle.rdf_session.specs.declared.format.Format.{Format}
use Rattle.rdf_keeper.specs.Program.Openings.{Opening, Opened, Unopened}
use Rattle.rdf_keeper.specs.Program.Order.{FilesInOrder, Opens, file_named, file_of, files_named, files_of_data, first_file, path_of}
use Rattle.rdf_keeper.specs.Program.Sessions.{Begins, BeginsFirst, BeginsOnce, BeginsRun, GivesBase, GivesDepth, LoadsFurther, LoadsOne}
use Rattle.rdf_keeper.specs.Program.Stages.{EndsUnwritten, Part, Stays, Then}
use Rattle.rdf_keeper.specs.Program.Texts.{OpensFile, OpensOrInput, ReadsAll, ReadsFile, ReadsNamed, is_input}
use Rattle.rdf_keeper.specs.Program.Words.{AnswersQuery, AppliesRequest, ChecksAll, ChecksFile, ChecksFiles, ConvertsAll, ConvertsBytes, Queries, Runs, RunsScript, Updates}
use Rattle.rdf_keeper.specs.declared.program.once_words.CheckWords.{CheckWords}
use Rattle.rdf_keeper.specs.declared.program.once_words.DataWords.{DataWords}
use Rattle.rdf_keeper.specs.declared.program.once_words.DocumentWord.{DocumentWord}
use Rattle.rdf_keeper.specs.declared.program.once_words.QueryWords.{QueryWords}
use Rattle.rdf_keeper.specs.declared.program.once_words.StartWord.{StartWord}
use Rattle.rdf_keeper.specs.declared.program.once_words.UpdateWords.{UpdateWords}
use Rattle.rdf_keeper.specs.declared.program.outcome.Outcome.{Outcome}
use Rattle.rdf_keeper.specs.declared.program.words.Asked.TheVariants as asked
use Rattle.rdf_keeper.specs.declared.program.words.ConvertWords.{ConvertWords}
use Rattle.rdf_keeper.specs.declared.program.words.RunWords.{RunWords}
use Rattle.rdf_keeper.specs.declared.program.words.StartFormat.{StartFormat}

map-append : {A B : Type 0} (f : A → B) (xs ys : List A) → map f (xs ++ ys) ≡ map f xs ++ map f ys
map-append f [] ys = refl
map-append f (x ∷ xs) ys = ap (λ zs. f x ∷ zs) (map-append f xs ys)

module _ {Folder : Type 0} (step : Folder → Opening → Folder → Type 0) where
  opens_on : (xs ys : List Opening) (a b c : Folder) → Opens step a xs b → Opens step b ys c → Opens step a (xs ++ ys) c
  opens_on [] ys a b c same more = subst (λ s. Opens step s ys c) same more
  opens_on (x ∷ xs) ys a b c (mid, one, rest) more = (mid, one, opens_on xs ys mid b c rest more)

  -- the files of these paths, all of them or the first ones
  abbrev All : List (List ℕ) → Folder → Folder → Type 0
  All paths old new = (openings : List Opening) × Opens step old openings new × (paths ≡ map path_of openings)

  abbrev First : List (List ℕ) → Folder → Folder → Type 0
  First paths old new = (openings : List Opening) × (left : List (List ℕ)) × Opens step old openings new × (paths ≡ map path_of openings ++ left)

  first_of_more : (paths more : List (List ℕ)) (old new : Folder) → First paths old new → First (paths ++ more) old new
  first_of_more paths more old new (openings, left, opens, is) = (openings, left ++ more, opens, ap (λ ps. ps ++ more) is ∙ append_assoc (map path_of openings) left more)

  all_are_first : (paths : List (List ℕ)) (old new : Folder) → All paths old new → First paths old new
  all_are_first paths old new (openings, opens, is) = (openings, [], opens, is ∙ sym (append-nil (map path_of openings)))

  all_behind : (paths more : List (List ℕ)) (old mid new : Folder) → All paths old mid → All more mid new → All (paths ++ more) old new
  all_behind paths more old mid new (openings, opens, is) (others, opens', is') =
      (openings ++ others, opens_on openings others old mid new opens opens', ap (λ ps. ps ++ more) is ∙ ap (λ ps. map path_of openings ++ ps) is' ∙ sym (map-append path_of openings others))

  first_behind : (paths more : List (List ℕ)) (old mid new : Folder) → All paths old mid → First more mid new → First (paths ++ more) old new
  first_behind paths more old mid new (openings, opens, is) (others, left, opens', is') = (
    openings ++ others,
    left,
    opens_on openings others old mid new opens opens',
    ap (λ ps. ps ++ more) is ∙ ap (λ ps. map path_of openings ++ ps) is' ∙ sym (append_assoc (map path_of openings) (map path_of others) left) ∙ ap (λ ps. ps ++ left) (sym (map-append path_of openings others)),
  )

  -- A part opens the files of these paths, or the first of them where it ends the program.
  record OpensAll {S A : Type 0} (folder : S → Folder) (paths : List (List ℕ)) (part : Part S A) : Type 0 where
    all : (old new : S) (value : A) → part old (Ok value) new → All paths (folder old) (folder new)
    first : (old new : S) (outcome : Outcome) → part old (Err outcome) new → First paths (folder old) (folder new)

  module _ {S : Type 0} (folder : S → Folder) where
    stays : {A : Type 0} {Holds : Result A Outcome → Type 0} → OpensAll folder [] (Stays Holds)
    stays = record {
      all = λ old new value part. ([], ap folder part.1, refl);
      first = λ old new outcome part. ([], [], ap folder part.1, refl);
    }

    behind : {A B : Type 0} {paths more : List (List ℕ)} {first : Part S A} {next : A → Part S B} → OpensAll folder paths first → ((value : A) → OpensAll folder more (next value)) → OpensAll folder (paths ++ more) (Then first next)
    behind {paths = paths} {more = more} one others = record {
      all = λ old new value part. elim part [
        | inl p ↦ cc
        | inr p ↦ all_behind paths more (folder old) (folder p.1) (folder new) (one.all old p.1 p.0 p.2) ((others p.0).all p.1 new value p.3)
      ];
      first = λ old new outcome part. elim part [
        | inl p ↦ first_of_more paths more (folder old) (folder new) (one.first old new p.0 p.1)
        | inr p ↦ first_behind paths more (folder old) (folder p.1) (folder new) (one.all old p.1 p.0 p.2) ((others p.0).first p.1 new outcome p.3)
      ];
    }

    -- the same, where what comes behind opens nothing
    then_stays : {A B : Type 0} {paths : List (List ℕ)} {first : Part S A} {Holds : A → Result B Outcome → Type 0} → OpensAll folder paths first → OpensAll folder paths (Then first (λ value. Stays (Holds value)))
    then_stays {B = B} {paths = paths} {first = first} {Holds = Holds} one =
        let part : Part S B = Then first (λ value. Stays (Holds value)) in
        subst (λ ps. OpensAll folder ps part) (append-nil paths) (behind one (λ value. stays))

    ends : {A : Type 0} {paths more : List (List ℕ)} (before after : Option (List ℕ)) {first : Part S A} {next : A → S → Outcome → S → Type 0} → OpensAll folder paths first
        → ((value : A) (old new : S) (outcome : Outcome) → next value old outcome new → First more (folder old) (folder new))
        → (old new : S) (outcome : Outcome) → EndsUnwritten before after first next old outcome new → First (paths ++ more) (folder old) (folder new)
    ends {paths = paths} {more = more} before after one others old new outcome part = elim part [
      | inl p ↦ first_of_more paths more (folder old) (folder new) (one.first old new outcome p.0)
      | inr p ↦ first_behind paths more (folder old) (folder p.1) (folder new) (one.all old p.1 p.0 p.2) (others p.0 p.1 new outcome p.3)
    ]

    -- the same, where what ends it opens nothing
    ends_stays : {A : Type 0} {paths : List (List ℕ)} (before after : Option (List ℕ)) {first : Part S A} (Holds : A → Outcome → Type 0) → OpensAll folder paths first
        → (old new : S) (outcome : Outcome) → EndsUnwritten before after first (λ value. Stays (Holds value)) old outcome new → First paths (folder old) (folder new)
    ends_stays {paths = paths} before after Holds one old new outcome part =
        subst (λ ps. First ps (folder old) (folder new)) (append-nil paths) (ends before after {next = λ value. Stays (Holds value)} one (λ value old new outcome end. ([], [], ap folder end.1, refl)) old new outcome part)

  opens_file : (path : List ℕ) → OpensAll (λ s. s) (path ∷ []) (OpensFile step path)
  opens_file path = record {
    all = λ old new bytes part. (Opened path bytes ∷ [], (new, part, refl), refl);
    first = λ old new outcome part. (Unopened path ∷ [], [], (new, part.0, refl), refl);
  }

  opens_or_input : (path input : Option (List ℕ)) → OpensAll (λ s. s) (file_of path) (OpensOrInput step path input)
  opens_or_input None input = stays (λ s. s)
  opens_or_input (Some path) input = opens_file path

  reads_file : (path : List ℕ) → OpensAll (λ s. s) (path ∷ []) (ReadsFile step path)
  reads_file path = then_stays (λ s. s) (opens_file path)

  -- a file where a test says so
  by_test : {S A : Type 0} (folder : S → Folder) (is : Bool) (path : List ℕ) (P Q : Part S A) → OpensAll folder [] P → OpensAll folder (path ∷ []) Q
      → OpensAll folder (if is then [] else path ∷ []) (λ old result new. MatchBool is (P old result new) (Q old result new))
  by_test folder true path P Q p q = p
  by_test folder false path P Q p q = q

  reads_named : (path : List ℕ) → OpensAll (λ s. s.0) (file_named path) (ReadsNamed step path)
  reads_named path =
      by_test (λ s. s.0) (is_input path) path (λ old result new. (new.0 ≡ old.0) × ReadsAll old.1 result) (λ old result new. (new.1 ≡ old.1) × ReadsFile step path old.0 result new.0)
      (record { all = λ old new value part. ([], part.0, refl); first = λ old new outcome part. ([], [], part.0, refl) })
      (record {
        all = λ old new value part. (reads_file path).all old.0 new.0 value part.1;
        first = λ old new outcome part. (reads_file path).first old.0 new.0 outcome part.1;
      })

  begins : (format : StartFormat) (path base : Option (List ℕ)) → OpensAll (λ s. s) (file_of path) (Begins step format path base)
  begins format None base = stays (λ s. s)
  begins format (Some path) base = then_stays (λ s. s) (reads_file path)

  begins_run : (words : RunWords) → OpensAll (λ s. s) (file_of (option_copied words.data)) (BeginsRun step words)
  begins_run words =
      behind (λ s. s) (stays (λ s. s) {Holds = GivesDepth words.depth}) (λ depth.
      behind (λ s. s) (stays (λ s. s) {Holds = GivesBase (option_copied words.base)}) (λ base.
      then_stays (λ s. s) (begins words.format (option_copied words.data) base)))

  begins_first : (first : Option StartWord) (base : Option (List ℕ)) → OpensAll (λ s. s.0) (first_file first) (BeginsFirst step first base)
  begins_first None base = stays (λ s. s.0)
  begins_first (Some word) base = then_stays (λ s. s.0) (reads_named word.path.now)

  loads_further : (words : List DocumentWord) (old : Session) → OpensAll (λ s. s.0) (files_named (map (λ word. word.path.now) words)) (LoadsFurther step words old)
  loads_further [] old = stays (λ s. s.0)
  loads_further (word ∷ words) old = behind (λ s. s.0) (reads_named word.path.now) (λ text. behind (λ s. s.0) (stays (λ s. s.0) {Holds = LoadsOne word.format text old}) (λ mid. loads_further words mid))

  begins_once : (base : Option (List ℕ)) (words : DataWords) → OpensAll (λ s. s.0) (files_of_data words) (BeginsOnce step base words)
  begins_once base words =
      behind (λ s. s.0) (stays (λ s. s.0) {Holds = GivesBase base}) (λ given.
      behind (λ s. s.0) (begins_first words.first given) (λ start. loads_further words.further.items start))

  -- ---- each word

  runs : (words : RunWords) (input before after : Option (List ℕ)) (old new : Folder) (outcome : Outcome) → Runs step words input before after old outcome new
      → First (file_of (option_copied words.data) ++ file_of (option_copied words.script)) old new
  runs words input before after =
      ends (λ s. s) before after (begins_run words) (λ start.
      ends_stays (λ s. s) before after (λ bytes. RunsScript words.stop start bytes before after) (opens_or_input (option_copied words.script) input))

  converts : (words : ConvertWords) (input before after : Option (List ℕ)) (old new : Folder) (outcome : Outcome) → ConvertsAll step words input before after old outcome new
      → First (file_of (option_copied words.file)) old new
  converts words input before after =
      ends (λ s. s) before after (stays (λ s. s) {Holds = GivesBase (option_copied words.base)}) (λ base.
      ends_stays (λ s. s) before after (λ bytes. ConvertsBytes words.from base bytes before after) (opens_or_input (option_copied words.file) input))

  queries : (words : QueryWords) (before after : Option (List ℕ)) (old new : Folder × Option (List ℕ)) (outcome : Outcome) → Queries step words before after old outcome new
      → First (files_of_data words.data ++ file_named words.query.now) old.0 new.0
  queries words before after =
      ends (λ s. s.0) before after (begins_once (option_copied words.base) words.data) (λ start.
      ends_stays (λ s. s.0) before after (λ text. AnswersQuery words start text before after) (reads_named words.query.now))

  updates : (words : UpdateWords) (before after : Option (List ℕ)) (old new : Folder × Option (List ℕ)) (outcome : Outcome) → Updates step words before after old outcome new
      → First (files_of_data words.data ++ file_named words.request.now) old.0 new.0
  updates words before after =
      ends (λ s. s.0) before after (begins_once (option_copied words.base) words.data) (λ start.
      ends_stays (λ s. s.0) before after (λ text. AppliesRequest words.shown start text before after) (reads_named words.request.now))

  checks_file : (format : Format) (base : Option (List ℕ)) (path : List ℕ) → OpensAll (λ s. s.0) (file_named path) (ChecksFile step format base path)
  checks_file format base path =
      by_test (λ s. s.0) (is_input path) path _ _
      (record { all = λ old new value part. ([], part.0, refl); first = λ old new outcome part. ([], [], part.0, refl) })
      (record {
        all = λ old new value part. elim part.1 [
          | inl p ↦ (Opened path p.0 ∷ [], (new.0, p.1, refl), refl)
          | inr p ↦ (Unopened path ∷ [], (new.0, p.0, refl), refl)
        ];
        first = λ old new outcome part. elim part.1 [
          | inl p ↦ (Opened path p.0 ∷ [], [], (new.0, p.1, refl), refl)
          | inr p ↦ (Unopened path ∷ [], [], (new.0, p.0, refl), refl)
        ];
      })

  checks_files : (format : Format) (base : Option (List ℕ)) (paths : List (List ℕ)) (refused : Bool) (old new : Folder × Option (List ℕ) × Option (List ℕ)) (outcome : Outcome) → ChecksFiles step format base paths refused old outcome new → First (files_named paths) old.0 new.0
  checks_files format base [] refused old new outcome part = ([], [], ap (λ s. s.0) part.1, refl)
  checks_files format base (path ∷ paths) refused old new outcome part = elim part [
    | inl p ↦ first_of_more (file_named path) (files_named paths) old.0 new.0 ((checks_file format base path).first old new outcome p)
    | inr p ↦ first_behind (file_named path) (files_named paths) old.0 p.1.0 new.0 ((checks_file format base path).all old p.1 p.0 p.2) (checks_files format base paths (refused || not p.0) p.1 new outcome p.3)
  ]

  checks_all : (words : CheckWords) (old new : Folder × Option (List ℕ) × Option (List ℕ)) (outcome : Outcome) → ChecksAll step words old outcome new → First (files_named (map (λ path. path.now) words.files.items)) old.0 new.0
  checks_all words old new outcome part = elim part [
    | inl p ↦ ([], files_named (map (λ path. path.now) words.files.items), ap (λ s. s.0) p.1, refl)
    | inr p ↦ subst (λ (s : Folder × Option (List ℕ) × Option (List ℕ)). First (files_named (map (λ path. path.now) words.files.items)) s.0 new.0) p.2.1 (checks_files words.from p.0 (map (λ path. path.now) words.files.items) false p.1 new outcome p.3)
  ]

  pub in_order : FilesInOrder step
  in_order (asked.Run words) input before after old new outcome does = runs words input before after old new outcome does
  in_order (asked.Convert words) input before after old new outcome does = converts words input before after old new outcome does
  in_order (asked.Query words) input before after old new outcome does = queries words before after (old, input) (new, does.0) outcome does.1
  in_order (asked.Update words) input before after old new outcome does = updates words before after (old, input) (new, does.0) outcome does.1
  in_order (asked.Check words) input before after old new outcome does = checks_all words (old, input, before) (new, does.0, after) outcome does.1
  in_order (asked.Shown text) input before after old new outcome does = ([], [], does.1, refl)
