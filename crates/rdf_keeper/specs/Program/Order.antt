-- In which order files are opened: as the words name them, each once, and no others.
use Rattle.std.specs.Prelude.{◌≡◌, ℕ, List, [], ◌∷◌, ◌++◌, Option, None, Some, map, if◌then◌else◌}
use Rattle.std.specs.Option.{option_copied}
use Rattle.rdf_keeper.specs.Program.Openings.{Opening, Opened, Unopened}
use Rattle.rdf_keeper.specs.Program.Texts.{is_input}
use Rattle.rdf_keeper.specs.Program.Words.{Does}
use Rattle.rdf_keeper.specs.declared.program.once_words.DataWords.{DataWords}
use Rattle.rdf_keeper.specs.declared.program.once_words.StartWord.{StartWord}
use Rattle.rdf_keeper.specs.declared.program.outcome.Outcome.{Outcome}
use Rattle.rdf_keeper.specs.declared.program.words.Asked.{Asked}
use Rattle.rdf_keeper.specs.declared.program.words.Asked.TheVariants.{Run, Convert, Query, Update, Check, Shown}

abbrev pub path_of : Opening → List ℕ
path_of (Opened path bytes) = path
path_of (Unopened path) = path

-- Calls with these openings, one behind another, lead from a state of the folder to another.
abbrev pub Opens : {Folder : Type 0} → (Folder → Opening → Folder → Type 0) → Folder → List Opening → Folder → Type 0
Opens step old [] new = new ≡ old
Opens {Folder} step old (opening ∷ openings) new = (mid : Folder) × step old opening mid × Opens step mid openings new

-- ---- the files that words name

abbrev pub file_of : Option (List ℕ) → List (List ℕ)
file_of None = []
file_of (Some path) = path ∷ []

-- where standard input is called `-`
abbrev pub file_named : List ℕ → List (List ℕ)
file_named path = if is_input path then [] else path ∷ []

abbrev pub files_named : List (List ℕ) → List (List ℕ)
files_named [] = []
files_named (path ∷ paths) = file_named path ++ files_named paths

abbrev pub first_file : Option StartWord → List (List ℕ)
first_file None = []
first_file (Some word) = file_named word.path.now

abbrev pub files_of_data : DataWords → List (List ℕ)
files_of_data words = first_file words.first ++ files_named (map (λ word. word.path.now) words.further.items)

-- all of them, in the order in which they are asked for: the data, and then the script, the query or the request
abbrev pub files_of : Asked → List (List ℕ)
files_of (Run words) = file_of (option_copied words.data) ++ file_of (option_copied words.script)
files_of (Convert words) = file_of (option_copied words.file)
files_of (Query words) = files_of_data words.data ++ file_named words.query.now
files_of (Update words) = files_of_data words.data ++ file_named words.request.now
files_of (Check words) = files_named (map (λ path. path.now) words.files.items)
files_of (Shown text) = []

-- The files that are opened, or don't open, are the first ones of these: each as often as it is named, and none besides.
abbrev pub FilesInOrder : {Folder : Type 0} → (Folder → Opening → Folder → Type 0) → Type 0
FilesInOrder {Folder} step =
    (asked : Asked) (input before after : Option (List ℕ)) (old new : Folder) (outcome : Outcome) → Does step asked input before after old outcome new
    → (openings : List Opening) × (left : List (List ℕ)) × Opens step old openings new × (files_of asked ≡ map path_of openings ++ left)
