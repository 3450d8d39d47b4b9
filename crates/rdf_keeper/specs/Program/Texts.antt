-- What is read: files, each opened once, and standard input, which is called `-`.
use Rattle.std.specs.Prelude.{◌≡◌, ℕ, Bool, List, Option, None, Some, Result, Ok, Err, MatchBool, codes}
use Rattle.std.specs.Str.{bytes_eq}
use Rattle.rdf_keeper.specs.Program.Openings.{Opening, Opened, Unopened}
use Rattle.rdf_keeper.specs.Program.Stages.{Part, Stays, Then}
use Rattle.rdf_keeper.specs.declared.program.outcome.Outcome.{Outcome}
use Rattle.rdf_keeper.specs.declared.program.outcome.Outcome.TheVariants.{ReadFailed, NoMemory}

-- All bytes are read, or a read fails, or memory for them is wanting.
abbrev pub ReadsAll : Option (List ℕ) → Result (List ℕ) Outcome → Type 0
ReadsAll bytes (Ok text) = (known : List ℕ) → bytes ≡ Some known → text ≡ known
ReadsAll bytes (Err ReadFailed) = Unit {0}
ReadsAll bytes (Err (NoMemory refused)) = Unit {0}
ReadsAll bytes (Err outcome) = ⊥

-- the path is standard input
abbrev pub is_input : List ℕ → Bool
is_input path = bytes_eq path (codes "-")

module _ {Folder : Type 0} (step : Folder → Opening → Folder → Type 0) where
  -- The file at the path is opened, and has these bytes, or it doesn't open.
  abbrev pub OpensFile : List ℕ → Part Folder (Option (List ℕ))
  OpensFile path old (Ok bytes) new = step old (Opened path bytes) new
  OpensFile path old (Err outcome) new = step old (Unopened path) new × (outcome ≡ ReadFailed)

  -- the bytes of the file that is named, or else of standard input
  abbrev pub OpensOrInput : Option (List ℕ) → Option (List ℕ) → Part Folder (Option (List ℕ))
  OpensOrInput None input = Stays (λ result. result ≡ Ok input)
  OpensOrInput (Some path) input = OpensFile path

  -- the text of the file at the path
  abbrev pub ReadsFile : List ℕ → Part Folder (List ℕ)
  ReadsFile path = Then (OpensFile path) (λ bytes. Stays (ReadsAll bytes))

  -- the same, or that of standard input where it is called so
  abbrev pub ReadsNamed : List ℕ → Part (Folder × Option (List ℕ)) (List ℕ)
  ReadsNamed path old result new =
      MatchBool (is_input path)
      ((new.0 ≡ old.0) × ReadsAll old.1 result)
      ((new.1 ≡ old.1) × ReadsFile path old.0 result new.0)
