-- What the program opens: each call is a step of the folder that opens files.
use Rattle.std.specs.Prelude.{ℕ, List, Option, Result, Ok, Err}

pub data Opening : Type 0 where
  -- The file at this path is open, and these are its bytes, where they are known.
  Opened : (path : List ℕ) → (bytes : Option (List ℕ)) → Opening
  -- Nothing opens at this path.
  Unopened : (path : List ℕ) → Opening

-- the opening of a call, by its path and its answer
abbrev pub opening_of : {File E : Type 0} → (File → Option (List ℕ)) → List ℕ → Result File E → Opening
opening_of remaining path (Ok file) = Opened path (remaining file)
opening_of remaining path (Err error) = Unopened path

-- nothing is known of what lies at any path
abbrev pub anything : {Folder : Type 0} → Folder → Opening → Folder → Type 0
anything old opening new = Unit {0}
