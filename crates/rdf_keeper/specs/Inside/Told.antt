-- What is told of a document while it is read.
use Rattle.std.specs.Prelude.{◌≡◌, ℕ, ◌+◌, ◌-◌, ◌/◌, ◌^◌, min, List, [], ◌++◌, length, replicate, codes, decimal, Option, Some, None, Bool, true, false, not, ◌&&◌, ◌||◌, nat_eq, nat_lt, nat_le, if◌then◌else◌}
use Rattle.std.specs.Io.KnownBytes.{Appends}
use Rattle.rdf_keeper.specs.declared.program.watch.Progress.{Progress}

-- How many bytes were read, and of how many where that is known. The carriage return brings it to the place of what was told before.
abbrev pub progress_line : ℕ → Option ℕ → List ℕ
progress_line read None = codes "\r" ++ decimal read ++ codes " bytes"
progress_line read (Some size) = codes "\r" ++ decimal read ++ codes " of " ++ decimal size ++ codes " bytes"

-- what clears a line of so many columns
abbrev pub clearing : ℕ → List ℕ
clearing width = codes "\r" ++ replicate width 32 ++ codes "\r"

-- the same of a line that stands there, where one does; none is longer than 62 columns
abbrev pub cleared : ℕ → List ℕ
cleared width = if nat_eq width 0 then [] else clearing (min width 62)

-- The text is written, or a front of it where the device takes no more.
abbrev pub IsShown : Option (List ℕ) → List ℕ → Option (List ℕ) → Type 0
IsShown before text after = (front more : List ℕ) × (text ≡ front ++ more) × Appends before after front

-- the size of a file, as long as no more than that was read of it
abbrev pub size_behind : ℕ → Option ℕ → Option ℕ
size_behind read None = None
size_behind read (Some size) = if nat_le read size then Some size else None

-- Whether it is told that so many bytes were read, behind a call that read `count` of them, where so many were told before: at the
-- first, behind each further 2 ^ 20 and at the end, and never the same twice.
abbrev pub is_due : ℕ → ℕ → ℕ → Bool
is_due told read count = (nat_eq told 0 || nat_eq count 0 || nat_lt (told / 2 ^ 20) (read / 2 ^ 20)) && not (nat_eq told read)

module _ {P : Type 0} (contents : P → Option (List ℕ)) where
  -- it is told how many were read
  pub record Tells (old new : Progress P) : Type 0 where
    pub told : new.told ≡ old.read
    pub width : new.width ≡ length (progress_line old.read (size_behind old.read old.size)) - 1
    pub shown : IsShown (contents old.device) (progress_line old.read (size_behind old.read old.size)) (contents new.device)

  abbrev pub TellsIf : Bool → Progress P → Progress P → Type 0
  TellsIf true old new = Tells old new
  TellsIf false old new = new ≡ old

  -- So many more bytes were read, or none since the end is reached: it is told where that is due.
  abbrev pub Adds : Progress P → ℕ → Progress P → Type 0
  Adds old count new =
      let read = min (old.read + count) (2 ^ 64 - 1) in
      (new.read ≡ read) × (new.size ≡ old.size) × TellsIf (is_due old.told read count) (record old { read = read }) new
