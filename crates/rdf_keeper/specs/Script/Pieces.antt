-- A script that comes a piece at a time.
use Rattle.std.specs.Prelude.{◌≡◌, ℕ, Bool, true, false, List, [], ◌∷◌, ◌++◌, Option, None, Ok, Err}
use Rattle.std.specs.List.{concat}
use Rattle.rdf_session.specs.Session.{Session}
use Rattle.rdf_keeper.specs.Script.Commands.{Asked, commands}
use Rattle.rdf_keeper.specs.Script.Lines.{raw_lines, upto_last_end}
use Rattle.rdf_keeper.specs.Script.Runs.{Answered}
use Rattle.rdf_keeper.specs.declared.script.command.Body.{Body}
use Rattle.rdf_keeper.specs.declared.script.status.Status.{Status}

-- what came of a script and asks for nothing yet
pub record Pending : Type 0 where
  -- the body that is open, and its whole lines
  pub body : Option (Body × List ℕ)
  -- the front of the line that comes then
  pub line : List ℕ

abbrev pub nothing_pending : Pending
nothing_pending = record { body = None; line = [] }

-- the commands where the text comes next; the first argument says whether that is all
abbrev pub commands_behind : Bool → Pending → List ℕ → List Asked
commands_behind ended p text = commands ended p.body (raw_lines (p.line ++ text))

-- the commands that come wholly with the piece
abbrev pub whole_commands : Pending → List ℕ → List Asked
whole_commands p piece = commands false p.body (raw_lines (upto_last_end (p.line ++ piece)))

-- The piece leaves new: its line isn't whole, and whatever comes behind the piece, the commands are those that came
-- wholly with it, and then those behind new.
pub record Leaves (old : Pending) (piece : List ℕ) (new : Pending) : Type 0 where
  pub open_line : upto_last_end new.line ≡ []
  pub behind : (ended : Bool) (text : List ℕ) → commands_behind ended old (piece ++ text) ≡ whole_commands old piece ++ commands_behind ended new text

-- a session that is fed its script
pub record Fed : Type 0 where
  -- its first refusal ends it
  pub stop : Bool
  -- something was refused so far
  pub refused : Bool
  pub pending : Pending

-- a session that was fed nothing yet
abbrev pub unfed : Bool → Fed
unfed stop = record { stop = stop; refused = false; pending = nothing_pending }

-- The piece is fed, the answers to the commands that come wholly with it are made, no more and no less, and the session goes on.
pub record GoesOn (old : Fed) (piece : List ℕ) (s : Session) (answers : List (List ℕ)) (t : Session) (new : Fed) : Type 0 where
  pub answered : Answered old.stop old.refused (whole_commands old.pending piece) s answers t (Ok new.refused)
  pub same : new.stop ≡ old.stop
  pub leaves : Leaves old.pending piece new.pending

-- The session ends at one of these commands.
abbrev pub EndsWithin : Fed → List ℕ → Session → List (List ℕ) → Session → Status → Type 0
EndsWithin old piece s answers t status = Answered old.stop old.refused (whole_commands old.pending piece) s answers t (Err status)

-- ---- whatever the pieces are

-- the commands that come wholly with the pieces, one piece after another
abbrev pub GivesCommands : Pending → List (List ℕ) → List Asked → Pending → Type 0
GivesCommands p [] cs q = (cs ≡ []) × (q ≡ p)
GivesCommands p (piece ∷ pieces) cs q =
    (mid : Pending) × (others : List Asked) × Leaves p piece mid × (cs ≡ whole_commands p piece ++ others) × GivesCommands mid pieces others q

-- In whatever pieces a text comes, the commands that came wholly with them are those of its whole lines; and with those that are
-- pending where it ends they are those of the text.
abbrev pub PiecesAreTheText : Type 0
PiecesAreTheText = (pieces : List (List ℕ)) (cs : List Asked) (p : Pending) → GivesCommands nothing_pending pieces cs p
    → (cs ≡ commands false None (raw_lines (upto_last_end (concat pieces))))
    × (cs ++ commands_behind true p [] ≡ commands true None (raw_lines (concat pieces)))
