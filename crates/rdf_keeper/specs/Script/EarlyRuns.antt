-- Sessions over the same bytes, where a failed read or write, or want of memory, ended one of them early, or both: as far as both went
-- they have the same answers, but for the lines of some faults.
use Rattle.std.specs.Prelude.{◌≡◌, ◌≢◌, ◌⊎◌, ℕ, Bool, true, List, [], ◌∷◌, ◌++◌, length, Option, Some, None}
use Rattle.rdf_session.specs.Faults.{no_memory}
use Rattle.rdf_session.specs.Session.{Session, Refused as RefusedReply}
use Rattle.rdf_keeper.specs.Script.Answers.{reply_line}
use Rattle.rdf_keeper.specs.Script.Commands.{Asked, commands}
use Rattle.rdf_keeper.specs.Script.Lines.{raw_lines}
use Rattle.rdf_keeper.specs.Script.OneOutput.{AreFull, IsWhole, SameAnswers}
use Rattle.rdf_keeper.specs.Script.Runs.{RunsOver}
use Rattle.rdf_keeper.specs.declared.script.status.Status.{Status}
use Rattle.rdf_keeper.specs.declared.script.status.Status.TheVariants.{WriteFailed}

-- These answers were made, and so much of them was written: where a write failed all but the last, and of that one a proper front;
-- else all. The one that broke off isn't counted among them where it is that memory is wanting.
abbrev pub WrittenOf : Status → List (List ℕ) → List (List ℕ) → Type 0
WrittenOf WriteFailed made written =
    (before : List (List ℕ)) × (front rest : List ℕ) × (rest ≢ []) × (written ≡ before ++ front ∷ [])
    × ((made ≡ before ++ (front ++ rest) ∷ []) ⊎ ((made ≡ before) × (front ++ rest ≡ reply_line (RefusedReply no_memory))))
WrittenOf status made written = written ≡ made

-- The answers are the first of these, but for the lines that are a reader's own choice.
abbrev pub AreFirst : List Asked → List (List ℕ) → List (List ℕ) → Type 0
AreFirst commands answers all = (first behind : List (List ℕ)) × SameAnswers commands answers first × (all ≡ first ++ behind)

-- what two sessions have in common that are given the same commands, by what they wrote, where they stand then and how they ended
pub record RunsAgree (commands : List Asked) (answers others : List (List ℕ)) (t u : Session) (status otherwise : Status) : Type 0 where
  -- the answers that they made
  pub made : List (List ℕ)
  pub made_there : List (List ℕ)
  pub written : WrittenOf status made answers
  pub written_there : WrittenOf otherwise made_there others
  -- Those of the one that ended first are the first of the other's.
  pub agree : AreFirst commands made made_there ⊎ AreFirst commands made_there made
  -- One that came to its end has made all, so those of the other are the first of its.
  pub whole : IsWhole status → AreFirst commands made_there made
  pub whole_there : IsWhole otherwise → AreFirst commands made made_there
  -- Where both made as many, the sessions are the same.
  pub session : length made ≡ length made_there → t ≡ u

-- Two sessions that begin alike and are given readers of the same bytes, in whatever pieces these come, and of which no answer is
-- that memory is wanting, agree, however they end.
abbrev pub EarlyRunsAgree : Type 0
EarlyRunsAgree = (stop : Bool) (text : List ℕ) (after other : Option (List ℕ)) (s t u : Session) (answers others : List (List ℕ)) (status otherwise : Status)
    → RunsOver stop (Some text) after s answers t status → AreFull answers
    → RunsOver stop (Some text) other s others u otherwise → AreFull others
    → RunsAgree (commands true None (raw_lines text)) answers others t u status otherwise
