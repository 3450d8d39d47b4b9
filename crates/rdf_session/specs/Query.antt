-- What a query answers at a session (SPARQL 1.1 Query, section 16), in a format of results, and why it is refused.
use Rattle.std.specs.Prelude.{◌≡◌, ℕ, Bool, List, length, Result, Ok, Err}
use Rattle.rdf_dataset.specs.State.{State}
use Rattle.sparql_values.specs.Mapping.{Mapping}
use Rattle.sparql_algebra.specs.Results.{IsSelection, HasSolution}
use Rattle.sparql_results.specs.Formats.{selection_in, truth_in}
use Rattle.sparql_results.specs.declared.format.ResultsFormat.{ResultsFormat}
use Rattle.sparql_results.specs.declared.format.ResultsFormat.TheVariants.{Tsv}
use Rattle.sparql_syntax.specs.Query as query
use Rattle.sparql_trees.specs.declared.pattern.Pattern.{Pattern}
use Rattle.sparql_trees.specs.declared.query.Query.{Query}
use Rattle.sparql_trees.specs.declared.query.Query.TheVariants as form
use Rattle.sparql_trees.specs.declared.query.Select.{Select}
use Rattle.rdf_session.specs.Session.{Session, now}
use Rattle.rdf_session.specs.declared.fault.KeeperFault.{KeeperFault}
use Rattle.rdf_session.specs.declared.fault.KeeperFault.TheVariants.{NoMemory, Syntax}
use Rattle.rdf_session.specs.declared.query.Answer.{Answer}

-- SELECT: the text of its rows, and how many there are
pub record IsOfRows (format : ResultsFormat) (q : Select) (s : State) (answer : Answer) : Type 0 where
  pub rows : List Mapping
  pub selection : IsSelection q s rows
  pub text : answer.payload ≡ selection_in format q.columns rows
  pub count : answer.rows ≡ length rows

-- ASK: the text of its truth, which counts as one row
pub record IsOfTruth (format : ResultsFormat) (pattern : Pattern) (s : State) (answer : Answer) : Type 0 where
  pub truth : Bool
  pub solution : HasSolution pattern s truth
  pub text : answer.payload ≡ truth_in format truth
  pub count : answer.rows ≡ 1

-- the answer of the state
abbrev pub AnswersQuery : ResultsFormat → Query → State → Answer → Type 0
AnswersQuery format (form.Select q) s answer = IsOfRows format q s answer
AnswersQuery format (form.Ask pattern) s answer = IsOfTruth format pattern s answer

-- Against the session's base IRI the text is a query, and this is its answer of the state now.
abbrev pub IsAnswered : ResultsFormat → Session → List ℕ → Answer → Type 0
IsAnswered format s text answer = (asked : Query) × query.IsQuery s.base_iri text asked × AnswersQuery format asked (now s) answer

-- why a query may be refused
abbrev pub MayRefuseQuery : Session → List ℕ → KeeperFault → Type 0
-- the text is no query
MayRefuseQuery s text (Syntax fault) = query.IsFaulty s.base_iri text fault
MayRefuseQuery s text (NoMemory _) = Unit {0}
MayRefuseQuery s text _ = ⊥

-- A query may have this reply in a format.
abbrev pub RepliesIn : ResultsFormat → Session → List ℕ → Result Answer KeeperFault → Type 0
RepliesIn format s text (Ok answer) = IsAnswered format s text answer
RepliesIn format s text (Err fault) = MayRefuseQuery s text fault

-- A query may have this reply in a script: its values stand between tabs.
abbrev pub Replies : Session → List ℕ → Result Answer KeeperFault → Type 0
Replies = RepliesIn Tsv
