-- A rollback and the mark that it goes to, whatever comes between.
use Rattle.std.specs.Prelude.{◌≡◌, ℕ, List, None}
use Rattle.std.specs.List.{AllByRecursion}
use Rattle.rdf_session.specs.Faults.{no_memory}
use Rattle.rdf_session.specs.GivesBack.{IsPlaced}
use Rattle.rdf_session.specs.Session.{Session, Command, Reply, Do, Mark, Rollback, Changed, Done, Refused, Transition, counts_between, now}
use Rattle.rdf_session.specs.Standing.{Run}
use Rattle.rdf_session.specs.declared.fault.Counts.{Counts}
use Rattle.rdf_session.specs.declared.fault.KeeperFault.{KeeperFault}

-- it doesn't put the name at another place
abbrev pub LeavesMark : List ℕ → Command × Reply → Type 0
LeavesMark name (Mark other, Done) = ¬ (other ≡ name)
LeavesMark name (command, reply) = Unit {0}

-- A rollback to a mark gives back the state at which the mark was put: quads, names of graphs and blank counter, whatever commands
-- with whatever replies came between, but for another mark of its name: requests, refusals, undos, redos, rollbacks, commits. Its counts
-- are those between the two states.
abbrev pub RollbackGivesBackItsMark : Type 0
RollbackGivesBackItsMark = (old marked mid new : Session) (name : List ℕ) (events : List (Command × Reply)) (c : Counts) → IsPlaced old
    → Transition old (Mark name) Done marked → AllByRecursion (LeavesMark name) events → Run marked events mid
    → Transition mid (Rollback name) (Changed c) new → (now new ≡ now old) × (c ≡ counts_between (now mid) (now old))

-- a request, whatever its reply, or a command that was refused
abbrev pub IsRequest : Command × Reply → Type 0
IsRequest (command, Refused fault) = Unit {0}
IsRequest (Do request, reply) = Unit {0}
IsRequest (command, reply) = ⊥

-- Without a depth a rollback to a mark behind which only requests and refusals came is refused only where memory is wanting.
abbrev pub RollbackIsTaken : Type 0
RollbackIsTaken = (old marked mid new : Session) (name : List ℕ) (events : List (Command × Reply)) (fault : KeeperFault) → old.depth ≡ None
    → Transition old (Mark name) Done marked → AllByRecursion IsRequest events → Run marked events mid
    → Transition mid (Rollback name) (Refused fault) new → fault ≡ no_memory
