-- What the status of a session tells of its end.
use Rattle.std.specs.Prelude.{◌≡◌, ◌⊎◌, ℕ, Bool, true, false, List, [], ◌∷◌, ◌++◌}
use Rattle.rdf_session.specs.Session.{Session}
use Rattle.rdf_streams.specs.Devices.{EndsWith, Event, Gave, ReadFault, Took, WriteFault, has_end, has_failed, is_failure, read_calls}
use Rattle.rdf_keeper.specs.Script.Orders.{Ran}
use Rattle.rdf_keeper.specs.declared.script.status.Status.{Status}
use Rattle.rdf_keeper.specs.declared.script.status.Status.TheVariants.{Accepted, ReadFailed, Refused, WriteFailed}

-- the fault of a call that fails: of reading, or of writing
abbrev pub fault_of : Event → Status
fault_of (Gave bytes) = ReadFailed
fault_of ReadFault = ReadFailed
fault_of (Took bytes) = WriteFailed
fault_of WriteFault = WriteFailed

-- A call that fails is the last one, and its fault is told.
abbrev pub FaultsAreTold : Type 0
FaultsAreTold = (calls : ℕ) (stop : Bool) (old new : Session) (answers : List (List ℕ)) (status : Status) (before : List Event) (e : Event) (after : List Event)
    → Ran calls stop (before ++ e ∷ after) old answers new status → is_failure e ≡ true → (after ≡ []) × (status ≡ fault_of e)

-- A fault of writing is told only where the last call is one.
abbrev pub WriteFaultsCame : Type 0
WriteFaultsCame = (calls : ℕ) (stop : Bool) (log : List Event) (old new : Session) (answers : List (List ℕ)) → Ran calls stop log old answers new WriteFailed
    → (e : Event) × EndsWith log e × (is_failure e ≡ true) × (fault_of e ≡ WriteFailed)

-- A fault of reading is told only where the last call is one, or where as many read calls as are allowed found no end.
abbrev pub ReadFaultsCame : Type 0
ReadFaultsCame = (calls : ℕ) (stop : Bool) (log : List Event) (old new : Session) (answers : List (List ℕ)) → Ran calls stop log old answers new ReadFailed
    → EndsWith log ReadFault ⊎ ((has_failed log ≡ false) × (has_end log ≡ false) × (read_calls log ≡ calls))

-- A script is accepted only where its end was read and no call failed.
abbrev pub AcceptedToTheEnd : Type 0
AcceptedToTheEnd = (calls : ℕ) (stop : Bool) (log : List Event) (old new : Session) (answers : List (List ℕ)) → Ran calls stop log old answers new Accepted
    → (has_end log ≡ true) × (has_failed log ≡ false)

-- It is refused only where no call failed.
abbrev pub RefusedWithoutFaults : Type 0
RefusedWithoutFaults = (calls : ℕ) (stop : Bool) (log : List Event) (old new : Session) (answers : List (List ℕ)) → Ran calls stop log old answers new Refused → has_failed log ≡ false
