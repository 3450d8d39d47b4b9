-- What is done with a device: read calls and write calls, in their order.
use Rattle.std.specs.Prelude.{◌≡◌, ◌≤◌, ℕ, ◌+◌, Bool, true, false, ◌||◌, List, [], ◌∷◌, ◌++◌, length, take, Result, Ok, Err}

pub data Event : Type 0 where
  -- a read call gave these bytes; with none, the end was read
  Gave : (bytes : List ℕ) → Event
  ReadFault : Event
  -- a write call took these bytes
  Took : (bytes : List ℕ) → Event
  WriteFault : Event

-- the event of a read call, by what it returned and the buffer behind it
abbrev pub read_event : {E : Type 0} → Result ℕ E → List ℕ → Event
read_event (Ok n) buffer = Gave (take n buffer)
read_event (Err e) buffer = ReadFault

-- the event of a write call, by what it returned and the bytes that it was to take
abbrev pub write_event : {E : Type 0} → Result ℕ E → List ℕ → Event
write_event (Ok n) bytes = Took (take n bytes)
write_event (Err e) bytes = WriteFault

-- Calls with these events, one behind another, lead from a state of the device to another. A step of the device is
-- from the state before a call to the state behind it.
abbrev pub Leads : {D : Type 0} → (D → Event → D → Type 0) → D → List Event → D → Type 0
Leads step old [] new = new ≡ old
Leads {D} step old (e ∷ log) new = (mid : D) × step old e mid × Leads step mid log new

-- all that was read
abbrev pub given : List Event → List ℕ
given [] = []
given (Gave bytes ∷ log) = bytes ++ given log
given (ReadFault ∷ log) = given log
given (Took bytes ∷ log) = given log
given (WriteFault ∷ log) = given log

-- all that was written
abbrev pub taken : List Event → List ℕ
taken [] = []
taken (Gave bytes ∷ log) = taken log
taken (ReadFault ∷ log) = taken log
taken (Took bytes ∷ log) = bytes ++ taken log
taken (WriteFault ∷ log) = taken log

-- the number of read calls
abbrev pub read_calls : List Event → ℕ
read_calls [] = 0
read_calls (Gave bytes ∷ log) = read_calls log + 1
read_calls (ReadFault ∷ log) = read_calls log + 1
read_calls (Took bytes ∷ log) = read_calls log
read_calls (WriteFault ∷ log) = read_calls log

-- the end was read
abbrev pub is_end : Event → Bool
is_end (Gave []) = true
is_end (Gave (b ∷ bytes)) = false
is_end ReadFault = false
is_end (Took bytes) = false
is_end WriteFault = false

-- the call failed, or a write call took nothing
abbrev pub is_failure : Event → Bool
is_failure (Gave bytes) = false
is_failure ReadFault = true
is_failure (Took []) = true
is_failure (Took (b ∷ bytes)) = false
is_failure WriteFault = true

abbrev pub has_end : List Event → Bool
has_end [] = false
has_end (e ∷ log) = is_end e || has_end log

abbrev pub has_failed : List Event → Bool
has_failed [] = false
has_failed (e ∷ log) = is_failure e || has_failed log

abbrev pub EndsWith : List Event → Event → Type 0
EndsWith log e = (before : List Event) × (log ≡ before ++ e ∷ [])

-- ---- the order of calls, where a read call asks for no more than a piece, and may come behind some logs

abbrev pub MayBe : ℕ → (List Event → Type 0) → List Event → Event → Type 0
MayBe piece May before (Gave bytes) = (has_end before ≡ false) × May before × (length bytes ≤ piece)
MayBe piece May before ReadFault = (has_end before ≡ false) × May before
MayBe piece May before (Took bytes) = Unit {0}
MayBe piece May before WriteFault = Unit {0}

-- No call comes behind one that failed, nor a read call behind the end, or where it may not.
pub record MayCome (piece : ℕ) (May : List Event → Type 0) (before : List Event) (e : Event) : Type 0 where
  pub goes_on : has_failed before ≡ false
  pub may_be : MayBe piece May before e

-- each event of a log may come behind those before it, where some came before the log
abbrev pub IsOrderlyBehind : ℕ → (List Event → Type 0) → List Event → List Event → Type 0
IsOrderlyBehind piece May before [] = Unit {0}
IsOrderlyBehind piece May before (e ∷ log) = MayCome piece May before e × IsOrderlyBehind piece May (before ++ e ∷ []) log

abbrev pub IsOrderly : ℕ → (List Event → Type 0) → List Event → Type 0
IsOrderly piece May log = IsOrderlyBehind piece May [] log
