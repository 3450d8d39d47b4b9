-- How a session begins with data while they are read.
use Rattle.std.proofs.Common.{◌≡◌, ◌≢◌, ◌∙◌, ap, refl, sym, subst, inl, inr, ℕ, ◌+◌, ◌*◌, ◌≤◌, arith, true, false, List, [], ◌++◌, length, append_assoc, append-nil, Option, Some, None}
use Rattle.std.specs.Prelude.{Result, Ok, Err, IfOk, IfErr}
use Rattle.std.specs.Io.KnownBytes.{Consumes, IsAtEnd}
use Rattle.rdf_lines.specs.declared.format.LineFormat.{LineFormat}
use Rattle.rdf_session.specs.Beginning.{BeginsWithLoad}
use Rattle.rdf_session.specs.Documents.{of_lines}
use Rattle.rdf_session.specs.FedStart.{BeginsFed, IsFed, Start, StopsFed}
use Rattle.rdf_session.specs.Session.{Session}
use Rattle.rdf_session.specs.declared.fault.KeeperFault.{KeeperFault}
use Rattle.rdf_session.specs.declared.fault.KeeperFault.TheVariants.{NoMemory}
use Rattle.rdf_session.specs.declared.format.Format.{Format}
use Rattle.rdf_session.proofs.CallerLemmas.{at_start}
use Rattle.rdf_streams.proofs.StreamLemmas.{Consumes-chain}
use Rattle.rdf_terms.specs.declared.fault.NoMemory.{NoMemory as NoMemoryFault}
use Rattle.rdf_keeper.specs.Inside.Starting.{BeginsReading, GoesOn, IsSoFar, number_of}
use Rattle.rdf_keeper.specs.Inside.Starts.{RefusesData}
use Rattle.rdf_keeper.specs.Program.Openings.{Opening}
use Rattle.rdf_keeper.specs.Program.Sessions.{Begins, BeginsNamed, BeginsOver}
use Rattle.rdf_keeper.specs.Program.Stages.{mapped}
use Rattle.rdf_keeper.specs.Program.Texts.{ReadsAll, is_input}
use Rattle.rdf_keeper.specs.declared.program.outcome.Outcome.{Outcome}
use Rattle.rdf_keeper.specs.declared.program.outcome.Outcome.TheVariants.{BadData}
use Rattle.rdf_keeper.specs.declared.program.starting.LinesSoFar.{LinesSoFar}
use Rattle.rdf_keeper.specs.declared.program.starting.LinesSoFar.TheVariants.{Sound, Faulty}
use Rattle.rdf_keeper.specs.declared.program.words.StartFormat.{StartFormat}
use Rattle.rdf_keeper.specs.declared.program.words.StartFormat.TheVariants.{Document}

-- ---- a document of lines of which a front was read

pub refuses : (format : Format) (base : Option (List ℕ)) (text : List ℕ) (fault : KeeperFault) → ((wanting : NoMemoryFault) → fault ≢ NoMemory wanting) → BeginsWithLoad format base text (Err fault)
    → RefusesData (Document format) base text (BadData fault)
refuses format base text (NoMemory wanting) sure h = absurd (sure wanting refl)
refuses format base text _ sure h = h

-- what a refusal of the text ends the program with
abbrev pub EndsSo : KeeperFault → Outcome → Type 0
EndsSo fault outcome = (format : Format) (base : Option (List ℕ)) (text : List ℕ) → BeginsWithLoad format base text (Err fault) → RefusesData (Document format) base text outcome

pub turns_faulty : (start : Start) (piece : List ℕ) (fault : KeeperFault) (outcome : Outcome) → EndsSo fault outcome → StopsFed start piece fault → GoesOn (Sound start) piece (Faulty outcome)
turns_faulty start piece fault outcome so stops = (
  omega arith,
  λ format base text h beyond.
      subst (λ t. RefusesData (Document (of_lines format)) base t outcome) (sym (append_assoc text piece beyond))
      (so (of_lines format) base (text ++ (piece ++ beyond)) (at_start start format base h.1 h.2 (text ++ (piece ++ beyond)) (Err fault) (stops text beyond h.0))),
)

pub stays_faulty : (outcome : Outcome) (piece : List ℕ) → GoesOn (Faulty outcome) piece (Faulty outcome)
stays_faulty outcome piece = (
  omega arith,
  λ format base text h beyond. subst (λ t. RefusesData (Document (of_lines format)) base t outcome) (sym (append_assoc text piece beyond)) (h (piece ++ beyond)),
)

-- ---- and its end

module _ (start : Start) (format : LineFormat) (base : Option (List ℕ)) (text : List ℕ) (h : IsSoFar format base text (Sound start)) where
  pub ends_sound : (session : Session) → BeginsFed start (Ok session) → BeginsOver (Document (of_lines format)) base text (Ok session)
  ends_sound session b = at_start start format base h.1 h.2 text (Ok session) (b text h.0)

  pub ends_refused : (fault : KeeperFault) (outcome : Outcome) → EndsSo fault outcome → BeginsFed start (Err fault) → BeginsOver (Document (of_lines format)) base text (Err outcome)
  ends_refused fault outcome so b = so (of_lines format) base text (at_start start format base h.1 h.2 text (Err fault) (b text h.0))

pub ends_faulty : (outcome : Outcome) (format : LineFormat) (base : Option (List ℕ)) (text : List ℕ) → IsSoFar format base text (Faulty outcome) → BeginsOver (Document (of_lines format)) base text (Err outcome)
ends_faulty outcome format base text h = subst (λ t. RefusesData (Document (of_lines format)) base t outcome) (append-nil text) (h [])

-- ---- between two read calls

-- What was read is so far this.
pub record Reading (before now : Option (List ℕ)) (format : LineFormat) (base : Option (List ℕ)) (calls : ℕ) (so_far : LinesSoFar) : Type 0 where
  pub read : List ℕ
  pub consumes : Consumes before now read
  pub is : IsSoFar format base read so_far
  pub number : number_of so_far ≤ calls * 65536 + 1

consumes_nothing : (a : Option (List ℕ)) → Consumes a a []
consumes_nothing None = tt
consumes_nothing (Some xs) = refl

consumed : (after : Option (List ℕ)) (text read : List ℕ) → Consumes (Some text) after read → IsAtEnd after → read ≡ text
consumed None text read c e = absurd c
consumed (Some left) text read c e = sym (c ∙ ap (λ t. read ++ t) e ∙ append-nil read)

pub reading_first : (before : Option (List ℕ)) (format : LineFormat) (base : Option (List ℕ)) (start : Start) → IsFed [] start → start.lines.format ≡ format → start.base_iri ≡ base → start.lines.number ≡ 1
    → Reading before before format base 0 (Sound start)
reading_first before format base start fed f b one = record {
  read = [];
  consumes = consumes_nothing before;
  is = (fed, f, b);
  number = omega (arith, one);
}

module _ (before now : Option (List ℕ)) (format : LineFormat) (base : Option (List ℕ)) (n : ℕ) (so_far : LinesSoFar) (r : Reading before now format base n so_far) where
  pub reads_further : (left : Option (List ℕ)) (bytes : List ℕ) → length bytes ≤ 65536 → Consumes now left bytes → (next : LinesSoFar) → GoesOn so_far bytes next → Reading before left format base (n + 1) next
  reads_further left bytes few c next on = record {
    read = r.read ++ bytes;
    consumes = Consumes-chain before now left r.read bytes r.consumes c;
    is = on.1 format base r.read r.is;
    number = (let m = on.0 in let b = r.number in omega (arith, m, b, few));
  }

  pub reads_to_end : (left : Option (List ℕ)) → Consumes now left [] → IsAtEnd left → (answer : Result Session Outcome)
      → ((format : LineFormat) (base : Option (List ℕ)) (text : List ℕ) → IsSoFar format base text so_far → BeginsOver (Document (of_lines format)) base text answer)
      → BeginsReading (Document (of_lines format)) base before answer
  reads_to_end left c end answer ends = inr (
    r.read,
    (λ known e. consumed left known r.read (subst (λ b. Consumes b left r.read) e (subst (Consumes before left) (append-nil r.read) (Consumes-chain before now left r.read [] r.consumes c))) end),
    ends format base r.read r.is,
  )

-- ---- first a text is read whole, and then the session begins over it

pub begins_over_read : {Text : Type 0} (format : StartFormat) (base bytes : Option (List ℕ)) (read : Result Text Outcome) (text_of : Text → List ℕ) (result : Result Session Outcome)
    → ReadsAll bytes (mapped text_of read) → IfOk read (λ text. BeginsOver format base (text_of text) result) → IfErr read (λ outcome. result ≡ Err outcome) → BeginsReading format base bytes result
begins_over_read format base bytes (Ok text) text_of result whole over none = inr (text_of text, whole, over)
begins_over_read format base bytes (Err outcome) text_of result whole over none = inl (outcome, whole, none)

-- ---- what is read

module _ {Folder : Type 0} (step : Folder → Opening → Folder → Type 0) (format : StartFormat) (base : Option (List ℕ)) (path : List ℕ) (old new : Folder) where
  pub begins_named : (input : Option (List ℕ)) (result : Result Session Outcome) → is_input path ≡ false → Begins step format (Some path) base old result new → BeginsNamed step format path base (old, input) result (new, input)
  begins_named input result other (inl (outcome, read, e)) = inl (outcome, rw other (refl, read), e)
  begins_named input result other (inr (text, mid, read, (over, e))) = inr (text, (mid, input), rw other (refl, read), (over, ap (λ (f : Folder). (f, input)) e))

  pub begins_input : (input left : Option (List ℕ)) (result : Result Session Outcome) → is_input path ≡ true → BeginsReading format base input result → BeginsNamed step format path base (old, input) result (old, left)
  begins_input input left result same (inl (outcome, read, e)) = inl (outcome, rw same (refl, read), e)
  begins_input input left result same (inr (text, read, over)) = inr (text, (old, left), rw same (refl, read), (over, refl))
