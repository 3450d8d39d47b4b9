-- What a log says of the bytes of a reader and a writer.
use Rattle.std.proofs.Common.{◌≡◌, ℕ, Bool, true, false, List, [], ◌∷◌, ◌++◌, Option, Some, None, refl, sym, ap, ◌∙◌, ◌+◌, append-nil, subst, arith}
use Rattle.std.specs.Io.KnownBytes.{Appends, Consumes, IsAtEnd, Keeps}
use Rattle.std.specs.Prelude.{Result, Ok, Err}
use Rattle.rdf_streams.specs.Devices.{Event, Gave, ReadFault, Took, WriteFault, Leads, given, taken, read_calls}
use Rattle.rdf_streams.specs.Streams.{PairStep, no_bytes, Writes, WritesOn, WritesTo}
use Rattle.rdf_streams.specs.declared.streams.device.Lent.{Lent}
use Rattle.rdf_streams.specs.declared.streams.device.LentWriter.{LentWriter}
use Rattle.rdf_streams.specs.declared.streams.writing.WriteFault.{WriteFault as Refusal}
use Rattle.rdf_streams.proofs.DeviceLemmas.Written.{wrote_taken}
use Rattle.rdf_streams.proofs.StreamLemmas.{Appends-chain, Consumes-chain}

appends_none : (a b : Option (List ℕ)) → b ≡ a → Appends a b []
appends_none None b e = tt
appends_none (Some a) b e = subst (λ z. Appends (Some a) z []) (sym e) (sym (append-nil a))

consumes_none : (a b : Option (List ℕ)) → b ≡ a → Consumes a b []
consumes_none None b e = tt
consumes_none (Some a) b e = subst (λ z. Consumes (Some a) z []) (sym e) refl

keeps_consumes : (a b : Option (List ℕ)) → Keeps a b → Consumes a b []
keeps_consumes None b k = tt
keeps_consumes (Some a) None k = absurd k
keeps_consumes (Some a) (Some b) k = sym k

keeps_appends : (a b : Option (List ℕ)) → Keeps a b → Appends a b []
keeps_appends None b k = tt
keeps_appends (Some a) None k = absurd k
keeps_appends (Some a) (Some b) k = k ∙ sym (append-nil a)

no_call : (n : ℕ) → n + 1 ≡ 0 → ⊥
no_call n e = omega (arith, e)

-- what no step changes
pub leads_kept : {D N : Type 0} (step : D → Event → D → Type 0) (name : D → N) → ((s : D) (e : Event) (t : D) → step s e t → name t ≡ name s) → (s : D) (log : List Event) (t : D) → Leads step s log t → name t ≡ name s
leads_kept step name f s [] t l = ap name l
leads_kept step name f s (e ∷ log) t l = leads_kept step name f l.0 log t l.2 ∙ f s e l.0 l.1

-- a device that holds a reader and a writer
module _ {D R W : Type 0} (step : D → Event → D → Type 0) (reader : D → R) (writer : D → W) (remaining : R → Option (List ℕ)) (contents : W → Option (List ℕ))
    (pair : (s : D) (e : Event) (t : D) → step s e t → PairStep remaining contents (reader s) (writer s) e (reader t) (writer t)) where
  abbrev Left : D → D → List ℕ → Type 0
  Left s t bytes = Consumes (remaining (reader s)) (remaining (reader t)) bytes

  abbrev Held : D → D → List ℕ → Type 0
  Held s t bytes = Appends (contents (writer s)) (contents (writer t)) bytes

  pub bytes_of : (s : D) (log : List Event) (t : D) → Leads step s log t → Left s t (given log) × Held s t (taken log)
  bytes_of s [] t l = (consumes_none _ _ (ap (λ u. remaining (reader u)) l), appends_none _ _ (ap (λ u. contents (writer u)) l))
  bytes_of s (Gave bytes ∷ log) t l =
      let h = pair s (Gave bytes) l.0 l.1 in
      let r = bytes_of l.0 log t l.2 in
      (Consumes-chain _ _ _ bytes (given log) h.1 r.0, Appends-chain _ _ _ [] (taken log) (appends_none _ _ (ap contents h.0)) r.1)
  bytes_of s (ReadFault ∷ log) t l =
      let h = pair s ReadFault l.0 l.1 in
      let r = bytes_of l.0 log t l.2 in
      (Consumes-chain _ _ _ [] (given log) (keeps_consumes _ _ h.1) r.0, Appends-chain _ _ _ [] (taken log) (appends_none _ _ (ap contents h.0)) r.1)
  bytes_of s (Took bytes ∷ log) t l =
      let h = pair s (Took bytes) l.0 l.1 in
      let r = bytes_of l.0 log t l.2 in
      (Consumes-chain _ _ _ [] (given log) (consumes_none _ _ (ap remaining h.0)) r.0, Appends-chain _ _ _ bytes (taken log) h.1 r.1)
  bytes_of s (WriteFault ∷ log) t l =
      let h = pair s WriteFault l.0 l.1 in
      let r = bytes_of l.0 log t l.2 in
      (Consumes-chain _ _ _ [] (given log) (consumes_none _ _ (ap remaining h.0)) r.0, Appends-chain _ _ _ [] (taken log) (keeps_appends _ _ h.1) r.1)

  -- write calls leave the reader as it is
  keeps_reader : (s : D) (log : List Event) (t : D) → Leads step s log t → read_calls log ≡ 0 → reader t ≡ reader s
  keeps_reader s [] t l none = ap reader l
  keeps_reader s (Gave bytes ∷ log) t l none = absurd (no_call (read_calls log) none)
  keeps_reader s (ReadFault ∷ log) t l none = absurd (no_call (read_calls log) none)
  keeps_reader s (Took bytes ∷ log) t l none = keeps_reader l.0 log t l.2 none ∙ (pair s (Took bytes) l.0 l.1).0
  keeps_reader s (WriteFault ∷ log) t l none = keeps_reader l.0 log t l.2 none ∙ (pair s WriteFault l.0 l.1).0

  pub end_of : (s : D) (before after : List Event) (t : D) → Leads step s (before ++ Gave [] ∷ after) t → read_calls after ≡ 0 → IsAtEnd (remaining (reader t))
  end_of s [] after t l none = subst (λ r. IsAtEnd (remaining r)) (sym (keeps_reader l.0 after t l.2 none)) ((pair s (Gave []) l.0 l.1).2 refl)
  end_of s (e ∷ before) after t l none = end_of l.0 before after t l.2 none

  pub writes_of : (s t : D) (failed : Bool) (text : List ℕ) → Writes step s failed text t → Held s t text
  writes_of s t failed text (log, l, w) = subst (Held s t) (wrote_taken failed text log w) (bytes_of s log t l).1

  pub writes_to_of : (s t : D) (text : List ℕ) (r : Result (Unit {0}) Refusal) → WritesOn step s text r t → WritesTo (contents (writer s)) text r (contents (writer t))
  writes_to_of s t text (Ok u) w = writes_of s t false text w
  writes_to_of s t text (Err e) w = (w.0, w.1, w.2, w.3, writes_of s t true w.0 w.4)

pub writes_kept : {D N : Type 0} (step : D → Event → D → Type 0) (name : D → N) → ((s : D) (e : Event) (t : D) → step s e t → name t ≡ name s) → (s t : D) (failed : Bool) (text : List ℕ) → Writes step s failed text t → name t ≡ name s
writes_kept step name f s t failed text (log, l, w) = leads_kept step name f s log t l

pub writes_on_kept : {D N : Type 0} (step : D → Event → D → Type 0) (name : D → N) → ((s : D) (e : Event) (t : D) → step s e t → name t ≡ name s) → (s t : D) (text : List ℕ) (r : Result (Unit {0}) Refusal) → WritesOn step s text r t → name t ≡ name s
writes_on_kept step name f s t text (Ok u) w = writes_kept step name f s t false text w
writes_on_kept step name f s t text (Err e) w = writes_kept step name f s t true w.0 w.4

-- ---- a reader and a writer that are lent

module _ {R W : Type 0} (remaining : R → Option (List ℕ)) (contents : W → Option (List ℕ)) where
  abbrev pub LentStep : Lent R W → Event → Lent R W → Type 0
  LentStep old e new =
      (new.reader.ghost_name ≡ old.reader.ghost_name) × (new.writer.ghost_name ≡ old.writer.ghost_name)
      × PairStep remaining contents old.reader.now old.writer.now e new.reader.now new.writer.now

  pub lent_names : (s : Lent R W) (log : List Event) (t : Lent R W) → Leads LentStep s log t → (t.reader.ghost_name ≡ s.reader.ghost_name) × (t.writer.ghost_name ≡ s.writer.ghost_name)
  lent_names s log t l =
      (leads_kept LentStep (λ u. u.reader.ghost_name) (λ u e v h. h.0) s log t l, leads_kept LentStep (λ u. u.writer.ghost_name) (λ u e v h. h.1) s log t l)

  pub lent_bytes : (s : Lent R W) (log : List Event) (t : Lent R W) → Leads LentStep s log t
      → Consumes (remaining s.reader.now) (remaining t.reader.now) (given log) × Appends (contents s.writer.now) (contents t.writer.now) (taken log)
  lent_bytes s log t l = bytes_of LentStep (λ u. u.reader.now) (λ u. u.writer.now) remaining contents (λ u e v h. h.2) s log t l

  pub lent_end : (s : Lent R W) (before after : List Event) (t : Lent R W) → Leads LentStep s (before ++ Gave [] ∷ after) t → read_calls after ≡ 0 → IsAtEnd (remaining t.reader.now)
  lent_end s before after t l none = end_of LentStep (λ u. u.reader.now) (λ u. u.writer.now) remaining contents (λ u e v h. h.2) s before after t l none

-- ---- a writer that is lent

module _ {W : Type 0} (contents : W → Option (List ℕ)) where
  abbrev pub WriterStep : LentWriter W → Event → LentWriter W → Type 0
  WriterStep old e new = (new.writer.ghost_name ≡ old.writer.ghost_name) × PairStep no_bytes contents tt old.writer.now e tt new.writer.now

  pub writer_writes : (s t : LentWriter W) (failed : Bool) (text : List ℕ) → Writes WriterStep s failed text t → (t.writer.ghost_name ≡ s.writer.ghost_name) × Appends (contents s.writer.now) (contents t.writer.now) text
  writer_writes s t failed text w =
      (writes_kept WriterStep (λ u. u.writer.ghost_name) (λ u e v h. h.0) s t failed text w, writes_of WriterStep (λ u. tt) (λ u. u.writer.now) no_bytes contents (λ u e v h. h.1) s t failed text w)

  pub writer_writes_to : (s t : LentWriter W) (text : List ℕ) (r : Result (Unit {0}) Refusal) → WritesOn WriterStep s text r t → (t.writer.ghost_name ≡ s.writer.ghost_name) × WritesTo (contents s.writer.now) text r (contents t.writer.now)
  writer_writes_to s t text r w =
      (writes_on_kept WriterStep (λ u. u.writer.ghost_name) (λ u e v h. h.0) s t text r w, writes_to_of WriterStep (λ u. tt) (λ u. u.writer.now) no_bytes contents (λ u e v h. h.1) s t text r w)
