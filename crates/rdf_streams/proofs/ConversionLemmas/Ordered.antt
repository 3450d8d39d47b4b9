-- Conversions of lines over a device: logs that grow by their calls.
use Rattle.std.proofs.Common.{◌≡◌, ◌≢◌, ◌≤◌, ℕ, ◌+◌, ◌*◌, Bool, true, false, ◌||◌, List, [], ◌∷◌, ◌++◌, length, Option, Some, None, refl, sym, ap, ◌∙◌, subst, append-nil, append_assoc, arith, inl, inr}
use Rattle.std.specs.Prelude.{MatchResult, Result, Ok, Err}
use Rattle.std.specs.Io.KnownBytes.{Consumes, IsAtEnd}
use Rattle.rdf_lines.specs.Document.{IsDocument, ReadsAll}
use Rattle.rdf_lines.specs.Fed.{Fed, FedBegins, HasBeenFed}
use Rattle.rdf_lines.specs.declared.format.LineFormat.{LineFormat}
use Rattle.rdf_lines.specs.declared.fault.LineFault.{LineFault}
use Rattle.rdf_terms.specs.declared.quad.Quad.{Quad}
use Rattle.rdf_streams.specs.Conversion.Converts.{ConvertsLines, lines_of, whole_lines}
use Rattle.rdf_streams.specs.Conversion.Orders.{AreWritten, EndsAs, LinesConverted}
use Rattle.rdf_streams.specs.Devices.{Event, Gave, IsOrderly, Leads, ReadFault, given, has_end, has_failed, is_end, read_calls, taken}
use Rattle.rdf_streams.specs.Inside.Gathered.{Begins, Ends, GoesOn, Grows, Stops, StopsIn}
use Rattle.rdf_streams.specs.Streams.{Wrote}
use Rattle.rdf_streams.specs.declared.conversion.fault.ConvertFault.{ConvertFault}
use Rattle.rdf_streams.specs.declared.conversion.fault.ConvertFault.TheVariants.{Document, Read, Write, NoMemory}
use Rattle.rdf_streams.specs.declared.conversion.fault.DocumentFault.TheVariants.{Line as InLine, Turtle as InTurtle}
use Rattle.rdf_streams.specs.declared.streams.device.Lent.{Lent}
use Rattle.rdf_streams.proofs.ConversionLemmas.Converts.{lines_of-append, more_left}
use Rattle.rdf_streams.proofs.ConversionLemmas.WholeLines.{lines_of_whole}
use Rattle.rdf_streams.proofs.DeviceLemmas.Logs.{calls-append, end-append, failed-append, given-append, or_false, some_given, taken-append}
use Rattle.rdf_streams.proofs.DeviceLemmas.Orderly.{ended_at, none_behind_end, orderly-append, orderly_one, wrote_fits}
use Rattle.rdf_streams.proofs.DeviceLemmas.Pairs.{LentStep, lent_bytes, lent_end}
use Rattle.rdf_streams.proofs.DeviceLemmas.Written.{writes_go_on, wrote_calls, wrote_end, wrote_given, wrote_taken, wrote_to_fault}

-- the lines that were wholly read are a document
pub whole_document : (read : List ℕ) (quads : List Quad) (f : Fed) → HasBeenFed read quads f → IsDocument f.format (whole_lines read) quads None
whole_document read quads f (front, holds, (statements, reads, number, labels, is)) =
    (statements, subst (λ ls. ReadsAll f.format 1 ls statements None) (sym (lines_of_whole false read front f.line f.behind_return holds)) reads, is)

-- a proper front of the lines of the first statements
cut_short : (format : LineFormat) (left : Option (List ℕ)) (text out more : List ℕ) (quads : List Quad) → Begins format text quads → lines_of quads ≡ out ++ more → more ≢ [] → ConvertsLines format text left out (Err Write)
cut_short format left text out more quads (others, ending, doc) parts some = (
  quads ++ others,
  ending,
  more ++ lines_of others,
  doc,
  lines_of-append quads others ∙ ap (λ t. t ++ lines_of others) parts ∙ append_assoc out more (lines_of others),
  more_left more (lines_of others) some,
)

begun : (format : LineFormat) (text : List ℕ) (quads : List Quad) (ending : Option LineFault) → IsDocument format text quads ending → Begins format text quads
begun format text quads ending doc = ([], ending, subst (λ q. IsDocument format text q ending) (sym (append-nil quads)) doc)

stops_begun : (format : LineFormat) (text : List ℕ) (quads : List Quad) (fault : ConvertFault) → StopsIn format text quads fault → Begins format text quads
stops_begun format text quads (Document (InLine at)) s = begun format text quads (Some at) s
stops_begun format text quads (Document (InTurtle at)) s = absurd s
stops_begun format text quads (NoMemory _) s = s
stops_begun format text quads Read s = absurd s
stops_begun format text quads Write s = absurd s

-- a fault that isn't the device's
stops_converts : (format : LineFormat) (left : Option (List ℕ)) (text out : List ℕ) (quads : List Quad) (fault : ConvertFault) → out ≡ lines_of quads → StopsIn format text quads fault → ConvertsLines format text left out (Err fault)
stops_converts format left text out quads (Document (InLine at)) is s = (quads, s, is)
stops_converts format left text out quads (Document (InTurtle at)) is s = absurd s
stops_converts format left text out quads (NoMemory _) is (others, ending, doc) = (quads, others, ending, doc, is)
stops_converts format left text out quads Read is s = absurd s
stops_converts format left text out quads Write is s = absurd s

stops_as : (calls : ℕ) (log : List Event) (format : LineFormat) (text : List ℕ) (quads : List Quad) (fault : ConvertFault) → StopsIn format text quads fault → has_failed log ≡ false → EndsAs calls log (Err fault)
stops_as calls log format text quads (Document at) s g = g
stops_as calls log format text quads (NoMemory _) s g = g
stops_as calls log format text quads Read s g = absurd s
stops_as calls log format text quads Write s g = absurd s

-- ---- between two read calls: the lines of all statements that came are written

pub record Ready (format : LineFormat) (calls : ℕ) (log : List Event) (quads : List Quad) (document : Fed) : Type 0 where
  pub orderly : IsOrderly 65536 (AreWritten format) log
  pub goes_on : has_failed log ≡ false
  pub no_end : has_end log ≡ false
  pub counted : read_calls log ≡ calls
  pub written : taken log ≡ lines_of quads
  pub fed : HasBeenFed (given log) quads document
  pub in_format : document.format ≡ format
  pub number : document.number ≤ calls * 65536 + 1

pub ready_first : (format : LineFormat) (document : Fed) → HasBeenFed [] [] document → document.format ≡ format → document.number ≡ 1 → Ready format 0 [] [] document
ready_first format document fed is one =
    record { orderly = tt; goes_on = refl; no_end = refl; counted = refl; written = refl; fed = fed; in_format = is; number = omega (arith, one) }

module _ (calls n : ℕ) (format : LineFormat) (log : List Event) (quads : List Quad) (document : Fed) (r : Ready format n log quads document) where
  so_far : IsDocument format (whole_lines (given log)) quads None
  so_far = subst (λ f. IsDocument f (whole_lines (given log)) quads None) r.in_format (whole_document (given log) quads document r.fed)

  may_read : AreWritten format log
  may_read = (quads, so_far, r.written)

  -- ---- behind a read call, and what was written then

  module _ (bytes : List ℕ) (few : length bytes ≤ 65536) (more : List Event) (failed : Bool) (text : List ℕ) (w : Wrote failed text more) where
    abbrev read : List Event
    read = log ++ Gave bytes ∷ []

    abbrev now : List Event
    now = read ++ more

    now_given : given now ≡ given log ++ bytes
    now_given =
        given-append read more ∙ ap (λ z. given read ++ z) (wrote_given failed text more w) ∙ append-nil (given read) ∙ given-append log (Gave bytes ∷ []) ∙ ap (λ z. given log ++ z) (append-nil bytes)

    now_taken : taken now ≡ lines_of quads ++ text
    now_taken =
        taken-append read more ∙ ap (λ z. z ++ taken more) (taken-append log (Gave bytes ∷ []) ∙ append-nil (taken log) ∙ r.written) ∙ ap (λ z. lines_of quads ++ z) (wrote_taken failed text more w)

    now_end : has_end now ≡ is_end (Gave bytes)
    now_end =
        end-append read more ∙ ap (λ v. v || has_end more) (end-append log (Gave bytes ∷ []) ∙ ap (λ v. v || has_end (Gave bytes ∷ [])) r.no_end)
        ∙ ap (λ v. (is_end (Gave bytes) || false) || v) (wrote_end failed text more w) ∙ or_none (is_end (Gave bytes))
      where
        or_none : (b : Bool) → ((b || false) || false) ≡ b
        or_none true = refl
        or_none false = refl

    read_goes_on : has_failed read ≡ false
    read_goes_on = failed-append log (Gave bytes ∷ []) ∙ or_false (has_failed log) false r.goes_on refl

    now_calls : read_calls now ≡ n + 1
    now_calls =
        let all = calls-append read more in
        let one = calls-append log (Gave bytes ∷ []) in
        let none = wrote_calls failed text more w in
        let before = r.counted in
        omega (arith, all, one, none, before)

    now_orderly : IsOrderly 65536 (AreWritten format) now
    now_orderly =
        orderly-append 65536 (AreWritten format) [] read more (orderly_one 65536 (AreWritten format) log (Gave bytes) r.orderly (record { goes_on = r.goes_on; may_be = (r.no_end, may_read, few) }))
        (wrote_fits 65536 (AreWritten format) read more failed text read_goes_on w)

    abbrev Converted : Result (Unit {0}) ConvertFault → Type 0
    Converted answer = LinesConverted calls format now answer

    -- the text is what was read and what may come behind it
    same_text : (beyond : List ℕ) → given log ++ (bytes ++ beyond) ≡ given now ++ beyond
    same_text beyond = sym (append_assoc (given log) bytes beyond) ∙ ap (λ z. z ++ beyond) (sym now_given)

  module _ (bytes : List ℕ) (few : length bytes ≤ 65536) (log' : List Event) (more : List Quad) (held : List ℕ) (grown : Grows [] more held) where
    both : lines_of quads ++ held ≡ lines_of (quads ++ more)
    both = ap (λ z. lines_of quads ++ z) grown ∙ sym (lines_of-append quads more)

    -- all went well, and the reader goes on
    pub goes_further : Wrote false held log' → bytes ≢ [] → (next : Fed) → GoesOn document bytes more next → Ready format (n + 1) ((log ++ Gave bytes ∷ []) ++ log') (quads ++ more) next
    goes_further w some next on = record {
      orderly = now_orderly bytes few log' false held w;
      goes_on = failed-append (log ++ Gave bytes ∷ []) log' ∙ or_false (has_failed (log ++ Gave bytes ∷ [])) (has_failed log') (read_goes_on bytes few log' false held w) (writes_go_on log' w.0);
      no_end = now_end bytes few log' false held w ∙ some_given bytes some;
      counted = now_calls bytes few log' false held w;
      written = now_taken bytes few log' false held w ∙ both;
      fed = subst (λ z. HasBeenFed z (quads ++ more) next) (sym (now_given bytes few log' false held w)) (on.fed (given log) quads r.fed);
      in_format = on.format ∙ r.in_format;
      number = (let m = on.number in let b = r.number in omega (arith, m, b, few));
    }

    -- there is a fault, however the text goes on
    pub stops_there : Wrote false held log' → (fault : ConvertFault) → Stops document bytes more fault → LinesConverted calls format ((log ++ Gave bytes ∷ []) ++ log') (Err fault)
    stops_there w fault stops =
        let now = (log ++ Gave bytes ∷ []) ++ log' in
        let stop : (beyond : List ℕ) → StopsIn format (given now ++ beyond) (quads ++ more) fault =
        λ beyond. subst (λ z. StopsIn format z (quads ++ more) fault) (same_text bytes few log' false held w beyond) (subst (λ f. StopsIn f (given log ++ (bytes ++ beyond)) (quads ++ more) fault) r.in_format (stops (given log) quads beyond r.fed)) in
        record {
          orderly = now_orderly bytes few log' false held w;
          converts = λ beyond left. stops_converts format (Some beyond) (given now ++ beyond) (taken now) (quads ++ more) fault (now_taken bytes few log' false held w ∙ both) (stop beyond);
          ends =
              stops_as calls now format (given now ++ []) (quads ++ more) fault (stop [])
              (failed-append (log ++ Gave bytes ∷ []) log' ∙ or_false (has_failed (log ++ Gave bytes ∷ [])) (has_failed log') (read_goes_on bytes few log' false held w) (writes_go_on log' w.0));
        }

    -- a write call failed
    pub cut_off : (front rest : List ℕ) → held ≡ front ++ rest → rest ≢ [] → Wrote true front log' → ((beyond : List ℕ) → (is_end (Gave bytes) ≡ true → beyond ≡ []) → Begins format ((given log ++ bytes) ++ beyond) (quads ++ more))
        → LinesConverted calls format ((log ++ Gave bytes ∷ []) ++ log') (Err Write)
    cut_off front rest parts some w begins =
        let now = (log ++ Gave bytes ∷ []) ++ log' in
        let whole : lines_of (quads ++ more) ≡ taken now ++ rest =
        sym both ∙ ap (λ z. lines_of quads ++ z) parts ∙ sym (append_assoc (lines_of quads) front rest) ∙ ap (λ z. z ++ rest) (sym (now_taken bytes few log' true front w)) in
        record {
          orderly = now_orderly bytes few log' true front w;
          converts =
              λ beyond left.
              cut_short format (Some beyond) (given now ++ beyond) (taken now) rest (quads ++ more)
              (subst (λ z. Begins format (z ++ beyond) (quads ++ more)) (sym (now_given bytes few log' true front w)) (begins beyond (λ e. left (now_end bytes few log' true front w ∙ e)))) whole some;
          ends = wrote_to_fault (log ++ Gave bytes ∷ []) log' front w;
        }

    piece_begins : (next : Fed) → GoesOn document bytes more next → FedBegins → (beyond : List ℕ) → Begins format ((given log ++ bytes) ++ beyond) (quads ++ more)
    piece_begins next on law beyond =
        subst (λ f. Begins f ((given log ++ bytes) ++ beyond) (quads ++ more)) (on.format ∙ r.in_format) (law (given log ++ bytes) (quads ++ more) next beyond (on.fed (given log) quads r.fed))

    fault_begins : (fault : ConvertFault) → Stops document bytes more fault → (beyond : List ℕ) → Begins format ((given log ++ bytes) ++ beyond) (quads ++ more)
    fault_begins fault stops beyond =
        subst (λ z. Begins format z (quads ++ more)) (sym (append_assoc (given log) bytes beyond))
        (subst (λ f. Begins f (given log ++ (bytes ++ beyond)) (quads ++ more)) r.in_format (stops_begun document.format (given log ++ (bytes ++ beyond)) (quads ++ more) fault (stops (given log) quads beyond r.fed)))

    pub cut_there : FedBegins → (fed : Result Fed ConvertFault) → MatchResult fed (GoesOn document bytes more) (Stops document bytes more) → (front rest : List ℕ) → held ≡ front ++ rest → rest ≢ [] → Wrote true front log'
        → LinesConverted calls format ((log ++ Gave bytes ∷ []) ++ log') (Err Write)
    cut_there law (Ok next) on front rest parts some w = cut_off front rest parts some w (λ beyond left. piece_begins next on law beyond)
    cut_there law (Err fault) stops front rest parts some w = cut_off front rest parts some w (λ beyond left. fault_begins fault stops beyond)

  -- ---- the end

  module _ (log' : List Event) (more : List Quad) (held : List ℕ) (grown : Grows [] more held) where
    few : 0 ≤ 65536
    few = omega arith

    abbrev ended : List Event
    ended = (log ++ Gave [] ∷ []) ++ log'

    all_given : (failed : Bool) (text : List ℕ) → Wrote failed text log' → (beyond : List ℕ) → (has_end ended ≡ true → beyond ≡ []) → given log ≡ given ended ++ beyond
    all_given failed text w beyond left =
        sym (ap (λ z. given ended ++ z) (left (now_end [] few log' failed text w)) ∙ append-nil (given ended) ∙ now_given [] few log' failed text w ∙ append-nil (given log))

    went : Wrote false held log' → has_failed ended ≡ false
    went w = failed-append (log ++ Gave [] ∷ []) log' ∙ or_false (has_failed (log ++ Gave [] ∷ [])) (has_failed log') (read_goes_on [] few log' false held w) (writes_go_on log' w.0)

    out_is : Wrote false held log' → taken ended ≡ lines_of (quads ++ more)
    out_is w = now_taken [] few log' false held w ∙ ap (λ z. lines_of quads ++ z) grown ∙ sym (lines_of-append quads more)

    pub ends_there : Wrote false held log' → (answer : Result (Unit {0}) ConvertFault) → Ends document more answer → LinesConverted calls format ended answer
    ends_there w (Ok u) e = record {
      orderly = now_orderly [] few log' false held w;
      converts =
          λ beyond left.
          (quads ++ more, subst (λ z. IsDocument format z (quads ++ more) None) (all_given false held w beyond left) (subst (λ f. IsDocument f (given log) (quads ++ more) None) r.in_format (e (given log) quads r.fed)), out_is w);
      ends = went w;
    }
    ends_there w (Err fault) e =
        let stop : StopsIn format (given log) (quads ++ more) fault = subst (λ f. StopsIn f (given log) (quads ++ more) fault) r.in_format (e (given log) quads r.fed) in
        record {
          orderly = now_orderly [] few log' false held w;
          converts =
              λ beyond left.
              stops_converts format (Some beyond) (given ended ++ beyond) (taken ended) (quads ++ more) fault (out_is w) (subst (λ z. StopsIn format z (quads ++ more) fault) (all_given false held w beyond left) stop);
          ends = stops_as calls ended format (given log) (quads ++ more) fault stop (went w);
        }

    end_begins : (answer : Result (Unit {0}) ConvertFault) → Ends document more answer → Begins format (given log) (quads ++ more)
    end_begins (Ok u) e = begun format (given log) (quads ++ more) None (subst (λ f. IsDocument f (given log) (quads ++ more) None) r.in_format (e (given log) quads r.fed))
    end_begins (Err fault) e = stops_begun format (given log) (quads ++ more) fault (subst (λ f. StopsIn f (given log) (quads ++ more) fault) r.in_format (e (given log) quads r.fed))

    pub ends_cut : (front rest : List ℕ) → held ≡ front ++ rest → rest ≢ [] → Wrote true front log' → (answer : Result (Unit {0}) ConvertFault) → Ends document more answer → LinesConverted calls format ended (Err Write)
    ends_cut front rest parts some w answer e =
        cut_off [] few log' more held grown front rest parts some w
        (λ beyond left. subst (λ z. Begins format z (quads ++ more)) (sym (ap (λ z. (given log ++ []) ++ z) (left refl) ∙ append-nil (given log ++ []) ∙ append-nil (given log))) (end_begins answer e))

  -- ---- faults of reading

  pub fails_there : LinesConverted calls format (log ++ ReadFault ∷ []) (Err Read)
  fails_there =
      let now = log ++ ReadFault ∷ [] in
      let same : given now ≡ given log = given-append log (ReadFault ∷ []) ∙ append-nil (given log) in
      record {
        orderly = orderly_one 65536 (AreWritten format) log ReadFault r.orderly (record { goes_on = r.goes_on; may_be = (r.no_end, may_read) });
        converts =
            λ beyond left.
            (given now, quads, refl, subst (λ z. IsDocument format (whole_lines z) quads None) (sym same) so_far, taken-append log (ReadFault ∷ []) ∙ append-nil (taken log) ∙ r.written);
        ends = inl (log, refl);
      }

  pub runs_out : n ≡ calls → LinesConverted calls format log (Err Read)
  runs_out all = record {
    orderly = r.orderly;
    converts = λ beyond left. (given log, quads, refl, so_far, r.written);
    ends = inr (r.goes_on, r.no_end, r.counted ∙ all);
  }

-- ---- over a reader and a writer

module _ {R W : Type 0} (remaining : R → Option (List ℕ)) (contents : W → Option (List ℕ)) (calls : ℕ) (format : LineFormat) (s t : Lent R W) (log : List Event) (answer : Result (Unit {0}) ConvertFault)
    (l : Leads (LentStep remaining contents) s log t) (c : LinesConverted calls format log answer) where
  at_end : has_end log ≡ true → IsAtEnd (remaining t.reader.now)
  at_end h =
      let at = ended_at log h in
      lent_end remaining contents s at.0 at.1 t (subst (λ m. Leads (LentStep remaining contents) s m t) at.2 l)
      (none_behind_end 65536 (AreWritten format) at.0 at.1 (subst (IsOrderly 65536 (AreWritten format)) at.2 c.orderly))

  pub converts_over : (text : List ℕ) → remaining s.reader.now ≡ Some text → ConvertsLines format text (remaining t.reader.now) (taken log) answer
  converts_over text e = by (remaining t.reader.now) (subst (λ b. Consumes b (remaining t.reader.now) (given log)) e (lent_bytes remaining contents s log t l).0) at_end
    where
      by : (left : Option (List ℕ)) → Consumes (Some text) left (given log) → (has_end log ≡ true → IsAtEnd left) → ConvertsLines format text left (taken log) answer
      by None consumed end = absurd consumed
      by (Some rest) consumed end = subst (λ z. ConvertsLines format z (Some rest) (taken log) answer) (sym consumed) (c.converts rest end)
