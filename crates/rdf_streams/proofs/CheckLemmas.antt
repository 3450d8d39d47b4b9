-- What is counted of a document.
use Rattle.std.proofs.Common.{◌≡◌, ◌∙◌, ◌≤◌, ap, refl, sym, subst, ℕ, ◌+◌, ◌*◌, ◌<◌, arith, List, [], ◌∷◌, ◌++◌, length, append_assoc, append-nil, length-append, Option, Some, None}
use Rattle.std.specs.Prelude.{Result, Ok, Err}
use Rattle.std.specs.Io.KnownBytes.{Consumes, IsAtEnd, Keeps}
use Rattle.rdf_lines.specs.Document.{IsDocument}
use Rattle.rdf_lines.specs.Fed.{Fed, HasBeenFed}
use Rattle.rdf_lines.specs.declared.format.LineFormat.{LineFormat}
use Rattle.rdf_terms.specs.declared.quad.Quad.{Quad}
use Rattle.rdf_streams.specs.Checks.{ChecksLines}
use Rattle.rdf_streams.specs.Conversion.Converts.{whole_lines}
use Rattle.rdf_streams.specs.Inside.Counted.{CountEnds, CountStops, CountsOn}
use Rattle.rdf_streams.specs.Inside.Gathered.{StopsIn}
use Rattle.rdf_streams.specs.declared.conversion.fault.ConvertFault.{ConvertFault}
use Rattle.rdf_streams.specs.declared.conversion.fault.ConvertFault.TheVariants.{Document, Read, Write, NoMemory}
use Rattle.rdf_streams.specs.declared.conversion.fault.DocumentFault.TheVariants.{Line as InLine, Turtle as InTurtle}
use Rattle.rdf_streams.proofs.ConversionLemmas.Ordered.{whole_document}
use Rattle.rdf_streams.proofs.ConversionLemmas.Turtle.{consumed}
use Rattle.rdf_streams.proofs.StreamLemmas.{Consumes-chain}

consumes_nothing : (a : Option (List ℕ)) → Consumes a a []
consumes_nothing None = tt
consumes_nothing (Some xs) = refl

consumes_kept : (a b c : Option (List ℕ)) (read : List ℕ) → Consumes a b read → Keeps b c → Consumes a c read
consumes_kept None b c read p q = tt
consumes_kept (Some x) None c read p q = absurd p
consumes_kept (Some x) (Some y) None read p q = absurd q
consumes_kept (Some x) (Some y) (Some z) read p q = p ∙ ap (λ l. read ++ l) (sym q)

pub keeps_same : (a : Option (List ℕ)) → Keeps a a
keeps_same None = tt
keeps_same (Some xs) = refl

-- ---- one statement more

pub one_counted : (more : List Quad) (q : Quad) (count now : ℕ) → now ≡ count + length more → now + 1 ≡ count + length (more ++ q ∷ [])
one_counted more q count now e = omega (arith, e, length-append more (q ∷ []))

pub still_fits : (more : List Quad) (q : Quad) (piece rest after : ℕ) → length more + rest ≤ piece → after < rest → length (more ++ q ∷ []) + after ≤ piece
still_fits more q piece rest after h less = omega (arith, h, less, length-append more (q ∷ []))

-- ---- between two read calls

-- What was read says so many statements.
pub record Counted (before now : Option (List ℕ)) (format : LineFormat) (calls : ℕ) (document : Fed) (count : ℕ) : Type 0 where
  pub read : List ℕ
  pub quads : List Quad
  pub consumes : Consumes before now read
  pub fed : HasBeenFed read quads document
  pub in_format : document.format ≡ format
  pub number : document.number ≤ calls * 65536 + 1
  pub counted : count ≡ length quads
  pub fits : count ≤ calls * 65536

pub counted_first : (before : Option (List ℕ)) (format : LineFormat) (document : Fed) → HasBeenFed [] [] document → document.format ≡ format → document.number ≡ 1 → Counted before before format 0 document 0
counted_first before format document fed is one = record {
  read = [];
  quads = [];
  consumes = consumes_nothing before;
  fed = fed;
  in_format = is;
  number = omega (arith, one);
  counted = refl;
  fits = omega arith;
}

stops_checks : (format : LineFormat) (left : Option (List ℕ)) (text : List ℕ) (quads : List Quad) (fault : ConvertFault) → StopsIn format text quads fault → ChecksLines format text left (Err fault)
stops_checks format left text quads (Document (InLine at)) s = (quads, s)
stops_checks format left text quads (Document (InTurtle at)) s = absurd s
stops_checks format left text quads (NoMemory _) s = tt
stops_checks format left text quads Read s = absurd s
stops_checks format left text quads Write s = absurd s

module _ (before now : Option (List ℕ)) (format : LineFormat) (n : ℕ) (document : Fed) (count : ℕ) (r : Counted before now format n document count) where
  -- a piece was read, and the reader goes on
  pub counts_further : (left : Option (List ℕ)) (bytes : List ℕ) → length bytes ≤ 65536 → Consumes now left bytes → (next : Fed) (more : ℕ) → CountsOn document bytes count next more → Counted before left format (n + 1) next more
  counts_further left bytes few c next more (quads, on, is, fit) = record {
    read = r.read ++ bytes;
    quads = r.quads ++ quads;
    consumes = Consumes-chain before now left r.read bytes r.consumes c;
    fed = on.fed r.read r.quads r.fed;
    in_format = on.format ∙ r.in_format;
    number = (let m = on.number in let b = r.number in omega (arith, m, b, few));
    counted = (let e = r.counted in omega (arith, is, e, length-append r.quads quads));
    fits = (let b = r.fits in omega (arith, is, b, fit, few));
  }

  -- there is a fault, however the text goes on
  pub stops_here : (left : Option (List ℕ)) (bytes : List ℕ) → Consumes now left bytes → (fault : ConvertFault) → CountStops document bytes fault → (text : List ℕ) → before ≡ Some text → ChecksLines format text left (Err fault)
  stops_here left bytes c fault (more, stops) text e = by left (subst (λ b. Consumes b left (r.read ++ bytes)) e (Consumes-chain before now left r.read bytes r.consumes c))
    where
      by : (l : Option (List ℕ)) → Consumes (Some text) l (r.read ++ bytes) → ChecksLines format text l (Err fault)
      by None p = absurd p
      by (Some beyond) p =
          stops_checks format (Some beyond) text (r.quads ++ more) fault
          (subst (λ t. StopsIn format t (r.quads ++ more) fault) (sym (p ∙ append_assoc r.read bytes beyond))
          (subst (λ f. StopsIn f (r.read ++ (bytes ++ beyond)) (r.quads ++ more) fault) r.in_format (stops r.read r.quads beyond r.fed)))

  -- the text has ended
  pub ends_here : (left : Option (List ℕ)) → Consumes now left [] → IsAtEnd left → (answer : Result ℕ ConvertFault) → CountEnds document count answer → (text : List ℕ) → before ≡ Some text → ChecksLines format text left answer
  ends_here left c end answer counts text e = by answer counts
    where
      all : r.read ≡ text
      all = consumed left text r.read (subst (λ b. Consumes b left r.read) e (subst (Consumes before left) (append-nil r.read) (Consumes-chain before now left r.read [] r.consumes c))) end

      by : (a : Result ℕ ConvertFault) → CountEnds document count a → ChecksLines format text left a
      by (Ok now) (more, ends, is) = (
        r.quads ++ more,
        subst (λ t. IsDocument format t (r.quads ++ more) None) all (subst (λ f. IsDocument f r.read (r.quads ++ more) None) r.in_format (ends r.read r.quads r.fed)),
        (let k = r.counted in omega (arith, is, k, length-append r.quads more)),
      )
      by (Err fault) ends =
          stops_checks format left text (r.quads ++ []) fault
          (subst (λ t. StopsIn format t (r.quads ++ []) fault) all (subst (λ f. StopsIn f r.read (r.quads ++ []) fault) r.in_format (ends r.read r.quads r.fed)))

  -- a read call failed, or there are no more
  pub fails_here : (left : Option (List ℕ)) → Keeps now left → (text : List ℕ) → before ≡ Some text → ChecksLines format text left (Err Read)
  fails_here left k text e = (
    r.read,
    r.quads,
    subst (λ b. Consumes b left r.read) e (consumes_kept before now left r.read r.consumes k),
    subst (λ f. IsDocument f (whole_lines r.read) r.quads None) r.in_format (whole_document r.read r.quads document r.fed),
  )
