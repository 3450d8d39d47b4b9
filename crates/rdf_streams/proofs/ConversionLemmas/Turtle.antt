-- What is written of a document of Turtle.
use Rattle.std.proofs.Common.{◌≡◌, ◌∙◌, ap, refl, sym, subst, ℕ, List, [], ◌++◌, append-nil, Option, Some, None}
use Rattle.std.specs.Prelude.{Result, Ok, Err}
use Rattle.std.specs.Io.KnownBytes.{Appends, Consumes, IsAtEnd}
use Rattle.rdf_terms.specs.declared.quad.Quad.{Quad}
use Rattle.rdf_turtle.specs.Document as turtle
use Rattle.rdf_turtle.specs.declared.fault.TurtleFault.{TurtleFault}
use Rattle.rdf_turtle.specs.declared.fault.TurtleFaultKind.{TurtleFaultKind}
use Rattle.rdf_turtle.specs.declared.fault.TurtleFaultKind.TheVariants as kind
use Rattle.rdf_streams.specs.Conversion.Converts.{lines_of, ConvertsTurtle}
use Rattle.rdf_streams.specs.Inside.Held.{WritesLines, turtle_fault}
use Rattle.rdf_streams.specs.Streams.{ReadsTo}
use Rattle.rdf_streams.specs.declared.conversion.fault.ConvertFault.{ConvertFault}
use Rattle.rdf_streams.specs.declared.conversion.fault.ConvertFault.TheVariants.{Document, NoMemory, Read, Write}
use Rattle.rdf_streams.specs.declared.streams.reading.Ending.TheVariants.{AtEnd}
use Rattle.rdf_streams.proofs.ConversionLemmas.Converts.{Appends-none}
use Rattle.rdf_streams.specs.Conversion.Faults.{no_memory}

-- ---- a whole text

pub consumed : (after : Option (List ℕ)) (text read : List ℕ) → Consumes (Some text) after read → IsAtEnd after → read ≡ text
consumed None text read c e = absurd c
consumed (Some left) text read c e = sym (c ∙ ap (λ t. read ++ t) e ∙ append-nil read)

-- what was read up to the end is all that the reader had
pub whole_text : (before after : Option (List ℕ)) (text held : List ℕ) → before ≡ Some text → ReadsTo before after [] AtEnd held → held ≡ text
whole_text before after text held e (read, is, c, end) = is ∙ consumed after text read (subst (λ b. Consumes b after read) e c) end

-- an answer, and what was written before it
abbrev pub Outcome : Option (List ℕ) → Option (List ℕ) → Option (List ℕ) → List ℕ → Result (Unit {0}) ConvertFault → Type 0
Outcome before after base text answer = (out : List ℕ) × Appends before after out × ConvertsTurtle base text out answer

pub document : (before after base : Option (List ℕ)) (text : List ℕ) (quads : List Quad) (answer : Result (Unit {0}) ConvertFault) → turtle.IsDocument base text quads
    → WritesLines before (lines_of quads) answer after → Outcome before after base text answer
document before after base text quads (Ok u) doc w = (lines_of quads, w, (quads, doc, refl))
document before after base text quads (Err Write) doc (out, more, w, is, some) = (out, w, (quads, more, doc, is, some))
document before after base text quads (Err (NoMemory _)) doc w = ([], w, refl)
document before after base text quads (Err Read) doc w = absurd w
document before after base text quads (Err (Document fault)) doc w = absurd w

told : (base : Option (List ℕ)) (text : List ℕ) (f : TurtleFault) (k : TurtleFaultKind) → turtle.TellsFault base text f k → ConvertsTurtle base text [] (Err (turtle_fault f k))
told base text f (kind.NoMemory _) h = refl
told base text f kind.NotUtf8 h = (h, refl)
told base text f kind.Token h = (h, refl)
told base text f kind.TooDeep h = (h, refl)
told base text f kind.Syntax h = (h, refl)
told base text f kind.UnknownPrefix h = (h, refl)
told base text f kind.Relative h = (h, refl)

-- a text that is not read
pub no_document : (before base : Option (List ℕ)) (text : List ℕ) (f : TurtleFault) (fault : ConvertFault) → fault ≡ turtle_fault f f.kind → turtle.TellsFault base text f f.kind → Outcome before before base text (Err fault)
no_document before base text f fault is h = ([], Appends-none before, subst (λ (x : ConvertFault). ConvertsTurtle base text [] (Err x)) (sym is) (told base text f f.kind h))

pub not_read : (before base : Option (List ℕ)) (text : List ℕ) → Outcome before before base text (Err Read)
not_read before base text = ([], Appends-none before, refl)

pub not_held : (before base : Option (List ℕ)) (text : List ℕ) → Outcome before before base text (Err no_memory)
not_held before base text = ([], Appends-none before, refl)
