-- Two conversions of the same bytes.
use Rattle.std.proofs.Common.{◌≡◌, ◌≢◌, ◌⊎◌, ◌∙◌, inl, inr, ap, refl, sym, subst, ℕ, ◌+◌, false, List, [], ◌∷◌, ◌++◌, append-nil, length, Option, Some, None, Result, Ok, Err}
use Rattle.std.specs.Io.KnownBytes.{Consumes}
use Rattle.rdf_lines.specs.Document as lines
use Rattle.rdf_lines.specs.Document.{EachTextIsOneDocument}
use Rattle.rdf_lines.specs.Fed.{Fed, FedBegins, HasBeenFed}
use Rattle.rdf_lines.specs.Labels.{labels_after}
use Rattle.rdf_lines.specs.Lines as cut
use Rattle.rdf_lines.specs.declared.fault.LineFault.{LineFault}
use Rattle.rdf_lines.specs.declared.format.LineFormat.{LineFormat}
use Rattle.rdf_lines.specs.declared.format.LineFormat.TheVariants as line
use Rattle.rdf_session.specs.declared.format.Format.TheVariants.{NQuads, NTriples, Turtle}
use Rattle.rdf_terms.specs.declared.quad.Quad.{Quad}
use Rattle.rdf_turtle.specs.Document as turtle
use Rattle.rdf_turtle.specs.DocumentLaws.{NeverBoth, OneDocument, OneFault}
use Rattle.rdf_streams.specs.Conversion.Converts.{ConvertsLines, ConvertsTurtle, lines_of, whole_lines}
use Rattle.rdf_streams.specs.Conversion.OneConversion.{Begin, CutOffBegin, EndAlike, FailedWritesLack, IsWhole, OneBeginsTheOther, OneConversion}
use Rattle.rdf_streams.specs.declared.conversion.fault.DocumentFault.TheVariants.{Line as InLine, Turtle as InTurtle}
use Rattle.rdf_streams.specs.declared.conversion.fault.ConvertFault.{ConvertFault}
use Rattle.rdf_streams.specs.declared.conversion.fault.ConvertFault.TheVariants.{Document, Read, Write, NoMemory}
use Rattle.rdf_streams.proofs.ConversionLemmas.Converts.{lines_of-append}
use Rattle.rdf_streams.proofs.ConversionLemmas.WholeLines.{held_by}

abbrev Answer : Type 0
Answer = Result (Unit {0}) ConvertFault

-- ---- beginnings

-- of two beginnings of one list the one is a beginning of the other
two_beginnings : (xs ys more others : List ℕ) → xs ++ more ≡ ys ++ others → Begin xs ys ⊎ Begin ys xs
two_beginnings [] ys more others e = inl (ys, refl)
two_beginnings (x ∷ xs) [] more others e = inr (x ∷ xs, refl)
two_beginnings (x ∷ xs) (y ∷ ys) more others e =
    let first : x ≡ y = cc in
    let rest : xs ++ more ≡ ys ++ others = cc in
    elim (two_beginnings xs ys more others rest) [
      | inl b ↦ inl (b.0, λ i. sym first i ∷ b.1 i)
      | inr b ↦ inr (b.0, λ i. first i ∷ b.1 i)
    ]

nothing_left : (xs more : List ℕ) → xs ≡ xs ++ more → more ≡ []
nothing_left [] more e = sym e
nothing_left (x ∷ xs) more e = let rest : xs ≡ xs ++ more = cc in nothing_left xs more rest

-- ---- what a conversion writes is a beginning of all lines of the document

-- how a whole conversion and the document end
abbrev Ended : Answer → Option LineFault → Type 0
Ended (Ok u) ending = ending ≡ None
Ended (Err (Document (InLine at))) ending = ending ≡ Some at
Ended (Err (Document (InTurtle at))) ending = ⊥
Ended (Err fault) ending = Unit {0}

-- what is left of the lines: nothing where the conversion is whole, and something where a write failed
abbrev Lacks : Answer → List ℕ → Type 0
Lacks (Ok u) more = more ≡ []
Lacks (Err (Document fault)) more = more ≡ []
Lacks (Err Read) more = Unit {0}
Lacks (Err Write) more = more ≢ []
Lacks (Err (NoMemory _)) more = Unit {0}

whole_lacks : (answer : Answer) (more : List ℕ) → IsWhole answer → Lacks answer more → more ≡ []
whole_lacks (Ok u) more w l = l
whole_lacks (Err (Document fault)) more w l = l
whole_lacks (Err Read) more w l = absurd w
whole_lacks (Err Write) more w l = absurd w
whole_lacks (Err (NoMemory _)) more w l = absurd w

record OfDocument (format : LineFormat) (text out : List ℕ) (answer : Answer) : Type 0 where
  quads : List Quad
  ending : Option LineFault
  more : List ℕ
  document : lines.IsDocument format text quads ending
  parts : lines_of quads ≡ out ++ more
  ended : Ended answer ending
  lacks : Lacks answer more

-- whole lines that were read are the first of the text
fed_whole : (format : LineFormat) (read : List ℕ) (quads : List Quad) → lines.IsDocument format (whole_lines read) quads None → (f : Fed) × (f.format ≡ format) × HasBeenFed read quads f
fed_whole format read quads d =
    let held = held_by false read in
    let front = cut.lines (whole_lines read) in
    let f : Fed = record { format = format; line = held.0; behind_return = held.1; number = length front + 1; labels = labels_after [] d.0 } in
    (f, refl, (front, held.2, (d.0, d.1, refl, refl, d.2)))

module _ (one : EachTextIsOneDocument) (begins : FedBegins) where
  read_front : (format : LineFormat) (read beyond : List ℕ) (quads : List Quad) → lines.IsDocument format (whole_lines read) quads None → (others : List Quad) × (ending : Option LineFault) × lines.IsDocument format (read ++ beyond) (quads ++ others) ending
  read_front format read beyond quads d =
      let fed = fed_whole format read quads d in
      let b = begins read quads fed.0 beyond fed.2 in
      (b.0, b.1, subst (λ g. lines.IsDocument g (read ++ beyond) (quads ++ b.0) b.1) fed.1 b.2)

  failed_read : (format : LineFormat) (text read : List ℕ) (left : Option (List ℕ)) (quads : List Quad) → Consumes (Some text) left read → lines.IsDocument format (whole_lines read) quads None → (others : List Quad) × (ending : Option LineFault) × lines.IsDocument format text (quads ++ others) ending
  failed_read format text read None quads c d = absurd c
  failed_read format text read (Some beyond) quads c d =
      let b = read_front format read beyond quads d in
      (b.0, b.1, subst (λ t. lines.IsDocument format t (quads ++ b.0) b.1) (sym c) b.2)

  of_lines : (format : LineFormat) (text : List ℕ) (left : Option (List ℕ)) (out : List ℕ) (answer : Answer) → ConvertsLines format text left out answer → OfDocument format text out answer
  of_lines format text left out (Ok u) c =
      record { quads = c.0; ending = None; more = []; document = c.1; parts = sym c.2 ∙ sym (append-nil out); ended = refl; lacks = refl }
  of_lines format text left out (Err (Document (InLine at))) c =
      record { quads = c.0; ending = Some at; more = []; document = c.1; parts = sym c.2 ∙ sym (append-nil out); ended = refl; lacks = refl }
  of_lines format text left out (Err (Document (InTurtle at))) c = absurd c
  of_lines format text left out (Err Read) c =
      let b = failed_read format text c.0 left c.1 c.2 c.3 in
      record {
        quads = c.1 ++ b.0;
        ending = b.1;
        more = lines_of b.0;
        document = b.2;
        parts = lines_of-append c.1 b.0 ∙ ap (λ t. t ++ lines_of b.0) (sym c.4);
        ended = tt;
        lacks = tt;
      }
  of_lines format text left out (Err Write) c =
      record { quads = c.0; ending = c.1; more = c.2; document = c.3; parts = c.4; ended = tt; lacks = c.5 }
  of_lines format text left out (Err (NoMemory _)) c =
      record {
        quads = c.0 ++ c.1;
        ending = c.2;
        more = lines_of c.1;
        document = c.3;
        parts = lines_of-append c.0 c.1 ∙ ap (λ t. t ++ lines_of c.1) (sym c.4);
        ended = tt;
        lacks = tt;
      }

  -- both speak of the same lines
  same_lines : (format : LineFormat) (text out others : List ℕ) (answer otherwise : Answer) (a : OfDocument format text out answer) (b : OfDocument format text others otherwise) → (out ++ a.more ≡ others ++ b.more) × (a.ending ≡ b.ending)
  same_lines format text out others answer otherwise a b =
      let d = one format text in
      let p = d.3 a.quads a.ending a.document in
      let q = d.3 b.quads b.ending b.document in
      (sym a.parts ∙ ap lines_of (p.0 ∙ sym q.0) ∙ b.parts, p.1 ∙ sym q.1)

  end_alike : (answer otherwise : Answer) (ending : Option LineFault) → IsWhole answer → IsWhole otherwise → Ended answer ending → Ended otherwise ending → EndAlike answer otherwise
  end_alike (Ok u) (Ok v) ending w v' a b = tt
  end_alike (Ok u) (Err (Document (InLine at))) ending w v' a b = cc
  end_alike (Ok u) (Err (Document (InTurtle at))) ending w v' a b = absurd b
  end_alike (Ok u) (Err Read) ending w v' a b = absurd v'
  end_alike (Ok u) (Err Write) ending w v' a b = absurd v'
  end_alike (Ok u) (Err (NoMemory _)) ending w v' a b = absurd v'
  end_alike (Err (Document (InLine at))) (Ok v) ending w v' a b = cc
  end_alike (Err (Document (InLine at))) (Err (Document (InLine other))) ending w v' a b = cc
  end_alike (Err (Document (InLine at))) (Err (Document (InTurtle other))) ending w v' a b = absurd b
  end_alike (Err (Document (InLine at))) (Err Read) ending w v' a b = absurd v'
  end_alike (Err (Document (InLine at))) (Err Write) ending w v' a b = absurd v'
  end_alike (Err (Document (InLine at))) (Err (NoMemory _)) ending w v' a b = absurd v'
  end_alike (Err (Document (InTurtle at))) otherwise ending w v' a b = absurd a
  end_alike (Err Read) otherwise ending w v' a b = absurd w
  end_alike (Err Write) otherwise ending w v' a b = absurd w
  end_alike (Err (NoMemory _)) otherwise ending w v' a b = absurd w

  -- ---- of lines

  module _ (format : LineFormat) (text : List ℕ) (left other : Option (List ℕ)) (out others : List ℕ) (answer otherwise : Answer) (c : ConvertsLines format text left out answer) (d : ConvertsLines format text other others otherwise) where
    a : OfDocument format text out answer
    a = of_lines format text left out answer c

    b : OfDocument format text others otherwise
    b = of_lines format text other others otherwise d

    same : (out ++ a.more ≡ others ++ b.more) × (a.ending ≡ b.ending)
    same = same_lines format text out others answer otherwise a b

    whole_other : IsWhole otherwise → others ≡ out ++ a.more
    whole_other w = sym (append-nil others) ∙ ap (λ m. others ++ m) (sym (whole_lacks otherwise b.more w b.lacks)) ∙ sym same.0

    pub lines_begin : Begin out others ⊎ Begin others out
    lines_begin = two_beginnings out others a.more b.more same.0

    pub lines_cut_off : IsWhole otherwise → Begin out others
    lines_cut_off w = (a.more, whole_other w)

    pub lines_once : IsWhole answer → IsWhole otherwise → (out ≡ others) × EndAlike answer otherwise
    lines_once w v = (
      sym (whole_other v ∙ ap (λ m. out ++ m) (whole_lacks answer a.more w a.lacks) ∙ append-nil out),
      end_alike answer otherwise b.ending w v (subst (Ended answer) same.1 a.ended) b.ended,
    )

    pub lines_lack : (answer ≡ Err Write) → IsWhole otherwise → out ≢ others
    lines_lack e w same_bytes =
        subst (λ x. Lacks x a.more) e a.lacks (nothing_left out a.more (same_bytes ∙ whole_other w))

-- ---- of Turtle

module _ (one : OneDocument) (never : NeverBoth) (fault : OneFault) (base : Option (List ℕ)) (text : List ℕ) where
  same_quads : (quads more : List Quad) → turtle.IsDocument base text quads → turtle.IsDocument base text more → lines_of quads ≡ lines_of more
  same_quads quads more a b = ap lines_of (one base text quads more a b)

  begins_nothing : (out others : List ℕ) → out ≡ [] → Begin out others
  begins_nothing out others e = (others, ap (λ t. t ++ others) (sym e))

  -- a conversion's lines are a beginning of those of the document, or none are written
  abbrev OfTurtle : List ℕ → Type 0
  OfTurtle out = (out ≡ []) ⊎ ((quads : List Quad) × (more : List ℕ) × turtle.IsDocument base text quads × (lines_of quads ≡ out ++ more))

  of_turtle : (out : List ℕ) (answer : Answer) → ConvertsTurtle base text out answer → OfTurtle out
  of_turtle out (Ok u) c = inr (c.0, [], c.1, sym c.2 ∙ sym (append-nil out))
  of_turtle out (Err (Document (InTurtle at))) c = inl c.1
  of_turtle out (Err (Document (InLine at))) c = absurd c
  of_turtle out (Err Read) c = inl c
  of_turtle out (Err Write) c = inr (c.0, c.1, c.2, c.3)
  of_turtle out (Err (NoMemory _)) c = inl c

  pub turtle_begin : (out others : List ℕ) (answer otherwise : Answer) → ConvertsTurtle base text out answer → ConvertsTurtle base text others otherwise → Begin out others ⊎ Begin others out
  turtle_begin out others answer otherwise c d =
      elim (of_turtle out answer c) [
        | inl e ↦ inl (begins_nothing out others e)
        | inr p ↦ elim (of_turtle others otherwise d) [
          | inl e ↦ inr (begins_nothing others out e)
          | inr q ↦ two_beginnings out others p.1 q.1 (sym p.3 ∙ same_quads p.0 q.0 p.2 q.2 ∙ q.3)
        ]
      ]

  pub turtle_cut_off : (out others : List ℕ) (answer otherwise : Answer) → ConvertsTurtle base text out answer → ConvertsTurtle base text others otherwise → IsWhole otherwise → Begin out others
  turtle_cut_off out others answer (Ok u) c d w =
      elim (of_turtle out answer c) [
        | inl e ↦ begins_nothing out others e
        | inr p ↦ (p.1, d.2 ∙ same_quads d.0 p.0 d.1 p.2 ∙ p.3)
      ]
  turtle_cut_off out others answer (Err (Document (InTurtle at))) c d w =
      elim (of_turtle out answer c) [
        | inl e ↦ begins_nothing out others e
        | inr p ↦ absurd (never base text p.0 at p.2 d.0)
      ]
  turtle_cut_off out others answer (Err (Document (InLine at))) c d w = absurd d
  turtle_cut_off out others answer (Err Read) c d w = absurd w
  turtle_cut_off out others answer (Err Write) c d w = absurd w
  turtle_cut_off out others answer (Err (NoMemory _)) c d w = absurd w

  pub turtle_once : (out others : List ℕ) (answer otherwise : Answer) → ConvertsTurtle base text out answer → IsWhole answer → ConvertsTurtle base text others otherwise → IsWhole otherwise → (out ≡ others) × EndAlike answer otherwise
  turtle_once out others (Ok u) (Ok v) c w d v' = (c.2 ∙ same_quads c.0 d.0 c.1 d.1 ∙ sym d.2, tt)
  turtle_once out others (Ok u) (Err (Document (InTurtle at))) c w d v' = absurd (never base text c.0 at c.1 d.0)
  turtle_once out others (Ok u) (Err (Document (InLine at))) c w d v' = absurd d
  turtle_once out others (Ok u) (Err Read) c w d v' = absurd v'
  turtle_once out others (Ok u) (Err Write) c w d v' = absurd v'
  turtle_once out others (Ok u) (Err (NoMemory _)) c w d v' = absurd v'
  turtle_once out others (Err (Document (InTurtle at))) (Ok v) c w d v' = absurd (never base text d.0 at d.1 c.0)
  turtle_once out others (Err (Document (InTurtle at))) (Err (Document (InTurtle other))) c w d v' = (c.1 ∙ sym d.1, fault base text at other c.0 d.0)
  turtle_once out others (Err (Document (InTurtle at))) (Err (Document (InLine other))) c w d v' = absurd d
  turtle_once out others (Err (Document (InTurtle at))) (Err Read) c w d v' = absurd v'
  turtle_once out others (Err (Document (InTurtle at))) (Err Write) c w d v' = absurd v'
  turtle_once out others (Err (Document (InTurtle at))) (Err (NoMemory _)) c w d v' = absurd v'
  turtle_once out others (Err (Document (InLine at))) otherwise c w d v' = absurd c
  turtle_once out others (Err Read) otherwise c w d v' = absurd w
  turtle_once out others (Err Write) otherwise c w d v' = absurd w
  turtle_once out others (Err (NoMemory _)) otherwise c w d v' = absurd w

  pub turtle_lack : (out others : List ℕ) (otherwise : Answer) → ConvertsTurtle base text out (Err Write) → ConvertsTurtle base text others otherwise → IsWhole otherwise → out ≢ others
  turtle_lack out others (Ok u) c d w e =
      c.4 (nothing_left out c.1 (e ∙ d.2 ∙ same_quads d.0 c.0 d.1 c.2 ∙ c.3))
  turtle_lack out others (Err (Document (InTurtle at))) c d w e = never base text c.0 at c.2 d.0
  turtle_lack out others (Err (Document (InLine at))) c d w e = absurd d
  turtle_lack out others (Err Read) c d w e = absurd w
  turtle_lack out others (Err Write) c d w e = absurd w
  turtle_lack out others (Err (NoMemory _)) c d w e = absurd w

-- ---- of each format

module _ (text_one : EachTextIsOneDocument) (begins : FedBegins) (one : OneDocument) (never : NeverBoth) (fault : OneFault) where
  pub one_conversion : OneConversion
  one_conversion NQuads base text left other out others answer otherwise c w d v = lines_once text_one begins line.NQuads text left other out others answer otherwise c d w v
  one_conversion NTriples base text left other out others answer otherwise c w d v = lines_once text_one begins line.NTriples text left other out others answer otherwise c d w v
  one_conversion Turtle base text left other out others answer otherwise c w d v = turtle_once one never fault base text out others answer otherwise c w d v

  pub cut_off_begin : CutOffBegin
  cut_off_begin NQuads base text left other out others answer otherwise c d w = lines_cut_off text_one begins line.NQuads text left other out others answer otherwise c d w
  cut_off_begin NTriples base text left other out others answer otherwise c d w = lines_cut_off text_one begins line.NTriples text left other out others answer otherwise c d w
  cut_off_begin Turtle base text left other out others answer otherwise c d w = turtle_cut_off one never fault base text out others answer otherwise c d w

  pub failed_writes_lack : FailedWritesLack
  failed_writes_lack NQuads base text left other out others otherwise c d w = lines_lack text_one begins line.NQuads text left other out others (Err Write) otherwise c d refl w
  failed_writes_lack NTriples base text left other out others otherwise c d w = lines_lack text_one begins line.NTriples text left other out others (Err Write) otherwise c d refl w
  failed_writes_lack Turtle base text left other out others otherwise c d w = turtle_lack one never fault base text out others otherwise c d w

  pub one_begins_the_other : OneBeginsTheOther
  one_begins_the_other NQuads base text left other out others answer otherwise c d = lines_begin text_one begins line.NQuads text left other out others answer otherwise c d
  one_begins_the_other NTriples base text left other out others answer otherwise c d = lines_begin text_one begins line.NTriples text left other out others answer otherwise c d
  one_begins_the_other Turtle base text left other out others answer otherwise c d = turtle_begin one never fault base text out others answer otherwise c d
