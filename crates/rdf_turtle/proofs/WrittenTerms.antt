-- A written term is cut into its tokens.
use Rattle.std.proofs.Common.{◌≡◌, ◌∙◌, ap, refl, sym, subst, ℕ, ◌<◌, ◌^◌, arith, Bool, true, false, ◌==◌, if◌then◌else◌, List, [], ◌∷◌, ◌++◌, codes, decimal, chars, nat_eq, append_assoc, Option, Some, None}
use Rattle.std.specs.Cmp.Lexicographic.{pointwise}
use Rattle.std.proofs.lemmas.Bool.{ltb-true}
use Rattle.std.proofs.lemmas.Str.{chars-append, chars-nil, chars-IsAscii}
use Rattle.rdf_terms.specs.Iri.{is_iri}
use Rattle.rdf_terms.specs.Literal.{LiteralParts, xsd_string, is_tag, tag_fits, is_literal}
use Rattle.rdf_terms.specs.Term.{is_term}
use Rattle.rdf_terms.specs.TermText.{suffix_text, literal_text, term_text}
use Rattle.rdf_terms.specs.declared.term.Term.{Term}
use Rattle.rdf_terms.specs.declared.term.Term.TheVariants.{Blank, Iri, Literal}
use Rattle.rdf_terms.proofs.CallerLemmas.{chars_cons, tag_name, angled, iri_form, angled_chars, decimal_digits, blank_ascii, tag_parts, tag_ascii, literal_parts, quoted, quoted_form, quoted_chars, quoted_utf8}
use Rattle.rdf_tokens.specs.declared.token.Kind.TheVariants as kind
use Rattle.rdf_turtle.proofs.WrittenTokens.{iri_token, caret_token, text_token, label_token, tag_token}
use Rattle.rdf_turtle.proofs.WrittenCuts.{Slice, Cut, cut_token}

-- ---- the slices of a term

abbrev pub iri_slice : List ℕ → List ℕ
iri_slice iri = angled (chars iri)

abbrev pub text_slice : List ℕ → List ℕ
text_slice text = quoted (chars text)

abbrev pub label_slice : ℕ → List ℕ
label_slice number = 95 ∷ 58 ∷ 98 ∷ decimal number

abbrev pub tag_slice : List ℕ → List ℕ
tag_slice tag = 64 ∷ tag

-- whether the datatype is xsd:string, which is not written
abbrev pub datatype_slices : Bool → List ℕ → List Slice
datatype_slices true datatype = []
datatype_slices false datatype = (kind.Symbol, 94 ∷ 94 ∷ []) ∷ (kind.Iri, iri_slice datatype) ∷ []

abbrev pub suffix_slices : List ℕ → Option (List ℕ) → List Slice
suffix_slices datatype (Some tag) = (kind.AtWord, tag_slice tag) ∷ []
suffix_slices datatype None = datatype_slices (pointwise nat_eq datatype xsd_string) datatype

abbrev pub term_slices : Term → List Slice
term_slices (Blank number) = (kind.BlankLabel, label_slice number) ∷ []
term_slices (Iri iri) = (kind.Iri, iri_slice iri) ∷ []
term_slices (Literal l) = (kind.Text, text_slice l.lexical) ∷ suffix_slices l.datatype l.tag

-- ---- IRIs

iri_cut : (iri rest : List ℕ) (ps : List Slice) → is_iri iri ≡ true → Cut rest ps → Cut (iri_slice iri ++ rest) ((kind.Iri, iri_slice iri) ∷ ps)
iri_cut iri rest ps h cut = cut_token kind.Iri (iri_slice iri) rest ps (iri_token (chars iri ++ 62 ∷ []) iri rest (iri_form iri h)) cut

-- ---- what is written, behind it a space

abbrev pub IsWritten : List ℕ → List Slice → Type 0
IsWritten text slices = (rest : List ℕ) (ps : List Slice) → Cut (32 ∷ rest) ps → Cut (chars text ++ 32 ∷ rest) (slices ++ ps)

written_iri : (iri : List ℕ) → is_iri iri ≡ true → IsWritten (angled iri) ((kind.Iri, iri_slice iri) ∷ [])
written_iri iri h rest ps cut =
    subst (λ (t : List ℕ). Cut (t ++ 32 ∷ rest) ((kind.Iri, iri_slice iri) ∷ ps)) (sym (angled_chars iri h)) (iri_cut iri (32 ∷ rest) ps h cut)

-- a number of 64 bits
written_blank : (n : ℕ) → n < 2 ^ 64 → IsWritten (label_slice n) ((kind.BlankLabel, label_slice n) ∷ [])
written_blank n h rest ps cut =
    subst (λ (t : List ℕ). Cut (t ++ 32 ∷ rest) ((kind.BlankLabel, label_slice n) ∷ ps)) (sym (chars-IsAscii (label_slice n) (blank_ascii n h)))
    (cut_token kind.BlankLabel (label_slice n) (32 ∷ rest) ps (label_token (decimal n) rest (decimal_digits n h)) cut)

-- ---- what stands behind the quotes

-- no quote begins it
record Suffix (text : List ℕ) (slices : List Slice) : Type 0 where
  written : IsWritten text slices
  begins : (rest : List ℕ) → (d : ℕ) × (more : List ℕ) × (chars text ++ 32 ∷ rest ≡ d ∷ more) × ((d == 34) ≡ false)

no_suffix : Suffix [] []
no_suffix = record {
  written = λ rest ps cut. subst (λ (t : List ℕ). Cut (t ++ 32 ∷ rest) ps) (sym chars-nil) cut;
  begins = λ rest. (32, rest, ap (λ (t : List ℕ). t ++ 32 ∷ rest) chars-nil, refl);
}

tag_suffix : (tag : List ℕ) → is_tag tag ≡ true → Suffix (tag_slice tag) ((kind.AtWord, tag_slice tag) ∷ [])
tag_suffix tag h =
    let same : chars (tag_slice tag) ≡ tag_slice tag = chars-IsAscii (tag_slice tag) (tag_ascii tag (tag_name tag h)) in
    record {
      written = λ rest ps cut.
          subst (λ (t : List ℕ). Cut (t ++ 32 ∷ rest) ((kind.AtWord, tag_slice tag) ∷ ps)) (sym same)
          (cut_token kind.AtWord (tag_slice tag) (32 ∷ rest) ps (tag_token tag rest (tag_name tag h)) cut);
      begins = λ rest. (64, tag ++ 32 ∷ rest, ap (λ (t : List ℕ). t ++ 32 ∷ rest) same, refl);
    }

typed_suffix : (datatype : List ℕ) → is_iri datatype ≡ true → Suffix (94 ∷ 94 ∷ angled datatype) (datatype_slices false datatype)
typed_suffix datatype h =
    let same : chars (94 ∷ 94 ∷ angled datatype) ≡ 94 ∷ 94 ∷ iri_slice datatype =
    chars_cons 94 (94 ∷ angled datatype) (omega arith)
    ∙ ap (λ (t : List ℕ). 94 ∷ t) (chars_cons 94 (angled datatype) (omega arith) ∙ ap (λ (t : List ℕ). 94 ∷ t) (angled_chars datatype h)) in
    record {
      written = λ rest ps cut.
          subst (λ (t : List ℕ). Cut (t ++ 32 ∷ rest) ((kind.Symbol, 94 ∷ 94 ∷ []) ∷ (kind.Iri, iri_slice datatype) ∷ ps)) (sym same)
          (cut_token kind.Symbol (94 ∷ 94 ∷ []) (iri_slice datatype ++ 32 ∷ rest) ((kind.Iri, iri_slice datatype) ∷ ps) (caret_token (iri_slice datatype ++ 32 ∷ rest))
          (iri_cut datatype (32 ∷ rest) ps h cut));
      begins = λ rest. (94, 94 ∷ (iri_slice datatype ++ 32 ∷ rest), ap (λ (t : List ℕ). t ++ 32 ∷ rest) same, refl);
    }

suffix_of : (datatype : List ℕ) (tag : Option (List ℕ)) → is_iri datatype ≡ true → tag_fits datatype tag ≡ true → Suffix (suffix_text datatype tag) (suffix_slices datatype tag)
suffix_of datatype (Some tag) h k = tag_suffix tag (tag_parts datatype tag k).1
suffix_of datatype None h k = by (pointwise nat_eq datatype xsd_string)
  where
    by : (b : Bool) → Suffix (if b then [] else codes "^^<" ++ datatype ++ codes ">") (datatype_slices b datatype)
    by true = no_suffix
    by false = typed_suffix datatype h

-- ---- literals

written_literal : (l : LiteralParts) → is_literal l ≡ true → IsWritten (literal_text l) (term_slices (Literal l))
written_literal l h rest ps cut =
    let p = literal_parts l h in
    let suffix = suffix_text l.datatype l.tag in
    let s = suffix_of l.datatype l.tag p.1 p.2 in
    let b = s.begins rest in
    let whole : chars (quoted l.lexical ++ suffix) ++ 32 ∷ rest ≡ text_slice l.lexical ++ (chars suffix ++ 32 ∷ rest) =
    ap (λ (t : List ℕ). t ++ 32 ∷ rest) (chars-append (quoted l.lexical) suffix (quoted_utf8 l.lexical p.0) ∙ ap (λ (t : List ℕ). t ++ chars suffix) (quoted_chars l.lexical p.0))
    ∙ append_assoc (text_slice l.lexical) (chars suffix) (32 ∷ rest) in
    let more = suffix_slices l.datatype l.tag ++ ps in
    let behind : Cut (b.0 ∷ b.1) more = subst (λ (t : List ℕ). Cut t more) b.2 (s.written rest ps cut) in
    subst (λ (t : List ℕ). Cut t ((kind.Text, text_slice l.lexical) ∷ more)) (sym (whole ∙ ap (λ (t : List ℕ). text_slice l.lexical ++ t) b.2))
    (cut_token kind.Text (text_slice l.lexical) (b.0 ∷ b.1) more (text_token (chars l.lexical) l.lexical b.0 b.1 b.3 (quoted_form l.lexical p.0)) behind)

pub written_term : (t : Term) → is_term t ≡ true → IsWritten (term_text t) (term_slices t)
written_term (Blank n) h = written_blank n (ltb-true n 18446744073709551616 h)
written_term (Iri iri) h = written_iri iri h
written_term (Literal l) h = written_literal l h
