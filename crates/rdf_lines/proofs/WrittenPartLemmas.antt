-- A term that is written is read back as the longest part where it stands.
use Rattle.std.proofs.Common.{◌≡◌, ◌≢◌, ◌∙◌, ap, refl, sym, subst, inl, inr, ℕ, ◌<◌, ◌≤◌, ◌^◌, arith, Bool, true, false, if◌then◌else◌, List, [], ◌∷◌, ◌++◌, length, get_or, drop, codes, decimal, chars, IsUtf8, nat_eq, true≢false, append_assoc, Option, Some, None}
use Rattle.std.specs.List.{AllByRecursion}
use Rattle.std.specs.Cmp.Lexicographic.{pointwise, bytes_decides}
use Rattle.std.proofs.lemmas.Bool.{ltb-true}
use Rattle.std.proofs.lemmas.Str.{chars-append, chars-nil, chars-IsAscii, encodes-IsAscii}
use Rattle.rdf_terms.specs.Dotted.{IsOne, IsDotted}
use Rattle.rdf_terms.specs.Iri.{is_iri}
use Rattle.rdf_terms.specs.Literal.{LiteralParts, xsd_string, tag_fits, is_literal, tagged}
use Rattle.rdf_terms.specs.Quoted.{IsIriRef}
use Rattle.rdf_terms.specs.Reading.{iri_at, quoted_at}
use Rattle.rdf_terms.specs.Characters.{is_pn_chars_base, is_pn_chars_u, is_pn_chars}
use Rattle.rdf_terms.specs.Tags.{IsTagName}
use Rattle.rdf_terms.specs.Term.{is_term, is_literal_term}
use Rattle.rdf_terms.specs.TermText.{suffix_text, literal_text, term_text}
use Rattle.rdf_terms.specs.declared.term.Term.{Term}
use Rattle.rdf_terms.specs.declared.term.Term.TheVariants.{Blank, Iri, Literal}
use Rattle.rdf_terms.proofs.CallerLemmas.{chars_cons, iri_complete, quoted_complete, tag_name, tag_low, ascii_from, angled, iri_form, angled_chars, label_low, blank_ascii, lower_stays, tag_parts, tag_ascii, literal_parts, quoted, quoted_form, quoted_chars, quoted_utf8}
use Rattle.rdf_lines.specs.Grammar.{is_white, is_label_part, is_label_start, IsString, IsLabelName, IsBlankLabel, IsTag, Takes, Next, HasNode, HasObject, HasLiteral, typed}
use Rattle.rdf_lines.specs.RoundTrip.{label_of, node_of, object_of}
use Rattle.rdf_lines.proofs.LinePartLemmas.{iri_reader, string_reader, differs}
use Rattle.rdf_lines.proofs.WrittenLabelLemmas.{label_name}
use Rattle.rdf_lines.proofs.WrittenTagLemmas.{tag_black}

-- ---- names end at a space

abbrev NoSpace : List ℕ → Type 0
NoSpace cs = AllByRecursion (λ c. c ≢ 32) cs

-- no text without a space reaches past one
before_space : (slice longer rest after : List ℕ) → NoSpace longer → slice ++ 32 ∷ rest ≡ longer ++ after → length longer ≤ length slice
before_space slice [] rest after n e = omega arith
before_space [] (c ∷ longer) rest after n e = absurd (n.0 (sym (ap (λ (l : List ℕ). get_or l 0 0) e)))
before_space (d ∷ slice) (c ∷ longer) rest after n e =
    let shorter = before_space slice longer rest after n.1 (ap (λ (l : List ℕ). drop 1 l) e) in
    omega (arith, shorter)

space_no_part : is_label_part 32 ≡ false
unfolding is_label_part is_pn_chars is_pn_chars_u is_pn_chars_base
space_no_part = refl

space_no_start : is_label_start 32 ≡ false
unfolding is_label_start is_pn_chars_u is_pn_chars_base
space_no_start = refl

part_black : (c : ℕ) → is_label_part c ≡ true → c ≢ 32
part_black c h e = true≢false (sym h ∙ ap is_label_part e ∙ space_no_part)

start_black : (c : ℕ) → is_label_start c ≡ true → c ≢ 32
start_black c h e = true≢false (sym h ∙ ap is_label_start e ∙ space_no_start)

dots_black : (dots others : List ℕ) → AllByRecursion (λ c. c ≡ 46) dots → NoSpace others → NoSpace (dots ++ others)
dots_black [] others h n = n
dots_black (d ∷ dots) others h n = ((λ e. omega (arith, h.0, e)), dots_black dots others h.1 n)

rest_black : (cs : List ℕ) (parts : List (List ℕ)) → IsDotted (IsOne is_label_part) cs parts → NoSpace cs
rest_black cs [] h = subst NoSpace (sym h) tt
rest_black cs (part ∷ parts) h =
    let one = h.4 in
    let behind : NoSpace (part ++ h.1) = subst (λ (t : List ℕ). NoSpace (t ++ h.1)) (sym one.1) (part_black one.0 one.2, rest_black h.1 parts h.5) in
    subst NoSpace (sym h.2) (dots_black h.0 (part ++ h.1) h.3 behind)

name_black : (name : List ℕ) → IsLabelName name → NoSpace name
name_black [] h = absurd h
name_black (c ∷ cs) h = (start_black c h.0, rest_black cs h.1.0 h.1.1)

label_black : (slice text : List ℕ) → IsBlankLabel slice text → NoSpace slice
label_black slice text f = subst NoSpace (sym f.1) ((λ e. (omega (arith, e))), ((λ e. (omega (arith, e))), name_black f.0 f.2))

tag_slice_black : (slice text : List ℕ) → IsTag slice text → NoSpace slice
tag_slice_black slice text f = subst NoSpace (sym f.1) ((λ e. (omega (arith, e))), tag_black f.0 f.2)

-- ---- blank nodes

takes_label : (n : ℕ) → n < 2 ^ 64 → (rest : List ℕ) → Takes IsBlankLabel (chars (term_text (Blank n)) ++ 32 ∷ rest) (label_of n) (32 ∷ rest)
takes_label n h rest = record {
  slice = 95 ∷ 58 ∷ 98 ∷ decimal n;
  form = (98 ∷ decimal n, refl, label_name n h, sym (encodes-IsAscii (98 ∷ decimal n) (ascii_from (98 ∷ decimal n) (label_low n h))));
  parts = ap (λ (t : List ℕ). t ++ 32 ∷ rest) here;
  longest = λ longer after other form e. before_space (95 ∷ 58 ∷ 98 ∷ decimal n) longer rest after (label_black longer other form) (sym (ap (λ (t : List ℕ). t ++ 32 ∷ rest) here) ∙ e);
}
  where
    here : chars (term_text (Blank n)) ≡ 95 ∷ 58 ∷ 98 ∷ decimal n
    here = chars-IsAscii (95 ∷ 58 ∷ 98 ∷ decimal n) (blank_ascii n h)

-- ---- IRIs

takes_iri : (iri : List ℕ) → is_iri iri ≡ true → (rest : List ℕ) → Takes IsIriRef (chars (angled iri) ++ rest) iri rest
takes_iri iri h rest =
    iri_reader.sound (chars (angled iri) ++ rest) iri rest
    (ap (λ (t : List ℕ). iri_at (t ++ rest)) (angled_chars iri h) ∙ iri_complete (angled (chars iri)) iri rest (iri_form iri h))

-- ---- literals

takes_string : (text : List ℕ) → IsUtf8 text → (rest : List ℕ) → Takes IsString (chars (quoted text) ++ rest) text rest
takes_string text u rest =
    string_reader.sound (chars (quoted text) ++ rest) text rest
    (ap (λ (t : List ℕ). quoted_at 34 (t ++ rest)) (quoted_chars text u) ∙ quoted_complete 34 (differs 92 34 refl) (quoted (chars text)) text rest (quoted_form text u))

takes_tag : (tag : List ℕ) → IsTagName tag → (rest : List ℕ) → Takes IsTag (chars (64 ∷ tag) ++ 32 ∷ rest) tag (32 ∷ rest)
takes_tag tag f rest = record {
  slice = 64 ∷ tag;
  form = (tag, refl, f, sym (encodes-IsAscii tag (ascii_from tag (tag_low tag f))));
  parts = ap (λ (t : List ℕ). t ++ 32 ∷ rest) here;
  longest = λ longer after other form e. before_space (64 ∷ tag) longer rest after (tag_slice_black longer other form) (sym (ap (λ (t : List ℕ). t ++ 32 ∷ rest) here) ∙ e);
}
  where
    here : chars (64 ∷ tag) ≡ 64 ∷ tag
    here = chars-IsAscii (64 ∷ tag) (tag_ascii tag f)

-- what follows the quotes
abbrev After : List ℕ → List ℕ → Option (List ℕ) → List ℕ → List ℕ → Type 0
After text datatype tag start rest =
    (after : List ℕ) → Next IsString start text after → (after ≡ chars (suffix_text datatype tag) ++ 32 ∷ rest) → HasLiteral start (record { lexical = text; datatype = datatype; tag = tag }) (32 ∷ rest)

after_tag : (text datatype tag start rest : List ℕ) → tag_fits datatype (Some tag) ≡ true → After text datatype (Some tag) start rest
after_tag text datatype tag start rest h after n e =
    let p = tag_parts datatype tag h in
    let takes = takes_tag tag (tag_name tag p.1) rest in
    let same : ◌≡◌ {A = LiteralParts} (record { lexical = text; datatype = datatype; tag = Some tag }) (tagged text tag) =
    λ i. record { lexical = text; datatype = p.0 i; tag = Some (sym (lower_stays tag p.2) i) } in
    inr (inl (text, tag, after, n, (after, ([], tt, refl), subst (λ (t : List ℕ). Takes IsTag t tag (32 ∷ rest)) (sym e) takes), same))

after_datatype : (text datatype start rest : List ℕ) → is_iri datatype ≡ true → After text datatype None start rest
after_datatype text datatype start rest h after n e = by (pointwise nat_eq datatype xsd_string) refl e
  where
    by : (b : Bool) → pointwise nat_eq datatype xsd_string ≡ b → after ≡ chars (if b then [] else codes "^^<" ++ datatype ++ codes ">") ++ 32 ∷ rest
        → HasLiteral start (record { lexical = text; datatype = datatype; tag = None }) (32 ∷ rest)
    by true is f =
        let same : ◌≡◌ {A = LiteralParts} (record { lexical = text; datatype = datatype; tag = None }) (typed text xsd_string) =
        λ i. record { lexical = text; datatype = (bytes_decides datatype xsd_string).0 is i; tag = None } in
        inl (text, subst (λ (t : List ℕ). Next IsString start text t) (f ∙ ap (λ (t : List ℕ). t ++ 32 ∷ rest) chars-nil) n, same)
    by false is f =
        let more = chars (angled datatype) ++ 32 ∷ rest in
        let marks : after ≡ 94 ∷ 94 ∷ more =
        f ∙ ap (λ (t : List ℕ). t ++ 32 ∷ rest) (chars_cons 94 (94 ∷ angled datatype) (omega arith) ∙ ap (λ (t : List ℕ). 94 ∷ t) (chars_cons 94 (angled datatype) (omega arith))) in
        inr (inr (text, datatype, after, after, more, n, ([], tt, refl), marks, (more, ([], tt, refl), takes_iri datatype h (32 ∷ rest)), refl))

-- ---- terms

module _ (white : List ℕ) (is : AllByRecursion (λ c. is_white c ≡ true) white) (rest : List ℕ) where
  abbrev line : Term → List ℕ
  line t = white ++ (chars (term_text t) ++ 32 ∷ rest)

  pub predicate_back : (iri : List ℕ) → is_iri iri ≡ true → Next IsIriRef (line (Iri iri)) iri (32 ∷ rest)
  predicate_back iri h = (chars (term_text (Iri iri)) ++ 32 ∷ rest, (white, is, refl), takes_iri iri h (32 ∷ rest))

  pub node_back : (t : Term) → is_literal_term t ≡ false → is_term t ≡ true → HasNode (line t) (node_of t) (32 ∷ rest)
  node_back (Blank n) k h = (chars (term_text (Blank n)) ++ 32 ∷ rest, (white, is, refl), takes_label n (ltb-true n 18446744073709551616 h) rest)
  node_back (Iri iri) k h = predicate_back iri h
  node_back (Literal l) k h = absurd (true≢false k)

  literal_back : (l : LiteralParts) → is_literal l ≡ true → HasLiteral (line (Literal l)) l (32 ∷ rest)
  literal_back l h =
      let p = literal_parts l h in
      let after = chars (suffix_text l.datatype l.tag) ++ 32 ∷ rest in
      let parts : chars (literal_text l) ++ 32 ∷ rest ≡ chars (quoted l.lexical) ++ after =
      ap (λ (t : List ℕ). t ++ 32 ∷ rest) (chars-append (quoted l.lexical) (suffix_text l.datatype l.tag) (quoted_utf8 l.lexical p.0))
      ∙ append_assoc (chars (quoted l.lexical)) (chars (suffix_text l.datatype l.tag)) (32 ∷ rest) in
      let next : Next IsString (line (Literal l)) l.lexical after =
      (chars (quoted l.lexical) ++ after, (white, is, ap (λ (t : List ℕ). white ++ t) parts), takes_string l.lexical p.0 after) in
      by l.tag p.2 after next refl
    where
      by : (tag : Option (List ℕ)) → tag_fits l.datatype tag ≡ true → After l.lexical l.datatype tag (line (Literal l)) rest
      by None k = after_datatype l.lexical l.datatype (line (Literal l)) rest (literal_parts l h).1
      by (Some tag) k = after_tag l.lexical l.datatype tag (line (Literal l)) rest k

  pub object_back : (t : Term) → is_term t ≡ true → HasObject (line t) (object_of t) (32 ∷ rest)
  object_back (Blank n) h = node_back (Blank n) refl h
  object_back (Iri iri) h = node_back (Iri iri) refl h
  object_back (Literal l) h = literal_back l h
