-- Lines of triples say these triples.
use Rattle.std.proofs.Common.{◌≡◌, ◌∙◌, inl, inr, ap, refl, sym, subst, arith, true≢false, ℕ, ◌+◌, ◌<◌, ◌≤◌, ◌^◌, true, false, List, [], ◌∷◌, ◌++◌, codes, drop, length, length-append, append_assoc, map, Some, None, Ok, Err}
use Rattle.std.specs.Prelude.{IsTrue, Result, OnErr}
use Rattle.std.specs.List.{AllByRecursion}
use Rattle.std.specs.Str.{all_ascii_digits}
use Rattle.std.specs.Str.Parse.{digits_value}
use Rattle.std.proofs.lemmas.Bool.{ltb-true}
use Rattle.std.proofs.lemmas.Fmt.{digits_value-decimal}
use Rattle.std.proofs.lemmas.Str.Parse.{IsNumeralModel, numerals_by_value, tells_all_ascii_digits}
use Rattle.rdf_terms.specs.Iri.{is_iri}
use Rattle.rdf_terms.specs.Quad.{QuadParts, is_quad}
use Rattle.rdf_terms.specs.Term.{is_term, is_literal_term, is_iri_term}
use Rattle.rdf_terms.specs.declared.term.Term.{Term}
use Rattle.rdf_terms.specs.declared.term.Term.TheVariants as term
use Rattle.rdf_terms.proofs.CallerLemmas.{quad_tests}
use Rattle.rdf_lines.specs.Document.{ReadsAll}
use Rattle.rdf_lines.specs.QuadText.{quad_text}
use Rattle.rdf_lines.specs.RoundTrip.{label_of, node_of, predicate_of, object_of, statement_of}
use Rattle.rdf_lines.specs.declared.format.LineFormat.TheVariants.{NQuads}
use Rattle.rdf_lines.specs.declared.statement.Statement.{Statement}
use Rattle.rdf_lines.proofs.CallerLemmas.{one_answer, some_answer, reads_all}
use Rattle.rdf_turtle.specs.ParserState.{triple}
use Rattle.rdf_turtle.specs.WrittenLaws.{IsDefaultQuad}
use Rattle.rdf_streams.specs.Conversion.Converts.{lines_of}
use Rattle.rdf_streams.specs.Inside.TripleLines.{term_of, object_term, triple_said, before, statements_in, triples_in, AreHeldLines, AreLinesOfTriples}
use Rattle.rdf_streams.specs.Inside.Parts.{Holds, HoldsOn, Keeps, text_of}
use Rattle.rdf_streams.specs.declared.conversion.held.Held.{Held}
use Rattle.rdf_streams.proofs.ConversionLemmas.Converts.{lines_of-push}

-- ---- the statements of lines

reads_statements : (n : ℕ) (ls : List (List ℕ)) (ss : List Statement) → ReadsAll NQuads n ls ss None → statements_in ls ≡ ss
reads_statements n [] ss h = sym h.0
reads_statements n (l ∷ ls) ss (inl (says, more)) =
    ap (λ a. before a (statements_in ls)) (one_answer NQuads l (some_answer NQuads l).0 (Ok None) (some_answer NQuads l).1 says) ∙ reads_statements (n + 1) ls ss more
reads_statements n (l ∷ ls) ss (inr (inl (s, others, says, e, more))) =
    ap (λ a. before a (statements_in ls)) (one_answer NQuads l (some_answer NQuads l).0 (Ok (Some s)) (some_answer NQuads l).1 says)
    ∙ ap (λ (t : List Statement). s ∷ t) (reads_statements (n + 1) ls others more) ∙ sym e
reads_statements n (l ∷ ls) ss (inr (inr (kind, says, e, fault))) = absurd cc

-- ---- the triple of a statement

own : IsNumeralModel (λ ds. all_ascii_digits ds ≡ true) (digits_value 10)
own = numerals_by_value _ tells_all_ascii_digits

label_back : (n : ℕ) → n < 2 ^ 64 → digits_value 10 (drop 1 (label_of n)) ≡ n
label_back n h = digits_value-decimal own n h

node_back : (t : Term) → is_literal_term t ≡ false → is_term t ≡ true → term_of (node_of t) ≡ t
node_back (term.Blank n) k h = ap (λ (i : ℕ). term.Blank i) (label_back n (ltb-true n 18446744073709551616 h))
node_back (term.Iri iri) k h = refl
node_back (term.Literal l) k h = absurd (true≢false k)

predicate_back : (t : Term) → is_iri_term t ≡ true → term.Iri (predicate_of t) ≡ t
predicate_back (term.Iri iri) k = refl
predicate_back (term.Blank n) k = absurd (true≢false (sym k))
predicate_back (term.Literal l) k = absurd (true≢false (sym k))

object_back : (t : Term) → is_term t ≡ true → object_term (object_of t) ≡ t
object_back (term.Blank n) h = node_back (term.Blank n) refl h
object_back (term.Iri iri) h = refl
object_back (term.Literal l) h = refl

triple_back : (q : QuadParts) → IsDefaultQuad q → triple_said (statement_of q) ≡ q
triple_back q h =
    let t = quad_tests q h.0 in
    λ i. record {
      graph = sym h.1 i;
      subject = node_back q.subject t.subject_kind t.subject i;
      predicate = predicate_back q.predicate t.predicate_kind i;
      object = object_back q.object t.object i;
    }

all_back : (quads : List QuadParts) → AllByRecursion IsDefaultQuad quads → map triple_said (map statement_of quads) ≡ quads
all_back [] h = refl
all_back (q ∷ quads) h = λ i. triple_back q h.0 i ∷ all_back quads h.1 i

-- ---- the triples of a text

well_formed : (quads : List QuadParts) → AllByRecursion IsDefaultQuad quads → AllByRecursion (λ q. is_quad q ≡ true) quads
well_formed [] h = tt
well_formed (q ∷ quads) h = (h.0.0, well_formed quads h.1)

triples_back : (quads : List QuadParts) → AllByRecursion IsDefaultQuad quads → triples_in (lines_of quads) ≡ quads
unfolding triples_in
triples_back quads h = ap (map triple_said) (reads_statements 1 _ (map statement_of quads) (reads_all 1 quads (well_formed quads h))) ∙ all_back quads h

lines_are : (quads : List QuadParts) (text : List ℕ) → AllByRecursion IsDefaultQuad quads → text ≡ lines_of quads → (triples_in text ≡ quads) × AreLinesOfTriples text
lines_are quads text h is =
    let back : triples_in text ≡ quads = ap triples_in is ∙ triples_back quads h in (
      back,
      record { are = is ∙ ap lines_of (sym back); well_formed = subst (AllByRecursion IsDefaultQuad) (sym back) h },
    )

pub no_lines : (text : List ℕ) → text ≡ [] → (triples_in text ≡ []) × AreLinesOfTriples text
no_lines text is = lines_are [] text tt is

all_with : (quads : List QuadParts) (q : QuadParts) → AllByRecursion IsDefaultQuad quads → IsDefaultQuad q → AllByRecursion IsDefaultQuad (quads ++ q ∷ [])
all_with [] q h k = (k, tt)
all_with (p ∷ quads) q h k = (h.0, all_with quads q h.1 k)

-- one line more
pub line_behind : (text more : List ℕ) (q : QuadParts) → AreLinesOfTriples text → IsDefaultQuad q → more ≡ text ++ quad_text q
    → (triples_in more ≡ triples_in text ++ q ∷ []) × AreLinesOfTriples more
line_behind text more q lines h is =
    let quads = triples_in text in
    lines_are (quads ++ q ∷ []) more (all_with quads q lines.well_formed h) (is ∙ ap (λ (t : List ℕ). t ++ quad_text q) lines.are ∙ sym (lines_of-push quads q))

-- a triple that is taken
pub triple_is_one : (subject object : Term) (predicate : List ℕ) → is_literal_term subject ≡ false → IsTrue (is_term subject) → IsTrue (is_iri predicate) → IsTrue (is_term object)
    → IsDefaultQuad (triple subject predicate object)
triple_is_one subject object predicate kind s p o = (rw (kind, s, p, o) refl, refl)

-- nothing is held
pub no_triples : (held : Held) → Holds held → text_of held ≡ [] → (triples_in (text_of held) ≡ []) × AreHeldLines held 0
no_triples held holds is =
    let none = no_lines (text_of held) is in (none.0, record { holds = holds; lines = none.1; counted = sym (ap length none.0); few = omega arith })

-- a triple that is taken
module _ (old new : Held) (count : ℕ) (q : QuadParts) (lines : AreHeldLines old count) (h : IsDefaultQuad q) (on : HoldsOn old new (quad_text q)) where
  behind : (triples_in (text_of new) ≡ triples_in (text_of old) ++ q ∷ []) × AreLinesOfTriples (text_of new)
  behind = line_behind (text_of old) (text_of new) q lines.lines h (on.text lines.holds)

  pub lines_on : AreHeldLines new (count + 1)
  lines_on = record {
    holds = on.holds lines.holds;
    lines = behind.1;
    counted = (let n : length (triples_in (text_of new)) ≡ length (triples_in (text_of old) ++ q ∷ []) = ap length behind.0 in let c = lines.counted in omega (arith, n, c, length-append (triples_in (text_of old)) (q ∷ [])));
    few = (let few = lines.few in let parts = on.parts in omega (arith, few, parts));
  }

  pub triples_on : (taken : List QuadParts) → triples_in (text_of old) ≡ taken → triples_in (text_of new) ≡ taken ++ q ∷ []
  triples_on taken is = behind.0 ∙ ap (λ (t : List QuadParts). t ++ q ∷ []) is

-- and one that isn't
module _ (old new : Held) (count : ℕ) (lines : AreHeldLines old count) (keeps : Keeps old new) where
  pub lines_kept : AreHeldLines new count
  lines_kept = record {
    holds = keeps.holds lines.holds;
    lines = subst AreLinesOfTriples (sym (keeps.text lines.holds)) lines.lines;
    counted = lines.counted ∙ sym (ap (λ (t : List ℕ). length (triples_in t)) (keeps.text lines.holds));
    few = (let few = lines.few in let parts = keeps.parts in omega (arith, few, parts));
  }

  pub triples_kept : (taken : List QuadParts) → triples_in (text_of old) ≡ taken → triples_in (text_of new) ≡ taken
  triples_kept taken is = ap triples_in (keeps.text lines.holds) ∙ is

pub on_err : {E A : Type 0} (r : Result (Unit {0}) E) → A → OnErr r A
on_err (Ok u) a = tt
on_err (Err e) a = a

pub few_held : (held : Held) (count : ℕ) → AreHeldLines held count → length (triples_in (text_of held)) ≤ length held.parts.items
few_held held count lines = let c = lines.counted in let few = lines.few in omega (arith, c, few)

pub front_written : (old a b c d s p : List ℕ) → a ≡ old ++ s → b ≡ a ++ 32 ∷ 60 ∷ [] → c ≡ b ++ p → d ≡ c ++ 62 ∷ 32 ∷ [] → d ≡ old ++ (((s ++ 32 ∷ 60 ∷ []) ++ p) ++ 62 ∷ 32 ∷ [])
front_written old a b c d s p h1 h2 h3 h4 =
    let all : d ≡ (((old ++ s) ++ 32 ∷ 60 ∷ []) ++ p) ++ 62 ∷ 32 ∷ [] = cc in
    all ∙ simp append_assoc

-- a line by its pieces
pub written : (old a b c d f s p o : List ℕ) → a ≡ old ++ s → b ≡ a ++ 32 ∷ 60 ∷ [] → c ≡ b ++ p → d ≡ c ++ 62 ∷ 32 ∷ [] → f ≡ d ++ (o ++ 32 ∷ 46 ∷ 10 ∷ [])
    → f ≡ old ++ (s ++ codes " " ++ (codes "<" ++ p ++ codes ">") ++ codes " " ++ o ++ codes " " ++ [] ++ codes ".\n")
written old a b c d f s p o h1 h2 h3 h4 h5 =
    let all : f ≡ ((((old ++ s) ++ 32 ∷ 60 ∷ []) ++ p) ++ 62 ∷ 32 ∷ []) ++ (o ++ 32 ∷ 46 ∷ 10 ∷ []) = cc in
    all ∙ simp append_assoc
