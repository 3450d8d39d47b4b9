-- What names, verbs and literals tell changes no state.
use Rattle.std.proofs.Common.{◌≡◌, ap, ℕ, List, Option, Some, None}
use Rattle.std.proofs.lemmas.Option.{same_Some}
use Rattle.std.specs.Option.{option_map}
use Rattle.rdf_terms.specs.Literal.{LiteralParts}
use Rattle.rdf_grammar.specs.declared.tree.Literal.{Literal}
use Rattle.rdf_grammar.specs.declared.tree.Name.{Name}
use Rattle.rdf_grammar.specs.Literals.{literal_of}
use Rattle.rdf_grammar.specs.Prologue.{Prologue, iri_of}
use Rattle.rdf_turtle.specs.declared.tree.Verb.{Verb}
use Rattle.rdf_turtle.specs.declared.tree.Verb.TheVariants as v
use Rattle.rdf_turtle.specs.Meaning.{iri, verb, literal}
use Rattle.rdf_turtle.specs.ParserState.{ParserState, told}

pub told_same : {A : Type 0} (f : Prologue → Option A) (s u : ParserState) (a : A) → told f s ≡ Some (a, u) → s ≡ u
told_same {A = A} f s u a e = by (f s.prologue) e
  where
    by : (o : Option A) → option_map {U = A × ParserState} (λ x. (x, s)) o ≡ Some (a, u) → s ≡ u
    by None e = absurd (cc e)
    by (Some x) e = ap (λ p. p.1) (same_Some _ _ e)

pub iri_same : (name : Name) (s u : ParserState) (a : List ℕ) → iri name s ≡ Some (a, u) → s ≡ u
unfolding iri
iri_same name s u a e = told_same (iri_of name) s u a e

pub verb_same : (w : Verb) (s u : ParserState) (a : List ℕ) → verb w s ≡ Some (a, u) → s ≡ u
unfolding verb
verb_same (v.Name name) s u a e = iri_same name s u a e
verb_same v.Type s u a e = ap (λ p. p.1) (same_Some _ _ e)

pub literal_same : (w : Literal) (s u : ParserState) (a : LiteralParts) → literal w s ≡ Some (a, u) → s ≡ u
unfolding literal
literal_same w s u a e = told_same (literal_of w) s u a e
