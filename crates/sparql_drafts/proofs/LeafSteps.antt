-- What names, verbs and literals tell changes no drafting.
use Rattle.std.proofs.Common.{◌≡◌, ◌∙◌, ap, ℕ, List, Option, Some, None}
use Rattle.std.proofs.lemmas.Option.{same_Some}
use Rattle.std.specs.Option.{option_map}
use Rattle.rdf_terms.specs.Literal.{LiteralParts}
use Rattle.rdf_grammar.specs.declared.tree.Literal.{Literal}
use Rattle.rdf_grammar.specs.declared.tree.Name.{Name}
use Rattle.rdf_grammar.specs.Literals.{literal_of}
use Rattle.rdf_grammar.specs.Prologue.{Prologue, iri_of}
use Rattle.rdf_grammar.specs.Steps.{and_then}
use Rattle.sparql_grammar.specs.declared.tree.VarOrIri as written
use Rattle.sparql_grammar.specs.declared.tree.VarOrIri.TheVariants as n
use Rattle.sparql_grammar.specs.declared.tree.Verb.{Verb}
use Rattle.sparql_grammar.specs.declared.tree.Verb.TheVariants as v
use Rattle.sparql_drafts.specs.declared.draft.VarOrIri.{VarOrIri}
use Rattle.sparql_drafts.specs.declared.draft.VarOrIri.TheVariants as i
use Rattle.sparql_drafts.specs.Drafting.{Drafting, told}
use Rattle.sparql_drafts.specs.Meaning.{iri, verb, var_or_iri, literal}
use Rattle.rdf_grammar.proofs.CallerLemmas.{then_parts}

told_same : {A : Type 0} (f : Prologue → Option A) (s u : Drafting) (a : A) → told f s ≡ Some (a, u) → s ≡ u
told_same {A = A} f s u a e = by (f s.prologue) e
  where
    by : (o : Option A) → option_map {U = A × Drafting} (λ x. (x, s)) o ≡ Some (a, u) → s ≡ u
    by None e = absurd (cc e)
    by (Some x) e = ap (λ p. p.1) (same_Some _ _ e)

pub iri_same : (name : Name) (s u : Drafting) (a : List ℕ) → iri name s ≡ Some (a, u) → s ≡ u
unfolding iri
iri_same name s u a e = told_same (iri_of name) s u a e

-- a step behind an IRI
behind_iri_same : {A : Type 0} (name : Name) (f : List ℕ → A) (s u : Drafting) (a : A) → and_then (iri name s) (λ i z. Some (f i, z)) ≡ Some (a, u) → s ≡ u
behind_iri_same name f s u a e =
    let p = then_parts (iri name s) _ (a, u) e in
    iri_same name s p.1 p.0 p.2 ∙ ap (λ q. q.1) (same_Some _ _ p.3)

pub verb_same : (word : Verb) (s u : Drafting) (a : VarOrIri) → verb word s ≡ Some (a, u) → s ≡ u
unfolding verb
verb_same (v.Variable name) s u a e = ap (λ p. p.1) (same_Some _ _ e)
verb_same (v.Name name) s u a e = behind_iri_same name (λ z. i.Iri z) s u a e
verb_same v.Type s u a e = ap (λ p. p.1) (same_Some _ _ e)

pub var_or_iri_same : (word : written.VarOrIri) (s u : Drafting) (a : VarOrIri) → var_or_iri word s ≡ Some (a, u) → s ≡ u
unfolding var_or_iri
var_or_iri_same (n.Variable name) s u a e = ap (λ p. p.1) (same_Some _ _ e)
var_or_iri_same (n.Name name) s u a e = behind_iri_same name (λ z. i.Iri z) s u a e

pub literal_same : (w : Literal) (s u : Drafting) (a : LiteralParts) → literal w s ≡ Some (a, u) → s ≡ u
unfolding literal
literal_same w s u a e = told_same (literal_of w) s u a e
