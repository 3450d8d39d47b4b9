-- Why names and literals stand for nothing.
use Rattle.std.proofs.Common.{◌≡◌, ◌∙◌, ap, sym, ℕ, true, List, Option, None, true≢false}
use Rattle.std.specs.Option.{option_map}
use Rattle.rdf_terms.specs.Literal.{LiteralParts}
use Rattle.rdf_tokens.specs.Values.{iri_value, text_value}
use Rattle.rdf_grammar.proofs.ScopeReferences.{resolve_lacking}
use Rattle.rdf_grammar.specs.Literals.{ExplainsLiteral, known_literal, literal_of, untagged}
use Rattle.rdf_grammar.specs.Prologue.{Prologue, declared, iri_of, resolved}
use Rattle.rdf_grammar.specs.PrologueFaults.{Explains}
use Rattle.rdf_grammar.specs.declared.prologue.PrologueFault.TheVariants.{UnknownPrefix, Relative}
use Rattle.rdf_grammar.specs.declared.tree.Literal.{Literal}
use Rattle.rdf_grammar.specs.declared.tree.Literal.TheVariants as l
use Rattle.rdf_grammar.specs.declared.tree.Name.{Name}
use Rattle.rdf_grammar.specs.declared.tree.Name.TheVariants.{Full, Prefixed}

pub reference_lacking : (reference : List ℕ) (p : Prologue) (place : ℕ) → Explains p (Full reference) (Relative place) → resolved reference p ≡ None
unfolding resolved
reference_lacking reference p place h = resolve_lacking p.base (iri_value reference) h

pub name_lacking : (name : Name) (p : Prologue) (place : ℕ) → Explains p name (Relative place) → iri_of name p ≡ None
name_lacking (Full reference) p place h = reference_lacking reference p place h
name_lacking (Prefixed prefix local) p place h = absurd h

pub literal_lacking : (w : Literal) (p : Prologue) (place : ℕ) → ExplainsLiteral p w (Relative place) → literal_of w p ≡ None
unfolding literal_of
literal_lacking (l.Typed text name) p place h = ap (λ (o : Option (List ℕ)). option_map {U = LiteralParts} (untagged (text_value text)) o) (name_lacking name p place h)
literal_lacking (l.Plain text) p place h = absurd h
literal_lacking (l.Tagged text tag) p place h = absurd h
literal_lacking (l.Integer text) p place h = absurd h
literal_lacking (l.Decimal text) p place h = absurd h
literal_lacking (l.Double text) p place h = absurd h
literal_lacking (l.Boolean value word) p place h = absurd h

-- the prefix of its datatype is declared
pub literal_known : (w : Literal) (p : Prologue) (place : ℕ) → known_literal (declared p) w ≡ true → ExplainsLiteral p w (UnknownPrefix place) → ⊥
literal_known (l.Typed text name) p place known h = true≢false (sym known ∙ h)
literal_known (l.Plain text) p place known h = h
literal_known (l.Tagged text tag) p place known h = h
literal_known (l.Integer text) p place known h = h
literal_known (l.Decimal text) p place known h = h
literal_known (l.Double text) p place known h = h
literal_known (l.Boolean value word) p place known h = h
