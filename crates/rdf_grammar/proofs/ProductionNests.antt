-- No bracket stands in the productions that Turtle and SPARQL share.
use Rattle.std.proofs.Common.{◌≡◌, ℕ, true, false, Option, Some}
use Rattle.rdf_grammar.specs.declared.bracket.Bracket.{Bracket}
use Rattle.rdf_grammar.specs.declared.bracket.Bracket.TheVariants.{Neither}
use Rattle.rdf_grammar.specs.declared.lexeme.Lexeme.{Lexeme}
use Rattle.rdf_grammar.specs.declared.tree.Name.TheVariants.{Full}
use Rattle.rdf_grammar.specs.declared.tree.Literal.TheVariants as l
use Rattle.rdf_grammar.specs.declared.word.Word.{Word}
use Rattle.rdf_grammar.specs.declared.word.Word.TheVariants as w
use Rattle.rdf_grammar.specs.Terminals.{Slice, Lexemes}
use Rattle.rdf_grammar.specs.Nesting.{open_behind}
use Rattle.rdf_grammar.specs.Derivations as grammar
use Rattle.rdf_grammar.specs.Derivations.{Derives}
use Rattle.rdf_grammar.specs.Productions as g
use Rattle.rdf_grammar.proofs.Nests.{Keeps, Below, after, then_keeps, pure_keeps, or_keeps, map_keeps}

-- no word is a bracket
module _ {T : Type 0} (word : T → Option Word) (bracket : T → Bracket) (plain : (t : T) (w : Word) → word t ≡ Some w → bracket t ≡ Neither) (limit b : ℕ) where
  abbrev Stays : {A : Type 0} → Derives (Lexeme T) A → Type 0
  Stays P = Keeps bracket limit b P P

  below_next : (t : Lexeme T) (w : Word) (us : Lexemes T) → word t.terminal ≡ Some w → Below bracket limit (open_behind bracket b t.terminal) us → Below bracket limit b us
  below_next t w us e h = rw (plain t.terminal w e) at h

  the_keeps : (w : Word) → Stays (g.the word w)
  unfolding Keeps
  the_keeps w ts x us d h = (d, below_next d.0 w us d.1 (after bracket limit b d.0 us (rw d.2 at h)))

  value_keeps : (w : Word) → Stays (g.value word w)
  unfolding Keeps
  value_keeps w ts x us d h = (d, below_next d.0 w us d.1 (after bracket limit b d.0 us (rw d.3 at h)))

  namespace_keeps : Stays (g.namespace word)
  unfolding Keeps
  namespace_keeps ts x us d h = (d, below_next d.0 w.Pname us d.1 (after bracket limit b d.0 us (rw d.4 at h)))

  either : {A : Type 0} (P Q : Derives (Lexeme T) A) → Stays P → Stays Q → Stays (grammar.◌∣◌ P Q)
  either P Q p q = or_keeps bracket limit b P P Q Q p q

  leaf_keeps : {A : Type 0} (f : Slice → A) (w : Word) → Stays (grammar.◌<$>◌ f (g.value word w))
  leaf_keeps f w = map_keeps bracket limit b f _ _ (value_keeps w)

  behind_keeps : {A : Type 0} (w : Word) (P : Derives (Lexeme T) A) → Stays P → Stays (grammar.◌>>◌ (g.the word w) P)
  behind_keeps w P p = then_keeps bracket limit b _ _ _ _ (the_keeps w) (λ _. p)

  pub iri_keeps : Stays (g.Iri word)
  iri_keeps = either _ _ (leaf_keeps Full w.Iri) (leaf_keeps g.prefixed w.Pname)

  suffix_keeps : (form : Slice) → Stays (g.Suffix word form)
  suffix_keeps form =
      either _ _ (leaf_keeps (l.Tagged form) w.Tag)
      (either _ _ (behind_keeps w.Caret _ (map_keeps bracket limit b (l.Typed form) _ _ iri_keeps)) (pure_keeps bracket limit b (l.Plain form)))

  text_keeps : Stays (g.RDFLiteral word)
  text_keeps = then_keeps bracket limit b _ _ _ _ (value_keeps w.Text) suffix_keeps

  number_keeps : Stays (g.NumericLiteral word)
  number_keeps = either _ _ (leaf_keeps l.Integer w.Integer) (either _ _ (leaf_keeps l.Decimal w.Decimal) (leaf_keeps l.Double w.Double))

  truth_keeps : Stays (g.BooleanLiteral word)
  truth_keeps = either _ _ (leaf_keeps (l.Boolean true) w.True) (leaf_keeps (l.Boolean false) w.False)

  pub literal_keeps : Stays (g.ALiteral word)
  literal_keeps = either _ _ text_keeps (either _ _ number_keeps truth_keeps)

  pub binding_keeps : Stays (g.Binding word)
  binding_keeps = then_keeps bracket limit b _ _ _ _ namespace_keeps (λ prefix. then_keeps bracket limit b _ _ _ _ (value_keeps w.Iri) (λ reference. pure_keeps bracket limit b (prefix, reference)))
