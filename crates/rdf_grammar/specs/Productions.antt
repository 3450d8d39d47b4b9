-- The productions that Turtle and SPARQL share, as they are written (Turtle 1.1, section 6.5; SPARQL 1.1 Query, section 19.8; by the
-- numbers of their rules), with no look at the next lexeme.
use Rattle.std.specs.Prelude.{◌≡◌, true, false, [], ◌∷◌, Option, Some}
use Rattle.rdf_tokens.specs.Values.{prefix_part, local_part}
use Rattle.rdf_grammar.specs.declared.lexeme.Lexeme.{Lexeme}
use Rattle.rdf_grammar.specs.declared.tree.Name.{Name}
use Rattle.rdf_grammar.specs.declared.tree.Name.TheVariants.{Full, Prefixed}
use Rattle.rdf_grammar.specs.declared.tree.Literal.{Literal}
use Rattle.rdf_grammar.specs.declared.tree.Literal.TheVariants as l
use Rattle.rdf_grammar.specs.declared.word.Word.{Word}
use Rattle.rdf_grammar.specs.declared.word.Word.TheVariants as w
use Rattle.rdf_grammar.specs.Derivations.{Derives, ◌>>=◌, ◌>>◌, ◌<$>◌, ◌∣◌, pure}
use Rattle.rdf_grammar.specs.Terminals.{Slice}

-- a prefix and a local part
abbrev pub prefixed : Slice → Name
prefixed text = Prefixed (prefix_part text) (local_part text)

-- word tells the word that a terminal is, if it is one
module _ {T : Type 0} (word : T → Option Word) where
  -- a lexeme of this word
  abbrev pub the : Word → Derives (Lexeme T) (Unit {0})
  the w ts v us = (t : Lexeme T) × (word t.terminal ≡ Some w) × (ts ≡ t ∷ us)

  -- a lexeme of this word, with its characters
  abbrev pub value : Word → Derives (Lexeme T) Slice
  value w ts v us = (t : Lexeme T) × (word t.terminal ≡ Some w) × (t.text ≡ v) × (ts ≡ t ∷ us)

  -- PNAME_NS (Turtle 139s, SPARQL 140): a prefixed name of which the local part is empty, with its prefix
  abbrev pub namespace : Derives (Lexeme T) Slice
  namespace ts v us =
      (t : Lexeme T) × (word t.terminal ≡ Some w.Pname) × (local_part t.text ≡ []) × (prefix_part t.text ≡ v) × (ts ≡ t ∷ us)

  -- iri = IRIREF | PrefixedName (Turtle 135s, SPARQL 136)
  abbrev pub Iri : Derives (Lexeme T) Name
  Iri = (Full <$> value w.Iri) ∣ (prefixed <$> value w.Pname)

  -- ( LANGTAG | "^^" iri )?, behind a String
  abbrev pub Suffix : Slice → Derives (Lexeme T) Literal
  Suffix form = (l.Tagged form <$> value w.Tag) ∣ (the w.Caret >> l.Typed form <$> Iri) ∣ pure (l.Plain form)

  -- RDFLiteral = String ( LANGTAG | "^^" iri )? (Turtle 128s, SPARQL 129)
  abbrev pub RDFLiteral : Derives (Lexeme T) Literal
  RDFLiteral = value w.Text >>= Suffix

  -- NumericLiteral = INTEGER | DECIMAL | DOUBLE, the sign a part of the number (Turtle 16, SPARQL 130 to 133)
  abbrev pub NumericLiteral : Derives (Lexeme T) Literal
  NumericLiteral = (l.Integer <$> value w.Integer) ∣ (l.Decimal <$> value w.Decimal) ∣ (l.Double <$> value w.Double)

  -- BooleanLiteral = "true" | "false" (Turtle 133s, SPARQL 134)
  abbrev pub BooleanLiteral : Derives (Lexeme T) Literal
  BooleanLiteral = (l.Boolean true <$> value w.True) ∣ (l.Boolean false <$> value w.False)

  -- literal = RDFLiteral | NumericLiteral | BooleanLiteral (Turtle 13; in SPARQL parts of 109)
  abbrev pub ALiteral : Derives (Lexeme T) Literal
  ALiteral = RDFLiteral ∣ NumericLiteral ∣ BooleanLiteral

  -- PNAME_NS IRIREF, in the declaration of a prefix (Turtle 4 and 6s, SPARQL 6)
  abbrev pub Binding : Derives (Lexeme T) (Slice × Slice)
  Binding = do
    prefix ← namespace
    reference ← value w.Iri
    pure (prefix, reference)
