-- The productions that Turtle and SPARQL share, as functions that look at the next lexeme.
use Rattle.std.specs.Prelude.{Bool, true, false, Option, Some}
use Rattle.rdf_grammar.specs.declared.lexeme.Lexeme.{Lexeme}
use Rattle.rdf_grammar.specs.declared.tree.Name.{Name}
use Rattle.rdf_grammar.specs.declared.tree.Name.TheVariants.{Full}
use Rattle.rdf_grammar.specs.declared.tree.Literal.{Literal}
use Rattle.rdf_grammar.specs.declared.tree.Literal.TheVariants as l
use Rattle.rdf_grammar.specs.declared.word.Word.{Word}
use Rattle.rdf_grammar.specs.declared.word.Word.TheVariants as w
use Rattle.rdf_grammar.specs.Productions.{prefixed}
use Rattle.rdf_grammar.specs.Readings.{Reading, any}
use Rattle.rdf_grammar.specs.Steps.{◌>>=◌, ◌>>◌, ◌<$>◌, pure, none}
use Rattle.rdf_grammar.specs.Terminals.{Slice}
use Rattle.rdf_grammar.specs.Words.{peek, value, namespace}

-- behind a literal stands no tag and no "^^"
abbrev pub ends_literal : Option Word → Bool
ends_literal (Some w.Tag) = false
ends_literal (Some w.Caret) = false
ends_literal _ = true

-- the words that begin a literal
abbrev pub begins_literal : Option Word → Bool
begins_literal (Some w.Text) = true
begins_literal (Some w.Integer) = true
begins_literal (Some w.Decimal) = true
begins_literal (Some w.Double) = true
begins_literal (Some w.True) = true
begins_literal (Some w.False) = true
begins_literal _ = false

-- word tells the word that a terminal is, if it is one
module _ {T : Type 0} (word : T → Option Word) where
  -- iri = IRIREF | PrefixedName
  abbrev pub iri_by : Option Word → Reading (Lexeme T) Name
  iri_by (Some w.Iri) = Full <$> value word w.Iri
  iri_by (Some w.Pname) = prefixed <$> value word w.Pname
  iri_by _ = none

  unfoldable pub iri : Reading (Lexeme T) Name
  iri = peek word >>= iri_by

  -- ( LANGTAG | "^^" iri )?, behind a String
  abbrev pub suffix_by : Slice → Option Word → Reading (Lexeme T) Literal
  suffix_by form (Some w.Tag) = l.Tagged form <$> value word w.Tag
  suffix_by form (Some w.Caret) = any >> l.Typed form <$> iri
  suffix_by form _ = pure (l.Plain form)

  -- RDFLiteral = String ( LANGTAG | "^^" iri )?
  unfoldable pub text : Reading (Lexeme T) Literal
  text = do
    form ← value word w.Text
    next ← peek word
    suffix_by form next

  -- literal = RDFLiteral | NumericLiteral | BooleanLiteral
  abbrev pub literal_by : Option Word → Reading (Lexeme T) Literal
  literal_by (Some w.Integer) = l.Integer <$> value word w.Integer
  literal_by (Some w.Decimal) = l.Decimal <$> value word w.Decimal
  literal_by (Some w.Double) = l.Double <$> value word w.Double
  literal_by (Some w.True) = l.Boolean true <$> value word w.True
  literal_by (Some w.False) = l.Boolean false <$> value word w.False
  literal_by _ = text

  unfoldable pub literal : Reading (Lexeme T) Literal
  literal = peek word >>= literal_by

  -- PNAME_NS IRIREF
  unfoldable pub binding : Reading (Lexeme T) (Slice × Slice)
  binding = do
    prefix ← namespace word
    reference ← value word w.Iri
    pure (prefix, reference)
