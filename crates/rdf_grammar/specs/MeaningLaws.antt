-- What names and literals stand for, from their tokens on: the tables of the standards (Turtle 1.1, sections 2.4, 2.5, 6.3 and 6.5; SPARQL 1.1
-- Query, sections 4.1.1 and 4.1.2).
use Rattle.std.specs.Prelude.{◌≡◌, ℕ, true, List, [], ◌∷◌, ◌++◌, codes, Option, Some, None}
use Rattle.std.specs.Map.{lookup}
use Rattle.std.specs.Str.{encode_utf8_all}
use Rattle.rdf_terms.specs.Literal.{LiteralParts, is_tag, tagged, xsd_string}
use Rattle.rdf_terms.specs.Quoted.{IsIriRef}
use Rattle.rdf_terms.specs.Resolution.{Means}
use Rattle.rdf_terms.specs.Vocabulary.{xsd_integer, xsd_decimal, xsd_double, xsd_boolean}
use Rattle.rdf_tokens.specs.Forms.{IsText, IsPrefix}
use Rattle.rdf_tokens.specs.Values.{LocalMeans}
use Rattle.rdf_grammar.specs.Keys.{key_of, same_key}
use Rattle.rdf_grammar.specs.Literals.{literal_of}
use Rattle.rdf_grammar.specs.Productions.{Iri, ALiteral}
use Rattle.rdf_grammar.specs.Prologue.{Prologue, declares, iri_of, moves_base}
use Rattle.rdf_grammar.specs.Terminals.{Lexemes}
use Rattle.rdf_grammar.specs.declared.lexeme.Lexeme.{Lexeme}
use Rattle.rdf_grammar.specs.declared.tree.Literal.{Literal}
use Rattle.rdf_grammar.specs.declared.tree.Name.{Name}
use Rattle.rdf_grammar.specs.declared.word.Word.{Word}
use Rattle.rdf_grammar.specs.declared.word.Word.TheVariants as w

-- a literal without a tag
abbrev pub typed : List ℕ → List ℕ → LiteralParts
typed lexical datatype = record { lexical = lexical; datatype = datatype; tag = None }

-- word tells the word that a terminal is, if it is one
module _ {T : Type 0} (word : T → Option Word) where
  -- a lexeme of this word, with these characters
  abbrev pub Is : Word → List ℕ → Lexeme T → Type 0
  Is kind text t = (word t.terminal ≡ Some kind) × (t.text ≡ text)

  -- the lexemes are a name, which has this IRI
  abbrev pub HasIri : Prologue → Lexemes T → List ℕ → Type 0
  HasIri p ts iri = (name : Name) × Iri word ts name [] × (iri_of name p ≡ Some iri)

  -- the lexemes are a literal, which stands for this one
  abbrev pub StandsFor : Prologue → Lexemes T → LiteralParts → Type 0
  StandsFor p ts value = (x : Literal) × ALiteral word ts x [] × (literal_of x p ≡ Some value)

  pub record NameTable : Type 0 where
    -- between `<` and `>` a reference, which means what it does against the base in force
    pub reference : (p : Prologue) (t : Lexeme T) (slice text iri : List ℕ) →
        Is w.Iri slice t → IsIriRef slice text → Means p.base text iri → HasIri p (t ∷ []) iri
    -- what the prefix stands for, and behind it what the local part does: its characters, without the backslashes of its escapes
    pub prefixed : (p : Prologue) (t : Lexeme T) (prefix local cs iri : List ℕ) →
        Is w.Pname (prefix ++ 58 ∷ local) t → IsPrefix prefix → LocalMeans local cs → lookup (same_key (key_of prefix)) p.prefixes ≡ Some iri →
        HasIri p (t ∷ []) (iri ++ encode_utf8_all cs)

  pub record LiteralTable : Type 0 where
    -- a string alone is an xsd:string
    pub string : (p : Prologue) (t : Lexeme T) (slice cs : List ℕ) → Is w.Text slice t → IsText slice cs →
        StandsFor p (t ∷ []) (typed (encode_utf8_all cs) xsd_string)
    -- with a tag behind it it is an rdf:langString of this tag
    pub tagged_string : (p : Prologue) (t u : Lexeme T) (slice cs tag : List ℕ) → Is w.Text slice t → IsText slice cs → Is w.Tag (64 ∷ tag) u →
        is_tag (encode_utf8_all tag) ≡ true → StandsFor p (t ∷ u ∷ []) (tagged (encode_utf8_all cs) (encode_utf8_all tag))
    -- with `^^` and a name behind it it has the name's IRI for its datatype
    pub typed_string : (p : Prologue) (t caret : Lexeme T) (name : Lexemes T) (slice cs iri : List ℕ) →
        Is w.Text slice t → IsText slice cs → word caret.terminal ≡ Some w.Caret → HasIri p name iri →
        StandsFor p (t ∷ caret ∷ name) (typed (encode_utf8_all cs) iri)
    -- numbers keep the characters that they are written with
    pub integer : (p : Prologue) (t : Lexeme T) (number : List ℕ) → Is w.Integer number t → StandsFor p (t ∷ []) (typed (encode_utf8_all number) xsd_integer)
    pub decimal : (p : Prologue) (t : Lexeme T) (number : List ℕ) → Is w.Decimal number t → StandsFor p (t ∷ []) (typed (encode_utf8_all number) xsd_decimal)
    pub double : (p : Prologue) (t : Lexeme T) (number : List ℕ) → Is w.Double number t → StandsFor p (t ∷ []) (typed (encode_utf8_all number) xsd_double)
    -- in whichever case SPARQL has the word
    pub truth : (p : Prologue) (t : Lexeme T) → word t.terminal ≡ Some w.True → StandsFor p (t ∷ []) (typed (codes "true") xsd_boolean)
    pub falsity : (p : Prologue) (t : Lexeme T) → word t.terminal ≡ Some w.False → StandsFor p (t ∷ []) (typed (codes "false") xsd_boolean)

-- A base is in force from its declaration on, and the prefixes stand for what they did; a declaration of a prefix leaves the base.
pub record BaseTable : Type 0 where
  pub in_force : (iri : List ℕ) (p : Prologue) → (moves_base iri p).base ≡ Some iri
  pub prefixes : (iri : List ℕ) (p : Prologue) → (moves_base iri p).prefixes ≡ p.prefixes
  pub stays : (prefix iri : List ℕ) (p : Prologue) → (declares prefix iri p).base ≡ p.base
