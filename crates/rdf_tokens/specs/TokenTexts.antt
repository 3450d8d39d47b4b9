-- What the tokens of a text say (Turtle 1.1, sections 6.3 to 6.5).
use Rattle.std.specs.Prelude.{◌≡◌, ℕ, List, ◌∷◌, ◌++◌}
use Rattle.std.specs.Str.{encode_utf8_all}
use Rattle.rdf_terms.specs.Quoted.{IsIriRef}
use Rattle.rdf_tokens.specs.declared.token.Kind.{Kind}
use Rattle.rdf_tokens.specs.declared.token.Kind.TheVariants as kind
use Rattle.rdf_tokens.specs.declared.token.Token.{Token}
use Rattle.rdf_tokens.specs.Forms.{IsText, IsPrefix}
use Rattle.rdf_tokens.specs.Tokens.{Stands}
use Rattle.rdf_tokens.specs.Values.{LocalMeans}

-- The slice of a token of that kind says these bytes: an IRIREF its reference, a string what it stands for, and a prefixed
-- name what its local part stands for. Other kinds say nothing.
abbrev pub SaysBy : Kind → List ℕ → List ℕ → Type 0
SaysBy kind.Iri slice bytes = IsIriRef slice bytes
SaysBy kind.Text slice bytes = (cs : List ℕ) × IsText slice cs × (bytes ≡ encode_utf8_all cs)
SaysBy kind.Pname slice bytes =
    (prefix name cs : List ℕ) × (slice ≡ prefix ++ 58 ∷ name) × IsPrefix prefix × LocalMeans name cs × (bytes ≡ encode_utf8_all cs)
SaysBy other slice bytes = ⊥

abbrev pub TokenSays : List ℕ → Token → List ℕ → Type 0
TokenSays text token bytes = (slice : List ℕ) × Stands text token.start token.stop slice × SaysBy token.kind slice bytes

-- the kinds that say something
abbrev pub SaysText : Kind → Type 0
SaysText kind.Iri = Unit {0}
SaysText kind.Text = Unit {0}
SaysText kind.Pname = Unit {0}
SaysText other = ⊥

-- ---- laws

-- a token of a text says one thing at most
abbrev pub OneTokenText : Type 0
OneTokenText = (text : List ℕ) (token : Token) (a b : List ℕ) → TokenSays text token a → TokenSays text token b → a ≡ b
