-- That values are what the forms of slices say.
use Rattle.std.specs.Prelude.{◌≡◌, ℕ, false, IsTrue, List, ◌∷◌, ◌++◌}
use Rattle.std.specs.Str.{encode_utf8_all}
use Rattle.rdf_terms.specs.Iri.{is_iri, has_forbidden}
use Rattle.rdf_terms.specs.Quoted.{IsIriRef}
use Rattle.rdf_tokens.specs.Forms.{IsText, IsPrefix, IsLocal}
use Rattle.rdf_tokens.specs.Values.{iri_value, text_value, prefix_part, local_part, local_value, LocalMeans}

-- an IRIREF says its value, and nothing else
abbrev pub IrisHaveValues : Type 0
IrisHaveValues = (slice text : List ℕ) → IsIriRef slice text → text ≡ iri_value slice

-- no value of an IRI holds a character that is forbidden in IRIs
abbrev pub IriValuesAreAllowed : Type 0
IriValuesAreAllowed = (slice : List ℕ) → has_forbidden (iri_value slice) ≡ false

-- a string stands for its value, and nothing else
abbrev pub TextsHaveValues : Type 0
TextsHaveValues = (slice cs : List ℕ) → IsText slice cs → encode_utf8_all cs ≡ text_value slice

-- the prefix and the local part of a prefixed name are its two parts
abbrev pub PrefixesAreParts : Type 0
PrefixesAreParts = (prefix name : List ℕ) → IsPrefix prefix → prefix_part (prefix ++ 58 ∷ name) ≡ prefix

abbrev pub LocalsAreParts : Type 0
LocalsAreParts = (prefix name : List ℕ) → IsPrefix prefix → local_part (prefix ++ 58 ∷ name) ≡ name

-- a local part stands for something, unit by unit
abbrev pub LocalsHaveMeanings : Type 0
LocalsHaveMeanings = (name : List ℕ) → IsLocal name → (cs : List ℕ) × LocalMeans name cs

-- and for its value alone
abbrev pub LocalsHaveValues : Type 0
LocalsHaveValues = (name cs : List ℕ) → LocalMeans name cs → encode_utf8_all cs ≡ local_value name

-- an IRI with the value of a local part behind it is an IRI
abbrev pub PnamesAreIris : Type 0
PnamesAreIris = (iri name : List ℕ) → IsTrue (is_iri iri) → IsLocal name → IsTrue (is_iri (iri ++ local_value name))
