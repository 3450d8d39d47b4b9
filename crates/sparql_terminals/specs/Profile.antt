-- The words of SPARQL that this profile leaves out.
use Rattle.std.specs.Prelude.{◌≡◌, ℕ, Bool, true, false, List, [], ◌∷◌, Some, codes, take}
use Rattle.std.specs.List.{AllByRecursion, list_any, slice_get}
use Rattle.std.specs.Str.{encode_utf8_all}
use Rattle.rdf_tokens.specs.declared.token.Kind.{Kind}
use Rattle.rdf_tokens.specs.declared.token.Kind.TheVariants.{Word}
use Rattle.rdf_tokens.specs.declared.token.Token.{Token}
use Rattle.rdf_tokens.specs.Tokens.{Stands}
use Rattle.sparql_terminals.specs.Terminals.{is_word}

-- in lower case
abbrev pub outside_words : List (List ℕ)
outside_words =
    codes "service" ∷ codes "load" ∷ codes "into" ∷ codes "using" ∷ codes "from" ∷ codes "group" ∷ codes "by"
    ∷ codes "having" ∷ codes "order" ∷ codes "limit" ∷ codes "offset" ∷ codes "reduced" ∷ codes "construct"
    ∷ codes "describe" ∷ codes "bind" ∷ codes "values" ∷ codes "undef" ∷ codes "exists" ∷ codes "not" ∷ codes "in"
    ∷ codes "as" ∷ codes "count" ∷ codes "sum" ∷ codes "min" ∷ codes "max" ∷ codes "avg"
    ∷ codes "sample" ∷ codes "group_concat" ∷ codes "separator" ∷ codes "regex" ∷ codes "langmatches"
    ∷ codes "replace" ∷ codes "coalesce" ∷ codes "if" ∷ codes "strlen" ∷ codes "substr" ∷ codes "ucase"
    ∷ codes "lcase" ∷ codes "contains" ∷ codes "strstarts" ∷ codes "strends" ∷ codes "concat" ∷ codes "abs"
    ∷ codes "ceil" ∷ codes "floor" ∷ codes "round" ∷ codes "rand" ∷ codes "now" ∷ codes "iri" ∷ codes "uri"
    ∷ codes "bnode" ∷ codes "strdt" ∷ codes "strlang" ∷ codes "isnumeric" ∷ []

-- whether UTF-8 is one of them, in any case
abbrev pub is_outside : List ℕ → Bool
is_outside text = list_any (λ word. is_word word text) outside_words

-- whether a token of that form, by its slice, is one of them
abbrev pub is_left_out : Kind → List ℕ → Bool
is_left_out Word slice = is_outside (encode_utf8_all slice)
is_left_out _ slice = false

-- the token is a word, and one of them
abbrev pub IsOutside : List ℕ → Token → Type 0
IsOutside text token =
    (token.kind ≡ Word)
    × ((slice : List ℕ) × Stands text token.start token.stop slice × (is_outside (encode_utf8_all slice) ≡ true))

-- none of the tokens is one of them
abbrev pub AreInside : List ℕ → List Token → Type 0
AreInside text tokens = AllByRecursion (λ token. ¬ (IsOutside text token)) tokens

-- the token at this place is one of them, and none before it
abbrev pub IsFirstOutside : List ℕ → List Token → ℕ → Type 0
IsFirstOutside text tokens place =
    ((token : Token) × (slice_get tokens place ≡ Some token) × IsOutside text token) × AreInside text (take place tokens)
