-- The name of a variable is its text behind the first character.
use Rattle.std.proofs.Common.{◌≡◌, ◌∙◌, ap, sym, ℕ, List, [], ◌∷◌, ◌++◌, length, Option, Some, None}
use Rattle.std.specs.Prelude.{MatchOption}
use Rattle.std.specs.Char.{encode_utf8}
use Rattle.std.specs.Str.{chars, IsUtf8, encode_utf8_all}
use Rattle.rdf_grammar.proofs.CallerLemmas.{bytes_of}
use Rattle.rdf_terms.proofs.CallerLemmas.{chars_step}
use Rattle.sparql_queries.specs.Variables.{variable_name}

behind_first : (o : Option ℕ) (now rest : List ℕ) → MatchOption o ((now ≡ []) × (rest ≡ [])) (λ c. now ≡ c ∷ rest) → encode_utf8_all rest ≡ variable_name now
behind_first None now rest h = ap encode_utf8_all h.1 ∙ sym (ap variable_name h.0)
behind_first (Some c) now rest h = sym (ap variable_name h)

pub name_is : {C : Type 0} (text_of : C → List ℕ) (s t : C) (o : Option ℕ) (bs now name : List ℕ) → IsUtf8 bs → chars bs ≡ now → text_of s ≡ bs
    → MatchOption o ((length (text_of s) ≡ 0) × (t ≡ s)) (λ c. text_of s ≡ encode_utf8 c ++ text_of t) → IsUtf8 name → name ≡ text_of t → name ≡ variable_name now
name_is text_of s t o bs now name u is from h v same =
    bytes_of name (chars (text_of t)) v (ap chars same) ∙ behind_first o now (chars (text_of t)) (chars_step text_of s t o bs now u is from h)
