-- Which tokens the profile leaves out, by their forms and slices.
use Rattle.std.proofs.Common.{◌≡◌, ℕ, Bool, true, false, List, refl, sym, ◌∙◌, ap}
use Rattle.std.specs.Str.{encode_utf8_all}
use Rattle.rdf_tokens.specs.declared.token.Kind.{Kind}
use Rattle.rdf_tokens.specs.declared.token.Kind.TheVariants.{Word}
use Rattle.rdf_tokens.specs.declared.token.Token.{Token}
use Rattle.rdf_tokens.specs.Tokens.{Stands}
use Rattle.rdf_tokens.proofs.CallerLemmas.{stands_once}
use Rattle.sparql_terminals.specs.Profile.{is_outside, is_left_out, IsOutside}

only_words : (kind : Kind) (slice : List ℕ) → is_left_out kind slice ≡ true → kind ≡ Word
only_words Word slice h = refl
only_words _ slice h = absurd (cc)

word_left_out : (kind : Kind) (slice : List ℕ) (b : Bool) → kind ≡ Word → is_left_out kind slice ≡ b → is_outside (encode_utf8_all slice) ≡ b
word_left_out kind slice b e h = rw e at h

pub left_out_is : (text : List ℕ) (token : Token) (slice : List ℕ) → Stands text token.start token.stop slice → is_left_out token.kind slice ≡ true → IsOutside text token
left_out_is text token slice s h =
    let word = only_words token.kind slice h in
    (word, (slice, s, word_left_out token.kind slice true word h))

pub kept_is : (text : List ℕ) (token : Token) (slice : List ℕ) → Stands text token.start token.stop slice → is_left_out token.kind slice ≡ false → IsOutside text token → ⊥
kept_is text token slice s h o =
    let same = stands_once text token.start token.stop slice o.1.0 s o.1.1 in
    let e : false ≡ true = sym (word_left_out token.kind slice false o.0 h) ∙ ap (λ t. is_outside (encode_utf8_all t)) same ∙ o.1.2 in
    absurd (cc)
