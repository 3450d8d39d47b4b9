-- What a token says, and that it says one thing.
use Rattle.std.proofs.Common.{◌≡◌, ℕ, List, sym, ap, subst, ◌∙◌}
use Rattle.rdf_terms.specs.Quoted.{IsIriRef}
use Rattle.rdf_tokens.specs.declared.token.Kind.{Kind}
use Rattle.rdf_tokens.specs.declared.token.Kind.TheVariants as kind
use Rattle.rdf_tokens.specs.declared.token.Token.{Token}
use Rattle.rdf_tokens.specs.Forms.{HasForm}
use Rattle.rdf_tokens.specs.Tokens.{Stands, HasItsForm}
use Rattle.rdf_tokens.specs.Inside.TokenValues.{value_by}
use Rattle.rdf_tokens.specs.TokenTexts.{SaysBy, TokenSays, SaysText}
use Rattle.rdf_tokens.specs.Values.{local_part, local_value}
use Rattle.rdf_tokens.proofs.SliceLemmas.{token_stands, stands_once}
use Rattle.rdf_tokens.proofs.ValueIris.{iri_value_is}
use Rattle.rdf_tokens.proofs.ValueNames.{local_part_is, local_meaning, local_value_is}
use Rattle.rdf_tokens.proofs.ValueTexts.{text_value_is}

says_by : (k : Kind) (slice : List ℕ) → HasForm k slice → SaysText k → SaysBy k slice (value_by k slice)
says_by kind.Iri slice h s = subst (IsIriRef slice) (iri_value_is slice h.0 h.1) h.1
says_by kind.Text slice h s = (h.0, h.1, sym (text_value_is slice h.0 h.1))
says_by kind.Pname slice h s =
    let m = local_meaning h.1 h.4 in
    (h.0, h.1, m.0, h.2, h.3, m.1, ap local_value (ap local_part h.2 ∙ local_part_is h.0 h.1 h.3) ∙ sym (local_value_is h.1 m.0 m.1))
says_by other slice h s = absurd s

pub token_says : (text : List ℕ) (token : Token) (slice bytes : List ℕ) → HasItsForm text token → SaysText token.kind → Stands text token.start token.stop slice → bytes ≡ value_by token.kind slice
    → TokenSays text token bytes
token_says text token slice bytes h s stands e =
    let form = subst (HasForm token.kind) (stands_once text token.start token.stop h.1 slice (token_stands text token h) stands) h.6 in
    (slice, stands, subst (SaysBy token.kind slice) (sym e) (says_by token.kind slice form s))

-- the slice determines what is said
said_value : (k : Kind) (slice bytes : List ℕ) → SaysBy k slice bytes → bytes ≡ value_by k slice
said_value kind.Iri slice bytes h = iri_value_is slice bytes h
said_value kind.Text slice bytes h = h.2 ∙ text_value_is slice h.0 h.1
said_value kind.Pname slice bytes h =
    h.6 ∙ local_value_is h.1 h.2 h.5 ∙ ap local_value (sym (ap local_part h.3 ∙ local_part_is h.0 h.1 h.4))
said_value other slice bytes h = absurd h

pub one_token_text : (text : List ℕ) (token : Token) (a b : List ℕ) → TokenSays text token a → TokenSays text token b → a ≡ b
one_token_text text token a b h k =
    said_value token.kind h.0 a h.2 ∙ ap (λ (s : List ℕ). value_by token.kind s) (stands_once text token.start token.stop h.0 k.0 h.1 k.1) ∙ sym (said_value token.kind k.0 b k.2)
