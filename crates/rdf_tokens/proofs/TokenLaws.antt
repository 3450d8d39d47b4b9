-- Each text has a token list or a fault, and tokens have their forms.
use Rattle.std.proofs.Common.{◌≡◌, ◌⊎◌, ◌<◌, ◌≤◌, ◌-◌, ℕ, zero, suc, false, List, [], ◌∷◌, ◌++◌, length, Some, None, Result, Ok, Err, refl, sym, ap, ◌∙◌, inl, inr, append_assoc, arith}
use Rattle.std.specs.List.{AllByRecursion}
use Rattle.rdf_terms.specs.Reading.{byte_count}
use Rattle.rdf_terms.proofs.CallerLemmas.{cases_Option}
use Rattle.rdf_tokens.specs.declared.token.Kind.{Kind}
use Rattle.rdf_tokens.specs.declared.token.Token.{Token}
use Rattle.rdf_tokens.specs.Tokens.{IsToken, At, AreTokens, Tokenizes, HasItsForm}
use Rattle.rdf_tokens.specs.Inside.TokenReading.{skip_gap, token_at}
use Rattle.rdf_tokens.proofs.TokenLists.{Within, IsStart, same_place, at_start, says_end, says_fault, goes_on, gets_less}

-- ---- each text has a list, or a fault

abbrev Answered : List ℕ → Type 0
Answered text = (answer : Result (List Token) ℕ) × Tokenizes text answer

-- one more token, and less to come
abbrev More : List ℕ → List ℕ → Type 0
More text from = (tokens : List Token) × (after : List ℕ) × AreTokens text text tokens after × Within text after × (length after < length from)

by_token : (text : List ℕ) (tokens : List Token) (from : List ℕ) (c : ℕ) (others : List ℕ) → AreTokens text text tokens from → IsStart text from (c ∷ others)
    → (token_at (c ∷ others) ≡ None) ⊎ ((t : Kind × List ℕ) × (token_at (c ∷ others) ≡ Some t)) → Answered text ⊎ More text from
by_token text tokens from c others r s (inl none) =
    let size = byte_count text in
    let place : ℕ = size - byte_count (c ∷ others) in
    inl (Err place, says_fault text tokens from (c ∷ others) c others size place r s refl none refl refl)
by_token text tokens from c others r s (inr (t, read)) =
    let size = byte_count text in
    let made : Token = record { kind = t.0; start = size - byte_count (c ∷ others); stop = size - byte_count t.1 } in
    let n = goes_on text tokens (tokens ++ made ∷ []) from (c ∷ others) t.0 t.1 size made r s read refl refl refl in
    inr (tokens ++ made ∷ [], t.1, n.0, n.1, gets_less text from (c ∷ others) t.0 t.1 s read)

by_start : (text : List ℕ) (tokens : List Token) (from start : List ℕ) → AreTokens text text tokens from → Within text from → start ≡ skip_gap false from → Answered text ⊎ More text from
by_start text tokens from [] r w e = inl (Ok tokens, says_end text tokens from [] r e refl)
by_start text tokens from (c ∷ others) r w e =
    by_token text tokens from c others r (at_start text from (c ∷ others) c others w e refl) (cases_Option (token_at (c ∷ others)))

says_from : (n : ℕ) (text : List ℕ) (tokens : List Token) (from : List ℕ) → length from ≤ n → AreTokens text text tokens from → Within text from → Answered text
says_from zero text tokens from small r w =
    elim (by_start text tokens from (skip_gap false from) r w refl) [
      | inl done ↦ done
      | inr more ↦ absurd (omega (arith, more.4, small))
    ]
says_from (suc n) text tokens from small r w =
    elim (by_start text tokens from (skip_gap false from) r w refl) [
      | inl done ↦ done
      | inr more ↦ says_from n text more.0 more.1 (omega (arith, more.4, small)) more.2 more.3
    ]

pub some_token_list : (text : List ℕ) → (answer : Result (List Token) ℕ) × Tokenizes text answer
some_token_list text = says_from (length text) text [] text (omega arith) refl ([], refl)

-- ---- the list before its first token

pub first_state : (text : List ℕ) (items : List Token) (rest : List ℕ) → items ≡ [] → rest ≡ text → AreTokens text text items rest × Within text rest
first_state text items rest i e = rw (i, e) (refl, ([], refl))

-- ---- tokens have their forms

has_form : (text : List ℕ) (token : Token) (start after : List ℕ) → IsToken start token.kind after → At text token.start start → At text token.stop after → HasItsForm text token
has_form text token start after is p q =
    let whole : text ≡ p.0 ++ (is.slice ++ after) = p.1 ∙ ap (λ (t : List ℕ). p.0 ++ t) is.parts in
    let stop : At text (byte_count (p.0 ++ is.slice)) after = (p.0 ++ is.slice, whole ∙ sym (append_assoc p.0 is.slice after), refl) in
    (p.0, is.slice, after, whole, p.2, same_place text token.stop (byte_count (p.0 ++ is.slice)) after q stop, is.form)

pub runs_have_forms : (text from : List ℕ) (tokens : List Token) (rest : List ℕ) → AreTokens text from tokens rest → AllByRecursion (HasItsForm text) tokens
runs_have_forms text from [] rest r = tt
runs_have_forms text from (token ∷ tokens) rest r = (has_form text token r.0 r.1 r.3 r.4 r.5, runs_have_forms text r.1 tokens rest r.6)

pub tokens_have_forms : (text : List ℕ) (tokens : List Token) → Tokenizes text (Ok tokens) → AllByRecursion (HasItsForm text) tokens
tokens_have_forms text tokens h = runs_have_forms text text tokens h.0 h.1
