-- The grammar has no use for a word that the profile leaves out.
use Rattle.std.proofs.Common.{◌≡◌, ℕ, Bool, true, false, cond, List, [], ◌∷◌, refl, sym, ◌∙◌, ap, inl, inr, true≢false}
use Rattle.std.proofs.lemmas.Bool.{and_parts, cases_Bool}
use Rattle.std.proofs.lemmas.Slice.Eq.{bytes_eq-Decides}
use Rattle.std.specs.Prelude.{◌&&◌, ◌||◌, codes}
use Rattle.std.specs.List.{list_all, list_any}
use Rattle.std.specs.Str.{bytes_eq, encode_utf8_all}
use Rattle.rdf_tokens.specs.declared.token.Kind.{Kind}
use Rattle.rdf_tokens.specs.declared.token.Token.{Token}
use Rattle.rdf_tokens.proofs.CallerLemmas.{stands_once}
use Rattle.sparql_terminals.specs.declared.terminal.Terminal.TheVariants as terminal
use Rattle.sparql_terminals.specs.Lexemes.{Lexeme, Lexemes, AreLexemes, IsLexeme}
use Rattle.sparql_terminals.specs.Profile.{AreInside, IsOutside, is_outside, outside_words}
use Rattle.sparql_terminals.specs.Terminals.{is_word, keyword_terminal, terminal_by, without_case, word_terminal}
use Rattle.sparql_terminals.specs.Useful.{AreUseful, is_other}

-- one of a list passes one test, and all pass another: one passes both
both : (p q : List ℕ → Bool) (xs : List (List ℕ)) → list_any p xs ≡ true → list_all q xs ≡ true → (x : List ℕ) × (p x ≡ true) × (q x ≡ true)
both p q [] h k = absurd (true≢false (sym h))
both p q (x ∷ xs) h k = elim (cases_Bool (q x)) [
  | inr fails ↦ absurd (true≢false (sym k ∙ ap (λ (b : Bool). b && list_all q xs) fails))
  | inl kept ↦ elim (cases_Bool (p x)) [
    | inl passes ↦ (x, passes, kept)
    | inr fails ↦ both p q xs (sym (ap (λ (b : Bool). b || list_any p xs) fails) ∙ h) (sym (ap (λ (b : Bool). b && list_all q xs) kept) ∙ k)
  ]
]

abbrev not_a : List ℕ → Bool
not_a word = cond (bytes_eq (without_case (codes "a")) word) false true

-- no keyword, in lower case as it is written, and not `a`
abbrev is_no_keyword : List ℕ → Bool
is_no_keyword word = is_other (keyword_terminal word) && (bytes_eq (without_case word) word && not_a word)

none_is_a_keyword : list_all is_no_keyword outside_words ≡ true
none_is_a_keyword = refl

same_keyword : (a b : List ℕ) → without_case a ≡ without_case b → is_other (keyword_terminal a) ≡ is_other (keyword_terminal b)
same_keyword a b e = rw e refl

never_a : (word : List ℕ) → not_a word ≡ true → without_case (codes "a") ≡ word → ⊥
never_a word h e = absurd (true≢false (sym h ∙ ap (λ (b : Bool). cond b false true) ((bytes_eq-Decides (without_case (codes "a")) word).1 e)))

behind_a : (text : List ℕ) (b : Bool) → b ≡ false → is_other (keyword_terminal text) ≡ true → is_other (cond b terminal.A (keyword_terminal text)) ≡ true
behind_a text b e h = rw e h

word_other : (text : List ℕ) → is_outside text ≡ true → is_other (word_terminal text) ≡ true
word_other text h =
    let found = both (λ word. is_word word text) is_no_keyword outside_words h none_is_a_keyword in
    let parts = and_parts (is_other (keyword_terminal found.0)) (bytes_eq (without_case found.0) found.0 && not_a found.0) found.2 in
    let rest = and_parts (bytes_eq (without_case found.0) found.0) (not_a found.0) parts.1 in
    let lower : without_case text ≡ found.0 = (bytes_eq-Decides (without_case text) found.0).0 found.1 in
    let itself : without_case found.0 ≡ found.0 = (bytes_eq-Decides (without_case found.0) found.0).0 rest.0 in
    elim (cases_Bool (bytes_eq text (codes "a"))) [
      | inl is ↦ absurd (never_a found.0 rest.1 (ap without_case (sym ((bytes_eq-Decides text (codes "a")).0 is)) ∙ lower))
      | inr differs ↦ behind_a text (bytes_eq text (codes "a")) differs (same_keyword text found.0 (lower ∙ sym itself) ∙ parts.0)
    ]

token_inside : (text : List ℕ) (token : Token) (l : Lexeme) → IsLexeme text token l → is_other l.terminal ≡ false → IsOutside text token → ⊥
token_inside text token l is used out =
    let same : out.1.0 ≡ l.text = stands_once text token.start token.stop out.1.0 l.text out.1.1 is.0 in
    let outside : is_outside (encode_utf8_all l.text) ≡ true = ap (λ (t : List ℕ). is_outside (encode_utf8_all t)) (sym same) ∙ out.1.2 in
    let other : is_other l.terminal ≡ true = ap is_other is.1 ∙ ap (λ (k : Kind). is_other (terminal_by k (encode_utf8_all l.text))) out.0 ∙ word_other (encode_utf8_all l.text) outside in
    absurd (true≢false (sym other ∙ used))

-- the tokens of lexemes that the grammar has a use for are within the profile
pub useful_inside : (text : List ℕ) (tokens : List Token) (ls : Lexemes) → AreLexemes text tokens ls → AreUseful ls → AreInside text tokens
useful_inside text [] [] are useful = tt
useful_inside text [] (l ∷ ls) are useful = tt
useful_inside text (t ∷ ts) [] are useful = absurd are
useful_inside text (t ∷ ts) (l ∷ ls) are useful = (token_inside text t l are.0 useful.0, useful_inside text ts ls are.1 useful.1)
