-- A text whose lexemes are derived has tokens that the profile has, and where few of its bytes open brackets they don't nest too deep.
use Rattle.std.proofs.Common.{◌≡◌, ◌+◌, ◌≤◌, cond, ℕ, zero, suc, false, List, [], ◌∷◌, ◌++◌, take, Ok, Err, refl, sym, ap, subst, ◌∙◌, append_assoc, arith}
use Rattle.std.proofs.lemmas.List.Sums.{sum_by-append}
use Rattle.std.proofs.lemmas.Str.{encodes-append, encodes-chars}
use Rattle.std.specs.List.{count_by}
use Rattle.std.specs.Str.{chars, encode_utf8_all, IsUtf8}
use Rattle.rdf_grammar.specs.declared.bracket.Bracket.{Bracket}
use Rattle.rdf_grammar.specs.declared.bracket.Bracket.TheVariants.{Opens, Closes, Neither}
use Rattle.rdf_grammar.specs.Lexemes.{AreReadOf, unread}
use Rattle.rdf_grammar.specs.Nesting.{behind_bracket}
use Rattle.rdf_terms.specs.Reading.{byte_count}
use Rattle.rdf_tokens.specs.declared.token.Token.{Token}
use Rattle.rdf_tokens.specs.Tokens.{At, AreTokens, Gap, IsToken, Stands}
use Rattle.rdf_tokens.proofs.CallerLemmas.{same_place, stands_once}
use Rattle.sparql_terminals.specs.Lexemes.{Lexeme, Lexemes, AreLexemes, IsLexeme}
use Rattle.sparql_terminals.specs.Openers.{is_opener}
use Rattle.sparql_terminals.specs.Terminals.{bracket, terminal_by}
use Rattle.sparql_terminals.specs.Useful.{AreUseful, is_other}
use Rattle.sparql_terminals.proofs.CallerLemmas.{opener_seen, useful_inside}
use Rattle.sparql_grammar.specs.Nesting.{IsTooDeep, open_after}
use Rattle.sparql_syntax.specs.Phases.{HasTokens}
use Rattle.sparql_syntax.specs.Survey.{IsReadable}

-- ---- bytes that open brackets

-- among the UTF-8 of characters
abbrev opens_in : List ℕ → ℕ
opens_in cs = count_by is_opener (encode_utf8_all cs)

opens_append : (a b : List ℕ) → opens_in (a ++ b) ≡ opens_in a + opens_in b
opens_append a b = ap (count_by is_opener) (encodes-append a b) ∙ sum_by-append (λ (x : ℕ). cond (is_opener x) 1 0) (encode_utf8_all a) (encode_utf8_all b)

opens_parts : (whole a b : List ℕ) → whole ≡ a ++ b → opens_in whole ≡ opens_in a + opens_in b
opens_parts whole a b e = ap opens_in e ∙ opens_append a b

gap_opens : (blanks : List (List ℕ)) (text start : List ℕ) → Gap blanks text start → opens_in start ≤ opens_in text
gap_opens [] text start h = omega (arith, ap opens_in h)
gap_opens (blank ∷ blanks) text start h = omega (arith, gap_opens blanks h.0 start h.3, opens_parts text blank h.0 h.1)

-- ---- brackets that lexemes open

behind_few : (b c : ℕ) (turn : Bracket) → (turn ≡ Opens → 1 ≤ c) → behind_bracket b turn ≤ b + c
behind_few b c Opens h = omega (arith, h refl)
behind_few b c Closes h = omega arith
behind_few b c Neither h = omega arith

lexeme_opens : (text : List ℕ) (token : Token) (l : Lexeme) (b : ℕ) → IsLexeme text token l → behind_bracket b (bracket l.terminal) ≤ b + opens_in l.text
lexeme_opens text token l b is = behind_few b (opens_in l.text) (bracket l.terminal) (λ e. opener_seen token.kind (encode_utf8_all l.text) (ap bracket (sym is.1) ∙ e))

slice_is : (text : List ℕ) (token : Token) (l : Lexeme) (start after : List ℕ) → IsLexeme text token l → (is : IsToken start token.kind after) → At text token.start start → At text token.stop after → l.text ≡ is.slice
slice_is text token l start after lexeme is p q =
    let whole : text ≡ p.0 ++ (is.slice ++ after) = p.1 ∙ ap (λ (t : List ℕ). p.0 ++ t) is.parts in
    let stop : At text (byte_count (p.0 ++ is.slice)) after = (p.0 ++ is.slice, whole ∙ sym (append_assoc p.0 is.slice after), refl) in
    let stands : Stands text token.start token.stop is.slice = (p.0, after, whole, p.2, same_place text token.stop (byte_count (p.0 ++ is.slice)) after q stop) in
    stands_once text token.start token.stop l.text is.slice lexeme.0 stands

few_open : (text from : List ℕ) (tokens : List Token) (rest : List ℕ) (ls : Lexemes) (b n : ℕ) → AreTokens text from tokens rest → AreLexemes text tokens ls → open_after b (take n ls) ≤ b + opens_in from
few_open text from tokens rest ls b zero r are = omega arith
few_open text from [] rest [] b (suc n) r are = omega arith
few_open text from [] rest (l ∷ ls) b (suc n) r are = absurd are
few_open text from (token ∷ tokens) rest [] b (suc n) r are = absurd are
few_open text from (token ∷ tokens) rest (l ∷ ls) b (suc n) r are =
    let later = few_open text r.1 tokens rest ls (behind_bracket b (bracket l.terminal)) n r.6 are.1 in
    let one = lexeme_opens text token l b are.0 in
    let same = ap opens_in (slice_is text token l r.0 r.1 are.0 r.3 r.4 r.5) in
    omega (arith, later, one, same, opens_parts r.0 r.3.slice r.1 r.3.parts, gap_opens r.2.0 from r.0 r.2.1)

few_shallow : (text : List ℕ) (tokens : List Token) (ls : Lexemes) → HasTokens text tokens ls → count_by is_opener text ≤ 100 → IsTooDeep ls → ⊥
few_shallow text tokens ls h few d =
    omega (arith, few_open (chars text) (chars text) tokens h.list.0 ls 0 d.0 h.list.1 h.slices, few, ap (count_by is_opener) (encodes-chars text h.utf8), d.1)

-- ---- lexemes that the grammar has a use for

last_useful : (ls : Lexemes) (l : Lexeme) → AreUseful (ls ++ l ∷ []) → is_other l.terminal ≡ false
last_useful [] l all = all.0
last_useful (x ∷ xs) l all = last_useful xs l all.1

listed_useful : (text : List ℕ) (ls : Lexemes) → IsUtf8 text → AreUseful ls → AreReadOf terminal_by (chars text) ls → (tokens : List Token) × HasTokens text tokens ls
listed_useful text ls u useful (Ok tokens, says, are) = (tokens, record { utf8 = u; list = says; slices = are })
listed_useful text ls u useful (Err place, says, are) =
    let last : is_other (unread terminal_by).terminal ≡ false = last_useful are.3 (unread terminal_by) (subst (λ (x : Lexemes). AreUseful x) are.9 useful) in
    absurd (cc last)

pub readable : (text : List ℕ) (ls : Lexemes) → IsUtf8 text → count_by is_opener text ≤ 100 → AreReadOf terminal_by (chars text) ls → AreUseful ls → IsReadable text
readable text ls u few read useful =
    let found = listed_useful text ls u useful read in
    record {
      tokens = found.0;
      lexemes = ls;
      list = found.1;
      inside = useful_inside (chars text) found.0 ls found.1.slices useful;
      shallow = few_shallow text found.0 ls found.1 few;
    }
