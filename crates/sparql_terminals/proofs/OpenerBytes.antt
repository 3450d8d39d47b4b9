-- A lexeme that opens a bracket has one of the characters `(`, `[` and `{`.
use Rattle.std.proofs.Common.{◌≡◌, ◌≤◌, ℕ, Bool, true, false, cond, List, refl, ap, arith}
use Rattle.std.proofs.lemmas.Slice.Eq.{bytes_eq-Decides}
use Rattle.std.specs.Prelude.{codes}
use Rattle.std.specs.List.{count_by}
use Rattle.std.specs.Str.{bytes_eq}
use Rattle.rdf_grammar.specs.declared.bracket.Bracket.TheVariants.{Opens}
use Rattle.rdf_tokens.specs.declared.token.Kind.{Kind}
use Rattle.rdf_tokens.specs.declared.token.Kind.TheVariants as kind
use Rattle.sparql_terminals.specs.declared.terminal.Terminal.{Terminal}
use Rattle.sparql_terminals.specs.declared.terminal.Terminal.TheVariants as terminal
use Rattle.sparql_terminals.specs.Openers.{is_opener}
use Rattle.sparql_terminals.specs.Terminals.{bracket, is_word, is_signed, filter_terminal, query_terminal, place_terminal, graph_terminal, keyword_terminal, word_terminal, operator_terminal, bracket_terminal, symbol_terminal, terminal_by}

-- where the terminal opens a bracket, some byte of the text does
abbrev IsSeen : List ℕ → Terminal → Type 0
IsSeen text k = bracket k ≡ Opens → 1 ≤ count_by is_opener text

plain : (text : List ℕ) (b : Bool) (k l : Terminal) → (bracket k ≡ Opens → ⊥) → IsSeen text l → IsSeen text (cond b k l)
plain text true k l h i = λ e. absurd (h e)
plain text false k l h i = i

opener_by : (text word : List ℕ) (k l : Terminal) (b : Bool) → bytes_eq text word ≡ b → 1 ≤ count_by is_opener word → IsSeen text l → IsSeen text (cond b k l)
opener_by text word k l true e h i = λ _. omega (arith, h, ap (count_by is_opener) ((bytes_eq-Decides text word).0 e))
opener_by text word k l false e h i = i

opener : (text word : List ℕ) (k l : Terminal) → 1 ≤ count_by is_opener word → IsSeen text l → IsSeen text (cond (bytes_eq text word) k l)
opener text word k l h i = opener_by text word k l (bytes_eq text word) refl h i

filter_seen : (text : List ℕ) → IsSeen text (filter_terminal text)
filter_seen text =
    plain text (is_word (codes "filter") text) _ _ (λ e. cc e) (plain text (is_word (codes "bound") text) _ _ (λ e. cc e) (plain text (is_word (codes "sameterm") text) _ _ (λ e. cc e) (
    plain text (is_word (codes "isiri") text) _ _ (λ e. cc e) (plain text (is_word (codes "isuri") text) _ _ (λ e. cc e) (plain text (is_word (codes "isblank") text) _ _ (λ e. cc e) (
    plain text (is_word (codes "isliteral") text) _ _ (λ e. cc e) (plain text (is_word (codes "str") text) _ _ (λ e. cc e) (plain text (is_word (codes "lang") text) _ _ (λ e. cc e) (
    plain text (is_word (codes "datatype") text) _ _ (λ e. cc e) (λ e. absurd (cc e)))))))))))

query_seen : (text : List ℕ) → IsSeen text (query_terminal text)
query_seen text =
    plain text (is_word (codes "select") text) _ _ (λ e. cc e) (plain text (is_word (codes "distinct") text) _ _ (λ e. cc e) (plain text (is_word (codes "ask") text) _ _ (λ e. cc e) (
    plain text (is_word (codes "where") text) _ _ (λ e. cc e) (plain text (is_word (codes "union") text) _ _ (λ e. cc e) (plain text (is_word (codes "optional") text) _ _ (λ e. cc e) (
    plain text (is_word (codes "minus") text) _ _ (λ e. cc e) (filter_seen text)))))))

place_seen : (text : List ℕ) → IsSeen text (place_terminal text)
place_seen text =
    plain text (is_word (codes "silent") text) _ _ (λ e. cc e) (plain text (is_word (codes "graph") text) _ _ (λ e. cc e) (plain text (is_word (codes "default") text) _ _ (λ e. cc e) (
    plain text (is_word (codes "named") text) _ _ (λ e. cc e) (plain text (is_word (codes "all") text) _ _ (λ e. cc e) (plain text (is_word (codes "to") text) _ _ (λ e. cc e) (query_seen text))))))

graph_seen : (text : List ℕ) → IsSeen text (graph_terminal text)
graph_seen text =
    plain text (is_word (codes "create") text) _ _ (λ e. cc e) (plain text (is_word (codes "clear") text) _ _ (λ e. cc e) (plain text (is_word (codes "drop") text) _ _ (λ e. cc e) (
    plain text (is_word (codes "copy") text) _ _ (λ e. cc e) (plain text (is_word (codes "move") text) _ _ (λ e. cc e) (plain text (is_word (codes "add") text) _ _ (λ e. cc e) (place_seen text))))))

keyword_seen : (text : List ℕ) → IsSeen text (keyword_terminal text)
keyword_seen text =
    plain text (is_word (codes "prefix") text) _ _ (λ e. cc e) (plain text (is_word (codes "base") text) _ _ (λ e. cc e) (plain text (is_word (codes "insert") text) _ _ (λ e. cc e) (
    plain text (is_word (codes "delete") text) _ _ (λ e. cc e) (plain text (is_word (codes "data") text) _ _ (λ e. cc e) (plain text (is_word (codes "with") text) _ _ (λ e. cc e) (
    plain text (is_word (codes "true") text) _ _ (λ e. cc e) (plain text (is_word (codes "false") text) _ _ (λ e. cc e) (graph_seen text))))))))

word_seen : (text : List ℕ) → IsSeen text (word_terminal text)
word_seen text =
    plain text (bytes_eq text (codes "a")) _ _ (λ e. cc e) (keyword_seen text)

operator_seen : (text : List ℕ) → IsSeen text (operator_terminal text)
operator_seen text =
    plain text (bytes_eq text (codes "=")) _ _ (λ e. cc e) (plain text (bytes_eq text (codes "!=")) _ _ (λ e. cc e) (plain text (bytes_eq text (codes "<")) _ _ (λ e. cc e) (
    plain text (bytes_eq text (codes ">")) _ _ (λ e. cc e) (plain text (bytes_eq text (codes "<=")) _ _ (λ e. cc e) (plain text (bytes_eq text (codes ">=")) _ _ (λ e. cc e) (
    plain text (bytes_eq text (codes "&&")) _ _ (λ e. cc e) (plain text (bytes_eq text (codes "||")) _ _ (λ e. cc e) (plain text (bytes_eq text (codes "!")) _ _ (λ e. cc e) (
    plain text (bytes_eq text (codes "+")) _ _ (λ e. cc e) (plain text (bytes_eq text (codes "-")) _ _ (λ e. cc e) (λ e. absurd (cc e))))))))))))

bracket_seen : (text : List ℕ) → IsSeen text (bracket_terminal text)
bracket_seen text =
    opener text (codes "[") _ _ (omega arith) (plain text (bytes_eq text (codes "]")) _ _ (λ e. cc e) (opener text (codes "(") _ _ (omega arith) (
    plain text (bytes_eq text (codes ")")) _ _ (λ e. cc e) (opener text (codes "{") _ _ (omega arith) (plain text (bytes_eq text (codes "}")) _ _ (λ e. cc e) (operator_seen text))))))

symbol_seen : (text : List ℕ) → IsSeen text (symbol_terminal text)
symbol_seen text =
    plain text (bytes_eq text (codes ".")) _ _ (λ e. cc e) (plain text (bytes_eq text (codes ";")) _ _ (λ e. cc e) (plain text (bytes_eq text (codes ",")) _ _ (λ e. cc e) (
    plain text (bytes_eq text (codes "^^")) _ _ (λ e. cc e) (plain text (bytes_eq text (codes "*")) _ _ (λ e. cc e) (bracket_seen text)))))

pub opener_seen : (k : Kind) (text : List ℕ) → bracket (terminal_by k text) ≡ Opens → 1 ≤ count_by is_opener text
opener_seen kind.Word text e = word_seen text e
opener_seen kind.Symbol text e = symbol_seen text e
opener_seen kind.Integer text e = plain text (is_signed text) terminal.SignedInteger terminal.Integer (λ h. cc h) (λ h. absurd (cc h)) e
opener_seen kind.Decimal text e = plain text (is_signed text) terminal.SignedDecimal terminal.Decimal (λ h. cc h) (λ h. absurd (cc h)) e
opener_seen kind.Double text e = plain text (is_signed text) terminal.SignedDouble terminal.Double (λ h. cc h) (λ h. absurd (cc h)) e
opener_seen _ text e = absurd (cc e)
