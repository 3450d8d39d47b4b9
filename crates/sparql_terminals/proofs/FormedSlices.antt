-- The slices of formed lexemes have the forms of their terminals.
use Rattle.std.proofs.Common.{◌≡◌, ◌∙◌, ap, refl, sym, subst, ℕ, Bool, true, false, cond, List, [], ◌∷◌, true≢false}
use Rattle.std.specs.Prelude.{codes}
use Rattle.std.specs.Str.{bytes_eq, encode_utf8_all}
use Rattle.rdf_terms.specs.Literal.{is_tag}
use Rattle.rdf_tokens.specs.declared.token.Kind.{Kind}
use Rattle.rdf_tokens.specs.declared.token.Kind.TheVariants as kind
use Rattle.rdf_tokens.specs.declared.token.Token.{Token}
use Rattle.rdf_tokens.specs.Forms.{HasForm, IsLocal}
use Rattle.rdf_tokens.specs.Values.{local_part, tag_value}
use Rattle.rdf_tokens.proofs.CallerLemmas.{tag_form, local_part_is}
use Rattle.rdf_grammar.specs.Lexemes.{HaveForms}
use Rattle.sparql_terminals.specs.declared.terminal.Terminal.{Terminal}
use Rattle.sparql_terminals.specs.declared.terminal.Terminal.TheVariants as terminal
use Rattle.sparql_terminals.specs.Formed.{Formed, AllFormed}
use Rattle.sparql_terminals.specs.Lexemes.{Lexeme, Lexemes, AreLexemes}
use Rattle.sparql_terminals.specs.Terminals.{is_word, filter_terminal, query_terminal, place_terminal, graph_terminal, keyword_terminal, word_terminal, operator_terminal, bracket_terminal, symbol_terminal, is_signed, integer_terminal, decimal_terminal, double_terminal, terminal_of}

-- ---- lexemes of a text

pub lexemes_formed : (text : List ℕ) (tokens : List Token) (ts : Lexemes) → AreLexemes text tokens ts → HaveForms tokens ts → AllFormed ts
lexemes_formed text [] [] are have = tt
lexemes_formed text [] (t ∷ ts) are have = absurd are
lexemes_formed text (token ∷ tokens) [] are have = absurd are
lexemes_formed text (token ∷ tokens) (t ∷ ts) are have = (record { kind = token.kind; form = have.0; is = are.0.1 }, lexemes_formed text tokens ts are.1 have.1)

-- ---- no word, no symbol and no number is a name or a tag

abbrev is_pname : Terminal → Bool
is_pname terminal.Pname = true
is_pname _ = false

abbrev is_at_word : Terminal → Bool
is_at_word terminal.AtWord = true
is_at_word _ = false

abbrev is_either : Terminal → Bool
is_either terminal.Pname = true
is_either terminal.AtWord = true
is_either _ = false

pname_either : (k : Terminal) → is_pname k ≡ true → is_either k ≡ true
pname_either terminal.Pname h = refl
pname_either _ h = absurd (cc)

at_word_either : (k : Terminal) → is_at_word k ≡ true → is_either k ≡ true
at_word_either terminal.AtWord h = refl
at_word_either _ h = absurd (cc)

neither_way : (b : Bool) (x y : Terminal) → is_either x ≡ false → is_either y ≡ false → is_either (cond b x y) ≡ false
neither_way true x y h k = h
neither_way false x y h k = k

never_filter : (text : List ℕ) → is_either (filter_terminal text) ≡ false
never_filter text =
    neither_way (is_word (codes "filter") text) _ _ refl (neither_way (is_word (codes "bound") text) _ _ refl (neither_way (is_word (codes "sameterm") text) _ _ refl
    (neither_way (is_word (codes "isiri") text) _ _ refl (neither_way (is_word (codes "isuri") text) _ _ refl (neither_way (is_word (codes "isblank") text) _ _ refl
    (neither_way (is_word (codes "isliteral") text) _ _ refl (neither_way (is_word (codes "str") text) _ _ refl (neither_way (is_word (codes "lang") text) _ _ refl
    (neither_way (is_word (codes "datatype") text) _ _ refl refl)))))))))

never_query : (text : List ℕ) → is_either (query_terminal text) ≡ false
never_query text =
    neither_way (is_word (codes "select") text) _ _ refl (neither_way (is_word (codes "distinct") text) _ _ refl (neither_way (is_word (codes "ask") text) _ _ refl
    (neither_way (is_word (codes "where") text) _ _ refl (neither_way (is_word (codes "union") text) _ _ refl (neither_way (is_word (codes "optional") text) _ _ refl
    (neither_way (is_word (codes "minus") text) _ _ refl (never_filter text)))))))

never_place : (text : List ℕ) → is_either (place_terminal text) ≡ false
never_place text =
    neither_way (is_word (codes "silent") text) _ _ refl (neither_way (is_word (codes "graph") text) _ _ refl (neither_way (is_word (codes "default") text) _ _ refl
    (neither_way (is_word (codes "named") text) _ _ refl (neither_way (is_word (codes "all") text) _ _ refl (neither_way (is_word (codes "to") text) _ _ refl (never_query text))))))

never_graph : (text : List ℕ) → is_either (graph_terminal text) ≡ false
never_graph text =
    neither_way (is_word (codes "create") text) _ _ refl (neither_way (is_word (codes "clear") text) _ _ refl (neither_way (is_word (codes "drop") text) _ _ refl
    (neither_way (is_word (codes "copy") text) _ _ refl (neither_way (is_word (codes "move") text) _ _ refl (neither_way (is_word (codes "add") text) _ _ refl (never_place text))))))

never_keyword : (text : List ℕ) → is_either (keyword_terminal text) ≡ false
never_keyword text =
    neither_way (is_word (codes "prefix") text) _ _ refl (neither_way (is_word (codes "base") text) _ _ refl (neither_way (is_word (codes "insert") text) _ _ refl
    (neither_way (is_word (codes "delete") text) _ _ refl (neither_way (is_word (codes "data") text) _ _ refl (neither_way (is_word (codes "with") text) _ _ refl
    (neither_way (is_word (codes "true") text) _ _ refl (neither_way (is_word (codes "false") text) _ _ refl (never_graph text))))))))

never_word : (text : List ℕ) → is_either (word_terminal text) ≡ false
never_word text = neither_way (bytes_eq text (codes "a")) _ _ refl (never_keyword text)

never_operator : (text : List ℕ) → is_either (operator_terminal text) ≡ false
never_operator text =
    neither_way (bytes_eq text (codes "=")) _ _ refl (neither_way (bytes_eq text (codes "!=")) _ _ refl (neither_way (bytes_eq text (codes "<")) _ _ refl
    (neither_way (bytes_eq text (codes ">")) _ _ refl (neither_way (bytes_eq text (codes "<=")) _ _ refl (neither_way (bytes_eq text (codes ">=")) _ _ refl
    (neither_way (bytes_eq text (codes "&&")) _ _ refl (neither_way (bytes_eq text (codes "||")) _ _ refl (neither_way (bytes_eq text (codes "!")) _ _ refl
    (neither_way (bytes_eq text (codes "+")) _ _ refl (neither_way (bytes_eq text (codes "-")) _ _ refl refl))))))))))

never_bracket : (text : List ℕ) → is_either (bracket_terminal text) ≡ false
never_bracket text =
    neither_way (bytes_eq text (codes "[")) _ _ refl (neither_way (bytes_eq text (codes "]")) _ _ refl (neither_way (bytes_eq text (codes "(")) _ _ refl
    (neither_way (bytes_eq text (codes ")")) _ _ refl (neither_way (bytes_eq text (codes "{")) _ _ refl (neither_way (bytes_eq text (codes "}")) _ _ refl (never_operator text))))))

never_symbol : (text : List ℕ) → is_either (symbol_terminal text) ≡ false
never_symbol text =
    neither_way (bytes_eq text (codes ".")) _ _ refl (neither_way (bytes_eq text (codes ";")) _ _ refl (neither_way (bytes_eq text (codes ",")) _ _ refl
    (neither_way (bytes_eq text (codes "^^")) _ _ refl (neither_way (bytes_eq text (codes "*")) _ _ refl (never_bracket text)))))

never_integer : (text : List ℕ) → is_either (integer_terminal text) ≡ false
never_integer text = neither_way (is_signed text) _ _ refl refl

never_decimal : (text : List ℕ) → is_either (decimal_terminal text) ≡ false
never_decimal text = neither_way (is_signed text) _ _ refl refl

never_double : (text : List ℕ) → is_either (double_terminal text) ≡ false
never_double text = neither_way (is_signed text) _ _ refl refl

clash : {A : Type 0} (b : Bool) → b ≡ true → b ≡ false → A
clash b e f = absurd (true≢false (sym e ∙ f))

-- ---- the kind of a terminal

pname_kind : (k : Kind) (slice : List ℕ) → is_pname (terminal_of k slice) ≡ true → HasForm k slice → HasForm kind.Pname slice
pname_kind kind.Pname slice e h = h
pname_kind kind.Iri slice e h = clash _ e refl
pname_kind kind.BlankLabel slice e h = clash _ e refl
pname_kind kind.AtWord slice e h = clash _ e refl
pname_kind kind.Text slice e h = clash _ e refl
pname_kind kind.Integer slice e h = clash _ (pname_either (integer_terminal (encode_utf8_all slice)) e) (never_integer (encode_utf8_all slice))
pname_kind kind.Decimal slice e h = clash _ (pname_either (decimal_terminal (encode_utf8_all slice)) e) (never_decimal (encode_utf8_all slice))
pname_kind kind.Double slice e h = clash _ (pname_either (double_terminal (encode_utf8_all slice)) e) (never_double (encode_utf8_all slice))
pname_kind kind.Var slice e h = clash _ e refl
pname_kind kind.Word slice e h = clash _ (pname_either (word_terminal (encode_utf8_all slice)) e) (never_word (encode_utf8_all slice))
pname_kind kind.Symbol slice e h = clash _ (pname_either (symbol_terminal (encode_utf8_all slice)) e) (never_symbol (encode_utf8_all slice))

at_word_kind : (k : Kind) (slice : List ℕ) → is_at_word (terminal_of k slice) ≡ true → HasForm k slice → HasForm kind.AtWord slice
at_word_kind kind.AtWord slice e h = h
at_word_kind kind.Iri slice e h = clash _ e refl
at_word_kind kind.Pname slice e h = clash _ e refl
at_word_kind kind.BlankLabel slice e h = clash _ e refl
at_word_kind kind.Text slice e h = clash _ e refl
at_word_kind kind.Integer slice e h = clash _ (at_word_either (integer_terminal (encode_utf8_all slice)) e) (never_integer (encode_utf8_all slice))
at_word_kind kind.Decimal slice e h = clash _ (at_word_either (decimal_terminal (encode_utf8_all slice)) e) (never_decimal (encode_utf8_all slice))
at_word_kind kind.Double slice e h = clash _ (at_word_either (double_terminal (encode_utf8_all slice)) e) (never_double (encode_utf8_all slice))
at_word_kind kind.Var slice e h = clash _ e refl
at_word_kind kind.Word slice e h = clash _ (at_word_either (word_terminal (encode_utf8_all slice)) e) (never_word (encode_utf8_all slice))
at_word_kind kind.Symbol slice e h = clash _ (at_word_either (symbol_terminal (encode_utf8_all slice)) e) (never_symbol (encode_utf8_all slice))

-- ---- what the slices are

pub local_formed : (t : Lexeme) → Formed t → t.terminal ≡ terminal.Pname → IsLocal (local_part t.text)
local_formed t f e =
    let form = pname_kind f.kind t.text (ap is_pname (sym f.is ∙ e)) f.form in
    subst IsLocal (sym (ap local_part form.2 ∙ local_part_is form.0 form.1 form.3)) form.4

pub tag_formed : (t : Lexeme) → Formed t → t.terminal ≡ terminal.AtWord → is_tag (tag_value t.text) ≡ true
tag_formed t f e = tag_form t.text (at_word_kind f.kind t.text (ap is_at_word (sym f.is ∙ e)) f.form)
