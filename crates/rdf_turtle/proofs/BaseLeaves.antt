-- The slices of a document's tree have the forms of their terminals.
use Rattle.std.proofs.Common.{◌≡◌, ◌⊎◌, ◌∙◌, ap, refl, sym, subst, inl, inr, ℕ, Bool, true, false, cond, List, [], ◌∷◌, ◌++◌, Ok, Err, true≢false}
use Rattle.std.proofs.lemmas.Bool.{and_parts, and_from}
use Rattle.std.proofs.lemmas.Str.{scalars-chars}
use Rattle.std.specs.Prelude.{codes}
use Rattle.std.specs.List.{AllByRecursion}
use Rattle.std.specs.Str.{chars, bytes_eq, encode_utf8_all, IsUtf8}
use lib.Utf8.{scalar, scalars}
use Rattle.rdf_terms.specs.Escapes.{Writes, IsNumericEscape}
use Rattle.rdf_terms.specs.Literal.{is_tag}
use Rattle.rdf_terms.specs.Quoted.{IsIriCharacter, IsIriRef}
use Rattle.rdf_turtle.specs.Lexemes.{Lexeme, IsLexeme, AreLexemes}
use Rattle.rdf_turtle.specs.declared.terminal.Terminal.{Terminal}
use Rattle.rdf_turtle.specs.declared.terminal.Terminal.TheVariants as terminal
use Rattle.rdf_tokens.specs.declared.token.Kind.{Kind}
use Rattle.rdf_tokens.specs.declared.token.Kind.TheVariants as kind
use Rattle.rdf_tokens.specs.declared.token.Token.{Token}
use Rattle.rdf_turtle.specs.Document.{HasTokens}
use Rattle.rdf_turtle.specs.Inside.Formed.{Formed}
use Rattle.rdf_tokens.specs.Forms.{HasForm, IsLocal}
use Rattle.rdf_turtle.specs.Terminals.{without_case, at_word_terminal, word_terminal, symbol_terminal, terminal_of, terminal_by}
use Rattle.rdf_grammar.specs.Lexemes.{AreReadOf, HaveForms, unread}
use Rattle.rdf_tokens.specs.Values.{iri_value, local_part, tag_value, text_value}
use Rattle.rdf_grammar.proofs.CallerLemmas.{lexemes_have_forms}
use Rattle.rdf_tokens.proofs.CallerLemmas.{scalars_parts, tag_form, iri_value_is, local_part_is, text_value_utf8}

-- ---- lexemes of a text

lexeme_formed : (text : List ℕ) (token : Token) (t : Lexeme) → scalars text ≡ true → IsLexeme text token t → HasForm token.kind t.text → Formed t
lexeme_formed text token t all is form =
    let stands = is.0 in
    let whole : scalars (stands.0 ++ (t.text ++ stands.1)) ≡ true = ap scalars (sym stands.2) ∙ all in
    let back = (scalars_parts stands.0 (t.text ++ stands.1) whole).1 in
    record { scalar = (scalars_parts t.text stands.1 back).0; told = λ _. record { kind = token.kind; form = form; is = is.1 } }

all_formed : (text : List ℕ) (tokens : List Token) (ts : List Lexeme) → scalars text ≡ true → AreLexemes text tokens ts → HaveForms tokens ts → AllByRecursion Formed ts
all_formed text [] [] all are have = tt
all_formed text [] (t ∷ ts) all are have = absurd are
all_formed text (token ∷ tokens) [] all are have = absurd are
all_formed text (token ∷ tokens) (t ∷ ts) all are have = (lexeme_formed text token t all are.0 have.0, all_formed text tokens ts all are.1 have.1)

pub lexemes_formed : (text : List ℕ) (tokens : List Token) (ts : List Lexeme) → HasTokens text tokens ts → AllByRecursion Formed ts
lexemes_formed text tokens ts h =
    all_formed (chars text) tokens ts (scalars-chars text h.utf8) h.slices (lexemes_have_forms terminal_by (chars text) (chars text) h.list.0 tokens ts h.list.1 h.slices)

all_push : (ts : List Lexeme) (t : Lexeme) → AllByRecursion Formed ts → Formed t → AllByRecursion Formed (ts ++ t ∷ [])
all_push [] t all one = (one, tt)
all_push (u ∷ us) t all one = (all.0, all_push us t all.1 one)

unread_formed : Formed (unread terminal_by)
unread_formed = record { scalar = refl; told = λ used. absurd (used refl) }

-- the lexemes that are read of a text, also of one that has no token list
pub read_formed : (bytes : List ℕ) (ts : List Lexeme) → IsUtf8 bytes → AreReadOf terminal_by (chars bytes) ts → AllByRecursion Formed ts
read_formed bytes ts u (Ok tokens, says, are) =
    all_formed (chars bytes) tokens ts (scalars-chars bytes u) are (lexemes_have_forms terminal_by (chars bytes) (chars bytes) says.0 tokens ts says.1 are)
read_formed bytes ts u (Err place, says, are) =
    let front = all_formed (chars bytes) are.0 are.3 (scalars-chars bytes u) are.8 (lexemes_have_forms terminal_by (chars bytes) (chars bytes) are.1 are.0 are.3 are.4 are.8) in
    subst (AllByRecursion Formed) (sym are.9) (all_push are.3 (unread terminal_by) front unread_formed)

-- ---- the kind of a terminal

neither_way : (p : Terminal → Bool) (b : Bool) (x y : Terminal) → p x ≡ false → p y ≡ false → p (cond b x y) ≡ false
neither_way p true x y h k = h
neither_way p false x y h k = k

-- terminals that no keyword, bracket or operator is
abbrev is_iri_terminal : Terminal → Bool
is_iri_terminal terminal.Iri = true
is_iri_terminal _ = false

abbrev is_pname_terminal : Terminal → Bool
is_pname_terminal terminal.Pname = true
is_pname_terminal _ = false

abbrev pub is_tag_terminal : Terminal → Bool
is_tag_terminal terminal.AtWord = true
is_tag_terminal terminal.AtPrefix = true
is_tag_terminal terminal.AtBase = true
is_tag_terminal _ = false

abbrev is_text_terminal : Terminal → Bool
is_text_terminal terminal.Text = true
is_text_terminal _ = false

abbrev Plain : (Terminal → Bool) → Type 0
Plain p = (p terminal.A ≡ false) × (p terminal.True ≡ false) × (p terminal.False ≡ false) × (p terminal.Prefix ≡ false) × (p terminal.Base ≡ false) × (p terminal.Other ≡ false)

never_word : (p : Terminal → Bool) (text : List ℕ) → Plain p → p (word_terminal text) ≡ false
never_word p text h =
    neither_way p (bytes_eq text (codes "a")) _ _ h.0 (neither_way p (bytes_eq text (codes "true")) _ _ h.1 (neither_way p (bytes_eq text (codes "false")) _ _ h.2
    (neither_way p (bytes_eq (without_case text) (codes "prefix")) _ _ h.3 (neither_way p (bytes_eq (without_case text) (codes "base")) _ _ h.4 h.5))))

abbrev Unmarked : (Terminal → Bool) → Type 0
Unmarked p =
    (p terminal.Dot ≡ false) × (p terminal.Semicolon ≡ false) × (p terminal.Comma ≡ false) × (p terminal.Caret ≡ false) × (p terminal.OpenBracket ≡ false) × (p terminal.CloseBracket ≡ false)
    × (p terminal.Open ≡ false) × (p terminal.Close ≡ false) × (p terminal.OpenBrace ≡ false) × (p terminal.CloseBrace ≡ false) × (p terminal.Other ≡ false)

never_symbol : (p : Terminal → Bool) (text : List ℕ) → Unmarked p → p (symbol_terminal text) ≡ false
never_symbol p text h =
    neither_way p (bytes_eq text (codes ".")) _ _ h.0 (neither_way p (bytes_eq text (codes ";")) _ _ h.1 (neither_way p (bytes_eq text (codes ",")) _ _ h.2 (neither_way p (bytes_eq text (codes "^^")) _ _ h.3
    (neither_way p (bytes_eq text (codes "[")) _ _ h.4 (neither_way p (bytes_eq text (codes "]")) _ _ h.5 (neither_way p (bytes_eq text (codes "(")) _ _ h.6 (neither_way p (bytes_eq text (codes ")")) _ _ h.7
    (neither_way p (bytes_eq text (codes "{")) _ _ h.8 (neither_way p (bytes_eq text (codes "}")) _ _ h.9 h.10)))))))))

never_at : (p : Terminal → Bool) (text : List ℕ) → p terminal.AtPrefix ≡ false → p terminal.AtBase ≡ false → p terminal.AtWord ≡ false → p (at_word_terminal text) ≡ false
never_at p text a b c = neither_way p (bytes_eq text (codes "@prefix")) _ _ a (neither_way p (bytes_eq text (codes "@base")) _ _ b c)

clash : {A : Type 0} (b : Bool) → b ≡ true → b ≡ false → A
clash b e f = absurd (true≢false (sym e ∙ f))

iri_kind : (k : Kind) (slice : List ℕ) → is_iri_terminal (terminal_of k slice) ≡ true → HasForm k slice → HasForm kind.Iri slice
iri_kind kind.Iri slice e h = h
iri_kind kind.Pname slice e h = clash _ e refl
iri_kind kind.BlankLabel slice e h = clash _ e refl
iri_kind kind.AtWord slice e h = clash _ e (never_at is_iri_terminal (encode_utf8_all slice) refl refl refl)
iri_kind kind.Text slice e h = clash _ e refl
iri_kind kind.Integer slice e h = clash _ e refl
iri_kind kind.Decimal slice e h = clash _ e refl
iri_kind kind.Double slice e h = clash _ e refl
iri_kind kind.Var slice e h = clash _ e refl
iri_kind kind.Word slice e h = clash _ e (never_word is_iri_terminal (encode_utf8_all slice) (refl, refl, refl, refl, refl, refl))
iri_kind kind.Symbol slice e h = clash _ e (never_symbol is_iri_terminal (encode_utf8_all slice) (refl, refl, refl, refl, refl, refl, refl, refl, refl, refl, refl))

pname_kind : (k : Kind) (slice : List ℕ) → is_pname_terminal (terminal_of k slice) ≡ true → HasForm k slice → HasForm kind.Pname slice
pname_kind kind.Iri slice e h = clash _ e refl
pname_kind kind.Pname slice e h = h
pname_kind kind.BlankLabel slice e h = clash _ e refl
pname_kind kind.AtWord slice e h = clash _ e (never_at is_pname_terminal (encode_utf8_all slice) refl refl refl)
pname_kind kind.Text slice e h = clash _ e refl
pname_kind kind.Integer slice e h = clash _ e refl
pname_kind kind.Decimal slice e h = clash _ e refl
pname_kind kind.Double slice e h = clash _ e refl
pname_kind kind.Var slice e h = clash _ e refl
pname_kind kind.Word slice e h = clash _ e (never_word is_pname_terminal (encode_utf8_all slice) (refl, refl, refl, refl, refl, refl))
pname_kind kind.Symbol slice e h = clash _ e (never_symbol is_pname_terminal (encode_utf8_all slice) (refl, refl, refl, refl, refl, refl, refl, refl, refl, refl, refl))

tag_kind : (k : Kind) (slice : List ℕ) → is_tag_terminal (terminal_of k slice) ≡ true → HasForm k slice → HasForm kind.AtWord slice
tag_kind kind.Iri slice e h = clash _ e refl
tag_kind kind.Pname slice e h = clash _ e refl
tag_kind kind.BlankLabel slice e h = clash _ e refl
tag_kind kind.AtWord slice e h = h
tag_kind kind.Text slice e h = clash _ e refl
tag_kind kind.Integer slice e h = clash _ e refl
tag_kind kind.Decimal slice e h = clash _ e refl
tag_kind kind.Double slice e h = clash _ e refl
tag_kind kind.Var slice e h = clash _ e refl
tag_kind kind.Word slice e h = clash _ e (never_word is_tag_terminal (encode_utf8_all slice) (refl, refl, refl, refl, refl, refl))
tag_kind kind.Symbol slice e h = clash _ e (never_symbol is_tag_terminal (encode_utf8_all slice) (refl, refl, refl, refl, refl, refl, refl, refl, refl, refl, refl))

text_kind : (k : Kind) (slice : List ℕ) → is_text_terminal (terminal_of k slice) ≡ true → HasForm k slice → HasForm kind.Text slice
text_kind kind.Iri slice e h = clash _ e refl
text_kind kind.Pname slice e h = clash _ e refl
text_kind kind.BlankLabel slice e h = clash _ e refl
text_kind kind.AtWord slice e h = clash _ e (never_at is_text_terminal (encode_utf8_all slice) refl refl refl)
text_kind kind.Text slice e h = h
text_kind kind.Integer slice e h = clash _ e refl
text_kind kind.Decimal slice e h = clash _ e refl
text_kind kind.Double slice e h = clash _ e refl
text_kind kind.Var slice e h = clash _ e refl
text_kind kind.Word slice e h = clash _ e (never_word is_text_terminal (encode_utf8_all slice) (refl, refl, refl, refl, refl, refl))
text_kind kind.Symbol slice e h = clash _ e (never_symbol is_text_terminal (encode_utf8_all slice) (refl, refl, refl, refl, refl, refl, refl, refl, refl, refl, refl))

-- ---- what they stand for

written_scalars : (body cs : List ℕ) → scalars body ≡ true → Writes IsIriCharacter body cs → scalars cs ≡ true
written_scalars body [] all h = refl
written_scalars body (c ∷ cs) all h =
    let parts = scalars_parts h.0 h.1 (ap scalars (sym h.2) ∙ all) in
    let one : scalar c ≡ true = character h.0 c parts.0 h.3.1 in
    and_from (scalar c) (scalars cs) one (written_scalars h.1 cs parts.1 h.4)
  where
    character : (unit : List ℕ) (d : ℕ) → scalars unit ≡ true → (unit ≡ d ∷ []) ⊎ IsNumericEscape unit d → scalar d ≡ true
    character unit d s (inl itself) = (and_parts (scalar d) true (ap scalars (sym itself) ∙ s)).0
    character unit d s (inr escape) = escape.scalar

iri_text_utf8 : (slice text : List ℕ) → scalars slice ≡ true → IsIriRef slice text → IsUtf8 text
iri_text_utf8 slice text all h =
    let behind = and_parts (scalar 60) (scalars (h.0 ++ 62 ∷ [])) (ap scalars (sym h.2) ∙ all) in
    let body = (scalars_parts h.0 (62 ∷ []) behind.1).0 in
    (h.1, (written_scalars h.0 h.1 body h.3, sym h.4))

pub iri_utf8 : (t : Lexeme) → Formed t → t.terminal ≡ terminal.Iri → IsUtf8 (iri_value t.text)
iri_utf8 t f e =
    let told = f.told (λ other. true≢false (ap is_iri_terminal (sym e ∙ other))) in
    let form = iri_kind told.kind t.text (ap is_iri_terminal (sym told.is ∙ e)) told.form in
    subst IsUtf8 (iri_value_is t.text form.0 form.1) (iri_text_utf8 t.text form.0 f.scalar form.1)

pub local_formed : (t : Lexeme) → Formed t → t.terminal ≡ terminal.Pname → IsLocal (local_part t.text)
local_formed t f e =
    let told = f.told (λ other. true≢false (ap is_pname_terminal (sym e ∙ other))) in
    let form = pname_kind told.kind t.text (ap is_pname_terminal (sym told.is ∙ e)) told.form in
    subst IsLocal (sym (ap local_part form.2 ∙ local_part_is form.0 form.1 form.3)) form.4

pub tag_formed : (t : Lexeme) → Formed t → is_tag_terminal t.terminal ≡ true → is_tag (tag_value t.text) ≡ true
tag_formed t f e =
    let told = f.told (λ other. true≢false (sym e ∙ ap is_tag_terminal other)) in
    tag_form t.text (tag_kind told.kind t.text (ap is_tag_terminal (sym told.is) ∙ e) told.form)

pub text_utf8 : (t : Lexeme) → Formed t → t.terminal ≡ terminal.Text → IsUtf8 (text_value t.text)
text_utf8 t f e =
    let told = f.told (λ other. true≢false (ap is_text_terminal (sym e ∙ other))) in
    let form = text_kind told.kind t.text (ap is_text_terminal (sym told.is ∙ e)) told.form in
    text_value_utf8 t.text form.0 f.scalar form.1
