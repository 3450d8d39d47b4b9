-- Lexemes that are read one at a time.
use Rattle.std.proofs.Common.{◌≡◌, ◌≤◌, ℕ, List, [], ◌∷◌, ◌++◌, length, Option, None, Result, Ok, Err, refl, sym, ap, subst, ◌∙◌, arith, append_assoc}
use Rattle.std.proofs.lemmas.List.{append-nil}
use Rattle.std.proofs.lemmas.Str.{encodes-chars, length-le-encodes, chars-nil}
use Rattle.std.specs.Str.{chars, encode_utf8_all, IsUtf8}
use Rattle.rdf_terms.proofs.CallerLemmas.{between_is}
use Rattle.rdf_terms.specs.Reading.{between, byte_count}
use Rattle.rdf_tokens.specs.declared.token.Kind.{Kind}
use Rattle.rdf_tokens.specs.declared.token.Kind.TheVariants.{Symbol}
use Rattle.rdf_tokens.specs.declared.token.Token.{Token}
use Rattle.rdf_tokens.specs.Tokens.{IsToken, HasGap, Ends, NoToken, At, AreTokens, Tokenizes}
use Rattle.rdf_tokens.proofs.CallerLemmas.{each_end, each_few, each_nil, each_token, none_told, same_place, some_token_list}
use Rattle.rdf_grammar.specs.declared.lexeme.Lexeme.{Lexeme}
use Rattle.rdf_grammar.specs.Terminals.{Lexemes, next_text}
use Rattle.rdf_grammar.specs.Lexemes.{IsLexeme, AreLexemes, AreReadFrom, AreReadOf, unread}
use Rattle.rdf_grammar.specs.Inside.LexemeReading.{ahead, lexeme_of, lexemes_of}

module _ {T : Type 0} (terminal : Kind → List ℕ → T) where
  pub lexemes_nil : lexemes_of terminal [] ≡ []
  unfolding lexemes_of
  lexemes_nil = each_nil _ _

  pub lexemes_end : (cs : List ℕ) → Ends cs → lexemes_of terminal cs ≡ []
  unfolding lexemes_of
  lexemes_end cs h = each_end _ _ cs h

  pub lexemes_token : (cs start : List ℕ) (k : Kind) (after : List ℕ) → HasGap cs start → IsToken start k after
      → lexemes_of terminal cs ≡ lexeme_of terminal k (between start after) ∷ lexemes_of terminal after
  unfolding lexemes_of
  lexemes_token cs start k after gap is = each_token _ _ cs start k after gap is

  pub lexemes_none : (cs start : List ℕ) → HasGap cs start → NoToken start → lexemes_of terminal cs ≡ unread terminal ∷ []
  unfolding lexemes_of
  lexemes_none cs start gap none = none_told _ _ cs start gap none

  few : (cs : List ℕ) → length (lexemes_of terminal cs) ≤ length cs
  unfolding lexemes_of
  few cs = each_few _ _ cs

  -- ---- what is made of it

  pub made_of_token : (cs left slice bytes : List ℕ) (k : Kind) (t : T) (found : Lexeme T) → ((start : List ℕ) × HasGap cs start × IsToken start k left × (start ≡ slice ++ left))
      → slice ≡ chars bytes → IsUtf8 bytes → t ≡ terminal k bytes → found ≡ record { terminal = t; text = slice } → lexemes_of terminal cs ≡ found ∷ lexemes_of terminal left
  made_of_token cs left slice bytes k t found next text utf8 kind is =
      let same : between next.0 left ≡ slice = between_is next.0 left slice next.3 in
      let bytes_are : bytes ≡ encode_utf8_all slice = sym (encodes-chars bytes utf8) ∙ ap encode_utf8_all (sym text) in
      let made : lexeme_of terminal k slice ≡ found = ap (λ (x : T). record { terminal = x; text = slice }) (ap (terminal k) (sym bytes_are) ∙ sym kind) ∙ sym is in
      lexemes_token cs next.0 k left next.1 next.2 ∙ ap (λ (l : Lexeme T). l ∷ lexemes_of terminal left) (ap (lexeme_of terminal k) same ∙ made)

  pub unread_is : (t : T) (slice : List ℕ) → t ≡ terminal Symbol [] → slice ≡ chars [] → record { terminal = t; text = slice } ≡ unread terminal
  unread_is t slice kind text = ap (λ (x : T). record { terminal = x; text = slice }) kind ∙ ap (λ (x : List ℕ). record { terminal = terminal Symbol []; text = x }) (text ∙ chars-nil)

  pub made_of_none : (cs left : List ℕ) (found : Lexeme T) → ((start : List ℕ) × HasGap cs start × NoToken start × (left ≡ [])) → found ≡ unread terminal
      → lexemes_of terminal cs ≡ found ∷ lexemes_of terminal left
  made_of_none cs left found next is =
      lexemes_none cs next.0 next.1 next.2 ∙ ap (λ (l : Lexeme T). l ∷ []) (sym is) ∙ ap (λ (ls : Lexemes T). found ∷ ls) (sym (ap (lexemes_of terminal) next.3 ∙ lexemes_nil))

  pub made_of_end : (cs left : List ℕ) → Ends cs × (left ≡ []) → (lexemes_of terminal cs ≡ []) × (lexemes_of terminal left ≡ [])
  made_of_end cs left h = (lexemes_end cs h.0, ap (lexemes_of terminal) h.1 ∙ lexemes_nil)

  pub few_bytes : (cs : List ℕ) → length (lexemes_of terminal cs) ≤ byte_count cs
  few_bytes cs = omega (arith, few cs, length-le-encodes cs)

  -- ---- they are the text's

  token_lexeme : (text : List ℕ) (token : Token) (start after : List ℕ) → IsToken start token.kind after → At text token.start start → At text token.stop after
      → IsLexeme terminal text token (lexeme_of terminal token.kind (between start after))
  token_lexeme text token start after is p q =
      let same : between start after ≡ is.slice = between_is start after is.slice is.parts in
      let whole : text ≡ p.0 ++ (is.slice ++ after) = p.1 ∙ ap (λ (t : List ℕ). p.0 ++ t) is.parts in
      let stop : At text (byte_count (p.0 ++ is.slice)) after = (p.0 ++ is.slice, whole ∙ sym (append_assoc p.0 is.slice after), refl) in
      subst (λ (s : List ℕ). IsLexeme terminal text token (lexeme_of terminal token.kind s)) (sym same)
      ((p.0, after, whole, p.2, same_place text token.stop (byte_count (p.0 ++ is.slice)) after q stop), refl)

  abbrev Front : List ℕ → List ℕ → List Token → List ℕ → Type 0
  Front text from tokens rest = (front : Lexemes T) × AreLexemes terminal text tokens front × (lexemes_of terminal from ≡ front ++ lexemes_of terminal rest)

  front_read : (text from : List ℕ) (tokens : List Token) (rest : List ℕ) → AreTokens text from tokens rest → Front text from tokens rest
  front_read text from [] rest r = ([], tt, ap (lexemes_of terminal) r)
  front_read text from (token ∷ tokens) rest r =
      let later = front_read text r.1 tokens rest r.6 in
      let first = lexeme_of terminal token.kind (between r.0 r.1) in
      (first ∷ later.0, (token_lexeme text token r.0 r.1 r.3 r.4 r.5, later.1), lexemes_token from r.0 token.kind r.1 r.2 r.3 ∙ ap (λ (ls : Lexemes T). first ∷ ls) later.2)

  read_from : (text : List ℕ) (answer : Result (List Token) ℕ) → Tokenizes text answer → AreReadFrom terminal text answer (lexemes_of terminal text)
  read_from text (Ok tokens) h =
      let f = front_read text text tokens h.0 h.1 in
      subst (AreLexemes terminal text tokens) (sym (f.2 ∙ ap (λ (ls : Lexemes T). f.0 ++ ls) (lexemes_end h.0 h.2) ∙ append-nil f.0)) f.1
  read_from text (Err place) h =
      let f = front_read text text h.0 h.1 h.3 in
      (h.0, h.1, h.2, f.0, h.3, h.4, h.5, h.6, f.1, f.2 ∙ ap (λ (ls : Lexemes T). f.0 ++ ls) (lexemes_none h.1 h.2 h.4 h.5))

  read_of : (text : List ℕ) → AreReadOf terminal text (lexemes_of terminal text)
  read_of text = let s = some_token_list text in (s.0, s.1, read_from text s.0 s.1)

  pub over_reads : (text : List ℕ) (lexemes : Lexemes T) → lexemes ≡ lexemes_of terminal text → AreReadOf terminal text lexemes
  over_reads text lexemes e = subst (AreReadOf terminal text) (sym e) (read_of text)

  pub over_fits : (bytes : List ℕ) (lexemes : Lexemes T) → IsUtf8 bytes → lexemes ≡ lexemes_of terminal (chars bytes) → length lexemes ≤ length bytes
  over_fits bytes lexemes u e = omega (arith, ap length e, few_bytes (chars bytes), ap length (encodes-chars bytes u))

  pub few_fit : (bytes : List ℕ) (lexemes : Lexemes T) → IsUtf8 bytes → length bytes ≤ 18446744073709551615 → lexemes ≡ lexemes_of terminal (chars bytes) → length lexemes ≤ 18446744073709551615
  few_fit bytes lexemes u fits e = omega (arith, over_fits bytes lexemes u e, fits)

-- ---- the next one ahead

pub text_none : {T : Type 0} (next : Option T) (text : List ℕ) (rest view : Lexemes T) (slice : List ℕ) → ahead next text rest ≡ view → next ≡ None → slice ≡ chars [] → slice ≡ next_text view
text_none {T = T} next text rest view slice is none e = e ∙ chars-nil ∙ ap next_text (ap (λ (o : Option T). ahead o text rest) (sym none) ∙ is)
