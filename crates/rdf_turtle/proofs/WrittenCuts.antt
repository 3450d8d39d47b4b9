-- A text that is cut into tokens from left to right has just these tokens and lexemes.
use Rattle.std.proofs.Common.{◌≡◌, ◌∙◌, ap, refl, sym, inl, ℕ, true, List, [], ◌∷◌, ◌++◌, map, append_assoc, Some}
use Rattle.rdf_terms.specs.Reading.{byte_count}
use Rattle.rdf_turtle.specs.Lexemes.{Lexeme, AreLexemes}
use Rattle.rdf_tokens.specs.declared.token.Kind.{Kind}
use Rattle.rdf_tokens.specs.declared.token.Token.{Token}
use Rattle.rdf_tokens.specs.Characters.{is_white}
use Rattle.rdf_turtle.specs.Terminals.{terminal_of}
use Rattle.rdf_tokens.specs.Inside.TokenReading.{token_at}
use Rattle.rdf_tokens.specs.Tokens.{HasGap, Ends, AreTokens}
use Rattle.rdf_tokens.proofs.CallerLemmas.{Within, within_start, token_is}

-- a kind, and a slice with its form
abbrev pub Slice : Type 0
Slice = Kind × List ℕ

abbrev pub lexeme_of : Slice → Lexeme
lexeme_of p = record { terminal = terminal_of p.0 p.1; text = p.1 }

abbrev pub lexemes_of : List Slice → List Lexeme
lexemes_of ps = map lexeme_of ps

-- The text is these slices with gaps before them, each the token that is read where it stands, and then a gap.
abbrev pub Cut : List ℕ → List Slice → Type 0
Cut from [] = Ends from
Cut from (p ∷ ps) = (start after : List ℕ) × HasGap from start × (start ≡ p.1 ++ after) × (token_at start ≡ Some (p.0, after)) × Cut after ps

pub record HasList (text from : List ℕ) (lexemes : List Lexeme) : Type 0 where
  pub tokens : List Token
  pub rest : List ℕ
  pub runs : AreTokens text from tokens rest
  pub ends : Ends rest
  pub slices : AreLexemes text tokens lexemes

pub list_of : (text from : List ℕ) (ps : List Slice) → Within text from → Cut from ps → HasList text from (lexemes_of ps)
list_of text from [] w cut = record { tokens = []; rest = from; runs = refl; ends = cut; slices = tt }
list_of text from (p ∷ ps) w (start, after, gap, parts, read, cut) =
    let s = within_start text from start w gap in
    let whole : text ≡ s.0 ++ (p.1 ++ after) = s.1 ∙ ap (λ (t : List ℕ). s.0 ++ t) parts in
    let behind : text ≡ (s.0 ++ p.1) ++ after = whole ∙ sym (append_assoc s.0 p.1 after) in
    let more = list_of text after ps (s.0 ++ p.1, behind) cut in
    record {
      tokens = record { kind = p.0; start = byte_count s.0; stop = byte_count (s.0 ++ p.1) } ∷ more.tokens;
      rest = more.rest;
      runs = (start, after, gap, token_is start p.0 after read, (s.0, s.1, refl), (s.0 ++ p.1, behind, refl), more.runs);
      ends = more.ends;
      slices = (((s.0, after, whole, refl, refl), refl), more.slices);
    }

-- ---- a cut grows to the left

gap_white : (c : ℕ) (from start : List ℕ) → is_white c ≡ true → HasGap from start → HasGap (c ∷ from) start
gap_white c from start h g = ((c ∷ []) ∷ g.0, (from, refl, inl (c, refl, h), g.1))

pub cut_white : (c : ℕ) (from : List ℕ) (ps : List Slice) → is_white c ≡ true → Cut from ps → Cut (c ∷ from) ps
cut_white c from [] h cut = (cut.0, gap_white c from cut.0 h cut.1, cut.2)
cut_white c from (p ∷ ps) h cut = (cut.0, cut.1, gap_white c from cut.0 h cut.2, cut.3, cut.4, cut.5)

pub cut_token : (k : Kind) (slice after : List ℕ) (ps : List Slice) → token_at (slice ++ after) ≡ Some (k, after) → Cut after ps → Cut (slice ++ after) ((k, slice) ∷ ps)
cut_token k slice after ps e cut = (slice ++ after, after, ([], refl), refl, e, cut)

pub cut_end : Cut [] []
cut_end = ([], ([], refl), inl refl)
