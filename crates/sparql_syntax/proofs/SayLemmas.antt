-- Each text says something in a language, or has a fault.
use Rattle.std.proofs.Common.{◌≡◌, ◌<◌, ◌⊎◌, inl, inr, ℕ, List, Option, is_some, Result, Ok, Err, refl, sym, subst, ◌∙◌, true≢false}
use Rattle.std.proofs.lemmas.Bool.{cases_Bool}
use Rattle.std.proofs.lemmas.Str.{IsUtf8-from_is_utf8, is_utf8-from_IsUtf8}
use Rattle.std.specs.Str.{chars, IsUtf8, is_utf8}
use Rattle.rdf_grammar.proofs.CallerLemmas.{got, same_lengths, shallow_or_deep, some_lexemes, stops_somewhere}
use Rattle.rdf_grammar.specs.Walks.{start_of}
use Rattle.rdf_tokens.specs.declared.token.Token.{Token}
use Rattle.rdf_tokens.specs.Lines.{line_of}
use Rattle.rdf_tokens.specs.Tokens.{Tokenizes}
use Rattle.rdf_tokens.proofs.CallerLemmas.{some_token_list, tokens_have_forms}
use Rattle.sparql_terminals.specs.Lexemes.{Lexeme, Lexemes}
use Rattle.sparql_grammar.specs.Nesting.{IsTooDeep}
use Rattle.sparql_terminals.specs.Profile.{AreInside}
use Rattle.sparql_terminals.specs.Terminals.{terminal_by, bracket}
use Rattle.sparql_syntax.specs.declared.fault.SyntaxFault.{SyntaxFault}
use Rattle.sparql_syntax.specs.declared.fault.SyntaxFaultKind.{SyntaxFaultKind}
use Rattle.sparql_syntax.specs.declared.fault.SyntaxFaultKind.TheVariants as fault
use Rattle.sparql_syntax.specs.NamePlaces.{first_shown}
use Rattle.sparql_syntax.specs.Phases as phases
use Rattle.sparql_syntax.specs.Phases.{HasTokens}
use Rattle.sparql_syntax.specs.Readers.{IsOfTree}
use Rattle.sparql_syntax.proofs.ProfileLemmas.{inside_or_outside}
use Rattle.sparql_syntax.proofs.TellLemmas.{refused_at}

-- a language of which each tree means something or has a fault, and lexemes that aren't too deep have a tree or none
module _ {Tree Said : Type 0} (Derives : List Lexeme → Tree → Type 0) (meaning : Option (List ℕ) → Tree → Result Said SyntaxFaultKind)
    (tree_or_not : (lexemes : Lexemes) → ¬ (IsTooDeep lexemes) → ((tree : Tree) × Derives lexemes tree) ⊎ ((tree : Tree) → ¬ (Derives lexemes tree)))
    (of_tree : (base : Option (List ℕ)) (tree : Tree) (k : SyntaxFaultKind) → meaning base tree ≡ Err k → IsOfTree k) where
  abbrev HasTree : List ℕ → Tree → Type 0
  HasTree = phases.HasTree Derives

  -- ---- what a text says

  abbrev pub Meant : Option (List ℕ) → List ℕ → Type 0
  Meant base text = ((said : Said) × phases.IsSaid Derives meaning base text said) ⊎ ((f : SyntaxFault) × phases.IsFaulty Derives meaning base text f)

  by_meaning : (base : Option (List ℕ)) (text : List ℕ) (tree : Tree) → HasTree text tree → (r : Result Said SyntaxFaultKind) → meaning base tree ≡ r → Meant base text
  by_meaning base text tree h (Ok said) e = inl (said, (tree, h, e))
  by_meaning base text tree h (Err k) e =
      let line = line_of text (start_of text h.tokens (first_shown (is_some base) k h.lexemes)) in
      inr (record { line = line; kind = k }, refused_at Derives meaning base text k line (of_tree base tree k e) (tree, h, e) (h.tokens, h.lexemes, h.list, refl))

  by_lexemes : (base : Option (List ℕ)) (text : List ℕ) (tokens : List Token) (lexemes : Lexemes) → HasTokens text tokens lexemes → AreInside (chars text) tokens → Meant base text
  by_lexemes base text tokens lexemes h inside = elim (shallow_or_deep bracket lexemes) [
    | inr deep ↦ (
        let opener = got tokens deep.0 (subst (λ (n : ℕ). deep.0 < n) (same_lengths terminal_by (chars text) tokens lexemes h.slices) deep.1.within) in
        inr (record { line = line_of text opener.0.start; kind = fault.TooDeep }, (tokens, lexemes, opener.0, deep.0, h, inside, deep.1, opener.1, refl)))
    | inl shallow ↦ elim (tree_or_not lexemes shallow) [
      | inl found ↦ (
          let tree : HasTree text found.0 = record { tokens = tokens; lexemes = lexemes; list = h; inside = inside; shallow = shallow; reads = found.1 } in
          by_meaning base text found.0 tree (meaning base found.0) refl)
      | inr none ↦ inr (record { line = line_of text (start_of text tokens 0); kind = fault.Syntax }, (tokens, lexemes, h, inside, shallow, none, (0, refl)))
    ]
  ]

  by_tokens : (base : Option (List ℕ)) (text : List ℕ) → IsUtf8 text → (r : Result (List Token) ℕ) → Tokenizes (chars text) r → Meant base text
  by_tokens base text utf8 (Err place) says = inr (record { line = line_of text place; kind = fault.Token }, (utf8, (place, says, refl)))
  by_tokens base text utf8 (Ok tokens) says =
      let forms = tokens_have_forms (chars text) tokens says in
      let slices = some_lexemes terminal_by (chars text) tokens forms in
      let held : HasTokens text tokens slices.0 = record { utf8 = utf8; list = says; slices = slices.1 } in
      elim (inside_or_outside (chars text) tokens forms) [
        | inl inside ↦ by_lexemes base text tokens slices.0 held inside
        | inr out ↦ inr (record { line = line_of text out.1.0.0.start; kind = fault.NotInProfile }, (tokens, slices.0, out.1.0.0, out.0, held, out.1, out.1.0.1, refl))
      ]

  pub some_meaning : (base : Option (List ℕ)) (text : List ℕ) → Meant base text
  some_meaning base text = elim (cases_Bool (is_utf8 text)) [
    | inl utf8 ↦ (
        let list = some_token_list (chars text) in
        by_tokens base text (IsUtf8-from_is_utf8 text utf8) list.0 list.1)
    | inr other ↦ (
        let not : ¬ (IsUtf8 text) = λ u. true≢false (sym (is_utf8-from_IsUtf8 text u) ∙ other) in
        let front = stops_somewhere text not in
        inr (record { line = line_of text front.0; kind = fault.NotUtf8 }, (not, (front.0, front.1, refl))))
  ]
