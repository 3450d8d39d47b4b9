-- Each text says something: it is a document, or it has a fault.
use Rattle.std.proofs.Common.{length, ◌≡◌, ◌⊎◌, inl, inr, ◌<◌, ℕ, List, [], ◌∷◌, Option, Some, None, Result, Ok, Err, refl, sym, subst, ◌∙◌, true≢false}
use Rattle.std.proofs.lemmas.Bool.{cases_Bool}
use Rattle.std.proofs.lemmas.Str.{IsUtf8-from_is_utf8, is_utf8-from_IsUtf8}
use Rattle.std.specs.Str.{chars, IsUtf8, is_utf8}
use Rattle.rdf_terms.specs.declared.quad.Quad.{Quad}
use Rattle.rdf_turtle.specs.declared.fault.TurtleFault.{TurtleFault}
use Rattle.rdf_turtle.specs.declared.fault.TurtleFaultKind.{TurtleFaultKind}
use Rattle.rdf_turtle.specs.declared.fault.TurtleFaultKind.TheVariants as fault
use Rattle.rdf_turtle.specs.Lexemes.{Lexeme, Lexemes, Outcome}
use Rattle.rdf_tokens.specs.declared.token.Token.{Token}
use Rattle.rdf_turtle.specs.declared.tree.Statement.{Statement}
use Rattle.rdf_turtle.specs.Document.{HasTokens, HasTree, IsDocument, IsFaulty}
use Rattle.rdf_turtle.specs.DocumentLaws.{SomeMeaning}
use Rattle.rdf_turtle.specs.Known.{declares_first}
use Rattle.rdf_turtle.specs.Terminals.{terminal_by, bracket}
use Rattle.rdf_tokens.specs.Lines.{line_of}
use Rattle.rdf_turtle.specs.Meaning.{answer, triples_of}
use Rattle.rdf_turtle.specs.Nesting.{IsTooDeep}
use Rattle.rdf_turtle.specs.Inside.Reading.{document}
use Rattle.rdf_tokens.specs.Tokens.{Tokenizes}
use Rattle.rdf_grammar.proofs.CallerLemmas.{got, same_lengths, shallow_or_deep, some_lexemes, stops_somewhere, some_pair}
use Rattle.rdf_turtle.proofs.DocumentLemmas.{answer_kind, name_is}
use Rattle.rdf_turtle.proofs.GrammarWhole.{document_found, document_read, none_read}
use Rattle.rdf_tokens.proofs.CallerLemmas.{some_token_list, tokens_have_forms}

abbrev Meant : Option (List ℕ) → List ℕ → Type 0
Meant base text = ((quads : List Quad) × IsDocument base text quads) ⊎ ((f : TurtleFault) × IsFaulty base text f)

by_answer : (base : Option (List ℕ)) (text : List ℕ) (tree : List Statement) → HasTree text tree → (r : Result (List Quad) TurtleFaultKind) → answer base tree ≡ r → Meant base text
by_answer base text tree h (Ok quads) e = inl (quads, (tree, h, e))
by_answer base text tree h (Err k) e =
    let found = name_is base text tree k h e (answer_kind (declares_first [] tree) (triples_of base tree) k e) in
    inr (record { line = found.0; kind = k }, found.1)

more_left : (ss us : List Statement) (l : Lexeme) (ls : Lexemes) → ◌≡◌ {A = Outcome (List Statement)} (Some (ss, l ∷ ls)) (Some (us, [])) → ⊥
more_left ss us l ls e = let none : l ∷ ls ≡ [] = (some_pair ss us (l ∷ ls) [] e).1 in cc

by_tree : (base : Option (List ℕ)) (text : List ℕ) (tokens : List Token) (lexemes : Lexemes) → HasTokens text tokens lexemes → ¬ (IsTooDeep lexemes) → (o : Outcome (List Statement)) → document 100 lexemes ≡ o
    → Meant base text
by_tree base text tokens lexemes h shallow None e =
    inr (record { line = line_of text (length text); kind = fault.Syntax }, (tokens, lexemes, h, shallow, none_read lexemes shallow e, (length text, inr refl, refl)))
by_tree base text tokens lexemes h shallow (Some (tree, [])) e =
    let found : HasTree text tree = record { tokens = tokens; lexemes = lexemes; list = h; shallow = shallow; reads = document_found lexemes tree e } in
    by_answer base text tree found (answer base tree) refl
by_tree base text tokens lexemes h shallow (Some (tree, l ∷ ls)) e =
    inr (record { line = line_of text (length text); kind = fault.Syntax }, (tokens, lexemes, h, shallow, (λ other is. more_left tree other l ls (sym e ∙ document_read lexemes other shallow is)), (length text, inr refl, refl)))

by_lexemes : (base : Option (List ℕ)) (text : List ℕ) (tokens : List Token) (lexemes : Lexemes) → HasTokens text tokens lexemes → Meant base text
by_lexemes base text tokens lexemes h = elim (shallow_or_deep bracket lexemes) [
  | inl shallow ↦ by_tree base text tokens lexemes h shallow (document 100 lexemes) refl
  | inr deep ↦ (
      let opener = got tokens deep.0 (subst (λ (n : ℕ). deep.0 < n) (same_lengths terminal_by (chars text) tokens lexemes h.slices) deep.1.within) in
      inr (record { line = line_of text opener.0.start; kind = fault.TooDeep }, (tokens, lexemes, opener.0, deep.0, h, deep.1, opener.1, refl)))
]

by_tokens : (base : Option (List ℕ)) (text : List ℕ) → IsUtf8 text → (r : Result (List Token) ℕ) → Tokenizes (chars text) r → Meant base text
by_tokens base text utf8 (Ok tokens) says =
    let slices = some_lexemes terminal_by (chars text) tokens (tokens_have_forms (chars text) tokens says) in
    by_lexemes base text tokens slices.0 (record { utf8 = utf8; list = says; slices = slices.1 })
by_tokens base text utf8 (Err place) says = inr (record { line = line_of text place; kind = fault.Token }, (utf8, (place, says, refl)))

pub some_meaning : SomeMeaning
some_meaning base text = elim (cases_Bool (is_utf8 text)) [
  | inl utf8 ↦ (
      let list = some_token_list (chars text) in
      by_tokens base text (IsUtf8-from_is_utf8 text utf8) list.0 list.1)
  | inr other ↦ (
      let not : ¬ (IsUtf8 text) = λ u. true≢false (sym (is_utf8-from_IsUtf8 text u) ∙ other) in
      let front = stops_somewhere text not in
      inr (record { line = line_of text front.0; kind = fault.NotUtf8 }, (not, (front.0, front.1, refl))))
]
