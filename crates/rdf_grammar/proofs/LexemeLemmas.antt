-- Lexemes, one for each token.
use Rattle.std.proofs.Common.{ℕ, List, [], ◌∷◌, ◌++◌, subst}
use Rattle.std.specs.List.{AllByRecursion}
use Rattle.rdf_tokens.specs.declared.token.Kind.{Kind}
use Rattle.rdf_tokens.specs.declared.token.Token.{Token}
use Rattle.rdf_tokens.specs.Forms.{HasForm}
use Rattle.rdf_tokens.specs.Tokens.{HasItsForm}
use Rattle.rdf_tokens.proofs.CallerLemmas.{stands_once, token_stands, runs_have_forms}
use Rattle.rdf_grammar.specs.declared.lexeme.Lexeme.{Lexeme}
use Rattle.rdf_grammar.specs.Terminals.{Lexemes}
use Rattle.rdf_grammar.specs.Lexemes.{IsLexeme, AreLexemes, HaveForms, LexemesHaveForms}

module _ {T : Type 0} (terminal : Kind → List ℕ → T) where
  lexeme_form : (text : List ℕ) (token : Token) (lexeme : Lexeme T) → HasItsForm text token → IsLexeme terminal text token lexeme → HasForm token.kind lexeme.text
  lexeme_form text token lexeme h l =
      subst (HasForm token.kind) (stands_once text token.start token.stop h.1 lexeme.text (token_stands text token h) l.0) h.6

  have_forms : (text : List ℕ) (tokens : List Token) (lexemes : Lexemes T) → AllByRecursion (HasItsForm text) tokens → AreLexemes terminal text tokens lexemes → HaveForms tokens lexemes
  have_forms text [] [] h l = tt
  have_forms text [] (lexeme ∷ lexemes) h l = l
  have_forms text (token ∷ tokens) [] h l = l
  have_forms text (token ∷ tokens) (lexeme ∷ lexemes) h l = (lexeme_form text token lexeme h.0 l.0, have_forms text tokens lexemes h.1 l.1)

  pub lexemes_have_forms : LexemesHaveForms terminal
  lexemes_have_forms text from rest tokens lexemes h l = have_forms text tokens lexemes (runs_have_forms text from tokens rest h) l
