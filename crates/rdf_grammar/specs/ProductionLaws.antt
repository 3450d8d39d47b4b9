-- What is read of the productions that Turtle and SPARQL share is what they derive.
use Rattle.std.specs.Prelude.{◌≡◌, ◌↔◌, true, Option, Some}
use Rattle.rdf_grammar.specs.declared.tree.Name.{Name}
use Rattle.rdf_grammar.specs.declared.tree.Literal.{Literal}
use Rattle.rdf_grammar.specs.declared.word.Word.{Word}
use Rattle.rdf_grammar.specs.ProductionReadings.{iri, literal, binding, ends_literal}
use Rattle.rdf_grammar.specs.Productions.{Iri, ALiteral, Binding}
use Rattle.rdf_grammar.specs.Terminals.{Slice, Lexemes}
use Rattle.rdf_grammar.specs.Words.{next_word}

-- word tells the word that a terminal is, if it is one
module _ {T : Type 0} (word : T → Option Word) where
  abbrev pub IrisAreRead : Type 0
  IrisAreRead = (ts : Lexemes T) (name : Name) (us : Lexemes T) → (iri word ts ≡ Some (name, us)) ↔ Iri word ts name us

  -- as far as a literal goes: no tag and no "^^" stands behind it
  abbrev pub LiteralsAreRead : Type 0
  LiteralsAreRead =
      (ts : Lexemes T) (x : Literal) (us : Lexemes T)
      → (literal word ts ≡ Some (x, us) → ALiteral word ts x us)
      × (ALiteral word ts x us → ends_literal (next_word word us) ≡ true → literal word ts ≡ Some (x, us))

  abbrev pub BindingsAreRead : Type 0
  BindingsAreRead = (ts : Lexemes T) (bound : Slice × Slice) (us : Lexemes T) → (binding word ts ≡ Some (bound, us)) ↔ Binding word ts bound us
