-- Why a name of a text has no IRI, in the words of its lexemes (SPARQL 1.1 Query, sections 4.1.1 and 19.5).
use Rattle.std.specs.Prelude.{◌≡◌, ◌<◌, ◌↔◌, ℕ, List, length, Option, Result, Err, is_some}
use Rattle.sparql_grammar.specs.OperationGrammar.{IsRequest}
use Rattle.sparql_grammar.specs.QueryGrammar.{IsQuery}
use Rattle.sparql_terminals.specs.Lexemes.{Lexeme}
use Rattle.sparql_syntax.specs.declared.fault.SyntaxFaultKind.{SyntaxFaultKind}
use Rattle.sparql_syntax.specs.declared.fault.SyntaxFaultKind.TheVariants.{UnknownPrefix, Relative}
use Rattle.sparql_syntax.specs.FaultyNames.{first_unbound, first_lacking}
use Rattle.sparql_syntax.specs.Phases.{HasTree}
use Rattle.sparql_syntax.specs.Query as query
use Rattle.sparql_syntax.specs.Update as update

module _ {Tree Said : Type 0} (Derives : List Lexeme → Tree → Type 0) (meaning : Option (List ℕ) → Tree → Result Said SyntaxFaultKind) where
  -- the fault is UnknownPrefix just where a prefixed name stands whose prefix isn't declared before it
  abbrev pub UnknownIsUnbound : Type 0
  UnknownIsUnbound =
      (base : Option (List ℕ)) (text : List ℕ) (tree : Tree) (has : HasTree Derives text tree)
      → (meaning base tree ≡ Err UnknownPrefix) ↔ (first_unbound has.lexemes < length has.lexemes)

  -- it is Relative just where none does, and a reference without a scheme stands while no base is in force
  abbrev pub RelativeIsLacking : Type 0
  RelativeIsLacking =
      (base : Option (List ℕ)) (text : List ℕ) (tree : Tree) (has : HasTree Derives text tree)
      → (meaning base tree ≡ Err Relative)
      ↔ ((first_unbound has.lexemes ≡ length has.lexemes) × (first_lacking (is_some base) has.lexemes < length has.lexemes))

abbrev pub UnknownInUpdates : Type 0
UnknownInUpdates = UnknownIsUnbound IsRequest update.meaning

abbrev pub RelativeInUpdates : Type 0
RelativeInUpdates = RelativeIsLacking IsRequest update.meaning

abbrev pub UnknownInQueries : Type 0
UnknownInQueries = UnknownIsUnbound IsQuery query.meaning

abbrev pub RelativeInQueries : Type 0
RelativeInQueries = RelativeIsLacking IsQuery query.meaning
