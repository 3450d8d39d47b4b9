-- A turn of the loop over a collection's cells.
use Rattle.std.specs.Prelude.{ℕ, List}
use Rattle.rdf_terms.specs.declared.term.Term.{Term}
use Rattle.rdf_grammar.specs.Steps.{◌>>=◌, ◌>>◌, pure}
use Rattle.rdf_turtle.specs.Meaning.{Meaning, object}
use Rattle.rdf_turtle.specs.ParserState.{Does, fresh, says}

-- the cell behind one, with its rdf:first and those inside the element
abbrev pub next_cell : Term → List ℕ → List ℕ → Meaning → Does Term
next_cell cell rest first m = do
  next ← fresh
  says cell rest next
  object next first m
  pure next
