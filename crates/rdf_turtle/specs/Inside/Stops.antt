-- The fault of lexemes, and that of their text.
use Rattle.std.specs.Prelude.{◌≡◌, ℕ, List, Option, Err}
use Rattle.rdf_turtle.specs.declared.fault.TurtleFaultKind.{TurtleFaultKind}
use Rattle.rdf_turtle.specs.declared.fault.TurtleFaultKind.TheVariants.{UnknownPrefix, Relative, NoMemory}
use Rattle.rdf_turtle.specs.declared.tree.Statement.{Statement}
use Rattle.rdf_turtle.specs.Document.{HasTree}
use Rattle.rdf_turtle.specs.Meaning.{answer}

-- a text with a tree is refused for a name, or memory was wanting
abbrev pub IsTold : Option (List ℕ) → List ℕ → TurtleFaultKind → Type 0
IsTold base text UnknownPrefix = (tree : List Statement) × HasTree text tree × (answer base tree ≡ Err UnknownPrefix)
IsTold base text Relative = (tree : List Statement) × HasTree text tree × (answer base tree ≡ Err Relative)
IsTold base text (NoMemory _) = Unit {0}
IsTold base text _ = ⊥
