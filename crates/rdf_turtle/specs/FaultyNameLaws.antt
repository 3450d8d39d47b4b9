-- The first name without an IRI is found among the lexemes just where the tree has one.
use Rattle.std.specs.Prelude.{◌≡◌, ◌↔◌, Bool, true, false, List, [], length}
use Rattle.rdf_turtle.specs.declared.tree.Statement.{Statement}
use Rattle.rdf_turtle.specs.Bases.{lacks_base}
use Rattle.rdf_turtle.specs.FaultyNames.{first_unbound, first_lacking}
use Rattle.rdf_turtle.specs.Grammar.{IsDocument}
use Rattle.rdf_turtle.specs.Known.{declares_first}
use Rattle.rdf_turtle.specs.Lexemes.{Lexemes}

-- each prefix is declared before it is used just where the search for one that isn't comes to the end
abbrev pub UnboundIsFound : Type 0
UnboundIsFound = (ts : Lexemes) (tree : List Statement) → IsDocument ts tree → (declares_first [] tree ≡ true) ↔ (first_unbound ts ≡ length ts)

-- each reference has a scheme or a base just where the search for one that hasn't comes to the end
abbrev pub LackingIsFound : Type 0
LackingIsFound = (based : Bool) (ts : Lexemes) (tree : List Statement) → IsDocument ts tree → (lacks_base based tree ≡ false) ↔ (first_lacking based ts ≡ length ts)
