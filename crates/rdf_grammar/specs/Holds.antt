-- What was found of the members of a tree: `list_all holds` says that it holds of each, `list_any holds` of one.
use Rattle.std.specs.Prelude.{Bool}

abbrev pub holds : Bool → Bool
holds b = b
