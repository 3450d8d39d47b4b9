-- That a declaration of a prefix replaces an earlier one, and touches no other prefix.
use Rattle.std.specs.Prelude.{◌≡◌, ◌≢◌, ℕ, List, Some}
use Rattle.std.specs.Map.{lookup}
use Rattle.rdf_grammar.specs.Keys.{same_key}
use Rattle.rdf_grammar.specs.Prologue.{Prologue, declares}

-- behind the declaration of a prefix it stands for that IRI, and each other prefix for what it stood for before (Turtle 1.1,
-- section 2.4)
abbrev pub PrefixesAreReplaced : Type 0
PrefixesAreReplaced =
    (s u : Prologue) (declared iri : List ℕ) → declares declared iri s ≡ u
    → (lookup (same_key declared) u.prefixes ≡ Some iri)
    × ((other : List ℕ) → other ≢ declared → lookup (same_key other) u.prefixes ≡ lookup (same_key other) s.prefixes)
