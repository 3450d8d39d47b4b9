-- What the slice of a token that says something says, from its kind.
use Rattle.std.specs.Prelude.{ℕ, List}
use Rattle.rdf_tokens.specs.declared.token.Kind.{Kind}
use Rattle.rdf_tokens.specs.declared.token.Kind.TheVariants as kind
use Rattle.rdf_tokens.specs.Values.{iri_value, text_value, local_part, local_value}

-- an IRIREF its reference, a string what it stands for, and a prefixed name what its local part stands for
abbrev pub value_by : Kind → List ℕ → List ℕ
value_by kind.Iri slice = iri_value slice
value_by kind.Text slice = text_value slice
value_by other slice = local_value (local_part slice)
