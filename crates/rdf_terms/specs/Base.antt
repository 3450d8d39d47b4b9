-- The text of a base (RFC 3986, section 5.1).
use Rattle.std.specs.Prelude.{ℕ, List}
use Rattle.rdf_terms.specs.declared.base.Form.{Form}
use Rattle.rdf_terms.specs.declared.base.Form.TheVariants.{Given, Moved}

-- as it was given, or as it was moved to
abbrev pub text_of : Form → List ℕ
text_of (Given iri) = iri
text_of (Moved placed) = placed
