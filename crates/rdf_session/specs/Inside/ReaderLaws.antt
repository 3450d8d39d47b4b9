-- What the laws of the readers say together: a text has one reading, or is refused, and never both.
use Rattle.rdf_lines.specs.Document.{EachTextIsOneDocument}
use Rattle.rdf_turtle.specs.DocumentLaws as turtle
use Rattle.sparql_syntax.specs.UpdateLaws as update

pub record ReaderLaws : Type 0 where
  pub text : EachTextIsOneDocument
  pub some_document : turtle.SomeMeaning
  pub document : turtle.OneDocument
  pub never_both : turtle.NeverBoth
  pub fault : turtle.OneFault
  pub some_request : update.SomeMeaning
  pub request : update.OneRequest
  pub request_or_fault : update.NeverBoth
  pub request_fault : update.OneFault
