-- What the elements of a group come to, one behind the other.
use Rattle.std.specs.Prelude.{◌≡◌, List, [], ◌∷◌, ◌++◌, Option, Some, None}
use Rattle.sparql_grammar.specs.declared.body.Body.{Body}
use Rattle.sparql_grammar.specs.declared.tree.Element.{Element}
use Rattle.sparql_grammar.specs.declared.tree.Element.TheVariants as e
use Rattle.sparql_grammar.specs.declared.tree.Group.{Group}
use Rattle.sparql_grammar.specs.declared.tree.Triples.{Triples}
use Rattle.sparql_grammar.specs.GroupReading.{together}

-- nothing has been read
pub record IsEmpty (body : Body) : Type 0 where
  pub members : body.members ≡ []
  pub block : body.block ≡ []
  pub filters : body.filters ≡ []

abbrev pub joined : List Triples → Body → Body
joined triples body = record body { block = body.block ++ triples }

abbrev pub closed : Body → Body
closed body = record body { members = body.members ++ together body.block; block = [] }

-- an element behind those before it
abbrev pub put : Element → Body → Body
put (e.Block triples) body = joined triples body
put (e.Filter expression) body = record body { filters = body.filters ++ expression ∷ [] }
put (e.Pattern member) body = let b = closed body in record b { members = b.members ++ member ∷ [] }

abbrev pub put_some : Option Element → Body → Body
put_some None body = body
put_some (Some element) body = put element body

abbrev pub group_of : Body → Group
group_of body = record { members = (closed body).members; filters = body.filters }
