-- The quads that data and templates stand for (SPARQL 1.1 Update, section 3.1).
use Rattle.std.specs.Prelude.{Option, Some, None, if◌then◌else◌}
use Rattle.rdf_terms.specs.Quad.{QuadParts, has_right_kinds}
use Rattle.rdf_terms.specs.declared.quad.GraphName.{GraphName}
use Rattle.rdf_terms.specs.declared.term.Term.{Term}

-- the quad of these, where each is there and of a right kind
abbrev pub quad_by : Option GraphName → Option Term → Option Term → Option Term → Option QuadParts
quad_by (Some g) (Some s) (Some p) (Some o) =
    let parts : QuadParts = record { graph = g; subject = s; predicate = p; object = o } in
    if has_right_kinds parts then Some parts else None
quad_by _ _ _ _ = None
