-- The table is held against the definition at each of the 256 bytes, by computing.
use Rattle.std.proofs.Common.{get_or, nat_eq, refl, arith}
use Rattle.std.proofs.lemmas.Bool.{agree_below_at}
use Rattle.rdf_terms.specs.declared.iri.TheConstants.{IRI_MAP}
use Rattle.rdf_terms.specs.Iri.{is_forbidden}
use Rattle.rdf_terms.proofs.iri.is_forbidden.Goals as goal

pub returns : goal.returns
returns c = agree_below_at (λ k. nat_eq (get_or IRI_MAP k 0) 60) is_forbidden 256 c.args.b refl (omega arith)
