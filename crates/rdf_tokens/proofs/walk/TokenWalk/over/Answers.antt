use Rattle.std.proofs.Common.{refl}
use Rattle.rdf_tokens.proofs.WalkLemmas.{found_in}
use Rattle.rdf_tokens.proofs.walk.TokenWalk.over.Goals as goal

pub returns : goal.returns
returns c = found_in c.args.text.now c.new.result _ c.utf8.text c.new.ensures refl
