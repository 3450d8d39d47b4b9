use Rattle.std.proofs.Common.{◌∙◌, sym}
use Rattle.sparql_algebra.proofs.CallerLemmas.{name_listed}
use Rattle.sparql_solve.proofs.look_ups.is_named.Goals as goal

pub returns : goal.returns
returns g c d l = c.has_name.ensures ∙ sym (name_listed (g.S.Source.contents c.args.source.now) d.names l.names c.args.name.now)
