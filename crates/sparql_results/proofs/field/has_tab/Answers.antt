use Rattle.std.proofs.Common.{◌∙◌}
use Rattle.sparql_results.proofs.TabLemmas.{first_tab}
use Rattle.sparql_results.proofs.field.has_tab.Goals as goal

pub returns : goal.returns
returns c = c.is_some.ensures ∙ first_tab c.args.text.now _ c.memchr.ensures
