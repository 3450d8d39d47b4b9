use Rattle.sparql_solve.specs.Bins.{bin_items}
use Rattle.sparql_solve.proofs.BinLemmas.{set_put, past_put}
use Rattle.sparql_solve.proofs.term_bins.put_at.Goals as goal

pub returns-in_ok-push : goal.returns-in_ok-push
returns-in_ok-push g c =
    set_put bin_items c.args.bins.now.items c.args.place c.in-Some.bin.now c.push.new.self c.args.item.now c.in-Some.ensures.item.3.0 c.in-Some.ensures.value
    c.in_ok-push.ensures

pub returns-in_default : goal.returns-in_default
returns-in_default g c = past_put bin_items c.args.bins.now.items c.args.place c.args.item.now c.in_default.ensures.item.3
