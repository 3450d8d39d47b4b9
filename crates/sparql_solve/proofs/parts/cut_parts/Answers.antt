use Rattle.std.proofs.Common.{◌≡◌, ◌+◌, ◌-◌, List, Bor, sym, ap, arith, length, take, drop}
use Rattle.std.proofs.lemmas.List.{drop-drop, length-drop, take_all}
use Rattle.sparql_values.specs.Mapping.{Mapping}
use Rattle.sparql_solve.proofs.PartLemmas.{one_cut, all_cut}
use Rattle.sparql_solve.proofs.parts.cut_parts.Goals as goal

pub loop-start-preserved : goal.loop-start-preserved
loop-start-preserved c =
    let rows : List (Bor Mapping) = c.args.rows.now in
    let start = c.loop-start.start in
    let len = c.part_len-len.result in
    let rest : List (Bor Mapping) = drop start rows in
    let whole : take (length rows - start) rest ≡ rest = take_all (length rows - start) rest (omega (arith, length-drop start rows)) in
    record {
      cut = one_cut rows rest (drop (start + len) rows) c.loop-start.parts.items c.push.new.self.items _ len c.loop-start.invariant.cut (ap (take len) whole)
          (sym (drop-drop len start rows)) c.in_ok-push.ensures.items;
      within = omega (arith, ap length whole, length-drop start rows, c.part_len-len.ensures.within);
    }

pub returns : goal.returns
returns c =
    all_cut c.args.rows.now (drop c.loop-start.start c.args.rows.now) c.loop-start.parts.items c.loop-start.invariant.cut
    (omega (arith, length-drop c.loop-start.start c.args.rows.now))
