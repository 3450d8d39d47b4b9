use Rattle.std.proofs.Common.{[], true, false, sym, ◌∙◌}
use Rattle.std.proofs.lemmas.Result.{IfOk-weaker}
use Rattle.sparql_solve.proofs.FlagLemmas.{flags_len}
use Rattle.sparql_solve.proofs.sharing.asked_columns.Goals as goal

pub returns-then-rows-lt2 : goal.returns-then-rows-lt2
returns-then-rows-lt2 c = sym (flags_len c.all.result true [] c.len.result (sym c.all.ensures)) ∙ c.len.ensures

pub returns : goal.returns
returns c =
    IfOk-weaker c.of.result _ _
    (λ flags h. sym (flags_len flags false c.mark_member.new.columns.items c.len-2.result (sym h)) ∙ c.len-2.ensures)
    c.of.ensures
