use Rattle.std.proofs.Common.{◌≡◌, ◌++◌, ℕ, List, length, subst, sym}
use Rattle.std.specs.List.{concat}
use Rattle.std.specs.Prelude.{IfOk}
use Rattle.rdf_keeper.specs.Script.Show.{Shows}
use Rattle.rdf_keeper.specs.declared.script.command.Topic.{Topic}
use Rattle.rdf_keeper.proofs.script.answer.append_topic.Goals as goal

pub returns-in-State : goal.returns-in-State
returns-in-State c =
    subst (λ (t : Topic). IfOk c.append_state.result (λ count. (lines : List (List ℕ)) × Shows t c.args.keeper.now lines
    × (c.append_state.new.out.items ≡ c.args.out.now.items ++ concat lines) × (count ≡ length lines)))
    (sym c.in-State.is) c.append_state.ensures
