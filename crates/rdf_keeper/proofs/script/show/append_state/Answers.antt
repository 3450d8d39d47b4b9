use Rattle.std.proofs.Common.{rules, ◌∙◌, ◌++◌, refl, sym, ap, length, nat_eq}
use Rattle.std.specs.List.{filter}
use Rattle.rdf_session.specs.Session.{now}
use Rattle.rdf_keeper.specs.Script.Lines.{raw_lines}
use Rattle.rdf_keeper.proofs.ScriptLemmas.Cuts.{lines_are_the_text}
use Rattle.rdf_keeper.proofs.ScriptLemmas.LineCounts.{appended, state_lines_counted}
use Rattle.rdf_keeper.proofs.script.show.append_state.Goals as goal

pub returns : goal.returns
returns c =
    let p = c.in_ok-dump.ensures.ok in
    let text = appended c.deref.result.now c.dump.new.out.items c.args.out.now.items p.0 c.len-before.result c.deref.ensures.value p.2 (search rules) in (
      raw_lines p.0,
      (p.0, p.1, refl),
      p.2 ∙ ap (λ l. c.args.out.now.items ++ l) (sym (lines_are_the_text p.0)),
      c.line_ends.ensures ∙ ap (λ l. length (filter (λ b. nat_eq b 10) l)) text ∙ sym (state_lines_counted (now c.args.keeper.now) p.0 p.1),
    )
