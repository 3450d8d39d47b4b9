use Rattle.std.proofs.Common.{◌≡◌, List, ℕ, ◌+◌, ◌*◌, length, arith, ap, ◌∙◌}
use Rattle.sparql_eval.specs.Templates.{all_instances}
use Rattle.sparql_eval.proofs.ModifyLemmas.{IsFound, come_below, found_instances}
use Rattle.sparql_eval.proofs.modify.instances.Goals as goal
use Rattle.sparql_trees.specs.declared.template.QuadPattern.{QuadPattern}
use Rattle.sparql_values.specs.Mapping.{Mapping}

pub returns-clause-made : goal.returns-clause-made
returns-clause-made g c =
    let s = g.S.Source.contents c.args.source.now in
    let m = c.args.operation.now in
    let variables = c.args.found.now.variables in
    let rows = c.args.found.now.rows.items in
    let home = c.args.home.now in
    let first = c.next_blank-first.result in
    let from = c.next_blank-first.ensures.value in
    let found : IsFound s m variables rows home = record { variables_are = c.requires.variables; rows_are = c.requires.rows; home_is = c.requires.home } in
    let count : c.len.result ≡ length rows = omega (arith, c.len.ensures, c.args.found.now.rows.ok.0) in
    let taken : c.in-Some.blanks ≡ length rows * m.insert.blanks = c.in-Some.ensures.1 ∙ ap (λ (n : ℕ). n * m.insert.blanks) count in
    let gone = c.in_ok-gone.ensures ∙ ap (λ (quads : List QuadPattern). all_instances variables home 0 quads first rows) c.as_slice-deleted.ensures in
    let come = c.in_ok-come.ensures ∙ ap (λ (quads : List QuadPattern). all_instances variables home m.insert.blanks quads first rows) c.as_slice-inserted.ensures in
    record {
      gone_are = gone ∙ found_instances s m variables rows home found 0 m.delete.quads first from;
      blanks_are = taken ∙ ap (λ (solutions : List Mapping). length solutions * m.insert.blanks) c.requires.rows;
      come_are = come ∙ found_instances s m variables rows home found m.insert.blanks m.insert.quads first from;
      room = omega (arith, c.in-Some.ensures.0, from);
      below = come_below s m variables rows home found (s.next + c.in-Some.blanks) first c.in_ok-come.come.items c.next_blank-first.ensures.sound from (ap (λ (n : ℕ). s.next + n) taken) come;
    }
