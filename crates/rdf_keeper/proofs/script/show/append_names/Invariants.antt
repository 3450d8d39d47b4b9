use Rattle.std.proofs.Common.{◌≡◌, ◌++◌, drop, map}
use Rattle.std.specs.List.{concat}
use Rattle.rdf_keeper.specs.Script.Show.{name_line}
use Rattle.rdf_keeper.proofs.script.show.append_names.Given as goal

abbrev pub invariant-loop-name : goal.invariant-loop-name
invariant-loop-name l =
    l.out.items ++ concat (map (λ x. l.before ++ name_line x) (drop l.name-index l.names)) ≡ l.fn.out.items ++ concat (map (λ x. l.before ++ name_line x) l.names)
