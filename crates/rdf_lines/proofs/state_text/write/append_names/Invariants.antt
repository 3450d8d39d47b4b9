use Rattle.std.proofs.Common.{◌≡◌, ◌++◌, take}
use Rattle.std.specs.List.{flat_map}
use Rattle.rdf_lines.specs.StateText.{name_line}
use Rattle.rdf_lines.proofs.state_text.write.append_names.Given as goal

abbrev pub invariant-loop-name : goal.invariant-loop-name
invariant-loop-name l = l.out.items ≡ l.fn.out.items ++ flat_map (λ n. name_line n.now) (take l.name-index l.name-items)
