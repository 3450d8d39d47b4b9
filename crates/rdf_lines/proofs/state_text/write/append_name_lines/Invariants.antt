use Rattle.std.proofs.Common.{◌≡◌, ◌++◌, take}
use Rattle.std.specs.List.{flat_map}
use Rattle.rdf_lines.specs.StateText.{name_line}
use Rattle.rdf_lines.proofs.state_text.write.append_name_lines.Given as goal

abbrev pub invariant-loop-name : goal.invariant-loop-name
invariant-loop-name l = l.out.items ≡ l.fn.out.items ++ flat_map name_line (take l.name-index l.names)
