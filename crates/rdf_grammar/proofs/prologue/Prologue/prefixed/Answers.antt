use Rattle.std.proofs.Common.{◌≡◌, None, rules}
use Rattle.std.specs.Map.{lookup}
use Rattle.rdf_grammar.specs.Keys.{key_of, same_key}
use Rattle.rdf_grammar.proofs.PrologueKeys.{not_declared}
use Rattle.rdf_grammar.proofs.prologue.Prologue.prefixed.Goals as goal

pub returns-in_default-clause-fault : goal.returns-in_default-clause-fault
returns-in_default-clause-fault c =
    let none : lookup (same_key (key_of c.args.prefix.now)) c.args.self.now.prefixes ≡ None = search rules in
    not_declared (key_of c.args.prefix.now) c.args.self.now none
