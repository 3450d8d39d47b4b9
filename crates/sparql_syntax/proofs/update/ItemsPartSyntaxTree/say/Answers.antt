use Rattle.std.proofs.Common.{◌≡◌, List, Some, IsTrue, map, rules, subst, sym}
use Rattle.std.specs.List.{list_all}
use Rattle.std.specs.Option.{option_copied}
use Rattle.sparql_grammar.specs.Proper.{holds, proper_part}
use Rattle.sparql_grammar.specs.declared.tree.Part.{Part}
use Rattle.sparql_syntax.specs.Meaning.{drafts_of}
use Rattle.sparql_syntax.proofs.RequestLemmas.{drafts_below}
use Rattle.sparql_syntax.proofs.UpdateTrees.{tree_proper}
use Rattle.sparql_syntax.proofs.update.ItemsPartSyntaxTree.say.Goals as goal

pub drafts_of-requires : goal.drafts_of-requires
drafts_of-requires c =
    subst (λ (parts : List Part). IsTrue (list_all holds (map proper_part parts))) (sym c.into_vec.ensures) (tree_proper c.requires.0 c.args.self c.requires.1)

pub judged-requires : goal.judged-requires
judged-requires c =
    let base = option_copied c.args.base in
    let said : drafts_of base c.args.self ≡ Some c.in_ok-drafts.drafts = search rules in
    drafts_below base c.args.self c.in_ok-drafts.drafts said
