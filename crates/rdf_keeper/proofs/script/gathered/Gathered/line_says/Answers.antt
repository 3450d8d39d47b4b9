use Rattle.rdf_keeper.proofs.ScriptLemmas.Pieces.{said_of_parts, in_place, two_parts}
use Rattle.rdf_keeper.proofs.script.gathered.Gathered.line_says.Goals as goal

pub returns-clause-place : goal.returns-clause-place
returns-clause-place c =
    in_place _ c.self.inside.body _ _ _ c.meaning.result (two_parts _ _ _ _ _ _ c.as_slice.ensures.value c.split_at.ensures.front c.split_at.ensures.back) c.self.view_is c.meaning.ensures.place

pub returns-clause-commands : goal.returns-clause-commands
returns-clause-commands c =
    said_of_parts _ c.self.inside.body _ _ _ c.meaning.result (two_parts _ _ _ _ _ _ c.as_slice.ensures.value c.split_at.ensures.front c.split_at.ensures.back) c.self.view_is c.meaning.ensures.commands
