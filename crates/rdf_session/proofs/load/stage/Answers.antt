use Rattle.rdf_session.proofs.LoadLemmas.{counted_below}
use Rattle.rdf_session.proofs.load.stage.Goals as goal

pub of_data-requires : goal.of_data-requires
of_data-requires c =
    record { below = counted_below c.args.quads.items c.blank_limit-blanks.result (rw c.as_slice.ensures.value at c.blank_limit-blanks.ensures) c.if-blanks-gt-LAST_NUMBER.false }
