use Rattle.std.proofs.Common.{refl, ap, ◌∙◌, ◌-◌, length}
use Rattle.rdf_keeper.specs.Inside.Told.{progress_line}
use Rattle.rdf_keeper.proofs.ProgramLemmas.{as_far}
use Rattle.rdf_keeper.proofs.program.watch.Progress.tell.Goals as goal

pub returns-clause-tells : goal.returns-clause-tells
returns-clause-tells g c =
    let line = c.progress_line-line.ensures ∙ ap (progress_line c.args.self.now.read) c.size_behind.ensures in record {
      told = refl;
      width = c.saturating_sub-self.ensures ∙ ap (λ n. n - 1) (c.len.ensures.value ∙ ap length line);
      shown = as_far _ _ _ _ c.write_whole.result (c.as_slice.ensures.value ∙ line) c.write_whole.ensures;
    }
