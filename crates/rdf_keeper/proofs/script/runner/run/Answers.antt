use Rattle.std.proofs.Common.{subst}
use Rattle.std.specs.Io.KnownBytes.{Appends}
use Rattle.rdf_keeper.proofs.ScriptLemmas.OverBytes.{runs_over}
use Rattle.rdf_keeper.proofs.script.runner.run.Goals as goal

pub returns : goal.returns
returns g c =
    let r = c.run_within.ensures in (
      r.1,
      subst (Appends (g.W.Write.contents c.args.writer.now) (g.W.Write.contents c.run_within.new.writer)) r.2.ran.written r.2.appended,
      runs_over _ c.args.settings.stop r.0 _ _ r.1 c.run_within.result _ _ r.2.ran r.2.consumed r.2.end,
    )
