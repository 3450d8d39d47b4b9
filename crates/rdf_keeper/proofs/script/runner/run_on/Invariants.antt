use Rattle.std.proofs.Common.{List, ℕ}
use Rattle.rdf_streams.specs.Devices.{Event, Leads}
use Rattle.rdf_keeper.proofs.ScriptLemmas.Ordered.{Ready}
use Rattle.rdf_keeper.proofs.script.runner.run_on.Given as goal

abbrev pub invariant-loop-turn : goal.invariant-loop-turn
invariant-loop-turn g l =
    (log : List Event) × (answers : List (List ℕ)) × Leads g.D.Device.step l.fn.device log l.device
    × Ready l.fn.settings.stop l.fn.keeper l.turn log answers l.keeper l.feed
