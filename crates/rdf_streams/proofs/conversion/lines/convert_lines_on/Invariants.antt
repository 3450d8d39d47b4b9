use Rattle.std.proofs.Common.{◌≡◌, [], List}
use Rattle.rdf_terms.specs.declared.quad.Quad.{Quad}
use Rattle.rdf_streams.specs.Devices.{Event, Leads}
use Rattle.rdf_streams.proofs.ConversionLemmas.Ordered.{Ready}
use Rattle.rdf_streams.proofs.conversion.lines.convert_lines_on.Given as goal

abbrev pub invariant-loop-turn : goal.invariant-loop-turn
invariant-loop-turn g l =
    (log : List Event) × (quads : List Quad) × Leads g.D.Device.step l.fn.device log l.device × Ready l.fn.format l.turn log quads l.document × (l.lines.items ≡ [])
