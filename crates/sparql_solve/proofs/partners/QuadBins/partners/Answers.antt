use Rattle.std.proofs.Common.{◌≡◌, Bor, List, Some, ap, sym, ◌∙◌}
use Rattle.std.specs.List.{list_all}
use Rattle.rdf_terms.specs.Quad.{QuadParts}
use Rattle.sparql_solve.specs.Matching.{has_held, held, matches_of}
use Rattle.sparql_solve.specs.Partners.{end_of}
use Rattle.sparql_solve.proofs.PartnerLemmas.{all_held, bin_held, bin_matches, quads_of}
use Rattle.sparql_solve.proofs.partners.QuadBins.partners.Goals.{After-bin}
use Rattle.sparql_solve.proofs.partners.QuadBins.partners.Goals as goal

has_term : (c : After-bin) → held c.args.row.now (end_of c.args.self.now.is_subject c.args.places.now) ≡ Some c.in-Some.term.now
has_term c = ap (held c.args.row.now) (sym c.end_of.ensures) ∙ sym c.in-Some.ensures

pub returns-in-Some-clause-held : goal.returns-in-Some-clause-held
returns-in-Some-clause-held c =
    ap (list_all (has_held c.args.places.now c.args.row.now)) (c.bin.ensures ∙ c.args.self.now.parted c.in-Some.term.now)
    ∙ bin_held c.args.places.now c.args.row.now c.args.self.now.is_subject c.requires.asks c.in-Some.term.now (has_term c) (quads_of c.args.self.now.all.items) c.requires.found

pub returns-in-Some-clause-same : goal.returns-in-Some-clause-same
returns-in-Some-clause-same c =
    ap (λ (qs : List QuadParts). matches_of qs c.args.places.now c.args.row.now) (c.bin.ensures ∙ c.args.self.now.parted c.in-Some.term.now)
    ∙ bin_matches c.args.places.now c.args.row.now c.args.self.now.is_subject c.requires.asks c.in-Some.term.now (has_term c) (quads_of c.args.self.now.all.items)

pub returns-in-None-clause-held : goal.returns-in-None-clause-held
returns-in-None-clause-held c =
    ap (λ (qs : List (Bor QuadParts)). list_all (has_held c.args.places.now c.args.row.now) (quads_of qs)) c.as_slice.ensures.value
    ∙ all_held c.args.places.now c.args.row.now c.args.self.now.is_subject c.requires.asks
    (ap (held c.args.row.now) (sym c.end_of.ensures) ∙ sym c.in-None.ensures) (quads_of c.args.self.now.all.items) c.requires.found

pub returns-in-None-clause-same : goal.returns-in-None-clause-same
returns-in-None-clause-same c = ap (λ (qs : List (Bor QuadParts)). matches_of (quads_of qs) c.args.places.now c.args.row.now) c.as_slice.ensures.value
