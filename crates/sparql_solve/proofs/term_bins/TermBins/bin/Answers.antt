use Rattle.std.proofs.Common.{◌≡◌, ◌<◌, ap, sym, subst, ◌∙◌, arith, length, get_or, List, map}
use Rattle.std.proofs.lemmas.List.{length-map}
use Rattle.sparql_solve.specs.declared.term_bins.Bin.{Bin}
use Rattle.sparql_solve.specs.Bins.{bin_items}
use Rattle.sparql_solve.proofs.BinLemmas.{bin_found, bin_missing, get_found, id_below}
use Rattle.sparql_solve.proofs.term_bins.TermBins.bin.Goals as goal

pub returns-in_default : goal.returns-in_default
returns-in_default g c =
    ap (map (λ x. x.now)) (c.as_slice.ensures.value ∙ c.args.self.now.empty)
    ∙ sym (bin_missing c.args.self.now.terms (map bin_items c.args.self.now.bins.items) c.args.term.now c.in_default.ensures.absent)

pub returns-in-Some-get : goal.returns-in-Some-get
returns-in-Some-get g c =
    let bins : List (Bin g.row.T.Denot) = c.args.self.now.bins.items in
    let id = c.in-Some.id.0 in
    let found : Bin g.row.T.Denot = c.in-Some-get.bin.now in
    let below : id < length bins = subst (λ (l : List (Bin g.row.T.Denot)). id < length l) c.deref.ensures.value c.in-Some-get.ensures.lookup.3.0 in
    let here : found ≡ get_or bins id found = subst (λ (l : List (Bin g.row.T.Denot)). found ≡ get_or l id found) c.deref.ensures.value c.in-Some-get.ensures.lookup.1 in
    c.as_slice-in-Some-get.ensures
    ∙ sym (bin_found c.args.self.now.terms (map bin_items bins) id c.args.term.now (bin_items found) c.terms_are_held_once.ensures.once c.in-Some.ensures.found
    (sym (length-map bins bin_items ∙ c.args.self.now.paired)) (get_found bin_items bins id found below here))

pub returns-in-None : goal.returns-in-None
returns-in-None g c =
    let below = id_below c.args.self.now.terms c.in-Some.id.0 c.args.term.now c.in-Some.ensures.found in
    absurd (omega (arith, below, c.args.self.now.paired, ap length c.deref.ensures.value, c.in-None.ensures.lookup.3))
