use Rattle.std.proofs.Common.{rules, ◌≡◌, ap, sym, ◌∙◌, ◌∷◌, [], Some, length, map}
use Rattle.std.proofs.lemmas.List.{length-map, map-append}
use Rattle.std.proofs.lemmas.Result.{IfOk-weaker}
use Rattle.rdf_terms.specs.Table.{with_term}
use Rattle.sparql_solve.specs.declared.term_bins.Bin.TheVariants.{One}
use Rattle.sparql_solve.specs.Bins.{bin_items}
use Rattle.sparql_solve.proofs.BinLemmas.{held_gives, held_paired, new_gives}
use Rattle.sparql_solve.proofs.term_bins.put.Goals as goal

pub returns-clause-paired : goal.returns-clause-paired
returns-clause-paired g c =
    let old = map bin_items c.args.bins.now.items in
    let many : length old ≡ length c.args.bins.now.items = length-map c.args.bins.now.items bin_items in
    let len_is : c.args.bins.now.len ≡ length c.args.bins.now.items = search rules in
    IfOk-weaker c.put_at.result _ _ (λ x a. sym (length-map c.put_at.new.bins.items bin_items)
    ∙ held_paired c.args.terms.now c.intern.new.self old (map bin_items c.put_at.new.bins.items) c.args.term.now c.in_ok-place.field-0.0 c.args.item.now
    (c.in_ok-place.ensures.kept ∙ ap (with_term c.args.terms.now) c.in_ok-copy.ensures) (c.in_ok-place.ensures.id ∙ ap Some c.in_ok-copy.ensures)
    (many ∙ c.requires) c.terms_are_held_once.ensures.once (λ e. c.if-place-len.false (e ∙ many ∙ sym len_is ∙ sym c.len.ensures)) a) c.put_at.ensures

pub returns-clause-put : goal.returns-clause-put
returns-clause-put g c =
    let old = map bin_items c.args.bins.now.items in
    let many : length old ≡ length c.args.bins.now.items = length-map c.args.bins.now.items bin_items in
    let len_is : c.args.bins.now.len ≡ length c.args.bins.now.items = search rules in
    IfOk-weaker c.put_at.result _ _ (λ x a.
    held_gives c.args.terms.now c.intern.new.self old (map bin_items c.put_at.new.bins.items) c.args.term.now c.in_ok-place.field-0.0 c.args.item.now
    (c.in_ok-place.ensures.kept ∙ ap (with_term c.args.terms.now) c.in_ok-copy.ensures) (c.in_ok-place.ensures.id ∙ ap Some c.in_ok-copy.ensures)
    (many ∙ c.requires) c.terms_are_held_once.ensures.once (λ e. c.if-place-len.false (e ∙ many ∙ sym len_is ∙ sym c.len.ensures)) a) c.put_at.ensures

pub returns-then-place-len-clause-put : goal.returns-then-place-len-clause-put
returns-then-place-len-clause-put g c =
    let old = map bin_items c.args.bins.now.items in
    let many : length old ≡ length c.args.bins.now.items = length-map c.args.bins.now.items bin_items in
    let len_is : c.args.bins.now.len ≡ length c.args.bins.now.items = search rules in
    new_gives c.args.terms.now c.intern.new.self old (map bin_items c.push.new.self.items) c.args.term.now c.in_ok-place.field-0.0 c.args.item.now
    (c.in_ok-place.ensures.kept ∙ ap (with_term c.args.terms.now) c.in_ok-copy.ensures) (c.in_ok-place.ensures.id ∙ ap Some c.in_ok-copy.ensures)
    (many ∙ c.requires) c.terms_are_held_once.ensures.once (c.if-place-len.true ∙ c.len.ensures ∙ len_is ∙ sym many)
    (ap (map bin_items) c.in_ok-push.ensures.items ∙ map-append bin_items c.args.bins.now.items (One c.args.item ∷ []))
