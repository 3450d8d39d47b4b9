use Rattle.std.proofs.Common.{◌≡◌, ◌∙◌, sym, ap, subst, take, length, ◌-◌}
use Rattle.std.specs.List.{slice_get, AllByRecursion}
use Rattle.std.specs.declared.cmp.Ordering.TheVariants.{Less}
use Rattle.rdf_sets.proofs.SortedLemmas.{popped_alone, popped_first, popped_second, popped_both, all_less, last_none, turned_less}
use Rattle.rdf_sets.proofs.sorted.pop_greatest.Goals as goal

pub returns-in_default : goal.returns-in_default
returns-in_default g c =
    popped_alone g.met.T.Item.in_order g.met.T.Item.apart c.args.items.now.items c.args.more.now.items c.pop.new.self.items c.pop.result
    (last_none g.met.T.Item.in_order g.met.T.Item.apart c.args.items.now.items (ap (λ l. slice_get l (length l - 1)) (sym c.deref.ensures.value) ∙ sym c.in_default.ensures.value))
    (c.pop.ensures.rest ∙ ap (λ n. take (n - 1) c.args.more.now.items) c.args.more.now.ok.0) c.pop.ensures.items

pub returns-in_default-last : goal.returns-in_default-last
returns-in_default-last g c =
    let none = last_none g.met.T.Item.in_order g.met.T.Item.apart c.args.more.now.items (ap (λ l. slice_get l (length l - 1)) (sym c.deref-2.ensures.value) ∙ sym c.in_default-last.ensures.value) in
    popped_first g.met.T.Item.in_order g.met.T.Item.apart c.args.items.now.items c.args.more.now.items c.pop-in_default-last.new.self.items c.pop-in_default-last.result c.in-Some.item.now
    (ap (λ l. slice_get l (length l - 1)) (sym c.deref.ensures.value) ∙ sym c.in-Some.ensures.value) (c.pop-in_default-last.ensures.rest ∙ ap (λ n. take (n - 1) c.args.items.now.items) c.args.items.now.ok.0) c.pop-in_default-last.ensures.items
    (λ _. subst (AllByRecursion (λ w. g.T.Item.order w c.in-Some.item.now ≡ Less)) (sym none) tt)

pub returns-in-Less : goal.returns-in-Less
returns-in-Less g c =
    popped_second g.met.T.Item.in_order g.met.T.Item.apart c.args.items.now.items c.args.more.now.items c.pop-in-Less.new.self.items c.pop-in-Less.result c.in-Some-last.other.now
    (ap (λ l. slice_get l (length l - 1)) (sym c.deref-2.ensures.value) ∙ sym c.in-Some-last.ensures.value) (c.pop-in-Less.ensures.rest ∙ ap (λ n. take (n - 1) c.args.more.now.items) c.args.more.now.ok.0) c.pop-in-Less.ensures.items
    (all_less g.met.T.Item.in_order g.met.T.Item.apart c.args.items.now.items c.in-Some.item.now c.in-Some-last.other.now (ap (λ l. slice_get l (length l - 1)) (sym c.deref.ensures.value) ∙ sym c.in-Some.ensures.value) (sym c.in-Less.ensures))

pub returns-in-Equal : goal.returns-in-Equal
returns-in-Equal g c =
    popped_both g.met.T.Item.in_order g.met.T.Item.apart c.args.items.now.items c.args.more.now.items c.pop-in-Equal-2.new.self.items c.pop-in-Equal.new.self.items c.pop-in-Equal-2.result c.pop-in-Equal.result c.in-Some.item.now c.in-Some-last.other.now
    (sym c.in-Equal.ensures)
    (ap (λ l. slice_get l (length l - 1)) (sym c.deref.ensures.value) ∙ sym c.in-Some.ensures.value) (c.pop-in-Equal-2.ensures.rest ∙ ap (λ n. take (n - 1) c.args.items.now.items) c.args.items.now.ok.0) c.pop-in-Equal-2.ensures.items
    (ap (λ l. slice_get l (length l - 1)) (sym c.deref-2.ensures.value) ∙ sym c.in-Some-last.ensures.value) (c.pop-in-Equal.ensures.rest ∙ ap (λ n. take (n - 1) c.args.more.now.items) c.args.more.now.ok.0) c.pop-in-Equal.ensures.items

pub returns-in-Greater : goal.returns-in-Greater
returns-in-Greater g c =
    popped_first g.met.T.Item.in_order g.met.T.Item.apart c.args.items.now.items c.args.more.now.items c.pop-in-Greater.new.self.items c.pop-in-Greater.result c.in-Some.item.now
    (ap (λ l. slice_get l (length l - 1)) (sym c.deref.ensures.value) ∙ sym c.in-Some.ensures.value) (c.pop-in-Greater.ensures.rest ∙ ap (λ n. take (n - 1) c.args.items.now.items) c.args.items.now.ok.0) c.pop-in-Greater.ensures.items
    (all_less g.met.T.Item.in_order g.met.T.Item.apart c.args.more.now.items c.in-Some-last.other.now c.in-Some.item.now (ap (λ l. slice_get l (length l - 1)) (sym c.deref-2.ensures.value) ∙ sym c.in-Some-last.ensures.value) (turned_less g.met.T.Item.in_order g.met.T.Item.apart c.in-Some.item.now c.in-Some-last.other.now (sym c.in-Greater.ensures)))
