use Rattle.std.proofs.Common.{◌≡◌, ◌∙◌, ap, sym, length, refl, not, true, false, rules}
use Rattle.std.specs.BTreeSet.{contains}
use Rattle.rdf_orders.specs.declared.order.Order.TheVariants.{Spo}
use Rattle.rdf_orders.specs.Quads.{key_cmp, key_in, quad_of}
use Rattle.rdf_orders.proofs.TreeLemmas.{key_in-quad_at, key_in_tree, gains_key, mirrors_gain, mirrors_same, mirrors_back, on_false_of, true_of_not, false_of_not}
use Rattle.rdf_orders.proofs.trees.Trees.insert.Goals as goal

pub returns-then-not-branch-clause-ok : goal.returns-then-not-branch-clause-ok
returns-then-not-branch-clause-ok c quads m =
    let four : length c.args.quad.now ≡ 4 = search rules in
    let key = key_in-quad_at Spo c.args.quad.now four in
    let old : c.in_ok-insert.field-0 ≡ false = search rules in
    let is : contains key_cmp c.args.self.now.spo c.args.quad.now ≡ true = true_of_not _ (sym old ∙ c.in_ok-insert.ensures.added) in
    mirrors_same _ (quad_of c.args.quad.now) quads m (ap (contains key_cmp c.args.self.now.spo) key ∙ is) _ (on_false_of _ c.in_ok-insert.ensures.unchanged old) refl refl

pub returns-then-not-branch-clause-new : goal.returns-then-not-branch-clause-new
returns-then-not-branch-clause-new c quads m =
    let four : length c.args.quad.now ≡ 4 = search rules in
    let old : c.in_ok-insert.field-0 ≡ false = search rules in
    sym old ∙ c.in_ok-insert.ensures.added
    ∙ ap not (ap (contains key_cmp c.args.self.now.spo) (sym (key_in-quad_at Spo c.args.quad.now four)) ∙ key_in_tree _ quads m Spo (quad_of c.args.quad.now))

pub returns-in-Err-clause-err : goal.returns-in-Err-clause-err
returns-in-Err-clause-err c quads m =
    let four : length c.args.quad.now ≡ 4 = search rules in
    let key = key_in-quad_at Spo c.args.quad.now four in
    let new : c.in_ok-insert.field-0 ≡ true = search rules in
    let absent : contains key_cmp c.args.self.now.spo c.args.quad.now ≡ false = false_of_not _ (sym new ∙ c.in_ok-insert.ensures.added) in
    mirrors_back _ (quad_of c.args.quad.now) _ _ _ (ap (contains key_cmp c.args.self.now.spo) key ∙ absent)
    (gains_key _ _ c.args.quad.now (key_in Spo (quad_of c.args.quad.now)) (sym key) c.in_ok-insert.ensures.updates) refl refl
    c.in-Err.ensures.err c.remove.ensures.keys quads m

pub returns-clause-ok : goal.returns-clause-ok
returns-clause-ok c quads m =
    let four : length c.args.quad.now ≡ 4 = search rules in
    let key = key_in-quad_at Spo c.args.quad.now four in
    let behind = c.in_default.ensures.ok in
    mirrors_gain c.args.self.now _ (quad_of c.args.quad.now)
    (λ k. ap (λ s. contains key_cmp s k) behind.first ∙ gains_key _ _ c.args.quad.now (key_in Spo (quad_of c.args.quad.now)) (sym key) c.in_ok-insert.ensures.updates k)
    behind.pos behind.osp quads m

pub returns-clause-new : goal.returns-clause-new
returns-clause-new c quads m =
    let four : length c.args.quad.now ≡ 4 = search rules in
    let new : c.in_ok-insert.field-0 ≡ true = search rules in
    sym new ∙ c.in_ok-insert.ensures.added
    ∙ ap not (ap (contains key_cmp c.args.self.now.spo) (sym (key_in-quad_at Spo c.args.quad.now four)) ∙ key_in_tree _ quads m Spo (quad_of c.args.quad.now))
