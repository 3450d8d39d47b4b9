use Rattle.std.proofs.Common.{List, ap, length, slice_index, take, ◌∙◌, ◌≡◌, ℕ}
use Rattle.std.specs.Cmp.Lexicographic.{same_text}
use Rattle.std.proofs.lemmas.List.{get_or-take}
use Rattle.sparql_solve.proofs.coded.shared_bytes.Goals as goal

pub returns-then-starts_with-clause-alike : goal.returns-then-starts_with-clause-alike
returns-then-starts_with-clause-alike c k h =
    let front : c.args.left.now ≡ take (length c.args.left.now) c.args.right.now =
    same_text c.args.left.now (take (length c.args.left.now) c.args.right.now) c.if-starts_with.ensures.value in
    ap (λ (xs : List ℕ). slice_index xs k) front ∙ get_or-take (length c.args.left.now) c.args.right.now k 0 h
