use Rattle.std.proofs.Common.{◌∙◌, ap, ◌≤◌, ◌∷◌, [], ◌++◌, replicate, arith}
use Rattle.std.proofs.lemmas.List.{take-replicate}
use Rattle.rdf_keeper.proofs.program.watch.blank_line.Goals as goal

pub returns : goal.returns
returns c =
    let narrow : c.min.result ≤ 62 = omega (arith, c.min.ensures) in
    let blanks = c.split_at.ensures.front ∙ take-replicate c.min.result 62 32 narrow ∙ ap (λ n. replicate n 32) c.min.ensures in
    let begun = c.append.ensures.items ∙ ap (λ t. t ++ 13 ∷ []) c.new-line.ensures in
    c.append-3.ensures.items ∙ ap (λ t. t ++ 13 ∷ []) (c.append-2.ensures.items ∙ ap (λ t. t ++ c.split_at.result.0.now) begun ∙ ap (λ t. 13 ∷ t) blanks)
