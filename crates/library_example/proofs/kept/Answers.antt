use Rattle.std.proofs.Common.{List, ℕ, ◌++◌, ap, ◌∙◌}
use Rattle.std.specs.List.{concat}
use Rattle.library_example.proofs.KeptLemmas.{kept_lines}
use Rattle.library_example.proofs.kept.Goals as goal

pub returns : goal.returns
returns c =
    let wrote = c.in_ok-write_quads.ensures.ok in
    let text = wrote.2 ∙ ap (λ (front : List ℕ). front ++ concat wrote.0) c.new-text.ensures.items in
    kept_lines _ _ _ _ c.args.document.now c.args.update.now _ _ _ _ wrote.0 c.undo_gives_back.ensures.undo c.new-keeper.ensures c.in_ok-load.ensures c.in_ok-update.ensures c.in_ok-undo.ensures wrote.1 text
