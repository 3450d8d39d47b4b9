use Rattle.std.proofs.Common.{◌∙◌, ap, refl, inl, inr, ℕ, List, Option}
use Rattle.std.proofs.lemmas.Result.{err_from_is_err_and}
use Rattle.std.specs.Prelude.{Err}
use Rattle.rdf_keeper.specs.Program.Stages.{mapped}
use Rattle.rdf_keeper.proofs.SeveralLemmas.{further_at, further_done}
use Rattle.rdf_keeper.proofs.program.several.load_further.Goals as goal

pub loop-word-init : goal.loop-word-init
loop-word-init g c result new loads = loads

pub loop-word-preserved : goal.loop-word-preserved
loop-word-preserved g c result new loads =
    let mid : g.row.F.Denot × Option (List ℕ) = (c.text_named.new.folder, g.R.Read.remaining c.text_named.new.reader) in
    c.loop-word.invariant result new
    (further_at g.F.Folder.step c.args.words.now c.loop-word.word-index _ _ _ _ _ c.loop-word-test.true
    (inr (c.in_ok-text.text.items, mid, c.in_ok-text.ensures.read, inr (c.load_start.new.keeper, mid, (c.in_ok-load_start.ensures, refl), loads))))

pub returns-in_err-text : goal.returns-in_err-text
returns-in_err-text g c =
    let p = err_from_is_err_and c.from_residual.result c.from_residual.ensures.1 in
    let told = ap (λ r. mapped (λ u. c.loop-word.keeper) r) (p.1 ∙ ap (λ e. Err e) p.2) in
    c.loop-word.invariant _ _
    (further_at g.F.Folder.step c.args.words.now c.loop-word.word-index _ _ _ _ _ c.loop-word-test.true
    (inl (c.in_err-text.field-0.0, c.in_err-text.ensures.read, told)))

pub returns-in_err-load_start : goal.returns-in_err-load_start
returns-in_err-load_start g c =
    let p = err_from_is_err_and c.from_residual-in_err-load_start.result c.from_residual-in_err-load_start.ensures.1 in
    let told = ap (λ r. mapped (λ u. c.load_start.new.keeper) r) (p.1 ∙ ap (λ e. Err e) p.2) in
    let mid : g.row.F.Denot × Option (List ℕ) = (c.text_named.new.folder, g.R.Read.remaining c.text_named.new.reader) in
    c.loop-word.invariant _ _
    (further_at g.F.Folder.step c.args.words.now c.loop-word.word-index _ _ _ _ _ c.loop-word-test.true
    (inr (c.in_ok-text.text.items, mid, c.in_ok-text.ensures.read, inl (c.in_err-load_start.field-0.0, (c.in_err-load_start.ensures, refl), told))))

pub returns : goal.returns
returns g c = c.loop-word.invariant _ _ (further_done g.F.Folder.step c.args.words.now c.loop-word.word-index _ _ c.loop-word-test.false)
