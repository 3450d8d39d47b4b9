use Rattle.std.proofs.Common.{refl, sym, subst, inr}
use Rattle.std.specs.Prelude.{Ok}
use Rattle.std.specs.Option.{option_copied}
use Rattle.rdf_keeper.specs.Program.Texts.{OpensOrInput}
use Rattle.rdf_keeper.proofs.program.convert_words.Goals as goal

pub returns-in-None-clause-does : goal.returns-in-None-clause-does
returns-in-None-clause-does g c =
    let input = g.R.Read.remaining c.args.reader.now in
    let folder = c.args.folder.now in
    let opens = subst (λ path. OpensOrInput g.F.Folder.step (option_copied path) input folder (Ok input) folder) (sym c.in-None.is) (refl, refl) in
    inr (c.in-Ok.base, folder, (c.in-Ok.ensures, refl), inr (input, folder, opens, (c.convert_told.ensures.written, refl)))

pub returns-in-Ok-open-clause-does : goal.returns-in-Ok-open-clause-does
returns-in-Ok-open-clause-does g c =
    let input = g.R.Read.remaining c.args.reader.now in
    let bytes = g.F.File.Read.remaining c.in-Ok-open.file in
    let opens = subst (λ path. OpensOrInput g.F.Folder.step (option_copied path) input c.args.folder.now (Ok bytes) c.open.new.self) (sym c.in-Some.is) c.in-Ok-open.ensures in
    inr (c.in-Ok.base, c.args.folder.now, (c.in-Ok.ensures, refl), inr (bytes, c.open.new.self, opens, (c.convert_told-in-Ok-open.ensures.written, refl)))
