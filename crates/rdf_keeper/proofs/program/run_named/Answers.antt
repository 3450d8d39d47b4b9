use Rattle.std.proofs.Common.{refl, sym, subst, inl, inr}
use Rattle.std.specs.Prelude.{Err, Ok}
use Rattle.std.specs.Option.{option_copied}
use Rattle.rdf_streams.proofs.ConversionLemmas.Converts.{Appends-none}
use Rattle.rdf_keeper.specs.Program.Texts.{OpensOrInput}
use Rattle.rdf_keeper.specs.declared.program.outcome.Outcome.TheVariants.{ReadFailed}
use Rattle.rdf_keeper.proofs.program.run_named.Goals as goal

pub returns-in-None-clause-does : goal.returns-in-None-clause-does
returns-in-None-clause-does g c =
    let input = g.R.Read.remaining c.args.reader.now in
    let folder = c.args.folder.now in
    let opens = subst (λ path. OpensOrInput g.F.Folder.step (option_copied path) input folder (Ok input) folder) (sym c.in-None.is) (refl, refl) in
    inr (input, folder, opens, (c.run_all.ensures.ran, refl))

pub returns-in-Ok-clause-does : goal.returns-in-Ok-clause-does
returns-in-Ok-clause-does g c =
    let input = g.R.Read.remaining c.args.reader.now in
    let bytes = g.F.File.Read.remaining c.in-Ok.file in
    let opens = subst (λ path. OpensOrInput g.F.Folder.step (option_copied path) input c.args.folder.now (Ok bytes) c.open.new.self) (sym c.in-Some.is) c.in-Ok.ensures in
    inr (bytes, c.open.new.self, opens, (c.run_all-in-Ok.ensures.ran, refl))

pub returns-in-Err-clause-does : goal.returns-in-Err-clause-does
returns-in-Err-clause-does g c =
    let input = g.R.Read.remaining c.args.reader.now in
    let opens = subst (λ path. OpensOrInput g.F.Folder.step (option_copied path) input c.args.folder.now (Err ReadFailed) c.open.new.self) (sym c.in-Some.is) (c.in-Err.ensures, refl) in
    inl (opens, Appends-none _)
