use Rattle.std.proofs.Common.{◌∙◌, ap, append_assoc, arith, List, [], ◌∷◌, ◌++◌}
use Rattle.rdf_streams.specs.declared.conversion.parts.Part.{Part}
use Rattle.rdf_streams.specs.declared.conversion.parts.Part.TheVariants.{Text}
use Rattle.rdf_streams.proofs.ConversionLemmas.Parts.{bytes_more, one_text_more}
use Rattle.rdf_streams.proofs.conversion.parts.append_texts.Goals as goal

pub loop-left-preserved : goal.loop-left-preserved
loop-left-preserved c =
    let inv = c.loop-left.invariant in
    let some = c.min-some.result in (
      inv.0 ++ Text some ∷ [],
      c.in_ok-push.ensures.items ∙ ap (λ (ps : List Part). ps ++ Text some ∷ []) inv.1 ∙ append_assoc c.args.parts.now.items inv.0 (Text some ∷ []),
      one_text_more inv.0 some inv.2,
      omega (arith, bytes_more inv.0 some, inv.3),
    )
