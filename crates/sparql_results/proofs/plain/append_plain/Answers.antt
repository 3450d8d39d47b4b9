use Rattle.std.proofs.Common.{◌≡◌, ◌++◌, ◌∙◌, ap, sym, subst, codes, List, ℕ}
use Rattle.std.specs.Prelude.{OnOk}
use Rattle.rdf_terms.specs.TermText.{literal_text, suffix_text}
use Rattle.std.specs.List.{flat_map}
use Rattle.sparql_results.specs.ResultsText.{without_tab}
use Rattle.sparql_results.proofs.PlainLemmas.{plain_field}
use Rattle.sparql_results.proofs.plain.append_plain.Goals as goal

pub returns-clause-ok : goal.returns-clause-ok
returns-clause-ok c =
    let l = c.args.literal.now in
    let is : codes "\"" ++ c.lexical.result.now ++ codes "\"" ++ suffix_text l.datatype l.tag ≡ flat_map without_tab (literal_text l) =
    ap (λ (t : List ℕ). codes "\"" ++ t ++ codes "\"" ++ suffix_text l.datatype l.tag) c.lexical.ensures.value
    ∙ sym (plain_field l c.lexical.ensures.sound c.requires) in
    subst (λ (t : List ℕ). OnOk c.append_as_it_is.result (c.append_as_it_is.new.out.items ≡ c.args.out.now.items ++ t)) is c.append_as_it_is.ensures.ok
