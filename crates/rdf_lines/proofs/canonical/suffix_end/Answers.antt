use Rattle.std.proofs.Common.{◌∷◌, sym, ap, subst, ◌∙◌, IfSome, ℕ, List}
use Rattle.rdf_terms.proofs.CallerLemmas.{expect_sound}
use Rattle.rdf_lines.specs.Inside.Slices.{ReadsSuffix}
use Rattle.rdf_lines.proofs.SuffixSlices.{no_suffix}
use Rattle.rdf_lines.proofs.canonical.suffix_end.Goals as goal

pub returns-in-Some : goal.returns-in-Some
returns-in-Some c = subst (λ (t : List ℕ). IfSome c.tag_end.result (ReadsSuffix t)) (sym (expect_sound 64 c.args.at.now c.in-Some.name (sym c.in-Some.ensures))) c.tag_end.ensures

pub returns-in-Some-expect : goal.returns-in-Some-expect
returns-in-Some-expect c =
    subst (λ (t : List ℕ). IfSome c.datatype_end.result (ReadsSuffix t)) (sym (expect_sound 94 c.args.at.now c.in-Some-expect.one (sym c.in-Some-expect.ensures))) c.datatype_end.ensures

pub returns-else-has_mark : goal.returns-else-has_mark
returns-else-has_mark c =
    subst (λ (t : List ℕ). ReadsSuffix c.args.at.now t) (sym c.fork.ensures) (no_suffix c.args.at.now c.skip_white.result c.skip_white.ensures (sym c.has_mark.ensures ∙ c.if-has_mark.false))
