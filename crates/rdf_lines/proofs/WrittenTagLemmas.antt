-- What a tag's characters aren't.
use Rattle.std.proofs.Common.{◌≡◌, ◌≢◌, ◌∙◌, ap, sym, ℕ, arith, true, false, List, true≢false}
use Rattle.std.specs.List.{AllByRecursion}
use Rattle.std.proofs.lemmas.Bool.Decides.{nat_tests}
use Rattle.rdf_terms.specs.LineEnds.{is_line_end}
use Rattle.rdf_terms.specs.Tags.{IsTagName}
use Rattle.rdf_terms.proofs.CallerLemmas.{is_tag_part, each_part}

-- no space
part_black : (c : ℕ) → is_tag_part c ≡ true → c ≢ 32
part_black c h e = true≢false (sym h ∙ ap is_tag_part e)

pub tag_black : (name : List ℕ) → IsTagName name → AllByRecursion (λ c. c ≢ 32) name
tag_black name h = each_part (λ c. c ≢ 32) part_black name h

-- no line end
part_no_end : (c : ℕ) → is_tag_part c ≡ true → is_line_end c ≡ false
part_no_end c h = grind (arith, nat_tests)

pub tag_no_end : (name : List ℕ) → IsTagName name → AllByRecursion (λ c. is_line_end c ≡ false) name
tag_no_end name h = each_part (λ c. is_line_end c ≡ false) part_no_end name h
