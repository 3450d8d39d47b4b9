use Rattle.std.proofs.Common.{◌≡◌, ◌∙◌, ap, sym, ℕ, Bool, true, false, not, List, [], ◌∷◌, Option, Some, None}
use Rattle.std.specs.Option.{MatchOption, is_some}
use Rattle.rdf_terms.specs.Tags.{tag_end_at}
use Rattle.rdf_terms.proofs.TagTests.{ends_all, tag_test}
use Rattle.rdf_terms.proofs.literal.is_tag.Goals as goal

at_end : (rest : List ℕ) (next : Option ℕ) (none : Bool) → MatchOption next (rest ≡ []) (λ c. (others : List ℕ) × (rest ≡ c ∷ others))
    → is_some next ≡ not none → none ≡ ends_all (Some rest)
at_end rest None true m e = sym (ap (λ (t : List ℕ). ends_all (Some t)) m)
at_end rest None false m e = absurd cc
at_end rest (Some c) true m e = absurd cc
at_end rest (Some c) false m e = sym (ap (λ (t : List ℕ). ends_all (Some t)) m.1)

pub returns-in-Some : goal.returns-in-Some
returns-in-Some c =
    at_end c.in-Some.rest c.peek.result c.is_none.result c.peek.ensures c.is_none.ensures
    ∙ tag_test c.args.tag.now c.utf8.tag (Some c.in-Some.rest) (c.in-Some.ensures ∙ ap tag_end_at c.new.ensures)

pub returns-in-None : goal.returns-in-None
returns-in-None c = tag_test c.args.tag.now c.utf8.tag None (c.in-None.ensures ∙ ap tag_end_at c.new.ensures)
