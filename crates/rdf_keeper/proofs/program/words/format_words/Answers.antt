use Rattle.std.proofs.Common.{◌≡◌, ℕ, List, [], ◌∷◌, Some, refl, sym, subst, arith, rules, codes}
use Rattle.std.specs.Prelude.{Any, map}
use Rattle.rdf_session.specs.declared.format.Format.{Format}
use Rattle.rdf_session.specs.declared.format.Format.TheVariants.{NQuads, NTriples, Turtle}
use Rattle.rdf_keeper.specs.Script.Commands.{format_named}
use Rattle.rdf_keeper.proofs.program.words.format_words.Goals as goal

words : List (List ℕ)
words = codes "nquads" ∷ codes "ntriples" ∷ codes "turtle" ∷ []

each : (format : Format) → Any (λ word. format_named word ≡ Some format) words
unfolding words
each NQuads = (0, codes "nquads", omega arith, refl, refl)
each NTriples = (1, codes "ntriples", omega arith, refl, refl)
each Turtle = (2, codes "turtle", omega arith, refl, refl)

pub returns-clause-each : goal.returns-clause-each
unfolding words
returns-clause-each c format =
    let named : map (λ word. word.now) c.as_slice.result.now ≡ words = search rules in
    subst (Any (λ word. format_named word ≡ Some format)) (sym named) (each format)
