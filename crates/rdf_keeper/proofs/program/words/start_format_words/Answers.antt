use Rattle.std.proofs.Common.{◌≡◌, ℕ, List, [], ◌∷◌, Some, refl, sym, subst, arith, rules, codes}
use Rattle.std.specs.Prelude.{Any, map}
use Rattle.rdf_session.specs.declared.format.Format.TheVariants.{NQuads, NTriples, Turtle}
use Rattle.rdf_keeper.specs.Inside.Starts.{start_format_named}
use Rattle.rdf_keeper.specs.declared.program.words.StartFormat.{StartFormat}
use Rattle.rdf_keeper.specs.declared.program.words.StartFormat.TheVariants.{Document, State}
use Rattle.rdf_keeper.proofs.program.words.start_format_words.Goals as goal

words : List (List ℕ)
words = codes "nquads" ∷ codes "ntriples" ∷ codes "turtle" ∷ codes "state" ∷ []

each : (format : StartFormat) → Any (λ word. start_format_named word ≡ Some format) words
unfolding words
each (Document NQuads) = (0, codes "nquads", omega arith, refl, refl)
each (Document NTriples) = (1, codes "ntriples", omega arith, refl, refl)
each (Document Turtle) = (2, codes "turtle", omega arith, refl, refl)
each State = (3, codes "state", omega arith, refl, refl)

pub returns-clause-each : goal.returns-clause-each
unfolding words
returns-clause-each c format =
    let named : map (λ word. word.now) c.as_slice.result.now ≡ words = search rules in
    subst (Any (λ word. start_format_named word ≡ Some format)) (sym named) (each format)
