use Rattle.std.proofs.Common.{◌≡◌, ◌∙◌, ◌++◌, ap, List, ℕ}
use Rattle.rdf_terms.specs.Iri.{has_scheme, has_forbidden}
use Rattle.rdf_tokens.specs.Values.{local_value}
use Rattle.rdf_grammar.proofs.PrologueIris.{behind_iri, taken}
use Rattle.rdf_grammar.proofs.names.pname.Goals as goal

pub from_allowed-requires : goal.from_allowed-requires
from_allowed-requires c =
    let part : List ℕ = local_value c.args.local.now in
    let is : c.in_ok-text.text ≡ c.args.front.now ++ part = c.in_ok-text.ensures ∙ ap (λ (t : List ℕ). t ++ part) c.as_str.ensures.value in
    let facts = behind_iri c.args.front.now part c.as_str.ensures.sound c.requires in
    ap has_forbidden is ∙ facts.1

pub unreachable-requires : goal.unreachable-requires
unreachable-requires c =
    let part : List ℕ = local_value c.args.local.now in
    let is : c.in_ok-text.text ≡ c.args.front.now ++ part = c.in_ok-text.ensures ∙ ap (λ (t : List ℕ). t ++ part) c.as_str.ensures.value in
    let facts = behind_iri c.args.front.now part c.as_str.ensures.sound c.requires in
    let found = taken c.from_allowed.result c.in_ok-text.text (ap has_scheme is ∙ facts.0) c.from_allowed.ensures in
    c.in_default.not-Some c.in_ok-text.text found

pub returns : goal.returns
returns c =
    let part : List ℕ = local_value c.args.local.now in
    let is : c.in_ok-text.text ≡ c.args.front.now ++ part = c.in_ok-text.ensures ∙ ap (λ (t : List ℕ). t ++ part) c.as_str.ensures.value in
    let facts = behind_iri c.args.front.now part c.as_str.ensures.sound c.requires in
    let found = taken c.from_allowed.result c.in_ok-text.text (ap has_scheme is ∙ facts.0) c.from_allowed.ensures in
    let same = c.in-Some.is in
    cc
