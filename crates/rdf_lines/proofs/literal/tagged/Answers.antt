use Rattle.std.proofs.Common.{rules, ◌≡◌, true, cond, Some, None, sym, ap, subst, ◌∙◌}
use Rattle.std.specs.Str.{encode_utf8_all}
use Rattle.rdf_terms.specs.Literal.{is_tag, tagged}
use Rattle.rdf_terms.proofs.CallerLemmas.{between_is, tag_form, tag_greedy}
use Rattle.rdf_lines.specs.Reading.{tagged_at, tag_at, name_at, tagged_literal}
use Rattle.rdf_terms.specs.Reading.{expect}
use Rattle.rdf_lines.proofs.literal.tagged.Goals as goal

pub text_up_to-requires : goal.text_up_to-requires
text_up_to-requires c =
    let s = tag_greedy.sound c.args.name.now c.in-Some.rest (sym c.in-Some.ensures) in
    (s.0, s.1)

-- what is read as a tag has the form of one
pub tagged-requires : goal.tagged-requires
tagged-requires c =
    let s = tag_greedy.sound c.args.name.now c.in-Some.rest (sym c.in-Some.ensures) in
    let text : c.text_up_to.result.now ≡ encode_utf8_all s.0 = c.text_up_to.ensures ∙ ap encode_utf8_all (between_is c.args.name.now c.in-Some.rest s.0 s.1) in
    ap is_tag text ∙ tag_form s.0 s.2

pub returns : goal.returns
unfolding tagged_at tag_at name_at tagged_literal expect
returns c =
    let s = tag_greedy.sound c.args.name.now c.in-Some.rest (sym c.in-Some.ensures) in
    let text : c.text_up_to.result.now ≡ encode_utf8_all s.0 = c.text_up_to.ensures ∙ ap encode_utf8_all (between_is c.args.name.now c.in-Some.rest s.0 s.1) in
    let form : is_tag c.text_up_to.result.now ≡ true = ap is_tag text ∙ tag_form s.0 s.2 in
    let told : tagged_literal c.args.lexical c.text_up_to.result.now ≡ Some c.in_ok-literal.literal =
    subst (λ b. cond b (Some (tagged c.args.lexical c.text_up_to.result.now)) None ≡ Some c.in_ok-literal.literal) (sym form) (ap Some (sym c.in_ok-literal.ensures)) in
    search (rules, told)
