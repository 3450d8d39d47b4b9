use Rattle.std.proofs.Common.{string_bytes, ap, sym, ◌∙◌, refl}
use Rattle.rdf_terms.specs.Iri.{has_forbidden, is_forbidden}
use Rattle.rdf_terms.specs.Reading.{◌>>=◌, iri_at, iri_body_at, iri_character_at}
use Rattle.rdf_terms.proofs.QuotedLemmas.{iri_one, iri_character-plain}
use Rattle.rdf_terms.proofs.LoopLemmas.{RunsTo, goes_on, goes_past, fails, is_done}
use Rattle.rdf_terms.proofs.AllowedLemmas.{read_iri_allowed}
use Rattle.rdf_terms.proofs.PastLemmas.{leads_past, one_behind}
use Rattle.rdf_terms.proofs.cursor.Cursor.iri.Goals as goal

pub returns-in_default : goal.returns-in_default
unfolding iri_at
returns-in_default c = rw (sym c.in_default.ensures) refl

pub text_up_to-requires : goal.text_up_to-requires
text_up_to-requires c = leads_past is_forbidden c.loop-text.rest c.past_iri_run-stop.result c.past_iri_run-stop.ensures.over

pub from_text-requires : goal.from_text-requires
unfolding iri_at iri_body_at
from_text-requires c =
    let past : RunsTo iri_character_at 62 (string_bytes c.push_str.new.self) c.past_iri_run-stop.result (iri_body_at c.in-Some.rest) =
    rw (c.in_ok-push_str.ensures.bytes, c.text_up_to.ensures)
    (goes_past iri_character_at 62 iri_one is_forbidden iri_character-plain (string_bytes c.loop-text.text) c.loop-text.rest c.past_iri_run-stop.result _ c.past_iri_run-stop.ensures.over c.loop-text.invariant) in
    ap has_forbidden c.in_ok-from_string.ensures
    ∙ read_iri_allowed c.args.self.now (string_bytes c.push_str.new.self) c.in-Some-expect.behind
    (ap (λ o. o >>= iri_body_at) (sym c.in-Some.ensures)
    ∙ sym (is_done iri_character_at 62 (string_bytes c.push_str.new.self) c.past_iri_run-stop.result c.in-Some-expect.behind (iri_body_at c.in-Some.rest) (sym c.in-Some-expect.ensures) past))

pub returns-in-Some-expect : goal.returns-in-Some-expect
unfolding iri_at iri_body_at
returns-in-Some-expect c =
    let past : RunsTo iri_character_at 62 (string_bytes c.push_str.new.self) c.past_iri_run-stop.result (iri_body_at c.in-Some.rest) =
    rw (c.in_ok-push_str.ensures.bytes, c.text_up_to.ensures)
    (goes_past iri_character_at 62 iri_one is_forbidden iri_character-plain (string_bytes c.loop-text.text) c.loop-text.rest c.past_iri_run-stop.result _ c.past_iri_run-stop.ensures.over c.loop-text.invariant) in
    rw (c.from_text.ensures, c.in_ok-from_string.ensures, sym c.in-Some.ensures)
    (is_done iri_character_at 62 (string_bytes c.push_str.new.self) c.past_iri_run-stop.result c.in-Some-expect.behind (iri_body_at c.in-Some.rest) (sym c.in-Some-expect.ensures) past)

pub returns-in_default-iri_character : goal.returns-in_default-iri_character
unfolding iri_at iri_body_at
returns-in_default-iri_character c =
    let past : RunsTo iri_character_at 62 (string_bytes c.push_str.new.self) c.past_iri_run-stop.result (iri_body_at c.in-Some.rest) =
    rw (c.in_ok-push_str.ensures.bytes, c.text_up_to.ensures)
    (goes_past iri_character_at 62 iri_one is_forbidden iri_character-plain (string_bytes c.loop-text.text) c.loop-text.rest c.past_iri_run-stop.result _ c.past_iri_run-stop.ensures.over c.loop-text.invariant) in
    rw (sym c.in-Some.ensures)
    (fails iri_character_at 62 (string_bytes c.push_str.new.self) c.past_iri_run-stop.result (iri_body_at c.in-Some.rest) (sym c.in_default-iri_character.ensures) (sym c.in_default-expect.ensures) past)

pub loop-text-smaller : goal.loop-text-smaller
loop-text-smaller c =
    one_behind iri_character_at 62 iri_one is_forbidden c.loop-text.rest c.past_iri_run-stop.result c.in-Some-iri_character.c c.in-Some-iri_character.behind c.past_iri_run-stop.ensures.over (sym c.in-Some-iri_character.ensures)

pub loop-text-preserved : goal.loop-text-preserved
unfolding iri_body_at
loop-text-preserved c =
    let past : RunsTo iri_character_at 62 (string_bytes c.push_str.new.self) c.past_iri_run-stop.result (iri_body_at c.in-Some.rest) =
    rw (c.in_ok-push_str.ensures.bytes, c.text_up_to.ensures)
    (goes_past iri_character_at 62 iri_one is_forbidden iri_character-plain (string_bytes c.loop-text.text) c.loop-text.rest c.past_iri_run-stop.result _ c.past_iri_run-stop.ensures.over c.loop-text.invariant) in
    rw c.in_ok-push.ensures.bytes
    (goes_on iri_character_at 62 iri_one (string_bytes c.push_str.new.self) c.past_iri_run-stop.result c.in-Some-iri_character.c c.in-Some-iri_character.behind _ (sym c.in-Some-iri_character.ensures) past)
