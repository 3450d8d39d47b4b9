use Rattle.std.proofs.Common.{◌≡◌, ◌∙◌, sym}
use Rattle.rdf_lines.proofs.StateCheckLemmas.{Answers, answers, none_of, none_sound}
use Rattle.rdf_lines.proofs.state_text.read_state.Goals as goal

pub returns-in_default-clause-not_state : goal.returns-in_default-clause-not_state
returns-in_default-clause-not_state c = λ _. none_of c.args.bytes.now (rw c.in_default.is at c.in_ok-state.ensures)

pub returns-then-is_sound-clause-sound : goal.returns-then-is_sound-clause-sound
returns-then-is_sound-clause-sound c =
    let s = c.in-Some.state in
    (answers c.args.bytes.now s.next s.names.items s.quads.items (rw c.in-Some.is at c.in_ok-state.ensures) (sym c.is_sound.ensures ∙ c.if-is_sound.true)).sound

pub returns-then-is_sound-clause-names : goal.returns-then-is_sound-clause-names
returns-then-is_sound-clause-names c =
    let s = c.in-Some.state in
    (answers c.args.bytes.now s.next s.names.items s.quads.items (rw c.in-Some.is at c.in_ok-state.ensures) (sym c.is_sound.ensures ∙ c.if-is_sound.true)).names_listed

pub returns-then-is_sound-clause-quads : goal.returns-then-is_sound-clause-quads
returns-then-is_sound-clause-quads c =
    let s = c.in-Some.state in
    (answers c.args.bytes.now s.next s.names.items s.quads.items (rw c.in-Some.is at c.in_ok-state.ensures) (sym c.is_sound.ensures ∙ c.if-is_sound.true)).quads_listed

pub returns-then-is_sound-clause-text : goal.returns-then-is_sound-clause-text
returns-then-is_sound-clause-text c =
    let s = c.in-Some.state in
    (answers c.args.bytes.now s.next s.names.items s.quads.items (rw c.in-Some.is at c.in_ok-state.ensures) (sym c.is_sound.ensures ∙ c.if-is_sound.true)).is_text

pub returns-else-is_sound-clause-not_state : goal.returns-else-is_sound-clause-not_state
returns-else-is_sound-clause-not_state c =
    let s = c.in-Some.state in
    λ _. none_sound c.args.bytes.now s.next s.names.items s.quads.items (rw c.in-Some.is at c.in_ok-state.ensures) (sym c.is_sound.ensures ∙ c.if-is_sound.false)
