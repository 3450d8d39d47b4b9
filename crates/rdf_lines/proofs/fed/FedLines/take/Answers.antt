use Rattle.std.proofs.Common.{◌≡◌, ◌∙◌, ap, refl, subst, sym, arith, append-nil, append_assoc, [], ◌++◌, slice_range, take, ◌+◌, length, ℕ, Bool, List, Option, Some, None, le_refl}
use Rattle.std.specs.Prelude.{Ok, Err}
use Rattle.std.proofs.lemmas.List.{drop_all}
use Rattle.rdf_lines.specs.Fed.{Faults, Fed, HasBeenFed, with_front}
use Rattle.rdf_lines.specs.Pieces.{HasLine, HasNoLine}
use Rattle.rdf_lines.specs.Reader.{ReadsLine}
use Rattle.rdf_terms.specs.declared.quad.Quad.{Quad}
use Rattle.rdf_lines.proofs.FedLemmas.{faults_on, front_faults, front_fed, line_faults, on_none, step_fed, step_left, step_number, step_parts}
use Rattle.rdf_lines.proofs.fed.FedLines.take.Goals as goal

pub loop-place-init : goal.loop-place-init
loop-place-init c = ([], refl, refl, le_refl _, on_none c.args.self)

pub loop-place-preserved : goal.loop-place-preserved
loop-place-preserved c =
    let inv = c.loop-place.invariant in
    let mid = c.loop-place.self in
    let xs = c.loop-place.rest.now in
    let p = c.in-Some.place in
    let i = c.self-in-Some.inside in
    let view = c.self-in-Some.view_is in
    let new : Fed = record { format = i.format; line = i.line.items; behind_return = p.by_return; number = i.progress.number; labels = i.progress.labels } in
    let whole = subst (λ b. HasLine b xs p) (ap (λ f. f.behind_return) c.self.view_is) c.in-Some.ensures in
    let said = subst (λ (a : Option Quad). ReadsLine mid.format (mid.line ++ slice_range xs p.start p.end) mid.number mid.labels (Ok a) c.read_line.new.self.number c.read_line.new.self.labels) c.in-Ok-None.field-0-is c.in-Ok-None.ensures.reads in
    let reads = subst (λ (f : Fed). ReadsLine mid.format (mid.line ++ slice_range xs p.start p.end) mid.number mid.labels (Ok None) f.number f.labels) (sym view) said in
    let line = ap (λ f. f.line) view ∙ c.in-Ok-None.ensures.line in
    let format = ap (λ f. f.format) view ∙ c.in-Ok-None.ensures.format in
    let after = c.split_at.ensures.back in (
      inv.0 ++ take (p.end + 1) xs,
      step_parts c.args.self mid new c.args.piece.now inv.0 xs _ p inv.4 inv.1 inv.2 inv.3 whole after None reads line format refl,
      format ∙ inv.2,
      step_number c.args.self mid new c.args.piece.now inv.0 xs _ p inv.4 inv.1 inv.2 inv.3 whole after None reads line format refl,
      step_fed c.args.self mid new c.args.piece.now inv.0 xs _ p inv.4 inv.1 inv.2 inv.3 whole after None reads line format refl,
    )

pub returns-in-Ok-Some : goal.returns-in-Ok-Some
returns-in-Ok-Some c =
    let inv = c.loop-place.invariant in
    let mid = c.loop-place.self in
    let xs = c.loop-place.rest.now in
    let p = c.in-Some.place in
    let q = Some c.in-Ok-Some.quad in
    let i = c.self-in-Ok-Some.inside in
    let view = c.self-in-Ok-Some.view_is in
    let new : Fed = record { format = i.format; line = i.line.items; behind_return = p.by_return; number = i.progress.number; labels = i.progress.labels } in
    let whole = subst (λ b. HasLine b xs p) (ap (λ f. f.behind_return) c.self.view_is) c.in-Some.ensures in
    let said = subst (λ (a : Option Quad). ReadsLine mid.format (mid.line ++ slice_range xs p.start p.end) mid.number mid.labels (Ok a) c.read_line.new.self.number c.read_line.new.self.labels) c.in-Ok-Some.field-0-is c.in-Ok-Some.ensures.reads in
    let reads = subst (λ (f : Fed). ReadsLine mid.format (mid.line ++ slice_range xs p.start p.end) mid.number mid.labels (Ok q) f.number f.labels) (sym view) said in
    let line = ap (λ f. f.line) view ∙ c.in-Ok-Some.ensures.line in
    let format = ap (λ f. f.format) view ∙ c.in-Ok-Some.ensures.format in
    let after = c.split_at.ensures.back in
    record {
      front = inv.0 ++ take (p.end + 1) xs;
      parts = step_parts c.args.self mid new c.args.piece.now inv.0 xs _ p inv.4 inv.1 inv.2 inv.3 whole after q reads line format refl;
      left = step_left c.args.self mid new c.args.piece.now inv.0 xs _ p inv.4 inv.1 inv.2 inv.3 whole after q reads line format refl;
      format = format ∙ inv.2;
      number = step_number c.args.self mid new c.args.piece.now inv.0 xs _ p inv.4 inv.1 inv.2 inv.3 whole after q reads line format refl;
      fed = step_fed c.args.self mid new c.args.piece.now inv.0 xs _ p inv.4 inv.1 inv.2 inv.3 whole after q reads line format refl;
    }

pub returns-in-Err : goal.returns-in-Err
returns-in-Err c =
    let inv = c.loop-place.invariant in
    let mid = c.loop-place.self in
    let xs = c.loop-place.rest.now in
    let p = c.in-Some.place in
    let f = c.in-Err.fault in
    let whole = subst (λ b. HasLine b xs p) (ap (λ f. f.behind_return) c.self.view_is) c.in-Some.ensures in
    subst (λ t. Faults c.args.self t f) (sym inv.1) (faults_on c.args.self mid inv.0 xs f inv.4 inv.2 (line_faults mid xs p whole c.read_line.new.self f c.in-Err.ensures.reads))

pub returns-in-Ok : goal.returns-in-Ok
returns-in-Ok c =
    let inv = c.loop-place.invariant in
    let mid = c.loop-place.self in
    let xs = c.loop-place.rest.now in
    let none = subst (λ b. HasNoLine b xs) (ap (λ f. f.behind_return) c.self.view_is) c.in_default.ensures in
    let left : c.split_at-in-Ok.result.1.now ≡ [] = c.split_at-in-Ok.ensures.back ∙ drop_all _ xs (le_refl _) in
    let is = c.in-Ok.ensures in
    record {
      front = inv.0 ++ xs;
      parts = inv.1 ∙ sym (append-nil (inv.0 ++ xs)) ∙ ap (λ l. (inv.0 ++ xs) ++ l) (sym left);
      left = left;
      format = ap (λ f. f.format) is ∙ inv.2;
      number = (let n = ap (λ f. f.number) is in let l = ap length left in omega (arith, n, l, inv.3));
      fed =
          λ read quads fed.
          subst (λ (f : Fed). HasBeenFed (read ++ (inv.0 ++ xs)) quads f) (sym is)
          (subst (λ t. HasBeenFed t quads (with_front mid xs)) (append_assoc read inv.0 xs) (front_fed mid xs (read ++ inv.0) quads none (inv.4 read quads fed)));
    }

pub returns : goal.returns
returns c =
    let inv = c.loop-place.invariant in
    let f = c.in-Err-keep_front.fault in
    subst (λ t. Faults c.args.self t f) (sym inv.1)
    (faults_on c.args.self c.loop-place.self inv.0 c.loop-place.rest.now f inv.4 inv.2 (front_faults c.loop-place.self c.loop-place.rest.now f c.in-Err-keep_front.ensures.0 c.in-Err-keep_front.ensures.1))
