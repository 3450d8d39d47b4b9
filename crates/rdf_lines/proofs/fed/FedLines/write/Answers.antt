use Rattle.std.proofs.Common.{◌≡◌, ◌∙◌, ap, refl, subst, sym, arith, append-nil, append_assoc, [], ◌++◌, slice_range, take, ◌+◌, length, ℕ, Bool, List, Option, Some, None, le_refl}
use Rattle.std.specs.Prelude.{Ok, Err}
use Rattle.rdf_lines.specs.Fed.{FaultsBehind, Fed, HasBeenFed, and_then, with_front}
use Rattle.rdf_lines.specs.Pieces.{HasLine, HasNoLine}
use Rattle.rdf_lines.specs.Reader.{ReadsLine}
use Rattle.rdf_terms.specs.declared.quad.Quad.{Quad}
use Rattle.rdf_lines.proofs.FedLemmas.{front_faults, front_fed, line_faults}
use Rattle.rdf_lines.proofs.WrittenFedLemmas.{behind_line, behind_none, faults_behind, line_number, lines_grow, lines_of, taken_parts}
use Rattle.rdf_lines.proofs.fed.FedLines.write.Goals as goal

pub loop-place-init : goal.loop-place-init
loop-place-init c = ([], [], refl, refl, le_refl _, sym (append-nil _), behind_none c.args.self)

pub loop-place-preserved : goal.loop-place-preserved
loop-place-preserved c =
    let inv = c.loop-place.invariant in
    let mid = c.loop-place.self in
    let xs = c.loop-place.rest.now in
    let p = c.in-Some.place in
    let i = c.self-in-Some.inside in
    let view = c.self-in-Some.view_is in
    let new : Fed = record { format = i.format; line = i.line.items; behind_return = p.by_return; number = i.progress.number; labels = i.progress.labels } in
    let whole = subst (λ b. HasLine b xs p) (ap (λ f. f.behind_return) c.self.view_is) c.in-Some.ensures in
    let wrote = c.in-Ok.ensures.writes in
    let q = wrote.0 in
    let reads = subst (λ (f : Fed). ReadsLine mid.format (mid.line ++ slice_range xs p.start p.end) mid.number mid.labels (Ok q) f.number f.labels) (sym view) wrote.1 in
    let line = ap (λ f. f.line) view ∙ c.in-Ok.ensures.line in
    let format = ap (λ f. f.format) view ∙ c.in-Ok.ensures.format in
    let after = c.split_at.ensures.back in (
      inv.0 ++ take (p.end + 1) xs,
      and_then inv.1 q,
      taken_parts c.args.piece.now inv.0 xs _ (p.end + 1) inv.2 after,
      format ∙ inv.3,
      line_number c.args.self mid new c.args.piece.now xs _ _ p inv.4 whole after q reads,
      lines_grow c.args.lines.now.items c.loop-place.lines.items _ inv.1 q inv.5 wrote.2,
      behind_line c.args.self mid new inv.0 xs inv.1 p q inv.6 whole reads line format refl,
    )

pub returns-in-Err : goal.returns-in-Err
returns-in-Err c =
    let inv = c.loop-place.invariant in
    let mid = c.loop-place.self in
    let xs = c.loop-place.rest.now in
    let p = c.in-Some.place in
    let f = c.in-Err.fault in
    let whole = subst (λ b. HasLine b xs p) (ap (λ f. f.behind_return) c.self.view_is) c.in-Some.ensures in
    let wrote = c.in-Err.ensures.writes in (
      inv.1,
      wrote.2 ∙ inv.5,
      subst (λ t. FaultsBehind c.args.self t inv.1 f) (sym inv.2)
          (faults_behind c.args.self mid inv.0 xs inv.1 f inv.6 inv.3 (line_faults mid xs p whole mid f (wrote.0, refl, wrote.1))),
    )

pub returns-in-Ok-keep_front : goal.returns-in-Ok-keep_front
returns-in-Ok-keep_front c =
    let inv = c.loop-place.invariant in
    let mid = c.loop-place.self in
    let xs = c.loop-place.rest.now in
    let none = subst (λ b. HasNoLine b xs) (ap (λ f. f.behind_return) c.self.view_is) c.in_default.ensures in
    let is = c.in-Ok-keep_front.ensures in (
      inv.1,
      inv.5,
      record {
        format = ap (λ f. f.format) is ∙ inv.3;
        number = (let n = ap (λ f. f.number) is in omega (arith, n, inv.4));
        fed =
            λ read quads fed.
            subst (λ (f : Fed). HasBeenFed (read ++ c.args.piece.now) (quads ++ inv.1) f) (sym is)
            (subst (λ t. HasBeenFed t (quads ++ inv.1) (with_front mid xs)) (append_assoc read inv.0 xs ∙ ap (λ t. read ++ t) (sym inv.2))
            (front_fed mid xs (read ++ inv.0) (quads ++ inv.1) none (inv.6 read quads fed)));
      },
    )

pub returns-in-Err-keep_front : goal.returns-in-Err-keep_front
returns-in-Err-keep_front c =
    let inv = c.loop-place.invariant in
    let f = c.in-Err-keep_front.fault in (
      inv.1,
      inv.5,
      subst (λ t. FaultsBehind c.args.self t inv.1 f) (sym inv.2)
          (faults_behind c.args.self c.loop-place.self inv.0 c.loop-place.rest.now inv.1 f inv.6 inv.3 (front_faults c.loop-place.self c.loop-place.rest.now f c.in-Err-keep_front.ensures.0 c.in-Err-keep_front.ensures.1)),
    )
