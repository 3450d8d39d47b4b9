use Rattle.std.proofs.Common.{arith, subst, sym, ◌*◌, ◌+◌, ◌≡◌, All}
use Rattle.std.proofs.lemmas.List.Elements.{All-from_get_or}
use Rattle.sparql_solve.specs.Coded.{digits}
use Rattle.sparql_solve.proofs.CodedLemmas.{IsByte, digits_below, number_begins, number_fits, number_is, number_more, IsNumberTo}
use Rattle.sparql_solve.proofs.coded.number_of.Goals as goal
use Rattle.sparql_solve.proofs.coded.number_of.Goals.{After-loop-place, In-loop-place}

pub loop-place-init : goal.loop-place-init
loop-place-init c = number_begins c.args.text.now

pub loop-place-preserved : goal.loop-place-preserved
loop-place-preserved c =
    subst (λ b. IsNumberTo (c.loop-place.number * 256 + b) (c.loop-place.place + 1) c.args.text.now) (sym c.byte_at.ensures.value)
    (number_more c.loop-place.number c.loop-place.place c.args.text.now c.loop-place-test.true c.loop-place.invariant)

pub overflow_mul-number : goal.overflow_mul-number
overflow_mul-number c =
    let bytes : All IsByte c.args.text.now = All-from_get_or IsByte c.args.text.now 0 (λ k h. omega (arith, c.type_inv.text k)) in
    omega (arith, number_fits c.loop-place.number c.loop-place.place c.args.text.now c.loop-place-test.true c.loop-place.invariant bytes)

pub overflow_add-number : goal.overflow_add-number
overflow_add-number c =
    let bytes : All IsByte c.args.text.now = All-from_get_or IsByte c.args.text.now 0 (λ k h. omega (arith, c.type_inv.text k)) in
    omega (arith, number_fits c.loop-place.number c.loop-place.place c.args.text.now c.loop-place-test.true c.loop-place.invariant bytes)

pub returns : goal.returns
returns c =
    let all : 7 ≡ c.loop-place.place = omega arith in
    let is : c.loop-place.number ≡ digits 7 c.args.text.now =
    number_is c.loop-place.number c.args.text.now (subst (λ n. IsNumberTo c.loop-place.number n c.args.text.now) (sym all) c.loop-place.invariant) in
    let bytes : All IsByte c.args.text.now = All-from_get_or IsByte c.args.text.now 0 (λ k h. omega (arith, c.type_inv.text k)) in
    record { value = is; below = omega (arith, is, digits_below 7 c.args.text.now bytes); bytes = bytes }
