use Rattle.std.proofs.Common.{◌∙◌}
use Rattle.std.specs.Str.{encode_utf8_all}
use Rattle.rdf_terms.specs.Reading.{between}
use Rattle.rdf_terms.proofs.PlaceLemmas.{bytes_between, no_longer, may_cut, cut_is}
use Rattle.rdf_terms.proofs.cursor.Cursor.text_up_to.Goals as goal

pub overflow_sub-self-inside : goal.overflow_sub-self-inside
overflow_sub-self-inside c =
    no_longer c.self.inside.rest.now c.end.inside.rest.now (encode_utf8_all (between c.args.self.now c.args.end.now))
    (bytes_between c.self.inside.rest.now c.end.inside.rest.now c.args.self.now c.args.end.now c.self.invariant c.end.invariant c.self.view_is c.end.view_is c.requires)

pub range-requires-clause-end_boundary : goal.range-requires-clause-end_boundary
range-requires-clause-end_boundary c =
    may_cut c.self.inside.rest.now c.end.inside.rest.now (encode_utf8_all (between c.args.self.now c.args.end.now))
    (bytes_between c.self.inside.rest.now c.end.inside.rest.now c.args.self.now c.args.end.now c.self.invariant c.end.invariant c.self.view_is c.end.view_is c.requires)
    c.end.invariant

pub returns : goal.returns
returns c =
    c.range.ensures.value
    ∙ cut_is c.self.inside.rest.now c.end.inside.rest.now (encode_utf8_all (between c.args.self.now c.args.end.now))
    (bytes_between c.self.inside.rest.now c.end.inside.rest.now c.args.self.now c.args.end.now c.self.invariant c.end.invariant c.self.view_is c.end.view_is c.requires)
