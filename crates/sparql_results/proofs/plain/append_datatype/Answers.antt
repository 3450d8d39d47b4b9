use Rattle.std.proofs.Common.{rules, ◌≡◌, ◌∙◌, ◌++◌, ap, sym, false, codes, List, ℕ, [], if◌then◌else◌, nat_eq, append_assoc}
use Rattle.std.specs.Cmp.Lexicographic.{pointwise}
use Rattle.rdf_terms.specs.Literal.{xsd_string}
use Rattle.rdf_terms.specs.TermText.{datatype_text}
use Rattle.sparql_results.proofs.plain.append_datatype.Goals as goal

datatype_text-written : (datatype : List ℕ) → pointwise nat_eq datatype xsd_string ≡ false → datatype_text datatype ≡ codes "^^<" ++ datatype ++ codes ">"
datatype_text-written datatype e = ap (λ b. if b then [] else codes "^^<" ++ datatype ++ codes ">") e

pub returns-clause-ok : goal.returns-clause-ok
returns-clause-ok c =
    let other : pointwise nat_eq c.args.datatype.now xsd_string ≡ false = sym c.is_xsd_string.ensures ∙ c.if-is_xsd_string.false in
    rw (datatype_text-written c.args.datatype.now other) (search (rules, append_assoc))
