-- What directives put in force (Turtle 1.1, sections 2.4, 6.3 and 6.5), and the standard's own example of them.
use Rattle.std.specs.Prelude.{◌≡◌, ℕ, List, [], ◌∷◌, codes, Option, Some, None}
use Rattle.std.specs.Option.{option_and_then}
use Rattle.rdf_terms.specs.Quoted.{IsIriRef}
use Rattle.rdf_terms.specs.Resolution.{Means}
use Rattle.rdf_grammar.specs.Keys.{key_of}
use Rattle.rdf_grammar.specs.Prologue.{declares, iri_of, moves_base}
use Rattle.rdf_grammar.specs.declared.tree.Name.{Name}
use Rattle.rdf_grammar.specs.declared.tree.Name.TheVariants.{Full, Prefixed}
use Rattle.rdf_turtle.specs.declared.tree.Statement.{Statement}
use Rattle.rdf_turtle.specs.declared.tree.Statement.TheVariants as s
use Rattle.rdf_turtle.specs.Meaning.{document, statement}
use Rattle.rdf_turtle.specs.ParserState.{ParserState, start}

-- a base is what its reference means against the base before it, and in force from there on
abbrev pub BaseIsMoved : Type 0
BaseIsMoved =
    (p : ParserState) (slice text iri : List ℕ) → IsIriRef slice text → Means p.prologue.base text iri
    → statement (s.Base slice) p ≡ Some (tt, record p { prologue = moves_base iri p.prologue })

-- a prefix stands for what its reference means against the base where it is declared, whatever base comes later
abbrev pub PrefixIsDeclared : Type 0
PrefixIsDeclared =
    (p : ParserState) (prefix slice text iri : List ℕ) → IsIriRef slice text → Means p.prologue.base text iri
    → statement (s.Prefix prefix slice) p ≡ Some (tt, record p { prologue = declares (key_of prefix) iri p.prologue })

-- ---- the example of section 2.4

-- the IRI of a name behind these directives, where no base is given from outside
abbrev pub behind : List Statement → Name → Option (List ℕ)
behind directives name = option_and_then (λ end. iri_of name (end.1).prologue) (document directives (start None))

-- `@base <http://one.example/> .`
abbrev pub one_example : Statement
one_example = s.Base (codes "<http://one.example/>")

-- `@prefix p: <http://two.example/> .`
abbrev pub two_example : Statement
two_example = s.Prefix (codes "p") (codes "<http://two.example/>")

-- `@prefix p: <path/> .`, which is resolved against the base
abbrev pub path_example : Statement
path_example = s.Prefix (codes "p") (codes "<path/>")

-- `@prefix : <http://another.example/> .`
abbrev pub another_example : Statement
another_example = s.Prefix [] (codes "<http://another.example/>")

pub record SectionExamples : Type 0 where
  pub relative : behind (one_example ∷ []) (Full (codes "<subject2>")) ≡ Some (codes "http://one.example/subject2")
  pub prefixed : behind (one_example ∷ two_example ∷ []) (Prefixed (codes "p") (codes "subject3")) ≡ Some (codes "http://two.example/subject3")
  pub replaced :
      behind (one_example ∷ two_example ∷ path_example ∷ []) (Prefixed (codes "p") (codes "subject4")) ≡ Some (codes "http://one.example/path/subject4")
  pub empty :
      behind (one_example ∷ two_example ∷ path_example ∷ another_example ∷ []) (Prefixed [] (codes "subject5"))
      ≡ Some (codes "http://another.example/subject5")
  -- what the example leaves out: a second base is resolved against the first, the prefix before it keeps its IRI, and no base is in force at first
  pub second_base : behind (one_example ∷ s.Base (codes "<two/>") ∷ []) (Full (codes "<x>")) ≡ Some (codes "http://one.example/two/x")
  pub earlier_prefix :
      behind (one_example ∷ path_example ∷ s.Base (codes "<http://two.example/>") ∷ []) (Prefixed (codes "p") (codes "x"))
      ≡ Some (codes "http://one.example/path/x")
  pub no_base : behind [] (Full (codes "<x>")) ≡ None
