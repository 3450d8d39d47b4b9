-- The grammar of a line (RDF 1.1 N-Triples, sections 2 and 7; RDF 1.1 N-Quads, sections 2 and 4): relations between the
-- characters of a line and what they say. A text is the UTF-8 of its characters.
use Rattle.std.specs.Prelude.{◌≡◌, ◌≤◌, ◌⊎◌, ℕ, Bool, true, List, [], ◌∷◌, ◌++◌, length, codes, Option, Some, None, ◌==◌, ◌||◌}
use Rattle.std.specs.Int.{is_in_range}
use Rattle.std.specs.List.{AllByRecursion}
use Rattle.std.specs.Str.{encode_utf8_all}
use Rattle.rdf_terms.specs.Characters.{is_pn_chars_u, is_pn_chars}
use Rattle.rdf_terms.specs.Dotted.{IsOne, IsDotted}
use Rattle.rdf_terms.specs.Quoted.{IsIriRef, IsQuoted}
use Rattle.rdf_terms.specs.Literal.{LiteralParts, xsd_string, tagged}
use Rattle.rdf_terms.specs.Tags.{IsTagName}
use Rattle.rdf_lines.specs.declared.format.LineFormat.{LineFormat}
use Rattle.rdf_lines.specs.declared.format.LineFormat.TheVariants.{NTriples, NQuads}
use Rattle.rdf_lines.specs.declared.statement.Node.{Node}
use Rattle.rdf_lines.specs.declared.statement.Node.TheVariants as node
use Rattle.rdf_lines.specs.declared.statement.Object.{Object}
use Rattle.rdf_lines.specs.declared.statement.Object.TheVariants as object
use Rattle.rdf_lines.specs.declared.statement.Statement.{Statement}

-- ---- parts

-- `"`, characters, `"`
abbrev pub IsString : List ℕ → List ℕ → Type 0
IsString slice text = IsQuoted 34 slice text

-- PN_CHARS_U, to which the line formats add `:`, or a digit
unfoldable pub is_label_start : ℕ → Bool
is_label_start c = is_pn_chars_u c || (c == 58) || is_in_range 48 57 c

-- PN_CHARS, to which the line formats add `:`
unfoldable pub is_label_part : ℕ → Bool
is_label_part c = is_pn_chars c || (c == 58)

-- a start, then parts and dots, the last no dot
abbrev pub IsLabelName : List ℕ → Type 0
IsLabelName [] = ⊥
IsLabelName (c ∷ cs) = (is_label_start c ≡ true) × ((parts : List (List ℕ)) × IsDotted (IsOne is_label_part) cs parts)

-- a mark, and a name whose text is said
abbrev pub IsMarked : List ℕ → (List ℕ → Type 0) → List ℕ → List ℕ → Type 0
IsMarked mark IsName slice text = (name : List ℕ) × (slice ≡ mark ++ name) × IsName name × (text ≡ encode_utf8_all name)

-- BLANK_NODE_LABEL: `_:` and a name
abbrev pub IsBlankLabel : List ℕ → List ℕ → Type 0
IsBlankLabel slice text = IsMarked (codes "_:") IsLabelName slice text

-- LANGTAG: `@` and a tag
abbrev pub IsTag : List ℕ → List ℕ → Type 0
IsTag slice text = IsMarked (codes "@") IsTagName slice text

-- ---- parts of a line, and the gaps between them

-- Some slice at the front of `line` says `value`, `rest` follows it, and no longer front has the same form.
pub record Takes {V : Type 0} (Form : List ℕ → V → Type 0) (line : List ℕ) (value : V) (rest : List ℕ) : Type 0 where
  pub slice : List ℕ
  pub form : Form slice value
  pub parts : line ≡ slice ++ rest
  pub longest : (longer after : List ℕ) (other : V) → Form longer other → line ≡ longer ++ after → length longer ≤ length slice

-- space, tab
abbrev pub is_white : ℕ → Bool
is_white c = (c == 32) || (c == 9)

-- `rest` follows some white space, or none
abbrev pub Gap : List ℕ → List ℕ → Type 0
Gap line rest = (white : List ℕ) × AllByRecursion (λ c. is_white c ≡ true) white × (line ≡ white ++ rest)

-- a gap, and then a part
abbrev pub Next : {V : Type 0} → (List ℕ → V → Type 0) → List ℕ → V → List ℕ → Type 0
Next Form line value rest = (start : List ℕ) × Gap line start × Takes Form start value rest

-- ---- terms

abbrev pub HasNode : List ℕ → Node → List ℕ → Type 0
HasNode line (node.Label text) rest = Next IsBlankLabel line text rest
HasNode line (node.Iri text) rest = Next IsIriRef line text rest

-- the literal of a lexical form and a datatype, with no tag
abbrev pub typed : List ℕ → List ℕ → LiteralParts
typed lexical datatype = record { lexical = lexical; datatype = datatype; tag = None }

-- a string alone: its datatype is xsd:string
abbrev pub HasPlain : List ℕ → LiteralParts → List ℕ → Type 0
HasPlain line literal rest = (text : List ℕ) × Next IsString line text rest × (literal ≡ typed text xsd_string)

-- a string and a tag
abbrev pub HasTagged : List ℕ → LiteralParts → List ℕ → Type 0
HasTagged line literal rest =
    (text tag after : List ℕ) × Next IsString line text after × Next IsTag after tag rest × (literal ≡ tagged text tag)

-- a string, `^^` and an IRI
abbrev pub HasTyped : List ℕ → LiteralParts → List ℕ → Type 0
HasTyped line literal rest =
    (text datatype after marks more : List ℕ) × Next IsString line text after × Gap after marks × (marks ≡ codes "^^" ++ more)
    × Next IsIriRef more datatype rest × (literal ≡ typed text datatype)

abbrev pub HasLiteral : List ℕ → LiteralParts → List ℕ → Type 0
HasLiteral line literal rest = HasPlain line literal rest ⊎ (HasTagged line literal rest ⊎ HasTyped line literal rest)

abbrev pub HasObject : List ℕ → Object → List ℕ → Type 0
HasObject line (object.Node place) rest = HasNode line place rest
HasObject line (object.Literal literal) rest = HasLiteral line literal rest

-- no graph label, or in N-Quads a node
abbrev pub HasGraph : LineFormat → List ℕ → Option Node → List ℕ → Type 0
HasGraph format line None rest = line ≡ rest
HasGraph NTriples line (Some place) rest = ⊥
HasGraph NQuads line (Some place) rest = HasNode line place rest

-- ---- lines

abbrev pub EmptyOrComment : List ℕ → Type 0
EmptyOrComment [] = Unit {0}
EmptyOrComment (c ∷ _) = c ≡ 35

-- a gap, and then nothing or a comment
abbrev pub Ends : List ℕ → Type 0
Ends line = (rest : List ℕ) × Gap line rest × EmptyOrComment rest

-- A subject, a predicate, an object, a graph label where one is allowed and stands there, a dot, and the end of the line.
pub record IsStatement (format : LineFormat) (line : List ℕ) (statement : Statement) : Type 0 where
  pub after_subject : List ℕ
  pub after_predicate : List ℕ
  pub after_object : List ℕ
  pub after_graph : List ℕ
  pub before_dot : List ℕ
  pub after_dot : List ℕ
  pub subject : HasNode line statement.subject after_subject
  pub predicate : Next IsIriRef after_subject statement.predicate after_predicate
  pub object : HasObject after_predicate statement.object after_object
  pub graph : HasGraph format after_object statement.graph after_graph
  pub gap : Gap after_graph before_dot
  pub dot : before_dot ≡ 46 ∷ after_dot
  pub end : Ends after_dot

-- A line holds nothing, or one statement.
abbrev pub Holds : LineFormat → List ℕ → Option Statement → Type 0
Holds format line None = Ends line
Holds format line (Some statement) = IsStatement format line statement
