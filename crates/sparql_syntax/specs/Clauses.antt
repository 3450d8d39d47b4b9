-- Where in a request a lexeme stands, by the last of the words INSERT, DELETE, DATA and WHERE before it (SPARQL 1.1 Query, section 19.8, rules 38
-- to 43; SPARQL 1.1 Update, section 3.1). What stands between two clauses, as a prologue, WITH or an operation on graphs, has names alone.
use Rattle.std.specs.Prelude.{Bool, true, false}
use Rattle.sparql_terminals.specs.declared.terminal.Terminal.{Terminal}
use Rattle.sparql_terminals.specs.declared.terminal.Terminal.TheVariants as terminal
use Rattle.sparql_syntax.specs.declared.clause.Clause.{Clause}
use Rattle.sparql_syntax.specs.declared.clause.Clause.TheVariants as clause

-- 38: INSERT DATA, and 39: DELETE DATA
abbrev pub behind_data : Clause → Clause
behind_data clause.Insert = clause.InsertData
behind_data clause.Delete = clause.DeleteData
behind_data c = c

-- 40: DELETE WHERE; any other WHERE has a pattern behind it
abbrev pub behind_where : Clause → Clause
behind_where clause.Delete = clause.DeleteWhere
behind_where c = clause.Pattern

-- 42: a brace right behind DELETE opens its template
abbrev pub behind_brace : Clause → Clause
behind_brace clause.Delete = clause.DeleteTemplate
behind_brace c = c

abbrev pub clause_behind : Clause → Terminal → Clause
clause_behind c terminal.Insert = clause.Insert
clause_behind c terminal.Delete = clause.Delete
clause_behind c terminal.Data = behind_data c
clause_behind c terminal.Where = behind_where c
clause_behind c terminal.OpenBrace = behind_brace c
clause_behind c k = c

-- 49: QuadData, in INSERT DATA and DELETE DATA
abbrev pub is_data : Clause → Bool
is_data clause.InsertData = true
is_data clause.DeleteData = true
is_data c = false

-- what DELETE DATA, the template of DELETE, or DELETE WHERE deletes
abbrev pub is_deleted : Clause → Bool
is_deleted clause.DeleteTemplate = true
is_deleted clause.DeleteData = true
is_deleted clause.DeleteWhere = true
is_deleted c = false

-- the same of the two in which labels of blank nodes are told apart
abbrev pub is_same : Clause → Clause → Bool
is_same clause.InsertData clause.InsertData = true
is_same clause.Pattern clause.Pattern = true
is_same c d = false
