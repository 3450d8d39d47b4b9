-- What the grammar of groups asks of what stands behind FILTER.
pub use Rattle.sparql_expressions.proofs.Expressions.{constraint_decides, constraint_strict}
pub use Rattle.sparql_expressions.proofs.ExpressionNests.{constraint_keeps}
pub use Rattle.sparql_expressions.proofs.ExpressionProper.{constraint_gives}
pub use Rattle.sparql_expressions.proofs.ExpressionUses.{constraint_uses}
