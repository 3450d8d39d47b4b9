-- What other crates cite.
pub use Rattle.sparql_terminals.proofs.FormedSlices.{lexemes_formed}
pub use Rattle.sparql_terminals.proofs.GrammarWords.{after_node, begins_literal, binding_decides, ends_node, iri_decides, iri_passes, iri_strict, iri_terminal, literal_begins, literal_decides, literal_strict, plain}
pub use Rattle.sparql_terminals.proofs.Keywords.{keyword_complete, keyword_sound, keyword_strict, keyword_terminal}
pub use Rattle.sparql_terminals.proofs.OpenerBytes.{opener_seen}
pub use Rattle.sparql_terminals.proofs.ProfileTokens.{kept_is, left_out_is}
pub use Rattle.sparql_terminals.proofs.Shifts.{closed, keeps, kept, the_shifts, then_shifts, value_shifts}
pub use Rattle.sparql_terminals.proofs.UsefulWords.{useful_inside}
pub use Rattle.sparql_terminals.proofs.Uses.{behind_uses, binding_uses, closed_uses, each_uses, iri_uses, leaf_uses, literal_uses, map_uses, maybe_uses, one_uses, or_uses, pure_uses, star_uses, the_uses, then_uses, value_uses}
unfoldable pub use Rattle.sparql_terminals.proofs.Uses.{Uses}
pub use Rattle.sparql_terminals.proofs.WordYields.{Passes, binding_gives, iri_gives, literal_gives}
pub use Rattle.sparql_terminals.proofs.Yields.{Any, IsGoodOption, IsOf, also_gives, behind_gives, closed_gives, good_joined, map_gives, maybe_gives, one_gives, or_gives, pure_gives, star_gives, the_gives, then_gives, value_gives}
unfoldable pub use Rattle.sparql_terminals.proofs.Yields.{Yields}
