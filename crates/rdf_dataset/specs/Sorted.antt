-- Lists of the members of a set.
pub use Rattle.rdf_terms.specs.Lists.{ListsOnce, ListsSorted, AppendsOnce}
