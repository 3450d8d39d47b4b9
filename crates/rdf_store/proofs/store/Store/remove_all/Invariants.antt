use Rattle.std.proofs.Common.{◌≡◌, [], take}
use Rattle.rdf_store.specs.Stored.{without_all}
use Rattle.rdf_store.proofs.store.Store.remove_all.Given as goal

abbrev pub invariant-loop-quad : goal.invariant-loop-quad
invariant-loop-quad l = l.self ≡ without_all l.initial.self (take l.quad-index l.quads) []

abbrev pub invariant-loop-name : goal.invariant-loop-name
invariant-loop-name l = l.self ≡ without_all l.fn.self l.fn.quads (take l.name-index l.names)
