mod NetLemmas
