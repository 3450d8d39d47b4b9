mod SomeLemmas
