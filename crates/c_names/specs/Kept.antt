-- What is kept of the names of an external declaration, as a function of what `c_means` says of them.
use Rattle.c_means.specs.Names as names
use Rattle.c_names.specs.declared.summaries.Names.{Names}

abbrev pub kept : names.Names → Names
kept n = record { uses = n.uses; declares = n.declares; bound = n.bound; literals = n.literals }
