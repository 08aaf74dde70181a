-- What the code holds of a declaration, in front of the scope that it leaves: the values that `c_language` speaks of.
use Rattle.std.specs.Prelude.{Option, Some, None}
use Rattle.c_declares.specs.declared.declarators.Counted.{Counted}
use Rattle.c_declares.specs.declared.declarators.Formed.{Formed}
use Rattle.c_declares.specs.declared.declarators.Parameters.{Parameters}
use Rattle.c_declares.specs.declared.enumerations.Counting.{Counting}
use Rattle.c_declares.specs.declared.members.Laid.{Laid}
use Rattle.c_declares.specs.declared.parameters.Listed.{Listed}
use Rattle.c_declares.specs.declared.parameters.Named.{Named}
use Rattle.c_declares.specs.declared.said.Said.{Said}
use Rattle.c_declares.specs.declared.tags.Begun.{Begun}
use Rattle.c_declares.specs.declared.type_names.TypeSaid.{TypeSaid}
use Rattle.c_language.specs.Scopes.{Scope}
use Rattle.c_language.specs.Declares as spec

abbrev pub said_in : Said → Scope → spec.Said
said_in x s = record {
  alone = x.alone;
  start = x.start;
  storage = x.storage;
  is_inline = x.is_inline;
  qualifiers = x.qualifiers;
  words = x.words;
  whole = x.whole;
  faults = x.faults;
  scope = s;
}

abbrev pub begun_in : Begun → Scope → spec.Begun
begun_in x s = record { number = x.number; faults = x.faults; scope = s }

abbrev pub parameters_of : Parameters → spec.Parameters
parameters_of x = record { block = x.block; are_named = x.are_named }

abbrev pub inside_of : Option Parameters → Option spec.Parameters
inside_of None = None
inside_of (Some x) = Some (parameters_of x)

abbrev pub formed_in : Formed → Scope → spec.Formed
formed_in x s = record {
  name = x.name;
  derivations = x.derivations;
  brackets = x.brackets;
  inside = inside_of x.inside;
  faults = x.faults;
  after = s;
}

abbrev pub counted_in : Counted → Scope → spec.Counted
counted_in x s = record { step = x.step; faults = x.faults; after = s }

abbrev pub named_in : Named → Scope → spec.Named
named_in x s = record { name = x.name; type = x.ctype; faults = x.faults; after = s }

abbrev pub listed_in : Listed → Scope → spec.Listed
listed_in x s = record { types = x.types; are_named = x.are_named; faults = x.faults; after = s }

abbrev pub laid_in : Laid → Scope → spec.Laid
laid_in x s = record {
  form = x.form;
  layout = x.layout;
  names = x.names;
  has_bits = x.has_bits;
  is_opaque = x.is_opaque;
  flexible = x.flexible;
  faults = x.faults;
  scope = s;
}

abbrev pub counting_in : Counting → Scope → spec.Counting
counting_in x s = record { next = x.next; faults = x.faults; scope = s }

abbrev pub type_said_in : TypeSaid → Scope → spec.TypeSaid
type_said_in x s = record { type = x.ctype; faults = x.faults; after = s }
