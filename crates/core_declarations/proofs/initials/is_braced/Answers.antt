use Rattle.core_declarations.proofs.Fillings.{value_braced, list_braced}
use Rattle.core_declarations.proofs.initials.is_braced.Goals as goal

pub returns-in-Value : goal.returns-in-Value
returns-in-Value c = value_braced c.args.initializer.now c.in-Value.value c.in-Value.is

pub returns-in-List : goal.returns-in-List
returns-in-List c = list_braced c.args.initializer.now c.in-List.at c.in-List.items c.in-List.trailing c.in-List.is
