-- What summaries of function definitions have, as functions of what `c_means` says of them.
use Rattle.std.specs.Prelude.{length}
use Rattle.c_means.specs.Checks.{is_main_means}
use Rattle.c_means.specs.Programs.{Function}
use Rattle.c_item_notes.specs.ItemTellings.{item_notes}
use Rattle.c_item_notes.specs.Levels.{Judged}
use Rattle.c_names.specs.Kept.{kept}
use Rattle.c_reach.specs.declared.summaries.FunctionNotes.{FunctionNotes}

abbrev pub function_notes : Judged → Function → FunctionNotes
function_notes j f = record {
  at = f.at;
  name = f.name;
  parameters = length f.parameters;
  unread = f.unread;
  is_main = is_main_means f.inside.tables f.means;
  body = item_notes j f.body;
  names = kept f.names;
}
