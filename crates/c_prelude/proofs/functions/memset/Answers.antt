use Rattle.std.proofs.Common.{refl}
use Rattle.c_means.specs.Prelude as texts
use Rattle.c_prelude.proofs.Made.{made_is}
use Rattle.c_prelude.proofs.functions.memset.Goals as goal

-- the steps make the tree of the text, by computing
pub returns : goal.returns
returns c = made_is _ texts.memset c.made.result c.made.ensures refl
