use Rattle.std.proofs.Common.{◌∙◌, refl, ap}
use Rattle.log_language.specs.declared.tree.LogExpr.TheVariants as tree
use Rattle.log_language.proofs.CallTexts as on
use Rattle.log_language.proofs.values.tell_callee.Goals as goal

pub returns-in_ok-may_print-in-Body : goal.returns-in_ok-may_print-in-Body
returns-in_ok-may_print-in-Body c = on.goes_may c.in-Body.is refl (on.says_body c.in-Body.function c.args.told.now.so_far) c.in_ok-may_print-in-Body.ensures

pub returns-in_ok-may_print-in-Log : goal.returns-in_ok-may_print-in-Log
returns-in_ok-may_print-in-Log c = on.goes_may c.in-Log.is (ap tree.Texts (c.in_ok-copy-in-Log.ensures ∙ c.as_slice.ensures)) (on.says_log c.in-Log.pieces c.in-Log.before c.in-Log.types c.in-Log.watched c.args.told.now.so_far) c.in_ok-may_print-in-Log.ensures

pub returns-in-Exit : goal.returns-in-Exit
returns-in-Exit c = on.goes_quiet c.in-Exit.is (on.says_exit c.args.told.now.so_far)

pub returns-in-Abort : goal.returns-in-Abort
returns-in-Abort c = on.goes_quiet c.in-Abort.is (on.says_abort c.args.told.now.so_far)

pub returns-in-Malloc : goal.returns-in-Malloc
returns-in-Malloc c = on.goes_quiet c.in-Malloc.is (on.says_malloc c.args.told.now.so_far)

pub returns-in-Calloc : goal.returns-in-Calloc
returns-in-Calloc c = on.goes_quiet c.in-Calloc.is (on.says_calloc c.args.told.now.so_far)

pub returns-in-Free : goal.returns-in-Free
returns-in-Free c = on.goes_quiet c.in-Free.is (on.says_free c.args.told.now.so_far)

pub returns-in-Identity : goal.returns-in-Identity
returns-in-Identity c = on.goes_quiet c.in-Identity.is (on.says_identity c.in-Identity.index c.args.told.now.so_far)

pub returns-in-Outside : goal.returns-in-Outside
returns-in-Outside c = on.goes_quiet c.in-Outside.is (on.says_outside c.in-Outside.answer c.in-Outside.fill c.args.told.now.so_far)
