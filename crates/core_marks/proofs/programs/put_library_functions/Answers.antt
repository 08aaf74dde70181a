use Rattle.core_marks.proofs.Loops as loops
use Rattle.core_marks.proofs.programs.put_library_functions.Goals as goal

pub functions-init : goal.functions-init
functions-init c = loops.begins_in c.args.calls.now c.args.functions.now c.args.out.now

pub functions-preserved : goal.functions-preserved
functions-preserved c =
    loops.goes_on_in c.args.calls.now c.args.functions.now c.functions.number c.index-functions-number.result c.args.out.now c.functions.out
    c.put_library_function.new.out c.functions-test.true c.index-functions-number.is c.in_ok-put_library_function.ensures c.functions.invariant

pub returns : goal.returns
returns c =
    loops.ends_in c.args.calls.now c.args.functions.now c.functions.number c.args.out.now c.functions.out c.functions-test.false
    c.functions.invariant
