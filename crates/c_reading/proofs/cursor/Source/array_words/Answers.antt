use Rattle.std.proofs.Common.{◌-◌, arith}
use Rattle.c_grammar.specs.Reading.{an_array_word}
use Rattle.c_reading.specs.Cursor.{here}
use Rattle.c_reading.proofs.Lists.{run_goes, run_stops, run_out}
use Rattle.c_reading.proofs.cursor.Source.array_words.Goals as goal

pub run-preserved : goal.run-preserved
run-preserved c =
    rw (c.in_ok-push-in-Some.ensures.ok)
    (run_goes an_array_word (c.run.left - 1) c.run.left c.run.all c.in-Some.word (here c.args.self.now c.run.c)
    (here c.args.self.now c.take_array_word.new.c) _ (omega arith) c.in-Some.ensures c.run.invariant)

pub returns-in-None : goal.returns-in-None
returns-in-None c = run_stops an_array_word (c.run.left - 1) c.run.left c.run.all (here c.args.self.now c.run.c)
    (here c.args.self.now c.take_array_word.new.c) _ (omega arith) c.in-None.ensures c.run.invariant

pub returns : goal.returns
returns c = run_out an_array_word c.run.left c.run.all (here c.args.self.now c.run.c) _ (omega arith) c.run.invariant
