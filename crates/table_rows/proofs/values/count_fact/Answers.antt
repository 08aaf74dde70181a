use Rattle.table_rows.proofs.Asking.{about-goes, goes-run, stays-run}
use Rattle.table_rows.proofs.values.count_fact.Goals as goal

pub returns-in_err-world : goal.returns-in_err-world
returns-in_err-world c = goes-run c.args.target c.args.query.now c.answered.new.query c.requires.run c.answered.ensures

pub returns-in_err-count_world-in-World : goal.returns-in_err-count_world-in-World
returns-in_err-count_world-in-World c =
    goes-run c.args.target c.args.query.now c.answered.new.query c.requires.run c.answered.ensures

pub returns-in_ok-count_world-in-World : goal.returns-in_ok-count_world-in-World
returns-in_ok-count_world-in-World c =
    goes-run c.args.target c.args.query.now c.answered.new.query c.requires.run c.answered.ensures

pub is_refuted-requires-clause-whole : goal.is_refuted-requires-clause-whole
is_refuted-requires-clause-whole c =
    (goes-run c.args.target c.args.query.now c.answered.new.query c.requires.run c.answered.ensures).whole c.requires.whole

pub is_refuted-requires-clause-target : goal.is_refuted-requires-clause-target
is_refuted-requires-clause-target c =
    about-goes c.args.target c.args.query.now c.answered.new.query
    (goes-run c.args.target c.args.query.now c.answered.new.query c.requires.run c.answered.ensures) c.requires.target

pub returns-in_err-is_so-in-Refuted : goal.returns-in_err-is_so-in-Refuted
returns-in_err-is_so-in-Refuted c =
    stays-run c.args.target c.args.query.now c.answered.new.query c.is_refuted.new.query c.requires.run c.answered.ensures
    c.is_refuted.ensures

pub returns-in_err-counts-in-Refuted : goal.returns-in_err-counts-in-Refuted
returns-in_err-counts-in-Refuted c =
    stays-run c.args.target c.args.query.now c.answered.new.query c.is_refuted.new.query c.requires.run c.answered.ensures
    c.is_refuted.ensures

pub returns-in_err-counts-in-Refuted-2 : goal.returns-in_err-counts-in-Refuted-2
returns-in_err-counts-in-Refuted-2 c =
    stays-run c.args.target c.args.query.now c.answered.new.query c.is_refuted.new.query c.requires.run c.answered.ensures
    c.is_refuted.ensures

pub returns-in_ok-counts-in-Refuted-2 : goal.returns-in_ok-counts-in-Refuted-2
returns-in_ok-counts-in-Refuted-2 c =
    stays-run c.args.target c.args.query.now c.answered.new.query c.is_refuted.new.query c.requires.run c.answered.ensures
    c.is_refuted.ensures

pub returns-in_err-counts-in-Spent : goal.returns-in_err-counts-in-Spent
returns-in_err-counts-in-Spent c = goes-run c.args.target c.args.query.now c.answered.new.query c.requires.run c.answered.ensures

pub returns-in_ok-counts-in-Spent : goal.returns-in_ok-counts-in-Spent
returns-in_ok-counts-in-Spent c = goes-run c.args.target c.args.query.now c.answered.new.query c.requires.run c.answered.ensures
