use Rattle.std.proofs.Common.{◌≡◌, ◌<◌, ◌≤◌, length, true, false, arith, rules}
use Rattle.c_parser.specs.Groups.{wants_none, wanted_behind, Changes}
use Rattle.c_parser.proofs.Cutting.{cut_stop, cut_out, cut_lost, cut_next}
use Rattle.c_parser.proofs.groups.cut.Goals as goal

pub returns-then-not-branch-clause-cut : goal.returns-then-not-branch-clause-cut
returns-then-not-branch-clause-cut c =
    let wants : wants_none c.cut.wanted ≡ false = search rules in
    let within : c.cut.index < length c.args.tokens.now = omega (arith, c.in-Some.ensures.lookup.3.0) in
    let none : Changes (wanted_behind c.in-Some.token.now.kind c.cut.wanted) false c.take.new.self = search rules in
    cut_lost c.args.tokens.now c.cut.index c.in-Some.token.now c.cut.wanted c.take.new.self _ within
    c.in-Some.ensures.lookup.1 wants none c.cut.invariant.reads

pub cut-preserved : goal.cut-preserved
cut-preserved c =
    let wants : wants_none c.cut.wanted ≡ false = search rules in
    let within : c.cut.index < length c.args.tokens.now = omega (arith, c.in-Some.ensures.lookup.3.0) in
    let then : Changes (wanted_behind c.in-Some.token.now.kind c.cut.wanted) true c.take.new.self = search rules in
    record {
      reads = cut_next c.args.tokens.now c.cut.index c.in-Some.token.now c.cut.wanted c.take.new.self _ within
          c.in-Some.ensures.lookup.1 wants then c.cut.invariant.reads;
      within = search rules;
    }

pub returns-in-None-clause-cut : goal.returns-in-None-clause-cut
returns-in-None-clause-cut c =
    let wants : wants_none c.cut.wanted ≡ false = search rules in
    let past : length c.args.tokens.now ≤ c.cut.index = omega (arith, c.in-None.ensures.lookup.3) in
    cut_out c.args.tokens.now c.cut.index c.cut.wanted _ past wants c.cut.invariant.reads

pub returns-clause-cut : goal.returns-clause-cut
returns-clause-cut c =
    let wants : wants_none c.cut.wanted ≡ true = search rules in
    cut_stop c.args.tokens.now c.cut.index c.cut.wanted _ wants c.cut.invariant.reads
