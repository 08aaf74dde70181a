use Rattle.path_calls.proofs.OutsideLemmas.{asks_at}
use Rattle.path_calls.proofs.outside_words.outside_word.Goals as goal

pub returns : goal.returns
returns c =
    asks_at c.args.place c.args.bank.now c.base.new.self c.word.new.self c.binary.new.self c.world_word.new.self c.in_ok-base.base c.in_ok-more.more
    c.in_ok-at.at c.in_ok-node.node c.in_ok-base.ensures c.in_ok-more.ensures c.in_ok-at.ensures c.in_ok-node.ensures
