use Rattle.c_means.specs.Values.{address}
use Rattle.path_states.specs.States.{number_in}
use Rattle.path_calls.proofs.RequestLemmas.{bytes_requested}
use Rattle.path_calls.proofs.requests.request_bytes.Goals as goal

pub returns : goal.returns
returns c =
    bytes_requested c.args.bank.now c.address.new.bank c.word_exceeds.new.bank c.args.most c.in_ok-size.size c.in_ok-exceeds.exceeds
    (λ v. address (number_in v c.args.count)) c.in_ok-size.ensures c.in_ok-exceeds.ensures
