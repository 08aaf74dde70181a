use Rattle.cert_text.proofs.WritingLemmas.{world-put}
use Rattle.cert_text.proofs.writing.put_world.Goals as goal

pub returns : goal.returns
returns c =
    world-put c.args.text.now c.extend_from_slice.new.self c.put_words.new.text c.put_bytes.new.text _ c.args.world.now
    c.in_ok-extend_from_slice.ensures.ok c.in_ok-put_words.ensures c.in_ok-put_bytes.ensures c.in_ok-extend_from_slice-2.ensures.ok
