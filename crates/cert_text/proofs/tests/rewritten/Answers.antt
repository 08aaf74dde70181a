use Rattle.cert_text.proofs.tests.rewritten.Goals as goal

pub returns : goal.returns
returns c =
    let read = c.read_world.ensures.ok c.in_ok-world.world c.in_ok-world.was in
    rw (read.1) c.write_world.ensures.ok
