use Rattle.std.proofs.Common.{refl}
use Rattle.core_programs.proofs.OffsetLaws.{put_behind}
use Rattle.c_program_notes.proofs.places.gathered.Goals as goal

pub loop-offset-preserved : goal.loop-offset-preserved
loop-offset-preserved c =
    put_behind c.args.offsets.now c.loop-offset.offset-index _ c.loop-offset.set.keys c.insert.new.self.keys
    c.loop-offset-test.true refl c.in_ok-insert.ensures.keys c.loop-offset.invariant
