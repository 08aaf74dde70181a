use Rattle.path_rooms.proofs.code_rooms.room_of_repeat.Goals as goal

pub returns : goal.returns
returns g c = c.room_of_turns.ensures _ (c.both-turn.ensures _ _ c.room_of_code.ensures c.value_room.ensures)
