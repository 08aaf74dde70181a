use Rattle.std.proofs.Common.{rules, ◌≡◌, ◌∷◌}
use Rattle.path_rooms.proofs.Giving.{gives_both}
use Rattle.path_rooms.proofs.births.+add_objects.Goals as goal

pub returns-in_ok-add_objects-in-Some : goal.returns-in_ok-add_objects-in-Some
returns-in_ok-add_objects-in-Some g t c =
    let split : c.args.items.now ≡ c.in-Some.item.now ∷ c.in-Some.rest.now = search rules in
    let added = rw c.get.ensures at c.in_ok-add_object-in-Some.ensures in
    let room = rw c.get-in-Some.ensures at c.in_ok-room-in-Some.ensures in
    rw split
    (gives_both (g.C.Calls.around c.args.scene.now).measures c.args.all.now _ _ c.in-Some.item.now c.in-Some.rest.now c.args.place
    c.in_ok-next-in-Some.next (rw room at c.in_ok-next-in-Some.ensures) (added (g.C.Calls.around c.args.scene.now).measures)
    c.in_ok-add_objects-in-Some.ensures)
