-- Worked rows of the definitions: a store of bytes written, zeroed, copied onto itself with an overlap, chosen, read in
-- every width and around the end of the address space; an object's size and kind before and after its end.
use Rattle.std.proofs.Common.{◌≡◌, ◌-◌, ◌^◌, ℕ, zero, suc, Bool, true, false, List, [], refl}
use Rattle.plain_data.specs.declared.width.Width.TheVariants.{W16}
use Rattle.c_store.specs.declared.object.ObjectKind.TheVariants.{Heap, Static}
use Rattle.c_store.specs.Store.{Store, initial, make, end, object_size}
use Rattle.c_store.specs.Access.{is_live}
use Rattle.term_bank.specs.declared.shape.Shape.TheVariants.{Choose, Read}
use Rattle.term_bank.specs.declared.sort.Sort.TheVariants.{Memory}
use Rattle.term_bank.specs.Values.{Environment, Values, worth, of_truth, of_word, of_store}
use Rattle.term_bank.specs.Memories.{behind, distance, is_within, lay, write, zero_range, copy_range, read, has_kind}

blank : Store
blank = initial (λ _. 0)

-- the bytes 1 to 8 at 0
bytes : Store
bytes = write 8 0 0x0807060504030201 blank

one_byte : read 1 bytes 3 ≡ 4
unfolding bytes blank read write lay is_within distance behind
one_byte = refl

two_bytes : read 2 bytes 0 ≡ 0x0201
unfolding bytes blank read write lay is_within distance behind
two_bytes = refl

four_bytes : read 4 bytes 2 ≡ 0x06050403
unfolding bytes blank read write lay is_within distance behind
four_bytes = refl

eight_bytes : read 8 bytes 0 ≡ 0x0807060504030201
unfolding bytes blank read write lay is_within distance behind
eight_bytes = refl

zeroed : read 4 (zero_range 1 2 bytes) 0 ≡ 0x04000001
unfolding bytes blank read write zero_range lay is_within distance behind
zeroed = refl

-- four bytes copied two places on, over two of themselves
copied : read 8 (copy_range 2 bytes 0 4 bytes) 0 ≡ 0x0807040302010201
unfolding bytes blank read write copy_range lay is_within distance behind
copied = refl

-- the second byte of a word at the last address is at 0
round : read 1 (write 2 (2 ^ 64 - 1) 258 blank) 0 ≡ 1
unfolding blank read write lay is_within distance behind
round = refl

-- a choice between these bytes and none: node 0 is the truth, 1 and 2 the memories, 3 what is chosen, 4 the address 0
nowhere : Environment
nowhere = record {
  entry = blank;
  parameters = [];
  base = 0;
  words = λ _. 0;
  bytes = λ _. 0;
  rows = λ _ _. 0;
}

choosing : Bool → Values
choosing b zero = of_truth b
choosing b (suc zero) = of_store bytes
choosing b (suc (suc zero)) = of_store blank
choosing b (suc (suc (suc n))) = of_word 0

chosen : Bool → Values
chosen b zero = of_truth b
chosen b (suc zero) = of_store bytes
chosen b (suc (suc zero)) = of_store blank
chosen b (suc (suc (suc zero))) = worth nowhere (choosing b) (Choose Memory 0 1 2)
chosen b (suc (suc (suc (suc n)))) = of_word 0

first_chosen : (worth nowhere (chosen true) (Read W16 3 4)).word ≡ 0x0201
unfolding nowhere choosing chosen bytes blank read write lay is_within distance behind
first_chosen = refl

second_chosen : (worth nowhere (chosen false) (Read W16 3 4)).word ≡ 0
unfolding nowhere choosing chosen bytes blank read write lay is_within distance behind
second_chosen = refl

alive : Store
alive = make 3 (record { kind = Heap; size = 16 }) blank

size_alive : object_size alive 3 ≡ 16
unfolding alive blank
size_alive = refl

kind_alive : has_kind Heap (alive.objects 3) ≡ true
unfolding alive blank
kind_alive = refl

no_other_kind : has_kind Static (alive.objects 3) ≡ false
unfolding alive blank
no_other_kind = refl

-- 16 bytes from the object's start on are live, 17 aren't
live_bytes : is_live alive 12884901888 16 ≡ true
unfolding alive blank
live_bytes = refl

one_too_long : is_live alive 12884901888 17 ≡ false
unfolding alive blank
one_too_long = refl

size_dead : object_size (end 3 alive) 3 ≡ 0
unfolding alive blank
size_dead = refl

kind_dead : has_kind Heap ((end 3 alive).objects 3) ≡ false
unfolding alive blank
kind_dead = refl
