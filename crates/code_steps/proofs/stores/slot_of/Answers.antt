use Rattle.code_steps.proofs.Storing.{stores_void, stores_truth, stores_word, stores_pointer, stores_block}
use Rattle.code_steps.proofs.stores.slot_of.Goals as goal

pub returns-in-Void : goal.returns-in-Void
returns-in-Void c = rw c.in-Void.is stores_void

pub returns-in-Truth : goal.returns-in-Truth
returns-in-Truth c = rw c.in-Truth.is stores_truth

pub returns-in-Word : goal.returns-in-Word
returns-in-Word c = rw c.in-Word.is (stores_word _ _ c.kind_of.ensures.word c.kind_of.ensures.no_bool)

pub returns-in-Pointer : goal.returns-in-Pointer
returns-in-Pointer c = rw c.in-Pointer.is stores_pointer

pub returns-in-Block : goal.returns-in-Block
returns-in-Block c = rw c.in-Block.is (stores_block c.in-Block.bytes)
