-- The items of a block, one at a time.
use Rattle.std.proofs.Common.{◌≡◌, ℕ, suc, List, [], ◌∷◌, ◌++◌, Some, None, true, false, refl, ap, ◌∙◌}
use Rattle.c_language.specs.declared.token.Punctuator.TheVariants as mark
use Rattle.c_language.specs.declared.unit.Stmt.{Stmt}
use Rattle.c_grammar.specs.Parts.{State}
use Rattle.c_grammar.specs.Reading.{Reading, ◌>>=◌, begins}
use Rattle.c_grammar.specs.UnitReading.{Turn, block_items_at}
use Rattle.c_reading.specs.declared.fault.ParseFault.{ParseFault}
use Rattle.c_reading.specs.declared.fault.ParseFault.TheVariants as fault
use Rattle.c_reading.specs.Cursor.{Fails, after}
use Rattle.c_reading.proofs.Lists.{turned, stopped, failed}

item_none : (turn : Turn) (m left : ℕ) (s : State) → left ≡ suc m → begins mark.RightBrace s ≡ true
    → block_items_at turn left s ≡ Some ([], s)
unfolding block_items_at
item_none turn m left s e none = rw (e, none) refl

item_step : (turn : Turn) (m left : ℕ) (s : State) (read : Reading Stmt) → left ≡ suc m
    → begins mark.RightBrace s ≡ false → turn 1 s ≡ read
    → block_items_at turn left s ≡ (read >>= (λ x. block_items_at turn m x.1 >>= (λ more. Some (x.0 ∷ more.0, more.1))))
unfolding block_items_at
item_step turn m left s read e goes reads = rw (e, goes, reads) refl

item_zero : (turn : Turn) (left : ℕ) (s : State) → left ≡ 0 → block_items_at turn left s ≡ None
unfolding block_items_at
item_zero turn left s e = rw e refl

pub items_stop : (turn : Turn) (m left : ℕ) (front : List Stmt) (s : State) (whole : Reading (List Stmt))
    → left ≡ suc m → begins mark.RightBrace s ≡ true → after front (block_items_at turn left s) ≡ whole
    → whole ≡ Some (front, s)
items_stop turn m left front s whole e none reads =
    stopped front (block_items_at turn left s) whole s (item_none turn m left s e none) reads

pub items_fail : (turn : Turn) (m left : ℕ) (front : List Stmt) (s : State) (whole : Reading (List Stmt))
    (f : ParseFault) → left ≡ suc m → begins mark.RightBrace s ≡ false → Fails f (turn 1 s)
    → after front (block_items_at turn left s) ≡ whole → Fails f whole
items_fail turn m left front s whole fault.Memory e goes none reads = tt
items_fail turn m left front s whole (fault.Syntax p) e goes none reads =
    failed front (block_items_at turn left s) whole (item_step turn m left s None e goes none) reads
items_fail turn m left front s whole (fault.TooDeep p) e goes none reads =
    failed front (block_items_at turn left s) whole (item_step turn m left s None e goes none) reads

pub items_next : (turn : Turn) (m left : ℕ) (front all : List Stmt) (x y : Stmt) (s w : State)
    (whole : Reading (List Stmt)) → left ≡ suc m → begins mark.RightBrace s ≡ false → turn 1 s ≡ Some (x, w)
    → all ≡ front ++ y ∷ [] → y ≡ x → after front (block_items_at turn left s) ≡ whole
    → after all (block_items_at turn m w) ≡ whole
items_next turn m left front all x y s w whole e goes took appended same reads =
    ap (λ l. after l (block_items_at turn m w)) appended
    ∙ ap (λ i. after (front ++ i ∷ []) (block_items_at turn m w)) same
    ∙ turned front x (block_items_at turn left s) (block_items_at turn m w) whole
    (item_step turn m left s (Some (x, w)) e goes took) reads

pub items_out : (turn : Turn) (left : ℕ) (front : List Stmt) (s : State) (whole : Reading (List Stmt)) → left ≡ 0
    → after front (block_items_at turn left s) ≡ whole → whole ≡ None
items_out turn left front s whole e reads =
    failed front (block_items_at turn left s) whole (item_zero turn left s e) reads
