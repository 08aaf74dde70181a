-- What calls do, by what is called (C99 6.5.2.2). A call begins with nothing printed, noted or met, and its caller puts
-- what it printed, noted and met behind its own. A call by rule has four places behind those of its arguments: of the
-- answer, of how much is filled, of what is filled, and of whether filling fails; then one for each `%p` of a log
-- call's format.
use Rattle.std.specs.Prelude.{ℕ, zero, suc, ◌+◌, ◌-◌, ◌*◌, ◌%◌, ◌^◌, ℤ, pos, negsuc, min, Bool, true, false, cond, not}
use Rattle.std.specs.Prelude.{◌&&◌, nat_eq, nat_lt, List, [], ◌∷◌, ◌++◌, length, drop, Option, Some, None, slice_get}
use Rattle.std.specs.Prelude.{unwrap_or}
use Rattle.plain_data.specs.declared.run.Finish.TheVariants as finish
use Rattle.plain_data.specs.declared.run.Happening.TheVariants as happening
use Rattle.plain_data.specs.declared.run.Undefined.TheVariants as undefined
use Rattle.plain_data.specs.Words.{word}
use Rattle.printf_text.specs.declared.piece.Arg.{Arg}
use Rattle.printf_text.specs.declared.piece.Arg.TheVariants as arg
use Rattle.printf_text.specs.declared.piece.Form.{Form}
use Rattle.printf_text.specs.declared.piece.Form.TheVariants as form
use Rattle.printf_text.specs.declared.piece.Piece.{Piece}
use Rattle.printf_text.specs.declared.piece.Piece.TheVariants as piece
use Rattle.printf_text.specs.declared.piece.Size.{Size}
use Rattle.printf_text.specs.declared.piece.Size.TheVariants as size
use Rattle.printf_text.specs.Texts.{piece_text, piece_kinds}
use Rattle.printf_text.specs.Texts.{size_of as size_in}
use Rattle.c_language.specs.Integers.{is_zero}
use Rattle.c_store.specs.declared.object.ObjectKind.TheVariants as object
use Rattle.c_store.specs.Store.{Store, start, object_of, make, end, zero_range, lay, read}
use Rattle.c_store.specs.Access.{can_access, can_write, can_free}
use Rattle.c_means.specs.Parts.{Env, World}
use Rattle.c_means.specs.Values.{address}
use Rattle.c_means.specs.Calls.{text_at, most_of, text_arg, shown_number, before_args, pointers_in, pointer_places}
use Rattle.core_tree.specs.declared.expr.Callee.{Callee}
use Rattle.core_tree.specs.declared.expr.Callee.TheVariants as callee
use Rattle.core_tree.specs.declared.expr.Fill.{Fill}
use Rattle.core_tree.specs.declared.expr.Holder.{Holder}
use Rattle.core_tree.specs.declared.expr.Holder.TheVariants as holder
use Rattle.core_tree.specs.declared.expr.OutsideAnswer.{OutsideAnswer}
use Rattle.core_tree.specs.declared.expr.OutsideAnswer.TheVariants as answer
use Rattle.core_tree.specs.declared.expr.Pointee.{Pointee}
use Rattle.core_tree.specs.declared.expr.Pointee.TheVariants as pointee
use Rattle.core_tree.specs.declared.expr.Watched.{Watched}
use Rattle.core_tree.specs.declared.types.ValueType.{ValueType}
use Rattle.core_tree.specs.declared.types.WordType.{WordType}
use Rattle.core_tree.specs.Numbers.{int, wrapped, size_of, converted_to, value_of_bytes}
use Rattle.core_tree.specs.States.{Taking, Done, Arrow, Calls, Level, Measures, entered, note, meet, meets, with_store}
use Rattle.core_tree.specs.States.{finished}

-- ---- answers

-- converted to the type of the call
abbrev pub answers : {O : Type 0} → ValueType → ℤ → Done O → Done O
answers t z d = record d { value = Some (converted_to t z) }

-- first to `int`, the type of a library function that counts
abbrev pub answers_int : {O : Type 0} → ValueType → ℤ → Done O → Done O
answers_int t z d = answers t (wrapped int z) d

-- the word at a place
abbrev pub asked : {O : Type 0} → Level O → ℕ → ℕ
asked l p = l.world.word p % 2 ^ 64

abbrev pub value_or_zero : List ℤ → ℕ → ℤ
value_or_zero vs i = unwrap_or (slice_get vs i) (pos 0)

-- ---- texts (C99 7.19.6.1): the arguments of a format, as integers of these types

pub record Spoken : Type 0 where
  pub word : WordType
  pub value : ℤ

abbrev pub spoken : List WordType → List ℤ → List Spoken
spoken [] vs = []
spoken (t ∷ ts) [] = []
spoken (t ∷ ts) (v ∷ vs) = record { word = t; value = v } ∷ spoken ts vs

abbrev pub integer_arg : Spoken → Arg
integer_arg x = arg.Word (word x.word.width x.value) x.word.width x.word.is_signed

-- what `*` takes
abbrev pub star_args : Size → List Spoken → List Arg
star_args size.Star (x ∷ xs) = integer_arg x ∷ []
star_args size.Star [] = []
star_args (size.Written n) xs = []
star_args size.Omitted xs = []

abbrev pub behind_star : Size → List Spoken → List Spoken
behind_star size.Star (x ∷ xs) = xs
behind_star size.Star [] = []
behind_star (size.Written n) xs = xs
behind_star size.Omitted xs = xs

-- `%p`: null, or the number that the place gives; 1 where it gives 0
abbrev pub pointer_arg : {O : Type 0} → Level O → ℕ → ℤ → Arg
pointer_arg l p z = cond (is_zero z) arg.Null (arg.Shown (shown_number (asked l p)))

abbrev pub first_value : List Spoken → Spoken
first_value [] = record { word = int; value = pos 0 }
first_value (x ∷ xs) = x

-- none where a text's byte that is reached is of no live object
abbrev pub formed_arg : {O : Type 0} → Level O → Form → ℤ → Spoken → ℕ → Store → Option Arg
formed_arg l form.Text precision x p s = text_arg (text_at (most_of precision) s (address x.value))
formed_arg l form.Pointer precision x p s = Some (pointer_arg l p x.value)
formed_arg l form.Char precision x p s = Some (integer_arg x)
formed_arg l (form.Signed w) precision x p s = Some (integer_arg x)
formed_arg l (form.Unsigned radix w) precision x p s = Some (integer_arg x)

-- the arguments of pieces, from the first place that is given to a `%p`
abbrev pub arguments_of : {O : Type 0} → Level O → List Piece → List Spoken → ℕ → Store → Option (List Arg)
arguments_of l [] xs p s = Some []
arguments_of l (piece.Literal bytes ∷ ps) xs p s = arguments_of l ps xs p s
arguments_of l (piece.Converted c ∷ ps) xs p s =
    let ys = behind_star c.width xs in
    let zs = behind_star c.precision ys in
    before_args (star_args c.width xs ++ star_args c.precision ys)
    (formed_arg l c.form (size_in (negsuc 0) c.precision (star_args c.precision ys)) (first_value zs) p s)
    (arguments_of l ps (drop 1 zs) (p + pointer_places c.form) s)

-- ---- log calls: the arguments are formed, then the pieces are taken one by one, and the answer is the length of all

abbrev pub taken_then : {O : Type 0} → Option O → (O → Option O) → Option O
taken_then None f = None
taken_then (Some o) f = f o

-- each piece takes its arguments from the front
abbrev pub says_all : {O : Type 0} → Taking O → List Piece → List Arg → O → Option O
says_all t [] xs o = Some o
says_all t (p ∷ ps) xs o =
    taken_then (t.take_text (piece_text p xs) o) (says_all t ps (drop (length (piece_kinds p)) xs))

abbrev pub number_held : Env → ℕ → Holder → ℕ
number_held env at holder.Local = env at
number_held env at (holder.Fixed place) = place

abbrev pub seen : Env → Store → Watched → ℤ
seen env s x =
    value_of_bytes x.stored (read (size_of x.stored) s (start (number_held env x.at x.holder)))

abbrev pub seen_all : Env → Store → List Watched → List ℤ
seen_all env s [] = []
seen_all env s (x ∷ xs) = seen env s x ∷ seen_all env s xs

-- nothing printed is no event
abbrev pub print_noted : {O : Type 0} → Taking O → ℕ → ℕ → List ℤ → Done O → Done O
print_noted t at zero shown d = d
print_noted t at (suc n) shown d = note t (happening.Print at (suc n) shown) d

-- how many bytes were printed since
abbrev pub printed_since : {O : Type 0} → Taking O → O → O → ℕ
printed_since t before behind = t.count behind - t.count before

abbrev pub printed : {O : Type 0} → Taking O → ℕ → ValueType → List ℤ → Done O → Option O → Option (Done O)
printed t at type shown d None = None
printed t at type shown d (Some o) =
    let n = printed_since t d.out o in
    Some (answers_int type (pos n) (record (print_noted t at n shown d) { out = o }))

abbrev pub prints : {O : Type 0} → Taking O → ℕ → ValueType → List Piece → List ℤ → Option (List Arg) → Arrow O
prints t at type ps shown None d = Some (finished (finish.Stopped undefined.Dereference at) d)
prints t at type ps shown (Some xs) d = printed t at type shown d (says_all t ps xs d.out)

abbrev pub log_call :
    {O : Type 0} → Level O → ℕ → ValueType → List Piece → ℕ → List WordType → List Watched → Env → List ℤ → ℕ → Arrow O
log_call l at type ps before ts watched env vs base d =
    prints l.taking at type ps (seen_all env d.store watched)
    (arguments_of l ps (drop before (spoken ts vs)) (base + 4) d.store)
    (meets l.taking (base + 4) (pointers_in ps) d)

-- ---- functions of the C library (C99 7.20.3, 7.20.4)

abbrev pub zeroed_if : Bool → ℕ → ℕ → Store → Store
zeroed_if true a n s = zero_range a n s
zeroed_if false a n s = s

-- an object of so many bytes at this place, or null where the place says so; more than the bound leaves the bounds
abbrev pub heap_object : {O : Type 0} → Level O → ℕ → ValueType → ℕ → ℕ → Bool → Done O → Done O
heap_object l at type n q zeroes d =
    cond (nat_lt l.limits.heap n) (finished (finish.Left at) d)
    (cond (nat_eq (asked l q) 0) (answers type (pos 0) (meet l.taking q d))
    (answers type (pos (start q)) (meet l.taking q (with_store (zeroed_if zeroes (start q) n (make q (record {
      kind = object.Heap;
      size = n;
    }) d.store)) d))))

-- null has no effect (C99 7.20.3.2p2)
abbrev pub freed : {O : Type 0} → ℕ → ℕ → Done O → Done O
freed at a d =
    cond (can_free d.store a) (cond (nat_eq a 0) d (with_store (end (object_of a) d.store) d))
    (finished (finish.Stopped undefined.Free at) d)

-- ---- functions outside: they write nothing but what a buffer is filled with

abbrev pub pointee_size : {O : Type 0} → Level O → Pointee → ℕ
pointee_size l pointee.Text = suc l.limits.outside
pointee_size l (pointee.Bytes n) = n

-- the last byte of a text is 0
abbrev pub text_ended : {O : Type 0} → Level O → Pointee → ℕ → Store → Store
text_ended l pointee.Text q s = zero_range (start q + l.limits.outside) 1 s
text_ended l (pointee.Bytes n) q s = s

abbrev pub outside_object : {O : Type 0} → Level O → Pointee → ℕ → Store → Store
outside_object l x q s = text_ended l x q (make q (record { kind = object.Outside; size = pointee_size l x }) s)

abbrev pub outside_pointer : {O : Type 0} → Level O → ValueType → Bool → Pointee → ℕ → Done O → Done O
outside_pointer l type never_null x q d =
    cond (nat_eq (asked l q) 0 && not never_null) (answers type (pos 0) d)
    (answers type (pos (start q)) (with_store (outside_object l x q d.store) d))

abbrev pub outside_answer : {O : Type 0} → Level O → ValueType → OutsideAnswer → ℕ → Done O → Done O
outside_answer l type answer.Nothing q d = answers type (pos 0) d
outside_answer l type answer.Number q d = answers type (pos (asked l q)) (meet l.taking q d)
outside_answer l type (answer.Pointer never_null x) q d = outside_pointer l type never_null x q (meet l.taking q d)

-- the least of the word at the second place, the length and the bound
abbrev pub fill_count : {O : Type 0} → Level O → ℕ → ℕ → ℕ
fill_count l q n = min (asked l (q + 1)) (min n l.limits.heap)

-- the first bytes of the object at the third place, as the world has them
abbrev pub fills_at : World → ℕ → ℕ → ℕ → Store → Store
fills_at world q a n s = lay a n (λ i. world.byte (start (q + 2) + i)) s

-- of two undefined kinds the access comes first
abbrev pub filled : {O : Type 0} → Level O → ℕ → ℕ → ℕ → ℕ → (Done O → Done O) → Done O → Done O
filled l at q a n f d =
    cond (can_access d.store a n)
    (cond (can_write d.store a n) (f (with_store (fills_at l.world q a n d.store) d))
    (finished (finish.Stopped undefined.LiteralWrite at) d))
    (finished (finish.Stopped undefined.Dereference at) d)

abbrev pub is_odd : ℕ → Bool
is_odd n = nat_eq (n % 2) 1

-- with a count as its answer, where the fourth place's word is odd nothing is filled, and the answer is -1
abbrev pub filled_by :
    {O : Type 0} → Bool → Level O → ℕ → ValueType → OutsideAnswer → ℕ → ℕ → ℕ → Done O → Done O
filled_by false l at type x q a n d =
    filled l at q a n (outside_answer l type x q) (meets l.taking (q + 1) 2 d)
filled_by true l at type x q a n d =
    cond (is_odd (asked l (q + 3))) (answers type (negsuc 0) (meet l.taking (q + 3) d))
    (filled l at q a n (answers type (pos n)) (meets l.taking (q + 1) 3 d))

abbrev pub outside_call :
    {O : Type 0} → Level O → ℕ → ValueType → OutsideAnswer → Option Fill → List ℤ → ℕ → Done O → Done O
outside_call l at type x None vs q d = outside_answer l type x q d
outside_call l at type x (Some f) vs q d =
    filled_by f.counts l at type x q (address (value_or_zero vs f.buffer))
    (fill_count l q (address (value_or_zero vs f.length))) d

-- ---- calls by body: one level of depth fewer; where none is left, the run leaves the bounds

abbrev pub body_call : {O : Type 0} → Option (Calls O) → Taking O → ℕ → ℕ → List ℤ → ℕ → Store → O → Option (Done O)
body_call None t at f vs base s o = Some (finished (finish.Left at) (entered t s o))
body_call (Some calls) t at f vs base s o = calls f vs base s o

-- ---- all calls

abbrev pub callee_size : Callee → Measures → ℕ
callee_size (callee.Body f) m = m.size f
callee_size (callee.Log ps before ts watched) m = 0
callee_size (callee.Identity i) m = 0
callee_size callee.Exit m = 0
callee_size callee.Abort m = 0
callee_size callee.Malloc m = 0
callee_size callee.Calloc m = 0
callee_size callee.Free m = 0
callee_size (callee.Outside x fill) m = 0

abbrev pub callee_room : Callee → Measures → ℕ
callee_room (callee.Body f) m = m.room f
callee_room (callee.Log ps before ts watched) m = 4 + pointers_in ps
callee_room (callee.Identity i) m = 4
callee_room callee.Exit m = 4
callee_room callee.Abort m = 4
callee_room callee.Malloc m = 4
callee_room callee.Calloc m = 4
callee_room callee.Free m = 4
callee_room (callee.Outside x fill) m = 4

-- what is done, from the values of the arguments, the first place, the store and what was left outside before
abbrev pub called :
    {O : Type 0} → Level O → Callee → ℕ → ValueType → Env → List ℤ → ℕ → Store → O → Option (Done O)
called l (callee.Body f) at type env vs base s o = body_call l.call l.taking at f vs base s o
called l (callee.Log ps before ts watched) at type env vs base s o =
    log_call l at type ps before ts watched env vs base (entered l.taking s o)
called l (callee.Identity i) at type env vs base s o = Some (answers type (value_or_zero vs i) (entered l.taking s o))
called l callee.Exit at type env vs base s o =
    Some (finished (finish.Exit (value_or_zero vs 0)) (entered l.taking s o))
called l callee.Abort at type env vs base s o = Some (finished finish.Abort (entered l.taking s o))
called l callee.Malloc at type env vs base s o =
    Some (heap_object l at type (address (value_or_zero vs 0)) base false (entered l.taking s o))
called l callee.Calloc at type env vs base s o =
    Some (heap_object l at type (address (value_or_zero vs 0) * address (value_or_zero vs 1)) base true
    (entered l.taking s o))
called l callee.Free at type env vs base s o = Some (freed at (address (value_or_zero vs 0)) (entered l.taking s o))
called l (callee.Outside x fill) at type env vs base s o =
    Some (outside_call l at type x fill vs base (entered l.taking s o))
