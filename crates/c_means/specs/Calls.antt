-- What calls do that aren't by body: log calls, identity calls, `exit`, `abort`, `malloc`, `calloc`, `free`, and
-- functions outside. A call has four places behind those of its arguments: of the answer, of how much is filled, of
-- what is filled, and of whether filling fails; then one for each `%p` of a log call's format.
use Rattle.std.specs.Prelude.{ℕ, zero, suc, ◌+◌, ◌-◌, ◌*◌, ◌%◌, ◌^◌, ℤ, pos, negsuc, min, Bool, true, false, cond}
use Rattle.std.specs.Prelude.{not, ◌&&◌, nat_eq, nat_lt, List, [], ◌∷◌, ◌++◌, length, drop, Option, Some, None}
use Rattle.std.specs.Prelude.{Result, Ok, Err, slice_get, unwrap_or}
use Rattle.std.specs.List.{list_any}
use Rattle.plain_data.specs.declared.run.Finish.{Finish}
use Rattle.plain_data.specs.declared.run.Finish.TheVariants as finish
use Rattle.plain_data.specs.declared.run.Happening.TheVariants as happening
use Rattle.plain_data.specs.declared.run.Undefined.{Undefined}
use Rattle.plain_data.specs.declared.run.Undefined.TheVariants as undefined
use Rattle.plain_data.specs.declared.width.Width.TheVariants as width
use Rattle.plain_data.specs.Words.{word}
use Rattle.printf_text.specs.declared.piece.Arg.{Arg}
use Rattle.printf_text.specs.declared.piece.Arg.TheVariants as arg
use Rattle.printf_text.specs.declared.piece.Form.{Form}
use Rattle.printf_text.specs.declared.piece.Form.TheVariants as form
use Rattle.printf_text.specs.declared.piece.Piece.{Piece}
use Rattle.printf_text.specs.declared.piece.Piece.TheVariants as piece
use Rattle.printf_text.specs.declared.piece.Size.{Size}
use Rattle.printf_text.specs.declared.piece.Size.TheVariants as size
use Rattle.printf_text.specs.declared.parse.FormatFault.{FormatFault}
use Rattle.printf_text.specs.Pieces.{pieces_of}
use Rattle.printf_text.specs.Texts.{text_of, size_of}
use Rattle.c_language.specs.declared.class.Class.{Class}
use Rattle.c_language.specs.declared.class.Class.TheVariants as class
use Rattle.c_language.specs.declared.ctype.CType.{CType}
use Rattle.c_language.specs.declared.ctype.IntegerKind.{IntegerKind}
use Rattle.c_language.specs.declared.ctype.IntegerKind.TheVariants as int_
use Rattle.c_language.specs.declared.tables.Tables.{Tables}
use Rattle.c_language.specs.Types.{kind_of, target_of, is_integer}
use Rattle.c_language.specs.Integers.{width_of, is_signed, converted}
use Rattle.c_language.specs.Integers as integers
use Rattle.c_store.specs.declared.object.ObjectKind.TheVariants as object
use Rattle.c_store.specs.Store.{Store, start, object_of, offset_of, object_size, make, end, zero_range, lay}
use Rattle.c_store.specs.Access.{is_live, can_access, can_write, can_free}
use Rattle.c_language.specs.declared.scope.Duration.TheVariants as duration
use Rattle.c_language.specs.declared.scope.Entry.{Entry}
use Rattle.c_language.specs.declared.scope.Means.{Means}
use Rattle.c_language.specs.declared.scope.Means.TheVariants as means
use Rattle.c_language.specs.Scopes.{Block}
use Rattle.c_means.specs.declared.kind.Kind.TheVariants as k
use Rattle.c_means.specs.Parts.{State, Env, Level, Site, note, print, meet, with_store}
use Rattle.c_means.specs.Values.{address, bytes_of, class_in, converted_to}
use Rattle.c_means.specs.Objects.{value_at}
use Rattle.c_means.specs.Expressions.{object_number}
use Rattle.c_means.specs.declared.profile.FillAnswer.{FillAnswer}
use Rattle.c_means.specs.declared.profile.FillAnswer.TheVariants as answer
use Rattle.c_means.specs.declared.profile.FillFunction.{FillFunction}
use Rattle.c_means.specs.declared.profile.LogText.{LogText}
use Rattle.c_means.specs.declared.profile.LogText.TheVariants as log_
use Rattle.c_means.specs.Marks.{Mark, Prints, Exits, Aborts, Stops}
use Rattle.c_means.specs.Rules.{Library, Exit, Abort, Malloc, Calloc, Free}

-- ---- answers

abbrev pub finished : Finish → State → State
finished f d = record d { kind = k.Ended f }

abbrev pub stopped : ℕ → Undefined → State → State
stopped at u d = finished (finish.Stopped u at) d

-- converted to the type of the call
abbrev pub answers : Site → ℤ → State → State
answers g z d = record d { value = Some (converted_to (class_in g.ctype) z) }

-- first to `int`, the type of a library function that counts
abbrev pub answers_int : Site → ℤ → State → State
answers_int g z d = answers g (converted int_.Int z) d

-- the word at a place
abbrev pub asked : Level → ℕ → ℕ
asked l p = l.world.word p % 2 ^ 64

abbrev pub value_or_zero : List ℤ → ℕ → ℤ
value_or_zero vs i = unwrap_or (slice_get vs i) (pos 0)

-- so many places from one on
abbrev pub meets : ℕ → ℕ → State → State
meets p zero d = d
meets p (suc n) d = meets (suc p) n (meet p d)

-- ---- texts (C99 7.19.6.1): the arguments of a format, with the types to which they were converted

pub record Spoken : Type 0 where
  pub ctype : Option CType
  pub value : ℤ

abbrev pub spoken : List (Option CType) → List ℤ → List Spoken
spoken [] vs = []
spoken (t ∷ ts) [] = []
spoken (t ∷ ts) (v ∷ vs) = record { ctype = t; value = v } ∷ spoken ts vs

abbrev pub kind_or_int : Class → IntegerKind
kind_or_int (class.Integer kind) = kind
kind_or_int _ = int_.Int

abbrev pub word_of : IntegerKind → ℤ → Arg
word_of kind z = arg.Word (word (width_of kind) z) (width_of kind) (is_signed kind)

abbrev pub integer_arg : Spoken → Arg
integer_arg x = word_of (kind_or_int (class_in x.ctype)) x.value

-- what `*` takes
abbrev pub star_args : Size → List Spoken → List Arg
star_args size.Star (x ∷ xs) = integer_arg x ∷ []
star_args size.Star [] = []
star_args (size.Written n) xs = []
star_args size.Omitted xs = []

abbrev pub behind_star : Size → List Spoken → List Spoken
behind_star size.Star (x ∷ xs) = xs
behind_star size.Star [] = []
behind_star (size.Written n) xs = xs
behind_star size.Omitted xs = xs

-- ---- `%s`: the bytes up to the first 0, or as many as the precision says; none where one that is reached is of no
-- live object

abbrev pub with_byte : ℕ → Option (List ℕ) → Option (List ℕ)
with_byte b None = None
with_byte b (Some bs) = Some (b ∷ bs)

-- of so many bytes that are left in the object; `most` is the precision that is left
abbrev pub text_from : ℕ → Option ℕ → Store → ℕ → Option (List ℕ)
text_from n (Some zero) s a = Some []
text_from zero None s a = None
text_from zero (Some (suc most)) s a = None
text_from (suc n) None s a = up_to_zero (s.bytes a % 256) (text_from n None s (suc a))
  where
    up_to_zero : ℕ → Option (List ℕ) → Option (List ℕ)
    up_to_zero zero more = Some []
    up_to_zero (suc b) more = with_byte (suc b) more
text_from (suc n) (Some (suc most)) s a = up_to_zero (s.bytes a % 256) (text_from n (Some most) s (suc a))
  where
    up_to_zero : ℕ → Option (List ℕ) → Option (List ℕ)
    up_to_zero zero more = Some []
    up_to_zero (suc b) more = with_byte (suc b) more

abbrev pub bytes_left : Store → ℕ → ℕ
bytes_left s a = cond (is_live s a 0) (object_size s (object_of a) - offset_of a) 0

abbrev pub text_at : Option ℕ → Store → ℕ → Option (List ℕ)
text_at most s a = text_from (bytes_left s a) most s a

-- a negative precision is none (C99 7.19.6.1p5)
abbrev pub most_of : ℤ → Option ℕ
most_of (pos n) = Some n
most_of (negsuc n) = None

abbrev pub text_arg : Option (List ℕ) → Option Arg
text_arg None = None
text_arg (Some bytes) = Some (arg.Text bytes)

-- ---- `%p`: null, or the number that the place gives; 1 where it gives 0

abbrev pub shown_number : ℕ → ℕ
shown_number zero = 1
shown_number (suc n) = suc n

abbrev pub pointer_arg : Level → ℕ → ℤ → Arg
pointer_arg l p z = cond (integers.is_zero z) arg.Null (arg.Shown (shown_number (asked l p)))

abbrev pub first_value : List Spoken → Spoken
first_value [] = record { ctype = None; value = pos 0 }
first_value (x ∷ xs) = x

abbrev pub formed_arg : Level → Form → ℤ → Spoken → ℕ → Store → Option Arg
formed_arg l form.Text precision x p s = text_arg (text_at (most_of precision) s (address x.value))
formed_arg l form.Pointer precision x p s = Some (pointer_arg l p x.value)
formed_arg l form.Char precision x p s = Some (integer_arg x)
formed_arg l (form.Signed w) precision x p s = Some (integer_arg x)
formed_arg l (form.Unsigned radix w) precision x p s = Some (integer_arg x)

abbrev pub pointer_places : Form → ℕ
pointer_places form.Pointer = 1
pointer_places form.Text = 0
pointer_places form.Char = 0
pointer_places (form.Signed w) = 0
pointer_places (form.Unsigned radix w) = 0

abbrev pub before_args : List Arg → Option Arg → Option (List Arg) → Option (List Arg)
before_args xs None more = None
before_args xs (Some a) None = None
before_args xs (Some a) (Some more) = Some (xs ++ a ∷ more)

-- the arguments of pieces, from the first place that is given to a `%p`
abbrev pub arguments_of : Level → List Piece → List Spoken → ℕ → Store → Option (List Arg)
arguments_of l [] xs p s = Some []
arguments_of l (piece.Literal bytes ∷ ps) xs p s = arguments_of l ps xs p s
arguments_of l (piece.Converted c ∷ ps) xs p s =
    let ys = behind_star c.width xs in
    let zs = behind_star c.precision ys in
    before_args (star_args c.width xs ++ star_args c.precision ys)
    (formed_arg l c.form (size_of (negsuc 0) c.precision (star_args c.precision ys)) (first_value zs) p s)
    (arguments_of l ps (drop 1 zs) (p + pointer_places c.form) s)

abbrev pub text_with : List Piece → Option (List Arg) → Option (List ℕ)
text_with ps None = None
text_with ps (Some xs) = Some (text_of ps xs)

-- ---- formats

abbrev pub pieces_or_none : Result (List Piece) FormatFault → List Piece
pieces_or_none (Ok ps) = ps
pieces_or_none (Err fault) = []

abbrev pub newline_if : Bool → List Piece
newline_if true = piece.Literal (10 ∷ []) ∷ []
newline_if false = []

abbrev pub literal_at : List (Option (List ℕ)) → ℕ → List ℕ
literal_at texts i = unwrap_or (unwrap_or (slice_get texts i) None) []

-- the pieces of a log call's format, and how many arguments stand before those of the format
abbrev pub log_pieces : LogText → Site → List Piece
log_pieces (log_.Format i newline) g = pieces_or_none (pieces_of (literal_at g.texts i)) ++ newline_if newline
log_pieces (log_.Text format) g = pieces_or_none (pieces_of format)

abbrev pub before_format : LogText → ℕ
before_format (log_.Format i newline) = suc i
before_format (log_.Text format) = 0

abbrev pub pointers_in : List Piece → ℕ
pointers_in [] = 0
pointers_in (piece.Literal bytes ∷ ps) = pointers_in ps
pointers_in (piece.Converted c ∷ ps) = pointer_places c.form + pointers_in ps

-- ---- watched variables: what a print shows of the objects of integer type that are in scope, or live throughout
-- the run

abbrev pub is_integer_object : Means → Bool
is_integer_object (means.Object t d l) = is_integer t
is_integer_object (means.Function t l) = false
is_integer_object (means.Typedef t) = false
is_integer_object (means.Constant z) = false
is_integer_object means.Faulty = false

abbrev pub is_automatic_object : Means → Bool
is_automatic_object (means.Object t duration.Automatic l) = is_integer t
is_automatic_object (means.Object t duration.Static l) = false
is_automatic_object (means.Function t l) = false
is_automatic_object (means.Typedef t) = false
is_automatic_object (means.Constant z) = false
is_automatic_object means.Faulty = false

-- by offset, each once
abbrev pub inserted : Entry → List Entry → List Entry
inserted e [] = e ∷ []
inserted e (x ∷ xs) = cond (nat_lt e.at x.at) (e ∷ x ∷ xs) (cond (nat_eq e.at x.at) (x ∷ xs) (x ∷ inserted e xs))

abbrev pub automatic_of : List Entry → List Entry → List Entry
automatic_of [] found = found
automatic_of (e ∷ es) found = automatic_of es (cond (is_automatic_object e.means) (inserted e found) found)

-- parameters and locals of all open blocks, hidden ones too
abbrev pub automatic_in : List Block → List Entry
automatic_in [] = []
automatic_in (b ∷ bs) = automatic_of b.entries (automatic_in bs)

-- the number that an object of this kind holds; of what is no integer nothing is seen
abbrev pub seen_in : Option IntegerKind → Store → ℕ → ℤ
seen_in None s a = pos 0
seen_in (Some kind) s a = value_at (class.Integer kind) (integers.bytes_of kind) s a

abbrev pub seen_as : Level → Env → Store → ℕ → Means → ℤ
seen_as l env s at (means.Object t d linkage) = seen_in (kind_of t) s (start (object_number d at l env))
seen_as l env s at (means.Function t linkage) = pos 0
seen_as l env s at (means.Typedef t) = pos 0
seen_as l env s at (means.Constant z) = pos 0
seen_as l env s at means.Faulty = pos 0

abbrev pub seen_all : Level → Env → Store → List Entry → List ℤ
seen_all l env s [] = []
seen_all l env s (e ∷ es) = seen_as l env s e.at e.means ∷ seen_all l env s es

-- those that live throughout the run and that the function names, then parameters and locals
abbrev pub watched : List Entry → Site → List Entry
watched named g = named ++ automatic_in g.scope.blocks

abbrev pub offsets_in : List Entry → List ℕ
offsets_in [] = []
offsets_in (e ∷ es) = e.at ∷ offsets_in es

-- ---- log calls: the whole text is formed, then printed, and its length is the answer

abbrev pub is_text : Form → Bool
is_text form.Text = true
is_text _ = false

abbrev pub is_text_piece : Piece → Bool
is_text_piece (piece.Literal bytes) = false
is_text_piece (piece.Converted c) = is_text c.form

-- a `%s` stands among the pieces
abbrev pub reads_text : List Piece → Bool
reads_text pieces = list_any is_text_piece pieces

-- its text may be of no live object
abbrev pub log_marks : List Entry → LogText → Site → List Mark
log_marks named f g =
    let ps = log_pieces f g in
    Prints g.at ps (offsets_in (watched named g)) ∷ cond (reads_text ps) (Stops g.at undefined.Dereference ∷ []) []

-- nothing printed is no event
abbrev pub prints : Level → List Entry → Site → Env → List ℕ → State → State
prints l named g env [] d = answers_int g (pos 0) d
prints l named g env (b ∷ bs) d =
    let text = b ∷ bs in
    answers_int g (pos (length text))
    (print text (note (happening.Print g.at (length text) (seen_all l env d.store (watched named g))) d))

abbrev pub prints_if : Level → List Entry → Site → Env → Option (List ℕ) → State → State
prints_if l named g env None d = stopped g.at undefined.Dereference d
prints_if l named g env (Some text) d = prints l named g env text d

abbrev pub log_call : Level → List Entry → LogText → Site → Env → List ℤ → ℕ → State → State
log_call l named f g env vs base d =
    let ps = log_pieces f g in
    prints_if l named g env (text_with ps
    (arguments_of l ps (drop (before_format f) (spoken g.types vs)) (base + 4) d.store))
    (meets (base + 4) (pointers_in ps) d)

-- ---- identity calls

abbrev pub identity_call : ℕ → Site → List ℤ → State → State
identity_call i g vs d = answers g (value_or_zero vs i) d

-- ---- functions of the C library

abbrev pub as_number : ℤ → ℕ
as_number z = word width.W64 z

-- an object of so many bytes at this place, or null where the place says so; more than the bound leaves the bounds
-- (C99 7.20.3)
abbrev pub heap_object : Level → Site → ℕ → ℕ → Bool → State → State
heap_object l g n q zeroes d =
    cond (nat_lt l.limits.heap n) (finished (finish.Left g.at) d)
    (cond (nat_eq (asked l q) 0) (answers g (pos 0) (meet q d))
    (answers g (pos (start q)) (meet q (with_store (zeroed_if zeroes (make q (record {
      kind = object.Heap;
      size = n;
    }) d.store)) d))))
  where
    zeroed_if : Bool → Store → Store
    zeroed_if true s = zero_range (start q) n s
    zeroed_if false s = s

-- null has no effect (C99 7.20.3.2p2)
abbrev pub freed : Site → ℕ → State → State
freed g a d =
    cond (can_free d.store a) (cond (nat_eq a 0) d (with_store (end (object_of a) d.store) d))
    (stopped g.at undefined.Free d)

abbrev pub library_marks : Library → Site → List Mark
library_marks Exit g = Exits g.at ∷ []
library_marks Abort g = Aborts g.at ∷ []
library_marks Malloc g = []
library_marks Calloc g = []
library_marks Free g = Stops g.at undefined.Free ∷ []

abbrev pub library_call : Level → Library → Site → List ℤ → ℕ → State → State
library_call l Exit g vs q d = finished (finish.Exit (value_or_zero vs 0)) d
library_call l Abort g vs q d = finished finish.Abort d
library_call l Malloc g vs q d = heap_object l g (as_number (value_or_zero vs 0)) q false d
library_call l Calloc g vs q d =
    heap_object l g (as_number (value_or_zero vs 0) * as_number (value_or_zero vs 1)) q true d
library_call l Free g vs q d = freed g (as_number (value_or_zero vs 0)) d

-- ---- functions outside: they write nothing but what the profile says

abbrev pub is_character_class : Class → Bool
is_character_class (class.Integer int_.Char) = true
is_character_class (class.Integer int_.SignedChar) = true
is_character_class (class.Integer int_.UnsignedChar) = true
is_character_class _ = false

-- what a pointer from outside points to: a string for characters, else one object; of a type without size nothing
abbrev pub outside_size : Level → Tables → Option CType → ℕ
outside_size l tables None = 0
outside_size l tables (Some t) =
    cond (is_character_class (class_in (Some t))) (suc l.limits.outside) (bytes_of tables (Some t))

abbrev pub is_string : Option CType → Bool
is_string None = false
is_string (Some t) = is_character_class (class_in (Some t))

-- the last byte of a string is 0
abbrev pub outside_object : Level → Site → Option CType → ℕ → Store → Store
outside_object l g t q s =
    let n = outside_size l g.scope.tables t in
    ended_if (is_string t) (start q + l.limits.outside) (make q (record { kind = object.Outside; size = n }) s)
  where
    ended_if : Bool → ℕ → Store → Store
    ended_if true a s = zero_range a 1 s
    ended_if false a s = s

abbrev pub pointed : Option CType → Option CType
pointed None = None
pointed (Some t) = target_of t

abbrev pub outside_pointer : Level → Bool → Site → ℕ → State → State
outside_pointer l never_null g q d =
    cond (nat_eq (asked l q) 0 && not never_null) (answers g (pos 0) d)
    (answers g (pos (start q)) (with_store (outside_object l g (pointed g.ctype) q d.store) d))

abbrev pub outside_answer : Class → Level → Bool → Site → ℕ → State → State
outside_answer class.Pointer l never_null g q d = outside_pointer l never_null g q (meet q d)
outside_answer class.Void l never_null g q d = answers g (pos 0) d
outside_answer c l never_null g q d = answers g (pos (asked l q)) (meet q d)

-- ---- filled buffers: the least of the word at the second place, the length and the bound

abbrev pub fill_count : Level → ℕ → ℕ → ℕ
fill_count l q n = min (asked l (q + 1)) (min n l.limits.heap)

-- the first bytes of the object at the third place, as the world has them
abbrev pub fills_at : Level → ℕ → ℕ → ℕ → Store → Store
fills_at l q a n s = lay a n (λ i. l.world.byte (start (q + 2) + i)) s

-- of two undefined kinds the access comes first
abbrev pub filled : Level → Site → ℕ → ℕ → ℕ → (State → State) → State → State
filled l g q a n f d =
    cond (can_access d.store a n)
    (cond (can_write d.store a n) (f (with_store (fills_at l q a n d.store) d))
    (stopped g.at undefined.LiteralWrite d))
    (stopped g.at undefined.Dereference d)

abbrev pub is_odd : ℕ → Bool
is_odd n = nat_eq (n % 2) 1

abbrev pub fill_by : FillAnswer → Level → Bool → Site → ℕ → ℕ → ℕ → State → State
fill_by answer.Free l never_null g q a n d =
    filled l g q a n (outside_answer (class_in g.ctype) l never_null g q) (meets (q + 1) 2 d)
fill_by answer.Count l never_null g q a n d =
    cond (is_odd (asked l (q + 3))) (answers g (negsuc 0) (meet (q + 3) d))
    (filled l g q a n (answers g (pos n)) (meets (q + 1) 3 d))

abbrev pub fill_marks : Option FillFunction → Site → List Mark
fill_marks None g = []
fill_marks (Some f) g = Stops g.at undefined.Dereference ∷ Stops g.at undefined.LiteralWrite ∷ []

abbrev pub outside_call : Level → Option FillFunction → Bool → Site → List ℤ → ℕ → State → State
outside_call l None never_null g vs q d = outside_answer (class_in g.ctype) l never_null g q d
outside_call l (Some f) never_null g vs q d =
    fill_by f.answer l never_null g q (address (value_or_zero vs f.buffer))
    (fill_count l q (as_number (value_or_zero vs f.length))) d
