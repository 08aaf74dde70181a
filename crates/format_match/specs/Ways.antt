-- What the parts of the matcher add to a list of splits, as the ends that arguments meet in it.
use Rattle.std.specs.Prelude.{ℕ, zero, suc, ◌+◌, ◌-◌, ◌≡◌, ◌==◌, nat_lt, unsigned_abs, Bool, true, false, not, ◌&&◌, ◌||◌, if◌then◌else◌, ℤ, pos, negsuc, neg_ℤ, Option, Some, None, List, [], ◌∷◌, ◌++◌, length, take, drop, map, All}
use Rattle.std.specs.List.{filter, list_any, list_all}
use Rattle.std.specs.Int.{is_negative}
use Rattle.std.specs.Str.{bytes_eq}
use Rattle.plain_data.specs.Words.{is_signed}
use Rattle.plain_data.specs.declared.width.Width.TheVariants.{W32}
use Rattle.printf_text.specs.declared.kind.Kind.{Kind}
use Rattle.printf_text.specs.declared.kind.Kind.TheVariants as kind
use Rattle.printf_text.specs.declared.piece.Arg.{Arg}
use Rattle.printf_text.specs.declared.piece.Arg.TheVariants as arg
use Rattle.printf_text.specs.declared.piece.Flags.{Flags}
use Rattle.printf_text.specs.declared.piece.Form.{Form}
use Rattle.printf_text.specs.declared.piece.Form.TheVariants.{Text, Pointer}
use Rattle.printf_text.specs.declared.piece.Size.{Size}
use Rattle.printf_text.specs.declared.piece.Size.TheVariants.{Omitted, Written, Star}
use Rattle.printf_text.specs.declared.piece.Conversion.{Conversion}
use Rattle.printf_text.specs.declared.piece.Piece.{Piece}
use Rattle.printf_text.specs.declared.piece.Piece.TheVariants.{Literal, Converted}
use Rattle.printf_text.specs.Texts.{HasKind, HaveKinds, form_kind, piece_kinds, piece_text, size_kinds, int_of, first, size_of, formed, conversion_text, cut, text_bytes}
use Rattle.format_match.specs.Splits.{begins, meets, meet_all, is_between, conversion_marks, star_marks, IsMet}
use Rattle.format_match.specs.Reading.{pads_right}
use Rattle.format_match.specs.declared.split.Constraint.{Constraint}
use Rattle.format_match.specs.declared.split.Constraint.TheVariants.{Between}
use Rattle.format_match.specs.declared.split.Split.{Split}
use Rattle.format_match.specs.declared.way.Range.{Range}
use Rattle.format_match.specs.declared.way.Sizes.{Sizes}

-- the ends of the splits that arguments meet, in order
abbrev pub met_ends : List Split → List Arg → List ℕ
met_ends [] args = []
met_ends (s ∷ splits) args = if meet_all s.constraints args then s.end ∷ met_ends splits args else met_ends splits args

-- the splits are met by arguments of these kinds at exactly these ends, each by some; ranges stand where stars are
pub record Describes (kinds : List Kind) (stars : List Bool) (ends : List Arg → List ℕ) (splits : List Split) : Type 0 where
  pub exact : (args : List Arg) → HaveKinds kinds args → met_ends splits args ≡ ends args
  pub met : All (λ s. IsMet kinds s) splits
  pub stars_are : All (λ s. map is_between s.constraints ≡ stars) splits

-- such splits were put at the end
pub record Adds (kinds : List Kind) (stars : List Bool) (ends : List Arg → List ℕ) (old now : List Split) : Type 0 where
  pub added : List Split
  pub is : now ≡ old ++ added
  pub describes : Describes kinds stars ends added

-- ---- ends

-- what a function gives at each number below this one, in order
abbrev pub upto : (ℕ → List ℕ) → ℕ → List ℕ
upto f zero = []
upto f (suc n) = upto f n ++ f n

-- the end, where the text is this
abbrev pub here : List ℕ → List ℕ → ℕ → List ℕ
here text slice end = if bytes_eq text slice then end ∷ [] else []

-- where a text that stands in a log from this position on ends
abbrev pub ends_of : List ℕ → List ℕ → ℕ → List ℕ
ends_of text log from = if begins text (drop from log) then (from + length text) ∷ [] else []

-- ---- one conversion with given width and precision

abbrev pub range_kinds : Option Range → List Kind
range_kinds None = []
range_kinds (Some r) = kind.Integer ∷ []

abbrev pub range_marks : Option Range → List Bool
range_marks None = []
range_marks (Some r) = true ∷ []

abbrev pub range_constraints : Option Range → List Constraint
range_constraints None = []
range_constraints (Some r) = Between r.low r.high ∷ []

-- the first argument is in the range, if there is one
abbrev pub holds : Option Range → List Arg → Bool
holds None args = true
holds (Some r) args = meets (Between r.low r.high) (first args)

-- some argument is in the range, if there is one
abbrev pub IsHeld : Option Range → Type 0
IsHeld None = Unit {0}
IsHeld (Some r) = (a : Arg) × HasKind kind.Integer a × (meets (Between r.low r.high) a ≡ true)

abbrev pub after : Option Range → List Arg → List Arg
after range args = drop (length (range_kinds range)) args

abbrev pub sizes_kinds : Sizes → Form → List Kind
sizes_kinds sizes form = range_kinds sizes.width.range ++ (range_kinds sizes.precision.range ++ form_kind form ∷ [])

abbrev pub sizes_marks : Sizes → List Bool
sizes_marks sizes = range_marks sizes.width.range ++ (range_marks sizes.precision.range ++ false ∷ [])

abbrev pub sizes_constraints : Sizes → Constraint → List Constraint
sizes_constraints sizes c = range_constraints sizes.width.range ++ (range_constraints sizes.precision.range ++ c ∷ [])

pub record AreHeld (sizes : Sizes) : Type 0 where
  pub width : IsHeld sizes.width.range
  pub precision : IsHeld sizes.precision.range

-- the ends of the arguments after the one in the range, if there is one, and else none
abbrev pub ranged : Option Range → (List Arg → List ℕ) → List Arg → List ℕ
ranged range ends args = if holds range args then ends (after range args) else []

abbrev pub sized_ends : Sizes → (Arg → List ℕ) → List Arg → List ℕ
sized_ends sizes ends = ranged sizes.width.range (ranged sizes.precision.range (λ args. ends (first args)))

-- the end, where the argument prints this
abbrev pub formed_end : Flags → Form → Sizes → List ℕ → ℕ → Arg → List ℕ
formed_end flags form sizes slice end a = here (formed flags form sizes.width.value sizes.precision.value a) slice end

-- the same of a null pointer, and of a shown one
abbrev pub null_end : Flags → Sizes → List ℕ → ℕ → Arg → List ℕ
null_end flags sizes slice end arg.Null = formed_end flags Pointer sizes slice end arg.Null
null_end flags sizes slice end a = []

abbrev pub shown_end : Flags → Sizes → List ℕ → ℕ → Arg → List ℕ
shown_end flags sizes slice end (arg.Shown n) = formed_end flags Pointer sizes slice end (arg.Shown n)
shown_end flags sizes slice end a = []

-- ---- one conversion, where arguments may give its width and precision

-- the end, where the arguments print this with this width: those after the width's
abbrev pub precision_end : Conversion → ℤ → List ℕ → ℕ → List Arg → List ℕ
precision_end c width slice end args =
    here (formed c.flags c.form width (size_of (negsuc 0) c.precision args) (first (drop (length (size_kinds c.precision)) args))) slice end

-- the same where the first argument gives the precision
abbrev pub star_precision_end : Conversion → ℤ → List ℕ → ℕ → List Arg → List ℕ
star_precision_end c width slice end args = here (formed c.flags c.form width (int_of (first args)) (first (drop 1 args))) slice end

-- the same where the first argument gives this precision, and where it gives one below a number
abbrev pub precision_at_end : Conversion → ℤ → List ℕ → ℕ → ℕ → List Arg → List ℕ
precision_at_end c width slice end k =
    ranged (Some (record { low = pos k; high = pos k })) (λ args. here (formed c.flags c.form width (pos k) (first args)) slice end)

abbrev pub short_precisions_end : Conversion → ℤ → List ℕ → ℕ → ℕ → List Arg → List ℕ
short_precisions_end c width slice end n args = upto (λ k. precision_at_end c width slice end k args) n

-- where it gives one below 0, and where it gives one above the number of bytes
abbrev pub no_precision_end : Conversion → ℤ → List ℕ → ℕ → List Arg → List ℕ
no_precision_end c width slice end =
    ranged (Some (record { low = negsuc 2147483647; high = negsuc 0 })) (λ args. here (formed c.flags c.form width (negsuc 0) (first args)) slice end)

abbrev pub long_precisions_end : Conversion → ℤ → List ℕ → ℕ → List Arg → List ℕ
long_precisions_end c width slice end =
    ranged (Some (record { low = pos (length slice + 1); high = pos 2147483647 })) (λ args. here (formed c.flags c.form width (pos (length slice + 1)) (first args)) slice end)

-- where no argument gives it
abbrev pub written_precision_end : Conversion → ℤ → List ℕ → ℕ → List Arg → List ℕ
written_precision_end c width slice end args = here (formed c.flags c.form width (size_of (negsuc 0) c.precision []) (first args)) slice end

-- where the first argument gives a width whose absolute value is below the number of bytes, where it gives this one, and
-- where none gives it
abbrev pub thin_widths_end : Conversion → List ℕ → ℕ → List Arg → List ℕ
thin_widths_end c slice end args =
    if length slice == 0 then [] else ranged (Some (record { low = neg_ℤ (pos (length slice - 1)); high = pos (length slice - 1) })) (precision_end c (pos 0) slice end) args

abbrev pub exact_width_end : Conversion → ℤ → List ℕ → ℕ → List Arg → List ℕ
exact_width_end c value slice end = ranged (Some (record { low = value; high = value })) (precision_end c value slice end)

abbrev pub written_width_end : Conversion → List ℕ → ℕ → List Arg → List ℕ
written_width_end c slice end args = precision_end c (size_of (pos 0) c.width []) slice end args

-- where the first argument gives the width
abbrev pub star_width_end : Conversion → List ℕ → ℕ → List Arg → List ℕ
star_width_end c slice end args = precision_end c (int_of (first args)) slice end (drop 1 args)

abbrev pub conversion_end : Conversion → List ℕ → ℕ → List Arg → List ℕ
conversion_end c slice end args = here (conversion_text c args) slice end

abbrev pub width_kinds : Conversion → List Kind
width_kinds c = size_kinds c.precision ++ form_kind c.form ∷ []

abbrev pub width_marks : Conversion → List Bool
width_marks c = star_marks c.precision ++ false ∷ []

abbrev pub is_star : Size → Bool
is_star Omitted = false
is_star (Written n) = false
is_star Star = true

-- a value of `int`
abbrev pub IsInt : ℤ → Type 0
IsInt z = is_signed W32 z ≡ true

-- ---- one piece after others

-- the bytes that must follow, as the next piece says: those of a literal, and else none
abbrev pub next_literal : List Piece → List ℕ
next_literal [] = []
next_literal (Literal bytes ∷ pieces) = bytes
next_literal (Converted c ∷ pieces) = []

-- the ends that these bytes follow
abbrev pub kept_ends : List ℕ → List ℕ → List ℕ → List ℕ
kept_ends next log ends = filter (λ e. begins next (drop e log)) ends

abbrev pub kept_here : List ℕ → List ℕ → List ℕ → List ℕ
kept_here next tail ends = if begins next tail then ends else []

abbrev pub piece_marks : Piece → List Bool
piece_marks (Literal bytes) = []
piece_marks (Converted c) = conversion_marks c

-- a split of later pieces after one of those before them
abbrev pub followed : Split → Split → Split
followed before after = record { end = after.end; constraints = before.constraints ++ after.constraints }

-- what follows a split by a piece was put at the end, where the next bytes follow
pub record AddsAfter (next : List ℕ) (piece : Piece) (log : List ℕ) (before : Split) (old now : List Split) : Type 0 where
  pub added : List Split
  pub is : now ≡ old ++ map (followed before) added
  pub describes : Describes (piece_kinds piece) (piece_marks piece) (λ args. kept_ends next log (ends_of (piece_text piece args) log before.end)) added

-- the split, with its end so many bytes on, was put at the end where the next bytes follow
abbrev pub Moves : List ℕ → List ℕ → ℕ → Split → List Split → List Split → Type 0
Moves next log len before old now =
    now ≡ old ++ (if begins next (drop (before.end + len) log) then record { end = before.end + len; constraints = before.constraints } ∷ [] else [])

-- what follows each of the splits, in order
abbrev pub Follows : List ℕ → Piece → List ℕ → List Split → List Split → Type 0
Follows next piece log [] now = now ≡ []
Follows next piece log (s ∷ splits) now = (old : List Split) × AddsAfter next piece log s [] old × ((rest : List Split) × Follows next piece log splits rest × (now ≡ old ++ rest))

-- ---- texts

-- padding of so many bytes
abbrev pub fill_byte : Flags → Sizes → ℕ
fill_byte flags sizes = if flags.zero && is_negative sizes.precision.value then 48 else 32

-- the text beside the padding, where a field pads so
abbrev pub unpadded : Flags → Sizes → List ℕ → ℕ → Option (List ℕ)
unpadded flags sizes slice padding =
    let len = length slice - padding in
    if not (unsigned_abs sizes.width.value - len == padding) then None
    else if pads_right flags sizes then (if list_all (λ b. b == 32) (drop len slice) then Some (take len slice) else None)
    else (if list_all (λ b. b == fill_byte flags sizes) (take padding slice) then Some (drop padding slice) else None)

-- whether a text that prints these bytes ends with them
abbrev pub text_ended : ℤ → List ℕ → Option Bool
text_ended precision bytes =
    if list_any (λ b. b == 0) bytes then None
    else if is_negative precision || nat_lt (length bytes) (unsigned_abs precision) then Some true
    else if length bytes == unsigned_abs precision then Some false
    else None

-- the end, where the text prints this with padding of so many bytes
abbrev pub padded_end : Flags → Sizes → List ℕ → ℕ → ℕ → Arg → List ℕ
padded_end flags sizes slice end padding a =
    if length slice == length (cut sizes.precision.value (text_bytes a)) + padding then formed_end flags Text sizes slice end a else []
