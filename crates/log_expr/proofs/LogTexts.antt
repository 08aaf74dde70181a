-- What log calls print along a log.
use Rattle.std.proofs.Common.{◌≡◌, ◌≢◌, ℕ, zero, suc, ◌+◌, ◌%◌, ◌<◌, ◌≤◌, ◌^◌, ℤ, negsuc, Bool, true, false, cond, ◌&&◌, ◌⊎◌, inl, inr, nat_eq, eqb, List, [], ◌∷◌, ◌++◌, length, drop, All, Option, Some, None, refl, sym, ap, subst, ◌∙◌, arith, append_assoc}
use Rattle.std.specs.List.{starts_with}
use Rattle.std.proofs.lemmas.List.{length-append, length-drop}
use Rattle.std.proofs.lemmas.List.Elements.{All-nil, All-cons}
use Rattle.plain_data.proofs.WordLaws.{word_below}
use Rattle.printf_text.specs.declared.kind.Kind.{Kind}
use Rattle.printf_text.specs.declared.kind.Kind.TheVariants as kind
use Rattle.printf_text.specs.declared.piece.Arg.{Arg}
use Rattle.printf_text.specs.declared.piece.Arg.TheVariants as arg
use Rattle.printf_text.specs.declared.piece.Form.{Form}
use Rattle.printf_text.specs.declared.piece.Form.TheVariants as form
use Rattle.printf_text.specs.declared.piece.Piece.{Piece}
use Rattle.printf_text.specs.declared.piece.Piece.TheVariants as piece
use Rattle.printf_text.specs.declared.piece.Conversion.{Conversion}
use Rattle.printf_text.specs.declared.piece.Size.{Size}
use Rattle.printf_text.specs.declared.piece.Size.TheVariants as size
use Rattle.printf_text.specs.Texts.{HasKind, HaveKinds, kinds, piece_kinds, size_kinds, form_kind, piece_text, text_of}
use Rattle.printf_text.specs.Texts.{size_of as size_in}
use Rattle.c_language.specs.Integers.{is_zero}
use Rattle.c_store.specs.Store.{Store}
use Rattle.c_means.specs.Values.{address}
use Rattle.c_means.specs.Calls.{text_from, text_at, most_of, text_arg, with_byte, before_args, shown_number, pointer_places}
use Rattle.core_tree.specs.Callees.{Spoken, integer_arg, star_args, behind_star, pointer_arg, first_value, formed_arg, arguments_of, taken_then, says_all, asked}
use Rattle.core_tree.specs.States.{along, follows, Level}
use Rattle.positions.specs.Sets.{has}
use Rattle.format_match.specs.Splits.{begins, Spells}
use Rattle.format_match.specs.Spelled.{EndsExactly}
use Rattle.format_match.proofs.Reached.{spells_from, joined}
use Rattle.format_match.proofs.Following.{begins_short, have_append}
use Rattle.log_expr.specs.Logs.{TextsEnd}

-- ---- a text that is taken along the log

starts_begins : (rest text : List ℕ) → starts_with nat_eq rest text ≡ begins text rest
starts_begins rest [] = refl
starts_begins [] (x ∷ text) = refl
starts_begins (y ∷ rest) (x ∷ text) = ap (λ b. eqb x y && b) (starts_begins rest text)

taken_begins : (log text : List ℕ) (from end : ℕ) → (along log).take_text text from ≡ Some end → (begins text (drop from log) ≡ true) × (from + length text ≡ end)
taken_begins log text from end h = by (follows log from text) (starts_begins (drop from log) text) h
  where
    by : (b : Bool) → b ≡ begins text (drop from log) → cond b (Some (from + length text)) None ≡ Some end → (begins text (drop from log) ≡ true) × (from + length text ≡ end)
    by true e h = (sym e, cc)
    by false e h = absurd cc

-- what is said in turn
said : (log : List ℕ) (p : Piece) (ps : List Piece) (xs : List Arg) (from end : ℕ) → says_all (along log) (p ∷ ps) xs from ≡ Some end
    → (mid : ℕ) × ((along log).take_text (piece_text p xs) from ≡ Some mid) × (says_all (along log) ps (drop (length (piece_kinds p)) xs) mid ≡ Some end)
said log p ps xs from end h = by ((along log).take_text (piece_text p xs) from) refl h
  where
    by : (o : Option ℕ) → (along log).take_text (piece_text p xs) from ≡ o → taken_then o (says_all (along log) ps (drop (length (piece_kinds p)) xs)) ≡ Some end
        → (mid : ℕ) × ((along log).take_text (piece_text p xs) from ≡ Some mid) × (says_all (along log) ps (drop (length (piece_kinds p)) xs) mid ≡ Some end)
    by None e h = absurd cc
    by (Some mid) e h = (mid, e, h)

pub says_spells : (log : List ℕ) (ps : List Piece) (xs : List Arg) (from end : ℕ) → from ≤ length log → says_all (along log) ps xs from ≡ Some end → Spells (text_of ps xs) log from end
says_spells log [] xs from end l h = subst (λ n. Spells [] log from n) (none from end h) (subst (λ n. Spells [] log from n) (omega arith) (spells_from [] log from l refl))
  where
    none : (a b : ℕ) → Some a ≡ Some b → a ≡ b
    none a b e = cc
says_spells log (p ∷ ps) xs from end l h =
    let r = said log p ps xs from end h in
    let b = taken_begins log (piece_text p xs) from r.0 r.1 in
    let front : Spells (piece_text p xs) log from r.0 = subst (λ n. Spells (piece_text p xs) log from n) b.1 (spells_from (piece_text p xs) log from l b.0) in
    joined (piece_text p xs) (text_of ps (drop (length (piece_kinds p)) xs)) log from r.0 end front
    (says_spells log ps (drop (length (piece_kinds p)) xs) r.0 end front.within r.2)

-- it ends where it begins, or in the log
pub says_within : (log : List ℕ) (ps : List Piece) (xs : List Arg) (from end : ℕ) → says_all (along log) ps xs from ≡ Some end → (end ≡ from) ⊎ (end ≤ length log)
says_within log [] xs from end h = inl cc
says_within log (p ∷ ps) xs from end h =
    let r = said log p ps xs from end h in
    let b = taken_begins log (piece_text p xs) from r.0 r.1 in
    by (piece_text p xs) b.0 b.1 (says_within log ps (drop (length (piece_kinds p)) xs) r.0 end r.2)
  where
    by : (t : List ℕ) {mid : ℕ} → begins t (drop from log) ≡ true → from + length t ≡ mid → (end ≡ mid) ⊎ (end ≤ length log) → (end ≡ from) ⊎ (end ≤ length log)
    by t e m (inr q) = inr q
    by [] e m (inl q) = inl (q ∙ sym m ∙ omega arith)
    by (x ∷ t) e m (inl q) =
        let short : length (x ∷ t) ≤ length (drop from log) = begins_short (x ∷ t) (drop from log) e in
        inr (omega (arith, short, length-drop from log, m, q))

pub ends_hold : (ps : List Piece) (log : List ℕ) (enough : Bool) (from : ℕ) (to : List ℕ) → from ≤ length log → enough ≡ true → EndsExactly ps log from to → TextsEnd ps log enough from to
ends_hold ps log enough from to l e x = record { holds = λ xs end k s. (x end).1 (record { args = xs; have = k e; spells = says_spells log ps xs from end l s }) }

pub all_hold : (ps : List Piece) (log : List ℕ) (enough : Bool) (from : ℕ) (to : List ℕ) → has to from ≡ true → ((y : ℕ) → y ≤ length log → has to y ≡ true) → TextsEnd ps log enough from to
all_hold ps log enough from to here all = record { holds = λ xs end k s. elim (says_within log ps xs from end s) [ inl e ↦ subst (λ n. has to n ≡ true) (sym e) here | inr l ↦ all end l ] }

-- ---- arguments

abbrev IsPrinted : ℕ → Type 0
IsPrinted b = (b ≢ 0) × (b < 256)

-- one byte more, unless it is 0
abbrev up_to_zero : ℕ → Option (List ℕ) → Option (List ℕ)
up_to_zero zero more = Some []
up_to_zero (suc b) more = with_byte (suc b) more

up_are : (b : ℕ) (more : Option (List ℕ)) (bytes : List ℕ) → b < 256 → ((l : List ℕ) → more ≡ Some l → All IsPrinted l) → up_to_zero b more ≡ Some bytes → All IsPrinted bytes
up_are zero more bytes l h e = subst (λ l. All IsPrinted l) (some e) (All-nil IsPrinted)
  where
    some : Some [] ≡ Some bytes → [] ≡ bytes
    some e = cc
up_are (suc b) None bytes l h e = absurd cc
up_are (suc b) (Some bs) bytes l h e = subst (λ l. All IsPrinted l) (some e) (All-cons IsPrinted (suc b) bs (one_up b, l) (h bs refl))
  where
    some : Some (suc b ∷ bs) ≡ Some bytes → suc b ∷ bs ≡ bytes
    some e = cc

    one_up : (b : ℕ) → suc b ≡ 0 → ⊥
    one_up b e = omega arith

texts_are : (n : ℕ) (most : Option ℕ) (s : Store) (a : ℕ) (bytes : List ℕ) → text_from n most s a ≡ Some bytes → All IsPrinted bytes
texts_are n (Some zero) s a bytes h = subst (λ l. All IsPrinted l) (some h) (All-nil IsPrinted)
  where
    some : Some [] ≡ Some bytes → [] ≡ bytes
    some e = cc
texts_are zero None s a bytes h = absurd cc
texts_are zero (Some (suc most)) s a bytes h = absurd cc
texts_are (suc n) None s a bytes h = up_are (s.bytes a % 256) (text_from n None s (suc a)) bytes (omega arith) (λ l e. texts_are n None s (suc a) l e) h
texts_are (suc n) (Some (suc most)) s a bytes h = up_are (s.bytes a % 256) (text_from n (Some most) s (suc a)) bytes (omega arith) (λ l e. texts_are n (Some most) s (suc a) l e) h

integer_kind : (x : Spoken) → HasKind kind.Integer (integer_arg x)
integer_kind x = word_below x.word.width x.value

pointer_kind : (l : Level ℕ) (p : ℕ) (z : ℤ) → HasKind kind.Pointer (pointer_arg l p z)
pointer_kind l p z = by (is_zero z)
  where
    shown : (n : ℕ) → n < 2 ^ 64 → (shown_number n ≢ 0) × (shown_number n < 2 ^ 64)
    shown zero h = (λ e. omega arith, omega arith)
    shown (suc n) h = (λ e. omega arith, h)

    by : (b : Bool) → HasKind kind.Pointer (cond b arg.Null (arg.Shown (shown_number (asked l p))))
    by true = tt
    by false = shown (asked l p) (omega arith)

formed_kind : (l : Level ℕ) (f : Form) (precision : ℤ) (x : Spoken) (p : ℕ) (s : Store) (a : Arg) → formed_arg l f precision x p s ≡ Some a → HasKind (form_kind f) a
formed_kind l form.Text precision x p s a h = by (text_at (most_of precision) s (address x.value)) refl h
  where
    some : {X : Type 0} (x y : X) → Some x ≡ Some y → x ≡ y
    some x y e = cc

    by : (o : Option (List ℕ)) → text_at (most_of precision) s (address x.value) ≡ o → text_arg o ≡ Some a → HasKind kind.Text a
    by None e h = absurd cc
    by (Some bytes) e h = subst (λ a. HasKind kind.Text a) (some (arg.Text bytes) a h) (texts_are _ (most_of precision) s (address x.value) bytes e)
formed_kind l form.Pointer precision x p s a h = subst (λ a. HasKind kind.Pointer a) (some (pointer_arg l p x.value) a h) (pointer_kind l p x.value)
  where
    some : {X : Type 0} (x y : X) → Some x ≡ Some y → x ≡ y
    some x y e = cc
formed_kind l form.Char precision x p s a h = subst (λ a. HasKind kind.Integer a) (some (integer_arg x) a h) (integer_kind x)
  where
    some : {X : Type 0} (x y : X) → Some x ≡ Some y → x ≡ y
    some x y e = cc
formed_kind l (form.Signed w) precision x p s a h = subst (λ a. HasKind kind.Integer a) (some (integer_arg x) a h) (integer_kind x)
  where
    some : {X : Type 0} (x y : X) → Some x ≡ Some y → x ≡ y
    some x y e = cc
formed_kind l (form.Unsigned r w) precision x p s a h = subst (λ a. HasKind kind.Integer a) (some (integer_arg x) a h) (integer_kind x)
  where
    some : {X : Type 0} (x y : X) → Some x ≡ Some y → x ≡ y
    some x y e = cc

-- a star's argument
star_kinds : (z : Size) (xs : List Spoken) → length (size_kinds z) ≤ length xs → HaveKinds (size_kinds z) (star_args z xs)
star_kinds size.Omitted xs h = tt
star_kinds (size.Written n) xs h = tt
star_kinds size.Star [] h = absurd (omega arith)
star_kinds size.Star (x ∷ xs) h = (integer_kind x, tt)

star_left : (z : Size) (xs : List Spoken) → length (size_kinds z) ≤ length xs → length (behind_star z xs) + length (size_kinds z) ≡ length xs
star_left size.Omitted xs h = omega arith
star_left (size.Written n) xs h = omega arith
star_left size.Star [] h = absurd (omega arith)
star_left size.Star (x ∷ xs) h = omega arith

kinds_length : (c : Conversion) (ps : List Piece) → length (kinds (piece.Converted c ∷ ps)) ≡ length (size_kinds c.width) + length (size_kinds c.precision) + 1 + length (kinds ps)
kinds_length c ps = simp length-append (omega arith)

pub arguments_kinds : (l : Level ℕ) (ps : List Piece) (xs : List Spoken) (p : ℕ) (s : Store) (args : List Arg) → length (kinds ps) ≤ length xs → arguments_of l ps xs p s ≡ Some args → HaveKinds (kinds ps) args
arguments_kinds l [] xs p s args h e = subst (λ a. HaveKinds [] a) (some e) tt
  where
    some : Some [] ≡ Some args → [] ≡ args
    some e = cc
arguments_kinds l (piece.Literal bytes ∷ ps) xs p s args h e = arguments_kinds l ps xs p s args h e
arguments_kinds l (piece.Converted c ∷ ps) xs p s args h e =
    by (formed_arg l c.form (size_in (negsuc 0) c.precision (star_args c.precision ys)) (first_value zs) p s) refl
    (arguments_of l ps (drop 1 zs) (p + pointer_places c.form) s) refl e
    (λ more g. arguments_kinds l ps (drop 1 zs) (p + pointer_places c.form) s more rest_fits g)
  where
    ys : List Spoken
    ys = behind_star c.width xs

    zs : List Spoken
    zs = behind_star c.precision ys

    some : {X : Type 0} (x y : X) → Some x ≡ Some y → x ≡ y
    some x y e = cc

    width_fits : length (size_kinds c.width) ≤ length xs
    width_fits = omega (arith, h, kinds_length c ps)

    precision_fits : length (size_kinds c.precision) ≤ length ys
    precision_fits = omega (arith, h, kinds_length c ps, star_left c.width xs width_fits)

    rest_fits : length (kinds ps) ≤ length (drop 1 zs)
    rest_fits = omega (arith, h, kinds_length c ps, star_left c.width xs width_fits, star_left c.precision ys precision_fits, length-drop 1 zs)

    by : (o : Option Arg) → formed_arg l c.form (size_in (negsuc 0) c.precision (star_args c.precision ys)) (first_value zs) p s ≡ o
        → (q : Option (List Arg)) → arguments_of l ps (drop 1 zs) (p + pointer_places c.form) s ≡ q
        → before_args (star_args c.width xs ++ star_args c.precision ys) o q ≡ Some args
        → ((more : List Arg) → arguments_of l ps (drop 1 zs) (p + pointer_places c.form) s ≡ Some more → HaveKinds (kinds ps) more) → HaveKinds (kinds (piece.Converted c ∷ ps)) args
    by None f q g e r = absurd cc
    by (Some a) f None g e r = absurd cc
    by (Some a) f (Some more) g e r =
        subst (λ z. HaveKinds (kinds (piece.Converted c ∷ ps)) z) (some (star_args c.width xs ++ star_args c.precision ys ++ a ∷ more) args e)
        (have_all (size_kinds c.width) (size_kinds c.precision) (form_kind c.form) (kinds ps) (star_args c.width xs) (star_args c.precision ys) a more
        (star_kinds c.width xs width_fits) (star_kinds c.precision ys precision_fits)
        (formed_kind l c.form _ (first_value zs) p s a f)
        (r more g))
      where
        have_all : (K L : List Kind) (k : Kind) (M : List Kind) (args bs : List Arg) (a : Arg) (cs : List Arg) → HaveKinds K args → HaveKinds L bs → HasKind k a → HaveKinds M cs
            → HaveKinds (K ++ L ++ k ∷ [] ++ M) (args ++ bs ++ a ∷ cs)
        have_all K L k M args bs a cs x y z v =
            subst (λ ks. HaveKinds ks (args ++ bs ++ a ∷ cs)) (sym (append_assoc (K ++ L) (k ∷ []) M))
            (have_append (K ++ L) (k ∷ M) (args ++ bs) (a ∷ cs) (have_append K L args bs x y) (z, v))
