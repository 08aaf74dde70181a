-- The arguments of a format, and the texts of its pieces, by numbers of a walk.
use Rattle.std.proofs.Common.{◌≡◌, ℕ, zero, suc, ◌+◌, ◌-◌, ◌≤◌, ℤ, negsuc, true, List, [], ◌∷◌, ◌++◌, length, take, drop, Option, Some, None, refl, sym, ap, subst, ◌∙◌, arith, append-nil, append_assoc}
use Rattle.std.proofs.lemmas.List.{length-take-le, length-drop, drop_at}
use Rattle.plain_data.specs.Words.{word}
use Rattle.printf_text.specs.declared.kind.Kind.TheVariants as kind
use Rattle.printf_text.specs.declared.piece.Arg.{Arg}
use Rattle.printf_text.specs.declared.piece.Arg.TheVariants as arg
use Rattle.printf_text.specs.declared.piece.Conversion.{Conversion}
use Rattle.printf_text.specs.declared.piece.Flags.{Flags}
use Rattle.printf_text.specs.declared.piece.Form.{Form}
use Rattle.printf_text.specs.declared.piece.Form.TheVariants as form
use Rattle.printf_text.specs.declared.piece.Piece.{Piece}
use Rattle.printf_text.specs.declared.piece.Piece.TheVariants.{Literal, Converted}
use Rattle.printf_text.specs.declared.piece.Size.{Size}
use Rattle.printf_text.specs.declared.piece.Size.TheVariants as size
use Rattle.printf_text.specs.Texts.{piece_kinds, size_kinds, form_kind, piece_text, conversion_text}
use Rattle.printf_text.specs.Texts.{size_of as size_in}
use Rattle.format_match.specs.Reading.{is_integer}
use Rattle.c_store.specs.Store.{Store}
use Rattle.c_means.specs.Calls.{before_args, pointer_places}
use Rattle.core_tree.specs.declared.types.WordType.{WordType}
use Rattle.core_tree.specs.Callees.{Spoken, spoken, integer_arg, star_args, behind_star, first_value, formed_arg, arguments_of, says_all, taken_then}
use Rattle.core_tree.specs.States.{Level, along}
use Rattle.term_bank.specs.declared.shape.Shape.{Shape}
use Rattle.term_bank.specs.Values.{Environment, Values, Grows}
use Rattle.term_bank.proofs.BankLemmas.{weaken, stays, grows_on}
use Rattle.path_states.specs.declared.state.Number.{Number}
use Rattle.path_states.specs.States.{AreNumbers, IsNumber, numbers_in, number_in, Held}
use Rattle.path_states.specs.Ways.{◌>>=◌}
use Rattle.path_states.proofs.Growth.{numbers_grown, numbers_joined}
use Rattle.path_numbers.specs.Answers.{Worded}
use Rattle.path_prints.specs.Arguments.{arg_in, args_in, integer_args, Speaks}
use Rattle.path_prints.specs.Says.{at_position, pieces_way, AreIntegers}

-- ---- arguments in their types

pub speaks_none : (a : List Shape) (ts : List WordType) (xs before : List Number) → AreNumbers a before → ((v : Values) → spoken ts (numbers_in v xs) ≡ [])
    → Speaks a a ts xs before before
speaks_none a ts xs before are none = record {
  grows = stays;
  numbers = are;
  are = λ e v m. sym (ap (λ l. args_in v before ++ integer_args l) (none v) ∙ append-nil (args_in v before));
}

args_pushed : (v : Values) (xs : List Number) (x : Number) → args_in v (xs ++ x ∷ []) ≡ args_in v xs ++ arg_in v x ∷ []
args_pushed v [] x = refl
args_pushed v (y ∷ ys) x = ap (λ l. arg_in v y ∷ l) (args_pushed v ys x)

pub speaks_more : (a b c : List Shape) (t : WordType) (ts : List WordType) (x y : Number) (xs before after : List Number)
    → AreNumbers a before → Worded a b t.width y.node (λ v. word t.width (number_in v x)) → y ≡ record { node = y.node; word = t }
    → Speaks b c ts xs (before ++ y ∷ []) after → Speaks a c (t ∷ ts) (x ∷ xs) before after
speaks_more a b c t ts x y xs before after are h same i = record {
  grows = grows_on h.grows i.grows;
  numbers = i.numbers;
  are = λ e v m.
      let last : arg_in v y ≡ integer_arg (record { word = t; value = number_in v x }) =
      ap (arg_in v) same ∙ ap (λ n. arg.Word n t.width t.is_signed) (h.is e v (weaken i.grows m)) in
      i.are e v m
      ∙ ap (λ l. l ++ integer_args (spoken ts (numbers_in v xs))) (args_pushed v before y ∙ ap (λ z. args_in v before ++ z ∷ []) last)
      ∙ append_assoc (args_in v before) (integer_arg (record { word = t; value = number_in v x }) ∷ []) (integer_args (spoken ts (numbers_in v xs)));
}

pub pushed_numbers : (a b : List Shape) (w : WordType) (before : List Number) (y : Number) → Grows a b → AreNumbers a before → IsNumber b y
    → AreNumbers b (before ++ y ∷ [])
pushed_numbers a b w before y g are is = numbers_joined b before (y ∷ []) (numbers_grown g before are) (is, tt)

-- ---- lists of arguments

pub args_dropped : (v : Values) (n : ℕ) (xs : List Number) → args_in v (drop n xs) ≡ drop n (args_in v xs)
args_dropped v zero xs = refl
args_dropped v (suc n) [] = refl
args_dropped v (suc n) (x ∷ xs) = args_dropped v n xs

args_taken : (v : Values) (n : ℕ) (xs : List Number) → args_in v (take n xs) ≡ take n (args_in v xs)
args_taken v zero xs = refl
args_taken v (suc n) [] = refl
args_taken v (suc n) (x ∷ xs) = ap (λ l. arg_in v x ∷ l) (args_taken v n xs)

pub integers_dropped : (n : ℕ) (xs : List Spoken) → integer_args (drop n xs) ≡ drop n (integer_args xs)
integers_dropped zero xs = refl
integers_dropped (suc n) [] = refl
integers_dropped (suc n) (x ∷ xs) = integers_dropped n xs

integers_taken : (n : ℕ) (xs : List Spoken) → integer_args (take n xs) ≡ take n (integer_args xs)
integers_taken zero xs = refl
integers_taken (suc n) [] = refl
integers_taken (suc n) (x ∷ xs) = ap (λ l. integer_arg x ∷ l) (integers_taken n xs)

pub args_long : (v : Values) (xs : List Number) → length (args_in v xs) ≡ length xs
args_long v [] = refl
args_long v (x ∷ xs) = ap suc (args_long v xs)

pub integers_long : (xs : List Spoken) → length (integer_args xs) ≡ length xs
integers_long [] = refl
integers_long (x ∷ xs) = ap suc (integers_long xs)

-- ---- what a conversion takes

pub record TakesBy (w p : Size) (xs : List Spoken) : Type 0 where
  pub own : (star_args w xs ++ star_args p (behind_star w xs)) ++ integer_arg (first_value (behind_star p (behind_star w xs))) ∷ []
      ≡ integer_args (take (length (size_kinds w ++ size_kinds p ++ kind.Integer ∷ [])) xs)
  pub rest : drop 1 (behind_star p (behind_star w xs)) ≡ drop (length (size_kinds w ++ size_kinds p ++ kind.Integer ∷ [])) xs

pub taken_by : (w p : Size) (xs : List Spoken) → length (size_kinds w ++ size_kinds p ++ kind.Integer ∷ []) ≤ length xs → TakesBy w p xs
taken_by size.Omitted size.Omitted [] h = absurd (omega arith)
taken_by size.Omitted size.Omitted (x ∷ xs) h = record { own = refl; rest = refl }
taken_by size.Omitted (size.Written m) [] h = absurd (omega arith)
taken_by size.Omitted (size.Written m) (x ∷ xs) h = record { own = refl; rest = refl }
taken_by size.Omitted size.Star [] h = absurd (omega arith)
taken_by size.Omitted size.Star (x ∷ []) h = absurd (omega arith)
taken_by size.Omitted size.Star (x ∷ y ∷ xs) h = record { own = refl; rest = refl }
taken_by (size.Written n) size.Omitted [] h = absurd (omega arith)
taken_by (size.Written n) size.Omitted (x ∷ xs) h = record { own = refl; rest = refl }
taken_by (size.Written n) (size.Written m) [] h = absurd (omega arith)
taken_by (size.Written n) (size.Written m) (x ∷ xs) h = record { own = refl; rest = refl }
taken_by (size.Written n) size.Star [] h = absurd (omega arith)
taken_by (size.Written n) size.Star (x ∷ []) h = absurd (omega arith)
taken_by (size.Written n) size.Star (x ∷ y ∷ xs) h = record { own = refl; rest = refl }
taken_by size.Star size.Omitted [] h = absurd (omega arith)
taken_by size.Star size.Omitted (x ∷ []) h = absurd (omega arith)
taken_by size.Star size.Omitted (x ∷ y ∷ xs) h = record { own = refl; rest = refl }
taken_by size.Star (size.Written m) [] h = absurd (omega arith)
taken_by size.Star (size.Written m) (x ∷ []) h = absurd (omega arith)
taken_by size.Star (size.Written m) (x ∷ y ∷ xs) h = record { own = refl; rest = refl }
taken_by size.Star size.Star [] h = absurd (omega arith)
taken_by size.Star size.Star (x ∷ []) h = absurd (omega arith)
taken_by size.Star size.Star (x ∷ y ∷ []) h = absurd (omega arith)
taken_by size.Star size.Star (x ∷ y ∷ z ∷ xs) h = record { own = refl; rest = refl }

text_front : (flags : Flags) (f : Form) (w p : Size) (args more : List Arg) → length args ≡ length (size_kinds w ++ size_kinds p ++ kind.Integer ∷ [])
    → conversion_text (record { flags = flags; width = w; precision = p; form = f }) (args ++ more)
    ≡ conversion_text (record { flags = flags; width = w; precision = p; form = f }) args
text_front flags f size.Omitted size.Omitted [] more h = absurd (omega arith)
text_front flags f size.Omitted size.Omitted (x ∷ []) more h = refl
text_front flags f size.Omitted size.Omitted (x ∷ u ∷ args) more h = absurd (omega arith)
text_front flags f size.Omitted (size.Written m) [] more h = absurd (omega arith)
text_front flags f size.Omitted (size.Written m) (x ∷ []) more h = refl
text_front flags f size.Omitted (size.Written m) (x ∷ u ∷ args) more h = absurd (omega arith)
text_front flags f size.Omitted size.Star [] more h = absurd (omega arith)
text_front flags f size.Omitted size.Star (x ∷ []) more h = absurd (omega arith)
text_front flags f size.Omitted size.Star (x ∷ y ∷ []) more h = refl
text_front flags f size.Omitted size.Star (x ∷ y ∷ u ∷ args) more h = absurd (omega arith)
text_front flags f (size.Written n) size.Omitted [] more h = absurd (omega arith)
text_front flags f (size.Written n) size.Omitted (x ∷ []) more h = refl
text_front flags f (size.Written n) size.Omitted (x ∷ u ∷ args) more h = absurd (omega arith)
text_front flags f (size.Written n) (size.Written m) [] more h = absurd (omega arith)
text_front flags f (size.Written n) (size.Written m) (x ∷ []) more h = refl
text_front flags f (size.Written n) (size.Written m) (x ∷ u ∷ args) more h = absurd (omega arith)
text_front flags f (size.Written n) size.Star [] more h = absurd (omega arith)
text_front flags f (size.Written n) size.Star (x ∷ []) more h = absurd (omega arith)
text_front flags f (size.Written n) size.Star (x ∷ y ∷ []) more h = refl
text_front flags f (size.Written n) size.Star (x ∷ y ∷ u ∷ args) more h = absurd (omega arith)
text_front flags f size.Star size.Omitted [] more h = absurd (omega arith)
text_front flags f size.Star size.Omitted (x ∷ []) more h = absurd (omega arith)
text_front flags f size.Star size.Omitted (x ∷ y ∷ []) more h = refl
text_front flags f size.Star size.Omitted (x ∷ y ∷ u ∷ args) more h = absurd (omega arith)
text_front flags f size.Star (size.Written m) [] more h = absurd (omega arith)
text_front flags f size.Star (size.Written m) (x ∷ []) more h = absurd (omega arith)
text_front flags f size.Star (size.Written m) (x ∷ y ∷ []) more h = refl
text_front flags f size.Star (size.Written m) (x ∷ y ∷ u ∷ args) more h = absurd (omega arith)
text_front flags f size.Star size.Star [] more h = absurd (omega arith)
text_front flags f size.Star size.Star (x ∷ []) more h = absurd (omega arith)
text_front flags f size.Star size.Star (x ∷ y ∷ []) more h = absurd (omega arith)
text_front flags f size.Star size.Star (x ∷ y ∷ z ∷ []) more h = refl
text_front flags f size.Star size.Star (x ∷ y ∷ z ∷ u ∷ args) more h = absurd (omega arith)

formed_is : (l : Level ℕ) (f : Form) (precision : ℤ) (x : Spoken) (q : ℕ) (s : Store) → is_integer f ≡ true
    → formed_arg l f precision x q s ≡ Some (integer_arg x)
formed_is l (form.Signed w) precision x q s h = refl
formed_is l (form.Unsigned radix w) precision x q s h = refl
formed_is l form.Char precision x q s h = refl
formed_is l form.Text precision x q s h = absurd (cc)
formed_is l form.Pointer precision x q s h = absurd (cc)

integer_kind : (f : Form) → is_integer f ≡ true → form_kind f ≡ kind.Integer
integer_kind (form.Signed w) h = refl
integer_kind (form.Unsigned radix w) h = refl
integer_kind form.Char h = refl
integer_kind form.Text h = absurd (cc)
integer_kind form.Pointer h = absurd (cc)

-- ---- all pieces, by the integers that they take from the front

unfoldable pub says_in : List ℕ → List Piece → List Arg → ℕ → Option ℕ
says_in log [] args o = Some o
says_in log (p ∷ ps) args o =
    taken_then ((along log).take_text (piece_text p (take (length (piece_kinds p)) args)) o) (says_in log ps (drop (length (piece_kinds p)) args))

then_same : (x : Option ℕ) (f g : ℕ → Option ℕ) → ((o : ℕ) → f o ≡ g o) → taken_then x f ≡ taken_then x g
then_same None f g h = refl
then_same (Some o) f g h = h o

pub record Forms (l : Level ℕ) (log : List ℕ) (ps : List Piece) (xs : List Spoken) (q : ℕ) (s : Store) : Type 0 where
  pub args : List Arg
  pub are : arguments_of l ps xs q s ≡ Some args
  pub says : (o : ℕ) → says_all (along log) ps args o ≡ says_in log ps (integer_args xs) o

none_less : (n : ℕ) → n - 0 ≡ n
none_less n = omega arith

formed_literal : (l : Level ℕ) (log : List ℕ) (bytes : List ℕ) (ps : List Piece) (xs : List Spoken) (q : ℕ) (s : Store) → Forms l log ps xs q s
    → Forms l log (Literal bytes ∷ ps) xs q s
unfolding says_in
formed_literal l log bytes ps xs q s r = record {
  args = r.args;
  are = r.are;
  says = λ o. then_same ((along log).take_text bytes o) (says_all (along log) ps r.args) (says_in log ps (integer_args xs)) r.says;
}

before_both : (front : List Arg) (x : Option Arg) (a : Arg) (y : Option (List Arg)) (more : List Arg) → x ≡ Some a → y ≡ Some more
    → before_args front x y ≡ Some (front ++ a ∷ more)
before_both front x a y more h k = rw (h, k) refl

formed_converted : (l : Level ℕ) (log : List ℕ) (flags : Flags) (w p : Size) (f : Form) (ps : List Piece) (xs : List Spoken) (q : ℕ) (s : Store)
    → is_integer f ≡ true → TakesBy w p xs → length (size_kinds w ++ size_kinds p ++ kind.Integer ∷ []) ≤ length xs
    → Forms l log ps (drop 1 (behind_star p (behind_star w xs))) (q + pointer_places f) s
    → Forms l log (Converted (record { flags = flags; width = w; precision = p; form = f }) ∷ ps) xs q s
unfolding says_in
formed_converted l log flags w p f ps xs q s h t enough r =
    let c : Conversion = record { flags = flags; width = w; precision = p; form = f } in
    let n = length (size_kinds w ++ size_kinds p ++ kind.Integer ∷ []) in
    let front = star_args w xs ++ star_args p (behind_star w xs) in
    let a = integer_arg (first_value (behind_star p (behind_star w xs))) in
    let own : List Arg = integer_args (take n xs) in
    let parted : front ++ a ∷ r.args ≡ own ++ r.args = sym (append_assoc front (a ∷ []) r.args) ∙ ap (λ l. l ++ r.args) t.own in
    let long : length own ≡ n = integers_long (take n xs) ∙ length-take-le n xs enough in
    let same : own ≡ take n (integer_args xs) = integers_taken n xs in
    let kind_is : form_kind f ≡ kind.Integer = integer_kind f h in
    record {
      args = front ++ a ∷ r.args;
      are = before_both front
          (formed_arg l f (size_in (negsuc 0) p (star_args p (behind_star w xs))) (first_value (behind_star p (behind_star w xs))) q s) a
          (arguments_of l ps (drop 1 (behind_star p (behind_star w xs))) (q + pointer_places f) s) r.args
          (formed_is l f (size_in (negsuc 0) p (star_args p (behind_star w xs))) (first_value (behind_star p (behind_star w xs))) q s h) r.are;
      says = λ o.
          rw kind_is
          (ap (λ args. taken_then ((along log).take_text (conversion_text c args) o) (says_all (along log) ps (drop n args))) parted
          ∙ ap (λ text. taken_then ((along log).take_text text o) (says_all (along log) ps (drop n (own ++ r.args))))
          (text_front flags f w p own r.args long)
          ∙ ap (λ args. taken_then ((along log).take_text (conversion_text c args) o) (says_all (along log) ps (drop n (own ++ r.args)))) same
          ∙ then_same ((along log).take_text (conversion_text c (take n (integer_args xs))) o) (says_all (along log) ps (drop n (own ++ r.args)))
          (says_in log ps (drop n (integer_args xs)))
          (λ k.
          ap (λ args. says_all (along log) ps args k) (drop_at own r.args n long) ∙ r.says k
          ∙ ap (λ args. says_in log ps args k) (ap integer_args t.rest ∙ integers_dropped n xs)));
    }

pub formed_all : (l : Level ℕ) (log : List ℕ) (ps : List Piece) (xs : List Spoken) (q : ℕ) (s : Store) → AreIntegers ps (length xs)
    → Forms l log ps xs q s
unfolding says_in
formed_all l log [] xs q s h = record { args = []; are = refl; says = λ o. refl }
formed_all l log (Literal bytes ∷ ps) xs q s h = formed_literal l log bytes ps xs q s (formed_all l log ps xs q s (subst (AreIntegers ps) (none_less (length xs)) h.2))
formed_all l log (Converted c ∷ ps) xs q s h =
    let kind_is : form_kind c.form ≡ kind.Integer = integer_kind c.form h.0 in
    let enough : length (size_kinds c.width ++ size_kinds c.precision ++ kind.Integer ∷ []) ≤ length xs = rw kind_is at h.1 in
    let t = taken_by c.width c.precision xs enough in
    let left : length xs - length (piece_kinds (Converted c)) ≡ length (drop 1 (behind_star c.precision (behind_star c.width xs))) =
    ap (λ k. length xs - length (size_kinds c.width ++ size_kinds c.precision ++ k ∷ [])) kind_is
    ∙ sym (ap length t.rest ∙ length-drop (length (size_kinds c.width ++ size_kinds c.precision ++ kind.Integer ∷ [])) xs) in
    formed_converted l log c.flags c.width c.precision c.form ps xs q s h.0 t enough
    (formed_all l log ps (drop 1 (behind_star c.precision (behind_star c.width xs))) (q + pointer_places c.form) s
    (subst (AreIntegers ps) left h.2))

-- ---- the same, of a run

positioned_again : (h : Held) (o : ℕ) (x : Option ℕ) → at_position (record h { done = record h.done { out = o } }) x ≡ at_position h x
positioned_again h o None = refl
positioned_again h o (Some k) = refl

pub pieces_say : (log : List ℕ) (ps : List Piece) (xs : List Number) (e : Environment) (v : Values) (h : Held)
    → pieces_way log ps xs e v h ≡ at_position h (says_in log ps (args_in v xs) h.done.out)
unfolding says_in
pieces_say log [] xs e v h = refl
pieces_say log (p ∷ ps) xs e v h =
    ap (λ args. at_position h ((along log).take_text (piece_text p args) h.done.out) >>= pieces_way log ps (drop (length (piece_kinds p)) xs) e v)
    (args_taken v (length (piece_kinds p)) xs)
    ∙ by ((along log).take_text (piece_text p (take (length (piece_kinds p)) (args_in v xs))) h.done.out)
    (λ k. pieces_say log ps (drop (length (piece_kinds p)) xs) e v k)
  where
    by : (x : Option ℕ)
        → ((k : Held) → pieces_way log ps (drop (length (piece_kinds p)) xs) e v k
        ≡ at_position k (says_in log ps (args_in v (drop (length (piece_kinds p)) xs)) k.done.out))
        → at_position h x >>= pieces_way log ps (drop (length (piece_kinds p)) xs) e v
        ≡ at_position h (taken_then x (says_in log ps (drop (length (piece_kinds p)) (args_in v xs))))
    by None r = refl
    by (Some o) r =
        r (record h { done = record h.done { out = o } })
        ∙ positioned_again h o (says_in log ps (args_in v (drop (length (piece_kinds p)) xs)) o)
        ∙ ap (λ args. at_position h (says_in log ps args o)) (args_dropped v (length (piece_kinds p)) xs)

-- ---- numbers in grown banks

pub numbers_rest : (a b : List Shape) (xs ys : List Number) (y : Number) → Grows a b → xs ≡ y ∷ ys → AreNumbers a xs → AreNumbers b ys
numbers_rest a b xs ys y g same are = let h : AreNumbers a (y ∷ ys) = rw same at are in numbers_grown g ys h.1

pub numbers_put : (a b : List Shape) (xs ys : List Number) (y : Number) → Grows a b → ys ≡ xs ++ y ∷ [] → AreNumbers a xs → IsNumber b y
    → AreNumbers b ys
numbers_put a b xs ys y g same are is = rw same (numbers_joined b xs (y ∷ []) (numbers_grown g xs are) (is, tt))

pub numbers_behind : (b : List Shape) (n : ℕ) (xs : List Number) → AreNumbers b xs → AreNumbers b (drop n xs)
numbers_behind b zero xs h = h
numbers_behind b (suc n) [] h = tt
numbers_behind b (suc n) (x ∷ xs) h = numbers_behind b n xs h.1

pub numbers_before : (b : List Shape) (n : ℕ) (xs : List Number) → AreNumbers b xs → AreNumbers b (take n xs)
numbers_before b zero xs h = tt
numbers_before b (suc n) [] h = tt
numbers_before b (suc n) (x ∷ xs) h = (h.0, numbers_before b n xs h.1)
