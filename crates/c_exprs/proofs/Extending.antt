-- Operators of one rank behind an operand, one after the other.
use Rattle.std.proofs.Common.{
  ◌≡◌,
  ◌≤◌,
  ◌<◌,
  ℕ,
  suc,
  Some,
  None,
  Bool,
  true,
  false,
  refl,
  sym,
  ◌∙◌,
  arith,
  nat_le,
  nat_eq,
  cond,
  subst,
  Option,
  Result,
}
use Rattle.std.proofs.lemmas.Bool.Decides.{nat_tests}
use Rattle.c_language.specs.declared.token.Punctuator.{Punctuator}
use Rattle.c_language.specs.declared.token.Punctuator.TheVariants as mark
use Rattle.c_language.specs.declared.expr.Expr.{Expr}
use Rattle.c_grammar.specs.Operators.{infix_of}
use Rattle.c_grammar.specs.Grammar.{shape}
use Rattle.c_grammar.specs.Parts.{State}
use Rattle.c_grammar.specs.Reading.{Reading, Rules, binds, extend_in, extend_by, infix_at, more_at}
use Rattle.c_reading.specs.declared.fault.ParseFault.{ParseFault}
use Rattle.c_reading.specs.declared.fault.ParseFault.TheVariants as fault
use Rattle.c_reading.specs.Cursor.{Fails, Gives}

pub more_stop : (r : Rules) (m left limit rank : ℕ) (e : Expr) (s : State) (whole : Reading Expr) →
    left ≡ suc m → nat_eq (binds s) rank ≡ false → more_at r limit rank left e s ≡ whole → whole ≡ Some (e, s)
unfolding more_at
more_stop r m left limit rank e s whole is none reads = sym reads ∙ rw (is, none) refl

fails_none : (r : Rules) (m left limit rank : ℕ) (e : Expr) (s : State) → left ≡ suc m →
    nat_eq (binds s) rank ≡ true → extend_in r e s.0 s.1 ≡ None → more_at r limit rank left e s ≡ None
unfolding more_at
fails_none r m left limit rank e s is goes none = rw (is, goes, none) refl

pub more_fail : (r : Rules) (m left limit rank : ℕ) (e : Expr) (s : State) (whole : Reading Expr)
    (f : ParseFault) → left ≡ suc m → nat_eq (binds s) rank ≡ true → Fails f (extend_in r e s.0 s.1) →
    more_at r limit rank left e s ≡ whole → Fails f whole
more_fail r m left limit rank e s whole fault.Memory is goes none reads = tt
more_fail r m left limit rank e s whole (fault.Syntax at) is goes none reads = sym reads ∙ fails_none r m left
    limit rank e s is goes none
more_fail r m left limit rank e s whole (fault.TooDeep at) is goes none reads = sym reads ∙ fails_none r m left
    limit rank e s is goes none

goes_by : (r : Rules) (m left limit rank : ℕ) (e x : Expr) (s z : State) (low : Bool) → left ≡ suc m →
    nat_eq (binds s) rank ≡ true → extend_in r e s.0 s.1 ≡ Some (x, z) → nat_le (shape x).height limit ≡ low →
    more_at r limit rank left e s ≡ cond low (more_at r limit rank m x z) None
unfolding more_at
goes_by r m left limit rank e x s z low is goes took fits = rw (is, goes, took, fits) refl

pub more_go : (r : Rules) (m left limit rank h : ℕ) (e x : Expr) (s z : State) (whole : Reading Expr) →
    left ≡ suc m → nat_eq (binds s) rank ≡ true → extend_in r e s.0 s.1 ≡ Some (x, z) → h ≡ (shape x).height →
    h ≤ limit → more_at r limit rank left e s ≡ whole → more_at r limit rank m x z ≡ whole
more_go r m left limit rank h e x s z whole is goes took height low reads =
    let fits : nat_le (shape x).height limit ≡ true = grind (arith, nat_tests, height, low) in
    sym (goes_by r m left limit rank e x s z true is goes took fits) ∙ reads

pub more_high : (r : Rules) (m left limit rank h : ℕ) (e x : Expr) (s z : State) (whole : Reading Expr) →
    left ≡ suc m → nat_eq (binds s) rank ≡ true → extend_in r e s.0 s.1 ≡ Some (x, z) → h ≡ (shape x).height →
    limit < h → more_at r limit rank left e s ≡ whole → whole ≡ None
more_high r m left limit rank h e x s z whole is goes took height high reads =
    let fits : nat_le (shape x).height limit ≡ false = grind (arith, nat_tests, height, high) in
    sym reads ∙ goes_by r m left limit rank e x s z false is goes took fits

pub more_out : (r : Rules) (left limit rank : ℕ) (e : Expr) (s : State) (whole : Reading Expr) → left ≡ 0 →
    more_at r limit rank left e s ≡ whole → whole ≡ None
unfolding more_at
more_out r left limit rank e s whole is reads = sym reads ∙ rw is refl

-- a punctuator that is none of the operators with a rule of their own
pub others : (r : Rules) (e : Expr) (m : Punctuator) (at : ℕ) (s : State) → (m ≡ mark.LeftBracket → ⊥) →
    (m ≡ mark.LeftParen → ⊥) → (m ≡ mark.Dot → ⊥) → (m ≡ mark.Arrow → ⊥) → (m ≡ mark.PlusPlus → ⊥) →
    (m ≡ mark.MinusMinus → ⊥) → (m ≡ mark.Question → ⊥) → (m ≡ mark.Comma → ⊥) →
    extend_by r e m at s ≡ infix_at r at (infix_of m) e s
others r e mark.LeftBracket at s bracket paren dot arrow plus minus question comma = absurd (bracket refl)
others r e mark.RightBracket at s bracket paren dot arrow plus minus question comma = refl
others r e mark.LeftParen at s bracket paren dot arrow plus minus question comma = absurd (paren refl)
others r e mark.RightParen at s bracket paren dot arrow plus minus question comma = refl
others r e mark.LeftBrace at s bracket paren dot arrow plus minus question comma = refl
others r e mark.RightBrace at s bracket paren dot arrow plus minus question comma = refl
others r e mark.Dot at s bracket paren dot arrow plus minus question comma = absurd (dot refl)
others r e mark.Arrow at s bracket paren dot arrow plus minus question comma = absurd (arrow refl)
others r e mark.PlusPlus at s bracket paren dot arrow plus minus question comma = absurd (plus refl)
others r e mark.MinusMinus at s bracket paren dot arrow plus minus question comma = absurd (minus refl)
others r e mark.Ampersand at s bracket paren dot arrow plus minus question comma = refl
others r e mark.Star at s bracket paren dot arrow plus minus question comma = refl
others r e mark.Plus at s bracket paren dot arrow plus minus question comma = refl
others r e mark.Minus at s bracket paren dot arrow plus minus question comma = refl
others r e mark.Tilde at s bracket paren dot arrow plus minus question comma = refl
others r e mark.Exclamation at s bracket paren dot arrow plus minus question comma = refl
others r e mark.Slash at s bracket paren dot arrow plus minus question comma = refl
others r e mark.Percent at s bracket paren dot arrow plus minus question comma = refl
others r e mark.ShiftLeft at s bracket paren dot arrow plus minus question comma = refl
others r e mark.ShiftRight at s bracket paren dot arrow plus minus question comma = refl
others r e mark.Less at s bracket paren dot arrow plus minus question comma = refl
others r e mark.Greater at s bracket paren dot arrow plus minus question comma = refl
others r e mark.LessEqual at s bracket paren dot arrow plus minus question comma = refl
others r e mark.GreaterEqual at s bracket paren dot arrow plus minus question comma = refl
others r e mark.EqualEqual at s bracket paren dot arrow plus minus question comma = refl
others r e mark.ExclamationEqual at s bracket paren dot arrow plus minus question comma = refl
others r e mark.Caret at s bracket paren dot arrow plus minus question comma = refl
others r e mark.Bar at s bracket paren dot arrow plus minus question comma = refl
others r e mark.AmpersandAmpersand at s bracket paren dot arrow plus minus question comma = refl
others r e mark.BarBar at s bracket paren dot arrow plus minus question comma = refl
others r e mark.Question at s bracket paren dot arrow plus minus question comma = absurd (question refl)
others r e mark.Colon at s bracket paren dot arrow plus minus question comma = refl
others r e mark.Semicolon at s bracket paren dot arrow plus minus question comma = refl
others r e mark.Ellipsis at s bracket paren dot arrow plus minus question comma = refl
others r e mark.Equal at s bracket paren dot arrow plus minus question comma = refl
others r e mark.StarEqual at s bracket paren dot arrow plus minus question comma = refl
others r e mark.SlashEqual at s bracket paren dot arrow plus minus question comma = refl
others r e mark.PercentEqual at s bracket paren dot arrow plus minus question comma = refl
others r e mark.PlusEqual at s bracket paren dot arrow plus minus question comma = refl
others r e mark.MinusEqual at s bracket paren dot arrow plus minus question comma = refl
others r e mark.ShiftLeftEqual at s bracket paren dot arrow plus minus question comma = refl
others r e mark.ShiftRightEqual at s bracket paren dot arrow plus minus question comma = refl
others r e mark.AmpersandEqual at s bracket paren dot arrow plus minus question comma = refl
others r e mark.CaretEqual at s bracket paren dot arrow plus minus question comma = refl
others r e mark.BarEqual at s bracket paren dot arrow plus minus question comma = refl
others r e mark.Comma at s bracket paren dot arrow plus minus question comma = absurd (comma refl)
others r e mark.Hash at s bracket paren dot arrow plus minus question comma = refl
others r e mark.HashHash at s bracket paren dot arrow plus minus question comma = refl

pub gives_as : {X Y : Type 0} (view : X → Y) (result : Result X ParseFault) (a b : Option Y) → a ≡ b →
    Gives view result a → Gives view result b
gives_as view result a b e gives = subst (λ x. Gives view result x) e gives
