-- Suffixes behind a declarator, one after the other.
use Rattle.std.proofs.Common.{
  ◌≡◌,
  ◌≤◌,
  ◌<◌,
  ℕ,
  suc,
  Some,
  None,
  Bool,
  true,
  false,
  refl,
  sym,
  ◌∙◌,
  arith,
  nat_le,
  cond,
}
use Rattle.std.proofs.lemmas.Bool.Decides.{nat_tests}
use Rattle.c_language.specs.declared.expr.Declarator.{Declarator}
use Rattle.c_grammar.specs.declared.declarator_place.DeclaratorPlace.{DeclaratorPlace}
use Rattle.c_grammar.specs.Grammar.{form}
use Rattle.c_grammar.specs.Parts.{State}
use Rattle.c_grammar.specs.Reading.{Reading, Rules, suffixed, suffix_in, suffixes_at}
use Rattle.c_reading.specs.declared.fault.ParseFault.{ParseFault}
use Rattle.c_reading.specs.declared.fault.ParseFault.TheVariants as fault
use Rattle.c_reading.specs.Cursor.{Fails}

pub suffixes_stop : (r : Rules) (m left limit : ℕ) (place : DeclaratorPlace) (d : Declarator) (s : State)
    (whole : Reading Declarator) → left ≡ suc m → suffixed s.0 ≡ false →
    suffixes_at r limit place left d s ≡ whole → whole ≡ Some (d, s)
unfolding suffixes_at
suffixes_stop r m left limit place d s whole e none reads = sym reads ∙ rw (e, none) refl

fails_none : (r : Rules) (m left limit : ℕ) (place : DeclaratorPlace) (d : Declarator) (s : State) →
    left ≡ suc m → suffixed s.0 ≡ true → suffix_in r place d s.0 s.1 ≡ None →
    suffixes_at r limit place left d s ≡ None
unfolding suffixes_at
fails_none r m left limit place d s e goes none = rw (e, goes, none) refl

pub suffixes_fail : (r : Rules) (m left limit : ℕ) (place : DeclaratorPlace) (d : Declarator) (s : State)
    (whole : Reading Declarator) (f : ParseFault) → left ≡ suc m → suffixed s.0 ≡ true →
    Fails f (suffix_in r place d s.0 s.1) → suffixes_at r limit place left d s ≡ whole → Fails f whole
suffixes_fail r m left limit place d s whole fault.Memory e goes none reads = tt
suffixes_fail r m left limit place d s whole (fault.Syntax at) e goes none reads = sym reads ∙ fails_none r m
    left limit place d s e goes none
suffixes_fail r m left limit place d s whole (fault.TooDeep at) e goes none reads = sym reads ∙ fails_none r m
    left limit place d s e goes none

goes_by : (r : Rules) (m left limit : ℕ) (place : DeclaratorPlace) (d x : Declarator) (s z : State) (low : Bool)
    → left ≡ suc m → suffixed s.0 ≡ true → suffix_in r place d s.0 s.1 ≡ Some (x, z) →
    nat_le (form x).height limit ≡ low → suffixes_at r limit place left d s ≡ cond low
    (suffixes_at r limit place m x z) None
unfolding suffixes_at
goes_by r m left limit place d x s z low e goes is fits = rw (e, goes, is, fits) refl

pub suffixes_go : (r : Rules) (m left limit h : ℕ) (place : DeclaratorPlace) (d x : Declarator) (s z : State)
    (whole : Reading Declarator) → left ≡ suc m → suffixed s.0 ≡ true →
    suffix_in r place d s.0 s.1 ≡ Some (x, z) → h ≡ (form x).height → h ≤ limit →
    suffixes_at r limit place left d s ≡ whole → suffixes_at r limit place m x z ≡ whole
suffixes_go r m left limit h place d x s z whole e goes is height low reads =
    let fits : nat_le (form x).height limit ≡ true = grind (arith, nat_tests, height, low) in
    sym (goes_by r m left limit place d x s z true e goes is fits) ∙ reads

pub suffixes_high : (r : Rules) (m left limit h : ℕ) (place : DeclaratorPlace) (d x : Declarator) (s z : State)
    (whole : Reading Declarator) → left ≡ suc m → suffixed s.0 ≡ true →
    suffix_in r place d s.0 s.1 ≡ Some (x, z) → h ≡ (form x).height → limit < h →
    suffixes_at r limit place left d s ≡ whole → whole ≡ None
suffixes_high r m left limit h place d x s z whole e goes is height high reads =
    let fits : nat_le (form x).height limit ≡ false = grind (arith, nat_tests, height, high) in
    sym reads ∙ goes_by r m left limit place d x s z false e goes is fits

pub suffixes_out : (r : Rules) (left limit : ℕ) (place : DeclaratorPlace) (d : Declarator) (s : State)
    (whole : Reading Declarator) → left ≡ 0 → suffixes_at r limit place left d s ≡ whole → whole ≡ None
unfolding suffixes_at
suffixes_out r left limit place d s whole e reads = sym reads ∙ rw e refl
