-- The external declarations of a source.
use Rattle.std.proofs.Common.{
  ◌≡◌,
  ℕ,
  suc,
  List,
  [],
  ◌∷◌,
  ◌++◌,
  Option,
  Some,
  None,
  true,
  false,
  refl,
  sym,
  ap,
  ◌∙◌,
  append_assoc,
}
use Rattle.c_language.specs.declared.unit.External.{External}
use Rattle.c_grammar.specs.Parts.{State}
use Rattle.c_grammar.specs.Reading.{Reading, ◌>>=◌}
use Rattle.c_grammar.specs.UnitReading.{is_end, external_at, externals_at}
use Rattle.c_reading.specs.declared.fault.ParseFault.{ParseFault}
use Rattle.c_reading.specs.Cursor.{Fails}
use Rattle.c_reading.proofs.Lists.{append_nothing}
use Rattle.c_parser.proofs.Faults.{carried}

-- what was read, with these before it
abbrev pub added : List External → Option (List External) → Option (List External)
added front read = read >>= (λ xs. Some (front ++ xs))

pub added_nothing : (read : Option (List External)) → added [] read ≡ read
added_nothing None = refl
added_nothing (Some xs) = refl

added_twice : (front : List External) (x : External) (read : Option (List External))
    → added (front ++ x ∷ []) read ≡ added front (read >>= (λ xs. Some (x ∷ xs)))
added_twice front x None = refl
added_twice front x (Some xs) = ap Some (append_assoc front (x ∷ []) xs)

at_end : (m left : ℕ) (s : State) → left ≡ suc m → is_end s.0 ≡ true → externals_at left s ≡ Some []
unfolding externals_at
at_end m left s e last = rw (e, last) refl

step : (m left : ℕ) (s : State) (read : Reading External) → left ≡ suc m → is_end s.0 ≡ false → external_at s ≡ read
    → externals_at left s ≡ (read >>= (λ x. externals_at m x.1 >>= (λ more. Some (x.0 ∷ more))))
unfolding externals_at
step m left s read e more reads = rw (e, more, reads) refl

none_left : (left : ℕ) (s : State) → left ≡ 0 → externals_at left s ≡ None
unfolding externals_at
none_left left s e = rw e refl

pub externals_stop : (m left : ℕ) (front : List External) (s : State) (whole : Option (List External)) → left ≡ suc m
    → is_end s.0 ≡ true → added front (externals_at left s) ≡ whole → whole ≡ Some front
externals_stop m left front s whole e last reads = sym reads ∙ ap (added front) (at_end m left s e last)
    ∙ ap Some (append_nothing front)

pub externals_fail : (m left : ℕ) (front : List External) (s : State) (whole : Option (List External))
    (f : ParseFault) → left ≡ suc m → is_end s.0 ≡ false → Fails f (external_at s)
    → added front (externals_at left s) ≡ whole → Fails f whole
externals_fail m left front s whole f e more fails reads =
    carried f (external_at s) whole fails (λ none. sym reads ∙ ap (added front) (step m left s None e more none))

pub externals_next : (m left : ℕ) (front all : List External) (x : External) (s w : State)
    (whole : Option (List External)) → left ≡ suc m → is_end s.0 ≡ false → external_at s ≡ Some (x, w)
    → all ≡ front ++ x ∷ [] → added front (externals_at left s) ≡ whole → added all (externals_at m w) ≡ whole
externals_next m left front all x s w whole e more took appended reads =
    ap (λ l. added l (externals_at m w)) appended ∙ added_twice front x (externals_at m w)
    ∙ sym (ap (added front) (step m left s (Some (x, w)) e more took)) ∙ reads

pub externals_out : (left : ℕ) (front : List External) (s : State) (whole : Option (List External)) → left ≡ 0
    → added front (externals_at left s) ≡ whole → whole ≡ None
externals_out left front s whole e reads = sym reads ∙ ap (added front) (none_left left s e)
