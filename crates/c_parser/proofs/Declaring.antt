-- The declarators of a declaration.
use Rattle.std.proofs.Common.{◌≡◌, ℕ, suc, List, [], ◌∷◌, ◌++◌, Some, None, Bool, true, false, refl, ap, ◌∙◌}
use Rattle.c_language.specs.declared.token.Punctuator.TheVariants as mark
use Rattle.c_language.specs.declared.unit.InitDeclarator.{InitDeclarator}
use Rattle.c_grammar.specs.Parts.{State}
use Rattle.c_grammar.specs.Reading.{Reading, Rules, ◌>>=◌, begins, expect}
use Rattle.c_grammar.specs.UnitReading.{Inside, init_at, more_inits_at}
use Rattle.c_reading.specs.declared.fault.ParseFault.{ParseFault}
use Rattle.c_reading.specs.Cursor.{Fails, after}
use Rattle.c_reading.proofs.Lists.{stopped, failed, turned}
use Rattle.c_parser.proofs.Faults.{carried}

no_comma : (r : Rules) (inside : Inside) (is_type : Bool) (m left : ℕ) (s : State) → left ≡ suc m
    → begins mark.Comma s ≡ false → more_inits_at r inside is_type left s ≡ Some ([], s)
unfolding more_inits_at
no_comma r inside is_type m left s e none = rw (e, none) refl

init_step : (r : Rules) (inside : Inside) (is_type : Bool) (m left at : ℕ) (s z : State)
    (read : Reading InitDeclarator) → left ≡ suc m → begins mark.Comma s ≡ true
    → expect mark.Comma s ≡ Some (tt, at, z) → init_at r inside is_type z ≡ read
    → more_inits_at r inside is_type left s
    ≡ (read >>= (λ x. more_inits_at r inside is_type m x.1 >>= (λ more. Some (x.0 ∷ more.0, more.1))))
unfolding more_inits_at
init_step r inside is_type m left at s z read e goes is reads = rw (e, goes, is, reads) refl

zero_inits : (r : Rules) (inside : Inside) (is_type : Bool) (left : ℕ) (s : State) → left ≡ 0
    → more_inits_at r inside is_type left s ≡ None
unfolding more_inits_at
zero_inits r inside is_type left s e = rw e refl

pub inits_stop : (r : Rules) (inside : Inside) (is_type : Bool) (m left : ℕ) (front : List InitDeclarator) (s : State)
    (whole : Reading (List InitDeclarator)) → left ≡ suc m → begins mark.Comma s ≡ false
    → after front (more_inits_at r inside is_type left s) ≡ whole → whole ≡ Some (front, s)
inits_stop r inside is_type m left front s whole e none reads =
    stopped front (more_inits_at r inside is_type left s) whole s (no_comma r inside is_type m left s e none) reads

pub inits_fail : (r : Rules) (inside : Inside) (is_type : Bool) (m left at : ℕ) (front : List InitDeclarator)
    (s z : State) (whole : Reading (List InitDeclarator)) (f : ParseFault) → left ≡ suc m → begins mark.Comma s ≡ true
    → expect mark.Comma s ≡ Some (tt, at, z) → Fails f (init_at r inside is_type z)
    → after front (more_inits_at r inside is_type left s) ≡ whole → Fails f whole
inits_fail r inside is_type m left at front s z whole f e goes is fails reads =
    carried f (init_at r inside is_type z) whole fails
    (λ none. failed front (more_inits_at r inside is_type left s) whole
    (init_step r inside is_type m left at s z None e goes is none) reads)

pub inits_next : (r : Rules) (inside : Inside) (is_type : Bool) (m left at : ℕ) (front all : List InitDeclarator)
    (x : InitDeclarator) (s z w : State) (whole : Reading (List InitDeclarator)) → left ≡ suc m
    → begins mark.Comma s ≡ true → expect mark.Comma s ≡ Some (tt, at, z) → init_at r inside is_type z ≡ Some (x, w)
    → all ≡ front ++ x ∷ [] → after front (more_inits_at r inside is_type left s) ≡ whole
    → after all (more_inits_at r inside is_type m w) ≡ whole
inits_next r inside is_type m left at front all x s z w whole e goes is took appended reads =
    ap (λ l. after l (more_inits_at r inside is_type m w)) appended
    ∙ turned front x (more_inits_at r inside is_type left s) (more_inits_at r inside is_type m w) whole
    (init_step r inside is_type m left at s z (Some (x, w)) e goes is took) reads

pub inits_out : (r : Rules) (inside : Inside) (is_type : Bool) (left : ℕ) (front : List InitDeclarator) (s : State)
    (whole : Reading (List InitDeclarator)) → left ≡ 0 → after front (more_inits_at r inside is_type left s) ≡ whole
    → whole ≡ None
inits_out r inside is_type left front s whole e reads =
    failed front (more_inits_at r inside is_type left s) whole (zero_inits r inside is_type left s e) reads
