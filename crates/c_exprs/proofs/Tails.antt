-- Lists that a loop reads to an end that says more.
use Rattle.std.proofs.Common.{◌≡◌, ℕ, suc, List, [], ◌∷◌, ◌++◌, Some, None, Bool, true, false, refl, sym, ap, ◌∙◌}
use Rattle.c_language.specs.declared.token.Punctuator.TheVariants as mark
use Rattle.c_language.specs.declared.expr.Parameter.{Parameter}
use Rattle.c_grammar.specs.Parts.{State}
use Rattle.c_grammar.specs.Reading.{Reading, Rules, ◌>>=◌, begins, expect, parameter_at, more_parameters_at}
use Rattle.c_reading.specs.declared.fault.ParseFault.{ParseFault}
use Rattle.c_reading.specs.declared.fault.ParseFault.TheVariants as fault
use Rattle.c_reading.specs.Cursor.{Fails, behind}
use Rattle.c_reading.proofs.Tails.{turned, stopped, failed}

-- ---- parameters

abbrev Parameters : Type 0
Parameters = List Parameter × Bool

no_comma : (r : Rules) (m left : ℕ) (s : State) → left ≡ suc m → begins mark.Comma s ≡ false →
    more_parameters_at r left s ≡ Some (([], false), s)
unfolding more_parameters_at
no_comma r m left s e none = rw (e, none) refl

lost_comma : (r : Rules) (m left : ℕ) (s : State) → left ≡ suc m → begins mark.Comma s ≡ true →
    expect mark.Comma s ≡ None → more_parameters_at r left s ≡ None
unfolding more_parameters_at
lost_comma r m left s e goes none = rw (e, goes, none) refl

no_ellipsis : (r : Rules) (m left at : ℕ) (s z : State) → left ≡ suc m → begins mark.Comma s ≡ true →
    expect mark.Comma s ≡ Some (tt, at, z) → begins mark.Ellipsis z ≡ true → expect mark.Ellipsis z ≡ None →
    more_parameters_at r left s ≡ None
unfolding more_parameters_at
no_ellipsis r m left at s z e goes is dots none = rw (e, goes, is, dots, none) refl

ellipsis : (r : Rules) (m left at after_ : ℕ) (s z w : State) → left ≡ suc m → begins mark.Comma s ≡ true →
    expect mark.Comma s ≡ Some (tt, at, z) → begins mark.Ellipsis z ≡ true →
    expect mark.Ellipsis z ≡ Some (tt, after_, w) → more_parameters_at r left s ≡ Some (([], true), w)
unfolding more_parameters_at
ellipsis r m left at after_ s z w e goes is dots took = rw (e, goes, is, dots, took) refl

parameter_step : (r : Rules) (m left at : ℕ) (s z : State) (read : Reading Parameter) → left ≡ suc m →
    begins mark.Comma s ≡ true → expect mark.Comma s ≡ Some (tt, at, z) → begins mark.Ellipsis z ≡ false →
    parameter_at r z ≡ read
    → more_parameters_at r left s ≡ (read >>= (λ x. more_parameters_at r m x.1 >>=
    (λ more. Some ((x.0 ∷ more.0.0, more.0.1), more.1))))
unfolding more_parameters_at
parameter_step r m left at s z read e goes is dots reads = rw (e, goes, is, dots, reads) refl

zero_parameters : (r : Rules) (left : ℕ) (s : State) → left ≡ 0 → more_parameters_at r left s ≡ None
unfolding more_parameters_at
zero_parameters r left s e = rw e refl

pub parameters_stop : (r : Rules) (m left : ℕ) (front : List Parameter) (s : State) (whole : Reading Parameters)
    → left ≡ suc m → begins mark.Comma s ≡ false → behind front (more_parameters_at r left s) ≡ whole →
    whole ≡ Some ((front, false), s)
parameters_stop r m left front s whole e none reads = stopped front false (more_parameters_at r left s) whole s
    (no_comma r m left s e none) reads

pub parameters_lost : (r : Rules) (m left : ℕ) (front : List Parameter) (s : State) (whole : Reading Parameters)
    (f : ParseFault) → left ≡ suc m → begins mark.Comma s ≡ true → Fails f (expect mark.Comma s) →
    behind front (more_parameters_at r left s) ≡ whole → Fails f whole
parameters_lost r m left front s whole fault.Memory e goes none reads = tt
parameters_lost r m left front s whole (fault.Syntax at) e goes none reads = failed front
    (more_parameters_at r left s) whole (lost_comma r m left s e goes none) reads
parameters_lost r m left front s whole (fault.TooDeep at) e goes none reads = failed front
    (more_parameters_at r left s) whole (lost_comma r m left s e goes none) reads

pub parameters_undotted : (r : Rules) (m left at : ℕ) (front : List Parameter) (s z : State)
    (whole : Reading Parameters) (f : ParseFault) → left ≡ suc m → begins mark.Comma s ≡ true →
    expect mark.Comma s ≡ Some (tt, at, z) → begins mark.Ellipsis z ≡ true → Fails f (expect mark.Ellipsis z) →
    behind front (more_parameters_at r left s) ≡ whole → Fails f whole
parameters_undotted r m left at front s z whole fault.Memory e goes is dots none reads = tt
parameters_undotted r m left at front s z whole (fault.Syntax p) e goes is dots none reads = failed front
    (more_parameters_at r left s) whole (no_ellipsis r m left at s z e goes is dots none) reads
parameters_undotted r m left at front s z whole (fault.TooDeep p) e goes is dots none reads = failed front
    (more_parameters_at r left s) whole (no_ellipsis r m left at s z e goes is dots none) reads

pub parameters_dotted : (r : Rules) (m left at after_ : ℕ) (front : List Parameter) (s z w : State)
    (whole : Reading Parameters) → left ≡ suc m → begins mark.Comma s ≡ true →
    expect mark.Comma s ≡ Some (tt, at, z) → begins mark.Ellipsis z ≡ true →
    expect mark.Ellipsis z ≡ Some (tt, after_, w) → behind front (more_parameters_at r left s) ≡ whole →
    whole ≡ Some ((front, true), w)
parameters_dotted r m left at after_ front s z w whole e goes is dots took reads = stopped front true
    (more_parameters_at r left s) whole w (ellipsis r m left at after_ s z w e goes is dots took) reads

pub parameters_fail : (r : Rules) (m left at : ℕ) (front : List Parameter) (s z : State)
    (whole : Reading Parameters) (f : ParseFault) → left ≡ suc m → begins mark.Comma s ≡ true →
    expect mark.Comma s ≡ Some (tt, at, z) → begins mark.Ellipsis z ≡ false → Fails f (parameter_at r z) →
    behind front (more_parameters_at r left s) ≡ whole → Fails f whole
parameters_fail r m left at front s z whole fault.Memory e goes is dots none reads = tt
parameters_fail r m left at front s z whole (fault.Syntax p) e goes is dots none reads = failed front
    (more_parameters_at r left s) whole (parameter_step r m left at s z None e goes is dots none) reads
parameters_fail r m left at front s z whole (fault.TooDeep p) e goes is dots none reads = failed front
    (more_parameters_at r left s) whole (parameter_step r m left at s z None e goes is dots none) reads

pub parameters_go : (r : Rules) (m left at : ℕ) (front : List Parameter) (x : Parameter) (s z w : State)
    (whole : Reading Parameters) → left ≡ suc m → begins mark.Comma s ≡ true →
    expect mark.Comma s ≡ Some (tt, at, z) → begins mark.Ellipsis z ≡ false → parameter_at r z ≡ Some (x, w) →
    behind front (more_parameters_at r left s) ≡ whole → behind (front ++ x ∷ []) (more_parameters_at r m w) ≡ whole
parameters_go r m left at front x s z w whole e goes is dots took reads = turned front x
    (more_parameters_at r left s) (more_parameters_at r m w) whole
    (parameter_step r m left at s z (Some (x, w)) e goes is dots took) reads

pub parameters_out : (r : Rules) (left : ℕ) (front : List Parameter) (s : State) (whole : Reading Parameters) →
    left ≡ 0 → behind front (more_parameters_at r left s) ≡ whole → whole ≡ None
parameters_out r left front s whole e reads = failed front (more_parameters_at r left s) whole
    (zero_parameters r left s e) reads

pub parameters_next : (r : Rules) (m left at : ℕ) (front all : List Parameter) (x : Parameter) (s z w : State)
    (whole : Reading Parameters) → left ≡ suc m → begins mark.Comma s ≡ true →
    expect mark.Comma s ≡ Some (tt, at, z) → begins mark.Ellipsis z ≡ false → parameter_at r z ≡ Some (x, w) →
    all ≡ front ++ x ∷ [] → behind front (more_parameters_at r left s) ≡ whole →
    behind all (more_parameters_at r m w) ≡ whole
parameters_next r m left at front all x s z w whole e goes is dots took appended reads =
    ap (λ l. behind l (more_parameters_at r m w)) appended ∙ parameters_go r m left at front x s z w whole e
    goes is dots took reads

pub parameters_close : (r : Rules) (m left : ℕ) (front : List Parameter) (b : Bool) (s : State)
    (whole : Reading Parameters) → left ≡ suc m → begins mark.Comma s ≡ false → b ≡ false →
    behind front (more_parameters_at r left s) ≡ whole → whole ≡ Some ((front, b), s)
parameters_close r m left front b s whole e none fixed reads = parameters_stop r m left front s whole e none
    reads ∙ ap (λ v. Some ((front, v), s)) (sym fixed)

pub parameters_dot : (r : Rules) (m left at after_ : ℕ) (front all : List Parameter) (b : Bool) (s z w : State)
    (whole : Reading Parameters) → left ≡ suc m → begins mark.Comma s ≡ true →
    expect mark.Comma s ≡ Some (tt, at, z) → begins mark.Ellipsis z ≡ true →
    expect mark.Ellipsis z ≡ Some (tt, after_, w) → all ≡ front → b ≡ true →
    behind front (more_parameters_at r left s) ≡ whole → whole ≡ Some ((all, b), w)
parameters_dot r m left at after_ front all b s z w whole e goes is dots took same variadic reads =
    parameters_dotted r m left at after_ front s z w whole e goes is dots took reads ∙ ap
    (λ v. Some ((front, v), w)) (sym variadic) ∙ ap (λ l. Some ((l, b), w)) (sym same)
