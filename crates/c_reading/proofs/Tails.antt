-- Lists that a loop reads to an end that says more.
use Rattle.std.proofs.Common.{◌≡◌, List, [], ◌∷◌, ◌++◌, Some, None, refl, sym, ap, ◌∙◌, append_assoc}
use Rattle.c_grammar.specs.Parts.{State}
use Rattle.c_grammar.specs.Reading.{Reading, ◌>>=◌}
use Rattle.c_reading.specs.Cursor.{behind}
use Rattle.c_reading.proofs.Lists.{append_nothing}

behind_twice : {A B : Type 0} (front : List A) (x : A) (read : Reading (List A × B)) →
    behind (front ++ x ∷ []) read ≡ behind front (read >>= (λ y. Some ((x ∷ y.0.0, y.0.1), y.1)))
behind_twice front x None = refl
behind_twice front x (Some y) = ap (λ l. Some ((l, y.0.1), y.1)) (append_assoc front (x ∷ []) y.0.0)

pub turned : {A B : Type 0} (front : List A) (x : A) (read rest whole : Reading (List A × B)) →
    read ≡ (rest >>= (λ y. Some ((x ∷ y.0.0, y.0.1), y.1))) → behind front read ≡ whole →
    behind (front ++ x ∷ []) rest ≡ whole
turned front x read rest whole is reads = behind_twice front x rest ∙ ap (behind front) (sym is) ∙ reads

pub stopped : {A B : Type 0} (front : List A) (last : B) (read whole : Reading (List A × B)) (s : State) →
    read ≡ Some (([], last), s) → behind front read ≡ whole → whole ≡ Some ((front, last), s)
stopped front last read whole s is reads = sym reads ∙ ap (behind front) is ∙ ap (λ l. Some ((l, last), s))
    (append_nothing front)

pub failed : {A B : Type 0} (front : List A) (read whole : Reading (List A × B)) → read ≡ None →
    behind front read ≡ whole → whole ≡ None
failed front read whole is reads = sym reads ∙ ap (behind front) is
