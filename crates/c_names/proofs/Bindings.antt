-- Declarations and uses that are kept with their first last.
use Rattle.std.proofs.Common.{◌≡◌, ℕ, Bool, true, false, cond, ◌||◌, List, [], ◌∷◌, ◌++◌, reverse, Option, Some, None}
use Rattle.std.proofs.Common.{refl, sym, ap, ◌∙◌}
use Rattle.std.proofs.lemmas.List.{append-nil, append_assoc, reverse-append}
use Rattle.c_means.specs.Names.{Names, Word, Binding, same_word, binding_of, free, bound_in, is_among, without}
use Rattle.c_names.specs.Parting.{first_binding, parted, parted_by, bound_by, left_by}

reverse_cons : {A : Type 0} (xs : List A) (x : A) → reverse (x ∷ xs) ≡ reverse xs ++ x ∷ []
reverse_cons xs x = reverse-append (x ∷ []) xs

turned : {A : Type 0} (x : A) (xs ys : List A) → reverse (x ∷ xs) ++ ys ≡ reverse xs ++ x ∷ ys
turned x xs ys = ap (λ zs. zs ++ ys) (reverse_cons xs x) ∙ append_assoc (reverse xs) (x ∷ []) ys

-- ---- the last declaration

behind : (w : Word) (xs : List Binding) (b : Binding) (found : Option ℕ) →
    binding_of w (xs ++ b ∷ []) found ≡ cond (same_word b.word w) (Some b.at) (binding_of w xs found)
behind w [] b found = refl
behind w (x ∷ xs) b found = behind w xs b (cond (same_word x.word w) (Some x.at) found)

last_of : (w : Word) (xs : List Binding) → first_binding w xs ≡ binding_of w (reverse xs) None
last_of w [] = refl
last_of w (x ∷ xs) =
    ap (cond (same_word x.word w) (Some x.at)) (last_of w xs)
    ∙ sym (behind w (reverse xs) x None)
    ∙ ap (λ (ys : List Binding). binding_of w ys None) (sym (reverse_cons xs x))

pub last_is : (w : Word) (xs ys : List Binding) → ys ≡ reverse xs → first_binding w xs ≡ binding_of w ys None
last_is w xs ys is = last_of w xs ∙ ap (λ (zs : List Binding). binding_of w zs None) (sym is)

-- ---- whether a word is declared

exchanged : (a b c : Bool) → (a || (b || c)) ≡ (b || (a || c))
exchanged true true c = refl
exchanged true false c = refl
exchanged false true c = refl
exchanged false false c = refl

or_last : (w : Word) (xs : List Binding) (b : Binding) → is_among w (xs ++ b ∷ [])
    ≡ (same_word b.word w || is_among w xs)
or_last w [] b = refl
or_last w (x ∷ xs) b =
    ap (λ t. same_word x.word w || t) (or_last w xs b) ∙ exchanged (same_word x.word w) (same_word b.word w) (is_among w xs)

among : (w : Word) (xs : List Binding) → is_among w (reverse xs) ≡ is_among w xs
among w [] = refl
among w (x ∷ xs) =
    ap (is_among w) (reverse_cons xs x) ∙ or_last w (reverse xs) x ∙ ap (λ t. same_word x.word w || t) (among w xs)

pub among_reversed : (w : Word) (xs ys : List Binding) → ys ≡ reverse xs → is_among w xs ≡ is_among w ys
among_reversed w xs ys is = sym (among w xs) ∙ ap (is_among w) (sym is)

-- ---- no declarations

pub all_free : (ws : List Word) → free [] ws ≡ ws
all_free [] = refl
all_free (w ∷ ws) = ap (λ zs. w ∷ zs) (all_free ws)

pub none_bound : (ws : List Word) → bound_in [] ws ≡ []
none_bound [] = refl
none_bound (w ∷ ws) = none_bound ws

pub nothing_bound : (bs : List Binding) (y : Names) → bs ≡ [] → y ≡ bound_by bs y
nothing_bound bs y is =
    sym (ap (λ (zs : List Binding). bound_by zs y) is
    ∙ ap (λ (ws : List Word). record y { uses = ws; bound = y.bound ++ bound_in [] y.uses }) (all_free y.uses)
    ∙ ap (λ (ats : List ℕ). record y { bound = y.bound ++ ats }) (none_bound y.uses)
    ∙ ap (λ (ats : List ℕ). record y { bound = ats }) (append-nil y.bound))

none_left : (ws : List Word) → without [] ws ≡ ws
none_left [] = refl
none_left (w ∷ ws) = ap (λ zs. w ∷ zs) (none_left ws)

pub none_left_out : (y : Names) → y.refers ≡ [] → y ≡ record y { uses = without y.refers y.uses }
none_left_out y is =
    sym (ap (λ (bs : List Binding). record y { uses = without bs y.uses }) is
    ∙ ap (λ (ws : List Word). record y { uses = ws }) (none_left y.uses))

-- ---- uses from the last to the first

gone_through : (bs : List Binding) (xs ws : List Word) → parted_by bs xs (parted bs ws) ≡ parted bs (reverse xs ++ ws)
gone_through bs [] ws = refl
gone_through bs (x ∷ xs) ws = gone_through bs xs (x ∷ ws) ∙ ap (parted bs) (sym (turned x xs ws))

pub parted_is : (bs : List Binding) (xs ws : List Word) → ws ≡ reverse xs →
    parted_by bs xs (record { free = []; bound = [] }) ≡ parted bs ws
parted_is bs xs ws is =
    gone_through bs xs [] ∙ ap (parted bs) (append-nil (reverse xs)) ∙ ap (parted bs) (sym is)

left : (bs : List Binding) (xs ws : List Word) → left_by bs xs (without bs ws) ≡ without bs (reverse xs ++ ws)
left bs [] ws = refl
left bs (x ∷ xs) ws = left bs xs (x ∷ ws) ∙ ap (without bs) (sym (turned x xs ws))

pub left_is : (bs : List Binding) (xs ws : List Word) → ws ≡ reverse xs → left_by bs xs [] ≡ without bs ws
left_is bs xs ws is = left bs xs [] ∙ ap (without bs) (append-nil (reverse xs)) ∙ ap (without bs) (sym is)
