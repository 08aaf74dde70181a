-- Lists, one for each.
use Rattle.std.proofs.Common.{◌≡◌, List, [], ◌∷◌, ◌++◌, refl, sym, ap, ◌∙◌, append-nil}
use Rattle.term_bank.specs.declared.sort.Node.{Node}
use Rattle.term_bank.specs.Shapes.{Each}
use Rattle.summary_compose.specs.Renaming.{each_of}

pub joined : {B : Type 0} (xs ys zs : List B) → (xs ++ ys) ++ zs ≡ xs ++ (ys ++ zs)
joined [] ys zs = refl
joined (x ∷ xs) ys zs = ap (λ l. x ∷ l) (joined xs ys zs)

pub each_more : {A B : Type 0} (f : A → List B) (xs : List A) (x : A) → each_of f (xs ++ x ∷ []) ≡ each_of f xs ++ f x
each_more f [] x = append-nil (f x)
each_more f (y ∷ ys) x = ap (λ l. f y ++ l) (each_more f ys x) ∙ sym (joined (f y) (each_of f ys) (f x))

-- a list that grew by all before grows by one more
pub grown_more : {A B : Type 0} (f : A → List B) (before now next : List B) (xs : List A) (x : A) → now ≡ before ++ each_of f xs
    → next ≡ now ++ f x → next ≡ before ++ each_of f (xs ++ x ∷ [])
grown_more f before now next xs x h k =
    k ∙ ap (λ l. l ++ f x) h ∙ joined before (each_of f xs) (f x) ∙ ap (λ l. before ++ l) (sym (each_more f xs x))

pub each_joined : {A B : Type 0} (f : A → List B) (xs ys : List A) → each_of f (xs ++ ys) ≡ each_of f xs ++ each_of f ys
each_joined f [] ys = refl
each_joined f (x ∷ xs) ys = ap (λ l. f x ++ l) (each_joined f xs ys) ∙ sym (joined (f x) (each_of f xs) (each_of f ys))

pub all_front : (P : Node → Type 0) (xs ys : List Node) → Each P (xs ++ ys) → Each P xs
all_front P [] ys h = tt
all_front P (x ∷ xs) ys h = (h.0, all_front P xs ys h.1)

pub all_back : (P : Node → Type 0) (xs ys : List Node) → Each P (xs ++ ys) → Each P ys
all_back P [] ys h = h
all_back P (x ∷ xs) ys h = all_back P xs ys h.1
