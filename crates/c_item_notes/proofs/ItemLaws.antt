-- What is noted of items one behind the other, and of declared names.
use Rattle.std.proofs.Common.{◌≡◌, ℕ, List, [], ◌∷◌, ◌++◌, Bool, Option, Some, None, refl, sym, ap, ◌∙◌}
use Rattle.std.proofs.lemmas.List.{append-nil, append_assoc}
use Rattle.c_language.specs.declared.scope.Duration.TheVariants as duration
use Rattle.c_language.specs.declared.scope.Entry.{Entry}
use Rattle.c_language.specs.declared.scope.Means.{Means}
use Rattle.c_language.specs.declared.scope.Means.TheVariants as means
use Rattle.c_language.specs.Scopes.{Name, Scope}
use Rattle.c_language.specs.Declares.{Said, specified}
use Rattle.c_language.specs.Declarations.{Declared}
use Rattle.c_means.specs.declared.breach.Breach.{Breach}
use Rattle.c_means.specs.Items.{Case, Item, Lasting, followed, typing, with_breaches}
use Rattle.c_means.specs.Initials.{Initial}
use Rattle.c_means.specs.Statements.{Declaring, declared_entry, declared_means, declares_all}
use Rattle.c_checks.specs.Refusals.{lesser, least_of}
use Rattle.c_checks.proofs.Least.{grouping, of_both}
use Rattle.c_notes.specs.declared.calls.CallNote.{CallNote}
use Rattle.c_notes.proofs.Parts.{told_both}
use Rattle.c_item_notes.specs.declared.items.ItemNotes.{ItemNotes}
use Rattle.c_item_notes.specs.declared.items.LastingNote.{LastingNote}
use Rattle.c_item_notes.specs.Levels.{Judged, level_in}
use Rattle.c_item_notes.specs.InitialTellings.{initial_notes}
use Rattle.c_item_notes.specs.ItemTellings.{item_notes, lasting_notes, lasting_note, summed, summed_in, Summed, both}
use Rattle.c_item_notes.specs.ItemTellings.{breaking, nothing_noted, entry_notes, means_notes, declared_notes}
use Rattle.c_item_notes.specs.ItemTellings.{item_as, and_item, items_from}
use Rattle.c_item_notes.proofs.Seeing.{lesser_none}

abbrev made : Option Breach → List Case → List CallNote → List Name → List LastingNote → List Name → ItemNotes
made a b c d e f = record { breach = a; cases = b; calls = c; called = d; lasting = e; links = f }

made_same : (a a' : Option Breach) (b b' : List Case) (c c' : List CallNote) (d d' : List Name) (e e' : List LastingNote)
    (f f' : List Name) → a ≡ a' → b ≡ b' → c ≡ c' → d ≡ d' → e ≡ e' → f ≡ f' →
    made a b c d e f ≡ made a' b' c' d' e' f'
made_same a a' b b' c c' d d' e e' f f' p q r s t u =
    ap (λ x. made x b c d e f) p ∙ ap (λ x. made a' x c d e f) q ∙ ap (λ x. made a' b' x d e f) r
    ∙ ap (λ x. made a' b' c' x e f) s ∙ ap (λ x. made a' b' c' d' x f) t ∙ ap (λ x. made a' b' c' d' e' x) u

lasting_both : (xs ys : List Lasting) → lasting_notes (xs ++ ys) ≡ lasting_notes xs ++ lasting_notes ys
lasting_both [] ys = refl
lasting_both (x ∷ xs) ys = ap (λ zs. lasting_note x ∷ zs) (lasting_both xs ys)

pub followed_is : (j : Judged) (x y : Item) → item_notes j (followed x y) ≡ both (item_notes j x) (item_notes j y)
followed_is j x y =
    made_same _ _ _ _ _ _ _ _ _ _ _ _ (of_both x.breaches y.breaches) refl
    (told_both j.profile (level_in j) x.calls y.calls) refl (lasting_both x.lasting y.lasting) refl

pub breaking_is : (j : Judged) (bs : List Breach) (x : Item) →
    item_notes j (with_breaches bs x) ≡ breaking (least_of bs) (item_notes j x)
breaking_is j bs x = ap (λ (b : Option Breach). record (item_notes j x) { breach = b }) (of_both bs x.breaches)

pub both_grouped : (x y z : ItemNotes) → both (both x y) z ≡ both x (both y z)
both_grouped x y z =
    made_same _ _ _ _ _ _ _ _ _ _ _ _ (sym (grouping x.breach y.breach z.breach))
    (append_assoc x.cases y.cases z.cases) (append_assoc x.calls y.calls z.calls)
    (append_assoc x.called y.called z.called) (append_assoc x.lasting y.lasting z.lasting)
    (append_assoc x.links y.links z.links)

pub both_nothing : (x : ItemNotes) → both x nothing_noted ≡ x
both_nothing x =
    made_same _ _ _ _ _ _ _ _ _ _ _ _ (lesser_none x.breach) (append-nil x.cases) (append-nil x.calls)
    (append-nil x.called) (append-nil x.lasting) (append-nil x.links)

-- ---- declared names

means_are : (j : Judged) (at : ℕ) (e : Entry) (k : Means) (defined : Bool) (x : Initial) (s : Scope) →
    summed j (declared_means at e k defined x s) ≡ summed_in (means_notes at s.tables e k defined (initial_notes j x)) s
means_are j at e (means.Object t duration.Automatic l) defined x s = refl
means_are j at e (means.Object t duration.Static l) defined x s = refl
means_are j at e (means.Function t l) defined x s = refl
means_are j at e (means.Typedef t) defined x s = refl
means_are j at e (means.Constant z) defined x s = refl
means_are j at e means.Faulty defined x s = refl

entry_is : (j : Judged) (at : ℕ) (e : Option Entry) (defined : Bool) (x : Initial) (s : Scope) →
    summed j (declared_entry at e defined x s) ≡ summed_in (entry_notes at s.tables e defined (initial_notes j x)) s
entry_is j at None defined x s = refl
entry_is j at (Some e) defined x s = means_are j at e e.means defined x s

pub declared_is : (j : Judged) (at : ℕ) (defined : Bool) (w : Declared) (x : Initial) →
    summed j (with_breaches (typing w.faults) (declared_entry at w.entry defined x w.after))
    ≡ declared_notes at defined w (initial_notes j x)
declared_is j at defined w x =
    let i = declared_entry at w.entry defined x w.after in
    ap (λ (n : ItemNotes). summed_in n i.after) (breaking_is j (typing w.faults) i)
    ∙ ap (λ (z : Summed). summed_in (breaking (least_of (typing w.faults)) z.notes) z.after)
    (entry_is j at w.entry defined x w.after)

-- ---- declarators from left to right

pub items_are : (j : Judged) (said : Said) (z : Summed) (xs : List Declaring) →
    items_from j said.storage (specified said) z xs ≡ and_item j z (declares_all said xs z.after)
items_are j said z [] = ap (λ (n : ItemNotes). summed_in n z.after) (sym (both_nothing z.notes))
items_are j said z (x ∷ xs) =
    let i = item_as said.storage (specified said) (x.declarator z.after) x.initial in
    let more = declares_all said xs i.after in
    items_are j said (and_item j z i) xs
    ∙ ap (λ (n : ItemNotes). summed_in n more.after)
    (both_grouped z.notes (item_notes j i) (item_notes j more) ∙ ap (both z.notes) (sym (followed_is j i more)))

-- broken rules in front
pub front_breaking : (b : Option Breach) (x : ItemNotes) → both (breaking b nothing_noted) x ≡ breaking b x
front_breaking b x = ap (λ (k : Option Breach). record x { breach = lesser k x.breach }) (lesser_none b)
