-- Declarations in blocks: objects have the places of their declarations.
use Rattle.std.proofs.Common.{◌≡◌, ℕ, suc, ◌+◌, Bool, true, false, cond, List, [], ◌∷◌, Option, Some, None, refl, arith}
use Rattle.std.specs.Prelude.{map, option_map}
use Rattle.c_language.specs.declared.unit.Declaration.{Declaration}
use Rattle.c_language.specs.declared.unit.InitDeclarator.{InitDeclarator}
use Rattle.c_language.specs.declared.unit.Initializer.{Initializer}
use Rattle.c_store.specs.Store.{start}
use Rattle.c_language.specs.declared.scope.Duration.TheVariants as duration
use Rattle.c_language.specs.declared.scope.Entry.{Entry}
use Rattle.c_language.specs.declared.scope.Linkage.{Linkage}
use Rattle.c_language.specs.declared.scope.Means.{Means}
use Rattle.c_language.specs.declared.scope.Means.TheVariants as means
use Rattle.c_language.specs.Scopes.{Scope}
use Rattle.c_language.specs.Declares.{Said, said_by}
use Rattle.c_language.specs.Declarations.{Declared, declares}
use Rattle.c_means.specs.Parts.{State}
use Rattle.c_means.specs.Values.{bytes_of}
use Rattle.c_means.specs.Notes.{specifier_noted}
use Rattle.c_means.specs.Items.{typing}
use Rattle.c_means.specs.Initials.{Initial, Initially, initially, initialising_if, said_if}
use Rattle.c_means.specs.Statements.{Declaring, zeroed_if, automatic, no_env, lasting, declared_means}
use Rattle.c_means.specs.Statements.{declared_entry, type_in_entry, declared_item, defines, name_offset, declares_formed}
use Rattle.c_means.specs.Statements.{declares_all, is_alone, declaring, declaration}
use Rattle.c_places.proofs.Counts.{met}
use Rattle.c_means.specs.Parts.{Level}
use Rattle.c_places.proofs.Blind.{still}
use Rattle.c_places.proofs.Items.{ItemKeeps, nothing_keeps, followed_keeps, breaches_keep, runs}
use Rattle.c_places.proofs.Initials.{InitialKeeps, MaybeElements, initial_keeps, initially_keeps}

zeroed_met : (p : ℕ) (b : Bool) (a n : ℕ) (d : State) → met p (zeroed_if b a n d) ≡ met p d
zeroed_met p true a n d = refl
zeroed_met p false a n d = refl

-- the object has the first place, and its initializer those behind it
automatic_keeps : (e : Entry) (n : ℕ) (x : Initial) (s : Scope) → InitialKeeps x → ItemKeeps (automatic e n x s)
automatic_keeps e n x s h = record {
  acts = λ w p l c env base d.
      let first = start (env e.at) in
      let d' = zeroed_if x.is_zeroed first n d in
      let one = base + 1 in
      let end = one + x.room l in
      let up = c.calls.rises.more one end (omega arith) in
      omega (
        arith,
        runs p (w one) (w end) (λ d. x.run first l env one (zeroed_if x.is_zeroed first n d)) d
            (omega (arith, h.acts w p l c.calls first env one d', zeroed_met p x.is_zeroed first n d)) up,
        c.step base,
        c.calls.rises.more (suc base) one (omega arith),
        c.calls.rises.more end (base + (1 + x.room l)) (omega arith),
      );
  lasting = tt;
  size = λ l. omega (arith, h.size l);
  room = λ l. omega (arith, h.room l);
}

lasting_keeps : (at : ℕ) (e : Entry) (n : ℕ) (k : Linkage) (defined : Bool) (x : Initial) (s : Scope) →
    InitialKeeps x → ItemKeeps (lasting at e n k defined x s)
lasting_keeps at e n k defined x s h = record {
  acts = (nothing_keeps s).acts;
  lasting = ((λ p l c d. omega (arith, h.acts (λ q. 0) p l c (start (l.static e.at)) no_env 0 d)), tt);
  size = counted defined;
  room = λ l. refl;
}
  where
    counted : (b : Bool) (l : Level) → cond b (1 + x.size l) 0 ≡ cond b (1 + x.size (still l)) 0
    counted true l = omega (arith, h.size l)
    counted false l = refl

means_keep : (at : ℕ) (e : Entry) (m : Means) (defined : Bool) (x : Initial) (s : Scope) → InitialKeeps x →
    ItemKeeps (declared_means at e m defined x s)
means_keep at e (means.Object t duration.Automatic k) defined x s h =
    automatic_keeps e (bytes_of s.tables (Some t)) x s h
means_keep at e (means.Object t duration.Static k) defined x s h =
    lasting_keeps at e (bytes_of s.tables (Some t)) k defined x s h
means_keep at e (means.Function t k) defined x s h =
    record { acts = (nothing_keeps s).acts; lasting = tt; size = λ l. refl; room = λ l. refl }
means_keep at e (means.Typedef t) defined x s h = nothing_keeps s
means_keep at e (means.Constant z) defined x s h = nothing_keeps s
means_keep at e means.Faulty defined x s h = nothing_keeps s

entry_keeps : (at : ℕ) (e : Option Entry) (defined : Bool) (x : Initial) (s : Scope) → InitialKeeps x →
    ItemKeeps (declared_entry at e defined x s)
entry_keeps at None defined x s h = nothing_keeps s
entry_keeps at (Some e) defined x s h = means_keep at e e.means defined x s h

declared_keeps : (at : ℕ) (defined : Bool) (i : Option Initially) (plain whole : Declared) → MaybeElements i →
    ItemKeeps (declared_item at defined i plain whole)
declared_keeps at defined i plain whole h =
    let x = initialising_if i (type_in_entry plain.entry) plain.after in
    breaches_keep (typing whole.faults) (declared_entry at whole.entry defined x whole.after)
    (entry_keeps at whole.entry defined x whole.after (initial_keeps i (type_in_entry plain.entry) plain.after h))

abbrev EachDeclaring : List Declaring → Type 0
EachDeclaring [] = Unit {0}
EachDeclaring (x ∷ xs) = MaybeElements x.initial × EachDeclaring xs

all_keep : (said : Said) (xs : List Declaring) (s : Scope) → EachDeclaring xs → ItemKeeps (declares_all said xs s)
all_keep said [] s h = nothing_keeps s
all_keep said (x ∷ xs) s h =
    let f = x.declarator s in
    let i = declares_formed said f x.initial in
    followed_keeps i (declares_all said xs i.after)
    (declared_keeps (name_offset f.name) (defines said x.initial) x.initial (declares said f None)
    (declares said f (said_if x.initial)) h.0)
    (all_keep said xs i.after h.1)

maybe_keep : (x : Option Initializer) → MaybeElements (option_map initially x)
maybe_keep None = tt
maybe_keep (Some x) = initially_keeps x

each_declaring : (xs : List InitDeclarator) → EachDeclaring (map declaring xs)
each_declaring [] = tt
each_declaring (x ∷ xs) = (maybe_keep x.initializer, each_declaring xs)

pub declaration_keeps : (x : Declaration) (s : Scope) → ItemKeeps (declaration x s)
declaration_keeps x s =
    let xs = map declaring x.declarators in
    let said = said_by (map specifier_noted x.specifiers) (is_alone xs) [] s in
    breaches_keep (typing said.faults) (declares_all said xs said.scope)
    (all_keep said xs said.scope (each_declaring x.declarators))
