-- Answers to questions, of one state and of all.
use Rattle.std.proofs.Common.{◌≡◌, ◌↔◌, ◌⊎◌, inl, inr, ◌<◌, ℕ, zero, suc, List, [], ◌∷◌, ◌++◌, length, Bool, true, false, cond}
use Rattle.std.proofs.Common.{ℤ, nat_eq, Option, Some, None, refl, sym, ap, subst, ◌∙◌, arith}
use Rattle.std.specs.Prelude.{Ok, slice_get}
use Rattle.std.specs.HashMap.{get}
use Rattle.std.specs.Map.{lookup}
use Rattle.std.specs.List.{Any, slice_index_or}
use Rattle.plain_data.specs.declared.fact.Fact.{Fact}
use Rattle.plain_data.specs.declared.fact.Fact.TheVariants as fact
use Rattle.plain_data.specs.declared.run.Event.{Event}
use Rattle.plain_data.specs.declared.run.Finish.{Finish}
use Rattle.plain_data.specs.declared.run.Finish.TheVariants as finish
use Rattle.plain_data.specs.declared.run.Happening.TheVariants as happening
use Rattle.plain_data.specs.declared.run.Run.{Run}
use Rattle.plain_data.specs.declared.run.Side.{Side}
use Rattle.log_text.specs.Shown.{StaysIn, Holds}
use Rattle.core_tree.specs.States.{Done}
use Rattle.term_bank.specs.declared.sort.Node.{Node}
use Rattle.term_bank.specs.declared.sort.Sort.{Sort}
use Rattle.term_bank.specs.declared.sort.Sort.TheVariants as sort
use Rattle.term_bank.specs.declared.shape.Connective.TheVariants as connective
use Rattle.term_bank.specs.declared.shape.Shape.{Shape}
use Rattle.term_bank.specs.declared.shape.Shape.TheVariants as shape
use Rattle.term_bank.specs.Banks.{IsBank}
use Rattle.term_bank.specs.Images.{Images, Puts}
use Rattle.term_bank.specs.Shapes.{Each}
use Rattle.term_bank.specs.Terms.{IsTerm, Makes}
use Rattle.term_bank.specs.Values.{Environment, Values, Models, Grows, Worth}
use Rattle.term_bank.proofs.BankLemmas.{weaken, stays, grows_on}
use Rattle.term_bank.proofs.TermLemmas.{term_grown}
use Rattle.path_states.specs.declared.state.State.{State}
use Rattle.path_states.specs.States.{Held, done_in, run_in, standing}
use Rattle.path_states.specs.Ways.{to_list}
use Rattle.path_states.proofs.Growth.{standing_joined}
use Rattle.path_arrows.specs.Arrows.{bared}
use Rattle.log_expr.specs.Tours.{Tour}
use Rattle.run_formula.specs.declared.questions.Question.{Question}
use Rattle.run_formula.specs.declared.questions.Question.TheVariants as question
use Rattle.run_formula.specs.Whole.{run_in_world, RunsAll}
use Rattle.run_formula.specs.Questions.{OneOf, IsMeant, IsSought, EndsSo, SameEnd, shown, Meets, MeetsOn}
use Rattle.run_formula.specs.Questions.{TellsAt, TellsShape, AllTell, TellsAll, OrMeant}
use Rattle.run_formula.specs.Questions.{TellsState, TellsStates, IsAnswer, AnswerAll, AsksAll}

-- ---- one of some

pub one_left : {A : Type 0} (P : A → Type 0) (xs ys : List A) → OneOf P xs → OneOf P (xs ++ ys)
one_left P [] ys h = absurd h
one_left P (x ∷ xs) ys (inl h) = inl h
one_left P (x ∷ xs) ys (inr h) = inr (one_left P xs ys h)

pub one_right : {A : Type 0} (P : A → Type 0) (xs ys : List A) → OneOf P ys → OneOf P (xs ++ ys)
one_right P [] ys h = h
one_right P (x ∷ xs) ys h = inr (one_right P xs ys h)

pub one_parted : {A : Type 0} (P : A → Type 0) (xs ys : List A) → OneOf P (xs ++ ys) → OneOf P xs ⊎ OneOf P ys
one_parted P [] ys h = inr h
one_parted P (x ∷ xs) ys (inl h) = inl (inl h)
one_parted P (x ∷ xs) ys (inr h) = elim (one_parted P xs ys h) [
  | inl k ↦ inl (inr k)
  | inr k ↦ inr k
]

one_at : {A : Type 0} (P : A → Type 0) (xs : List A) (k : ℕ) (x : A) → k < length xs → slice_index_or xs k x ≡ x → P x → OneOf P xs
one_at P [] k x less is p = absurd (omega (arith, less))
one_at P (y ∷ ys) zero x less is p = inl (subst P (sym is) p)
one_at P (y ∷ ys) (suc k) x less is p = inr (one_at P ys k x (omega (arith, less)) is p)

pub one_any : {A : Type 0} (P : A → Type 0) (xs : List A) → Any P xs → OneOf P xs
one_any P xs (k, x, less, is, p) = one_at P xs k x less is p

any_more : {A : Type 0} (P : A → Type 0) (y : A) (ys : List A) → Any P ys → Any P (y ∷ ys)
any_more P y ys (k, x, less, is, p) = (suc k, x, omega (arith, less), is, p)

pub any_one : {A : Type 0} (P : A → Type 0) (xs : List A) → OneOf P xs → Any P xs
any_one P [] h = absurd h
any_one P (y ∷ ys) (inl h) = (0, y, omega arith, refl, h)
any_one P (y ∷ ys) (inr h) = any_more P y ys (any_one P ys h)

never : {A : Type 0} (xs : List A) → OneOf (λ x. ⊥) xs → ⊥
never [] h = h
never (x ∷ xs) (inl h) = h
never (x ∷ xs) (inr h) = never xs h

-- ---- what a fact speaks of

seen_part : (P : Event → Type 0) (f : Fact) (run : Run) → Any P run.events ↔ (OneOf P run.events ⊎ ⊥)
seen_part P f run = (
  λ h. inl (one_any P run.events h),
  λ h. elim h [
    | inl k ↦ any_one P run.events k
    | inr k ↦ absurd k
  ],
)

ended_part : (P : Type 0) (run : Run) → P ↔ (OneOf (λ (e : Event). ⊥) run.events ⊎ P)
ended_part P run = (
  λ h. inr h,
  λ h. elim h [
    | inl k ↦ absurd (never run.events k)
    | inr k ↦ k
  ],
)

-- a fact holds by an event that is meant, or by the run's end
pub holds_by : (log : List ℕ) (run : Run) (f : Fact) → Holds log run f ↔ (OneOf (IsMeant log f) run.events ⊎ EndsSo f run.finish)
holds_by log run (fact.Branch at side) = seen_part (IsMeant log (fact.Branch at side)) (fact.Branch at side) run
holds_by log run (fact.BranchIn at side line) = seen_part (IsMeant log (fact.BranchIn at side line)) (fact.BranchIn at side line) run
holds_by log run (fact.Call at) = seen_part (IsMeant log (fact.Call at)) (fact.Call at) run
holds_by log run (fact.CallIn at line) = seen_part (IsMeant log (fact.CallIn at line)) (fact.CallIn at line) run
holds_by log run (fact.Print at line) = seen_part (IsMeant log (fact.Print at line)) (fact.Print at line) run
holds_by log run (fact.StopAt kind at) = ended_part (EndsSo (fact.StopAt kind at) run.finish) run
holds_by log run fact.Returned = ended_part (EndsSo fact.Returned run.finish) run
holds_by log run fact.Exited = ended_part (EndsSo fact.Exited run.finish) run
holds_by log run fact.Aborted = ended_part (EndsSo fact.Aborted run.finish) run
holds_by log run (fact.StopOf kind) = ended_part (EndsSo (fact.StopOf kind) run.finish) run

-- the first part is so, and a test decides the second
pub where_both : {A B : Type 0} (x : Bool) → A → (x ≡ true) ↔ B → (x ≡ true) ↔ (A × B)
where_both x a h = (λ k. (a, h.0 k), λ k. h.1 k.1)

pub not_so : {A : Type 0} (x : Bool) → x ≡ false → (x ≡ true) ↔ A → A → ⊥
not_so x missed h a = let wrong : false ≡ true = sym missed ∙ h.1 a in absurd (cc)

-- ---- ends

returned_same : (f : Fact) (x y : _) → EndsSo f (finish.Return x) ↔ EndsSo f (finish.Return y)
returned_same (fact.Branch at side) x y = (λ h. h, λ h. h)
returned_same (fact.BranchIn at side line) x y = (λ h. h, λ h. h)
returned_same (fact.Call at) x y = (λ h. h, λ h. h)
returned_same (fact.CallIn at line) x y = (λ h. h, λ h. h)
returned_same (fact.Print at line) x y = (λ h. h, λ h. h)
returned_same (fact.StopAt kind at) x y = (λ h. absurd (cc), λ h. absurd (cc))
returned_same fact.Returned x y = (λ h. h, λ h. h)
returned_same fact.Exited x y = (λ h. h, λ h. h)
returned_same fact.Aborted x y = (λ h. absurd (cc), λ h. absurd (cc))
returned_same (fact.StopOf kind) x y = (λ h. h, λ h. h)

exited_same : (f : Fact) (x y : _) → EndsSo f (finish.Exit x) ↔ EndsSo f (finish.Exit y)
exited_same (fact.Branch at side) x y = (λ h. h, λ h. h)
exited_same (fact.BranchIn at side line) x y = (λ h. h, λ h. h)
exited_same (fact.Call at) x y = (λ h. h, λ h. h)
exited_same (fact.CallIn at line) x y = (λ h. h, λ h. h)
exited_same (fact.Print at line) x y = (λ h. h, λ h. h)
exited_same (fact.StopAt kind at) x y = (λ h. absurd (cc), λ h. absurd (cc))
exited_same fact.Returned x y = (λ h. h, λ h. h)
exited_same fact.Exited x y = (λ h. h, λ h. h)
exited_same fact.Aborted x y = (λ h. absurd (cc), λ h. absurd (cc))
exited_same (fact.StopOf kind) x y = (λ h. h, λ h. h)

moved : (P : Finish → Type 0) (f g : Finish) → f ≡ g → P f ↔ P g
moved P f g e = (λ h. subst P e h, λ h. subst P (sym e) h)

-- what doesn't ask for the value that `main` returns, nor for the status of `exit`, is so of both
same_ends : (P : Finish → Type 0) → ((x y : _) → P (finish.Return x) ↔ P (finish.Return y)) → ((x y : _) → P (finish.Exit x) ↔ P (finish.Exit y))
    → (f g : Finish) → SameEnd f g → P f ↔ P g
same_ends P h i (finish.Return x) (finish.Return y) e = h x y
same_ends P h i (finish.Return x) (finish.Exit y) e = moved P (finish.Return x) (finish.Exit y) e
same_ends P h i (finish.Return x) finish.Abort e = moved P (finish.Return x) finish.Abort e
same_ends P h i (finish.Return x) (finish.Stopped kind at) e = moved P (finish.Return x) (finish.Stopped kind at) e
same_ends P h i (finish.Return x) (finish.Left at) e = moved P (finish.Return x) (finish.Left at) e
same_ends P h i (finish.Exit x) (finish.Return y) e = moved P (finish.Exit x) (finish.Return y) e
same_ends P h i (finish.Exit x) (finish.Exit y) e = i x y
same_ends P h i (finish.Exit x) finish.Abort e = moved P (finish.Exit x) finish.Abort e
same_ends P h i (finish.Exit x) (finish.Stopped kind at) e = moved P (finish.Exit x) (finish.Stopped kind at) e
same_ends P h i (finish.Exit x) (finish.Left at) e = moved P (finish.Exit x) (finish.Left at) e
same_ends P h i finish.Abort g e = moved P finish.Abort g e
same_ends P h i (finish.Stopped kind at) g e = moved P (finish.Stopped kind at) g e
same_ends P h i (finish.Left at) g e = moved P (finish.Left at) g e

pub ends_alike : (a : Fact) (f g : Finish) → SameEnd f g → EndsSo a f ↔ EndsSo a g
ends_alike a f g e = same_ends (EndsSo a) (returned_same a) (exited_same a) f g e

pub stays_alike : (f g : Finish) → SameEnd f g → StaysIn f ↔ StaysIn g
stays_alike f g e = same_ends StaysIn (λ x y. (λ h. h, λ h. h)) (λ x y. (λ h. h, λ h. h)) f g e

-- ---- both ways, one behind the other

pub both : {A B C : Type 0} → A ↔ B → B ↔ C → A ↔ C
both (f, g) (h, k) = (λ a. h (f a), λ c. g (k c))

pub back : {A B : Type 0} → A ↔ B → B ↔ A
back (f, g) = (g, f)

truth_as : (x y : Bool) → x ≡ y → (x ≡ true) ↔ (y ≡ true)
truth_as x y e = (λ h. sym e ∙ h, λ h. e ∙ h)

-- ---- events

-- one event more, that is meant or isn't
event_more : (P : Event → Type 0) (xs : List Event) (e : Event) (n meant p : Bool) → p ≡ cond meant true n → (n ≡ true) ↔ OneOf P xs
    → (meant ≡ true) ↔ P e → (p ≡ true) ↔ OneOf P (xs ++ e ∷ [])
event_more P xs e n true p is h k = (λ g. one_right P xs (e ∷ []) (inl (k.0 refl)), λ g. is)
event_more P xs e n false p is h k = (
  λ g. one_left P xs (e ∷ []) (h.0 (sym is ∙ g)),
  λ g. elim (one_parted P xs (e ∷ []) g) [
    | inl i ↦ is ∙ h.1 i
    | inr (inl i) ↦ let wrong : false ≡ true = k.1 i in absurd (cc)
    | inr (inr i) ↦ absurd i
  ],
)

events_both : (P : Event → Type 0) (xs ys : List Event) (n m p : Bool) → p ≡ cond n true m → (n ≡ true) ↔ OneOf P xs → (m ≡ true) ↔ OneOf P ys
    → (p ≡ true) ↔ OneOf P (xs ++ ys)
events_both P xs ys true m p is h k = (λ g. one_left P xs ys (h.0 refl), λ g. is)
events_both P xs ys false m p is h k = (
  λ g. one_right P xs ys (k.0 (sym is ∙ g)),
  λ g. elim (one_parted P xs ys g) [
    | inl i ↦ let wrong : false ≡ true = h.1 i in absurd (cc)
    | inr i ↦ is ∙ k.1 i
  ],
)

events_chosen : (P : Event → Type 0) (x y : Worth) (c n m p : Bool) → p ≡ cond c n m → (n ≡ true) ↔ OneOf P x.events → (m ≡ true) ↔ OneOf P y.events
    → (p ≡ true) ↔ OneOf P (cond {A = Worth} c x y).events
events_chosen P x y true n m p is h k = (λ g. h.0 (sym is ∙ g), λ g. is ∙ h.1 g)
events_chosen P x y false n m p is h k = (λ g. k.0 (sym is ∙ g), λ g. is ∙ k.1 g)

module _ (log : List ℕ) (q : Question) where
  -- nothing happened
  pub shape_none : (a b : List Shape) (n : Node) → Makes a b (shape.Flag false) (Ok n) → TellsShape a b log q shape.NoEvents n
  shape_none a b n h = record {
    grows = h.grows;
    term = h.node;
    is = λ e v m.
        let no : (v n.index).truth ≡ false = ap (λ (w : Worth). w.truth) (h.value.is e v m) in
        (λ g. let wrong : false ≡ true = sym no ∙ g in absurd (cc), λ g. absurd g);
  }

  -- one event more
  one_more : (a b : List Shape) (events : ℕ) (x : Event) (before n : Node) (meant : Bool) → TellsAt a log q events before
      → OrMeant a b before meant n → (meant ≡ true) ↔ IsSought log q x → (e : Environment) (v : Values) → Models b e v
      → ((v n.index).truth ≡ true) ↔ OneOf (IsSought log q) ((v events).events ++ x ∷ [])
  one_more a b events x before n meant h k j e v m =
      event_more (IsSought log q) (v events).events x (v before.index).truth meant (v n.index).truth (k.is e v m) (h.is e v (weaken k.grows m)) j

  pub shape_branch : (a b : List Shape) (events printed at : ℕ) (side : Side) (before n : Node) (meant : Bool) → TellsAt a log q events before
      → OrMeant a b before meant n → (meant ≡ true) ↔ IsSought log q (record { what = happening.Branch at side; printed = printed })
      → TellsShape a b log q (shape.BranchEvent events printed at side) n
  shape_branch a b events printed at side before n meant h k j =
      record { grows = k.grows; term = k.term; is = λ e v m. one_more a b events _ before n meant h k j e v m }

  pub shape_call : (a b : List Shape) (events printed at : ℕ) (before n : Node) (meant : Bool) → TellsAt a log q events before
      → OrMeant a b before meant n → (meant ≡ true) ↔ IsSought log q (record { what = happening.Call at; printed = printed })
      → TellsShape a b log q (shape.CallEvent events printed at) n
  shape_call a b events printed at before n meant h k j =
      record { grows = k.grows; term = k.term; is = λ e v m. one_more a b events _ before n meant h k j e v m }

  pub shape_print : (a b : List Shape) (events printed at length seen : ℕ) (before n : Node) (meant : Bool) → TellsAt a log q events before
      → OrMeant a b before meant n
      → ((count : ℕ) (xs : List ℤ) → (meant ≡ true) ↔ IsSought log q (record { what = happening.Print at count xs; printed = printed }))
      → TellsShape a b log q (shape.PrintEvent events printed at length seen) n
  shape_print a b events printed at length seen before n meant h k j =
      record { grows = k.grows; term = k.term; is = λ e v m. one_more a b events _ before n meant h k (j length (v seen).numbers) e v m }

  pub shape_both : (a b : List Shape) (xs ys : ℕ) (one other n : Node) → TellsAt a log q xs one → TellsAt a log q ys other
      → Makes a b (shape.Connect connective.Or one.index other.index) (Ok n) → TellsShape a b log q (shape.EventsBehind xs ys) n
  shape_both a b xs ys one other n h k j = record {
    grows = j.grows;
    term = j.node;
    is = λ e v m.
        let ma = weaken j.grows m in
        events_both (IsSought log q) (v xs).events (v ys).events (v one.index).truth (v other.index).truth (v n.index).truth
        (ap (λ (w : Worth). w.truth) (j.value.is e v m)) (h.is e v ma) (k.is e v ma);
  }

  pub shape_chosen : (a b : List Shape) (s : Sort) (c xs ys : ℕ) (one other n : Node) → TellsAt a log q xs one → TellsAt a log q ys other
      → Makes a b (shape.Choose sort.Truth c one.index other.index) (Ok n) → TellsShape a b log q (shape.Choose s c xs ys) n
  shape_chosen a b s c xs ys one other n h k j = record {
    grows = j.grows;
    term = j.node;
    is = λ e v m.
        let ma = weaken j.grows m in
        events_chosen (IsSought log q) (v xs) (v ys) (v c).truth (v one.index).truth (v other.index).truth (v n.index).truth
        (truth_chosen (v c).truth (v one.index) (v other.index) (v n.index) (j.value.is e v m)) (h.is e v ma) (k.is e v ma);
  } where
    truth_chosen : (c : Bool) (x y z : Worth) → z ≡ cond c x y → z.truth ≡ cond c x.truth y.truth
    truth_chosen true x y z h = ap (λ (w : Worth). w.truth) h
    truth_chosen false x y z h = ap (λ (w : Worth). w.truth) h

  -- ---- what is told stays so as the bank grows

  tells_grown : (a b : List Shape) (n : ℕ) (node : Node) → Grows a b → TellsAt a log q n node → TellsAt b log q n node
  tells_grown a b n node g h = record { term = term_grown a b _ node g h.term; is = λ e v m. h.is e v (weaken g m) }

  pub all_grown : (a b : List Shape) (told : Images) → Grows a b → AllTell a log q told → AllTell b log q told
  all_grown a b told g h = record { tell = λ n node is. tells_grown a b n node g (h.tell n node is) }

  none_at : (told : Images) (n : ℕ) → told.entries ≡ [] → get nat_eq told n ≡ None
  none_at told n h = ap (λ es. lookup (nat_eq n) es) h

  pub all_none : (a : List Shape) (told : Images) → told.entries ≡ [] → TellsAll a a log q told
  all_none a told none = record {
    grows = stays;
    all = record { tell = λ n node is. let wrong : ◌≡◌ {A = Option Node} None (Some node) = sym (none_at told n none) ∙ is in absurd (cc) };
  }

  pub all_same : (a : List Shape) (told : Images) → AllTell a log q told → TellsAll a a log q told
  all_same a told h = record { grows = stays; all = h }

  same_number : (m n : ℕ) → nat_eq m n ≡ true → m ≡ n
  same_number m n h = grind arith

  -- with one node more
  pub all_more : (a b : List Shape) (before after : Images) (k : ℕ) (shape : Shape) (node : Node) → AllTell a log q before
      → slice_get a k ≡ Some shape → TellsShape a b log q shape node → Puts before after k node → TellsAll a b log q after
  all_more a b before after k shape node h at is put =
      record { grows = is.grows; all = record { tell = λ n other found. by n other (nat_eq k n) refl (sym (put n) ∙ found) } }
    where
      here : TellsAt b log q k node
      here = record {
        term = is.term;
        is = λ e v m.
            subst (λ (w : Worth). ((v node.index).truth ≡ true) ↔ OneOf (IsSought log q) w.events) (sym ((weaken is.grows m).has k shape at))
            (is.is e v m);
      }

      by : (n : ℕ) (other : Node) (c : Bool) → nat_eq k n ≡ c → cond (nat_eq k n) (Some node) (get nat_eq before n) ≡ Some other → TellsAt b log q n other
      by n other true e found =
          let same : node ≡ other = some_same (sym (ap (λ c. cond c (Some node) (get nat_eq before n)) e) ∙ found) in
          subst (λ x. TellsAt b log q n x) same (subst (λ x. TellsAt b log q x node) (same_number k n e) here)
        where
          some_same : {x y : Node} → Some x ≡ Some y → x ≡ y
          some_same h = cc
      by n other false e found =
          tells_grown a b n other is.grows (h.tell n other (sym (ap (λ c. cond c (Some node) (get nat_eq before n)) e) ∙ found))

  pub all_then : (a b c : List Shape) (before after : Images) → TellsAll a b log q before → TellsAll b c log q after → TellsAll a c log q after
  all_then a b c before after h k = record { grows = grows_on h.grows k.grows; all = k.all }

-- the condition of a choice stands in the bank
pub condition_of : (b : List Shape) (n : ℕ) (s : Sort) (c x y : ℕ) (chosen : Shape) → IsBank b → slice_get b n ≡ Some chosen
    → chosen ≡ shape.Choose s c x y → IsTerm b sort.Truth (record { index = c; sort = sort.Truth })
condition_of b n s c x y chosen bank at is =
    let well = bank.well n (shape.Choose s c x y) (at ∙ ap (λ t. Some t) is) in
    record { stands = well.each_part.0.stands.sorted; same = refl }

pub each_put : (P : Node → Type 0) (xs : List Node) (x : Node) → Each P xs → P x → Each P (xs ++ x ∷ [])
each_put P [] x h k = (k, tt)
each_put P (y ∷ ys) x h k = (h.0, each_put P ys x h.1 k)

pub or_always : (a b : List Shape) (before n : Node) (meant : Bool) → meant ≡ true → Makes a b (shape.Flag true) (Ok n) → OrMeant a b before meant n
or_always a b before n meant so h = record {
  grows = h.grows;
  term = h.node;
  is = λ e v m. ap (λ (w : Worth). w.truth) (h.value.is e v m) ∙ ap (λ c. cond c true (v before.index).truth) (sym so);
}

pub or_before : (a : List Shape) (before : Node) (meant : Bool) → meant ≡ false → IsTerm a sort.Truth before → OrMeant a a before meant before
or_before a before meant so is = record {
  grows = stays;
  term = is;
  is = λ e v m. ap (λ c. cond c true (v before.index).truth) (sym so);
}

-- ---- one state

pub flag_told : (a b : List Shape) (log : List ℕ) (q : Question) (s : State) (x : Bool) (n : Node) → Makes a b (shape.Flag x) (Ok n)
    → ((v : Values) → (x ≡ true) ↔ Meets log q (done_in v s)) → TellsState a b log q s n
flag_told a b log q s x n h meets = record {
  grows = h.grows;
  term = h.node;
  is = λ e v m. both (truth_as (v n.index).truth x (ap (λ (w : Worth). w.truth) (h.value.is e v m))) (meets v);
}

either_told : (A B C : Type 0) (x y p : Bool) → p ≡ cond x true y → (x ≡ true) ↔ A → (y ≡ true) ↔ B → C ↔ (A ⊎ B) → (p ≡ true) ↔ C
either_told A B C true y p is h k j = (λ g. j.1 (inl (h.0 refl)), λ g. is)
either_told A B C false true p is h k j = (λ g. j.1 (inr (k.0 refl)), λ g. is)
either_told A B C false false p is h k j = (
  λ g. let wrong : false ≡ true = sym is ∙ g in absurd (cc),
  λ g. elim (j.0 g) [
    | inl i ↦ let wrong : false ≡ true = h.1 i in absurd (cc)
    | inr i ↦ let wrong : false ≡ true = k.1 i in absurd (cc)
  ],
)

pub holds_told : (b c d : List Shape) (log : List ℕ) (f : Fact) (s : State) (seen ended n : Node) (x : Bool)
    → TellsAt b log (question.Holds f) s.events.index seen → Makes b c (shape.Flag x) (Ok ended)
    → Makes c d (shape.Connect connective.Or seen.index ended.index) (Ok n)
    → ((v : Values) → (x ≡ true) ↔ EndsSo f (shown log (done_in v s)).finish) → TellsState b d log (question.Holds f) s n
holds_told b c d log f s seen ended n x h k j so = record {
  grows = grows_on k.grows j.grows;
  term = j.node;
  is = λ e v m.
      let mc = weaken j.grows m in
      let run = shown log (done_in v s) in
      either_told (OneOf (IsMeant log f) run.events) (EndsSo f run.finish) (Holds log run f) (v seen.index).truth (v ended.index).truth
      (v n.index).truth (ap (λ (w : Worth). w.truth) (j.value.is e v m)) (h.is e v (weaken k.grows mc))
      (both (truth_as (v ended.index).truth x (ap (λ (w : Worth). w.truth) (k.value.is e v mc))) (so v)) (holds_by log run f);
}

-- ---- all states

state_told : (P : Held → Type 0) (xs : List Held) (h : Held) (n g y p : Bool) → p ≡ cond n true (cond g y false) → (n ≡ true) ↔ OneOf P xs
    → (y ≡ true) ↔ P h → (p ≡ true) ↔ OneOf P (xs ++ cond g (h ∷ []) [])
state_told P xs h true g y p is k j = (λ i. one_left P xs _ (k.0 refl), λ i. is)
state_told P xs h false true true p is k j = (λ i. one_right P xs _ (inl (j.0 refl)), λ i. is)
state_told P xs h false true false p is k j = (
  λ i. let wrong : false ≡ true = sym is ∙ i in absurd (cc),
  λ i. elim (one_parted P xs (h ∷ []) i) [
    | inl r ↦ let wrong : false ≡ true = k.1 r in absurd (cc)
    | inr (inl r) ↦ let wrong : false ≡ true = j.1 r in absurd (cc)
    | inr (inr r) ↦ absurd r
  ],
)
state_told P xs h false false y p is k j = (
  λ i. let wrong : false ≡ true = sym is ∙ i in absurd (cc),
  λ i. elim (one_parted P xs [] i) [
    | inl r ↦ let wrong : false ≡ true = k.1 r in absurd (cc)
    | inr r ↦ absurd r
  ],
)

pub states_none : (a b : List Shape) (log : List ℕ) (q : Question) (n : Node) → Makes a b (shape.Flag false) (Ok n) → TellsStates a b log q [] n
states_none a b log q n h = record {
  grows = h.grows;
  term = h.node;
  is = λ e v m.
      let no : (v n.index).truth ≡ false = ap (λ (w : Worth). w.truth) (h.value.is e v m) in
      (λ g. let wrong : false ≡ true = sym no ∙ g in absurd (cc), λ g. absurd g);
}

pub states_from : (a b c : List Shape) (log : List ℕ) (q : Question) (ss : List State) (n : Node) → Grows a b → TellsStates b c log q ss n
    → TellsStates a c log q ss n
states_from a b c log q ss n g h = record { grows = grows_on g h.grows; term = h.term; is = h.is }

pub states_more : (a b c d f : List Shape) (log : List ℕ) (q : Question) (ss : List State) (s : State) (n said here p : Node) → TellsStates a b log q ss n
    → TellsState b c log q s said → Makes c d (shape.Connect connective.And s.guard.index said.index) (Ok here)
    → Makes d f (shape.Connect connective.Or n.index here.index) (Ok p) → TellsStates a f log q (ss ++ s ∷ []) p
states_more a b c d f log q ss s n said here p h k j i = record {
  grows = grows_on h.grows (grows_on k.grows (grows_on j.grows i.grows));
  term = i.node;
  is = λ e v m.
      let md = weaken i.grows m in
      let mc = weaken j.grows md in
      let P : Held → Type 0 = λ x. Meets log q x.done in
      rw (standing_joined v ss (s ∷ []))
      (state_told P (standing v ss) (run_in v s) (v n.index).truth (v s.guard.index).truth (v said.index).truth (v p.index).truth
      (ap (λ (w : Worth). w.truth) (i.value.is e v m)
      ∙ ap (λ y. cond (v n.index).truth true y) (ap (λ (w : Worth). w.truth) (j.value.is e v md)))
      (h.is e v (weaken k.grows mc)) (k.is e v mc));
}

-- ---- the whole run

one_of_run : (log : List ℕ) (q : Question) (o : Option (Done ℕ)) → OneOf (λ (h : Held). Meets log q h.done) (to_list (bared o)) ↔ MeetsOn log q o
one_of_run log q None = (λ h. h, λ h. h)
one_of_run log q (Some d) = (
  λ h. elim h [
    | inl k ↦ k
    | inr k ↦ absurd k
  ],
  λ h. inl h,
)

-- an answer on the states of all runs is one on the run of each world
pub answers_run : (t : Tour) (a b c : List Shape) (q : Question) (ss : List State) (n : Node) → RunsAll t a b ss → IsAnswer c t.log q ss n
    → (e : Environment) (v : Values) → Models b e v → Models c e v → ((v n.index).truth ≡ true) ↔ MeetsOn t.log q (run_in_world t e)
answers_run t a b c q ss n h k e v old m =
    let said : ((v n.index).truth ≡ true) ↔ OneOf (λ (x : Held). Meets t.log q x.done) (to_list (bared (run_in_world t e))) =
    subst (λ hs. ((v n.index).truth ≡ true) ↔ OneOf (λ (x : Held). Meets t.log q x.done) hs) (h.stand e v old) (k.is e v m) in
    both said (one_of_run t.log q (run_in_world t e))

-- ---- answers, as the bank grows

pub answer_of : (a b : List Shape) (log : List ℕ) (q : Question) (ss : List State) (n : Node) → TellsStates a b log q ss n → IsAnswer b log q ss n
answer_of a b log q ss n h = record { term = h.term; is = h.is }

pub answer_grown : (b c : List Shape) (log : List ℕ) (q : Question) (ss : List State) (n : Node) → Grows b c → IsAnswer b log q ss n → IsAnswer c log q ss n
answer_grown b c log q ss n g h = record { term = term_grown b c _ n g h.term; is = λ e v m. h.is e v (weaken g m) }

answers_grown : (b c : List Shape) (log : List ℕ) (ss : List State) (fs : List Fact) (ns : List Node) → Grows b c → AnswerAll b log ss fs ns
    → AnswerAll c log ss fs ns
answers_grown b c log ss [] [] g h = tt
answers_grown b c log ss [] (n ∷ ns) g h = h
answers_grown b c log ss (f ∷ fs) [] g h = h
answers_grown b c log ss (f ∷ fs) (n ∷ ns) g h =
    (answer_grown b c log (question.Holds f) ss n g h.0, answers_grown b c log ss fs ns g h.1)

answers_put : (b : List Shape) (log : List ℕ) (ss : List State) (fs : List Fact) (f : Fact) (ns : List Node) (n : Node) → AnswerAll b log ss fs ns
    → IsAnswer b log (question.Holds f) ss n → AnswerAll b log ss (fs ++ f ∷ []) (ns ++ n ∷ [])
answers_put b log ss [] f [] n h k = (k, tt)
answers_put b log ss [] f (m ∷ ns) n h k = absurd h
answers_put b log ss (g ∷ fs) f [] n h k = absurd h
answers_put b log ss (g ∷ fs) f (m ∷ ns) n h k = (h.0, answers_put b log ss fs f ns n h.1 k)

pub asks_none : (a : List Shape) (log : List ℕ) (ss : List State) → AsksAll a a log ss [] []
asks_none a log ss = record { grows = stays; answers = tt }

pub asks_more : (a b c : List Shape) (log : List ℕ) (ss : List State) (fs : List Fact) (f : Fact) (ns : List Node) (n : Node) → AsksAll a b log ss fs ns
    → TellsStates b c log (question.Holds f) ss n → AsksAll a c log ss (fs ++ f ∷ []) (ns ++ n ∷ [])
asks_more a b c log ss fs f ns n h k = record {
  grows = grows_on h.grows k.grows;
  answers = answers_put c log ss fs f ns n (answers_grown b c log ss fs ns k.grows h.answers) (answer_of b c log (question.Holds f) ss n k);
}
