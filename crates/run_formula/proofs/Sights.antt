-- Lists of numbers with the truths that they are shown: of nodes of events, of states, and of the run of each world.
use Rattle.std.proofs.Common.{◌≡◌, ◌↔◌, ◌⊎◌, inl, inr, ◌<◌, ◌≤◌, ◌+◌, ℕ, zero, suc, ℤ, List, [], ◌∷◌, ◌++◌, length, take, get_or, Bool, true, false, cond}
use Rattle.std.proofs.Common.{nat_eq, Option, Some, None, refl, sym, ap, subst, ◌∙◌, arith}
use Rattle.std.specs.Prelude.{Ok, slice_get, slice_set}
use Rattle.std.specs.HashMap.{get}
use Rattle.std.specs.Map.{lookup}
use Rattle.plain_data.specs.declared.run.Event.{Event}
use Rattle.plain_data.specs.declared.run.Happening.{Happening}
use Rattle.plain_data.specs.declared.run.Happening.TheVariants as happening
use Rattle.plain_data.specs.declared.run.Side.{Side}
use Rattle.log_text.specs.Lines.{line_of}
use Rattle.log_text.specs.Shown.{IsPrint, Saw}
use Rattle.core_tree.specs.States.{Done}
use Rattle.term_bank.specs.declared.sort.Node.{Node}
use Rattle.term_bank.specs.declared.sort.Sort.{Sort}
use Rattle.term_bank.specs.declared.sort.Sort.TheVariants as sort
use Rattle.term_bank.specs.declared.shape.Connective.TheVariants as connective
use Rattle.term_bank.specs.declared.shape.Shape.{Shape}
use Rattle.term_bank.specs.declared.shape.Shape.TheVariants as shape
use Rattle.term_bank.specs.Terms.{IsTerm, Makes}
use Rattle.term_bank.specs.Values.{Environment, Values, Models, Grows, Worth}
use Rattle.term_bank.proofs.BankLemmas.{weaken, stays, grows_on}
use Rattle.term_bank.proofs.TermLemmas.{term_grown}
use Rattle.path_states.specs.declared.state.State.{State}
use Rattle.path_states.specs.States.{Held, run_in, standing}
use Rattle.path_states.specs.Ways.{to_list}
use Rattle.path_states.proofs.Growth.{standing_joined}
use Rattle.path_arrows.specs.Arrows.{bared}
use Rattle.run_formula.specs.declared.joining.Joining.{Joining}
use Rattle.run_formula.specs.declared.joining.Joining.TheVariants.{Either, Chosen, Guarded}
use Rattle.run_formula.specs.declared.observing.Observation.{Observation}
use Rattle.run_formula.specs.declared.seen.Seen.{Seen}
use Rattle.run_formula.specs.declared.watches.Watch.{Watch}
use Rattle.run_formula.specs.Questions.{OneOf}
use Rattle.run_formula.specs.Watched.{IsAt, OfPrint, SaysSo, SeesOther, Shows}
use Rattle.run_formula.specs.Sighted.{AllSighted, AreFalse, AreObserved, AreSighted, AreTruths, IsJoining, Joins, JoinsAll, JoinsBoth, JoinsState, LacksAt, Nevers}
use Rattle.run_formula.specs.Sighted.{OneWhere, OrOther, PutsTruths, ShownIn, ShowsAll, ShowsOther, SightsAll, SightsPrint, SightsShape, StatesSighted, Truths}
use Rattle.run_formula.specs.Sighted.{joined, lists_in, observed_in, pairwise, truths}
use Rattle.run_formula.specs.Formula.{IsObserved}
use Rattle.run_formula.proofs.Asked.{both, back, each_put, one_left, one_right, one_parted}

-- ---- lists

put_length : {A : Type 0} (xs : List A) (x : A) → length (xs ++ x ∷ []) ≡ suc (length xs)
put_length [] x = refl
put_length (y ∷ xs) x = ap suc (put_length xs x)

take_length : {A : Type 0} (xs : List A) (i : ℕ) → i ≤ length xs → length (take i xs) ≡ i
take_length xs zero h = refl
take_length [] (suc i) h = absurd (omega (arith, h))
take_length (x ∷ xs) (suc i) h = ap suc (take_length xs i (omega (arith, h)))

pub takes_alike : {A B : Type 0} (xs : List A) (ys : List B) (i : ℕ) → i < length xs → length ys ≡ length xs → length (take i xs) ≡ length (take i ys)
takes_alike xs ys i h same = take_length xs i (omega (arith, h)) ∙ sym (take_length ys i (omega (arith, h, same)))

truths_put : (v : Values) (ns : List Node) (n : Node) → truths v (ns ++ n ∷ []) ≡ truths v ns ++ (v n.index).truth ∷ []
truths_put v [] n = refl
truths_put v (m ∷ ns) n = ap (λ bs. (v m.index).truth ∷ bs) (truths_put v ns n)

lists_put : (v : Values) (ks : List ℕ) (k : ℕ) → lists_in v (ks ++ k ∷ []) ≡ lists_in v ks ++ (v k).numbers ∷ []
lists_put v [] k = refl
lists_put v (j ∷ ks) k = ap (λ ls. (v j).numbers ∷ ls) (lists_put v ks k)

truths_length : (v : Values) (ns : List Node) → length (truths v ns) ≡ length ns
truths_length v [] = refl
truths_length v (n ∷ ns) = ap suc (truths_length v ns)

lists_length : (v : Values) (ks : List ℕ) → length (lists_in v ks) ≡ length ks
lists_length v [] = refl
lists_length v (k ∷ ks) = ap suc (lists_length v ks)

pairwise_put : (f : Bool → Bool → Bool) (xs ys : List Bool) (x y : Bool) → length xs ≡ length ys
    → pairwise f (xs ++ x ∷ []) (ys ++ y ∷ []) ≡ pairwise f xs ys ++ f x y ∷ []
pairwise_put f [] [] x y h = refl
pairwise_put f [] (q ∷ ys) x y h = absurd (omega (arith, h))
pairwise_put f (p ∷ xs) [] x y h = absurd (omega (arith, h))
pairwise_put f (p ∷ xs) (q ∷ ys) x y h = ap (λ bs. f p q ∷ bs) (pairwise_put f xs ys x y (omega (arith, h)))

pub terms_grown : (a b : List Shape) (ns : List Node) → Grows a b → AreTruths a ns → AreTruths b ns
terms_grown a b [] g h = tt
terms_grown a b (n ∷ ns) g h = (term_grown a b _ n g h.0, terms_grown a b ns g h.1)

pub term_at : (b : List Shape) (ns : List Node) (i : ℕ) (d : Node) → i < length ns → AreTruths b ns → IsTerm b sort.Truth (get_or ns i d)
term_at b [] i d less h = absurd (omega (arith, less))
term_at b (m ∷ ns) zero d less h = h.0
term_at b (m ∷ ns) (suc i) d less h = term_at b ns i d (omega (arith, less)) h.1

-- ---- two truths made one

pub joins_either : (a b : List Shape) (x y n : Node) → Makes a b (shape.Connect connective.Or x.index y.index) (Ok n) → Joins a b Either x y n
joins_either a b x y n h = record { grows = h.grows; term = h.node; is = λ e v m. ap (λ (w : Worth). w.truth) (h.value.is e v m) }

truth_chosen : (c : Bool) (x y z : Worth) → z ≡ cond c x y → z.truth ≡ cond c x.truth y.truth
truth_chosen true x y z h = ap (λ (w : Worth). w.truth) h
truth_chosen false x y z h = ap (λ (w : Worth). w.truth) h

pub joins_chosen : (a b : List Shape) (c x y n : Node) → Makes a b (shape.Choose sort.Truth c.index x.index y.index) (Ok n) → Joins a b (Chosen c) x y n
joins_chosen a b c x y n h =
    record { grows = h.grows; term = h.node; is = λ e v m. truth_chosen (v c.index).truth (v x.index) (v y.index) (v n.index) (h.value.is e v m) }

pub joins_guarded : (a b c : List Shape) (g x y under n : Node) → Makes a b (shape.Connect connective.And g.index y.index) (Ok under)
    → Makes b c (shape.Connect connective.Or x.index under.index) (Ok n) → Joins a c (Guarded g) x y n
joins_guarded a b c g x y under n h k = record {
  grows = grows_on h.grows k.grows;
  term = k.node;
  is = λ e v m. ap (λ (w : Worth). w.truth) (k.value.is e v m)
      ∙ ap (λ t. cond (v x.index).truth true t) (ap (λ (w : Worth). w.truth) (h.value.is e v (weaken k.grows m)));
}

pub how_grown : (a b : List Shape) (how : Joining) → Grows a b → IsJoining a how → IsJoining b how
how_grown a b Either g h = tt
how_grown a b (Chosen c) g h = term_grown a b _ c g h
how_grown a b (Guarded c) g h = term_grown a b _ c g h

pub joins_none : (a : List Shape) (how : Joining) → JoinsAll a a how [] [] []
joins_none a how = record { grows = stays; len = refl; terms = tt; are = λ e v m. refl }

pub joins_more : (a b c : List Shape) (how : Joining) (xs ys : List Node) (x y n : Node) (ns : List Node) → length xs ≡ length ys
    → JoinsAll a b how xs ys ns → Joins b c how x y n → JoinsAll a c how (xs ++ x ∷ []) (ys ++ y ∷ []) (ns ++ n ∷ [])
joins_more a b c how xs ys x y n ns same h k = record {
  grows = grows_on h.grows k.grows;
  len = put_length ns n ∙ ap suc h.len ∙ sym (put_length xs x);
  terms = each_put (IsTerm c sort.Truth) ns n (terms_grown b c ns k.grows h.terms) k.term;
  are = λ e v m.
      let f = joined how v in
      truths_put v ns n ∙ (λ i. h.are e v (weaken k.grows m) i ++ k.is e v m i ∷ [])
      ∙ sym (pairwise_put f (truths v xs) (truths v ys) (v x.index).truth (v y.index).truth (truths_length v xs ∙ same ∙ sym (truths_length v ys)))
      ∙ (λ i. pairwise f (sym (truths_put v xs x) i) (sym (truths_put v ys y) i));
}

-- ---- truths of which none holds

false_put : (bs : List Bool) (b : Bool) → AreFalse bs → b ≡ false → AreFalse (bs ++ b ∷ [])
false_put [] b h k = (k, tt)
false_put (c ∷ bs) b h k = (h.0, false_put bs b h.1 k)

pub nevers_none : (a b : List Shape) → Grows a b → Nevers a b 0 []
nevers_none a b g = record { grows = g; len = refl; terms = tt; are = λ e v m. tt }

pub nevers_more : (a b : List Shape) (i : ℕ) (ns more : List Node) (n : Node) → Makes a b (shape.Flag false) (Ok n) → Nevers a b i ns → more ≡ ns ++ n ∷ []
    → Nevers a b (i + 1) more
nevers_more a b i ns more n made h is = record {
  grows = h.grows;
  len = ap length is ∙ put_length ns n ∙ (let k = h.len in omega (arith, k));
  terms = subst (AreTruths b) (sym is) (each_put (IsTerm b sort.Truth) ns n h.terms made.node);
  are = λ e v m.
      subst (λ ms. AreFalse (truths v ms)) (sym is)
      (subst AreFalse (sym (truths_put v ns n))
      (false_put (truths v ns) (v n.index).truth (h.are e v m) (ap (λ (w : Worth). w.truth) (made.value.is e v m))));
}

-- ---- one whose truth holds

module _ (P : List ℤ → Type 0) where
  pub no_where : (bs : List Bool) (ls : List (List ℤ)) → AreFalse bs → OneWhere P bs ls → ⊥
  no_where [] ls f h = h
  no_where (b ∷ bs) [] f h = h
  no_where (b ∷ bs) (l ∷ ls) f (inl h) = let wrong : false ≡ true = sym f.0 ∙ h.0 in absurd (cc)
  no_where (b ∷ bs) (l ∷ ls) f (inr h) = no_where bs ls f.1 h

  -- one pair of both lists, or a later one
  either_here : (b c : Bool) (A R S T : Type 0) → T ↔ (R ⊎ S) → (((cond b true c ≡ true) × A) ⊎ T) ↔ ((((b ≡ true) × A) ⊎ R) ⊎ (((c ≡ true) × A) ⊎ S))
  either_here true c A R S T h = (
    λ k. elim k [
      | inl x ↦ inl (inl (refl, x.1))
      | inr x ↦ elim (h.0 x) [
        | inl y ↦ inl (inr y)
        | inr y ↦ inr (inr y)
      ]
    ],
    λ k. elim k [
      | inl (inl x) ↦ inl (refl, x.1)
      | inl (inr x) ↦ inr (h.1 (inl x))
      | inr (inl x) ↦ inl (refl, x.1)
      | inr (inr x) ↦ inr (h.1 (inr x))
    ],
  )
  either_here false c A R S T h = (
    λ k. elim k [
      | inl x ↦ inr (inl x)
      | inr x ↦ elim (h.0 x) [
        | inl y ↦ inl (inr y)
        | inr y ↦ inr (inr y)
      ]
    ],
    λ k. elim k [
      | inl (inl x) ↦ let wrong : false ≡ true = x.0 in absurd (cc)
      | inl (inr x) ↦ inr (h.1 (inl x))
      | inr (inl x) ↦ inl x
      | inr (inr x) ↦ inr (h.1 (inr x))
    ],
  )

  nothing_twice : ⊥ ↔ (⊥ ⊎ ⊥)
  nothing_twice = (
    λ h. absurd h,
    λ h. elim h [
      | inl x ↦ x
      | inr x ↦ x
    ],
  )

  pub where_either : (bs cs : List Bool) (ls : List (List ℤ)) → length bs ≡ length cs
      → OneWhere P (pairwise (λ x y. cond x true y) bs cs) ls ↔ (OneWhere P bs ls ⊎ OneWhere P cs ls)
  where_either [] [] ls same = nothing_twice
  where_either [] (c ∷ cs) ls same = absurd (omega (arith, same))
  where_either (b ∷ bs) [] ls same = absurd (omega (arith, same))
  where_either (b ∷ bs) (c ∷ cs) [] same = nothing_twice
  where_either (b ∷ bs) (c ∷ cs) (l ∷ ls) same =
      either_here b c (P l) (OneWhere P bs ls) (OneWhere P cs ls) (OneWhere P (pairwise (λ x y. cond x true y) bs cs) ls)
      (where_either bs cs ls (omega (arith, same)))

  -- one more
  pub where_put : (bs : List Bool) (b : Bool) (ls : List (List ℤ)) (l : List ℤ) → length bs ≡ length ls
      → OneWhere P (bs ++ b ∷ []) (ls ++ l ∷ []) ↔ (OneWhere P bs ls ⊎ ((b ≡ true) × P l))
  where_put [] b [] l same = (
    λ h. elim h [
      | inl x ↦ inr x
      | inr x ↦ inl x
    ],
    λ h. elim h [
      | inl x ↦ inr x
      | inr x ↦ inl x
    ],
  )
  where_put [] b (m ∷ ls) l same = absurd (omega (arith, same))
  where_put (c ∷ bs) b [] l same = absurd (omega (arith, same))
  where_put (c ∷ bs) b (m ∷ ls) l same =
      let rest = where_put bs b ls l (omega (arith, same)) in (
        λ h. elim h [
          | inl x ↦ inl (inl x)
          | inr x ↦ elim (rest.0 x) [
            | inl y ↦ inl (inr y)
            | inr y ↦ inr y
          ]
        ],
        λ h. elim h [
          | inl (inl x) ↦ inl x
          | inl (inr x) ↦ inr (rest.1 (inl x))
          | inr x ↦ inr (rest.1 (inr x))
        ],
      )

  -- a truth that now holds
  pub where_set : (bs : List Bool) (ls : List (List ℤ)) (i : ℕ) (l : List ℤ) → length bs ≡ length ls → slice_get ls i ≡ Some l
      → OneWhere P (slice_set bs i true) ls ↔ (OneWhere P bs ls ⊎ P l)
  where_set [] [] i l same at = absurd (cc)
  where_set [] (m ∷ ls) i l same at = absurd (omega (arith, same))
  where_set (b ∷ bs) [] i l same at = absurd (cc)
  where_set (b ∷ bs) (m ∷ ls) zero l same at =
      let here : m ≡ l = cc in (
        λ h. elim h [
          | inl x ↦ inr (subst P here x.1)
          | inr x ↦ inl (inr x)
        ],
        λ h. elim h [
          | inl (inl x) ↦ inl (refl, x.1)
          | inl (inr x) ↦ inr x
          | inr x ↦ inl (refl, subst P (sym here) x)
        ],
      )
  where_set (b ∷ bs) (m ∷ ls) (suc i) l same at =
      let rest = where_set bs ls i l (omega (arith, same)) at in (
        λ h. elim h [
          | inl x ↦ inl (inl x)
          | inr x ↦ elim (rest.0 x) [
            | inl y ↦ inl (inr y)
            | inr y ↦ inr y
          ]
        ],
        λ h. elim h [
          | inl (inl x) ↦ inl x
          | inl (inr x) ↦ inr (rest.1 (inl x))
          | inr x ↦ inr (rest.1 (inr x))
        ],
      )

chosen_pairs : (k : Bool) (bs cs : List Bool) → length bs ≡ length cs → pairwise (λ x y. cond k x y) bs cs ≡ cond k bs cs
chosen_pairs true [] [] same = refl
chosen_pairs false [] [] same = refl
chosen_pairs k [] (c ∷ cs) same = absurd (omega (arith, same))
chosen_pairs k (b ∷ bs) [] same = absurd (omega (arith, same))
chosen_pairs true (b ∷ bs) (c ∷ cs) same = ap (λ xs. b ∷ xs) (chosen_pairs true bs cs (omega (arith, same)))
chosen_pairs false (b ∷ bs) (c ∷ cs) same = ap (λ xs. c ∷ xs) (chosen_pairs false bs cs (omega (arith, same)))

unguarded : (b : Bool) → cond b true false ≡ b
unguarded true = refl
unguarded false = refl

unguarded_pairs : (bs cs : List Bool) → length bs ≡ length cs → pairwise (λ x y. cond x true false) bs cs ≡ bs
unguarded_pairs [] [] same = refl
unguarded_pairs [] (c ∷ cs) same = absurd (omega (arith, same))
unguarded_pairs (b ∷ bs) [] same = absurd (omega (arith, same))
unguarded_pairs (b ∷ bs) (c ∷ cs) same = λ i. unguarded b i ∷ unguarded_pairs bs cs (omega (arith, same)) i

where_guarded : (P : List ℤ → Type 0) (g : Bool) (bs cs : List Bool) (ls : List (List ℤ)) → length bs ≡ length cs
    → OneWhere P (pairwise (λ x y. cond x true (cond g y false)) bs cs) ls ↔ (OneWhere P bs ls ⊎ ((g ≡ true) × OneWhere P cs ls))
where_guarded P true bs cs ls same =
    let h = where_either P bs cs ls same in (
      λ k. elim (h.0 k) [
        | inl x ↦ inl x
        | inr x ↦ inr (refl, x)
      ],
      λ k. elim k [
        | inl x ↦ h.1 (inl x)
        | inr x ↦ h.1 (inr x.1)
      ],
    )
where_guarded P false bs cs ls same =
    let h = unguarded_pairs bs cs same in (
      λ k. inl (subst (λ xs. OneWhere P xs ls) h k),
      λ k. elim k [
        | inl x ↦ subst (λ xs. OneWhere P xs ls) (sym h) x
        | inr x ↦ let wrong : false ≡ true = x.0 in absurd (cc)
      ],
    )

-- ---- shapes of events

one_behind : (P : Event → Type 0) (xs : List Event) (x : Event) → OneOf P (xs ++ x ∷ []) ↔ (OneOf P xs ⊎ P x)
one_behind P xs x = (
  λ h. elim (one_parted P xs (x ∷ []) h) [
    | inl y ↦ inl y
    | inr (inl y) ↦ inr y
    | inr (inr y) ↦ absurd y
  ],
  λ h. elim h [
    | inl y ↦ one_left P xs (x ∷ []) y
    | inr y ↦ one_right P xs (x ∷ []) (inl y)
  ],
)

-- one event more, that isn't so
other_behind : (P : Event → Type 0) (xs : List Event) (x : Event) → (P x → ⊥) → OneOf P (xs ++ x ∷ []) ↔ OneOf P xs
other_behind P xs x never =
    let h = one_behind P xs x in (
      λ k. elim (h.0 k) [
        | inl y ↦ y
        | inr y ↦ absurd (never y)
      ],
      λ k. h.1 (inl k),
    )

both_parts : (P : Event → Type 0) (xs ys : List Event) → OneOf P (xs ++ ys) ↔ (OneOf P xs ⊎ OneOf P ys)
both_parts P xs ys = (
  λ h. one_parted P xs ys h,
  λ h. elim h [
    | inl y ↦ one_left P xs ys y
    | inr y ↦ one_right P xs ys y
  ],
)

either_of : {A B C D : Type 0} → A ↔ C → B ↔ D → (A ⊎ B) ↔ (C ⊎ D)
either_of f g = (
  λ h. elim h [
    | inl x ↦ inl (f.0 x)
    | inr x ↦ inr (g.0 x)
  ],
  λ h. elim h [
    | inl x ↦ inl (f.1 x)
    | inr x ↦ inr (g.1 x)
  ],
)

module _ (log : List ℕ) (w : Watch) (ks : List ℕ) where
  pub shape_none : (a b : List Shape) (ns : List Node) → Nevers a b (length ks) ns → SightsShape a b log w ks shape.NoEvents ns
  shape_none a b ns h = record {
    grows = h.grows;
    len = h.len;
    terms = h.terms;
    are = λ e v m zs. (λ k. absurd k, λ k. absurd (no_where (λ l. l ≡ zs) (truths v ns) (lists_in v ks) (h.are e v m) k));
  }

  pub shape_branch : (b : List Shape) (events printed at : ℕ) (side : Side) (ns : List Node) → AreSighted b log w ks events ns
      → SightsShape b b log w ks (shape.BranchEvent events printed at side) ns
  shape_branch b events printed at side ns h = record {
    grows = stays;
    len = h.len;
    terms = h.terms;
    are = λ e v m zs. both (other_behind (ShowsAll log w zs) (v events).events (record { what = happening.Branch at side; printed = printed }) (λ k. k.0)) (h.are e v m zs);
  }

  pub shape_call : (b : List Shape) (events printed at : ℕ) (ns : List Node) → AreSighted b log w ks events ns
      → SightsShape b b log w ks (shape.CallEvent events printed at) ns
  shape_call b events printed at ns h = record {
    grows = stays;
    len = h.len;
    terms = h.terms;
    are = λ e v m zs. both (other_behind (ShowsAll log w zs) (v events).events (record { what = happening.Call at; printed = printed }) (λ k. k.0)) (h.are e v m zs);
  }

  pub shape_print : (a b : List Shape) (events printed at length seen : ℕ) (before ns : List Node) → AreSighted a log w ks events before
      → SightsPrint a b log w ks before printed at seen ns → SightsShape a b log w ks (shape.PrintEvent events printed at length seen) ns
  shape_print a b events printed at length seen before ns h k = record {
    grows = k.grows;
    len = k.len;
    terms = k.terms;
    are = λ e v m zs.
        both (one_behind (ShowsAll log w zs) (v events).events (record { what = happening.Print at length (v seen).numbers; printed = printed }))
        (both (either_of (h.are e v (weaken k.grows m) zs) (λ x. x, λ x. x)) (back (k.are length e v m zs)));
  }

  pub shape_both : (a b : List Shape) (told : Truths) (x y : ℕ) (ns : List Node) → AllSighted a log w ks told → JoinsBoth a b Either told x y ns
      → SightsShape a b log w ks (shape.EventsBehind x y) ns
  shape_both a b told x y ns all j =
      let one = all.tell x j.ones j.first in
      let other = all.tell y j.others j.second in
      record {
        grows = j.joins.grows;
        len = j.joins.len ∙ one.len;
        terms = j.joins.terms;
        are = λ e v m zs.
            let ma = weaken j.joins.grows m in
            let P : List ℤ → Type 0 = λ l. l ≡ zs in
            both (both_parts (ShowsAll log w zs) (v x).events (v y).events)
            (both (either_of (one.are e v ma zs) (other.are e v ma zs))
            (both (back (where_either P (truths v j.ones) (truths v j.others) (lists_in v ks)
            (truths_length v j.ones ∙ one.len ∙ sym other.len ∙ sym (truths_length v j.others))))
            (subst (λ bs. OneWhere P bs (lists_in v ks) ↔ OneWhere P (truths v ns) (lists_in v ks)) (j.joins.are e v m) (λ h. h, λ h. h))));
      }

  pub shape_chosen : (a b : List Shape) (told : Truths) (s : Sort) (c x y : ℕ) (ns : List Node) → AllSighted a log w ks told
      → JoinsBoth a b (Chosen (record { index = c; sort = sort.Truth })) told x y ns → SightsShape a b log w ks (shape.Choose s c x y) ns
  shape_chosen a b told s c x y ns all j =
      let one = all.tell x j.ones j.first in
      let other = all.tell y j.others j.second in
      record {
        grows = j.joins.grows;
        len = j.joins.len ∙ one.len;
        terms = j.joins.terms;
        are = λ e v m zs.
            let ma = weaken j.joins.grows m in
            by zs (v c).truth (v x) (v y) (truths v j.ones) (truths v j.others) (truths v ns) (lists_in v ks)
            (j.joins.are e v m
            ∙ chosen_pairs (v c).truth (truths v j.ones) (truths v j.others)
            (truths_length v j.ones ∙ one.len ∙ sym other.len ∙ sym (truths_length v j.others)))
            (one.are e v ma zs) (other.are e v ma zs);
      }
    where
      by : (zs : List ℤ) (k : Bool) (p q : Worth) (bs cs ds : List Bool) (ls : List (List ℤ)) → ds ≡ cond k bs cs
          → OneOf (ShowsAll log w zs) p.events ↔ OneWhere (λ l. l ≡ zs) bs ls → OneOf (ShowsAll log w zs) q.events ↔ OneWhere (λ l. l ≡ zs) cs ls
          → OneOf (ShowsAll log w zs) (cond {A = Worth} k p q).events ↔ OneWhere (λ l. l ≡ zs) ds ls
      by zs true p q bs cs ds ls is f g = subst (λ xs. OneOf (ShowsAll log w zs) p.events ↔ OneWhere (λ l. l ≡ zs) xs ls) (sym is) f
      by zs false p q bs cs ds ls is f g = subst (λ xs. OneOf (ShowsAll log w zs) q.events ↔ OneWhere (λ l. l ≡ zs) xs ls) (sym is) g

  -- ---- as the bank grows

  sighted_grown : (a b : List Shape) (n : ℕ) (ns : List Node) → Grows a b → AreSighted a log w ks n ns → AreSighted b log w ks n ns
  sighted_grown a b n ns g h =
      record { len = h.len; terms = terms_grown a b ns g h.terms; are = λ e v m. h.are e v (weaken g m) }

  pub all_grown : (a b : List Shape) (told : Truths) → Grows a b → AllSighted a log w ks told → AllSighted b log w ks told
  all_grown a b told g h = record { tell = λ n ns is. sighted_grown a b n ns g (h.tell n ns is) }

  none_at : (told : Truths) (n : ℕ) → told.entries ≡ [] → get nat_eq told n ≡ None
  none_at told n h = ap (λ es. lookup (nat_eq n) es) h

  pub all_none : (a : List Shape) (told : Truths) → told.entries ≡ [] → SightsAll a a log w ks told
  all_none a told none = record {
    grows = stays;
    all = record { tell = λ n ns is. let wrong : ◌≡◌ {A = Option (List Node)} None (Some ns) = sym (none_at told n none) ∙ is in absurd (cc) };
  }

  same_number : (m n : ℕ) → nat_eq m n ≡ true → m ≡ n
  same_number m n h = grind arith

  pub all_more : (a b : List Shape) (before after : Truths) (k : ℕ) (shape : Shape) (ns : List Node) → AllSighted a log w ks before
      → slice_get a k ≡ Some shape → SightsShape a b log w ks shape ns → PutsTruths before after k ns → SightsAll a b log w ks after
  all_more a b before after k shape ns h at is put =
      record { grows = is.grows; all = record { tell = λ n other found. by n other (nat_eq k n) refl (sym (put n) ∙ found) } }
    where
      here : AreSighted b log w ks k ns
      here = record {
        len = is.len;
        terms = is.terms;
        are = λ e v m zs.
            subst (λ (x : Worth). OneOf (ShowsAll log w zs) x.events ↔ OneWhere (λ l. l ≡ zs) (truths v ns) (lists_in v ks))
            (sym ((weaken is.grows m).has k shape at)) (is.are e v m zs);
      }

      by : (n : ℕ) (other : List Node) (c : Bool) → nat_eq k n ≡ c → cond (nat_eq k n) (Some ns) (get nat_eq before n) ≡ Some other
          → AreSighted b log w ks n other
      by n other true e found =
          let same : ns ≡ other = some_same (sym (ap (λ c. cond c (Some ns) (get nat_eq before n)) e) ∙ found) in
          subst (λ x. AreSighted b log w ks n x) same (subst (λ x. AreSighted b log w ks x ns) (same_number k n e) here)
        where
          some_same : {x y : List Node} → Some x ≡ Some y → x ≡ y
          some_same h = cc
      by n other false e found =
          sighted_grown a b n other is.grows (h.tell n other (sym (ap (λ c. cond c (Some ns) (get nat_eq before n)) e) ∙ found))

  pub all_then : (a b c : List Shape) (before after : Truths) → SightsAll a b log w ks before → SightsAll b c log w ks after → SightsAll a c log w ks after
  all_then a b c before after h k = record { grows = grows_on h.grows k.grows; all = k.all }

  -- ---- a print

  pub print_unwatched : (a : List Shape) (before : List Node) (printed at seen : ℕ) → length before ≡ length ks → AreTruths a before
      → ((at ≡ w.at) × (line_of log printed ≡ w.line) → ⊥) → SightsPrint a a log w ks before printed at seen before
  print_unwatched a before printed at seen len terms none = record {
    grows = stays;
    len = len;
    terms = terms;
    are = λ length e v m zs. (
      λ h. inl h,
      λ h. elim h [
        | inl x ↦ x
        | inr x ↦ absurd (none (x.0, x.1.0))
      ],
    );
  }

  pub print_watched : (a b : List Shape) (before ns : List Node) (i printed at seen : ℕ) (n : Node) → length before ≡ length ks → AreTruths a before
      → (at ≡ w.at) × (line_of log printed ≡ w.line) → slice_get ks i ≡ Some seen → Makes a b (shape.Flag true) (Ok n) → ns ≡ slice_set before i n
      → SightsPrint a b log w ks before printed at seen ns
  print_watched a b before ns i printed at seen n len terms here found made is = record {
    grows = made.grows;
    len = ap length is ∙ set_length before i n ∙ len;
    terms = subst (AreTruths b) (sym is) (set_terms b before i n (terms_grown a b before made.grows terms) made.node);
    are = λ length e v m zs.
        let P : List ℤ → Type 0 = λ l. l ≡ zs in
        let on : (v n.index).truth ≡ true = ap (λ (x : Worth). x.truth) (made.value.is e v m) in
        let bits : truths v ns ≡ slice_set (truths v before) i true = ap (truths v) is ∙ set_truths v before i n ∙ ap (slice_set (truths v before) i) on in
        both (subst (λ bs. OneWhere P (truths v ns) (lists_in v ks) ↔ OneWhere P bs (lists_in v ks)) bits (λ h. h, λ h. h))
        (both (where_set P (truths v before) (lists_in v ks) i (v seen).numbers
        (truths_length v before ∙ len ∙ sym (lists_length v ks)) (list_at v ks i seen found))
        (either_of (λ h. h, λ h. h) (λ h. (here.0, (here.1, h)), λ h. h.1.1)));
  } where
    set_length : {A : Type 0} (xs : List A) (i : ℕ) (x : A) → length (slice_set xs i x) ≡ length xs
    set_length [] i x = refl
    set_length (y ∷ xs) zero x = refl
    set_length (y ∷ xs) (suc i) x = ap suc (set_length xs i x)

    set_terms : (b : List Shape) (xs : List Node) (i : ℕ) (x : Node) → AreTruths b xs → IsTerm b sort.Truth x → AreTruths b (slice_set xs i x)
    set_terms b [] i x h k = h
    set_terms b (y ∷ xs) zero x h k = (k, h.1)
    set_terms b (y ∷ xs) (suc i) x h k = (h.0, set_terms b xs i x h.1 k)

    set_truths : (v : Values) (xs : List Node) (i : ℕ) (x : Node) → truths v (slice_set xs i x) ≡ slice_set (truths v xs) i (v x.index).truth
    set_truths v [] i x = refl
    set_truths v (y ∷ xs) zero x = refl
    set_truths v (y ∷ xs) (suc i) x = ap (λ bs. (v y.index).truth ∷ bs) (set_truths v xs i x)

    list_at : (v : Values) (js : List ℕ) (i k : ℕ) → slice_get js i ≡ Some k → slice_get (lists_in v js) i ≡ Some (v k).numbers
    list_at v [] i k h = absurd (cc)
    list_at v (j ∷ js) zero k h = let same : j ≡ k = cc in ap (λ x. Some (v x).numbers) same
    list_at v (j ∷ js) (suc i) k h = list_at v js i k h

  -- ---- states

  pub states_none : (a b : List Shape) (ns : List Node) → Nevers a b (length ks) ns → StatesSighted a b log w ks [] ns
  states_none a b ns h = record {
    grows = h.grows;
    len = h.len;
    terms = h.terms;
    are = λ e v m zs. (λ k. absurd k, λ k. absurd (no_where (λ l. l ≡ zs) (truths v ns) (lists_in v ks) (h.are e v m) k));
  }

  one_held : (Q : Held → Type 0) (xs ys : List Held) → OneOf Q (xs ++ ys) ↔ (OneOf Q xs ⊎ OneOf Q ys)
  one_held Q xs ys = (
    λ h. one_parted Q xs ys h,
    λ h. elim h [
      | inl y ↦ one_left Q xs ys y
      | inr y ↦ one_right Q xs ys y
    ],
  )

  one_guarded : (Q : Held → Type 0) (g : Bool) (h : Held) → OneOf Q (cond g (h ∷ []) []) ↔ ((g ≡ true) × Q h)
  one_guarded Q true h = (
    λ k. elim k [
      | inl x ↦ (refl, x)
      | inr x ↦ absurd x
    ],
    λ k. inl k.1,
  )
  one_guarded Q false h = (λ k. absurd k, λ k. let wrong : false ≡ true = k.0 in absurd (cc))

  under : {A B C : Type 0} → B ↔ C → (A × B) ↔ (A × C)
  under h = (λ k. (k.0, h.0 k.1), λ k. (k.0, h.1 k.1))

  pub states_more : (a b c : List Shape) (told : Truths) (ss : List State) (s : State) (before ns : List Node) → AllSighted b log w ks told
      → StatesSighted a b log w ks ss before → JoinsState b c told before s ns → StatesSighted a c log w ks (ss ++ s ∷ []) ns
  states_more a b c told ss s before ns all h j =
      let own = all.tell s.events.index j.own j.found in
      record {
        grows = grows_on h.grows j.joins.grows;
        len = j.joins.len ∙ h.len;
        terms = j.joins.terms;
        are = λ e v m zs.
            let mb = weaken j.joins.grows m in
            let P : List ℤ → Type 0 = λ l. l ≡ zs in
            let Q : Held → Type 0 = ShownIn log w zs in
            let g = (v s.guard.index).truth in
            rw (standing_joined v ss (s ∷ []))
            (both (one_held Q (standing v ss) (cond g (run_in v s ∷ []) []))
            (both (either_of (h.are e v mb zs) (both (one_guarded Q g (run_in v s)) (under (own.are e v mb zs))))
            (both (back (where_guarded P g (truths v before) (truths v j.own) (lists_in v ks)
            (truths_length v before ∙ h.len ∙ sym own.len ∙ sym (truths_length v j.own))))
            (subst (λ bs. OneWhere P bs (lists_in v ks) ↔ OneWhere P (truths v ns) (lists_in v ks)) (j.joins.are e v m) (λ x. x, λ x. x)))));
      }

pub states_from : (a b c : List Shape) (log : List ℕ) (w : Watch) (ks : List ℕ) (ss : List State) (ns : List Node) → Grows a b
    → StatesSighted b c log w ks ss ns → StatesSighted a c log w ks ss ns
states_from a b c log w ks ss ns g h = record { grows = grows_on g h.grows; len = h.len; terms = h.terms; are = h.are }

-- ---- in a place

pub other_none : (a b : List Shape) (place : ℕ) (x : ℤ) (n : Node) → Makes a b (shape.Flag false) (Ok n) → ShowsOther a b [] [] place x n
other_none a b place x n h = record {
  grows = h.grows;
  term = h.node;
  is = λ e v m.
      let no : (v n.index).truth ≡ false = ap (λ (w : Worth). w.truth) (h.value.is e v m) in
      (λ g. let wrong : false ≡ true = sym no ∙ g in absurd (cc), λ g. absurd g);
}

pub other_more : (a b c : List Shape) (ks : List ℕ) (ns : List Node) (k : ℕ) (shown : Node) (place : ℕ) (x : ℤ) (before n : Node) → length ns ≡ length ks
    → ShowsOther a b ks ns place x before → OrOther b c before k shown place x n → ShowsOther a c (ks ++ k ∷ []) (ns ++ shown ∷ []) place x n
other_more a b c ks ns k shown place x before n same h j = record {
  grows = grows_on h.grows j.grows;
  term = j.term;
  is = λ e v m.
      let P = LacksAt place x in
      both (both (j.is e v m) (either_of (h.is e v (weaken j.grows m)) (λ g. g, λ g. g)))
      (both (back (where_put P (truths v ns) (v shown.index).truth (lists_in v ks) (v k).numbers
      (truths_length v ns ∙ same ∙ sym (lists_length v ks))))
      (joined_lists v P));
} where
  joined_lists : (v : Values) (P : List ℤ → Type 0) → OneWhere P (truths v ns ++ (v shown.index).truth ∷ []) (lists_in v ks ++ (v k).numbers ∷ [])
      ↔ OneWhere P (truths v (ns ++ shown ∷ [])) (lists_in v (ks ++ k ∷ []))
  joined_lists v P = rw (truths_put v ns shown, lists_put v ks k) (λ g. g, λ g. g)

or_and : (B C : Type 0) (b s o u n : Bool) → u ≡ cond s o false → n ≡ cond b true u → (b ≡ true) ↔ B → (o ≡ true) ↔ C
    → (n ≡ true) ↔ ((b ≡ true) ⊎ ((s ≡ true) × C))
or_and B C true s o u n is_u is_n h k = (λ g. inl refl, λ g. is_n)
or_and B C false true o u n is_u is_n h k = (
  λ g. inr (refl, k.0 (sym is_u ∙ sym is_n ∙ g)),
  λ g. elim g [
    | inl x ↦ let wrong : false ≡ true = x in absurd (cc)
    | inr x ↦ is_n ∙ is_u ∙ k.1 x.1
  ],
)
or_and B C false false o u n is_u is_n h k = (
  λ g. let wrong : false ≡ true = sym is_u ∙ sym is_n ∙ g in absurd (cc),
  λ g. elim g [
    | inl x ↦ let wrong : false ≡ true = x in absurd (cc)
    | inr x ↦ let wrong : false ≡ true = x.0 in absurd (cc)
  ],
)

pub or_other : (a b c d : List Shape) (before : Node) (k : ℕ) (shown other here n : Node) (place : ℕ) (x : ℤ)
    → SaysSo a b (λ v. slice_get (v k).numbers place ≡ Some x → ⊥) other → Makes b c (shape.Connect connective.And shown.index other.index) (Ok here)
    → Makes c d (shape.Connect connective.Or before.index here.index) (Ok n) → OrOther a d before k shown place x n
or_other a b c d before k shown other here n place x h j i = record {
  grows = grows_on h.grows (grows_on j.grows i.grows);
  term = i.node;
  is = λ e v m.
      let mc = weaken i.grows m in
      or_and ((v before.index).truth ≡ true) (LacksAt place x (v k).numbers) (v before.index).truth (v shown.index).truth (v other.index).truth
      (v here.index).truth (v n.index).truth (ap (λ (y : Worth). y.truth) (j.value.is e v mc)) (ap (λ (y : Worth). y.truth) (i.value.is e v m))
      (λ g. g, λ g. g) (h.is e v (weaken j.grows mc));
}

-- ---- observations

pub observed_more : (b : List Shape) (place : ℕ) (ks : List ℕ) (ns : List Node) (os : List Observation) (k : ℕ) (n : Node) (o : Observation)
    → AreObserved b place ks ns os → o.happens ≡ n → IsAt b k place o.seen → AreObserved b place (ks ++ k ∷ []) (ns ++ n ∷ []) (os ++ o ∷ [])
observed_more b place [] [] [] k n o h i j = (i, (j, tt))
observed_more b place [] [] (p ∷ os) k n o h i j = absurd h
observed_more b place [] (m ∷ ns) os k n o h i j = absurd h
observed_more b place (l ∷ ks) [] os k n o h i j = absurd h
observed_more b place (l ∷ ks) (m ∷ ns) [] k n o h i j = absurd h
observed_more b place (l ∷ ks) (m ∷ ns) (p ∷ os) k n o h i j = (h.0, (h.1.0, observed_more b place ks ns os k n o h.1.1 i j))

seen_at : (b : List Shape) (k place : ℕ) (o : Option Seen) (e : Environment) (v : Values) → Models b e v → IsAt b k place o
    → slice_get (v k).numbers place ≡ observed_in v o
seen_at b k place None e v m h = h e v m
seen_at b k place (Some x) e v m h = h.1 e v m

pub observes_where : (b : List Shape) (place : ℕ) (ks : List ℕ) (ns : List Node) (os : List Observation) → AreObserved b place ks ns os
    → (e : Environment) (v : Values) → Models b e v → (x : Option ℤ)
    → OneWhere (λ zs. slice_get zs place ≡ x) (truths v ns) (lists_in v ks) ↔ OneOf (IsObserved v x) os
observes_where b place [] [] [] h e v m x = (λ g. g, λ g. g)
observes_where b place [] [] (p ∷ os) h e v m x = absurd h
observes_where b place [] (n ∷ ns) os h e v m x = absurd h
observes_where b place (k ∷ ks) [] os h e v m x = absurd h
observes_where b place (k ∷ ks) (n ∷ ns) [] h e v m x = absurd h
observes_where b place (k ∷ ks) (n ∷ ns) (o ∷ os) h e v m x =
    either_of
    (let same = ap (λ (y : Node). (v y.index).truth) h.0 in
    let at = seen_at b k place o.seen e v m h.1.0 in
    (λ g. (same ∙ g.0, sym at ∙ g.1), λ g. (sym same ∙ g.0, at ∙ g.1)))
    (observes_where b place ks ns os h.1.1 e v m x)

-- ---- from lists to what is so of them

of_print_as : (P Q : List ℤ → Type 0) → ((zs : List ℤ) → P zs → Q zs) → (what : Happening) → OfPrint P what → OfPrint Q what
of_print_as P Q f (happening.Branch at side) h = h
of_print_as P Q f (happening.Call at) h = h
of_print_as P Q f (happening.Print at length seen) h = f seen h

pub one_as : {A : Type 0} (P Q : A → Type 0) → ((x : A) → P x → Q x) → (xs : List A) → OneOf P xs → OneOf Q xs
one_as P Q f [] h = h
one_as P Q f (x ∷ xs) (inl h) = inl (f x h)
one_as P Q f (x ∷ xs) (inr h) = inr (one_as P Q f xs h)

where_as : (P Q : List ℤ → Type 0) → ((zs : List ℤ) → P zs → Q zs) → (bs : List Bool) (ls : List (List ℤ)) → OneWhere P bs ls → OneWhere Q bs ls
where_as P Q f [] ls h = h
where_as P Q f (b ∷ bs) [] h = h
where_as P Q f (b ∷ bs) (l ∷ ls) (inl h) = inl (h.0, f l h.1)
where_as P Q f (b ∷ bs) (l ∷ ls) (inr h) = inr (where_as P Q f bs ls h)

module _ (log : List ℕ) (w : Watch) (P : List ℤ → Type 0) where
  -- of one that is so, what it shows
  shown_of : (what : Happening) → OfPrint P what → (zs : List ℤ) × (P zs × OfPrint (λ seen. seen ≡ zs) what)
  shown_of (happening.Branch at side) h = absurd h
  shown_of (happening.Call at) h = absurd h
  shown_of (happening.Print at length seen) h = (seen, (h, refl))

  some_shown : (xs : List Event) → OneOf (Shows log w P) xs → (zs : List ℤ) × (P zs × OneOf (ShowsAll log w zs) xs)
  some_shown [] h = absurd h
  some_shown (x ∷ xs) (inl h) = let k = shown_of x.what h.1.1 in (k.0, (k.1.0, inl (h.0, (h.1.0, k.1.1))))
  some_shown (x ∷ xs) (inr h) = let k = some_shown xs h in (k.0, (k.1.0, inr k.1.1))

  some_where : (bs : List Bool) (ls : List (List ℤ)) → OneWhere P bs ls → (zs : List ℤ) × (P zs × OneWhere (λ l. l ≡ zs) bs ls)
  some_where [] ls h = absurd h
  some_where (b ∷ bs) [] h = absurd h
  some_where (b ∷ bs) (l ∷ ls) (inl h) = (l, (h.1, inl (h.0, refl)))
  some_where (b ∷ bs) (l ∷ ls) (inr h) = let k = some_where bs ls h in (k.0, (k.1.0, inr k.1.1))

  -- what is so of lists that are shown, where exactly these lists are
  pub by_lists : (xs : List Event) (bs : List Bool) (ls : List (List ℤ))
      → ((zs : List ℤ) → OneOf (ShowsAll log w zs) xs ↔ OneWhere (λ l. l ≡ zs) bs ls) → OneOf (Shows log w P) xs ↔ OneWhere P bs ls
  by_lists xs bs ls h = (
    λ g.
        let k = some_shown xs g in
        where_as (λ l. l ≡ k.0) P (λ l same. subst P (sym same) k.1.0) bs ls ((h k.0).0 k.1.1),
    λ g.
        let k = some_where bs ls g in
        one_as (ShowsAll log w k.0) (Shows log w P)
        (λ x s. (s.0, (s.1.0, of_print_as (λ l. l ≡ k.0) P (λ l same. subst P (sym same) k.1.0) x.what s.1.1))) xs ((h k.0).1 k.1.1),
  )

-- ---- on the run along the log

-- what happened on a run along a log, nothing where there is none
abbrev pub events_of : Option (Done ℕ) → List Event
events_of None = []
events_of (Some d) = d.events

pub shown_alone : (log : List ℕ) (w : Watch) (zs : List ℤ) (o : Option (Done ℕ))
    → OneOf (ShownIn log w zs) (to_list (bared o)) ↔ OneOf (ShowsAll log w zs) (events_of o)
shown_alone log w zs None = (λ h. h, λ h. h)
shown_alone log w zs (Some d) = (
  λ h. elim h [
    | inl k ↦ k
    | inr k ↦ absurd k
  ],
  λ h. inl h,
)

-- what lacks a number in a place is another print
other_part : (at place : ℕ) (x : ℤ) (what : Happening) → IsPrint at what → (Saw place x what → ⊥) ↔ OfPrint (LacksAt place x) what
other_part at place x (happening.Branch site side) h = absurd h
other_part at place x (happening.Call site) h = absurd h
other_part at place x (happening.Print site length seen) h = (λ k. k, λ k. k)

pub sees_shows : (log : List ℕ) (w : Watch) (x : ℤ) (e : Event) → SeesOther log w x e ↔ Shows log w (LacksAt w.place x) e
sees_shows log w x e = (
  λ h. (h.0, (h.1.0, (other_part w.at w.place x e.what h.0).0 h.1.1)),
  λ h. (h.0, (h.1.0, (other_part w.at w.place x e.what h.0).1 h.1.1)),
)
