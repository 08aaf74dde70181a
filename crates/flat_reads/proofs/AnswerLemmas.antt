-- Tasks, and the answers that they make.
use Rattle.std.proofs.Common.{◌≡◌, ◌<◌, ◌≤◌, ◌+◌, ◌*◌, ◌^◌, ◌++◌, ◌∷◌, [], ◌⊎◌, ℕ, suc, List, Some, Bool, true, false, arith, inl, inr, refl, sym, ap, subst, ◌∙◌, cond}
use Rattle.std.specs.Prelude.{Result, Ok, Err, OnOk}
use Rattle.std.proofs.Math.Nat.{pow-le-pow_right}
use Rattle.std.proofs.lemmas.List.{append-nil}
use Rattle.term_bank.specs.contracts.shape.ShapePartialEq.TheImpl.{ghosts}
use Rattle.term_bank.specs.contracts.shape.ShapeEq.TheImpl.Laws.{laws-law}
use Rattle.term_bank.proofs.Equality.{shape_true}
use Rattle.term_bank.specs.declared.sort.Sort.{Sort}
use Rattle.term_bank.specs.declared.sort.Sort.TheVariants.{Truth}
use Rattle.term_bank.specs.declared.sort.Node.{Node}
use Rattle.term_bank.specs.declared.shape.Shape.{Shape}
use Rattle.term_bank.specs.declared.shape.Shape.TheVariants.{Choose}
use Rattle.term_bank.specs.Shapes.{IsNode, IsWell, parts, sort_of}
use Rattle.term_bank.specs.Values.{Environment, Worth, Values, Models, Grows, IsWorth}
use Rattle.term_bank.specs.Under.{IsOver}
use Rattle.term_bank.specs.Terms.{IsTerm}
use Rattle.term_bank.proofs.BankLemmas.{weaken}
use Rattle.term_bank.proofs.TermLemmas.{part_of, term_of, term_grown}
use Rattle.flat_reads.specs.declared.choices.Found.{Found}
use Rattle.flat_reads.specs.declared.choices.Found.TheVariants.{Known, Asked}
use Rattle.flat_reads.specs.declared.choices.Choice.{Choice}
use Rattle.flat_reads.specs.declared.answers.Task.{Task}
use Rattle.flat_reads.specs.declared.answers.Task.TheVariants.{Ask, Make}
use Rattle.flat_reads.specs.Flats.{IsHonest, IsFlatOver}
use Rattle.flat_reads.specs.Choices.{IsFound, IsChoice, found_worth, rank}
use Rattle.flat_reads.specs.Answers.{Answers, answer_in, IsAnswer, AreAnswers, IsAnswered, PutsAnswer, IsAskable, question_of, Waits, Settled, IsSettled, IsReadyFor, AreHeld, IsTask, AreTasks, weight, weights, IsReady, Goes, asks, Opens, found_in, Made}
use Rattle.flat_reads.proofs.FlatLemmas.{flat_grown, flat_through, flat_over}
use Rattle.flat_reads.proofs.ChoiceLemmas.{well_grown, found_grown}

pub answer_grown : (a b : List Shape) (q : Shape) (node : Node) → Grows a b → IsAnswer a q node → IsAnswer b q node
answer_grown a b q node g h = record { term = term_grown a b (sort_of q) node g h.term; value = λ e v honest m. h.value e v honest (weaken g m); flat = flat_grown a b (parts q) node.index g h.flat }

pub answers_grown : (a b : List Shape) (answers : Answers) → Grows a b → AreAnswers a answers → AreAnswers b answers
answers_grown a b answers g h = record { are = λ q node is. answer_grown a b q node g (h.are q node is) }

-- ---- lists of tasks

waits_in : (ts us : List Task) (q : Shape) → Waits us q → Waits (ts ++ us) q
waits_in [] us q h = h
waits_in (t ∷ ts) us q h = inr (waits_in ts us q h)

settled_instead : (old new : Answers) (ts : List Task) (t : Task) (us : List Task) → ((q : Shape) → IsAnswered old q → IsAnswered new q) → Settled new us (question_of t) → (q : Shape) → Settled old (ts ++ t ∷ []) q → Settled new (ts ++ us) q
settled_instead old new [] t us more here q (inl (inl same)) = subst (Settled new us) same here
settled_instead old new [] t us more here q (inl (inr h)) = absurd h
settled_instead old new [] t us more here q (inr h) = inr (more q h)
settled_instead old new (x ∷ ts) t us more here q (inl (inl same)) = inl (inl same)
settled_instead old new (x ∷ ts) t us more here q (inl (inr h)) = elim (settled_instead old new ts t us more here q (inl h)) [ inl k ↦ inl (inr k) | inr k ↦ inr k ]
settled_instead old new (x ∷ ts) t us more here q (inr h) = inr (more q h)

found_instead : (old new : Answers) (ts : List Task) (t : Task) (us : List Task) → ((q : Shape) → IsAnswered old q → IsAnswered new q) → Settled new us (question_of t) → (f : Found) → IsSettled old (ts ++ t ∷ []) f → IsSettled new (ts ++ us) f
found_instead old new ts t us more here (Known n) h = tt
found_instead old new ts t us more here (Asked q) h = settled_instead old new ts t us more here q h

ready_instead : (old new : Answers) (ts : List Task) (t : Task) (us : List Task) → ((q : Shape) → IsAnswered old q → IsAnswered new q) → Settled new us (question_of t) → (x : Task) → IsReadyFor old (ts ++ t ∷ []) x → IsReadyFor new (ts ++ us) x
ready_instead old new ts t us more here (Ask q) h = tt
ready_instead old new ts t us more here (Make q c) h = (found_instead old new ts t us more here c.yes h.0, found_instead old new ts t us more here c.no h.1)

held_instead : (old new : Answers) (ts : List Task) (t : Task) (us : List Task) → ((q : Shape) → IsAnswered old q → IsAnswered new q) → Settled new us (question_of t) → AreHeld new us → AreHeld old (ts ++ t ∷ []) → AreHeld new (ts ++ us)
held_instead old new [] t us more here held h = held
held_instead old new (x ∷ ts) t us more here held h = (ready_instead old new ts t us more here x h.0, held_instead old new ts t us more here held h.1)

pub held_last : (answers : Answers) (ts : List Task) (t : Task) → AreHeld answers (ts ++ t ∷ []) → IsReadyFor answers [] t
held_last answers [] t h = h.0
held_last answers (x ∷ ts) t h = held_last answers ts t h.1

pub task_last : (shapes : List Shape) (ts : List Task) (t : Task) → AreTasks shapes (ts ++ t ∷ []) → IsTask shapes t
task_last shapes [] t h = h.0
task_last shapes (x ∷ ts) t h = task_last shapes ts t h.1

pub choice_grown : (a b : List Shape) (q : Shape) (c : Choice) → Grows a b → IsChoice a q c → IsChoice b q c
choice_grown a b q c g h = record {
  condition = term_grown a b Truth c.condition g h.condition;
  flat = flat_grown a b (parts q) c.condition.index g h.flat;
  yes = found_grown a b (rank q) (sort_of q) (parts q) c.yes g h.yes;
  no = found_grown a b (rank q) (sort_of q) (parts q) c.no g h.no;
  value = λ e v honest m. h.value e v honest (weaken g m);
}

task_grown : (a b : List Shape) (t : Task) → Grows a b → IsTask a t → IsTask b t
task_grown a b (Ask q) g h = record { well = well_grown a b q g h.well; byte = h.byte }
task_grown a b (Make q c) g h = choice_grown a b q c g h

tasks_instead : (a b : List Shape) (ts : List Task) (t : Task) (us : List Task) → Grows a b → AreTasks a (ts ++ t ∷ []) → AreTasks b us → AreTasks b (ts ++ us)
tasks_instead a b [] t us g h k = k
tasks_instead a b (x ∷ ts) t us g h k = (task_grown a b x g h.0, tasks_instead a b ts t us g h.1 k)

weights_both : (ts us : List Task) → weights (ts ++ us) ≡ weights ts + weights us
weights_both [] us = none (weights us) where
  none : (n : ℕ) → n ≡ 0 + n
  none n = omega arith
weights_both (t ∷ ts) us = ap (λ n. weight t + n) (weights_both ts us) ∙ grouped (weight t) (weights ts) (weights us) where
  grouped : (a b c : ℕ) → a + (b + c) ≡ (a + b) + c
  grouped a b c = omega arith

less_instead : (ts : List Task) (t : Task) (us : List Task) → weights us < weight t → weights (ts ++ us) < weights (ts ++ t ∷ [])
less_instead ts t us h = less (weights ts) (weights us) (weight t) (weights (ts ++ us)) (weights (ts ++ t ∷ [])) (weights_both ts us) (weights_both ts (t ∷ [])) h where
  less : (a b c x y : ℕ) → x ≡ a + b → y ≡ a + (c + 0) → b < c → x < y
  less a b c x y h k l = omega (arith, h, k, l)

-- one task gave way to others
pub went : (a b : List Shape) (old new : Answers) (ts : List Task) (t : Task) (us : List Task) → Grows a b → IsReady a old (ts ++ t ∷ []) → AreAnswers b new → ((q : Shape) → IsAnswered old q → IsAnswered new q) → Settled new us (question_of t) → AreHeld new us → AreTasks b us → weights us < weight t → Goes b old new (ts ++ t ∷ []) (ts ++ us)
went a b old new ts t us g ready answers more here held tasks less = record {
  ready = record { answers_are = answers; tasks_are = tasks_instead a b ts t us g ready.tasks_are tasks; held = held_instead old new ts t us more here held ready.held };
  settled = settled_instead old new ts t us more here;
  less = less_instead ts t us less;
}

-- ---- asking

four_pos : (n : ℕ) → 0 < 4 ^ n
four_pos n = pow-le-pow_right {n = 4} (omega arith) {i = 0} {j = n} (omega arith)

found_weight : (shapes : List Shape) (most : ℕ) (s : Sort) (ps : List Node) (f : Found) → IsFound shapes most s ps f → weights (asks f) ≤ 4 ^ most
found_weight shapes most s ps (Known n) h = omega arith
found_weight shapes most s ps (Asked q) h = below (4 ^ suc (rank q)) (4 ^ most) (pow-le-pow_right {n = 4} (omega arith) (up (rank q) most h.less)) where
  below : (x y : ℕ) → x ≤ y → x + 0 ≤ y
  below x y h = omega (arith, h)

  up : (r most : ℕ) → r < most → suc r ≤ most
  up r most h = omega (arith, h)

opened_weight : (shapes : List Shape) (q : Shape) (c : Choice) → IsChoice shapes q c → weights (Make q c ∷ (asks c.yes ++ asks c.no)) < weight (Ask q)
opened_weight shapes q c h =
    less (weights (asks c.yes)) (weights (asks c.no)) (4 ^ rank q) (weights (asks c.yes ++ asks c.no)) (4 ^ suc (rank q))
    (found_weight shapes (rank q) (sort_of q) (parts q) c.yes h.yes) (found_weight shapes (rank q) (sort_of q) (parts q) c.no h.no) (weights_both (asks c.yes) (asks c.no)) (four_pos (rank q)) (four (rank q))
  where
    four : (r : ℕ) → 4 ^ suc r ≡ 4 * 4 ^ r
    four r = omega arith

    less : (a b m x y : ℕ) → a ≤ m → b ≤ m → x ≡ a + b → 0 < m → y ≡ 4 * m → 1 + x < y
    less a b m x y h k l p e = omega (arith, h, k, l, p, e)

found_tasks : (shapes : List Shape) (most : ℕ) (s : Sort) (ps : List Node) (f g : Found) → IsFound shapes most s ps f → IsFound shapes most s ps g → AreTasks shapes (asks f ++ asks g)
found_tasks shapes most s ps (Known n) (Known m) h k = tt
found_tasks shapes most s ps (Known n) (Asked r) h k = (record { well = k.well; byte = k.byte }, tt)
found_tasks shapes most s ps (Asked q) (Known m) h k = (record { well = h.well; byte = h.byte }, tt)
found_tasks shapes most s ps (Asked q) (Asked r) h k = (record { well = h.well; byte = h.byte }, (record { well = k.well; byte = k.byte }, tt))

found_held : (answers : Answers) (f g : Found) → IsSettled answers (asks f ++ asks g) f × (IsSettled answers (asks f ++ asks g) g × AreHeld answers (asks f ++ asks g))
found_held answers (Known n) (Known m) = (tt, (tt, tt))
found_held answers (Known n) (Asked r) = (tt, (inl (inl refl), (tt, tt)))
found_held answers (Asked q) (Known m) = (inl (inl refl), (tt, (tt, tt)))
found_held answers (Asked q) (Asked r) = (inl (inl refl), (inl (inr (inl refl)), (tt, (tt, tt))))

pub ask_goes : (a b : List Shape) (answers : Answers) (ts : List Task) (q : Shape) (after : List Task) → Grows a b → IsReady a answers (ts ++ Ask q ∷ []) → (IsAnswered answers q × (after ≡ ts)) ⊎ Opens b q ts after → Goes b answers answers (ts ++ Ask q ∷ []) after
ask_goes a b answers ts q after g ready (inl done) = subst (λ us. Goes b answers answers (ts ++ Ask q ∷ []) us) (append-nil ts ∙ sym done.1)
    (went a b answers answers ts (Ask q) [] g ready (answers_grown a b answers g ready.answers_are) (λ r h. h) (inr done.0) tt tt (four_pos (suc (rank q))))
ask_goes a b answers ts q after g ready (inr opens) =
    let c = opens.choice in
    let us = Make q c ∷ (asks c.yes ++ asks c.no) in
    let held = found_held answers c.yes c.no in
    subst (λ us. Goes b answers answers (ts ++ Ask q ∷ []) us) (sym opens.tasks)
    (went a b answers answers ts (Ask q) us g ready (answers_grown a b answers g ready.answers_are) (λ r h. h) (inl (inl refl)) ((held.0, held.1.0), held.1.1) (opens.is, found_tasks b (rank q) (sort_of q) (parts q) c.yes c.no opens.is.yes opens.is.no) (opened_weight b q c opens.is))

pub make_goes : (a b : List Shape) (old new : Answers) (ts : List Task) (q : Shape) (c : Choice) → Grows a b → IsReady a old (ts ++ Make q c ∷ []) → Made b old new q → Goes b old new (ts ++ Make q c ∷ []) ts
make_goes a b old new ts q c g ready made = subst (λ us. Goes b old new (ts ++ Make q c ∷ []) us) (append-nil ts) (went a b old new ts (Make q c) [] g ready made.answers_are made.more (inr made.answered) tt tt (omega arith))

-- ---- making

pub record Stands (shapes : List Shape) (s : Sort) (ps : List Node) (f : Found) (node : Node) : Type 0 where
  pub term : IsTerm shapes s node
  pub flat : IsFlatOver shapes ps node.index
  pub value : (e : Environment) (v : Values) → IsHonest e → Models shapes e v → v node.index ≡ found_worth e v f

pub found_stands : (shapes : List Shape) (answers : Answers) (most : ℕ) (s : Sort) (ps : List Node) (f : Found) (node : Node) → AreAnswers shapes answers → IsFound shapes most s ps f → found_in answers f ≡ Some node → Stands shapes s ps f node
found_stands shapes answers most s ps (Known n) node all h is = record {
  term = subst (IsTerm shapes s) (same n node is) h.term;
  flat = ap_flat (same n node is) h.flat;
  value = λ e v honest m. sym (ap (λ (x : Node). v x.index) (same n node is));
} where
  same : (n node : Node) → Some n ≡ Some node → n ≡ node
  same n node is = cc

  ap_flat : n ≡ node → IsFlatOver shapes ps n.index → IsFlatOver shapes ps node.index
  ap_flat e k = subst (λ (x : Node). IsFlatOver shapes ps x.index) e k
found_stands shapes answers most s ps (Asked q) node all h is =
    let answer = all.are q node is in
    record {
      term = subst (λ t. IsTerm shapes t node) h.sort answer.term;
      flat = flat_through shapes ps (parts q) node.index answer.flat h.flat;
      value = answer.value;
    }

pub made_well : (shapes : List Shape) (q : Shape) (c : Choice) (yes_node no_node : Node) → IsChoice shapes q c → Stands shapes (sort_of q) (parts q) c.yes yes_node → Stands shapes (sort_of q) (parts q) c.no no_node → IsWell shapes (Choose (sort_of q) c.condition.index yes_node.index no_node.index)
made_well shapes q c yes_node no_node h one other = record { parts_stand = (part_of shapes Truth c.condition h.condition, (part_of shapes (sort_of q) yes_node one.term, (part_of shapes (sort_of q) no_node other.term, tt))); in_width = tt }

pub made_answer : (a b : List Shape) (q : Shape) (c : Choice) (yes_node no_node node : Node) → Grows a b → IsChoice a q c → Stands a (sort_of q) (parts q) c.yes yes_node → Stands a (sort_of q) (parts q) c.no no_node → IsNode b node → node.sort ≡ sort_of q → IsWorth b (Choose (sort_of q) c.condition.index yes_node.index no_node.index) node → IsOver b (Choose (sort_of q) c.condition.index yes_node.index no_node.index) node → IsAnswer b q node
made_answer a b q c yes_node no_node node g h one other is sort value over = record {
  term = term_of b (sort_of q) node is sort;
  value = λ e v honest m.
      let old = weaken g m in
      value.is e v m ∙ both (v c.condition.index).truth (v yes_node.index) (found_worth e v c.yes) (v no_node.index) (found_worth e v c.no) (one.value e v honest old) (other.value e v honest old) ∙ sym (h.value e v honest old);
  flat = flat_over b (parts q) (Choose (sort_of q) c.condition.index yes_node.index no_node.index) node over (record { plain = λ q. refl })
      (flat_grown a b (parts q) c.condition.index g h.flat, (flat_grown a b (parts q) yes_node.index g one.flat, (flat_grown a b (parts q) no_node.index g other.flat, tt)));
} where
  both : (t : Bool) (x y z w : Worth) → x ≡ y → z ≡ w → cond t x z ≡ cond t y w
  both t x y z w h k = rw (h, k) refl

-- two arms that are one node
pub same_answer : (shapes : List Shape) (q : Shape) (c : Choice) (yes_node no_node : Node) → IsChoice shapes q c → Stands shapes (sort_of q) (parts q) c.yes yes_node → Stands shapes (sort_of q) (parts q) c.no no_node → yes_node.index ≡ no_node.index → IsAnswer shapes q yes_node
same_answer shapes q c yes_node no_node h one other same = record {
  term = one.term;
  value = λ e v honest m. either (v c.condition.index).truth (v yes_node.index) (found_worth e v c.yes) (found_worth e v c.no) (one.value e v honest m) (ap v same ∙ other.value e v honest m) ∙ sym (h.value e v honest m);
  flat = one.flat;
} where
  either : (t : Bool) (x y z : Worth) → x ≡ y → x ≡ z → x ≡ cond t y z
  either true x y z h k = h
  either false x y z h k = k

same_self : (q : Shape) → ghosts.eq q q ≡ true
same_self q = laws-law.refl q

pub made_more : (a b : List Shape) (old new : Answers) (q : Shape) (node : Node) → Grows a b → AreAnswers a old → PutsAnswer old new q node → IsAnswer b q node → Made b old new q
made_more a b old new q node g all puts answer = record {
  answers_are = record { are = λ r n is. either (ghosts.eq q r) r refl n is };
  answered = record { node = node; is = puts q ∙ ap (λ t. cond t (Some node) (answer_in old q)) (same_self q) };
  more = λ r h. stays (ghosts.eq q r) r refl h;
} where
  of_some : (n m : Node) → Some n ≡ Some m → n ≡ m
  of_some n m is = cc

  either : (t : Bool) → (r : Shape) → ghosts.eq q r ≡ t → (n : Node) → answer_in new r ≡ Some n → IsAnswer b r n
  either true r e n is = subst (λ s. IsAnswer b s n) (shape_true q r e) (subst (IsAnswer b q) (of_some node n (sym (puts r ∙ ap (λ t. cond t (Some node) (answer_in old r)) e) ∙ is)) answer)
  either false r e n is = answer_grown a b r n g (all.are r n (sym (puts r ∙ ap (λ t. cond t (Some node) (answer_in old r)) e) ∙ is))

  stays : (t : Bool) → (r : Shape) → ghosts.eq q r ≡ t → IsAnswered old r → IsAnswered new r
  stays true r e h = record { node = node; is = puts r ∙ ap (λ t. cond t (Some node) (answer_in old r)) e }
  stays false r e h = record { node = h.node; is = puts r ∙ ap (λ t. cond t (Some node) (answer_in old r)) e ∙ h.is }

-- what is settled with no task left is answered
pub none_left : (answers : Answers) (f : Found) → IsSettled answers [] f → (node : Node) × (found_in answers f ≡ Some node)
none_left answers (Known n) h = (n, refl)
none_left answers (Asked q) (inl h) = absurd h
none_left answers (Asked q) (inr h) = (h.node, h.is)

pub first_ready : (shapes : List Shape) (answers : Answers) (q : Shape) → AreAnswers shapes answers → IsAskable shapes q → IsReady shapes answers (Ask q ∷ [])
first_ready shapes answers q all h = record { answers_are = all; tasks_are = (h, tt); held = (tt, tt) }

pub on_ok : {A E : Type 0} (r : Result A E) (X Y : Type 0) → OnOk r X → (X → Y) → OnOk r Y
on_ok (Ok a) X Y h f = f h
on_ok (Err e) X Y h f = tt
