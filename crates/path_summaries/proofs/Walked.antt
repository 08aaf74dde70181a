-- The walk of a key.
use Rattle.std.proofs.Common.{◌≡◌, ◌+◌, ℕ, suc, List, [], ◌∷◌, ◌++◌, Option, Some, None, true, refl, sym, ap, subst, ◌∙◌, append-nil}
use Rattle.std.specs.Prelude.{slice_get, slice_index, Ok}
use Rattle.core_tree.specs.declared.program.Function.{Function}
use Rattle.core_tree.specs.declared.program.Parameter.{Parameter}
use Rattle.core_tree.specs.declared.types.ValueType.{ValueType}
use Rattle.core_tree.specs.Numbers.{value_of_word}
use Rattle.core_tree.specs.Programs.{body_of, by_body}
use Rattle.log_expr.specs.declared.table.Ends.{Ends}
use Rattle.log_expr.specs.Sound.{IsSound}
use Rattle.log_expr.specs.Tables.{ends_at}
use Rattle.term_bank.specs.declared.sort.Node.{Node}
use Rattle.term_bank.specs.declared.shape.Shape.{Shape}
use Rattle.term_bank.specs.declared.shape.Shape.TheVariants as shape
use Rattle.term_bank.specs.Banks.{IsBank}
use Rattle.term_bank.specs.Terms.{Makes}
use Rattle.term_bank.specs.Values.{Environment, Worth, Values, Models}
use Rattle.term_bank.proofs.BankLemmas.{weaken, stays, grows_on}
use Rattle.path_states.specs.declared.state.Number.{Number}
use Rattle.path_states.specs.declared.state.State.{State}
use Rattle.path_states.specs.States.{IsRoomy, AllSized, numbers_in}
use Rattle.path_states.specs.Ways.{to_list}
use Rattle.path_states.proofs.Growth.{number_grown}
use Rattle.path_steps.specs.Memories.{IsScalar}
use Rattle.path_arrows.specs.Arrows.{bared}
use Rattle.path_codes.specs.Bodies.{Embodies}
use Rattle.path_forms.specs.Around.{level_at}
use Rattle.summary_compose.specs.Summaries.{word_of, read_as, entry_values}
use Rattle.log_expr.specs.Tours.{Tour}
use Rattle.path_summaries.specs.Tours.{around_in, room_in, types_of, AreScalar}
use Rattle.path_summaries.specs.Tables.{has_ends}
use Rattle.path_summaries.specs.Walking.{EntersOne, Enters, Walks}
use Rattle.path_summaries.proofs.Alike.{body_does}

-- ---- parameters

pub enters_one : (a b : List Shape) (t : ValueType) (k : ℕ) (n : Node) (x : Number) → IsScalar t
    → Makes a b (shape.Parameter k (word_of t).width) (Ok n) → x ≡ record { node = n; word = word_of t } → EntersOne a b t k x
enters_one a b t k n x h m is = rw is (record {
  grows = m.grows;
  scalar = h;
  number = record { term = m.node };
  is = λ e v i. ap (λ (w : Worth). value_of_word (word_of t) w.word) (m.value.is e v i);
})

pub enters_none : (a : List Shape) (k : ℕ) (types : List ValueType) (xs : List Number) → Enters a a [] k types types xs xs
enters_none a k types xs = record {
  grows = stays;
  typed = sym (append-nil types);
  scalars = tt;
  more = [];
  behind = sym (append-nil xs);
  numbers = tt;
  are = λ e v m. refl;
}

behind_more : {A : Type 0} (xs ys zs all : List A) (x : A) → ys ≡ xs ++ x ∷ [] → zs ≡ ys ++ all → zs ≡ xs ++ x ∷ all
behind_more xs ys zs all x h k = k ∙ ap (λ l. l ++ all) h ∙ joined xs (x ∷ []) all where
  joined : {A : Type 0} (xs ys zs : List A) → (xs ++ ys) ++ zs ≡ xs ++ (ys ++ zs)
  joined [] ys zs = refl
  joined (y ∷ xs) ys zs = ap (λ l. y ∷ l) (joined xs ys zs)

pub enters_more : (a b c : List Shape) (p : Parameter) (ps all : List Parameter) (k next : ℕ) (types types2 types3 : List ValueType)
    (xs xs2 xs3 : List Number) (x : Number) → all ≡ p ∷ ps → next ≡ suc k → EntersOne a b p.stored k x → types2 ≡ types ++ p.stored ∷ []
    → xs2 ≡ xs ++ x ∷ [] → Enters b c ps next types2 types3 xs2 xs3 → Enters a c all k types types3 xs xs3
enters_more a b c p ps all k next types types2 types3 xs xs2 xs3 x same at one typed put h = rw same (record {
  grows = grows_on one.grows h.grows;
  typed = behind_more types types2 types3 (types_of ps) p.stored typed h.typed;
  scalars = (one.scalar, h.scalars);
  more = x ∷ h.more;
  behind = behind_more xs xs2 xs3 h.more x put h.behind;
  numbers = (number_grown h.grows x one.number, h.numbers);
  are = λ e v m.
      rw (one.is e v (weaken h.grows m), h.are e v m)
      (ap (λ n. read_as p.stored (slice_index e.parameters k) ∷ entry_values e n (types_of ps)) at);
})

-- ---- the key

some_of : (x : Option Ends) → has_ends x ≡ true → (e : Ends) × (x ≡ Some e)
some_of None h = absurd (cc)
some_of (Some e) h = (e, refl)

pub walked : (t : Tour) (a b c d : List Shape) (f n start : ℕ) (fn : Function) (types : List ValueType) (xs : List Number) (memory : Node)
    (ts : List State) (room k m : ℕ) → IsSound t.core t.log t.limits t.depth t.ends → slice_get t.core.functions f ≡ Some fn
    → has_ends (ends_at t.ends f (suc n) start) ≡ true → Enters a b fn.parameters 0 [] types [] xs → Makes b c shape.Entry (Ok memory)
    → room ≡ room_in t n fn → Embodies (around_in t n fn) room fn xs memory start c d ts → IsBank d → m ≡ k + 1
    → Walks t a d f n start (record { parameters = types; states = ts }) k m
walked t a b c d f n start fn types xs memory ts room k m sound is key enters entry room_is h bank counted =
    let ends = some_of (ends_at t.ends f (suc n) start) key in
    let same : enters.more ≡ xs = sym enters.behind in
    let values : (e : Environment) (v : Values) → Models d e v → numbers_in v xs ≡ entry_values e 0 types =
    λ e v m. ap (λ l. numbers_in v l) (sym same) ∙ enters.are e v (weaken (grows_on entry.grows h.grows) m)
    ∙ ap (λ l. entry_values e 0 l) (sym enters.typed) in
    let store : (e : Environment) (v : Values) → Models d e v → (v memory.index).store ≡ e.entry =
    λ e v m. ap (λ (w : Worth). w.store) (entry.value.is e v (weaken h.grows m)) in
    record {
      grows = grows_on enters.grows (grows_on entry.grows h.grows);
      counted = counted;
      stands = record {
        function = fn;
        is = is;
        parameters = enters.typed;
        scalars = subst (λ l. AreScalar l) (sym enters.typed) enters.scalars;
        states = h.states;
        stands = λ e v m r sized.
            h.stands e v m (subst (λ q. IsRoomy q e) (sym room_is) r) (rw (store e v m) sized)
            ∙ ap (λ l. to_list (bared (by_body (level_at (around_in t n fn) e) (body_of fn) l e.base (v memory.index).store start))) (values e v m)
            ∙ ap (λ q. to_list (bared (by_body (level_at (around_in t n fn) e) (body_of fn) (entry_values e 0 types) e.base q start))) (store e v m)
            ∙ ap (λ o. to_list (bared o)) (body_does t n f fn e (entry_values e 0 types) e.base e.entry start ends.0 sound is ends.1);
        sized = λ e r q sized.
            let valued = bank.valued e in
            let kept = h.sized e valued.0 valued.1 (subst (λ x. IsRoomy x e) (sym room_is) r) q start sized in
            subst (λ o. AllSized (bared o)) (body_does t n f fn e (entry_values e 0 types) e.base q start ends.0 sound is ends.1)
            (subst (λ l. AllSized (bared (by_body (level_at (around_in t n fn) e) (body_of fn) l e.base q start))) (values e valued.0 valued.1) kept);
      };
    }
