-- Pieces over states.
use Rattle.std.proofs.Common.{◌≡◌, ℕ, ◌-◌, ◌≤◌, Bool, true, false, cond, List, [], ◌∷◌, ◌++◌, length, take, drop, Option, Some, None, refl, sym, ap, subst, ◌∙◌, append-nil, append_assoc}
use Rattle.std.specs.Prelude.{Ok}
use Rattle.printf_text.specs.declared.kind.Kind.{Kind}
use Rattle.printf_text.specs.declared.kind.Kind.TheVariants as kind
use Rattle.printf_text.specs.declared.piece.Form.{Form}
use Rattle.printf_text.specs.declared.piece.Form.TheVariants as form
use Rattle.printf_text.specs.declared.piece.Piece.{Piece}
use Rattle.printf_text.specs.declared.piece.Piece.TheVariants.{Literal, Converted}
use Rattle.printf_text.specs.declared.piece.Size.{Size}
use Rattle.printf_text.specs.declared.piece.Size.TheVariants as size
use Rattle.printf_text.specs.Texts.{HaveKinds, piece_kinds, size_kinds, form_kind, piece_text}
use Rattle.format_match.specs.Reading.{is_integer}
use Rattle.format_match.specs.Splits.{meet_all, SplitsExactly}
use Rattle.format_match.specs.Ways.{met_ends}
use Rattle.format_match.specs.declared.split.Split.{Split}
use Rattle.core_tree.specs.States.{along}
use Rattle.term_bank.specs.declared.sort.Node.{Node}
use Rattle.term_bank.specs.declared.shape.Connective.TheVariants as connective
use Rattle.term_bank.specs.declared.shape.Shape.{Shape}
use Rattle.term_bank.specs.declared.shape.Shape.TheVariants.{Connect}
use Rattle.term_bank.specs.Banks.{IsBank}
use Rattle.term_bank.specs.Terms.{Makes}
use Rattle.term_bank.specs.Values.{Environment, Worth, Values, Models}
use Rattle.term_bank.proofs.BankLemmas.{weaken, stays, grows_on}
use Rattle.path_states.specs.declared.state.Number.{Number}
use Rattle.path_states.specs.declared.state.State.{State}
use Rattle.path_states.specs.States.{Held, IsState, AreStates, AreNumbers, IsSized, AllSized, run_in, standing}
use Rattle.path_states.specs.Ways.{to_list, ◌>>=◌, Steps, Goes, stay}
use Rattle.path_states.proofs.Growth.{state_grown, states_grown, states_joined, standing_joined}
use Rattle.path_states.proofs.Paths.{goes_none, goes_more, goes_then, goes_joined}
use Rattle.path_numbers.specs.Answers.{Truthful}
use Rattle.path_numbers.proofs.Nodes.{term_below}
use Rattle.path_prints.specs.Arguments.{args_in}
use Rattle.path_prints.specs.Says.{takes_integers, at_position, moved_to, piece_way, pieces_way, AreIntegers, SaysAll, SaysEach, met_in, all_met_in, PutsSplit, PutsSplits}
use Rattle.path_prints.proofs.SplitLemmas.{one_end}

-- ---- arguments of integers have the kinds of the piece

AreInteger : List Kind → Type 0
AreInteger [] = Unit {0}
AreInteger (k ∷ ks) = (k ≡ kind.Integer) × AreInteger ks

joined_integer : (ks js : List Kind) → AreInteger ks → AreInteger js → AreInteger (ks ++ js)
unfolding AreInteger
joined_integer [] js h k = k
joined_integer (x ∷ ks) js h k = (h.0, joined_integer ks js h.1 k)

size_integer : (z : Size) → AreInteger (size_kinds z)
unfolding AreInteger
size_integer size.Omitted = tt
size_integer (size.Written n) = tt
size_integer size.Star = (refl, tt)

form_integer : (f : Form) → is_integer f ≡ true → form_kind f ≡ kind.Integer
form_integer (form.Signed w) h = refl
form_integer (form.Unsigned radix w) h = refl
form_integer form.Char h = refl
form_integer form.Text h = absurd (cc)
form_integer form.Pointer h = absurd (cc)

piece_integer : (p : Piece) → takes_integers p ≡ true → AreInteger (piece_kinds p)
unfolding AreInteger
piece_integer (Literal bytes) h = tt
piece_integer (Converted c) h =
    joined_integer (size_kinds c.width ++ size_kinds c.precision) (form_kind c.form ∷ [])
    (joined_integer (size_kinds c.width) (size_kinds c.precision) (size_integer c.width) (size_integer c.precision)) (form_integer c.form h, tt)

have_kinds : (b : List Shape) (e : Environment) (v : Values) (ks : List Kind) (xs : List Number) → IsBank b → Models b e v → AreInteger ks
    → AreNumbers b xs → length xs ≡ length ks → HaveKinds ks (args_in v xs)
unfolding AreInteger
have_kinds b e v [] [] bank m h are same = tt
have_kinds b e v [] (x ∷ xs) bank m h are same = absurd (cc)
have_kinds b e v (k ∷ ks) [] bank m h are same = absurd (cc)
have_kinds b e v (k ∷ ks) (x ∷ xs) bank m h are same =
    let rest = have_kinds b e v ks xs bank m h.1 are.1 (cc) in
    rw h.0 (term_below b x.word.width x.node e v bank are.0.term m, rest)

pub piece_kinds_of : (b : List Shape) (e : Environment) (v : Values) (p : Piece) (xs : List Number) → IsBank b → Models b e v
    → takes_integers p ≡ true → AreNumbers b xs → length xs ≡ length (piece_kinds p) → HaveKinds (piece_kinds p) (args_in v xs)
piece_kinds_of b e v p xs bank m h are same = have_kinds b e v (piece_kinds p) xs bank m (piece_integer p h) are same

-- ---- one split

both_so : (g c : Bool) (x : Worth) (h : Held) → x.truth ≡ cond g c false → cond x.truth (h ∷ []) [] ≡ cond (cond g c false) (h ∷ []) []
both_so g c x h e = rw e refl

pub puts_split : (a b c : List Shape) (s : State) (w : Split) (xs : List Number) (met guard : Node) (before after : List State) → IsState a s
    → AreStates a before → Truthful a b met (λ v. meet_all w.constraints (args_in v xs))
    → Makes b c (Connect connective.And s.guard.index met.index) (Ok guard)
    → after ≡ before ++ record s { guard = guard; position = w.end } ∷ [] → PutsSplit a c s w xs before after
puts_split a b c s w xs met guard before after is are h i same =
    let g = grows_on h.grows i.grows in
    let t : State = record s { guard = guard; position = w.end } in
    let grown = state_grown g s is in
    record {
      grows = g;
      states = rw same (states_joined c before (t ∷ []) (states_grown g before are)
          (record { guard = i.node; kind = grown.kind; memory = grown.memory; value = grown.value; events = grown.events; operands = grown.operands }, tt));
      stand = λ e v m.
          ap (standing v) same ∙ standing_joined v before (t ∷ [])
          ∙ ap (λ l. standing v before ++ l)
          (both_so (v s.guard.index).truth (meet_all w.constraints (args_in v xs)) (v guard.index) (moved_to w.end (run_in v s))
          (ap (λ (q : Worth). q.truth) (i.value.is e v m)
          ∙ ap (λ k. cond (v s.guard.index).truth k false) (h.is e v (weaken i.grows m))));
    }

-- ---- all splits of a piece

pub puts_none : (a : List Shape) (s : State) (xs : List Number) → PutsSplits a a s xs [] []
puts_none a s xs = record { grows = stays; states = tt; stand = λ e v m. refl }

all_met_more : (v : Values) (s : State) (xs : List Number) (ws : List Split) (w : Split)
    → all_met_in v s xs (ws ++ w ∷ []) ≡ all_met_in v s xs ws ++ met_in v s xs w
all_met_more v s xs [] w = append-nil (met_in v s xs w)
all_met_more v s xs (y ∷ ws) w =
    ap (λ l. met_in v s xs y ++ l) (all_met_more v s xs ws w) ∙ sym (append_assoc (met_in v s xs y) (all_met_in v s xs ws) (met_in v s xs w))

pub puts_more : (a b c : List Shape) (s : State) (xs : List Number) (ws : List Split) (w : Split) (middle after : List State)
    → PutsSplits a b s xs ws middle → PutsSplit b c s w xs middle after → PutsSplits a c s xs (ws ++ w ∷ []) after
puts_more a b c s xs ws w middle after h i = record {
  grows = grows_on h.grows i.grows;
  states = i.states;
  stand = λ e v m.
      i.stand e v m ∙ ap (λ l. l ++ met_in v s xs w) (h.stand e v (weaken i.grows m)) ∙ sym (all_met_more v s xs ws w);
}

moves : Held → List ℕ → List Held
moves h [] = []
moves h (o ∷ os) = moved_to o h ∷ moves h os

met_states : (v : Values) (s : State) (xs : List Number) (ws : List Split)
    → all_met_in v s xs ws ≡ cond (v s.guard.index).truth (moves (run_in v s) (met_ends ws (args_in v xs))) []
unfolding moves
met_states v s xs [] = by (v s.guard.index).truth
  where
    by : (g : Bool) → ◌≡◌ {A = List Held} [] (cond g [] [])
    by true = refl
    by false = refl
met_states v s xs (w ∷ ws) =
    ap (λ l. met_in v s xs w ++ l) (met_states v s xs ws)
    ∙ by (v s.guard.index).truth (meet_all w.constraints (args_in v xs)) (met_ends ws (args_in v xs))
  where
    by : (g c : Bool) (os : List ℕ) → cond (cond g c false) (moved_to w.end (run_in v s) ∷ []) [] ++ cond g (moves (run_in v s) os) []
        ≡ cond g (moves (run_in v s) (cond c (w.end ∷ os) os)) []
    by true true os = refl
    by true false os = refl
    by false c os = refl

moves_to : (h : Held) (o : Option ℕ) → moves h (to_list o) ≡ to_list (at_position h o)
unfolding moves
moves_to h None = refl
moves_to h (Some o) = refl

positioned_sized : (h : Held) (o : Option ℕ) → IsSized h.done.store → AllSized (at_position h o)
positioned_sized h None k = tt
positioned_sized h (Some o) k = k

pub piece_sized : (log : List ℕ) (p : Piece) (xs : List Number) (e : Environment) (v : Values) (h : Held) → IsSized h.done.store
    → AllSized (piece_way log p xs e v h)
piece_sized log p xs e v h k = positioned_sized h ((along log).take_text (piece_text p (args_in v xs)) h.done.out) k

pub said_on : (room : ℕ) (a b : List Shape) (log : List ℕ) (p : Piece) (xs : List Number) (s : State) (ws : List Split) (ts : List State)
    → IsBank a → AreNumbers a xs → takes_integers p ≡ true → length xs ≡ length (piece_kinds p) → s.position ≤ length log
    → SplitsExactly (p ∷ []) log s.position ws → PutsSplits a b s xs ws ts → Steps room a b s ts (piece_way log p xs)
said_on room a b log p xs s ws ts bank are integers enough within splits h = record {
  grows = h.grows;
  states = h.states;
  stands = λ e v m r k.
      let ma = weaken h.grows m in
      h.stand e v m ∙ met_states v s xs ws
      ∙ ap (λ l. cond (v s.guard.index).truth (moves (run_in v s) l) [])
      (one_end p log s.position ws (args_in v xs) within splits (piece_kinds_of a e v p xs bank ma integers are enough))
      ∙ ap (λ l. cond (v s.guard.index).truth l []) (moves_to (run_in v s) ((along log).take_text (piece_text p (args_in v xs)) s.position));
  sized = λ e v m r d k. piece_sized log p xs e v d k;
}

-- ---- lists of states

pub said_none : (room : ℕ) (a : List Shape) (log : List ℕ) (p : Piece) (xs : List Number) → Goes room a a [] [] (piece_way log p xs)
said_none room a log p xs = goes_none room a (piece_way log p xs) (λ e v m r h k. piece_sized log p xs e v h k)

-- ---- all pieces

stays_as : (o : Option Held) → o ≡ o >>= (λ h. Some h)
stays_as None = refl
stays_as (Some h) = refl

pub says_none : (a : List Shape) (log : List ℕ) (xs : List Number) (ss : List State) → AreStates a ss → SaysAll a a log [] xs ss ss
says_none a log xs ss are = record {
  integers = tt;
  states = are;
  grows = stays;
  goes = λ room. record {
    grows = stays;
    states = are;
    stands = λ e v m r o j k. j ∙ ap to_list (stays_as o);
    sized = λ e v m r h k. k;
  };
}

pub says_more : (a b c : List Shape) (log : List ℕ) (p : Piece) (ps : List Piece) (xs own others : List Number) (n : ℕ) (ss ts us : List State)
    → n ≡ length (piece_kinds p) → takes_integers p ≡ true → n ≤ length xs → own ≡ take n xs → others ≡ drop n xs
    → ((room : ℕ) → Goes room a b ss ts (piece_way log p own)) → SaysAll b c log ps others ts us → SaysAll a c log (p ∷ ps) xs ss us
says_more a b c log p ps xs own others n ss ts us count integers enough first rest h i = record {
  integers = (integers, rw (← count) enough, subst (AreIntegers ps) left i.integers);
  states = i.states;
  grows = grows_on (h 0).grows i.grows;
  goes = λ room.
      let own_is : own ≡ take (length (piece_kinds p)) xs = first ∙ ap (λ k. take k xs) count in
      let others_are : others ≡ drop (length (piece_kinds p)) xs = rest ∙ ap (λ k. drop k xs) count in
      goes_then room a b c ss ts us (piece_way log p (take (length (piece_kinds p)) xs)) (pieces_way log ps (drop (length (piece_kinds p)) xs))
      (rw (← own_is) (h room)) (rw (← others_are) (i.goes room));
}
  where
    left : length others ≡ length xs - length (piece_kinds p)
    left = ap length rest ∙ Rattle.std.proofs.lemmas.List.length-drop n xs ∙ ap (λ k. length xs - k) count

-- ---- one state behind the other

pub says_each_none : (a : List Shape) (log : List ℕ) (p : Piece) (xs : List Number) → SaysEach a a log p xs [] []
says_each_none a log p xs = record { goes = λ room. said_none room a log p xs }

pub says_each_more : (a b c : List Shape) (log : List ℕ) (p : Piece) (xs : List Number) (ss ts us : List State) (s : State)
    → SaysEach a b log p xs ss ts → ((room : ℕ) → Steps room b c s us (piece_way log p xs)) → SaysEach a c log p xs (ss ++ s ∷ []) (ts ++ us)
says_each_more a b c log p xs ss ts us s h i = record {
  goes = λ room. goes_more room a b c ss ts us s (piece_way log p xs) (h.goes room) (i room);
}

pub says_joined : (a b c : List Shape) (log : List ℕ) (p : Piece) (xs : List Number) (ss ts us : List State) → SaysEach a b log p xs ss ts
    → ((room : ℕ) → Goes room b c ts us stay) → (room : ℕ) → Goes room a c ss us (piece_way log p xs)
says_joined a b c log p xs ss ts us h i room = goes_joined room a b c ss ts us (piece_way log p xs) (h.goes room) (i room)
