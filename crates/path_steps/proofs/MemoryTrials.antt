-- Loads and stores of one state.
use Rattle.std.proofs.Common.{◌≡◌, ℕ, ℤ, List, [], ◌∷◌, ◌++◌, false, not, cond, Option, Some, None, refl, sym, ap, ◌∙◌, subst}
use Rattle.std.specs.Prelude.{Result, Ok, Err, unsigned_abs}
use Rattle.plain_data.specs.declared.width.Width.TheVariants.{W64}
use Rattle.plain_data.specs.declared.run.Finish.TheVariants as finish
use Rattle.plain_data.specs.declared.run.Undefined.TheVariants.{Dereference, LiteralWrite}
use Rattle.plain_data.specs.Words.{word}
use Rattle.c_store.specs.Access.{can_access, can_write}
use Rattle.core_tree.specs.declared.types.Access.{Access}
use Rattle.core_tree.specs.declared.types.ValueType.{ValueType}
use Rattle.core_tree.specs.declared.types.ValueType.TheVariants as vt
use Rattle.core_tree.specs.Numbers.{converted_to, value_of_bytes, bytes_of_value}
use Rattle.core_tree.specs.States.{Done, finished, with_store}
use Rattle.term_bank.specs.Memories.{octets}
use Rattle.term_bank.specs.declared.sort.Node.{Node}
use Rattle.term_bank.specs.declared.shape.Shape.{Shape}
use Rattle.term_bank.specs.declared.shape.Shape.TheVariants.{Read, Write}
use Rattle.term_bank.specs.declared.sort.Sort.TheVariants as sort
use Rattle.term_bank.specs.Terms.{IsTerm, Makes}
use Rattle.term_bank.specs.Values.{Worth, Values}
use Rattle.term_bank.proofs.BankLemmas.{weaken, grows_on}
use Rattle.path_states.specs.declared.state.Number.{Number}
use Rattle.path_states.specs.declared.state.State.{State}
use Rattle.path_states.specs.declared.state.Walked.{Walked}
use Rattle.path_states.specs.States.{Held, IsNumber, IsState, IsSized, run_in, done_in, onto, number_in}
use Rattle.path_states.specs.Ways.{Tries}
use Rattle.path_states.proofs.Growth.{onto_pushed, numbers_joined}
use Rattle.path_numbers.specs.Answers.{Numbered, Worded}
use Rattle.path_numbers.proofs.Nodes.{term_below}
use Rattle.path_steps.specs.declared.settling.Exit.{Exit}
use Rattle.path_steps.specs.Operands.{Pops, top, under, pushed, on_one, on_two}
use Rattle.path_steps.specs.Exits.{Settles, exit_in}
use Rattle.path_steps.specs.Memories.{IsScalar, width_of, load_by, put_by, Guards}
use Rattle.path_steps.proofs.Trials.{tries_settled, done_same}
use Rattle.path_steps.proofs.AccessLemmas.{size_octets, loaded, load_keeps, stored_by, put_keeps}

sized_same : (v : Values) (s t : State) → t ≡ record s { operands = t.operands } → IsSized (done_in v s).store → IsSized (done_in v t).store
sized_same v s t same k =
    let P : Done ℕ → Type 0 = λ d. IsSized d.store in
    subst P (sym (done_same v s t same)) k

pub load_tries : (room : ℕ) (a b c d f g h : List Shape) (s t : State) (p : Number) (address : Node) (x : Access) (exit : Option Exit)
    (node : Node) (number : Number) (w : Walked) → IsScalar x.stored → Pops a b s t p
    → Worded b c W64 address (λ v. unsigned_abs (number_in v p))
    → Guards c d exit (finish.Stopped Dereference x.at)
    (λ v. cond x.is_tested (not (can_access (v t.memory.index).store (v address.index).word (octets (width_of x.stored)))) false)
    → Makes d f (Read (width_of x.stored) t.memory.index address.index) (Ok node)
    → Numbered f g number (λ v. value_of_bytes x.stored (v node.index).word)
    → Settles g h t (record t { operands = t.operands ++ number ∷ [] }) exit None w
    → Tries room a h s w (on_one (λ e z d. load_by x (unsigned_abs z) d))
load_tries room a b c d f g h s t p address x exit node number w scalar hp ha he hr hn hs =
    tries_settled room a g h s t (record t { operands = t.operands ++ number ∷ [] }) exit None w (on_one (λ e z d. load_by x (unsigned_abs z) d))
    (grows_on hp.grows (grows_on ha.grows (grows_on he.grows (grows_on hr.grows hn.grows)))) hp.same hs
    (λ e v m r gd k.
    let mg = weaken hs.grows m in let mf = weaken hn.grows mg in let md = weaken hr.grows mf in let mc = weaken he.grows md in
    let mb = weaken ha.grows mc in
    let n = octets (width_of x.stored) in
    let here = done_in v t in
    let at = (v address.index).word in
    let T = cond x.is_tested (not (can_access here.store at n)) false in
    let E : Option (Result Held (Done ℕ)) = Some (Err (finished (finish.Stopped Dereference x.at) here)) in
    he.is e v md here (Some (Ok (run_in v (record t { operands = t.operands ++ number ∷ [] }))))
    ∙ ap (λ l. cond T E (Some (Ok (record { operands = l; done = here })))) (onto_pushed v [] t.operands number)
    ∙ ap (λ z. cond T E (Some (Ok (record { operands = z ∷ onto v [] t.operands; done = here }))))
    (hn.is e v mg ∙ ap (λ (y : Worth). value_of_bytes x.stored y.word) (hr.value.is e v mf))
    ∙ loaded x at n here (onto v [] t.operands) (size_octets x.stored scalar) (sized_same v s t hp.same k)
    (term_below c W64 address e v ha.bank ha.term mc)
    ∙ ap (λ q. pushed (onto v [] t.operands) (load_by x q here)) (ha.is e v mc ∙ ap unsigned_abs (hp.is e v mb))
    ∙ ap (λ l. pushed l (load_by x (unsigned_abs (top (onto v [] s.operands))) here)) (hp.rest e v mb)
    ∙ ap (λ q. pushed (under (onto v [] s.operands)) (load_by x (unsigned_abs (top (onto v [] s.operands))) q)) (done_same v s t hp.same))
    (record { keeps = λ e v q k. load_keeps (under q.operands) x (unsigned_abs (top q.operands)) q.done k })

bytes_word : (t : ValueType) (z : ℤ) → IsScalar t → word (width_of t) z ≡ bytes_of_value t z
bytes_word vt.Truth z h = refl
bytes_word (vt.Word t) z h = refl
bytes_word vt.Pointer z h = refl
bytes_word vt.Void z h = absurd h
bytes_word (vt.Block bytes) z h = absurd h

pub put_tries : (room : ℕ) (a b c d f g h i j k : List Shape) (at : ℕ) (s t u : State) (y p : Number) (address : Node) (x : Access)
    (exit literal : Option Exit) (number : Number) (spelt memory : Node) (w : Walked) → IsScalar x.stored → Pops a b s t y → Pops b c t u p
    → Worded c d W64 address (λ v. unsigned_abs (number_in v p))
    → Guards d f exit (finish.Stopped Dereference x.at)
    (λ v. cond x.is_tested (not (can_access (v u.memory.index).store (v address.index).word (octets (width_of x.stored)))) false)
    → Guards f g literal (finish.Stopped LiteralWrite at)
    (λ v. cond x.is_tested (not (can_write (v u.memory.index).store (v address.index).word (octets (width_of x.stored)))) false)
    → Numbered g h number (λ v. converted_to x.stored (number_in v y))
    → Worded h i (width_of x.stored) spelt (λ v. word (width_of x.stored) (number_in v number))
    → Makes i j (Write (width_of x.stored) u.memory.index address.index spelt.index) (Ok memory)
    → Settles j k u (record u { operands = u.operands ++ number ∷ []; memory = memory }) exit literal w
    → Tries room a k s w (on_two (λ e q z d. put_by at x (unsigned_abs q) z d))
put_tries room a b c d f g h i j k at s t u y p address x exit literal number spelt memory w scalar hy hp ha he hl hn hw hm hs =
    let same : u ≡ record s { operands = u.operands } = hp.same ∙ ap (λ (n : State). record n { operands = u.operands }) hy.same in
    let next : State = record u { operands = u.operands ++ number ∷ []; memory = memory } in
    tries_settled room a j k s u next exit literal w (on_two (λ e q z d. put_by at x (unsigned_abs q) z d))
    (grows_on hy.grows (grows_on hp.grows (grows_on ha.grows (grows_on he.grows (grows_on hl.grows (grows_on hn.grows (grows_on hw.grows hm.grows)))))))
    same hs
    (λ e v m r gd l.
    let mj = weaken hs.grows m in let mi = weaken hm.grows mj in let mh = weaken hw.grows mi in let mg = weaken hn.grows mh in
    let mf = weaken hl.grows mg in let md = weaken he.grows mf in let mc = weaken ha.grows md in let mb = weaken hp.grows mc in
    let n = octets (width_of x.stored) in
    let here = done_in v u in
    let q = (v address.index).word in
    let z = number_in v y in
    let zs = onto v [] s.operands in
    let T = cond x.is_tested (not (can_access here.store q n)) false in
    let L = cond x.is_tested (not (can_write here.store q n)) false in
    let E : Option (Result Held (Done ℕ)) = Some (Err (finished (finish.Stopped Dereference x.at) here)) in
    let F : Option (Result Held (Done ℕ)) = Some (Err (finished (finish.Stopped LiteralWrite at) here)) in
    let m' = (v spelt.index).word in
    let bytes : m' ≡ bytes_of_value x.stored (converted_to x.stored z) =
    hw.is e v mi ∙ ap (word (width_of x.stored)) (hn.is e v mh) ∙ bytes_word x.stored (converted_to x.stored z) scalar in
    he.is e v mf here (exit_in v literal here (Some (Ok (run_in v next))))
    ∙ ap (λ o. cond T E o) (hl.is e v mg here (Some (Ok (run_in v next))))
    ∙ ap (λ o. cond T E (cond L F (Some (Ok (record { operands = o; done = with_store (v memory.index).store here })))))
    (onto_pushed v [] u.operands number)
    ∙ ap (λ o. cond T E (cond L F (Some (Ok (record { operands = o ∷ onto v [] u.operands; done = with_store (v memory.index).store here })))))
    (hn.is e v mh)
    ∙ ap (λ (o : Worth). cond T E (cond L F
    (Some (Ok (record { operands = converted_to x.stored z ∷ onto v [] u.operands; done = with_store o.store here })))))
    (hm.value.is e v mj)
    ∙ stored_by at x q n m' z here (onto v [] u.operands) (size_octets x.stored scalar) (sized_same v s u same l)
    (term_below d W64 address e v ha.bank ha.term md) bytes
    ∙ ap (λ o. pushed (onto v [] u.operands) (put_by at x o z here))
    (ha.is e v md ∙ ap unsigned_abs (hp.is e v mc ∙ ap top (hy.rest e v mb)))
    ∙ ap (λ o. pushed (onto v [] u.operands) (put_by at x (unsigned_abs (top (under zs))) o here)) (hy.is e v mb)
    ∙ ap (λ o. pushed o (put_by at x (unsigned_abs (top (under zs))) (top zs) here)) (hp.rest e v mc ∙ ap under (hy.rest e v mb))
    ∙ ap (λ o. pushed (under (under zs)) (put_by at x (unsigned_abs (top (under zs))) (top zs) o)) (done_same v s u same))
    (record {
      keeps = λ e v o l. put_keeps (under (under o.operands)) at x (unsigned_abs (top (under o.operands))) (top o.operands) o.done l;
    })

pub with_memory : (b : List Shape) (s : State) (x : Number) (m : Node) → IsState b s → IsNumber b x → IsTerm b sort.Memory m
    → IsState b (record s { operands = s.operands ++ x ∷ []; memory = m })
with_memory b s x m is h k = record {
  guard = is.guard;
  kind = is.kind;
  memory = k;
  value = is.value;
  events = is.events;
  operands = numbers_joined b s.operands (x ∷ []) is.operands (h, tt);
}
