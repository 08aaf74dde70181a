-- Nodes without reads that stand for nodes.
use Rattle.std.proofs.Common.{◌≡◌, ◌%◌, ◌^◌, ◌∷◌, [], ℕ, List, Some, None, Bool, true, refl, sym, ap, subst, ◌∙◌}
use Rattle.std.specs.Prelude.{slice_get, Result, Ok, Err, IfOk, OnOk}
use Rattle.std.specs.Option.{option_map}
use Rattle.std.specs.Map.{lookup}
use Rattle.term_bank.specs.contracts.shape.ShapePartialEq.TheImpl.{ghosts}
use Rattle.plain_data.specs.Words.{bits}
use Rattle.plain_data.specs.declared.width.Width.{Width}
use Rattle.plain_data.specs.declared.width.Width.TheVariants.{W8, W64}
use Rattle.c_store.specs.declared.object.ObjectKind.{ObjectKind}
use Rattle.term_bank.specs.declared.sort.Sort.{Sort}
use Rattle.term_bank.specs.declared.sort.Sort.TheVariants.{Word}
use Rattle.term_bank.specs.declared.sort.Node.{Node}
use Rattle.term_bank.specs.declared.bank.BankFault.{BankFault}
use Rattle.term_bank.specs.declared.shape.Shape.{Shape}
use Rattle.term_bank.specs.declared.shape.Shape.TheVariants.{Flag, Constant, Parameter, Base, Entry, Initial, WorldWord, InitialByte, Binary, Test, Convert, Not, Connect, Choose, Write, ZeroRange, CopyRange, Made, Ended, Read, ObjectSize, IsLive, HasKind, NoEvents, BranchEvent, CallEvent, PrintEvent, EventsBehind, NoNumbers, NumberBehind}
use Rattle.term_bank.specs.Memories.{octets, read}
use Rattle.term_bank.specs.Shapes.{Each, IsNode, IsWell, memory, parts, sort_at, sort_of, word}
use Rattle.term_bank.specs.Values.{Environment, Values, Grows, IsWorth, worth, of_word}
use Rattle.term_bank.specs.Under.{IsOnly, IsOver}
use Rattle.term_bank.specs.Banks.{IsPart, IsBank}
use Rattle.term_bank.specs.Terms.{IsTerm}
use Rattle.term_bank.specs.Images.{Images, Imaged, image_in, over_images}
use Rattle.term_bank.proofs.Worth.{each, worth_same}
use Rattle.term_bank.proofs.BankLemmas.{weaken, grows_on, node_grown}
use Rattle.term_bank.proofs.TermLemmas.{node_of}
use Rattle.term_bank.proofs.ImageLemmas.{image_found, sort_over, well_over}
use Rattle.term_bank.proofs.OverLemmas.{only_below}
use Rattle.flat_reads.specs.Flats.{IsFlatOver, Gives, is_flat}
use Rattle.flat_reads.specs.Answers.{Answers, AreAnswers, answer_in}
use Rattle.flat_reads.specs.Flattened.{IsKept, IsFlattened, HasFlat}

no_answers_at : (answers : Answers) (q : Shape) → answers.entries ≡ [] → answer_in answers q ≡ None
no_answers_at answers q h = ap (λ es. lookup (ghosts.eq q) es) h

pub no_answers : (shapes : List Shape) (answers : Answers) → answers.entries ≡ [] → AreAnswers shapes answers
no_answers shapes answers h = record { are = λ q n is. absurd (none n (sym (no_answers_at answers q h) ∙ is)) } where
  none : (n : Node) → None ≡ Some n → ⊥
  none n e = cc

-- ---- a shape without reads

pub always : {A E : Type 0} (X : Type 0) (r : Result A E) → X → OnOk r X
always X (Ok a) x = x
always X (Err e) x = tt

pub flat_read : (old new : List Shape) (w : Width) (m a : ℕ) (r : Result Node BankFault) → Gives old new (memory m ∷ (word W64 a ∷ [])) (Word w) (λ v. of_word (read (octets w) (v m).store (v a).word)) r → IfOk r (IsFlattened new (Read w m a))
flat_read old new w m a (Ok n) h = record {
  stands = node_of new (Word w) n h.node;
  sort = h.node.same;
  value = λ e v honest k. h.value.is e v honest k;
  flat = λ b g q kept below. h.flat.flat b g q below;
}
flat_read old new w m a (Err e) h = tt

pub flat_byte : (new : List Shape) (row a : ℕ) (r : Result Node BankFault) → IfOk r (IsTerm new (Word W8)) → IfOk r (λ n. IsFlatOver new (word W64 a ∷ []) n.index) → IfOk r (IsWorth new (InitialByte a a)) → IfOk r (IsFlattened new (InitialByte row a))
flat_byte new row a (Ok n) term flat h = record {
  stands = node_of new (Word W8) n term;
  sort = term.same;
  value = λ e v honest k. h.is e v k ∙ ap (λ x. of_word (x % 2 ^ bits W8)) (honest.same a (v a).word ∙ sym (honest.same row (v a).word));
  flat = λ b g q kept below. flat.flat b g q below;
}
flat_byte new row a (Err e) term flat h = tt

-- a shape that asks nothing of a memory, and is no byte of a table
pub record AsksNothing (s : Shape) : Type 0 where
  pub no_read : (w : Width) (m a : ℕ) → s ≡ Read w m a → ⊥
  pub no_byte : (r a : ℕ) → s ≡ InitialByte r a → ⊥
  pub no_live : (m a n : ℕ) → s ≡ IsLive m a n → ⊥
  pub no_kind : (k : ObjectKind) (m p : ℕ) → s ≡ HasKind k m p → ⊥
  pub no_size : (m p : ℕ) → s ≡ ObjectSize m p → ⊥

plain : (q : Shape → Bool) (s : Shape) → AsksNothing s → IsKept q s → is_flat q s ≡ true
plain q (Flag b) other h = refl
plain q (Constant x w) other h = refl
plain q (Parameter k w) other h = h
plain q Base other h = h
plain q Entry other h = h
plain q Initial other h = refl
plain q (WorldWord w p) other h = refl
plain q (InitialByte r a) other h = absurd (other.no_byte r a refl)
plain q (Binary op w x y) other h = refl
plain q (Test t w x y) other h = refl
plain q (Convert x from to a) other h = refl
plain q (Not a) other h = refl
plain q (Connect c a b) other h = refl
plain q (Choose s c a b) other h = refl
plain q (Write w m a x) other h = refl
plain q (ZeroRange m a n) other h = refl
plain q (CopyRange m to source from n) other h = refl
plain q (Made k m p n) other h = refl
plain q (Ended m p) other h = refl
plain q (Read w m a) other h = absurd (other.no_read w m a refl)
plain q (ObjectSize m p) other h = absurd (other.no_size m p refl)
plain q (IsLive m a n) other h = absurd (other.no_live m a n refl)
plain q (HasKind k m p) other h = absurd (other.no_kind k m p refl)
plain q NoEvents other h = refl
plain q (BranchEvent xs n at side) other h = refl
plain q (CallEvent xs n at) other h = refl
plain q (PrintEvent xs n at length seen) other h = refl
plain q (EventsBehind xs ys) other h = refl
plain q NoNumbers other h = refl
plain q (NumberBehind xs w s x) other h = refl

pub flat_other : (new : List Shape) (s : Shape) (r : Result Node BankFault) → AsksNothing s → IfOk r (IsNode new) → IfOk r (λ n. n.sort ≡ sort_of s) → IfOk r (IsWorth new s) → IfOk r (IsOver new s) → IfOk r (IsFlattened new s)
flat_other new s (Ok n) other stands sort h over = record {
  stands = stands;
  sort = sort;
  value = λ e v honest k. h.is e v k;
  flat = λ b g q kept below. over.under b g (is_flat q) (λ _. refl) (λ _ _. refl) (plain q s other kept) below;
}
flat_other new s (Err e) other stands sort h over = tt

-- ---- a shape over images

over_value : (e : Environment) (v : Values) (f : ℕ → ℕ) (s : Shape) → worth e v (over_images f s) ≡ worth e (λ n. v (f n)) s
over_value e v f (Flag b) = refl
over_value e v f (Constant x w) = refl
over_value e v f (Parameter k w) = refl
over_value e v f Base = refl
over_value e v f Entry = refl
over_value e v f Initial = refl
over_value e v f (WorldWord w p) = refl
over_value e v f (InitialByte r a) = refl
over_value e v f (Binary op w x y) = refl
over_value e v f (Test t w x y) = refl
over_value e v f (Convert x from to a) = refl
over_value e v f (Not a) = refl
over_value e v f (Connect c a b) = refl
over_value e v f (Choose s c a b) = refl
over_value e v f (Write w m a x) = refl
over_value e v f (ZeroRange m a n) = refl
over_value e v f (CopyRange m to source from n) = refl
over_value e v f (Made k m p n) = refl
over_value e v f (Ended m p) = refl
over_value e v f (Read w m a) = refl
over_value e v f (ObjectSize m p) = refl
over_value e v f (IsLive m a n) = refl
over_value e v f (HasKind k m p) = refl
over_value e v f NoEvents = refl
over_value e v f (BranchEvent xs n at side) = refl
over_value e v f (CallEvent xs n at) = refl
over_value e v f (PrintEvent xs n at length seen) = refl
over_value e v f (EventsBehind xs ys) = refl
over_value e v f NoNumbers = refl
over_value e v f (NumberBehind xs w s x) = refl

over_kept : (q : Shape → Bool) (f : ℕ → ℕ) (s : Shape) → q s ≡ true → IsKept q (over_images f s)
over_kept q f (Flag b) h = tt
over_kept q f (Constant x w) h = tt
over_kept q f (Parameter k w) h = h
over_kept q f Base h = h
over_kept q f Entry h = h
over_kept q f Initial h = tt
over_kept q f (WorldWord w p) h = tt
over_kept q f (InitialByte r a) h = tt
over_kept q f (Binary op w x y) h = tt
over_kept q f (Test t w x y) h = tt
over_kept q f (Convert x from to a) h = tt
over_kept q f (Not a) h = tt
over_kept q f (Connect c a b) h = tt
over_kept q f (Choose s c a b) h = tt
over_kept q f (Write w m a x) h = tt
over_kept q f (ZeroRange m a n) h = tt
over_kept q f (CopyRange m to source from n) h = tt
over_kept q f (Made k m p n) h = tt
over_kept q f (Ended m p) h = tt
over_kept q f (Read w m a) h = tt
over_kept q f (ObjectSize m p) h = tt
over_kept q f (IsLive m a n) h = tt
over_kept q f (HasKind k m p) h = tt
over_kept q f NoEvents h = tt
over_kept q f (BranchEvent xs n at side) h = tt
over_kept q f (CallEvent xs n at) h = tt
over_kept q f (PrintEvent xs n at length seen) h = tt
over_kept q f (EventsBehind xs ys) h = tt
over_kept q f NoNumbers h = tt
over_kept q f (NumberBehind xs w s x) h = tt

over_parts : (P : ℕ → Type 0) (f : ℕ → ℕ) (s : Shape) → Each (λ p. P (f p.index)) (parts s) → Each (λ p. P p.index) (parts (over_images f s))
over_parts P f (Flag b) h = h
over_parts P f (Constant x w) h = h
over_parts P f (Parameter k w) h = h
over_parts P f Base h = h
over_parts P f Entry h = h
over_parts P f Initial h = h
over_parts P f (WorldWord w p) h = h
over_parts P f (InitialByte r a) h = h
over_parts P f (Binary op w x y) h = h
over_parts P f (Test t w x y) h = h
over_parts P f (Convert x from to a) h = h
over_parts P f (Not a) h = h
over_parts P f (Connect c a b) h = h
over_parts P f (Choose s c a b) h = h
over_parts P f (Write w m a x) h = h
over_parts P f (ZeroRange m a n) h = h
over_parts P f (CopyRange m to source from n) h = h
over_parts P f (Made k m p n) h = h
over_parts P f (Ended m p) h = h
over_parts P f (Read w m a) h = h
over_parts P f (ObjectSize m p) h = h
over_parts P f (IsLive m a n) h = h
over_parts P f (HasKind k m p) h = h
over_parts P f NoEvents h = h
over_parts P f (BranchEvent xs n at side) h = h
over_parts P f (CallEvent xs n at) h = h
over_parts P f (PrintEvent xs n at length seen) h = h
over_parts P f (EventsBehind xs ys) h = h
over_parts P f NoNumbers h = h
over_parts P f (NumberBehind xs w s x) h = h

-- ---- the loop

pub flat_grown : (a b : List Shape) → Grows a b → (n : ℕ) (node : Node) → HasFlat a n node → HasFlat b n node
flat_grown a b g n node h = record {
  stands = node_grown a b node g h.stands;
  sort = (node_grown a b (record { index = n; sort = node.sort }) g (record { sorted = h.sort })).sorted;
  value = λ e v honest m. h.value e v honest (weaken g m);
  flat = λ l k q x. h.flat l (grows_on g k) q x;
}

-- what stands for a node's parts may be the parts of its shape
pub parts_well : (old now : List Shape) (images : Images) (k : ℕ) (s : Shape) → Grows old now → IsBank old → slice_get old k ≡ Some s → Each (λ p. Imaged (HasFlat now) images p.index) (parts s) → IsWell now (over_images (image_in images) s)
parts_well old now images k s g bank is h = let well = bank.well k s is in well_over now (image_in images) s (part_nodes (parts s) well.each_part h) well.in_width where
  of_some : (s t : Sort) → Some s ≡ Some t → s ≡ t
  of_some s t e = cc

  part_node : (p : Node) → IsPart old k p → Imaged (HasFlat now) images p.index → IsNode now (record { index = image_in images p.index; sort = p.sort })
  part_node p part i =
      let sorts : i.node.sort ≡ p.sort = of_some i.node.sort p.sort (sym i.is.sort ∙ (node_grown old now p g part.stands).sorted) in
      record { sorted = ap (sort_at now) (image_found images p.index i.node i.found) ∙ i.is.stands.sorted ∙ ap (λ t. Some t) sorts }

  part_nodes : (ps : List Node) → Each (IsPart old k) ps → Each (λ p. Imaged (HasFlat now) images p.index) ps → Each (λ p. IsNode now (record { index = image_in images p.index; sort = p.sort })) ps
  part_nodes [] a b = tt
  part_nodes (p ∷ ps) a b = (part_node p a.0 b.0, part_nodes ps a.1 b.1)

-- what stands for a shape over images stands for its node
pub flat_made : (old a b : List Shape) (images : Images) (k : ℕ) (s : Shape) (node : Node) → Grows old a → Grows a b → slice_get old k ≡ Some s → Each (λ p. Imaged (HasFlat a) images p.index) (parts s) → IsFlattened b (over_images (image_in images) s) node → HasFlat b k node
flat_made old a b images k s node before g is h i =
    let f = image_in images in
    let here = (grows_on before g).kept k s is in
    record {
      stands = i.stands;
      sort = ap (option_map sort_of) here ∙ ap (λ t. Some t) (sym (i.sort ∙ sort_over f s));
      value = λ e v honest m.
          i.value e v honest m
          ∙ over_value e v f s
          ∙ worth_same e (λ n. v (f n)) v s (each (λ p. Imaged (HasFlat a) images p.index) (λ p. v (f p.index) ≡ v p.index) (parts s)
          (λ p x. ap v (image_found images p.index x.node x.found) ∙ x.is.value e v honest (weaken g m)) h)
          ∙ sym (m.has k s here);
      flat = λ l up q only.
          let below = only_below q l k s (up.kept k s here) only in
          i.flat l up q (over_kept q f s below.0) (over_parts (λ n. IsOnly (is_flat q) l n) f s
          (both (λ p. Imaged (HasFlat a) images p.index) (λ p. IsOnly q l p.index) (λ p. IsOnly (is_flat q) l (f p.index)) (parts s)
          (λ p x y. subst (λ n. IsOnly (is_flat q) l n) (sym (image_found images p.index x.node x.found)) (x.is.flat l (grows_on g up) q y)) h below.1));
    }
  where
    both : (P Q R : Node → Type 0) (ps : List Node) → ((p : Node) → P p → Q p → R p) → Each P ps → Each Q ps → Each R ps
    both P Q R [] f h k = tt
    both P Q R (p ∷ ps) f h k = (f p h.0 k.0, both P Q R ps f h.1 k.1)
