-- What is put in for the entry memory, the parameters and the base.
use Rattle.std.proofs.Common.{◌≡◌, ◌%◌, ◌^◌, ◌++◌, ◌∷◌, [], ◌⊎◌, ℕ, zero, suc, List, Some, None, map, inl, inr, refl, sym, ap, subst, ◌∙◌}
use Rattle.std.specs.Prelude.{slice_get, slice_index}
use Rattle.std.specs.Option.{option_map}
use Rattle.std.proofs.Math.Nat.{mod-eq_of_lt}
use Rattle.std.proofs.Math.Pow.{pow_pos}
use Rattle.std.specs.Prelude.{Result, Ok, Err, IfOk}
use Rattle.plain_data.specs.Words.{bits}
use Rattle.plain_data.specs.declared.width.Width.{Width}
use Rattle.plain_data.specs.declared.width.Width.TheVariants.{W64}
use Rattle.term_bank.specs.declared.sort.Sort.{Sort}
use Rattle.term_bank.specs.declared.sort.Sort.TheVariants as sort
use Rattle.term_bank.specs.declared.sort.Node.{Node}
use Rattle.term_bank.specs.declared.binding.Binding.{Binding}
use Rattle.term_bank.specs.declared.shape.Extension.TheVariants as extension
use Rattle.term_bank.specs.declared.shape.Shape.{Shape}
use Rattle.term_bank.specs.declared.shape.Shape.TheVariants.{Flag, Constant, Parameter, Base, Entry, Initial, WorldWord, InitialByte, Binary, Test, Convert, Not, Connect, Choose, Write, ZeroRange, CopyRange, Made, Ended, Read, ObjectSize, IsLive, HasKind, NoEvents, BranchEvent, CallEvent, PrintEvent, EventsBehind, NoNumbers, NumberBehind}
use Rattle.term_bank.specs.Shapes.{Each, IsNode, IsWell, parts, sort_of, sort_at}
use Rattle.term_bank.specs.Values.{Environment, Worth, Values, Models, Grows, IsOfSort, IsWorth, worth, of_word, converted}
use Rattle.term_bank.specs.Banks.{IsPart, IsBank}
use Rattle.term_bank.specs.Images.{Images, Imaged, image_in, over_images}
use Rattle.term_bank.specs.Bindings.{IsBinding, HasImage, HasWordOf, IsPutIn, bound}
use Rattle.term_bank.proofs.Worth.{each, worth_same}
use Rattle.term_bank.proofs.BankLemmas.{shape_of, weaken, node_grown}
use Rattle.term_bank.specs.Under.{IsHeld}
use Rattle.term_bank.proofs.UnderLemmas.{held_last}
use Rattle.term_bank.proofs.ImageLemmas.{image_found, sort_over, well_over}

-- a node's value is of its sort
pub node_sorted : (shapes : List Shape) (e : Environment) (v : Values) (node : Node) → IsBank shapes → IsNode shapes node → Models shapes e v → IsOfSort node.sort (v node.index)
node_sorted shapes e v node bank h m =
    let found = shape_of shapes node h in
    subst (λ s. IsOfSort s (v node.index)) found.2 (bank.sorted e v m node.index found.0 found.1)

word_kept : (w : Width) (x : Worth) → IsOfSort (sort.Word w) x → x ≡ of_word (x.word % 2 ^ bits w)
word_kept w x h = h.0 ∙ ap of_word (sym (mod-eq_of_lt h.1))

-- a shape that stands for itself has the value over what stands for its parts
pub put_value : (e : Environment) (v : Values) (put : Binding) (f : ℕ → ℕ) (s : Shape) → ((k : ℕ) (w : Width) → s ≡ Parameter k w → ⊥) → (s ≡ Base → ⊥) → (s ≡ Entry → ⊥) → worth e v (over_images f s) ≡ worth (bound e v put) (λ n. v (f n)) s
put_value e v put f (Flag b) no_parameter no_base no_entry = refl
put_value e v put f (Constant x w) no_parameter no_base no_entry = refl
put_value e v put f (Parameter k w) no_parameter no_base no_entry = absurd (no_parameter k w refl)
put_value e v put f Base no_parameter no_base no_entry = absurd (no_base refl)
put_value e v put f Entry no_parameter no_base no_entry = absurd (no_entry refl)
put_value e v put f Initial no_parameter no_base no_entry = refl
put_value e v put f (WorldWord w p) no_parameter no_base no_entry = refl
put_value e v put f (InitialByte r a) no_parameter no_base no_entry = refl
put_value e v put f (Binary op w x y) no_parameter no_base no_entry = refl
put_value e v put f (Test t w x y) no_parameter no_base no_entry = refl
put_value e v put f (Convert x from to a) no_parameter no_base no_entry = refl
put_value e v put f (Not a) no_parameter no_base no_entry = refl
put_value e v put f (Connect c a b) no_parameter no_base no_entry = refl
put_value e v put f (Choose s c a b) no_parameter no_base no_entry = refl
put_value e v put f (Write w m a x) no_parameter no_base no_entry = refl
put_value e v put f (ZeroRange m a n) no_parameter no_base no_entry = refl
put_value e v put f (CopyRange m to source from n) no_parameter no_base no_entry = refl
put_value e v put f (Made k m p n) no_parameter no_base no_entry = refl
put_value e v put f (Ended m p) no_parameter no_base no_entry = refl
put_value e v put f (Read w m a) no_parameter no_base no_entry = refl
put_value e v put f (ObjectSize m p) no_parameter no_base no_entry = refl
put_value e v put f (IsLive m a n) no_parameter no_base no_entry = refl
put_value e v put f (HasKind k m p) no_parameter no_base no_entry = refl
put_value e v put f NoEvents no_parameter no_base no_entry = refl
put_value e v put f (BranchEvent xs n at side) no_parameter no_base no_entry = refl
put_value e v put f (CallEvent xs n at) no_parameter no_base no_entry = refl
put_value e v put f (PrintEvent xs n at length seen) no_parameter no_base no_entry = refl
put_value e v put f (EventsBehind xs ys) no_parameter no_base no_entry = refl
put_value e v put f NoNumbers no_parameter no_base no_entry = refl
put_value e v put f (NumberBehind xs w s x) no_parameter no_base no_entry = refl

pub put_shape : (shapes : List Shape) (put : Binding) (f : ℕ → ℕ) (s : Shape) (node : Node) → ((k : ℕ) (w : Width) → s ≡ Parameter k w → ⊥) → (s ≡ Base → ⊥) → (s ≡ Entry → ⊥) → IsNode shapes node → node.sort ≡ sort_of (over_images f s) → IsWorth shapes (over_images f s) node → IsPutIn shapes put f s node
put_shape shapes put f s node no_parameter no_base no_entry stands is h = record {
  stands = stands;
  sort = is ∙ sort_over f s;
  value = λ e v m. h.is e v m ∙ put_value e v put f s no_parameter no_base no_entry;
}

pub put_base : (shapes : List Shape) (put : Binding) (f : ℕ → ℕ) → IsBank shapes → IsBinding shapes put → IsPutIn shapes put f Base put.base
put_base shapes put f bank is = record {
  stands = is.base;
  sort = is.base_sort;
  value = λ e v m. word_kept W64 (v put.base.index) (subst (λ s. IsOfSort s (v put.base.index)) is.base_sort (node_sorted shapes e v put.base bank is.base m));
}

pub put_entry : (shapes : List Shape) (put : Binding) (f : ℕ → ℕ) → IsBank shapes → IsBinding shapes put → IsPutIn shapes put f Entry put.entry
put_entry shapes put f bank is = record {
  stands = is.entry;
  sort = is.entry_sort;
  value = λ e v m. subst (λ s. IsOfSort s (v put.entry.index)) is.entry_sort (node_sorted shapes e v put.entry bank is.entry m);
}

-- ---- parameters

pub index_some : (xs : List Node) (k : ℕ) (n : Node) (f : Node → ℕ) → slice_get xs k ≡ Some n → slice_index (map f xs) k ≡ f n
index_some [] k n f is = absurd (cc)
index_some (x ∷ xs) zero n f is = let same : x ≡ n = cc in ap f same
index_some (x ∷ xs) (suc k) n f is = index_some xs k n f is

pub index_none : (xs : List Node) (k : ℕ) (f : Node → ℕ) → slice_get xs k ≡ None → slice_index (map f xs) k ≡ 0
index_none [] k f is = refl
index_none (x ∷ xs) zero f is = absurd (cc)
index_none (x ∷ xs) (suc k) f is = index_none xs k f is

pub each_at : (P : Node → Type 0) (xs : List Node) (k : ℕ) (n : Node) → Each P xs → slice_get xs k ≡ Some n → P n
each_at P [] k n h is = absurd (cc)
each_at P (x ∷ xs) zero n h is = let same : x ≡ n = cc in subst P same h.0
each_at P (x ∷ xs) (suc k) n h is = each_at P xs k n h.1 is

-- ---- the loop

-- what stands for a node's parts may be the parts of its shape
pub parts_well : (old now : List Shape) (put : Binding) (images : Images) (k : ℕ) (s : Shape) → IsBank old → slice_get old k ≡ Some s → Each (λ p. Imaged (HasImage old now put) images p.index) (parts s) → IsWell now (over_images (image_in images) s)
parts_well old now put images k s bank is h = let well = bank.well k s is in well_over now (image_in images) s (part_nodes (parts s) well.each_part h) well.in_width where
  of_some : (s t : Sort) → Some s ≡ Some t → s ≡ t
  of_some s t e = cc

  part_node : (p : Node) → IsPart old k p → Imaged (HasImage old now put) images p.index → IsNode now (record { index = image_in images p.index; sort = p.sort })
  part_node p part i =
      let sorts : i.node.sort ≡ p.sort = of_some i.node.sort p.sort (sym i.is.sort ∙ part.stands.sorted) in
      record { sorted = ap (sort_at now) (image_found images p.index i.node i.found) ∙ i.is.stands.sorted ∙ ap (λ t. Some t) sorts }

  part_nodes : (ps : List Node) → Each (IsPart old k) ps → Each (λ p. Imaged (HasImage old now put) images p.index) ps → Each (λ p. IsNode now (record { index = image_in images p.index; sort = p.sort })) ps
  part_nodes [] a b = tt
  part_nodes (p ∷ ps) a b = (part_node p a.0 b.0, part_nodes ps a.1 b.1)

pub image_grown : (old a b : List Shape) (put : Binding) → Grows a b → (n : ℕ) (node : Node) → HasImage old a put n node → HasImage old b put n node
image_grown old a b put g n node h = record {
  stands = node_grown a b node g h.stands;
  sort = h.sort;
  value = λ e v w m l. h.value e v w (weaken g m) l;
}

-- what is put in for a shape stands for its node
pub image_made : (old a b : List Shape) (put : Binding) (images : Images) (k : ℕ) (s : Shape) (node : Node) → Grows a b → slice_get old k ≡ Some s → Each (λ p. Imaged (HasImage old a put) images p.index) (parts s) → IsPutIn b put (image_in images) s node → HasImage old b put k node
image_made old a b put images k s node g is h i = record {
  stands = i.stands;
  sort = ap (option_map sort_of) is ∙ ap (λ t. Some t) (sym i.sort);
  value = λ e v w m l.
      i.value e v m
      ∙ worth_same (bound e v put) (λ n. v (image_in images n)) w s (each (λ p. Imaged (HasImage old a put) images p.index) (λ p. v (image_in images p.index) ≡ w p.index) (parts s)
      (λ p x. ap v (image_found images p.index x.node x.found) ∙ x.is.value e v w (weaken g m) l) h)
      ∙ sym (l.has k s is);
}

-- ---- what a node's word is in another width

-- what is said of an answer by three things that are said of it
pub if_ok : {E : Type 0} (P Q R S : Node → Type 0) (r : Result Node E) → IfOk r P → IfOk r Q → IfOk r R → ((n : Node) → P n → Q n → R n → S n) → IfOk r S
if_ok P Q R S (Ok n) p q r f = f n p q r
if_ok P Q R S (Err e) p q r f = tt

pub word_same : (shapes : List Shape) (node : Node) (from w : Width) → IsBank shapes → IsNode shapes node → node.sort ≡ sort.Word from → from ≡ w → HasWordOf shapes node w node
word_same shapes node from w bank is s same =
    let sorts : node.sort ≡ sort.Word w = s ∙ ap sort.Word same in
    record { stands = is; sort = sorts; value = λ e v m. word_kept w (v node.index) (subst (λ s. IsOfSort s (v node.index)) sorts (node_sorted shapes e v node bank is m)) }

converted-zero : (from to : Width) (x : ℕ) → converted extension.Zero from to x ≡ x % 2 ^ bits to
unfolding converted
converted-zero from to x = refl

pub word_converted : (shapes : List Shape) (node : Node) (from w : Width) (new : Node) → IsNode shapes new → new.sort ≡ sort.Word w → IsWorth shapes (Convert extension.Zero from w node.index) new → HasWordOf shapes node w new
word_converted shapes node from w new is s h = record { stands = is; sort = s; value = λ e v m. h.is e v m ∙ ap of_word (converted-zero from w (v node.index).word) }

-- words aside
abbrev pub IsNoWord : Sort → Type 0
IsNoWord (sort.Word w) = ⊥
IsNoWord _ = Unit {0}

pub no_words : (s : Sort) → (s ≡ sort.Truth) ⊎ ((s ≡ sort.Memory) ⊎ ((s ≡ sort.Events) ⊎ (s ≡ sort.Numbers))) → IsNoWord s
no_words s (inl h) = rw h tt
no_words s (inr (inl h)) = rw h tt
no_words s (inr (inr (inl h))) = rw h tt
no_words s (inr (inr (inr h))) = rw h tt

no_word : (s : Sort) (x : Worth) → IsNoWord s → IsOfSort s x → x.word ≡ 0
no_word sort.Truth x h k = ap (λ (y : Worth). y.word) k
no_word (sort.Word w) x h k = absurd h
no_word sort.Memory x h k = ap (λ (y : Worth). y.word) k
no_word sort.Events x h k = ap (λ (y : Worth). y.word) k
no_word sort.Numbers x h k = ap (λ (y : Worth). y.word) k

zero_kept : (w : Width) (x : ℕ) → x ≡ 0 → 0 ≡ x % 2 ^ bits w
zero_kept w x h = sym (ap (λ n. n % 2 ^ bits w) h ∙ mod-eq_of_lt (pow_pos (bits w)))

pub word_none : (old new : List Shape) (node : Node) (w : Width) (made : Node) → IsBank old → IsNode old node → Grows old new → IsNoWord node.sort → IsNode new made → made.sort ≡ sort.Word w → IsWorth new (Constant 0 w) made → HasWordOf new node w made
word_none old new node w made bank here g none is s h = record {
  stands = is;
  sort = s;
  value = λ e v m. h.is e v m ∙ ap of_word (zero_kept w (v node.index).word (no_word node.sort (v node.index) none (node_sorted old e v node bank here (weaken g m))));
}

pub put_parameter : (shapes : List Shape) (put : Binding) (f : ℕ → ℕ) (k : ℕ) (w : Width) (node made : Node) → slice_get put.parameters k ≡ Some node → HasWordOf shapes node w made → IsPutIn shapes put f (Parameter k w) made
put_parameter shapes put f k w node made is h = record {
  stands = h.stands;
  sort = h.sort;
  value = λ e v m. h.value e v m ∙ ap (λ x. of_word (x % 2 ^ bits w)) (sym (index_some put.parameters k node (λ n. (v n.index).word) is));
}

pub put_no_parameter : (shapes : List Shape) (put : Binding) (f : ℕ → ℕ) (k : ℕ) (w : Width) (made : Node) → slice_get put.parameters k ≡ None → IsNode shapes made → made.sort ≡ sort.Word w → IsWorth shapes (Constant 0 w) made → IsPutIn shapes put f (Parameter k w) made
put_no_parameter shapes put f k w made none is s h = record {
  stands = is;
  sort = s;
  value = λ e v m. h.is e v m ∙ ap of_word (zero_kept w _ (index_none put.parameters k (λ n. (v n.index).word) none));
}

pub binding_grown : (a b : List Shape) (put : Binding) → Grows a b → IsBinding a put → IsBinding b put
binding_grown a b put g h = record {
  entry = node_grown a b put.entry g h.entry;
  entry_sort = h.entry_sort;
  parameters = each (IsNode a) (IsNode b) put.parameters (λ p is. node_grown a b p g is) h.parameters;
  base = node_grown a b put.base g h.base;
  base_sort = h.base_sort;
}

-- ---- the last number of a list whose parts are held

-- the node's shape, with what its parts have
pub record IsReady (shapes : List Shape) (P : ℕ → Type 0) (k : ℕ) (shape : Shape) : Type 0 where
  pub is : slice_get shapes k ≡ Some shape
  pub parts_have : Each (λ p. P p.index) (parts shape)

pub ready : (old now : List Shape) (P : ℕ → Type 0) (ns : List ℕ) (k : ℕ) (shape : Shape) → Grows old now → IsHeld old P (ns ++ k ∷ []) → slice_get now k ≡ Some shape → IsReady old P k shape
ready old now P ns k shape g held is =
    let over = held_last old P ns k held in
    let same : over.shape ≡ shape = of_some over.shape shape (sym (g.kept k over.shape over.is) ∙ is) in
    subst (λ s. IsReady old P k s) same (record { is = over.is; parts_have = each (λ p. ⊥ ⊎ P p.index) (λ p. P p.index) (parts over.shape) (λ p x. elim x [ inl y ↦ absurd y | inr y ↦ y ]) over.parts_in })
  where
    of_some : (s t : Shape) → Some s ≡ Some t → s ≡ t
    of_some s t e = cc

-- the last number has a shape
pub has_shape : (old now : List Shape) (P : ℕ → Type 0) (ns : List ℕ) (k : ℕ) → Grows old now → IsHeld old P (ns ++ k ∷ []) → (s : Shape) × (slice_get now k ≡ Some s)
has_shape old now P ns k g held = let over = held_last old P ns k held in (over.shape, g.kept k over.shape over.is)
