-- Nodes that stand for nodes.
use Rattle.std.proofs.Common.{◌≡◌, ◌∷◌, [], ℕ, List, Some, Bool, true, false, map, arith, refl, sym, ap, subst, ◌∙◌, cond, nat_eq}
use Rattle.std.specs.Prelude.{unwrap_or}
use Rattle.std.specs.HashMap.{get}
use Rattle.std.proofs.lemmas.Bool.Decides.{nat_tests}
use Rattle.term_bank.specs.declared.sort.Node.{Node}
use Rattle.term_bank.specs.declared.shape.Shape.{Shape}
use Rattle.term_bank.specs.declared.shape.Shape.TheVariants.{Flag, Constant, Parameter, Base, Entry, Initial, WorldWord, InitialByte, Binary, Test, Convert, Not, Connect, Choose, Write, ZeroRange, CopyRange, Made, Ended, Read, ObjectSize, IsLive, HasKind, NoEvents, BranchEvent, CallEvent, PrintEvent, EventsBehind, NoNumbers, NumberBehind}
use Rattle.term_bank.specs.Shapes.{Each, IsInWidth, IsNode, IsWell, parts, sort_of}
use Rattle.term_bank.specs.Images.{Images, Imaged, AreImages, Puts, image_at, image_in, index_in, over_images}

pub sort_over : (f : ℕ → ℕ) (s : Shape) → sort_of (over_images f s) ≡ sort_of s
sort_over f (Flag b) = refl
sort_over f (Constant x w) = refl
sort_over f (Parameter k w) = refl
sort_over f Base = refl
sort_over f Entry = refl
sort_over f Initial = refl
sort_over f (WorldWord w p) = refl
sort_over f (InitialByte r a) = refl
sort_over f (Binary op w x y) = refl
sort_over f (Test t w x y) = refl
sort_over f (Convert x from to a) = refl
sort_over f (Not a) = refl
sort_over f (Connect c a b) = refl
sort_over f (Choose s c a b) = refl
sort_over f (Write w m a x) = refl
sort_over f (ZeroRange m a n) = refl
sort_over f (CopyRange m to source from n) = refl
sort_over f (Made k m p n) = refl
sort_over f (Ended m p) = refl
sort_over f (Read w m a) = refl
sort_over f (ObjectSize m p) = refl
sort_over f (IsLive m a n) = refl
sort_over f (HasKind k m p) = refl
sort_over f NoEvents = refl
sort_over f (BranchEvent xs n at side) = refl
sort_over f (CallEvent xs n at) = refl
sort_over f (PrintEvent xs n at length seen) = refl
sort_over f (EventsBehind xs ys) = refl
sort_over f NoNumbers = refl
sort_over f (NumberBehind xs w s x) = refl

-- a shape over other parts may be added where these have the sorts that its operator asks for
pub well_over : (shapes : List Shape) (f : ℕ → ℕ) (s : Shape) → Each (λ p. IsNode shapes (record { index = f p.index; sort = p.sort })) (parts s) → IsInWidth s → IsWell shapes (over_images f s)
well_over shapes f (Flag b) q h = record { parts_stand = q; in_width = h }
well_over shapes f (Constant x w) q h = record { parts_stand = q; in_width = h }
well_over shapes f (Parameter k w) q h = record { parts_stand = q; in_width = h }
well_over shapes f Base q h = record { parts_stand = q; in_width = h }
well_over shapes f Entry q h = record { parts_stand = q; in_width = h }
well_over shapes f Initial q h = record { parts_stand = q; in_width = h }
well_over shapes f (WorldWord w p) q h = record { parts_stand = q; in_width = h }
well_over shapes f (InitialByte r a) q h = record { parts_stand = q; in_width = h }
well_over shapes f (Binary op w x y) q h = record { parts_stand = q; in_width = h }
well_over shapes f (Test t w x y) q h = record { parts_stand = q; in_width = h }
well_over shapes f (Convert x from to a) q h = record { parts_stand = q; in_width = h }
well_over shapes f (Not a) q h = record { parts_stand = q; in_width = h }
well_over shapes f (Connect c a b) q h = record { parts_stand = q; in_width = h }
well_over shapes f (Choose s c a b) q h = record { parts_stand = q; in_width = h }
well_over shapes f (Write w m a x) q h = record { parts_stand = q; in_width = h }
well_over shapes f (ZeroRange m a n) q h = record { parts_stand = q; in_width = h }
well_over shapes f (CopyRange m to source from n) q h = record { parts_stand = q; in_width = h }
well_over shapes f (Made k m p n) q h = record { parts_stand = q; in_width = h }
well_over shapes f (Ended m p) q h = record { parts_stand = q; in_width = h }
well_over shapes f (Read w m a) q h = record { parts_stand = q; in_width = h }
well_over shapes f (ObjectSize m p) q h = record { parts_stand = q; in_width = h }
well_over shapes f (IsLive m a n) q h = record { parts_stand = q; in_width = h }
well_over shapes f (HasKind k m p) q h = record { parts_stand = q; in_width = h }
well_over shapes f NoEvents q h = record { parts_stand = q; in_width = h }
well_over shapes f (BranchEvent xs n at side) q h = record { parts_stand = q; in_width = h }
well_over shapes f (CallEvent xs n at) q h = record { parts_stand = q; in_width = h }
well_over shapes f (PrintEvent xs n at length seen) q h = record { parts_stand = q; in_width = h }
well_over shapes f (EventsBehind xs ys) q h = record { parts_stand = q; in_width = h }
well_over shapes f NoNumbers q h = record { parts_stand = q; in_width = h }
well_over shapes f (NumberBehind xs w s x) q h = record { parts_stand = q; in_width = h }

pub image_found : (images : Images) (n : ℕ) (node : Node) → get nat_eq images n ≡ Some node → image_in images n ≡ node.index
image_found images n node is = ap index_in is

-- what was said of images is said of them with one more
pub imaged_more : (P Q : ℕ → Node → Type 0) (old new : Images) (k : ℕ) (node : Node) → Puts old new k node → ((n : ℕ) (m : Node) → P n m → Q n m) → Q k node → (q : ℕ) → Imaged P old q → Imaged Q new q
imaged_more P Q old new k node puts f here q h = split (nat_eq k q) refl where
  same : (k q : ℕ) → nat_eq k q ≡ true → k ≡ q
  same k q h = grind (arith, nat_tests)

  split : (s : Bool) → nat_eq k q ≡ s → Imaged Q new q
  split true is = record { node = node; found = puts q ∙ ap (λ b. cond b (Some node) (get nat_eq old q)) is; is = subst (λ n. Q n node) (same k q is) here }
  split false is = record { node = h.node; found = puts q ∙ ap (λ b. cond b (Some node) (get nat_eq old q)) is ∙ h.found; is = f q h.node h.is }

pub imaged_here : (Q : ℕ → Node → Type 0) (old new : Images) (k : ℕ) (node : Node) → Puts old new k node → Q k node → Imaged Q new k
imaged_here Q old new k node puts here = record { node = node; found = puts k ∙ ap (λ b. cond b (Some node) (get nat_eq old k)) (same k); is = here } where
  same : (k : ℕ) → nat_eq k k ≡ true
  same k = grind arith

-- the images of roots that each have one
pub all_images : (P : ℕ → Node → Type 0) (images : Images) (roots : List Node) → Each (λ r. Imaged P images r.index) roots → AreImages P roots (map (image_at images) roots)
all_images P images [] h = tt
all_images P images (r ∷ roots) h = (subst (λ n. P r.index n) (sym (ap (λ o. unwrap_or o r) h.0.found)) h.0.is, all_images P images roots h.1)
