-- Facts put one behind the other.
use Rattle.std.proofs.Common.{◌≡◌, ℕ, zero, suc, Option, Some, None, ◌+◌, ◌<◌, ◌≤◌, Bool, true, false, List, [], ◌∷◌, ◌++◌, length, get_or, take, map, refl, sym, ap, subst, ◌∙◌, append_assoc, add-one, arith}
use Rattle.std.proofs.lemmas.List.{append-nil, take_more, take_all, map-append}
use Rattle.plain_data.specs.declared.fact.Fact.{Fact}
use Rattle.std.specs.Prelude.{slice_get}
use Rattle.std.proofs.lemmas.Option.{get_or_from_slice_get}
use Rattle.plain_data.specs.declared.fact.Facts.{Facts}
use Rattle.plain_data.specs.declared.fact.Watched.{Watched}
use Rattle.core_tree.specs.declared.expr.Watched.{Watched as Variable}
use Rattle.core_tree.specs.declared.program.Core.{Core}
use Rattle.core_tree.specs.declared.program.Function.{Function}
use Rattle.core_marks.specs.Order.{IsInOrder}
use Rattle.core_marks.specs.Programs.{source_marks, library_marks}
use Rattle.core_marks.specs.declared.mark.Mark.{Mark}
use Rattle.core_marks.specs.declared.mark.Mark.TheVariants.{Branch, Call, Body, Log, Exit, Abort, Stop}
use Rattle.core_marks.specs.declared.mark.Site.{Site}
use Rattle.program_facts.specs.Entries.{Entry, plain, each_line, watched, all_watched, PutsVariable, with_fact, with_all, no_facts}
use Rattle.program_facts.specs.Prints.{ArePrintsOf, PutsPrints}
use Rattle.program_facts.specs.Listing.{Gives, GiveAll, PutsMark, PutsMarks, plain_entries, is_log, last_line, end_entries, AreFactsOf}

-- some behind others are all of them
pub with_more : (all : Facts) (xs ys : List Entry) → with_all (with_all all xs) ys ≡ with_all all (xs ++ ys)
with_more all [] ys = refl
with_more all (x ∷ xs) ys = with_more (with_fact all x.fact x.shown) xs ys

pub behind : (all : Facts) (xs ys : List Entry) (old now : Facts) → old ≡ with_all all xs → now ≡ with_all old ys → now ≡ with_all all (xs ++ ys)
behind all xs ys old now p q = q ∙ ap (λ a. with_all a ys) p ∙ with_more all xs ys

-- ---- one more of a list

pub one_more : {X : Type 0} (xs : List X) (i : ℕ) (x : X) → i < length xs → x ≡ get_or xs i x → take (i + 1) xs ≡ take i xs ++ x ∷ []
one_more xs i x h e = take_more xs i x h ∙ ap (λ y. take i xs ++ y ∷ []) (sym e)

pub mapped_more : {X Y : Type 0} (f : X → Y) (xs : List X) (i : ℕ) (x : X) → i < length xs → x ≡ get_or xs i x
    → map f (take (i + 1) xs) ≡ map f (take i xs) ++ f x ∷ []
mapped_more f xs i x h e = ap (map f) (one_more xs i x h e) ∙ map-append f (take i xs) (x ∷ [])

-- there is an item at each index
there_is : {X : Type 0} (xs : List X) (i : ℕ) → i < length xs → slice_get xs i ≡ None → ⊥
there_is [] i h e = absurd (omega arith)
there_is (x ∷ xs) zero h e = cc
there_is (x ∷ xs) (suc i) h e = there_is xs i (omega arith) e

-- one more variable
pub variable_more : (n : ℕ) (shown : List Variable) (i : ℕ) (o : Option Variable) (all old now : List Watched) → i < length shown → slice_get shown i ≡ o
    → PutsVariable n o old now → old ≡ all ++ all_watched n (take i shown) → now ≡ all ++ all_watched n (take (i + 1) shown)
variable_more n shown i None all old now h e p q = absurd (there_is shown i h e)
variable_more n shown i (Some x) all old now h e p q =
    p ∙ ap (λ l. l ++ watched n x ∷ []) q ∙ append_assoc all (all_watched n (take i shown)) (watched n x ∷ [])
    ∙ ap (λ l. all ++ l) (sym (mapped_more (λ y. watched n y) shown i x h (sym (get_or_from_slice_get shown i x x e))))

-- one more line
pub line_more : (f : ℕ → Fact) (i : ℕ) (all old now : Facts) → old ≡ with_all all (each_line f i) → now ≡ with_all old (plain (f (i + 1)) ∷ [])
    → now ≡ with_all all (each_line f (i + 1))
line_more f i all old now p q =
    behind all (each_line f i) (plain (f (i + 1)) ∷ []) old now p q
    ∙ ap (λ n. with_all all (each_line f i ++ plain (f n) ∷ [])) (add-one i) ∙ ap (λ n. with_all all (each_line f n)) (sym (add-one i))

-- ---- marks

module _ (fs : List Function) (log : List ℕ) (last : ℕ) where
  plainly : (m : Mark) → is_log m ≡ false → Gives fs log last m (plain_entries fs last m)
  plainly (Branch at side) h = refl
  plainly (Call at) h = refl
  plainly (Body at function) h = refl
  plainly (Log site) h = absurd (never h)
    where
      never : true ≡ false → ⊥
      never e = cc
  plainly (Exit at) h = refl
  plainly (Abort at) h = refl
  plainly (Stop at kind) h = refl

  pub puts_plain : (m : Mark) (old now : Facts) → is_log m ≡ false → now ≡ with_all old (plain_entries fs last m) → PutsMark fs log last m old now
  puts_plain m old now h e = record { entries = plain_entries fs last m; give = plainly m h; is = e }

  pub puts_prints : (m : Mark) (site : Site) (old now : Facts) → m ≡ Log site → PutsPrints log site old now → PutsMark fs log last m old now
  puts_prints m site old now e p =
      subst (λ x. PutsMark fs log last x old now) (sym e) (record { entries = p.entries; give = p.are; is = p.is })

  give_more : (ms : List Mark) (m : Mark) (xs ys : List Entry) → GiveAll fs log last ms xs → Gives fs log last m ys
      → GiveAll fs log last (ms ++ m ∷ []) (xs ++ ys)
  give_more [] m xs ys g h = (ys, ([], (h, refl, ap (λ l. l ++ ys) g ∙ sym (append-nil ys))))
  give_more (k ∷ ms) m xs ys g h =
      (g.0, (g.1.0 ++ ys, (g.1.1.0, give_more ms m g.1.0 ys g.1.1.1 h, ap (λ l. l ++ ys) g.1.1.2 ∙ append_assoc g.0 g.1.0 ys)))

  pub puts_none : (all : Facts) → PutsMarks fs log last [] all all
  puts_none all = record { entries = []; give = refl; is = refl }

  pub puts_more : (ms : List Mark) (i : ℕ) (m : Mark) (all old now : Facts) → i < length ms → m ≡ get_or ms i m
      → PutsMarks fs log last (take i ms) all old → PutsMark fs log last m old now → PutsMarks fs log last (take (i + 1) ms) all now
  puts_more ms i m all old now h e p q =
      subst (λ l. PutsMarks fs log last l all now) (sym (one_more ms i m h e)) (record {
        entries = p.entries ++ q.entries;
        give = give_more (take i ms) m p.entries q.entries p.give q.give;
        is = behind all p.entries q.entries old now p.is q.is;
      })

  pub puts_all : (ms : List Mark) (i : ℕ) (all now : Facts) → length ms ≤ i → PutsMarks fs log last (take i ms) all now → PutsMarks fs log last ms all now
  puts_all ms i all now h p = subst (λ l. PutsMarks fs log last l all now) (take_all i ms h) p

-- ---- the whole list

pub facts_found : (core : Core) (log : List ℕ) (by_line : Bool) (fs : List Function) (last : ℕ) (source marks ms library ls : List Mark) (none old now : Facts)
    → fs ≡ core.functions → last ≡ last_line by_line log → source ≡ source_marks core → IsInOrder source marks → ms ≡ marks
    → library ≡ library_marks core → ls ≡ library → none ≡ no_facts
    → PutsMarks fs log last ms none old → now ≡ with_all old (end_entries fs ms ls) → AreFactsOf core log by_line now
facts_found core log by_line fs last source marks ms library ls none old now e_fs e_last e_source order e_ms e_library e_ls e_none p is =
    let p1 = subst (λ (f : List Function). PutsMarks f log last ms none old) e_fs p in
    let p2 = subst (λ (n : ℕ). PutsMarks core.functions log n ms none old) e_last p1 in
    let p3 = subst (λ (l : List Mark). PutsMarks core.functions log (last_line by_line log) l none old) e_ms p2 in
    let p4 = subst (λ (x : Facts). PutsMarks core.functions log (last_line by_line log) marks x old) e_none p3 in
    let all = with_all no_facts p4.entries in
    record {
      marks = marks;
      in_order = subst (λ (l : List Mark). IsInOrder l marks) e_source order;
      entries = p4.entries;
      give = p4.give;
      are = is ∙ ap (λ o. with_all o (end_entries fs ms ls)) p4.is ∙ ap (λ f. with_all all (end_entries f ms ls)) e_fs
          ∙ ap (λ m. with_all all (end_entries core.functions m ls)) e_ms
          ∙ ap (λ l. with_all all (end_entries core.functions marks l)) (e_ls ∙ e_library);
    }
