-- The answers of a shelf in memory are those of a shelf.
use Rattle.std.proofs.Common.{◌≡◌, ◌≤◌, ◌<◌, ◌+◌, ℕ, List, Option, Some, None, Result, Ok, Err, IfOk, length, inl, refl, ◌∙◌, subst, ap, unwrap_or, arith}
use Rattle.sl_io.specs.Counts.{Rose, RoseBy}
use Rattle.sl_io.specs.ShelfStates.{Files, CountsOn, Holds}
use Rattle.sl_io.specs.Gets.{Gets, GetsTold}
use Rattle.sl_io.specs.Puts.{Puts}
use Rattle.sl_io.specs.declared.faults.PutFault.{PutFault}
use Rattle.sl_io.specs.declared.faults.PutFault.TheVariants as put
use Rattle.sl_io.specs.MemoryShelves.{told_state, got_count, IsAnswer, Later}
use Rattle.sl_io.specs.declared.faults.GetFault.{GetFault}
use Rattle.sl_io.specs.declared.faults.GetFault.TheVariants.{Failed, TooLong}
use Rattle.sl_io.specs.declared.mem_shelf.ShelfCounts.{ShelfCounts}

-- what an answer says of the file
pub record Answered (file : Option (List ℕ)) (limit : ℕ) (result : Result (List ℕ) GetFault) : Type 0 where
  pub within : IfOk result (λ bytes. length bytes ≤ limit)
  pub held : IfOk result (λ bytes. file ≡ Some bytes)
  pub missing : file ≡ None → result ≡ Err Failed
  pub long : result ≡ Err TooLong → (bytes : List ℕ) × (file ≡ Some bytes) × (limit < length bytes)
  pub longer : (bytes : List ℕ) → file ≡ Some bytes → limit < length bytes → result ≡ Err TooLong

pub Answered-is : (file : Option (List ℕ)) (limit : ℕ) (r : Result (List ℕ) GetFault) → IsAnswer file limit r → Answered file limit r
Answered-is None limit (Ok bytes) h = record { within = grind (arith, h); held = grind (arith, h); missing = grind (arith, h); long = grind (arith, h); longer = grind (arith, h) }
Answered-is None limit (Err e) h = record { within = tt; held = tt; missing = grind (arith, h); long = grind (arith, h); longer = grind (arith, h) }
Answered-is (Some held) limit (Ok bytes) h = record { within = grind (arith, h); held = grind (arith, h); missing = grind (arith, h); long = grind (arith, h); longer = grind (arith, h) }
Answered-is (Some held) limit (Err e) h = record { within = tt; held = tt; missing = grind (arith, h); long = grind (arith, h); longer = grind (arith, h) }

-- no count of the shelf falls where none of these does
pub CountsOn-later : (files after : Files) (old new : ShelfCounts) → Later old new → CountsOn (told_state files old) (told_state after new)
CountsOn-later files after old new later = record { taken = later.taken; get_faults = λ _. later.get_faults; put_faults = λ _. later.put_faults; long_reads = λ _ _. later.long_reads }

pub taken-got : (counts : ShelfCounts) (limit : ℕ) (r : Result (List ℕ) GetFault) → IfOk r (λ bytes. RoseBy (length bytes) counts.taken (got_count counts limit r).taken)
taken-got counts limit (Ok bytes) = omega arith
taken-got counts limit (Err e) = tt

pub failed-got : (counts : ShelfCounts) (limit : ℕ) (r : Result (List ℕ) GetFault) → r ≡ Err Failed → Rose counts.get_faults (got_count counts limit r).get_faults
failed-got counts limit r is = rw is (omega arith)

pub long-got : (counts : ShelfCounts) (limit : ℕ) (r : Result (List ℕ) GetFault) → r ≡ Err TooLong
    → (RoseBy (limit + 1) counts.taken (got_count counts limit r).taken × Rose counts.long_reads (got_count counts limit r).long_reads) × ((got_count counts limit r).get_faults ≡ counts.get_faults)
long-got counts limit r is = rw is ((omega arith, omega arith), refl)

pub held-got : (files : Files) (name : List ℕ) (r : Result (List ℕ) GetFault) → IfOk r (λ bytes. files name ≡ Some bytes) → IfOk r (λ bytes. Holds (Some files) name bytes)
held-got files name (Ok bytes) is = λ told same. subst (λ (f : Files). f name ≡ Some bytes) (ap (λ o. unwrap_or o files) same) is
held-got files name (Err e) is = tt

pub GetsTold-got : (files : Files) (counts : ShelfCounts) (name : List ℕ) (limit : ℕ) (r : Result (List ℕ) GetFault) → Answered (files name) limit r
    → GetsTold files (told_state files counts) (told_state files (got_count counts limit r)) name limit r
GetsTold-got files counts name limit r a = record {
  missing = λ is. inl (a.missing is);
  long = λ is. (a.long is, (long-got counts limit r is).1);
  longer = λ more. inl (a.longer more.0 more.1 more.2);
}

-- a get as a shelf in memory answers and counts it
pub Gets-got : (files : Files) (counts : ShelfCounts) (name : List ℕ) (limit : ℕ) (r : Result (List ℕ) GetFault) → Later counts (got_count counts limit r) → IsAnswer (files name) limit r
    → Gets (told_state files counts) (told_state files (got_count counts limit r)) name limit r
Gets-got files counts name limit r later h =
    let a = Answered-is _ _ _ h in record {
      counts = CountsOn-later files files _ _ later;
      files = refl;
      within = a.within;
      taken = taken-got counts limit r;
      held = held-got files name r a.held;
      failed = failed-got counts limit r;
      long = λ is. (long-got counts limit r is).0;
      told = λ told same. subst (λ (f : Files). GetsTold f (told_state files counts) (told_state files (got_count counts limit r)) name limit r)
          (ap (λ o. unwrap_or o files) same) (GetsTold-got files counts name limit r a);
    }

Err-same : {T : Type 0} {e f : PutFault} → ◌≡◌ {A = Result T PutFault} (Err e) (Err f) → e ≡ f
Err-same is = cc is

-- a put that changed no file
pub Puts-kept : {T : Type 0} (files after : Files) (old new : ShelfCounts) (name bytes : List ℕ) (fault : PutFault) → Later old new → after ≡ files
    → (fault ≡ put.Failed → Rose old.put_faults new.put_faults) → Puts {T = T} (told_state files old) (told_state after new) name bytes (Err fault)
Puts-kept files after old new name bytes fault later same rose = record {
  counts = CountsOn-later files after old new later;
  untold = λ e. absurd (cc e);
  others = λ held is. (held, ap (λ (f : Files). Some f) same ∙ is, λ other differs. refl);
  stored = tt;
  failed = λ e. rose (Err-same e);
  unchanged = λ e. ap (λ (f : Files). Some f) same;
}
