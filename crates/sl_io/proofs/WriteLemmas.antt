-- Writes one after another.
use Rattle.std.proofs.Common.{◌++◌, ◌∙◌, ℕ, List, Some, ◌≤◌, take, drop, get_or, ◌<◌, ◌∷◌, Result, Ok, Err, sym, ap, append_assoc, append-nil, take-append-drop, subst, refl, unwrap_or, length, nat_le, ◌+◌, ◌≡◌, Bool, true, false, if◌then◌else◌, [], arith, inl, inr}
use Rattle.std.specs.List.{flat_map}
use Rattle.std.proofs.lemmas.List.{take_more}
use Rattle.std.proofs.lemmas.List.Concat.{flat_map-append}
use Rattle.sl_io.specs.SinkStates.{SinkState}
use Rattle.sl_io.specs.Counts.{capped_sum}
use Rattle.sl_io.specs.MemorySinks.{Buffered, sink_state, failed_after}
use Rattle.sl_io.specs.Writes.{Writes, Told}

-- a write that failed has failed for a longer piece too, with whichever fault that is told
pub Writes-longer : {T U E F : Type 0} (a b : SinkState) (x y : List ℕ) (e : E) (f : F) → Writes {T = T} a b x (Err e) → Writes {T = U} a b (x ++ y) (Err f)
Writes-longer a b x y e f w = record {
  later = w.later;
  untold = w.untold;
  appended = tt;
  failed = w.failed;
  front = λ before is. let p = w.front before is in (p.0, p.1 ++ y, sym (append_assoc p.0 p.1 y) ∙ ap (λ z. z ++ y) p.2, p.3);
}

-- a write, and then another
pub Writes-then : {T U E : Type 0} (a b c : SinkState) (x y : List ℕ) (t : T) (r : Result U E) → Writes {E = E} a b x (Ok t) → Writes b c y r → Writes a c (x ++ y) r
Writes-then a b c x y t (Ok u) v w = record {
  later = omega (arith, v.later, w.later);
  untold = λ e. w.untold (v.untold e);
  appended = λ before is. w.appended _ (v.appended before is) ∙ ap Some (append_assoc before x y);
  failed = tt;
  front = tt;
}
Writes-then a b c x y t (Err e) v w = record {
  later = omega (arith, v.later, w.later);
  untold = λ e. w.untold (v.untold e);
  appended = tt;
  failed = omega (arith, v.later, w.failed);
  front = λ before is. let f = w.front _ (v.appended before is) in (x ++ f.0, f.1, append_assoc x f.0 f.1 ∙ ap (λ z. x ++ z) f.2, f.3 ∙ ap Some (append_assoc before x f.0));
}

-- what can be said of a write where its answer isn't looked at
pub Told-from_writes : {T E : Type 0} (a b : SinkState) (x : List ℕ) (r : Result T E) → Writes a b x r → Told a b x
Told-from_writes a b x (Ok t) w = record { later = w.later; untold = w.untold; written = inl w.appended }
Told-from_writes a b x (Err e) w = record { later = w.later; untold = w.untold; written = inr (w.failed, w.front) }

-- a prefix of the piece was kept, or nothing of it
prefix_kept : (kept : Bool) (bytes front rest piece : List ℕ) → front ++ rest ≡ piece
    → (x y : List ℕ) × (x ++ y ≡ piece) × (Some (if kept then bytes ++ front else bytes) ≡ Some (bytes ++ x))
prefix_kept true bytes front rest piece is = (front, rest, is, refl)
prefix_kept false bytes front rest piece is = ([], piece, refl, ap Some (sym (append-nil bytes)))

-- a sink in memory that fails after a prefix
pub Writes-failed_after : {T E : Type 0} (sink : Buffered) (written : ℕ) (piece : List ℕ) (e : E) → sink.faults ≤ capped_sum sink.faults 1
    → Writes {T = T} (sink_state sink) (sink_state (failed_after sink (take written piece))) piece (Err e)
Writes-failed_after sink written piece e later = record {
  later = later;
  untold = λ is. absurd (cc is);
  appended = tt;
  failed = omega arith;
  front = λ before is. subst (λ z. (front rest : List ℕ) × (front ++ rest ≡ piece) × ((sink_state (failed_after sink (take written piece))).bytes ≡ Some (z ++ front)))
      (ap (λ o. unwrap_or o []) is) (prefix_kept (nat_le (length sink.bytes + length (take written piece)) sink.room) sink.bytes (take written piece) (drop written piece) piece (take-append-drop written piece));
}

-- the pieces up to the next one
pub pieces_more : {X : Type 0} (f : X → List ℕ) (xs : List X) (i : ℕ) (d : X) → i < length xs → flat_map f (take (i + 1) xs) ≡ flat_map f (take i xs) ++ f (get_or xs i d)
pieces_more f xs i d within = ap (λ ys. flat_map f ys) (take_more xs i d within) ∙ (flat_map-append f (take i xs) (get_or xs i d ∷ []) ∙ ap (λ z. flat_map f (take i xs) ++ z) (append-nil (f (get_or xs i d))))

-- the pieces up to one, that one, and those behind it
pub pieces_at : {X : Type 0} (f : X → List ℕ) (xs : List X) (i : ℕ) (d : X) → i < length xs → flat_map f xs ≡ flat_map f (take i xs) ++ f (get_or xs i d) ++ flat_map f (drop (i + 1) xs)
pieces_at f xs i d within = ap (λ ys. flat_map f ys) (sym (take-append-drop (i + 1) xs))
    ∙ (flat_map-append f (take (i + 1) xs) (drop (i + 1) xs) ∙ ap (λ z. z ++ flat_map f (drop (i + 1) xs)) (pieces_more f xs i d within))

-- nothing was written
pub Writes-none : {T E : Type 0} (a : SinkState) (t : T) → Writes {E = E} a a [] (Ok t)
Writes-none a t = record { later = omega arith; untold = λ is. is; appended = λ before is. is ∙ ap Some (sym (append-nil before)); failed = tt; front = tt }
