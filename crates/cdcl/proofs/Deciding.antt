-- Where no variable is open, each clause given is true.
use Rattle.std.proofs.Common.{◌≡◌, ◌<◌, ◌≤◌, ◌⊎◌, ℕ, true, inl, inr, arith, length, vec_len}
use Rattle.std.proofs.lemmas.Bool.{cases_Bool}
use Rattle.std.proofs.lemmas.Option.{slice_get_within}
use Rattle.cnf_core.specs.Literal.{Literal, negated}
use Rattle.cdcl.specs.declared.clauses.ClauseId.TheVariants.{Given}
use Rattle.cdcl.specs.declared.search.Search.{Search}
use Rattle.cdcl.specs.Known.{known, HasTrue}
use Rattle.cdcl.specs.Ranks.{IsUnset}
use Rattle.cdcl.specs.Searches.{IsReady, AllTrue}
use Rattle.cdcl.specs.Guards.{HasTrueAt, AtRest, Waits, Guards}
use Rattle.cdcl.proofs.Guarding.{entry-of, literal-of}

-- a literal of the room is true or false
valued : (s : Search) (l : Literal) → IsReady s → ((v : ℕ) → IsUnset s.trail.scores.unset v → ⊥) → (1 ≤ l.variable) × (l.variable < vec_len s.trail.levels) → (known s.trail.taken.items l ≡ true) ⊎ (known s.trail.taken.items (negated l) ≡ true)
valued s l r none (one, within) = elim (cases_Bool (known s.trail.taken.items l)) [
  | inl t ↦ inl t
  | inr f ↦ elim (cases_Bool (known s.trail.taken.items (negated l))) [
    | inl t ↦ inr t
    | inr g ↦ absurd (none l.variable (r.trail.are_open.has l one within (record { fresh = f; opposite = g })))
  ]
]

pub all-true : (s : Search) → IsReady s → Guards (length s.clauses.given) s.followed s → s.followed ≡ length s.trail.entries.items → ((v : ℕ) → IsUnset s.trail.scores.unset v → ⊥) → AllTrue s
all-true s r g whole none i c at = elim (g.guarded (Given i) c (slice_get_within s.clauses.given i c at) at) [ inl t ↦ now 0 t | inr w ↦ waits w ]
  where
    now : (level : ℕ) → HasTrueAt level s.trail.entries.items c → HasTrue (known s.trail.taken.items) c
    now level t = (t.entry.literal, t.member, r.trail.are_placed.kept t.place t.entry.literal (literal-of s.trail.entries.items t.place t.entry t.at))

    waits : Waits (AtRest s.followed s.trail.entries.items s.watches (Given i) c) s.watches (Given i) c → HasTrue (known s.trail.taken.items) c
    waits w = elim (valued s w.pair.first r none (r.fits i c at w.pair.first w.first_in)) [
      | inl t ↦ (w.pair.first, w.first_in, t)
      | inr f ↦
          let p = r.trail.are_placed.placed (negated w.pair.first) f in
          let e = entry-of s.trail.entries.items p.0 (negated w.pair.first) p.2 in
          let less = p.1 in
          now e.0.level (w.first.1 p.0 e.0 e.1 e.2 (omega arith))
    ]
