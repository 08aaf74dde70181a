-- Bits and their opposites, and nets that grow.
use Rattle.std.proofs.Common.{◌≡◌, ◌++◌, [], List, Bool, true, false, not, ◌&&◌, ◌||◌, refl, sym, ap, ◌∙◌, append-nil, append_assoc, arith}
use Rattle.cnf_core.specs.Literal.{Literal}
use Rattle.cnf_core.specs.Truth.{Valuation}
use Rattle.gates.specs.declared.bit.Bit.{Bit}
use Rattle.gates.specs.declared.bit.Bit.TheVariants.{Known, Unknown}
use Rattle.gates.specs.Nets.{Net, Begins, Grows, IsBit, IsGate, bit_holds, opposite}
use Rattle.gates.proofs.GateLemmas.{negated-holds}

pub opposite-bit : (net : Net) (x : Bit) → IsBit net x → IsBit net (opposite x)
opposite-bit net (Known b) h = tt
opposite-bit net (Unknown l) h = h

pub opposite-holds : (v : Valuation) (x : Bit) → bit_holds v (opposite x) ≡ not (bit_holds v x)
opposite-holds v (Known b) = refl
opposite-holds v (Unknown l) = negated-holds v l

de-morgan : (a b : Bool) → not (not a && not b) ≡ (a || b)
de-morgan true b = refl
de-morgan false true = refl
de-morgan false false = refl

pub or-of : (old new : Net) (a b not_a not_b neither x : Bit) → not_a ≡ opposite a → not_b ≡ opposite b → x ≡ opposite neither → IsGate old new (λ v. bit_holds v not_a && bit_holds v not_b) neither → IsGate old new (λ v. bit_holds v a || bit_holds v b) x
or-of old new a b not_a not_b neither x is_a is_b is_x g = record {
  grows = g.grows;
  stands = rw is_x (opposite-bit new neither g.stands);
  means = λ v m. rw (is_x, opposite-holds v neither, g.means v m, is_a, is_b, opposite-holds v a, opposite-holds v b) (de-morgan (bit_holds v a) (bit_holds v b));
}

begins-same : (xs : List (List Literal)) → Begins xs xs
begins-same xs = record { more = []; is = sym (append-nil xs) }

pub begins-then : (xs ys zs : List (List Literal)) → Begins xs ys → Begins ys zs → Begins xs zs
begins-then xs ys zs p q =
    record { more = p.more ++ q.more; is = q.is ∙ ap (λ s. s ++ q.more) p.is ∙ append_assoc xs p.more q.more }

pub same-grows : (net : Net) → Grows net net
same-grows net = record { more = omega arith; begins = begins-same net.clauses; keeps = λ v h. h; extends = λ v h. record { model = v; agrees = λ x l. refl; is = h } }

pub then-grows : (a b c : Net) → Grows a b → Grows b c → Grows a c
then-grows a b c p q = record {
  more = omega (arith, p.more, q.more);
  begins = begins-then a.clauses b.clauses c.clauses p.begins q.begins;
  keeps = λ v h. p.keeps v (q.keeps v h);
  extends = λ v h.
      let r = p.extends v h in
      let s = q.extends r.model r.is in
      record { model = s.model; agrees = λ x l. r.agrees x l ∙ s.agrees x (omega (arith, p.more)); is = s.is };
}

pub bit-grown : (a b : Net) (x : Bit) → Grows a b → IsBit a x → IsBit b x
bit-grown a b (Known k) g h = tt
bit-grown a b (Unknown l) g h = let m = g.more in omega (arith, h, m)
