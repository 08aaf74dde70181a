-- Kinds in order, and arguments that have them.
use Rattle.std.proofs.Common.{◌≡◌, ℕ, suc, ◌+◌, ◌<◌, List, [], ◌∷◌, ◌++◌, length, get_or, drop, append_assoc, add-one, drop-cons, refl, sym, ap, subst, ◌∙◌, arith}
use Rattle.printf_text.specs.Texts.{HasKind, HaveKinds, kinds, piece_kinds}
use Rattle.printf_text.proofs.Writing.{next_piece}
use Rattle.printf_text.specs.declared.kind.Kind.{Kind}
use Rattle.printf_text.specs.declared.piece.Piece.{Piece}
use Rattle.printf_text.specs.declared.piece.Arg.{Arg}

pub kinds_more : (pieces : List Piece) (i : ℕ) (p : Piece) (out out' whole : List Kind) → i < length pieces → p ≡ get_or pieces i p → out' ≡ out ++ piece_kinds p
    → out ++ kinds (drop i pieces) ≡ whole → out' ++ kinds (drop (i + 1) pieces) ≡ whole
kinds_more pieces i p out out' whole h e more is =
    ap (λ o. o ++ kinds (drop (i + 1) pieces)) more ∙ append_assoc out (piece_kinds p) (kinds (drop (i + 1) pieces))
    ∙ ap (λ ps. out ++ kinds ps) (sym (next_piece pieces i p h e)) ∙ is

pub HaveKinds-length : (ks : List Kind) (args : List Arg) → HaveKinds ks args → length ks ≡ length args
HaveKinds-length [] [] h = refl
HaveKinds-length [] (a ∷ args) h = absurd h
HaveKinds-length (k ∷ ks) [] h = absurd h
HaveKinds-length (k ∷ ks) (a ∷ args) h = ap suc (HaveKinds-length ks args h.1)

-- the first arguments have their kinds
pub record HaveFirst (ks : List Kind) (args : List Arg) (i : ℕ) : Type 0 where
  pub same : length ks ≡ length args
  pub onward : HaveKinds (drop i ks) (drop i args) → HaveKinds ks args
  pub back : HaveKinds ks args → HaveKinds (drop i ks) (drop i args)

module _ (ks : List Kind) (args : List Arg) (i : ℕ) (k : Kind) (a : Arg) (h : i < length ks) (same : length ks ≡ length args) (ek : k ≡ get_or ks i k) (ea : a ≡ get_or args i a) where
  drop_kind : drop i ks ≡ k ∷ drop (i + 1) ks
  drop_kind = rw (add-one, drop-cons ks i k) (ap (λ x. x ∷ drop (suc i) ks) (sym ek))

  drop_arg : drop i args ≡ a ∷ drop (i + 1) args
  drop_arg = let below : i < length args = omega arith in rw (add-one, drop-cons args i a) (ap (λ x. x ∷ drop (suc i) args) (sym ea))

  split : HaveKinds (drop i ks) (drop i args) → HasKind k a × HaveKinds (drop (i + 1) ks) (drop (i + 1) args)
  split p = subst (λ xs. HaveKinds (k ∷ drop (i + 1) ks) xs) drop_arg (subst (λ xs. HaveKinds xs (drop i args)) drop_kind p)

  join : HasKind k a × HaveKinds (drop (i + 1) ks) (drop (i + 1) args) → HaveKinds (drop i ks) (drop i args)
  join p = subst (λ xs. HaveKinds xs (drop i args)) (sym drop_kind) (subst (λ xs. HaveKinds (k ∷ drop (i + 1) ks) xs) (sym drop_arg) p)

  pub HaveFirst-more : HaveFirst ks args i → HasKind k a → HaveFirst ks args (i + 1)
  HaveFirst-more r p = record { same = same; onward = λ q. r.onward (join (p, q)); back = λ q. (split (r.back q)).1 }

  pub HaveFirst-stop : HaveFirst ks args i → (HasKind k a → ⊥) → HaveKinds ks args → ⊥
  HaveFirst-stop r n q = n (split (r.back q)).0
