-- Declarations one behind the other.
use Rattle.std.proofs.Common.{◌≡◌, List, [], ◌∷◌, ◌++◌, refl, sym, ap, ap₂, ◌∙◌}
use Rattle.std.proofs.lemmas.List.{append-nil, append_assoc}
use Rattle.c_language.specs.Scopes.{Scope}
use Rattle.c_means.specs.Items.{Item, Lasting, followed}
use Rattle.core_tree.specs.declared.code.Code.{Code}
use Rattle.core_tree.specs.declared.program.LastingSetting.{LastingSetting}
use Rattle.elaborate.specs.Means.{Numbering}
use Rattle.code_forms.proofs.Turns.{joined_codes}
use Rattle.code_forms.proofs.Marks.{both_marks}
use Rattle.core_programs.specs.Programs.{AllSettings}
use Rattle.core_programs.specs.Programs as programs
use Rattle.core_objects.specs.declared.begun.Begun.{Begun}
use Rattle.core_objects.specs.Begun.{AreAllSet, IsBegun, bare, joined, nothing_begun}

joined_all : (xss yss : List (List LastingSetting))
    → programs.joined (xss ++ yss) ≡ programs.joined xss ++ programs.joined yss
joined_all [] yss = refl
joined_all (xs ∷ xss) yss =
    ap (λ zs. xs ++ zs) (joined_all xss yss) ∙ sym (append_assoc xs (programs.joined xss) (programs.joined yss))

all_behind : (numbering : Numbering) (xss yss : List (List LastingSetting)) (xs ys : List Lasting)
    → AllSettings numbering xss xs → AllSettings numbering yss ys → AllSettings numbering (xss ++ yss) (xs ++ ys)
all_behind numbering [] yss [] ys h g = g
all_behind numbering [] yss (x ∷ xs) ys h g = absurd h
all_behind numbering (s ∷ xss) yss [] ys h g = absurd h
all_behind numbering (s ∷ xss) yss (x ∷ xs) ys h g = (h.0, all_behind numbering xss yss xs ys h.1 g)

abbrev begun_of : List Code → List LastingSetting → Begun
begun_of cs xs = record { codes = cs; settings = xs }

pub joined_grouped : (x y z : Begun) → joined x (joined y z) ≡ joined (joined x y) z
joined_grouped x y z =
    ap₂ begun_of (sym (append_assoc x.codes y.codes z.codes)) (sym (append_assoc x.settings y.settings z.settings))

pub joined_alone : (x : Begun) → joined x nothing_begun ≡ x
joined_alone x = ap₂ begun_of (append-nil x.codes) (append-nil x.settings)

module _ (numbering : Numbering) where
  both_set : (xs ys : List LastingSetting) (ks ls : List Lasting) → AreAllSet numbering xs ks → AreAllSet numbering ys ls
      → AreAllSet numbering (xs ++ ys) (ks ++ ls)
  both_set xs ys ks ls h g = record {
    each = h.each ++ g.each;
    all = ap₂ (λ a b. a ++ b) h.all g.all ∙ sym (joined_all h.each g.each);
    set = all_behind (bare numbering) h.each g.each ks ls h.set g.set;
  }

  pub both_begun : (x y : Begun) (i j : Item) (s t : Scope) → IsBegun numbering x i s → IsBegun numbering y j t
      → IsBegun numbering (joined x y) (followed i j) t
  both_begun x y i j s t h g = record {
    codes = joined_codes numbering x.codes y.codes i j h.codes g.codes;
    lasting = both_set x.settings y.settings i.lasting j.lasting h.lasting g.lasting;
    after = g.after;
    marks = both_marks numbering x.codes y.codes h.marks g.marks;
  }
