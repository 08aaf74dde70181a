-- What is used behind declarations, gone through from the last word to the first.
use Rattle.std.specs.Prelude.{ℕ, cond, List, [], ◌∷◌, ◌++◌, Option, Some, None}
use Rattle.c_means.specs.Names.{Names, Word, Binding, same_word, binding_of, free_if, bound_if, free, bound_in, is_among}
use Rattle.c_names.specs.declared.parting.Parted.{Parted}

-- the first of the declarations of a word
abbrev pub first_binding : Word → List Binding → Option ℕ
first_binding w [] = None
first_binding w (b ∷ bs) = cond (same_word b.word w) (Some b.at) (first_binding w bs)

abbrev pub with_word : List Binding → Word → Parted → Parted
with_word bs w p = record {
  free = free_if w (binding_of w bs None) p.free;
  bound = bound_if (binding_of w bs None) p.bound;
}

abbrev pub parted_by : List Binding → List Word → Parted → Parted
parted_by bs [] p = p
parted_by bs (w ∷ ws) p = parted_by bs ws (with_word bs w p)

abbrev pub left_by : List Binding → List Word → List Word → List Word
left_by bs [] kept = kept
left_by bs (w ∷ ws) kept = left_by bs ws (cond (is_among w bs) kept (w ∷ kept))

abbrev pub parted : List Binding → List Word → Parted
parted bs ws = record { free = free bs ws; bound = bound_in bs ws }

-- what stands behind declarations, of which they bind uses
abbrev pub bound_by : List Binding → Names → Names
bound_by bs y = record y { uses = free bs y.uses; bound = y.bound ++ bound_in bs y.uses }
