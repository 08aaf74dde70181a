-- The names in force, and how they come and go (C99 6.2.1 to 6.2.3): `Scope`, `look_up`, `tag_of`, `own_entry`,
-- `declared`, `enter`,
-- `leave`, and the entries of the tables that stay when a block is left.
use Rattle.std.specs.Prelude.{ℕ, Bool, true, false, cond, List, [], ◌∷◌, ◌++◌, length, Option, Some, None, slice_set}
use Rattle.std.specs.Str.{bytes_eq}
use Rattle.c_language.specs.declared.ctype.CType.{CType}
use Rattle.c_language.specs.declared.tables.Aggregate.{Aggregate}
use Rattle.c_language.specs.declared.tables.AggregateForm.{AggregateForm}
use Rattle.c_language.specs.declared.tables.Content.{Content}
use Rattle.c_language.specs.declared.tables.Content.TheVariants as content_
use Rattle.c_language.specs.declared.tables.Prototype.{Prototype}
use Rattle.c_language.specs.declared.tables.Tables.{Tables}
use Rattle.c_language.specs.declared.scope.Entry.{Entry}
use Rattle.c_language.specs.declared.scope.Linkage.{Linkage}
use Rattle.c_language.specs.declared.scope.Linked.{Linked}
use Rattle.c_language.specs.declared.scope.Means.{Means}
use Rattle.c_language.specs.declared.scope.Tag.{Tag}
use Rattle.c_language.specs.declared.scope.TagMeans.{TagMeans}

abbrev pub Name : Type 0
Name = List ℕ

-- What one block declares, or the file: ordinary names and tags, the last declared last.
pub record Block : Type 0 where
  pub entries : List Entry
  pub tags : List Tag

-- The names in force: those of the file, and of the blocks that are open, the innermost first. What stays when a
-- block is left: the
-- objects and functions with linkage that were declared anywhere, and the tables of types. `function` is the name of
-- the function
-- whose body this is in.
pub record Scope : Type 0 where
  pub file : Block
  pub blocks : List Block
  pub linked : List Linked
  pub function : Option Name
  pub tables : Tables

abbrev pub no_names : Block
no_names = record { entries = []; tags = [] }

abbrev pub no_tables : Tables
no_tables = record { aggregates = []; enumerations = []; signatures = [] }

-- the file scope, with nothing declared
abbrev pub empty : Scope
empty = record { file = no_names; blocks = []; linked = []; function = None; tables = no_tables }

-- ---- looking up

abbrev pub last_where : {A : Type 0} → (A → Bool) → Option A → List A → Option A
last_where f best [] = best
last_where f best (x ∷ xs) = last_where f (cond (f x) (Some x) best) xs

abbrev pub or_else : {A : Type 0} → Option A → Option A → Option A
or_else None y = y
or_else (Some x) y = Some x

-- the last declaration of a name among a block's
abbrev pub entry_in : Block → Name → Option Entry
entry_in b name = last_where (λ e. bytes_eq e.name name) None b.entries

abbrev pub tag_in : Block → Name → Option Tag
tag_in b name = last_where (λ t. bytes_eq t.name name) None b.tags

abbrev pub entry_over : Block → List Block → Name → Option Entry
entry_over file [] name = entry_in file name
entry_over file (b ∷ bs) name = or_else (entry_in b name) (entry_over file bs name)

abbrev pub tag_over : Block → List Block → Name → Option Tag
tag_over file [] name = tag_in file name
tag_over file (b ∷ bs) name = or_else (tag_in b name) (tag_over file bs name)

-- an inner declaration of a name hides the outer ones (C99 6.2.1p4)
abbrev pub look_up : Scope → Name → Option Entry
look_up s name = entry_over s.file s.blocks name

abbrev pub tag_of : Scope → Name → Option Tag
tag_of s name = tag_over s.file s.blocks name

abbrev pub innermost_of : Block → List Block → Block
innermost_of file [] = file
innermost_of file (b ∷ bs) = b

-- what the innermost block declares, or the file where no block is open
abbrev pub innermost : Scope → Block
innermost s = innermost_of s.file s.blocks

abbrev pub own_entry : Scope → Name → Option Entry
own_entry s name = entry_in (innermost s) name

abbrev pub own_tag : Scope → Name → Option Tag
own_tag s name = tag_in (innermost s) name

abbrev pub is_file : List Block → Bool
is_file [] = true
is_file (b ∷ bs) = false

-- whether no block is open
abbrev pub in_file : Scope → Bool
in_file s = is_file s.blocks

abbrev pub linked_as : Scope → Name → Option Linked
linked_as s name = last_where (λ l. bytes_eq l.name name) None s.linked

-- ---- declaring

abbrev pub with_innermost_of : List Block → Block → Scope → Scope
with_innermost_of [] b s = record s { file = b }
with_innermost_of (x ∷ bs) b s = record s { blocks = b ∷ bs }

abbrev pub with_innermost : Block → Scope → Scope
with_innermost b s = with_innermost_of s.blocks b s

abbrev pub with_entry : Entry → Block → Block
with_entry e b = record b { entries = b.entries ++ e ∷ [] }

abbrev pub with_tag_entry : Tag → Block → Block
with_tag_entry t b = record b { tags = b.tags ++ t ∷ [] }

-- an ordinary name of the innermost block
abbrev pub declared : ℕ → Name → Means → Scope → Scope
declared at name means s = with_innermost (with_entry (record { at = at; name = name; means = means }) (innermost s)) s

-- a tag of the innermost block
abbrev pub with_tag : Name → TagMeans → Bool → Scope → Scope
with_tag name means listed s = with_innermost (with_tag_entry (record {
  name = name;
  means = means;
  is_listed =
      listed;
}) (innermost s)) s

abbrev pub with_linked : ℕ → Name → Linkage → Bool → Scope → Scope
with_linked at name linkage defined s =
    record s { linked = s.linked ++ record { at = at; name = name; linkage = linkage; is_defined = defined } ∷ [] }

-- ---- blocks

-- a block with what it declares so far
abbrev pub enter_with : Block → Scope → Scope
enter_with b s = record s { blocks = b ∷ s.blocks }

abbrev pub enter : Scope → Scope
enter s = enter_with no_names s

abbrev pub outer_blocks : List Block → List Block
outer_blocks [] = []
outer_blocks (b ∷ bs) = bs

-- the names of the innermost block are gone, and those that they hid are in force again (C99 6.2.1p4)
abbrev pub leave : Scope → Scope
leave s = record s { blocks = outer_blocks s.blocks }

-- ---- the tables: a new entry is the last, and its number is how many there were

abbrev pub next_aggregate : Scope → ℕ
next_aggregate s = length s.tables.aggregates

abbrev pub next_enumeration : Scope → ℕ
next_enumeration s = length s.tables.enumerations

abbrev pub next_signature : Scope → ℕ
next_signature s = length s.tables.signatures

-- a structure or union without members so far
abbrev pub with_aggregate : AggregateForm → Scope → Scope
with_aggregate form s =
    record s {
      tables = record s.tables {
        aggregates = s.tables.aggregates ++ record {
          form = form;
          content =
              content_.Incomplete;
        } ∷ [];
      };
    }

-- its list of members has ended (C99 6.7.2.3p4)
abbrev pub with_content : ℕ → AggregateForm → Content → Scope → Scope
with_content number form content s =
    record s {
      tables = record s.tables {
        aggregates = slice_set s.tables.aggregates number (record {
          form =
              form;
          content = content;
        });
      };
    }

abbrev pub with_enumeration : Scope → Scope
with_enumeration s =
    record s {
      tables = record s.tables {
        enumerations = s.tables.enumerations ++ record { is_complete = false }
            ∷ [];
      };
    }

-- its list of enumerators has ended (C99 6.7.2.2p4)
abbrev pub with_enumerators : ℕ → Scope → Scope
with_enumerators number s =
    record s {
      tables = record s.tables {
        enumerations = slice_set s.tables.enumerations number (record {
          is_complete
              = true;
        });
      };
    }

abbrev pub with_signature : Prototype → List CType → Scope → Scope
with_signature prototype parameters s =
    record s {
      tables = record s.tables {
        signatures = s.tables.signatures ++ record {
          prototype =
              prototype;
          parameters = parameters;
        } ∷ [];
      };
    }
