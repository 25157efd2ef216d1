-- The tables of a text's names, as far as its declarations were taken in.
use Rattle.std.specs.Prelude.{◌≡◌, ℕ, List, [], ◌∷◌, ◌++◌, length, bytes_eq, Option, Some, None}
use Rattle.std.specs.Map.{lookup}
use Rattle.spec_text.specs.declared.surface.Decl.TheVariants as d
use Rattle.type_check.specs.declared.structs.Structs.{Structs}
use Rattle.type_check.specs.declared.scope.Item.{Item}
use Rattle.type_check.specs.NamedType.{Declarations}
use Rattle.type_check.specs.declared.known.Known.{Known}
use Rattle.type_check.specs.Judged.{named_in}
use Rattle.type_check.specs.Untyped.{Sent, first_sent, sent_types}
use Rattle.type_check.specs.Standing.{IsNumbered, IsItem, AllMeanOption}

-- the structs' names, in text order
abbrev pub struct_names : Declarations → List (List ℕ)
struct_names [] = []
struct_names (d.Struct at x fields ∷ ds) = struct_names ds ++ x.name ∷ []
struct_names (_ ∷ ds) = struct_names ds

-- each struct by its name, and as many as there are
pub record IsTable (names : List (List ℕ)) (ds : Declarations) (structs : Structs) : Type 0 where
  pub numbers_are : (x : List ℕ) → IsNumbered names ds structs.all.items x (lookup (bytes_eq x) structs.numbers.entries)
  pub count : length structs.all.items ≡ length (struct_names ds)

pub record HasItems (names : List (List ℕ)) (ds : Declarations) (items : List (List ℕ × Item)) : Type 0 where
  pub items_are : (x : List ℕ) → IsItem names (named_in ds x) (lookup (bytes_eq x) items)

-- the first trigger of a name, and the types of its arguments
pub data IsSent (names : List (List ℕ)) (all : Declarations) : Option Sent → Option (List (Option Known)) → Type 0 where
  not_sent : IsSent names all None None
  is_sent : {s : Sent} {ks : List (Option Known)} → AllMeanOption names ks (sent_types all (Some s)) → IsSent names all (Some s) (Some ks)

pub record HasSent (names : List (List ℕ)) (all ds : Declarations) (sent : List (List ℕ × List (Option Known))) : Type 0 where
  pub sent_are : (x : List ℕ) → IsSent names all (first_sent ds x) (lookup (bytes_eq x) sent)
