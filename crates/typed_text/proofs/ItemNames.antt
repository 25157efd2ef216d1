-- The names of a text's items, by their kinds, are those of the specification, and each is a name.
use Rattle.std.proofs.Common.{◌≡◌, ℕ, ◌+◌, Bool, true, List, [], ◌∷◌, map, refl, ap}
use Rattle.std.specs.Prelude.{◌&&◌, IsTrue}
use Rattle.std.specs.List.{flat_map, AllByRecursion}
use Rattle.std.proofs.lemmas.Bool.{and_parts}
use Rattle.stream_core.specs.declared.spec.ExternItem.{ExternItem}
use Rattle.stream_core.specs.Term.{TreeStream, TreeDef, TreeTrigger, TreeObserver}
use Rattle.stream_core.specs.WellTyped.{IsName}
use Rattle.spec_text.specs.declared.surface.Decl.{Decl}
use Rattle.spec_text.specs.declared.surface.Decl.TheVariants as d
use Rattle.spec_text.specs.declared.surface.Surface.{Surface}
use Rattle.spec_text.specs.Shape.{most_initial}
use Rattle.spec_text.specs.KeepsTable.{kept_from, keeps_name, keeps_type, keeps_const, keeps_expr}
use Rattle.type_check.specs.NamedType.{Declarations}
use Rattle.type_check.specs.Untyped.{all_of}
use Rattle.type_check.specs.TypeOrder.{types_of_text}
use Rattle.typed_text.specs.ReadSpec.{Placed, numbers_of, counts, reads, placed, roots, first_root, trigger_item, observer_item, extern_names, stream_names, def_names}
use Rattle.typed_text.proofs.Names.{observer_names, trigger_names}
use Rattle.typed_text.proofs.Places.{EachDecl, IsDecl}
use Rattle.typed_text.proofs.Items.{externs_from, streams_from, defs_from}

pub extern_names_are : (s : Surface) (before : Declarations) (k : ℕ) (ys : List Decl) → map (λ (i : ExternItem). i.name) (externs_from (numbers_of s) (all_of s) (types_of_text s) before k ys) ≡ extern_names ys
extern_names_are s before k [] = refl
extern_names_are s before k (d.Struct at x fields ∷ ys) = extern_names_are s (d.Struct at x fields ∷ before) (k + counts (reads (numbers_of s) (all_of s) before (d.Struct at x fields))) ys
extern_names_are s before k (d.Extern at x ty ∷ ys) = ap (λ ns. x.name ∷ ns) (extern_names_are s (d.Extern at x ty ∷ before) (k + counts (reads (numbers_of s) (all_of s) before (d.Extern at x ty))) ys)
extern_names_are s before k (d.Stream at x ty init e ∷ ys) = extern_names_are s (d.Stream at x ty init e ∷ before) (k + counts (reads (numbers_of s) (all_of s) before (d.Stream at x ty init e))) ys
extern_names_are s before k (d.Def at x ty e ∷ ys) = extern_names_are s (d.Def at x ty e ∷ before) (k + counts (reads (numbers_of s) (all_of s) before (d.Def at x ty e))) ys
extern_names_are s before k (d.Trigger at x guard args ∷ ys) = extern_names_are s (d.Trigger at x guard args ∷ before) (k + counts (reads (numbers_of s) (all_of s) before (d.Trigger at x guard args))) ys
extern_names_are s before k (d.Observer at x e ∷ ys) = extern_names_are s (d.Observer at x e ∷ before) (k + counts (reads (numbers_of s) (all_of s) before (d.Observer at x e))) ys

pub stream_names_are : (s : Surface) (before : Declarations) (k : ℕ) (ys : List Decl) → map (λ (i : TreeStream). i.name) (streams_from (numbers_of s) (all_of s) (types_of_text s) before k ys) ≡ stream_names ys
stream_names_are s before k [] = refl
stream_names_are s before k (d.Struct at x fields ∷ ys) = stream_names_are s (d.Struct at x fields ∷ before) (k + counts (reads (numbers_of s) (all_of s) before (d.Struct at x fields))) ys
stream_names_are s before k (d.Extern at x ty ∷ ys) = stream_names_are s (d.Extern at x ty ∷ before) (k + counts (reads (numbers_of s) (all_of s) before (d.Extern at x ty))) ys
stream_names_are s before k (d.Stream at x ty init e ∷ ys) = ap (λ ns. x.name ∷ ns) (stream_names_are s (d.Stream at x ty init e ∷ before) (k + counts (reads (numbers_of s) (all_of s) before (d.Stream at x ty init e))) ys)
stream_names_are s before k (d.Def at x ty e ∷ ys) = stream_names_are s (d.Def at x ty e ∷ before) (k + counts (reads (numbers_of s) (all_of s) before (d.Def at x ty e))) ys
stream_names_are s before k (d.Trigger at x guard args ∷ ys) = stream_names_are s (d.Trigger at x guard args ∷ before) (k + counts (reads (numbers_of s) (all_of s) before (d.Trigger at x guard args))) ys
stream_names_are s before k (d.Observer at x e ∷ ys) = stream_names_are s (d.Observer at x e ∷ before) (k + counts (reads (numbers_of s) (all_of s) before (d.Observer at x e))) ys

pub def_names_are : (s : Surface) (before : Declarations) (k : ℕ) (ys : List Decl) → map (λ (i : TreeDef). i.name) (defs_from (numbers_of s) (all_of s) (types_of_text s) before k ys) ≡ def_names ys
def_names_are s before k [] = refl
def_names_are s before k (d.Struct at x fields ∷ ys) = def_names_are s (d.Struct at x fields ∷ before) (k + counts (reads (numbers_of s) (all_of s) before (d.Struct at x fields))) ys
def_names_are s before k (d.Extern at x ty ∷ ys) = def_names_are s (d.Extern at x ty ∷ before) (k + counts (reads (numbers_of s) (all_of s) before (d.Extern at x ty))) ys
def_names_are s before k (d.Stream at x ty init e ∷ ys) = def_names_are s (d.Stream at x ty init e ∷ before) (k + counts (reads (numbers_of s) (all_of s) before (d.Stream at x ty init e))) ys
def_names_are s before k (d.Def at x ty e ∷ ys) = ap (λ ns. x.name ∷ ns) (def_names_are s (d.Def at x ty e ∷ before) (k + counts (reads (numbers_of s) (all_of s) before (d.Def at x ty e))) ys)
def_names_are s before k (d.Trigger at x guard args ∷ ys) = def_names_are s (d.Trigger at x guard args ∷ before) (k + counts (reads (numbers_of s) (all_of s) before (d.Trigger at x guard args))) ys
def_names_are s before k (d.Observer at x e ∷ ys) = def_names_are s (d.Observer at x e ∷ before) (k + counts (reads (numbers_of s) (all_of s) before (d.Observer at x e))) ys

pub trigger_names_are : (s : Surface) (before : Declarations) (k : ℕ) (ys : List Decl) → map (λ (i : TreeTrigger). i.name) (flat_map (λ (p : Placed). trigger_item (roots (numbers_of s) (all_of s) p) p.decl) (placed (numbers_of s) (all_of s) before k ys)) ≡ trigger_names ys
trigger_names_are s before k [] = refl
trigger_names_are s before k (d.Struct at x fields ∷ ys) = trigger_names_are s (d.Struct at x fields ∷ before) (k + counts (reads (numbers_of s) (all_of s) before (d.Struct at x fields))) ys
trigger_names_are s before k (d.Extern at x ty ∷ ys) = trigger_names_are s (d.Extern at x ty ∷ before) (k + counts (reads (numbers_of s) (all_of s) before (d.Extern at x ty))) ys
trigger_names_are s before k (d.Stream at x ty init e ∷ ys) = trigger_names_are s (d.Stream at x ty init e ∷ before) (k + counts (reads (numbers_of s) (all_of s) before (d.Stream at x ty init e))) ys
trigger_names_are s before k (d.Def at x ty e ∷ ys) = trigger_names_are s (d.Def at x ty e ∷ before) (k + counts (reads (numbers_of s) (all_of s) before (d.Def at x ty e))) ys
trigger_names_are s before k (d.Trigger at x guard args ∷ ys) = ap (λ ns. x.name ∷ ns) (trigger_names_are s (d.Trigger at x guard args ∷ before) (k + counts (reads (numbers_of s) (all_of s) before (d.Trigger at x guard args))) ys)
trigger_names_are s before k (d.Observer at x e ∷ ys) = trigger_names_are s (d.Observer at x e ∷ before) (k + counts (reads (numbers_of s) (all_of s) before (d.Observer at x e))) ys

pub observer_names_are : (s : Surface) (before : Declarations) (k : ℕ) (ys : List Decl) → map (λ (i : TreeObserver). i.name) (flat_map (λ (p : Placed). observer_item (first_root (roots (numbers_of s) (all_of s) p)) p.decl) (placed (numbers_of s) (all_of s) before k ys)) ≡ observer_names ys
observer_names_are s before k [] = refl
observer_names_are s before k (d.Struct at x fields ∷ ys) = observer_names_are s (d.Struct at x fields ∷ before) (k + counts (reads (numbers_of s) (all_of s) before (d.Struct at x fields))) ys
observer_names_are s before k (d.Extern at x ty ∷ ys) = observer_names_are s (d.Extern at x ty ∷ before) (k + counts (reads (numbers_of s) (all_of s) before (d.Extern at x ty))) ys
observer_names_are s before k (d.Stream at x ty init e ∷ ys) = observer_names_are s (d.Stream at x ty init e ∷ before) (k + counts (reads (numbers_of s) (all_of s) before (d.Stream at x ty init e))) ys
observer_names_are s before k (d.Def at x ty e ∷ ys) = observer_names_are s (d.Def at x ty e ∷ before) (k + counts (reads (numbers_of s) (all_of s) before (d.Def at x ty e))) ys
observer_names_are s before k (d.Trigger at x guard args ∷ ys) = observer_names_are s (d.Trigger at x guard args ∷ before) (k + counts (reads (numbers_of s) (all_of s) before (d.Trigger at x guard args))) ys
observer_names_are s before k (d.Observer at x e ∷ ys) = ap (λ ns. x.name ∷ ns) (observer_names_are s (d.Observer at x e ∷ before) (k + counts (reads (numbers_of s) (all_of s) before (d.Observer at x e))) ys)

pub extern_names_kept : (s : Surface) (before : Declarations) (ys : List Decl) → EachDecl (IsDecl s) before ys → AllByRecursion IsName (extern_names ys)
extern_names_kept s before [] q = tt
extern_names_kept s before (d.Struct at x fields ∷ ys) q = extern_names_kept s (d.Struct at x fields ∷ before) ys q.1
extern_names_kept s before (d.Extern at x ty ∷ ys) q = ((and_parts (keeps_name x) (keeps_type ty) q.0.kept).0, extern_names_kept s (d.Extern at x ty ∷ before) ys q.1)
extern_names_kept s before (d.Stream at x ty init e ∷ ys) q = extern_names_kept s (d.Stream at x ty init e ∷ before) ys q.1
extern_names_kept s before (d.Def at x ty e ∷ ys) q = extern_names_kept s (d.Def at x ty e ∷ before) ys q.1
extern_names_kept s before (d.Trigger at x guard args ∷ ys) q = extern_names_kept s (d.Trigger at x guard args ∷ before) ys q.1
extern_names_kept s before (d.Observer at x e ∷ ys) q = extern_names_kept s (d.Observer at x e ∷ before) ys q.1

pub stream_names_kept : (s : Surface) (before : Declarations) (ys : List Decl) → EachDecl (IsDecl s) before ys → AllByRecursion IsName (stream_names ys)
stream_names_kept s before [] q = tt
stream_names_kept s before (d.Struct at x fields ∷ ys) q = stream_names_kept s (d.Struct at x fields ∷ before) ys q.1
stream_names_kept s before (d.Extern at x ty ∷ ys) q = stream_names_kept s (d.Extern at x ty ∷ before) ys q.1
stream_names_kept s before (d.Stream at x ty init e ∷ ys) q = ((and_parts (keeps_name x) (keeps_type ty) (and_parts (keeps_name x && keeps_type ty) (kept_from 1 (most_initial s.version) (map keeps_const init)) (and_parts (keeps_name x && keeps_type ty && kept_from 1 (most_initial s.version) (map keeps_const init)) (keeps_expr e) q.0.kept).0).0).0, stream_names_kept s (d.Stream at x ty init e ∷ before) ys q.1)
stream_names_kept s before (d.Def at x ty e ∷ ys) q = stream_names_kept s (d.Def at x ty e ∷ before) ys q.1
stream_names_kept s before (d.Trigger at x guard args ∷ ys) q = stream_names_kept s (d.Trigger at x guard args ∷ before) ys q.1
stream_names_kept s before (d.Observer at x e ∷ ys) q = stream_names_kept s (d.Observer at x e ∷ before) ys q.1

pub def_names_kept : (s : Surface) (before : Declarations) (ys : List Decl) → EachDecl (IsDecl s) before ys → AllByRecursion IsName (def_names ys)
def_names_kept s before [] q = tt
def_names_kept s before (d.Struct at x fields ∷ ys) q = def_names_kept s (d.Struct at x fields ∷ before) ys q.1
def_names_kept s before (d.Extern at x ty ∷ ys) q = def_names_kept s (d.Extern at x ty ∷ before) ys q.1
def_names_kept s before (d.Stream at x ty init e ∷ ys) q = def_names_kept s (d.Stream at x ty init e ∷ before) ys q.1
def_names_kept s before (d.Def at x ty e ∷ ys) q = ((and_parts (keeps_name x) (keeps_type ty) (and_parts (keeps_name x && keeps_type ty) (keeps_expr e) q.0.kept).0).0, def_names_kept s (d.Def at x ty e ∷ before) ys q.1)
def_names_kept s before (d.Trigger at x guard args ∷ ys) q = def_names_kept s (d.Trigger at x guard args ∷ before) ys q.1
def_names_kept s before (d.Observer at x e ∷ ys) q = def_names_kept s (d.Observer at x e ∷ before) ys q.1

pub trigger_names_kept : (s : Surface) (before : Declarations) (ys : List Decl) → EachDecl (IsDecl s) before ys → AllByRecursion IsName (trigger_names ys)
trigger_names_kept s before [] q = tt
trigger_names_kept s before (d.Struct at x fields ∷ ys) q = trigger_names_kept s (d.Struct at x fields ∷ before) ys q.1
trigger_names_kept s before (d.Extern at x ty ∷ ys) q = trigger_names_kept s (d.Extern at x ty ∷ before) ys q.1
trigger_names_kept s before (d.Stream at x ty init e ∷ ys) q = trigger_names_kept s (d.Stream at x ty init e ∷ before) ys q.1
trigger_names_kept s before (d.Def at x ty e ∷ ys) q = trigger_names_kept s (d.Def at x ty e ∷ before) ys q.1
trigger_names_kept s before (d.Trigger at x guard args ∷ ys) q = ((and_parts (keeps_name x) (keeps_expr guard) (and_parts (keeps_name x && keeps_expr guard) (kept_from 0 16 (map keeps_expr args)) q.0.kept).0).0, trigger_names_kept s (d.Trigger at x guard args ∷ before) ys q.1)
trigger_names_kept s before (d.Observer at x e ∷ ys) q = trigger_names_kept s (d.Observer at x e ∷ before) ys q.1

pub observer_names_kept : (s : Surface) (before : Declarations) (ys : List Decl) → EachDecl (IsDecl s) before ys → AllByRecursion IsName (observer_names ys)
observer_names_kept s before [] q = tt
observer_names_kept s before (d.Struct at x fields ∷ ys) q = observer_names_kept s (d.Struct at x fields ∷ before) ys q.1
observer_names_kept s before (d.Extern at x ty ∷ ys) q = observer_names_kept s (d.Extern at x ty ∷ before) ys q.1
observer_names_kept s before (d.Stream at x ty init e ∷ ys) q = observer_names_kept s (d.Stream at x ty init e ∷ before) ys q.1
observer_names_kept s before (d.Def at x ty e ∷ ys) q = observer_names_kept s (d.Def at x ty e ∷ before) ys q.1
observer_names_kept s before (d.Trigger at x guard args ∷ ys) q = observer_names_kept s (d.Trigger at x guard args ∷ before) ys q.1
observer_names_kept s before (d.Observer at x e ∷ ys) q = ((and_parts (keeps_name x) (keeps_expr e) q.0.kept).0, observer_names_kept s (d.Observer at x e ∷ before) ys q.1)
