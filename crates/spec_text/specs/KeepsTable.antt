-- What a surface keeps: each part fits the table and the limits.
use Rattle.std.specs.Prelude.{ℕ, ◌^◌, Bool, true, ◌==◌, ◌&&◌, ◌||◌, nat_le, nat_lt, List, map, length, IsTrue}
use Rattle.std.specs.List.{list_all}
use Rattle.sm_io.specs.Words.{is_name}
use Rattle.stream_types.specs.Numbers.{is_word}
use Rattle.spec_text.specs.declared.surface.NameAt.{NameAt}
use Rattle.spec_text.specs.declared.surface.FieldForm.{FieldForm}
use Rattle.spec_text.specs.declared.surface.TypeForm.{TypeForm}
use Rattle.spec_text.specs.declared.surface.TypeForm.TheOpen.{TypeForm-F}
use Rattle.spec_text.specs.declared.surface.TypeForm.TheFolds.{fold-TypeForm}
use Rattle.spec_text.specs.declared.surface.ConstForm.{ConstForm}
use Rattle.spec_text.specs.declared.surface.ConstForm.TheOpen.{ConstForm-F}
use Rattle.spec_text.specs.declared.surface.ConstForm.TheFolds.{fold-ConstForm}
use Rattle.spec_text.specs.declared.surface.Expr.{Expr}
use Rattle.spec_text.specs.declared.surface.Expr.TheOpen.{Expr-F}
use Rattle.spec_text.specs.declared.surface.Expr.TheFolds.{fold-Expr}
use Rattle.spec_text.specs.declared.surface.Decl.{Decl}
use Rattle.spec_text.specs.declared.surface.Decl.TheVariants as d
use Rattle.spec_text.specs.declared.surface.Surface.{Surface}
use Rattle.spec_text.specs.Shape.{most_initial}

abbrev pub between : ℕ → ℕ → ℕ → Bool
between low high n = nat_le low n && nat_le n high

-- each of them is kept
abbrev pub all_kept : List Bool → Bool
all_kept kept = list_all (λ b. b) kept

-- so many of them, and each is kept
abbrev pub kept_from : ℕ → ℕ → List Bool → Bool
kept_from low high kept = between low high (length kept) && all_kept kept

abbrev pub keeps_name : NameAt → Bool
keeps_name x = is_name x.name

abbrev pub keeps_type_step : TypeForm-F Bool → Bool
keeps_type_step (TypeForm-F.Scalar at s) = true
keeps_type_step (TypeForm-F.Named x) = keeps_name x
keeps_type_step (TypeForm-F.Array at elem n) = elem && between 1 1024 n

unfoldable pub keeps_type : TypeForm → Bool
keeps_type = fold-TypeForm Bool keeps_type_step

abbrev pub keeps_const_step : ConstForm-F Bool → Bool
keeps_const_step (ConstForm-F.Lit at s w) = is_word s w
keeps_const_step (ConstForm-F.Array at items) = kept_from 1 1024 items
keeps_const_step (ConstForm-F.Record at x items) = keeps_name x && (nat_le 1 (length items) && all_kept items)

unfoldable pub keeps_const : ConstForm → Bool
keeps_const = fold-ConstForm Bool keeps_const_step

abbrev pub keeps_expr_step : Expr-F Bool → Bool
keeps_expr_step (Expr-F.Lit at s w) = is_word s w
keeps_expr_step (Expr-F.Name x) = keeps_name x
keeps_expr_step (Expr-F.Drop at k x) = nat_le k 4294967295 && keeps_name x
keeps_expr_step (Expr-F.Un at op a) = a
keeps_expr_step (Expr-F.Bin at op a b) = a && b
keeps_expr_step (Expr-F.Shift at dir a count) = a && count
keeps_expr_step (Expr-F.And at a b) = a && b
keeps_expr_step (Expr-F.Or at a b) = a && b
keeps_expr_step (Expr-F.Implies at a b) = a && b
keeps_expr_step (Expr-F.If at c a b) = c && a && b
keeps_expr_step (Expr-F.Cast at to a) = keeps_type to && a
keeps_expr_step (Expr-F.Abs at a) = a
keeps_expr_step (Expr-F.Sign at a) = a
keeps_expr_step (Expr-F.Index at a i) = a && i
keeps_expr_step (Expr-F.Field at a x) = a && keeps_name x
keeps_expr_step (Expr-F.Array at items) = kept_from 1 1024 items
keeps_expr_step (Expr-F.Record at x items) = keeps_name x && (nat_le 1 (length items) && all_kept items)
keeps_expr_step (Expr-F.Once at p) = p
keeps_expr_step (Expr-F.Historically at p) = p
keeps_expr_step (Expr-F.Yesterday at p) = p
keeps_expr_step (Expr-F.WeaklyYesterday at p) = p
keeps_expr_step (Expr-F.Since at p q) = p && q
keeps_expr_step (Expr-F.OnceIn at low high p) = between low 128 high && p
keeps_expr_step (Expr-F.HistoricallyIn at low high p) = between low 128 high && p
keeps_expr_step (Expr-F.SinceIn at low high p q) = between low 128 high && p && q
keeps_expr_step (Expr-F.Clock at period phase) = nat_lt phase period && nat_lt period (2 ^ 32)
keeps_expr_step (Expr-F.Majority at items) = kept_from 1 9 items
keeps_expr_step (Expr-F.Agreed at items) = kept_from 1 9 items
keeps_expr_step (Expr-F.WindowMax at n e) = between 1 12 n && e
keeps_expr_step (Expr-F.WindowMin at n e) = between 1 12 n && e
keeps_expr_step (Expr-F.WindowSum at n e) = between 1 12 n && e

unfoldable pub keeps_expr : Expr → Bool
keeps_expr = fold-Expr Bool keeps_expr_step

abbrev pub keeps_field : FieldForm → Bool
keeps_field f = keeps_name f.name && keeps_type f.ty

-- in a text of this version
abbrev pub keeps_decl : ℕ → Decl → Bool
keeps_decl version (d.Struct at x fields) = keeps_name x && kept_from 1 64 (map keeps_field fields)
keeps_decl version (d.Extern at x ty) = keeps_name x && keeps_type ty
keeps_decl version (d.Stream at x ty init e) =
    keeps_name x && keeps_type ty && kept_from 1 (most_initial version) (map keeps_const init) && keeps_expr e
keeps_decl version (d.Def at x ty e) = keeps_name x && keeps_type ty && keeps_expr e
keeps_decl version (d.Trigger at x guard args) =
    keeps_name x && keeps_expr guard && kept_from 0 16 (map keeps_expr args)
keeps_decl version (d.Observer at x e) = keeps_name x && keeps_expr e

-- Each part of the surface fits the table and the limits of its version.
unfoldable pub keeps_table : Surface → Bool
keeps_table s = (s.version == 1 || s.version == 2) && is_name s.name && all_kept (map (keeps_decl s.version) s.decls)

abbrev pub KeepsTable : Surface → Type 0
KeepsTable s = IsTrue (keeps_table s)
