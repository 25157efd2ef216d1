use Rattle.std.proofs.Common.{◌≡◌, List, ◌∷◌, length, refl, sym, ap, ◌∙◌, subst}
use Rattle.std.specs.Prelude.{Some, OnOk, slice_get}
use Rattle.spec_text.specs.declared.surface.FieldForm.{FieldForm}
use Rattle.spec_text.specs.declared.surface.Decl.{Decl}
use Rattle.spec_text.specs.declared.surface.Decl.TheVariants as d
use Rattle.type_check.specs.declared.structs.Structs.{Structs}
use Rattle.type_check.specs.declared.scope.Kind.TheVariants as kind
use Rattle.type_check.specs.Judged.{extern_of, stream_of, def_of}
use Rattle.type_check.specs.Untyped.{reversed}
use Rattle.type_check.specs.Table.{struct_names, IsTable, HasItems}
use Rattle.type_check.proofs.Answered.{on_then}
use Rattle.type_check.proofs.Tables.{table_other, next_name}
use Rattle.type_check.proofs.scope.Scope.declare.Goals as goal

pub returns-in-Struct-clause-ok : goal.returns-in-Struct-clause-ok
returns-in-Struct-clause-ok c = λ names ds rest e t h.
    let p = c.in-Struct in
    let s : Decl = d.Struct p.at p.name p.fields in
    let f : names ≡ struct_names (reversed (s ∷ ds) rest) = subst (λ (y : Decl). names ≡ struct_names (reversed (y ∷ ds) rest)) p.is e in
    let n : slice_get names (length c.args.self.now.structs.all.items) ≡ Some p.name.name = ap (slice_get names) t.count ∙ ap (λ ns. slice_get ns (length (struct_names ds))) f ∙ next_name ds p.at p.name p.fields rest in
    subst (λ (y : Decl). OnOk c.declare.result (IsTable names (y ∷ ds) c.declare.new.self × HasItems names (y ∷ ds) c.args.self.now.items.entries)) (sym p.is)
    (on_then c.declare.result
    (λ m. (subst (λ (fs : List FieldForm). IsTable names (d.Struct p.at p.name fs ∷ ds) c.declare.new.self) c.as_slice.ensures m, record { items_are = λ x. h.items_are x }))
    (c.declare.ensures.ok names ds p.at t n))

pub returns-in-Extern-clause-ok : goal.returns-in-Extern-clause-ok
returns-in-Extern-clause-ok c = λ names ds rest e t h.
    let p = c.in-Extern in
    let x : Decl = d.Extern p.at p.name p.ty in
    subst (λ (y : Decl). OnOk c.item.result (IsTable names (y ∷ ds) c.item.new.self.structs × HasItems names (y ∷ ds) c.item.new.self.items.entries)) (sym p.is)
    (on_then c.item.result
    (λ m. (subst (λ (s : Structs). IsTable names (x ∷ ds) s) (sym c.item.ensures.structs) (table_other names ds (x ∷ ds) c.args.self.now.structs (λ y. refl) (λ y. refl) refl t), record { items_are = m }))
    (c.item.ensures.items names ds (extern_of ds p.ty) t (refl) refl h))

pub returns-in-Stream-clause-ok : goal.returns-in-Stream-clause-ok
returns-in-Stream-clause-ok c = λ names ds rest e t h.
    let p = c.in-Stream in
    let x : Decl = d.Stream p.at p.name p.ty p.init p.expr in
    subst (λ (y : Decl). OnOk c.item-in-Stream.result (IsTable names (y ∷ ds) c.item-in-Stream.new.self.structs × HasItems names (y ∷ ds) c.item-in-Stream.new.self.items.entries)) (sym p.is)
    (on_then c.item-in-Stream.result
    (λ m. (subst (λ (s : Structs). IsTable names (x ∷ ds) s) (sym c.item-in-Stream.ensures.structs) (table_other names ds (x ∷ ds) c.args.self.now.structs (λ y. refl) (λ y. refl) refl t), record { items_are = m }))
    (c.item-in-Stream.ensures.items names ds (stream_of ds p.ty (length p.init)) t (ap (λ ys. kind.Kept (length ys)) c.as_slice-in-Stream.ensures) refl h))

pub returns-in-Def-clause-ok : goal.returns-in-Def-clause-ok
returns-in-Def-clause-ok c = λ names ds rest e t h.
    let p = c.in-Def in
    let x : Decl = d.Def p.at p.name p.ty p.expr in
    subst (λ (y : Decl). OnOk c.item-in-Def.result (IsTable names (y ∷ ds) c.item-in-Def.new.self.structs × HasItems names (y ∷ ds) c.item-in-Def.new.self.items.entries)) (sym p.is)
    (on_then c.item-in-Def.result
    (λ m. (subst (λ (s : Structs). IsTable names (x ∷ ds) s) (sym c.item-in-Def.ensures.structs) (table_other names ds (x ∷ ds) c.args.self.now.structs (λ y. refl) (λ y. refl) refl t), record { items_are = m }))
    (c.item-in-Def.ensures.items names ds (def_of ds p.ty) t (refl) refl h))

pub returns-in-Trigger-clause-ok : goal.returns-in-Trigger-clause-ok
returns-in-Trigger-clause-ok c = λ names ds rest e t h.
    let p = c.in-Trigger in
    let x : Decl = d.Trigger p.at p.name p.guard p.args in
    subst (λ (y : Decl). IsTable names (y ∷ ds) c.args.self.now.structs × HasItems names (y ∷ ds) c.args.self.now.items.entries) (sym p.is)
    (table_other names ds (x ∷ ds) c.args.self.now.structs (λ y. refl) (λ y. refl) refl t, record { items_are = λ y. h.items_are y })

pub returns-in-Observer-clause-ok : goal.returns-in-Observer-clause-ok
returns-in-Observer-clause-ok c = λ names ds rest e t h.
    let p = c.in-Observer in
    let x : Decl = d.Observer p.at p.name p.expr in
    subst (λ (y : Decl). IsTable names (y ∷ ds) c.args.self.now.structs × HasItems names (y ∷ ds) c.args.self.now.items.entries) (sym p.is)
    (table_other names ds (x ∷ ds) c.args.self.now.structs (λ y. refl) (λ y. refl) refl t, record { items_are = λ y. h.items_are y })
