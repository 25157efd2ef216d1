use Rattle.std.proofs.Common.{◌≡◌, ◌+◌, ◌<◌, ◌≤◌, List, length, map, get_or, Some, refl, sym, ap, ◌∙◌, subst, arith}
use Rattle.std.specs.Prelude.{slice_get, IfOk, IfSome}
use Rattle.std.specs.List.{AllByRecursion}
use Rattle.std.proofs.lemmas.Option.{slice_get-get_or, slice_get_read}
use Rattle.stream_types.specs.declared.types.TypeEntry.{TypeEntry}
use Rattle.stream_core.specs.declared.node.Node.{Node}
use Rattle.stream_core.specs.declared.node.Node.TheVariants as node
use Rattle.stream_core.specs.Parts.{parts}
use Rattle.stream_core.specs.Meaning.{closed_spec}
use Rattle.stream_core.proofs.NodeSizes.{all_sizes, array_size, node_size, parts_there, size_is}
use Rattle.c99_tree.specs.declared.expr.CExpr.{CExpr}
use Rattle.c99_tree.specs.declared.expr.CExpr.TheVariants as expr
use Rattle.c99_tree.proofs.LookedUp.{all_at}
use Rattle.ring_codegen.specs.CTypes.{c_type}
use Rattle.ring_codegen.specs.Translation.{translated}
use Rattle.ring_codegen.specs.Items.{IsNoDef, IsRingItem, NamesWhatIsThere, expression_of, form_of}
use Rattle.ring_codegen.proofs.FormsOfNodes.{array_is, extern_form, stream_form, struct_is}
use Rattle.ring_codegen.proofs.SoundItems.{node_names, ring_items, well_founded}
use Rattle.ring_codegen.proofs.expressions.+translating.Goals as goal

pub expression-behind-end-requires-clause-founded : goal.expression-behind-end-requires-clause-founded
expression-behind-end-requires-clause-founded t c = well_founded c.args.spec.now c.requires.sound

pub expression-form-requires : goal.expression-form-requires
expression-form-requires t c =
    let s = c.args.spec.now in
    let w = well_founded s c.requires.sound in
    let end = c.behind-end.result in
    let n = c.node.result.now in
    let there = c.behind-end.ensures.there in
    let smaller = c.behind-end.ensures.smaller in
    let z = size_is s end n (c.node.ensures.closed w) in (
      omega (arith, z, smaller),
      (
        c.requires.sound,
        (
          parts_there s end n there (c.node.ensures.below w),
          node_names s c.requires.sound end n there (c.node.ensures.tree w.ordered) (subst (λ o. IfSome o IsNoDef) c.node.ensures.node c.behind-end.ensures.no_def),
        ),
      ),
    )

pub expression-returns : goal.expression-returns
expression-returns t c =
    let s = c.args.spec.now in
    let w = well_founded s c.requires.sound in
    let same : form_of s c.node.result.now ≡ expression_of s c.args.id = sym (ap (translated (closed_spec s)) (c.node.ensures.closed w)) ∙ c.behind-end.ensures.same in
    subst (λ (x : CExpr). IfOk c.form.result (λ e. e ≡ x)) same c.form.ensures

pub form-operation-requires : goal.form-operation-requires
form-operation-requires t c =
    let s = c.args.spec.now in
    let z = ap (node_size s) c.in-Bin.is in
    let p = subst (λ (n : Node). AllByRecursion (λ j. j < length s.nodes) (parts n)) c.in-Bin.is c.requires.parts in
    let named = subst (NamesWhatIsThere s) c.in-Bin.is c.requires.named in
    (omega (arith, z), (c.requires.sound, (p.0, p.1.0)))

pub form-returns-in-Bin : goal.form-returns-in-Bin
form-returns-in-Bin t c =
    subst (λ (n : Node). IfOk c.operation.result (λ e. e ≡ form_of c.args.spec.now n)) (sym c.in-Bin.is) c.operation.ensures

pub form-moved-requires : goal.form-moved-requires
form-moved-requires t c =
    let s = c.args.spec.now in
    let z = ap (node_size s) c.in-Shift.is in
    let p = subst (λ (n : Node). AllByRecursion (λ j. j < length s.nodes) (parts n)) c.in-Shift.is c.requires.parts in
    let named = subst (NamesWhatIsThere s) c.in-Shift.is c.requires.named in
    (omega (arith, z), (c.requires.sound, (p.0, p.1.0)))

pub form-returns-in-Shift : goal.form-returns-in-Shift
form-returns-in-Shift t c =
    subst (λ (n : Node). IfOk c.moved.result (λ e. e ≡ form_of c.args.spec.now n)) (sym c.in-Shift.is) c.moved.ensures

pub form-joined-requires : goal.form-joined-requires
form-joined-requires t c =
    let s = c.args.spec.now in
    let z = ap (node_size s) c.in-And.is in
    let p = subst (λ (n : Node). AllByRecursion (λ j. j < length s.nodes) (parts n)) c.in-And.is c.requires.parts in
    let named = subst (NamesWhatIsThere s) c.in-And.is c.requires.named in
    (omega (arith, z), (c.requires.sound, (p.0, p.1.0)))

pub form-returns-in-And : goal.form-returns-in-And
form-returns-in-And t c =
    subst (λ (n : Node). IfOk c.joined.result (λ e. e ≡ form_of c.args.spec.now n)) (sym c.in-And.is) c.joined.ensures

pub form-joined-requires-in-Or : goal.form-joined-requires-in-Or
form-joined-requires-in-Or t c =
    let s = c.args.spec.now in
    let z = ap (node_size s) c.in-Or.is in
    let p = subst (λ (n : Node). AllByRecursion (λ j. j < length s.nodes) (parts n)) c.in-Or.is c.requires.parts in
    let named = subst (NamesWhatIsThere s) c.in-Or.is c.requires.named in
    (omega (arith, z), (c.requires.sound, (p.0, p.1.0)))

pub form-returns-in-Or : goal.form-returns-in-Or
form-returns-in-Or t c =
    subst (λ (n : Node). IfOk c.joined-in-Or.result (λ e. e ≡ form_of c.args.spec.now n)) (sym c.in-Or.is) c.joined-in-Or.ensures

pub form-implied-requires : goal.form-implied-requires
form-implied-requires t c =
    let s = c.args.spec.now in
    let z = ap (node_size s) c.in-Implies.is in
    let p = subst (λ (n : Node). AllByRecursion (λ j. j < length s.nodes) (parts n)) c.in-Implies.is c.requires.parts in
    let named = subst (NamesWhatIsThere s) c.in-Implies.is c.requires.named in
    (omega (arith, z), (c.requires.sound, (p.0, p.1.0)))

pub form-returns-in-Implies : goal.form-returns-in-Implies
form-returns-in-Implies t c =
    subst (λ (n : Node). IfOk c.implied.result (λ e. e ≡ form_of c.args.spec.now n)) (sym c.in-Implies.is) c.implied.ensures

pub form-chosen-requires : goal.form-chosen-requires
form-chosen-requires t c =
    let s = c.args.spec.now in
    let z = ap (node_size s) c.in-If.is in
    let p = subst (λ (n : Node). AllByRecursion (λ j. j < length s.nodes) (parts n)) c.in-If.is c.requires.parts in
    let named = subst (NamesWhatIsThere s) c.in-If.is c.requires.named in
    (omega (arith, z), (c.requires.sound, (p.0, (p.1.0, p.1.1.0))))

pub form-returns-in-If : goal.form-returns-in-If
form-returns-in-If t c =
    subst (λ (n : Node). IfOk c.chosen.result (λ e. e ≡ form_of c.args.spec.now n)) (sym c.in-If.is) c.chosen.ensures

pub form-element-requires : goal.form-element-requires
form-element-requires t c =
    let s = c.args.spec.now in
    let z = ap (node_size s) c.in-Index.is in
    let p = subst (λ (n : Node). AllByRecursion (λ j. j < length s.nodes) (parts n)) c.in-Index.is c.requires.parts in
    let named = subst (NamesWhatIsThere s) c.in-Index.is c.requires.named in
    (omega (arith, z), (c.requires.sound, (named, (p.0, p.1.0))))

pub form-returns-in-Index : goal.form-returns-in-Index
form-returns-in-Index t c =
    subst (λ (n : Node). IfOk c.element.result (λ e. e ≡ form_of c.args.spec.now n)) (sym c.in-Index.is) c.element.ensures

pub form-part-requires : goal.form-part-requires
form-part-requires t c =
    let s = c.args.spec.now in
    let z = ap (node_size s) c.in-Field.is in
    let p = subst (λ (n : Node). AllByRecursion (λ j. j < length s.nodes) (parts n)) c.in-Field.is c.requires.parts in
    let named = subst (NamesWhatIsThere s) c.in-Field.is c.requires.named in
    (omega (arith, z), (c.requires.sound, (named, p.0)))

pub form-returns-in-Field : goal.form-returns-in-Field
form-returns-in-Field t c =
    subst (λ (n : Node). IfOk c.part.result (λ e. e ≡ form_of c.args.spec.now n)) (sym c.in-Field.is) c.part.ensures

pub form-stream_value-requires : goal.form-stream_value-requires
form-stream_value-requires t c =
    let s = c.args.spec.now in
    let x = c.in-Stream.x in
    let item = c.index-streams-x.result in
    let g : x < length s.streams = subst (NamesWhatIsThere s) c.in-Stream.is c.requires.named in
    let there : slice_get s.streams x ≡ Some item = ap (λ xs. slice_get xs x) (sym c.streams.ensures) ∙ slice_get_read c.streams.result.now (length c.streams.result.now) x item refl (omega (arith, g, ap length c.streams.ensures)) c.index-streams-x.is in
    all_at (IsRingItem s.types) s.streams x item (ring_items s c.requires.sound) there

pub form-returns-in-Stream : goal.form-returns-in-Stream
form-returns-in-Stream t c =
    let s = c.args.spec.now in
    let x = c.in-Stream.x in
    let item = c.index-streams-x.result in
    let g : x < length s.streams = subst (NamesWhatIsThere s) c.in-Stream.is c.requires.named in
    let there : slice_get s.streams x ≡ Some item = ap (λ xs. slice_get xs x) (sym c.streams.ensures) ∙ slice_get_read c.streams.result.now (length c.streams.result.now) x item refl (omega (arith, g, ap length c.streams.ensures)) c.index-streams-x.is in
    subst (λ (v : CExpr). IfOk c.stream_value.result (λ e. e ≡ v)) (stream_form s x 0 item there ∙ ap (form_of s) (sym c.in-Stream.is)) c.stream_value.ensures

pub form-stream_value-requires-in-Drop : goal.form-stream_value-requires-in-Drop
form-stream_value-requires-in-Drop t c =
    let s = c.args.spec.now in
    let x = c.in-Drop.stream in
    let item = c.index-streams-stream.result in
    let g : x < length s.streams = subst (NamesWhatIsThere s) c.in-Drop.is c.requires.named in
    let there : slice_get s.streams x ≡ Some item = ap (λ xs. slice_get xs x) (sym c.streams-in-Drop.ensures) ∙ slice_get_read c.streams-in-Drop.result.now (length c.streams-in-Drop.result.now) x item refl (omega (arith, g, ap length c.streams-in-Drop.ensures)) c.index-streams-stream.is in
    all_at (IsRingItem s.types) s.streams x item (ring_items s c.requires.sound) there

pub form-returns-in-Drop : goal.form-returns-in-Drop
form-returns-in-Drop t c =
    let s = c.args.spec.now in
    let x = c.in-Drop.stream in
    let item = c.index-streams-stream.result in
    let g : x < length s.streams = subst (NamesWhatIsThere s) c.in-Drop.is c.requires.named in
    let there : slice_get s.streams x ≡ Some item = ap (λ xs. slice_get xs x) (sym c.streams-in-Drop.ensures) ∙ slice_get_read c.streams-in-Drop.result.now (length c.streams-in-Drop.result.now) x item refl (omega (arith, g, ap length c.streams-in-Drop.ensures)) c.index-streams-stream.is in
    subst (λ (v : CExpr). IfOk c.stream_value-in-Drop.result (λ e. e ≡ v)) (stream_form s x c.in-Drop.k item there ∙ ap (form_of s) (sym c.in-Drop.is)) c.stream_value-in-Drop.ensures

pub form-expressions-requires : goal.form-expressions-requires
form-expressions-requires t c =
    let s = c.args.spec.now in
    let es = c.in-Array.es in
    let e = c.as_slice.ensures in
    let z = ap (node_size s) c.in-Array.is ∙ array_size s (node.Array c.in-Array.of es) es refl in
    let y = ap (all_sizes s) e in
    let p : AllByRecursion (λ j. j < length s.nodes) es = subst (λ (n : Node). AllByRecursion (λ j. j < length s.nodes) (parts n)) c.in-Array.is c.requires.parts in
    (omega (arith, z, y), (c.requires.sound, subst (AllByRecursion (λ j. j < length s.nodes)) (sym e) p))

pub form-returns-in_ok-c_type-in-Array : goal.form-returns-in_ok-c_type-in-Array
form-returns-in_ok-c_type-in-Array t c =
    let s = c.args.spec.now in
    array_is s c.in-Array.of c.in-Array.es _ _ _ _ c.in-Array.is
    (c.in_ok-c_type-in-Array.ensures ∙ ap (λ (ts : List TypeEntry). c_type ts c.in-Array.of) c.types.ensures)
    (c.in_ok-all-in-Array.ensures ∙ ap (map (expression_of s)) c.as_slice.ensures) c.array_value.ensures

pub form-expressions-requires-in-Record : goal.form-expressions-requires-in-Record
form-expressions-requires-in-Record t c =
    let s = c.args.spec.now in
    let es = c.in-Record.es in
    let e = c.as_slice-in-Record.ensures in
    let z = ap (node_size s) c.in-Record.is ∙ array_size s (node.Record c.in-Record.of es) es refl in
    let y = ap (all_sizes s) e in
    let p : AllByRecursion (λ j. j < length s.nodes) es = subst (λ (n : Node). AllByRecursion (λ j. j < length s.nodes) (parts n)) c.in-Record.is c.requires.parts in
    (omega (arith, z, y), (c.requires.sound, subst (AllByRecursion (λ j. j < length s.nodes)) (sym e) p))

pub form-returns-in_ok-c_type-in-Record : goal.form-returns-in_ok-c_type-in-Record
form-returns-in_ok-c_type-in-Record t c =
    let s = c.args.spec.now in
    struct_is s c.in-Record.of c.in-Record.es _ _ _ _ c.in-Record.is
    (c.in_ok-c_type-in-Record.ensures ∙ ap (λ (ts : List TypeEntry). c_type ts c.in-Record.of) c.types-in-Record.ensures)
    (c.in_ok-all-in-Record.ensures ∙ ap (map (expression_of s)) c.as_slice-in-Record.ensures) c.struct_value.ensures

pub form-returns-in_ok-copy-in-Extern : goal.form-returns-in_ok-copy-in-Extern
form-returns-in_ok-copy-in-Extern t c =
    let s = c.args.spec.now in
    let x = c.in-Extern.x in
    let item = get_or c.externs.result.now x c.index-externs-x.result in
    let g : x < length s.externs = subst (NamesWhatIsThere s) c.in-Extern.is c.requires.named in
    let there : slice_get s.externs x ≡ Some item = ap (λ xs. slice_get xs x) (sym c.externs.ensures) ∙ slice_get-get_or c.externs.result.now x c.index-externs-x.result (omega (arith, g, ap length c.externs.ensures)) in
    ap expr.Copy c.in_ok-copy-in-Extern.ensures ∙ extern_form s x item there ∙ ap (form_of s) (sym c.in-Extern.is)
