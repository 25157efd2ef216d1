use Rattle.std.proofs.Common.{◌≡◌, ◌+◌, ◌<◌, length, Ok, Err, ⊎_elim, refl, sym, ap, ◌∙◌, subst, arith, ◌++◌, drop, Some}
use Rattle.std.specs.Prelude.{IfErr, IfSome, OnOk, slice_get}
use Rattle.stream_types.specs.declared.scalar.Scalar.TheVariants as scalar
use Rattle.stream_types.specs.declared.scalar.Ty.TheVariants as ty
use Rattle.std.proofs.lemmas.Option.{slice_get_within}
use Rattle.stream_types.specs.TypeList.{IsTypeList, Stands}
use Rattle.stream_types.specs.Types.{elem_words, entry_of, fields_of, words, field_first}
use Rattle.stream_core.specs.declared.node.Node.TheVariants as node
use Rattle.stream_core.specs.Eval.{Value, element, value, all_values}
use Rattle.stream_core.specs.Term.{closed, terms_of}
use Rattle.stream_core.specs.Weights.{loaded, nodes_weight}
use Rattle.stream_core.proofs.NodeSizes.{all_sizes, array_size, node_size}
use Rattle.stream_interp.specs.Branches.{IsReadyBranch, branch_value, branch_weight}
use Rattle.stream_interp.specs.Reading.{AreReady, IsNoDef, IsReadyForm, part_types}
use Rattle.stream_interp.specs.Seen.{now_moment}
use Rattle.stream_interp.proofs.BranchSizes.{branch_size}
use Rattle.stream_interp.proofs.FormLoads.{load, lit_load, extern_load, stream_load, drop_load, un_load, un_size, bin_load, bin_size, shift_load, shift_size, cast_load, cast_size, and_load, and_size, or_load, or_size, implies_load, implies_size, if_load, if_size, index_load, index_size, field_load, field_size, array_load, struct_load}
use Rattle.stream_interp.proofs.TestValues.{test_true, test_false, test_err}
use Rattle.stream_interp.proofs.ReadItems.{first_read, set_only}
use Rattle.std.proofs.lemmas.Result.{IfErr-weaker, IfOk-weaker, err_from_is_err_and}
use Rattle.std.proofs.lemmas.List.{nil_from_length}
use Rattle.std.specs.List.{between}
use Rattle.stream_interp.proofs.FormValues.{dropped_now, element_now, extern_now, form_value, stream_now, un_value, un_err, cast_value, cast_err, bin_value, bin_first, bin_second, shift_value, shift_first, shift_second, index_first, index_second, field_err, member_now, cons_value, cons_first, cons_second}
use Rattle.stream_interp.proofs.NowValues.{founded, seen_word}
use Rattle.stream_interp.proofs.PartWidths.{array_entry, array_stands, member_there, struct_stands, member_inside, member_is}
use Rattle.stream_interp.proofs.ReadyForms.{and_ready, bin_ready, cast_ready, choose_ready, form_same, implies_ready, no_larger, or_ready, ready_form, shift_ready, un_ready, node_some_size}
use Rattle.stream_interp.proofs.ReadyParts.{AreReadyParts, array_ready, field_ready, first_ready, index_ready, narrow, no_other, struct_ready, none_left}
use Rattle.stream_interp.proofs.RingEntries.{dropped_entry, only_word, stream_entry}
use Rattle.stream_interp.proofs.values.+evaluating.Goals as goal

pub word-behind-end-requires : goal.word-behind-end-requires
word-behind-end-requires g t c =
    record { founded = founded c.args.sight.now.spec.now c.requires.seen.plain; typed = c.requires.seen.plain.typed; there = c.requires.there }

pub word-node-requires : goal.word-node-requires
word-node-requires g t c = c.behind-end.ensures.behind.there

pub word-word_of-requires : goal.word-word_of-requires
word-word_of-requires g t c =
    let s = c.args.sight.now.spec.now in let seen = c.requires.seen in let w = founded s seen.plain in let b = c.behind-end.ensures.behind in
    let form = c.node.result.now in let end = c.behind-end.result in let e = c.node.ensures.closed w in let less = no_larger s c.args.id end form b e in
    λ _ alive. (omega (arith, less), (alive, (seen, (c.requires.layout, ((c.requires.scalar.0, ready_form s w (length c.args.scratch.now) c.args.id end form (ty.Scalar c.requires.scalar.0) b c.node.ensures.node e (c.node.ensures.tree w.ordered) (c.node.ensures.below w) c.requires.scalar.1 c.requires.plain c.requires.room), subst (λ o. IfSome o IsNoDef) c.node.ensures.node c.behind-end.ensures.no_def)))))

pub word-returns : goal.word-returns
word-returns g t c =
    let s = c.args.sight.now.spec.now in let e = c.node.ensures.closed (founded s c.requires.seen.plain) in
    let load = form_same s loaded (λ d a. refl) c.args.id c.behind-end.result c.node.result.now c.behind-end.ensures.behind e in
    let v = form_same s (value (now_moment s c.args.sight.now.rings.now c.args.sight.now.row.now)) (λ d a. refl) c.args.id c.behind-end.result c.node.result.now c.behind-end.ensures.behind e in
    record { value = v ∙ c.word_of.ensures.value; steps = omega (arith, load, c.word_of.ensures.steps) }

pub word_of-extern_part-requires-clause-typed : goal.word_of-extern_part-requires-clause-typed
word_of-extern_part-requires-clause-typed g t c =
    let kind = ty.Scalar c.requires.ready.0 in
    let q = subst (λ f. IsReadyForm c.args.sight.now.spec.now (length c.args.scratch.now) f kind) c.in-Extern.is c.requires.ready.1 in (kind, q.typed, refl)

pub word_of-entry_word-requires-clause-typed : goal.word_of-entry_word-requires-clause-typed
word_of-entry_word-requires-clause-typed g t c =
    let kind = ty.Scalar c.requires.ready.0 in
    let q = subst (λ f. IsReadyForm c.args.sight.now.spec.now (length c.args.scratch.now) f kind) c.in-Stream.is c.requires.ready.1 in
    (kind, stream_entry c.args.sight.now.spec.now c.args.sight.now.rings.now c.args.sight.now.row.now c.requires.seen c.in-Stream.x kind q.typed, refl)

pub word_of-entry_word-requires-in-Drop-clause-typed : goal.word_of-entry_word-requires-in-Drop-clause-typed
word_of-entry_word-requires-in-Drop-clause-typed g t c =
    let kind = ty.Scalar c.requires.ready.0 in
    let q = subst (λ f. IsReadyForm c.args.sight.now.spec.now (length c.args.scratch.now) f kind) c.in-Drop.is c.requires.ready.1 in
    (kind, dropped_entry c.args.sight.now.spec.now c.args.sight.now.rings.now c.args.sight.now.row.now c.requires.seen c.in-Drop.stream c.in-Drop.k kind q.typed, refl)

pub word_of-word-requires : goal.word_of-word-requires
word_of-word-requires g t c =
    let a = un_ready c.args.sight.now.spec.now (length c.args.scratch.now) (ty.Scalar c.requires.ready.0) c.args.node.now c.in-Un.op c.in-Un.s c.in-Un.a c.in-Un.is c.requires.ready.1 in
    let z = un_size c.args.sight.now.spec.now c.args.node.now c.in-Un.op c.in-Un.s c.in-Un.a c.in-Un.is in
    λ _ alive. (omega (arith, z), (alive, (c.requires.seen, (c.requires.layout, ((c.in-Un.s, a.typed), (a.there, (a.plain, (let fits = a.enough in omega (arith, fits)))))))))

pub word_of-word-requires-in-Bin : goal.word_of-word-requires-in-Bin
word_of-word-requires-in-Bin g t c =
    let s = c.args.sight.now.spec.now in
    let a = (bin_ready s (length c.args.scratch.now) (ty.Scalar c.requires.ready.0) c.args.node.now c.in-Bin.op c.in-Bin.s c.in-Bin.a c.in-Bin.b c.in-Bin.is c.requires.ready.1).0 in
    let z = bin_size s c.args.node.now c.in-Bin.op c.in-Bin.s c.in-Bin.a c.in-Bin.b c.in-Bin.is in
    λ _ alive. (omega (arith, z), (alive, (c.requires.seen, (c.requires.layout, ((c.in-Bin.s, a.typed), (a.there, (a.plain, (let fits = a.enough in omega (arith, fits)))))))))

pub word_of-word-requires-in-Bin-2 : goal.word_of-word-requires-in-Bin-2
word_of-word-requires-in-Bin-2 g t c =
    let s = c.args.sight.now.spec.now in
    let a = (bin_ready s (length c.args.scratch.now) (ty.Scalar c.requires.ready.0) c.args.node.now c.in-Bin.op c.in-Bin.s c.in-Bin.a c.in-Bin.b c.in-Bin.is c.requires.ready.1).1 in
    let z = bin_size s c.args.node.now c.in-Bin.op c.in-Bin.s c.in-Bin.a c.in-Bin.b c.in-Bin.is in
    λ _ alive. (omega (arith, z), (alive, (c.requires.seen, (c.requires.layout, ((c.in-Bin.s, a.typed), (a.there, (a.plain, (let fits = a.enough in omega (arith, fits)))))))))

pub word_of-word-requires-in-Shift : goal.word_of-word-requires-in-Shift
word_of-word-requires-in-Shift g t c =
    let s = c.args.sight.now.spec.now in let n = length c.args.scratch.now in
    let a = (shift_ready s n (ty.Scalar c.requires.ready.0) c.args.node.now c.in-Shift.dir c.in-Shift.ty c.in-Shift.a c.in-Shift.cty c.in-Shift.count c.in-Shift.is c.requires.ready.1).0 in
    let z = shift_size s c.args.node.now c.in-Shift.dir c.in-Shift.ty c.in-Shift.a c.in-Shift.cty c.in-Shift.count c.in-Shift.is in
    λ _ alive. (omega (arith, z), (alive, (c.requires.seen, (c.requires.layout, ((c.in-Shift.ty, a.typed), (a.there, (a.plain, (let fits = a.enough in omega (arith, fits)))))))))

pub word_of-word-requires-in-Shift-2 : goal.word_of-word-requires-in-Shift-2
word_of-word-requires-in-Shift-2 g t c =
    let s = c.args.sight.now.spec.now in let n = length c.args.scratch.now in
    let a = (shift_ready s n (ty.Scalar c.requires.ready.0) c.args.node.now c.in-Shift.dir c.in-Shift.ty c.in-Shift.a c.in-Shift.cty c.in-Shift.count c.in-Shift.is c.requires.ready.1).1 in
    let z = shift_size s c.args.node.now c.in-Shift.dir c.in-Shift.ty c.in-Shift.a c.in-Shift.cty c.in-Shift.count c.in-Shift.is in
    λ _ alive. (omega (arith, z), (alive, (c.requires.seen, (c.requires.layout, ((c.in-Shift.cty, a.typed), (a.there, (a.plain, (let fits = a.enough in omega (arith, fits)))))))))

pub word_of-word-requires-in-Cast : goal.word_of-word-requires-in-Cast
word_of-word-requires-in-Cast g t c =
    let s = c.args.sight.now.spec.now in
    let a = cast_ready s (length c.args.scratch.now) (ty.Scalar c.requires.ready.0) c.args.node.now c.in-Cast.from c.in-Cast.to c.in-Cast.a c.in-Cast.is c.requires.ready.1 in
    let z = cast_size s c.args.node.now c.in-Cast.from c.in-Cast.to c.in-Cast.a c.in-Cast.is in
    λ _ alive. (omega (arith, z), (alive, (c.requires.seen, (c.requires.layout, ((c.in-Cast.from, a.typed), (a.there, (a.plain, (let fits = a.enough in omega (arith, fits)))))))))

pub word_of-op1-requires : goal.word_of-op1-requires
word_of-op1-requires g t c =
    let s = c.args.sight.now.spec.now in let n = length c.args.scratch.now in let kind = ty.Scalar c.requires.ready.0 in
    let q = subst (λ f. IsReadyForm s n f kind) c.in-Un.is c.requires.ready.1 in
    let operand = un_ready s n kind c.args.node.now c.in-Un.op c.in-Un.s c.in-Un.a c.in-Un.is c.requires.ready.1 in
    record {
      fits = q.typed.0;
      a = seen_word s c.args.sight.now.rings.now c.args.sight.now.row.now c.requires.seen c.in-Un.a c.in-Un.s c.in_ok-x-in-Un.x operand.typed operand.plain c.in_ok-x-in-Un.ensures.value;
    }

pub word_of-op2-requires : goal.word_of-op2-requires
word_of-op2-requires g t c =
    let s = c.args.sight.now.spec.now in let n = length c.args.scratch.now in let kind = ty.Scalar c.requires.ready.0 in let r = c.requires.ready.1 in
    let q = subst (λ f. IsReadyForm s n f kind) c.in-Bin.is r in
    let left = (bin_ready s n kind c.args.node.now c.in-Bin.op c.in-Bin.s c.in-Bin.a c.in-Bin.b c.in-Bin.is r).0 in
    let right = (bin_ready s n kind c.args.node.now c.in-Bin.op c.in-Bin.s c.in-Bin.a c.in-Bin.b c.in-Bin.is r).1 in
    record {
      fits = q.typed.0;
      a = seen_word s c.args.sight.now.rings.now c.args.sight.now.row.now c.requires.seen c.in-Bin.a c.in-Bin.s c.in_ok-left-in-Bin.left left.typed left.plain c.in_ok-left-in-Bin.ensures.value;
      b = seen_word s c.args.sight.now.rings.now c.args.sight.now.row.now c.requires.seen c.in-Bin.b c.in-Bin.s c.in_ok-right-in-Bin.right right.typed right.plain c.in_ok-right-in-Bin.ensures.value;
    }

pub word_of-shift-requires : goal.word_of-shift-requires
word_of-shift-requires g t c =
    let s = c.args.sight.now.spec.now in let n = length c.args.scratch.now in let kind = ty.Scalar c.requires.ready.0 in let r = c.requires.ready.1 in
    let q = subst (λ f. IsReadyForm s n f kind) c.in-Shift.is r in let seen = c.requires.seen in
    let left = (shift_ready s n kind c.args.node.now c.in-Shift.dir c.in-Shift.ty c.in-Shift.a c.in-Shift.cty c.in-Shift.count c.in-Shift.is r).0 in
    let right = (shift_ready s n kind c.args.node.now c.in-Shift.dir c.in-Shift.ty c.in-Shift.a c.in-Shift.cty c.in-Shift.count c.in-Shift.is r).1 in
    record {
      fits = q.typed.0;
      a = seen_word s c.args.sight.now.rings.now c.args.sight.now.row.now seen c.in-Shift.a c.in-Shift.ty c.in_ok-base-in-Shift.base left.typed left.plain c.in_ok-base-in-Shift.ensures.value;
      count = seen_word s c.args.sight.now.rings.now c.args.sight.now.row.now seen c.in-Shift.count c.in-Shift.cty c.in_ok-by-in-Shift.by right.typed right.plain c.in_ok-by-in-Shift.ensures.value;
    }

pub word_of-cast-requires : goal.word_of-cast-requires
word_of-cast-requires g t c =
    let s = c.args.sight.now.spec.now in let n = length c.args.scratch.now in let kind = ty.Scalar c.requires.ready.0 in
    let q = subst (λ f. IsReadyForm s n f kind) c.in-Cast.is c.requires.ready.1 in let seen = c.requires.seen in
    let operand = cast_ready s n kind c.args.node.now c.in-Cast.from c.in-Cast.to c.in-Cast.a c.in-Cast.is c.requires.ready.1 in
    record {
      fits = q.typed.0;
      a = seen_word s c.args.sight.now.rings.now c.args.sight.now.row.now seen c.in-Cast.a c.in-Cast.from c.in_ok-source-in-Cast.source operand.typed operand.plain c.in_ok-source-in-Cast.ensures.value;
    }

pub word_of-chosen-requires : goal.word_of-chosen-requires
word_of-chosen-requires g t c =
    let s = c.args.sight.now.spec.now in
    let p = and_ready s (length c.args.scratch.now) (ty.Scalar c.requires.ready.0) c.args.node.now c.in-And.a c.in-And.b c.in-And.is c.requires.ready.1 in
    λ _ alive. (omega (arith, and_size s c.args.node.now c.in-And.a c.in-And.b c.in-And.is), (alive, (c.requires.seen, (c.requires.layout, (p.0, ((scalar.Bool, p.1), (scalar.Bool, tt)))))))

pub word_of-chosen-requires-in-Or : goal.word_of-chosen-requires-in-Or
word_of-chosen-requires-in-Or g t c =
    let s = c.args.sight.now.spec.now in
    let p = or_ready s (length c.args.scratch.now) (ty.Scalar c.requires.ready.0) c.args.node.now c.in-Or.a c.in-Or.b c.in-Or.is c.requires.ready.1 in
    λ _ alive. (omega (arith, or_size s c.args.node.now c.in-Or.a c.in-Or.b c.in-Or.is), (alive, (c.requires.seen, (c.requires.layout, (p.0, ((scalar.Bool, tt), (scalar.Bool, p.1)))))))

pub word_of-chosen-requires-in-Implies : goal.word_of-chosen-requires-in-Implies
word_of-chosen-requires-in-Implies g t c =
    let s = c.args.sight.now.spec.now in let seen = c.requires.seen in
    let p = implies_ready s (length c.args.scratch.now) (ty.Scalar c.requires.ready.0) c.args.node.now c.in-Implies.a c.in-Implies.b c.in-Implies.is c.requires.ready.1 in
    λ _ alive. (omega (arith, implies_size s c.args.node.now c.in-Implies.a c.in-Implies.b c.in-Implies.is), (alive, (seen, (c.requires.layout, (p.0, ((scalar.Bool, p.1), (scalar.Bool, tt)))))))

pub word_of-chosen-requires-in-If : goal.word_of-chosen-requires-in-If
word_of-chosen-requires-in-If g t c =
    let s = c.args.sight.now.spec.now in let seen = c.requires.seen in let form = c.args.node.now in
    let p = choose_ready s (length c.args.scratch.now) (ty.Scalar c.requires.ready.0) form c.in-If.c c.in-If.a c.in-If.b c.in-If.is c.requires.ready.1 in
    λ _ alive. (omega (arith, if_size s form c.in-If.c c.in-If.a c.in-If.b c.in-If.is), (alive, (seen, (c.requires.layout, (p.0, ((c.requires.ready.0, p.1), (c.requires.ready.0, p.2)))))))

pub word_of-element_into-requires : goal.word_of-element_into-requires
word_of-element_into-requires g t c =
    let s = c.args.sight.now.spec.now in let n = length c.args.scratch.now in
    let p = index_ready s c.requires.seen.plain.typed.types n (ty.Scalar c.requires.ready.0) c.args.node.now c.in-Index.of c.in-Index.a c.in-Index.i 1 c.in-Index.is c.requires.ready.1 refl in
    λ _ alive. (omega (arith, index_size s c.args.node.now c.in-Index.of c.in-Index.a c.in-Index.i c.in-Index.is), (alive, (c.requires.seen, (c.requires.layout, p))))

pub word_of-member_into-requires : goal.word_of-member_into-requires
word_of-member_into-requires g t c =
    let s = c.args.sight.now.spec.now in let seen = c.requires.seen in let n = length c.args.scratch.now in
    let p = field_ready s seen.plain.typed.types n (ty.Scalar c.requires.ready.0) c.args.node.now c.in-Field.of c.in-Field.member c.in-Field.a 1 c.in-Field.is c.requires.ready.1 refl in
    λ _ alive. (omega (arith, field_size s c.args.node.now c.in-Field.of c.in-Field.member c.in-Field.a c.in-Field.is), (alive, (seen, (c.requires.layout, p))))

pub word_of-unreachable-requires : goal.word_of-unreachable-requires
word_of-unreachable-requires g t c =
    let s = c.args.sight.now.spec.now in let form = c.args.node.now in let n = length c.args.scratch.now in let r = c.requires.ready.1 in
    no_other s n c.requires.ready.0 form r c.requires.no_def c.in_default.not-Lit c.in_default.not-Extern c.in_default.not-Stream c.in_default.not-Drop c.in_default.not-Un c.in_default.not-Bin c.in_default.not-Shift c.in_default.not-Cast c.in_default.not-And c.in_default.not-Or c.in_default.not-Implies c.in_default.not-If c.in_default.not-Index c.in_default.not-Field

pub word_of-returns-in-Extern : goal.word_of-returns-in-Extern
word_of-returns-in-Extern g t c =
    let s = c.args.sight.now.spec.now in
    record {
      value = ap (form_value (now_moment s c.args.sight.now.rings.now c.args.sight.now.row.now) s) c.in-Extern.is ∙ extern_now s c.args.sight.now.rings.now c.args.sight.now.row.now c.in-Extern.x ∙ ap Ok (sym c.extern_part.ensures.part ∙ only_word c.extern_part.result.now _ c.extern_part.ensures.wide refl);
      steps = omega (arith, extern_load s c.args.node.now c.in-Extern.x c.in-Extern.is, c.tick-in-Extern.ensures);
    }

pub word_of-returns-in-Stream : goal.word_of-returns-in-Stream
word_of-returns-in-Stream g t c =
    let s = c.args.sight.now.spec.now in
    record {
      value = ap (form_value (now_moment s c.args.sight.now.rings.now c.args.sight.now.row.now) s) c.in-Stream.is ∙ stream_now s c.args.sight.now.rings.now c.args.sight.now.row.now c.in-Stream.x ∙ ap Ok c.entry_word.ensures;
      steps = omega (arith, stream_load s c.args.node.now c.in-Stream.x c.in-Stream.is, c.tick-in-Stream.ensures);
    }

pub word_of-returns-in-Drop : goal.word_of-returns-in-Drop
word_of-returns-in-Drop g t c =
    let s = c.args.sight.now.spec.now in
    record {
      value = ap (form_value (now_moment s c.args.sight.now.rings.now c.args.sight.now.row.now) s) c.in-Drop.is ∙ dropped_now s c.args.sight.now.rings.now c.args.sight.now.row.now c.in-Drop.stream c.in-Drop.k ∙ ap Ok c.entry_word-in-Drop.ensures;
      steps = omega (arith, drop_load s c.args.node.now c.in-Drop.stream c.in-Drop.k c.in-Drop.is, c.tick-in-Drop.ensures);
    }

pub taken-word-requires : goal.taken-word-requires
taken-word-requires g t c =
    let a = subst (λ b. IsReadyBranch c.args.sight.now.spec.now (length c.args.scratch.now) b (ty.Scalar c.requires.ready.0)) c.in-Node.is c.requires.ready.1 in
    let z = ap (branch_size c.args.sight.now.spec.now) c.in-Node.is in
    λ _ alive. (omega (arith, z), (alive, (c.requires.seen, (c.requires.layout, ((c.requires.ready.0, a.typed), (a.there, (a.plain, (let fits = a.enough in omega (arith, fits)))))))))

pub fill-behind-end-requires : goal.fill-behind-end-requires
fill-behind-end-requires g t c =
    record { founded = founded c.args.sight.now.spec.now c.requires.seen.plain; typed = c.requires.seen.plain.typed; there = c.requires.there }

pub fill-node-requires : goal.fill-node-requires
fill-node-requires g t c = c.behind-end.ensures.behind.there

pub fill-fill_of-requires : goal.fill-fill_of-requires
fill-fill_of-requires g t c =
    let s = c.args.sight.now.spec.now in let seen = c.requires.seen in let w = founded s seen.plain in let b = c.behind-end.ensures.behind in
    let form = c.node.result.now in let end = c.behind-end.result in let e = c.node.ensures.closed w in let less = no_larger s c.args.id end form b e in
    λ _ alive. (omega (arith, less), (alive, (seen, (c.requires.layout, ((c.requires.typed.0, ready_form s w (length c.args.scratch.now) c.args.id end form c.requires.typed.0 b c.node.ensures.node e (c.node.ensures.tree w.ordered) (c.node.ensures.below w) c.requires.typed.1 c.requires.plain c.requires.room, c.requires.typed.2), subst (λ o. IfSome o IsNoDef) c.node.ensures.node c.behind-end.ensures.no_def)))))

pub fill-returns : goal.fill-returns
fill-returns g t c =
    let s = c.args.sight.now.spec.now in let e = c.node.ensures.closed (founded s c.requires.seen.plain) in
    let load = form_same s loaded (λ d a. refl) c.args.id c.behind-end.result c.node.result.now c.behind-end.ensures.behind e in
    let v = form_same s (value (now_moment s c.args.sight.now.rings.now c.args.sight.now.row.now)) (λ d a. refl) c.args.id c.behind-end.result c.node.result.now c.behind-end.ensures.behind e in
    record {
      ok = subst (λ (x : Value). OnOk c.fill_of.result (x ≡ Ok c.fill_of.new.out)) (sym v) c.fill_of.ensures.ok;
      err = subst (λ (x : Value). IfErr c.fill_of.result (λ z. x ≡ Err z)) (sym v) c.fill_of.ensures.err;
      steps = omega (arith, load, c.fill_of.ensures.steps);
    }

pub fill_of-extern_part-requires-clause-typed : goal.fill_of-extern_part-requires-clause-typed
fill_of-extern_part-requires-clause-typed g t c =
    let q = subst (λ f. IsReadyForm c.args.sight.now.spec.now (length c.args.scratch.now) f c.requires.ready.0) c.in-Extern.is c.requires.ready.1 in
    (c.requires.ready.0, q.typed, c.requires.ready.2)

pub fill_of-copy_entry-requires-clause-typed : goal.fill_of-copy_entry-requires-clause-typed
fill_of-copy_entry-requires-clause-typed g t c =
    let kind = c.requires.ready.0 in
    let q = subst (λ f. IsReadyForm c.args.sight.now.spec.now (length c.args.scratch.now) f kind) c.in-Stream.is c.requires.ready.1 in
    (kind, stream_entry c.args.sight.now.spec.now c.args.sight.now.rings.now c.args.sight.now.row.now c.requires.seen c.in-Stream.x kind q.typed, c.requires.ready.2)

pub fill_of-copy_entry-requires-in-Drop-clause-typed : goal.fill_of-copy_entry-requires-in-Drop-clause-typed
fill_of-copy_entry-requires-in-Drop-clause-typed g t c =
    let kind = c.requires.ready.0 in
    let q = subst (λ f. IsReadyForm c.args.sight.now.spec.now (length c.args.scratch.now) f kind) c.in-Drop.is c.requires.ready.1 in
    (kind, dropped_entry c.args.sight.now.spec.now c.args.sight.now.rings.now c.args.sight.now.row.now c.requires.seen c.in-Drop.stream c.in-Drop.k kind q.typed, c.requires.ready.2)

pub fill_of-element_into-requires : goal.fill_of-element_into-requires
fill_of-element_into-requires g t c =
    let s = c.args.sight.now.spec.now in let seen = c.requires.seen in let form = c.args.node.now in let n = length c.args.scratch.now in
    let p = index_ready s seen.plain.typed.types n c.requires.ready.0 form c.in-Index.of c.in-Index.a c.in-Index.i (length c.args.out.now) c.in-Index.is c.requires.ready.1 c.requires.ready.2 in
    λ _ alive. (omega (arith, index_size s form c.in-Index.of c.in-Index.a c.in-Index.i c.in-Index.is), (alive, (seen, (c.requires.layout, p))))

pub fill_of-member_into-requires : goal.fill_of-member_into-requires
fill_of-member_into-requires g t c =
    let s = c.args.sight.now.spec.now in let seen = c.requires.seen in let form = c.args.node.now in let n = length c.args.scratch.now in
    let kind = c.requires.ready.0 in
    let p = field_ready s seen.plain.typed.types n kind form c.in-Field.of c.in-Field.member c.in-Field.a (length c.args.out.now) c.in-Field.is c.requires.ready.1 c.requires.ready.2 in
    λ _ alive. (omega (arith, field_size s form c.in-Field.of c.in-Field.member c.in-Field.a c.in-Field.is), (alive, (seen, (c.requires.layout, p))))

pub fill_of-fill_parts-requires : goal.fill_of-fill_parts-requires
fill_of-fill_parts-requires g t c =
    let s = c.args.sight.now.spec.now in let seen = c.requires.seen in let form = c.args.node.now in let n = length c.args.scratch.now in
    let kind = c.requires.ready.0 in let r = c.requires.ready.1 in let wide = c.requires.ready.2 in let es = c.in-Array.es in let list = seen.plain.typed.types in
    let p : AreReadyParts s n c.in-Array.of es (length c.args.out.now) = ⊎_elim (λ e. array_ready s list n kind form c.in-Array.of es (length c.args.out.now) e r wide) (λ e. struct_ready s list n kind form c.in-Array.of es (length c.args.out.now) e r wide) c.in-Array.is in
    let z : node_size s form ≡ 1 + all_sizes s es = ⊎_elim (λ e. ap (node_size s) e ∙ array_size s (node.Array c.in-Array.of es) es refl) (λ e. ap (node_size s) e ∙ array_size s (node.Record c.in-Array.of es) es refl) c.in-Array.is in
    let items = c.as_slice.ensures in let y = ap (all_sizes s) items in let l = ap length items in let few = p.few in
    λ _ alive. (omega (arith, z, y), (alive, (seen, (c.requires.layout, (subst (λ is. AreReady s n is (part_types s.types c.in-Array.of)) (sym items) p.ready, (p.wide_is, (p.stands, omega (arith, few, l))))))))

pub fill_of-word_of-requires : goal.fill_of-word_of-requires
fill_of-word_of-requires g t c =
    let s = c.args.sight.now.spec.now in let n = length c.args.scratch.now in let d = c.in_default in
    let p = narrow s n c.requires.ready.0 c.args.node.now c.requires.ready.1 c.requires.no_def d.not-Extern d.not-Stream d.not-Drop d.not-If d.not-Index d.not-Field d.not-Array d.not-Record in
    λ _ alive. (omega arith, (alive, (c.requires.seen, (c.requires.layout, ((p.0, p.1), c.requires.no_def)))))

pub element_into-words-wide-requires : goal.element_into-words-wide-requires
element_into-words-wide-requires g t c =
    let s = c.args.sight.now.spec.now in
    subst (λ types. Stands types c.args.of) (sym c.types-types.ensures) (array_stands s.types c.args.of c.requires.ready.elem c.requires.ready.count c.requires.ready.array_is)

pub element_into-split_at_mut-array-requires : goal.element_into-split_at_mut-array-requires
element_into-split_at_mut-array-requires g t c =
    let f = ap (λ types. words types c.args.of) c.types-types.ensures in omega (arith, c.requires.ready.enough, c.words-wide.ensures.value, f)

pub element_into-fill-requires : goal.element_into-fill-requires
element_into-fill-requires g t c =
    let r = c.requires.ready in let front = c.split_at_mut-array.ensures.front_len in let back = c.split_at_mut-array.ensures.back_len in
    let long = c.words-wide.ensures.value ∙ ap (λ types. words types c.args.of) c.types-types.ensures in let a = r.array in let fits = a.enough in
    λ _ alive. (omega arith, (alive, (c.requires.seen, (c.requires.layout, ((c.args.of, a.typed, omega (arith, front, long)), (a.there, (a.plain, omega (arith, fits, back, long, r.enough))))))))

pub element_into-word-requires : goal.element_into-word-requires
element_into-word-requires g t c =
    let back = c.split_at_mut-array.ensures.back_len in let long = c.words-wide.ensures.value ∙ ap (λ types. words types c.args.of) c.types-types.ensures in
    let a = c.requires.ready.at in
    λ _ alive. (omega arith, (alive, (c.requires.seen, (c.requires.layout, ((scalar.Word32, a.typed), (a.there, (a.plain, omega (arith, a.enough, back, long, c.requires.ready.enough))))))))

pub element_into-copy_element-requires : goal.element_into-copy_element-requires
element_into-copy_element-requires g t c =
    let s = c.args.sight.now.spec.now in let r = c.requires.ready in
    record {
      types = subst IsTypeList (sym c.types-types.ensures) c.requires.seen.plain.typed.types;
      stands = subst (λ types. Stands types c.args.of) (sym c.types-types.ensures) (array_stands s.types c.args.of r.elem r.count r.array_is);
      array = omega (arith, c.split_at_mut-array.ensures.front_len, c.words-wide.ensures.value);
      element = ap (λ types. elem_words types (entry_of types c.args.of)) c.types-types.ensures ∙ ap (elem_words s.types) (array_entry s.types c.args.of r.elem r.count r.array_is) ∙ r.wide_is;
    }

pub element_into-returns : goal.element_into-returns
element_into-returns g t c =
    let s = c.args.sight.now.spec.now in
    let e = element_now s c.args.sight.now.rings.now c.args.sight.now.row.now c.args.of c.args.a c.args.i c.in_ok-at.at c.fill.new.out c.in_ok-fill.ensures.ok c.in_ok-at.ensures.value
    ∙ ap (λ types. element types (entry_of types c.args.of) c.fill.new.out c.in_ok-at.at) (sym c.types-types.ensures) in
    record {
      ok = subst (λ (x : Value). OnOk c.copy_element.result (x ≡ Ok c.copy_element.new.out)) (sym e) c.copy_element.ensures.ok;
      err = subst (λ (x : Value). IfErr c.copy_element.result (λ z. x ≡ Err z)) (sym e) c.copy_element.ensures.err;
      steps = omega (arith, c.tick.ensures, c.fill.ensures.steps, c.word.ensures.steps);
    }

pub member_into-words-wide-requires : goal.member_into-words-wide-requires
member_into-words-wide-requires g t c =
    let s = c.args.sight.now.spec.now in
    subst (λ types. Stands types c.args.of) (sym c.types-types.ensures) (struct_stands s.types c.args.of c.requires.ready.member_is.fields c.requires.ready.member_is.struct_is)

pub member_into-fill-requires : goal.member_into-fill-requires
member_into-fill-requires g t c =
    let r = c.requires.ready in let front = c.split_at_mut-whole.ensures.front_len in let back = c.split_at_mut-whole.ensures.back_len in
    let long = c.words-wide.ensures.value ∙ ap (λ types. words types c.args.of) c.types-types.ensures in let a = r.whole in let fits = a.enough in
    λ _ alive. (omega arith, (alive, (c.requires.seen, (c.requires.layout, ((c.args.of, a.typed, omega (arith, front, long)), (a.there, (a.plain, omega (arith, fits, back, long, r.enough))))))))

pub member_into-words_before-first-requires : goal.member_into-words_before-first-requires
member_into-words_before-first-requires g t c =
    let s = c.args.sight.now.spec.now in let r = c.requires.ready in
    record {
      types = subst IsTypeList (sym c.types-types.ensures) c.requires.seen.plain.typed.types;
      stands = subst (λ types. Stands types c.args.of) (sym c.types-types.ensures) (struct_stands s.types c.args.of r.member_is.fields r.member_is.struct_is);
      there = subst (λ types. c.args.member < length (fields_of (entry_of types c.args.of))) (sym c.types-types.ensures) (member_there s.types c.args.of r.type_is c.args.member r.member_is);
    }

pub fill_parts-part_words-wide-requires : goal.fill_parts-part_words-wide-requires
fill_parts-part_words-wide-requires g t c =
    let s = c.args.sight.now.spec.now in let n = length c.args.scratch.now in
    let p = first_ready s n c.args.of c.args.at c.args.ids.now c.first-item.result _ (first_read c.args.ids.now c.first-item.result c.first-item.is (omega arith)) c.requires.ready in
    let there = slice_get_within (part_types s.types c.args.of) c.args.at p.type_is p.part_is in
    record {
      types = subst IsTypeList (sym c.types.ensures) c.requires.seen.plain.typed.types;
      stands = subst (λ types. Stands types c.args.of) (sym c.types.ensures) c.requires.stands;
      there = subst (λ types. c.args.at < length (part_types types c.args.of)) (sym c.types.ensures) there;
    }

-- ---- what the calls return

pub word_of-returns-in-Lit : goal.word_of-returns-in-Lit
word_of-returns-in-Lit g t c =
    let s = c.args.sight.now.spec.now in let m = now_moment s c.args.sight.now.rings.now c.args.sight.now.row.now in
    record { value = ap (form_value m s) c.in-Lit.is; steps = omega (arith, lit_load s c.args.node.now c.in-Lit.field-0 c.in-Lit.w c.in-Lit.is, c.tick.ensures) }

pub word_of-returns-in_err-x-in-Un : goal.word_of-returns-in_err-x-in-Un
word_of-returns-in_err-x-in-Un g t c =
    let s = c.args.sight.now.spec.now in let m = now_moment s c.args.sight.now.rings.now c.args.sight.now.row.now in
    let p = err_from_is_err_and c.from_residual.result c.from_residual.ensures.1 in
    record {
      value = rw p.1 (rw p.2 (un_err m s c.args.node.now c.in-Un.op c.in-Un.s c.in-Un.a c.in_err-x-in-Un.field-0.0 c.in-Un.is c.in_err-x-in-Un.ensures.value));
      steps = omega (arith, un_load s c.args.node.now c.in-Un.op c.in-Un.s c.in-Un.a c.in-Un.is, c.in_err-x-in-Un.ensures.steps);
    }

pub word_of-returns-in_ok-x-in-Un : goal.word_of-returns-in_ok-x-in-Un
word_of-returns-in_ok-x-in-Un g t c =
    let s = c.args.sight.now.spec.now in let m = now_moment s c.args.sight.now.rings.now c.args.sight.now.row.now in
    record {
      value = un_value m s c.args.node.now c.in-Un.op c.in-Un.s c.in-Un.a c.in_ok-x-in-Un.x c.op1.result c.in-Un.is c.in_ok-x-in-Un.ensures.value c.op1.ensures.value;
      steps = omega (arith, un_load s c.args.node.now c.in-Un.op c.in-Un.s c.in-Un.a c.in-Un.is, c.in_ok-x-in-Un.ensures.steps, c.op1.ensures.step);
    }

pub word_of-returns-in_err-source-in-Cast : goal.word_of-returns-in_err-source-in-Cast
word_of-returns-in_err-source-in-Cast g t c =
    let s = c.args.sight.now.spec.now in let m = now_moment s c.args.sight.now.rings.now c.args.sight.now.row.now in
    let p = err_from_is_err_and c.from_residual-in_err-source-in-Cast.result c.from_residual-in_err-source-in-Cast.ensures.1 in
    record {
      value = rw p.1 (rw p.2 (cast_err m s c.args.node.now c.in-Cast.from c.in-Cast.to c.in-Cast.a c.in_err-source-in-Cast.field-0.0 c.in-Cast.is c.in_err-source-in-Cast.ensures.value));
      steps = omega (arith, cast_load s c.args.node.now c.in-Cast.from c.in-Cast.to c.in-Cast.a c.in-Cast.is, c.in_err-source-in-Cast.ensures.steps);
    }

pub word_of-returns-in_ok-source-in-Cast : goal.word_of-returns-in_ok-source-in-Cast
word_of-returns-in_ok-source-in-Cast g t c =
    let s = c.args.sight.now.spec.now in let form = c.args.node.now in let m = now_moment s c.args.sight.now.rings.now c.args.sight.now.row.now in
    record {
      value = cast_value m s form c.in-Cast.from c.in-Cast.to c.in-Cast.a c.in_ok-source-in-Cast.source c.cast.result c.in-Cast.is c.in_ok-source-in-Cast.ensures.value c.cast.ensures.value;
      steps = omega (arith, cast_load s form c.in-Cast.from c.in-Cast.to c.in-Cast.a c.in-Cast.is, c.in_ok-source-in-Cast.ensures.steps, c.cast.ensures.step);
    }

pub word_of-returns-in_err-left-in-Bin : goal.word_of-returns-in_err-left-in-Bin
word_of-returns-in_err-left-in-Bin g t c =
    let s = c.args.sight.now.spec.now in let m = now_moment s c.args.sight.now.rings.now c.args.sight.now.row.now in
    let p = err_from_is_err_and c.from_residual-in_err-left-in-Bin.result c.from_residual-in_err-left-in-Bin.ensures.1 in
    record {
      value = rw p.1 (rw p.2 (bin_first m s c.args.node.now c.in-Bin.op c.in-Bin.s c.in-Bin.a c.in-Bin.b c.in_err-left-in-Bin.field-0.0 c.in-Bin.is c.in_err-left-in-Bin.ensures.value));
      steps = omega (arith, bin_load s c.args.node.now c.in-Bin.op c.in-Bin.s c.in-Bin.a c.in-Bin.b c.in-Bin.is, c.in_err-left-in-Bin.ensures.steps);
    }

pub word_of-returns-in_err-right-in-Bin : goal.word_of-returns-in_err-right-in-Bin
word_of-returns-in_err-right-in-Bin g t c =
    let s = c.args.sight.now.spec.now in let form = c.args.node.now in let m = now_moment s c.args.sight.now.rings.now c.args.sight.now.row.now in
    let p = err_from_is_err_and c.from_residual-in_err-right-in-Bin.result c.from_residual-in_err-right-in-Bin.ensures.1 in
    record {
      value = rw p.1 (rw p.2 (bin_second m s form c.in-Bin.op c.in-Bin.s c.in-Bin.a c.in-Bin.b c.in_ok-left-in-Bin.left c.in_err-right-in-Bin.field-0.0 c.in-Bin.is c.in_ok-left-in-Bin.ensures.value c.in_err-right-in-Bin.ensures.value));
      steps = omega (arith, bin_load s form c.in-Bin.op c.in-Bin.s c.in-Bin.a c.in-Bin.b c.in-Bin.is, c.in_ok-left-in-Bin.ensures.steps, c.in_err-right-in-Bin.ensures.steps);
    }

pub word_of-returns-in_ok-right-in-Bin : goal.word_of-returns-in_ok-right-in-Bin
word_of-returns-in_ok-right-in-Bin g t c =
    let s = c.args.sight.now.spec.now in let form = c.args.node.now in let m = now_moment s c.args.sight.now.rings.now c.args.sight.now.row.now in
    record {
      value = bin_value m s form c.in-Bin.op c.in-Bin.s c.in-Bin.a c.in-Bin.b c.in_ok-left-in-Bin.left c.in_ok-right-in-Bin.right c.op2.result c.in-Bin.is c.in_ok-left-in-Bin.ensures.value c.in_ok-right-in-Bin.ensures.value c.op2.ensures.value;
      steps = omega (arith, bin_load s form c.in-Bin.op c.in-Bin.s c.in-Bin.a c.in-Bin.b c.in-Bin.is, c.in_ok-left-in-Bin.ensures.steps, c.in_ok-right-in-Bin.ensures.steps, c.op2.ensures.step);
    }

pub word_of-returns-in_err-base-in-Shift : goal.word_of-returns-in_err-base-in-Shift
word_of-returns-in_err-base-in-Shift g t c =
    let s = c.args.sight.now.spec.now in let form = c.args.node.now in let m = now_moment s c.args.sight.now.rings.now c.args.sight.now.row.now in
    let p = err_from_is_err_and c.from_residual-in_err-base-in-Shift.result c.from_residual-in_err-base-in-Shift.ensures.1 in
    let z = shift_load s form c.in-Shift.dir c.in-Shift.ty c.in-Shift.a c.in-Shift.cty c.in-Shift.count c.in-Shift.is in
    record {
      value = rw p.1 (rw p.2 (shift_first m s form c.in-Shift.dir c.in-Shift.ty c.in-Shift.a c.in-Shift.cty c.in-Shift.count c.in_err-base-in-Shift.field-0.0 c.in-Shift.is c.in_err-base-in-Shift.ensures.value));
      steps = omega (arith, z, c.in_err-base-in-Shift.ensures.steps);
    }

pub word_of-returns-in_err-by-in-Shift : goal.word_of-returns-in_err-by-in-Shift
word_of-returns-in_err-by-in-Shift g t c =
    let s = c.args.sight.now.spec.now in let form = c.args.node.now in let m = now_moment s c.args.sight.now.rings.now c.args.sight.now.row.now in
    let p = err_from_is_err_and c.from_residual-in_err-by-in-Shift.result c.from_residual-in_err-by-in-Shift.ensures.1 in
    let z = shift_load s form c.in-Shift.dir c.in-Shift.ty c.in-Shift.a c.in-Shift.cty c.in-Shift.count c.in-Shift.is in
    record {
      value = rw p.1 (rw p.2 (shift_second m s form c.in-Shift.dir c.in-Shift.ty c.in-Shift.a c.in-Shift.cty c.in-Shift.count c.in_ok-base-in-Shift.base c.in_err-by-in-Shift.field-0.0 c.in-Shift.is c.in_ok-base-in-Shift.ensures.value c.in_err-by-in-Shift.ensures.value));
      steps = omega (arith, z, c.in_ok-base-in-Shift.ensures.steps, c.in_err-by-in-Shift.ensures.steps);
    }

pub word_of-returns-in_ok-by-in-Shift : goal.word_of-returns-in_ok-by-in-Shift
word_of-returns-in_ok-by-in-Shift g t c =
    let s = c.args.sight.now.spec.now in let form = c.args.node.now in let m = now_moment s c.args.sight.now.rings.now c.args.sight.now.row.now in
    let z = shift_load s form c.in-Shift.dir c.in-Shift.ty c.in-Shift.a c.in-Shift.cty c.in-Shift.count c.in-Shift.is in
    record {
      value = shift_value m s form c.in-Shift.dir c.in-Shift.ty c.in-Shift.a c.in-Shift.cty c.in-Shift.count c.in_ok-base-in-Shift.base c.in_ok-by-in-Shift.by c.shift.result c.in-Shift.is c.in_ok-base-in-Shift.ensures.value c.in_ok-by-in-Shift.ensures.value c.shift.ensures.value;
      steps = omega (arith, z, c.in_ok-base-in-Shift.ensures.steps, c.in_ok-by-in-Shift.ensures.steps, c.shift.ensures.step);
    }

pub word_of-returns-in-And : goal.word_of-returns-in-And
word_of-returns-in-And g t c =
    let s = c.args.sight.now.spec.now in let m = now_moment s c.args.sight.now.rings.now c.args.sight.now.row.now in
    record { value = ap (form_value m s) c.in-And.is ∙ c.chosen.ensures.value; steps = omega (arith, and_load s c.args.node.now c.in-And.a c.in-And.b c.in-And.is, c.chosen.ensures.steps) }

pub word_of-returns-in-Or : goal.word_of-returns-in-Or
word_of-returns-in-Or g t c =
    let s = c.args.sight.now.spec.now in let m = now_moment s c.args.sight.now.rings.now c.args.sight.now.row.now in let form = c.args.node.now in
    record { value = ap (form_value m s) c.in-Or.is ∙ c.chosen-in-Or.ensures.value; steps = omega (arith, or_load s form c.in-Or.a c.in-Or.b c.in-Or.is, c.chosen-in-Or.ensures.steps) }

pub word_of-returns-in-Implies : goal.word_of-returns-in-Implies
word_of-returns-in-Implies g t c =
    let s = c.args.sight.now.spec.now in let m = now_moment s c.args.sight.now.rings.now c.args.sight.now.row.now in
    let z = implies_load s c.args.node.now c.in-Implies.a c.in-Implies.b c.in-Implies.is in
    record { value = ap (form_value m s) c.in-Implies.is ∙ c.chosen-in-Implies.ensures.value; steps = omega (arith, z, c.chosen-in-Implies.ensures.steps) }

pub word_of-returns-in-If : goal.word_of-returns-in-If
word_of-returns-in-If g t c =
    let s = c.args.sight.now.spec.now in let m = now_moment s c.args.sight.now.rings.now c.args.sight.now.row.now in let form = c.args.node.now in
    record { value = ap (form_value m s) c.in-If.is ∙ c.chosen-in-If.ensures.value; steps = omega (arith, if_load s form c.in-If.c c.in-If.a c.in-If.b c.in-If.is, c.chosen-in-If.ensures.steps) }

pub word_of-returns-in_err-element_into-in-Index : goal.word_of-returns-in_err-element_into-in-Index
word_of-returns-in_err-element_into-in-Index g t c =
    let s = c.args.sight.now.spec.now in
    let p = err_from_is_err_and c.from_residual-in_err-element_into-in-Index.result c.from_residual-in_err-element_into-in-Index.ensures.1 in
    record {
      value = rw p.1 (rw p.2 (ap (form_value (now_moment s c.args.sight.now.rings.now c.args.sight.now.row.now) s) c.in-Index.is ∙ c.in_err-element_into-in-Index.ensures.err));
      steps = omega (arith, index_load s c.args.node.now c.in-Index.of c.in-Index.a c.in-Index.i c.in-Index.is, c.in_err-element_into-in-Index.ensures.steps);
    }

pub word_of-returns-in_ok-element_into-in-Index-clause-steps : goal.word_of-returns-in_ok-element_into-in-Index-clause-steps
word_of-returns-in_ok-element_into-in-Index-clause-steps g t c =
    omega (arith, index_load c.args.sight.now.spec.now c.args.node.now c.in-Index.of c.in-Index.a c.in-Index.i c.in-Index.is, c.in_ok-element_into-in-Index.ensures.steps)

pub word_of-returns-in_err-member_into-in-Field : goal.word_of-returns-in_err-member_into-in-Field
word_of-returns-in_err-member_into-in-Field g t c =
    let s = c.args.sight.now.spec.now in
    let p = err_from_is_err_and c.from_residual-in_err-member_into-in-Field.result c.from_residual-in_err-member_into-in-Field.ensures.1 in
    record {
      value = rw p.1 (rw p.2 (ap (form_value (now_moment s c.args.sight.now.rings.now c.args.sight.now.row.now) s) c.in-Field.is ∙ c.in_err-member_into-in-Field.ensures.err));
      steps = omega (arith, field_load s c.args.node.now c.in-Field.of c.in-Field.member c.in-Field.a c.in-Field.is, c.in_err-member_into-in-Field.ensures.steps);
    }

pub word_of-returns-in_ok-member_into-in-Field-clause-steps : goal.word_of-returns-in_ok-member_into-in-Field-clause-steps
word_of-returns-in_ok-member_into-in-Field-clause-steps g t c =
    omega (arith, field_load c.args.sight.now.spec.now c.args.node.now c.in-Field.of c.in-Field.member c.in-Field.a c.in-Field.is, c.in_ok-member_into-in-Field.ensures.steps)

pub chosen-word-requires : goal.chosen-word-requires
chosen-word-requires g t c =
    let a = c.requires.test in
    λ _ alive. (omega arith, (alive, (c.requires.seen, (c.requires.layout, ((scalar.Bool, a.typed), (a.there, (a.plain, (let fits = a.enough in omega (arith, fits)))))))))

pub chosen-taken-requires : goal.chosen-taken-requires
chosen-taken-requires g t c =
    let same : length c.word.new.scratch ≡ length c.args.scratch.now = omega arith in let b = c.requires.no in
    λ _ alive. (omega arith, (alive, (c.requires.seen, (c.requires.layout, (b.0, subst (λ n. IsReadyBranch c.args.sight.now.spec.now n c.args.no (ty.Scalar b.0)) (sym same) b.1)))))

pub chosen-taken-requires-else-by-eq0 : goal.chosen-taken-requires-else-by-eq0
chosen-taken-requires-else-by-eq0 g t c =
    let same : length c.word.new.scratch ≡ length c.args.scratch.now = omega arith in let b = c.requires.yes in
    λ _ alive. (omega arith, (alive, (c.requires.seen, (c.requires.layout, (b.0, subst (λ n. IsReadyBranch c.args.sight.now.spec.now n c.args.yes (ty.Scalar b.0)) (sym same) b.1)))))

pub chosen-returns-in_err-by : goal.chosen-returns-in_err-by
chosen-returns-in_err-by g t c =
    let s = c.args.sight.now.spec.now in let m = now_moment s c.args.sight.now.rings.now c.args.sight.now.row.now in
    let p = err_from_is_err_and c.from_residual.result c.from_residual.ensures.1 in
    record {
      value = rw p.1 (rw p.2 (test_err (value m (closed s c.args.test)) (branch_value m s c.args.yes) (branch_value m s c.args.no) c.in_err-by.field-0.0 c.in_err-by.ensures.value));
      steps = omega (arith, c.tick.ensures, c.in_err-by.ensures.steps);
    }

pub chosen-returns-then-by-eq0 : goal.chosen-returns-then-by-eq0
chosen-returns-then-by-eq0 g t c =
    let s = c.args.sight.now.spec.now in let m = now_moment s c.args.sight.now.rings.now c.args.sight.now.row.now in
    record {
      value = test_false (value m (closed s c.args.test)) (branch_value m s c.args.yes) (branch_value m s c.args.no) c.in_ok-by.by c.in_ok-by.ensures.value (omega arith) ∙ c.taken.ensures.value;
      steps = omega (arith, c.tick.ensures, c.in_ok-by.ensures.steps, c.taken.ensures.steps);
    }

pub chosen-returns-else-by-eq0 : goal.chosen-returns-else-by-eq0
chosen-returns-else-by-eq0 g t c =
    let s = c.args.sight.now.spec.now in let m = now_moment s c.args.sight.now.rings.now c.args.sight.now.row.now in
    record {
      value = test_true (value m (closed s c.args.test)) (branch_value m s c.args.yes) (branch_value m s c.args.no) c.in_ok-by.by c.in_ok-by.ensures.value (omega arith) ∙ c.taken-else-by-eq0.ensures.value;
      steps = omega (arith, c.tick.ensures, c.in_ok-by.ensures.steps, c.taken-else-by-eq0.ensures.steps);
    }

pub chosen_into-word-requires : goal.chosen_into-word-requires
chosen_into-word-requires g t c =
    let a = c.requires.test in
    λ _ alive. (omega arith, (alive, (c.requires.seen, (c.requires.layout, ((scalar.Bool, a.typed), (a.there, (a.plain, (let fits = a.enough in omega (arith, fits)))))))))

pub chosen_into-fill-requires : goal.chosen_into-fill-requires
chosen_into-fill-requires g t c =
    let b = c.requires.no in let a = b.1 in
    λ _ alive. (omega arith, (alive, (c.requires.seen, (c.requires.layout, ((b.0, a.typed, b.2), (a.there, (a.plain, (let fits = a.enough in omega (arith, fits)))))))))

pub chosen_into-fill-requires-else-by-eq0 : goal.chosen_into-fill-requires-else-by-eq0
chosen_into-fill-requires-else-by-eq0 g t c =
    let b = c.requires.yes in let a = b.1 in
    λ _ alive. (omega arith, (alive, (c.requires.seen, (c.requires.layout, ((b.0, a.typed, b.2), (a.there, (a.plain, (let fits = a.enough in omega (arith, fits)))))))))

pub chosen_into-returns-in_err-by : goal.chosen_into-returns-in_err-by
chosen_into-returns-in_err-by g t c =
    let s = c.args.sight.now.spec.now in let m = now_moment s c.args.sight.now.rings.now c.args.sight.now.row.now in
    let p = err_from_is_err_and c.from_residual.result c.from_residual.ensures.1 in
    record {
      ok = rw p.1 tt;
      err = rw p.1 (rw p.2 (test_err (value m (closed s c.args.test)) (value m (closed s c.args.yes)) (value m (closed s c.args.no)) c.in_err-by.field-0.0 c.in_err-by.ensures.value));
      steps = omega (arith, c.tick.ensures, c.in_err-by.ensures.steps);
    }

pub chosen_into-returns-then-by-eq0 : goal.chosen_into-returns-then-by-eq0
chosen_into-returns-then-by-eq0 g t c =
    let s = c.args.sight.now.spec.now in let m = now_moment s c.args.sight.now.rings.now c.args.sight.now.row.now in
    let e = test_false (value m (closed s c.args.test)) (value m (closed s c.args.yes)) (value m (closed s c.args.no)) c.in_ok-by.by c.in_ok-by.ensures.value (omega arith) in
    record {
      ok = subst (λ (x : Value). OnOk c.fill.result (x ≡ Ok c.fill.new.out)) (sym (e)) c.fill.ensures.ok;
      err = subst (λ (x : Value). IfErr c.fill.result (λ z. x ≡ Err z)) (sym (e)) c.fill.ensures.err;
      steps = omega (arith, c.tick.ensures, c.in_ok-by.ensures.steps, c.fill.ensures.steps);
    }

pub chosen_into-returns-else-by-eq0 : goal.chosen_into-returns-else-by-eq0
chosen_into-returns-else-by-eq0 g t c =
    let s = c.args.sight.now.spec.now in let m = now_moment s c.args.sight.now.rings.now c.args.sight.now.row.now in
    let e = test_true (value m (closed s c.args.test)) (value m (closed s c.args.yes)) (value m (closed s c.args.no)) c.in_ok-by.by c.in_ok-by.ensures.value (omega arith) in
    record {
      ok = subst (λ (x : Value). OnOk c.fill-else-by-eq0.result (x ≡ Ok c.fill-else-by-eq0.new.out)) (sym (e)) c.fill-else-by-eq0.ensures.ok;
      err = subst (λ (x : Value). IfErr c.fill-else-by-eq0.result (λ z. x ≡ Err z)) (sym (e)) c.fill-else-by-eq0.ensures.err;
      steps = omega (arith, c.tick.ensures, c.in_ok-by.ensures.steps, c.fill-else-by-eq0.ensures.steps);
    }

pub taken-returns-in-Node : goal.taken-returns-in-Node
taken-returns-in-Node g t c =
    let s = c.args.sight.now.spec.now in let m = now_moment s c.args.sight.now.rings.now c.args.sight.now.row.now in
    record { value = ap (branch_value m s) c.in-Node.is ∙ c.word.ensures.value; steps = omega (arith, ap (branch_weight s) c.in-Node.is, c.word.ensures.steps) }

pub taken-returns-in-Word-clause-value : goal.taken-returns-in-Word-clause-value
taken-returns-in-Word-clause-value g t c =
    ap (branch_value (now_moment c.args.sight.now.spec.now c.args.sight.now.rings.now c.args.sight.now.row.now) c.args.sight.now.spec.now) c.in-Word.is

pub fill_of-returns-in-Extern : goal.fill_of-returns-in-Extern
fill_of-returns-in-Extern g t c =
    let s = c.args.sight.now.spec.now in let m = now_moment s c.args.sight.now.rings.now c.args.sight.now.row.now in
    record {
      ok = ap (form_value m s) c.in-Extern.is ∙ extern_now s c.args.sight.now.rings.now c.args.sight.now.row.now c.in-Extern.x ∙ ap Ok (sym c.extern_part.ensures.part ∙ sym c.copy_from_slice.ensures.after);
      err = tt;
      steps = omega (arith, extern_load s c.args.node.now c.in-Extern.x c.in-Extern.is, c.tick.ensures);
    }

pub fill_of-returns-in-Stream : goal.fill_of-returns-in-Stream
fill_of-returns-in-Stream g t c =
    let s = c.args.sight.now.spec.now in let m = now_moment s c.args.sight.now.rings.now c.args.sight.now.row.now in
    record {
      ok = ap (form_value m s) c.in-Stream.is ∙ stream_now s c.args.sight.now.rings.now c.args.sight.now.row.now c.in-Stream.x ∙ ap Ok (sym c.copy_entry.ensures);
      err = tt;
      steps = omega (arith, stream_load s c.args.node.now c.in-Stream.x c.in-Stream.is, c.tick-in-Stream.ensures);
    }

pub fill_of-returns-in-Drop : goal.fill_of-returns-in-Drop
fill_of-returns-in-Drop g t c =
    let s = c.args.sight.now.spec.now in let m = now_moment s c.args.sight.now.rings.now c.args.sight.now.row.now in
    record {
      ok = ap (form_value m s) c.in-Drop.is ∙ dropped_now s c.args.sight.now.rings.now c.args.sight.now.row.now c.in-Drop.stream c.in-Drop.k ∙ ap Ok (sym c.copy_entry-in-Drop.ensures);
      err = tt;
      steps = omega (arith, drop_load s c.args.node.now c.in-Drop.stream c.in-Drop.k c.in-Drop.is, c.tick-in-Drop.ensures);
    }

pub fill_of-chosen_into-requires : goal.fill_of-chosen_into-requires
fill_of-chosen_into-requires g t c =
    let s = c.args.sight.now.spec.now in let kind = c.requires.ready.0 in let wide = c.requires.ready.2 in
    let p = choose_ready s (length c.args.scratch.now) kind c.args.node.now c.in-If.c c.in-If.a c.in-If.b c.in-If.is c.requires.ready.1 in
    λ _ alive. (omega (arith, if_size s c.args.node.now c.in-If.c c.in-If.a c.in-If.b c.in-If.is), (alive, (c.requires.seen, (c.requires.layout, (p.0, ((kind, p.1, wide), (kind, p.2, wide)))))))

pub fill_of-returns-in-If : goal.fill_of-returns-in-If
fill_of-returns-in-If g t c =
    let s = c.args.sight.now.spec.now in let m = now_moment s c.args.sight.now.rings.now c.args.sight.now.row.now in
    let z = if_load s c.args.node.now c.in-If.c c.in-If.a c.in-If.b c.in-If.is in
    record {
      ok = subst (λ (x : Value). OnOk c.chosen_into.result (x ≡ Ok c.chosen_into.new.out)) (sym (ap (form_value m s) c.in-If.is)) c.chosen_into.ensures.ok;
      err = subst (λ (x : Value). IfErr c.chosen_into.result (λ z. x ≡ Err z)) (sym (ap (form_value m s) c.in-If.is)) c.chosen_into.ensures.err;
      steps = omega (arith, z, c.chosen_into.ensures.steps);
    }

pub fill_of-returns-in-Index : goal.fill_of-returns-in-Index
fill_of-returns-in-Index g t c =
    let s = c.args.sight.now.spec.now in let m = now_moment s c.args.sight.now.rings.now c.args.sight.now.row.now in
    let z = index_load s c.args.node.now c.in-Index.of c.in-Index.a c.in-Index.i c.in-Index.is in
    record {
      ok = subst (λ (x : Value). OnOk c.element_into.result (x ≡ Ok c.element_into.new.out)) (sym (ap (form_value m s) c.in-Index.is)) c.element_into.ensures.ok;
      err = subst (λ (x : Value). IfErr c.element_into.result (λ z. x ≡ Err z)) (sym (ap (form_value m s) c.in-Index.is)) c.element_into.ensures.err;
      steps = omega (arith, z, c.element_into.ensures.steps);
    }

pub fill_of-returns-in-Field : goal.fill_of-returns-in-Field
fill_of-returns-in-Field g t c =
    let s = c.args.sight.now.spec.now in let m = now_moment s c.args.sight.now.rings.now c.args.sight.now.row.now in
    let z = field_load s c.args.node.now c.in-Field.of c.in-Field.member c.in-Field.a c.in-Field.is in
    record {
      ok = subst (λ (x : Value). OnOk c.member_into.result (x ≡ Ok c.member_into.new.out)) (sym (ap (form_value m s) c.in-Field.is)) c.member_into.ensures.ok;
      err = subst (λ (x : Value). IfErr c.member_into.result (λ z. x ≡ Err z)) (sym (ap (form_value m s) c.in-Field.is)) c.member_into.ensures.err;
      steps = omega (arith, z, c.member_into.ensures.steps);
    }

pub fill_of-returns-in-Array : goal.fill_of-returns-in-Array
fill_of-returns-in-Array g t c =
    let s = c.args.sight.now.spec.now in let form = c.args.node.now in
    let m = now_moment s c.args.sight.now.rings.now c.args.sight.now.row.now in
    let e : form_value m s form ≡ all_values m (terms_of (closed s) c.in-Array.es) = ⊎_elim (λ h. ap (form_value m s) h) (λ h. ap (form_value m s) h) c.in-Array.is in
    let items = ap (λ es. all_values m (terms_of (closed s) es)) c.as_slice.ensures in
    let z : load s form ≡ 1 + nodes_weight s c.in-Array.es = ⊎_elim (λ h. array_load s form c.in-Array.of c.in-Array.es h) (λ h. struct_load s form c.in-Array.of c.in-Array.es h) c.in-Array.is in
    record {
      ok = subst (λ (x : Value). OnOk c.fill_parts.result (x ≡ Ok c.fill_parts.new.out)) (sym (e ∙ sym items)) c.fill_parts.ensures.ok;
      err = subst (λ (x : Value). IfErr c.fill_parts.result (λ z. x ≡ Err z)) (sym (e ∙ sym items)) c.fill_parts.ensures.err;
      steps = omega (arith, z, ap (nodes_weight s) c.as_slice.ensures, c.tick-in-Array.ensures, c.fill_parts.ensures.steps);
    }

pub fill_of-returns-in_err-out-in_default : goal.fill_of-returns-in_err-out-in_default
fill_of-returns-in_err-out-in_default g t c =
    let p = err_from_is_err_and c.from_residual.result c.from_residual.ensures.1 in
    record { ok = rw p.1 tt; err = rw p.1 (rw p.2 (c.in_err-out-in_default.ensures.value)); steps = omega (arith, c.in_err-out-in_default.ensures.steps) }

pub fill_of-returns-in_ok-out-in_default-clause-steps : goal.fill_of-returns-in_ok-out-in_default-clause-steps
fill_of-returns-in_ok-out-in_default-clause-steps g t c = omega (arith, c.in_ok-out-in_default.ensures.steps)

pub fill_of-returns-in_ok-out-in_default-clause-ok : goal.fill_of-returns-in_ok-out-in_default-clause-ok
fill_of-returns-in_ok-out-in_default-clause-ok g t c =
    let s = c.args.sight.now.spec.now in let form = c.args.node.now in let d = c.in_default in let kind = c.requires.ready.0 in
    let p = narrow s (length c.args.scratch.now) kind form c.requires.ready.1 c.requires.no_def d.not-Extern d.not-Stream d.not-Drop d.not-If d.not-Index d.not-Field d.not-Array d.not-Record in
    let w : words s.types kind ≡ 1 = ap (words s.types) p.2 in
    c.in_ok-out-in_default.ensures.value ∙ ap Ok (sym (set_only c.args.out.now c.in_ok-out-in_default.field-0 (omega (arith, w, c.requires.ready.2))))

pub element_into-returns-in_err-fill : goal.element_into-returns-in_err-fill
element_into-returns-in_err-fill g t c =
    let s = c.args.sight.now.spec.now in let p = err_from_is_err_and c.from_residual.result c.from_residual.ensures.1 in
    record {
      ok = rw p.1 tt;
      err = rw p.1 (rw p.2 (index_first (now_moment s c.args.sight.now.rings.now c.args.sight.now.row.now) s c.args.of c.args.a c.args.i c.in_err-fill.field-0.0 c.in_err-fill.ensures.err));
      steps = omega (arith, c.tick.ensures, c.in_err-fill.ensures.steps);
    }

pub element_into-returns-in_err-at : goal.element_into-returns-in_err-at
element_into-returns-in_err-at g t c =
    let m = now_moment c.args.sight.now.spec.now c.args.sight.now.rings.now c.args.sight.now.row.now in
    let p = err_from_is_err_and c.from_residual-in_err-at.result c.from_residual-in_err-at.ensures.1 in
    record {
      ok = rw p.1 tt;
      err = rw p.1 (rw p.2 (index_second m c.args.sight.now.spec.now c.args.of c.args.a c.args.i c.fill.new.out c.in_err-at.field-0.0 c.in_ok-fill.ensures.ok c.in_err-at.ensures.value));
      steps = omega (arith, c.tick.ensures, c.in_ok-fill.ensures.steps, c.in_err-at.ensures.steps);
    }

pub member_into-split_at_mut-whole-requires : goal.member_into-split_at_mut-whole-requires
member_into-split_at_mut-whole-requires g t c =
    let f = ap (λ types. words types c.args.of) c.types-types.ensures in omega (arith, c.requires.ready.enough, c.words-wide.ensures.value, f)

pub member_into-copy_from_slice-requires : goal.member_into-copy_from_slice-requires
member_into-copy_from_slice-requires g t c =
    let s = c.args.sight.now.spec.now in let r = c.requires.ready in
    let first_is : c.words_before-first.result ≡ field_first s.types (fields_of (entry_of s.types c.args.of)) c.args.member = c.words_before-first.ensures ∙ ap (λ types. field_first types (fields_of (entry_of types c.args.of)) c.args.member) c.types-types.ensures in
    let long = c.words-wide.ensures.value ∙ ap (λ types. words types c.args.of) c.types-types.ensures in let front = c.split_at_mut-whole.ensures.front_len in
    sym (ap length c.run_of.ensures ∙ member_inside s.types c.args.of r.type_is c.args.member c.requires.seen.plain.typed.types r.member_is c.fill.new.out (length c.args.out.now) c.words_before-first.result r.wide_is first_is (omega (arith, front, long)))

pub member_into-returns-in_err-fill : goal.member_into-returns-in_err-fill
member_into-returns-in_err-fill g t c =
    let s = c.args.sight.now.spec.now in let p = err_from_is_err_and c.from_residual.result c.from_residual.ensures.1 in
    record {
      ok = rw p.1 tt;
      err = rw p.1 (rw p.2 (field_err (now_moment s c.args.sight.now.rings.now c.args.sight.now.row.now) s c.args.of c.args.member c.args.a c.in_err-fill.field-0.0 c.in_err-fill.ensures.err));
      steps = omega (arith, c.tick.ensures, c.in_err-fill.ensures.steps);
    }

pub member_into-returns-clause-ok : goal.member_into-returns-clause-ok
member_into-returns-clause-ok g t c =
    let s = c.args.sight.now.spec.now in let r = c.requires.ready in
    let first_is : c.words_before-first.result ≡ field_first s.types (fields_of (entry_of s.types c.args.of)) c.args.member = c.words_before-first.ensures ∙ ap (λ types. field_first types (fields_of (entry_of types c.args.of)) c.args.member) c.types-types.ensures in
    member_now s c.args.sight.now.rings.now c.args.sight.now.row.now c.args.of c.args.member c.args.a c.fill.new.out c.in_ok-fill.ensures.ok
    ∙ ap Ok (member_is s.types c.args.of r.type_is c.args.member r.member_is c.fill.new.out (length c.args.out.now) c.words_before-first.result r.wide_is first_is ∙ sym (c.copy_from_slice.ensures.after ∙ c.run_of.ensures))

pub member_into-returns-clause-steps : goal.member_into-returns-clause-steps
member_into-returns-clause-steps g t c = omega (arith, c.tick.ensures, c.in_ok-fill.ensures.steps)

pub fill_parts-returns-in-empty-clause-ok : goal.fill_parts-returns-in-empty-clause-ok
fill_parts-returns-in-empty-clause-ok g t c =
    let s = c.args.sight.now.spec.now in let m = now_moment s c.args.sight.now.rings.now c.args.sight.now.row.now in
    none_left s (length c.args.scratch.now) c.args.ids.now (drop c.args.at (part_types s.types c.args.of)) c.args.out.now m (nil_from_length c.args.ids.now (omega arith)) c.requires.ready c.requires.wide

pub fill_parts-split_at_mut-part-requires : goal.fill_parts-split_at_mut-part-requires
fill_parts-split_at_mut-part-requires g t c =
    let s = c.args.sight.now.spec.now in let ids = c.args.ids.now in let e = first_read ids c.first-item.result c.first-item.is (omega arith) in
    let p = first_ready s (length c.args.scratch.now) c.args.of c.args.at ids c.first-item.result (between 1 (length ids) ids) e c.requires.ready in
    let w : c.part_words-wide.result ≡ words s.types p.type_is = c.part_words-wide.ensures p.type_is (subst (λ types. slice_get (part_types types c.args.of) c.args.at ≡ Some p.type_is) (sym c.types.ensures) p.part_is) ∙ ap (λ types. words types p.type_is) c.types.ensures in
    omega (arith, p.wide, w, c.requires.wide)

pub fill_parts-fill-requires : goal.fill_parts-fill-requires
fill_parts-fill-requires g t c =
    let s = c.args.sight.now.spec.now in let ids = c.args.ids.now in let e = first_read ids c.first-item.result c.first-item.is (omega arith) in
    let p = first_ready s (length c.args.scratch.now) c.args.of c.args.at ids c.first-item.result (between 1 (length ids) ids) e c.requires.ready in
    let w : c.part_words-wide.result ≡ words s.types p.type_is = c.part_words-wide.ensures p.type_is (subst (λ types. slice_get (part_types types c.args.of) c.args.at ≡ Some p.type_is) (sym c.types.ensures) p.part_is) ∙ ap (λ types. words types p.type_is) c.types.ensures in
    let z = ap (all_sizes s) e in let front = c.split_at_mut-part.ensures.front_len in let a = p.one in
    λ _ alive. (omega (arith, z), (alive, (c.requires.seen, (c.requires.layout, ((p.type_is, a.typed, omega (arith, front, w)), (a.there, (a.plain, (let fits = a.enough in omega (arith, fits)))))))))

pub fill_parts-fill_parts-requires : goal.fill_parts-fill_parts-requires
fill_parts-fill_parts-requires g t c =
    let s = c.args.sight.now.spec.now in let ids = c.args.ids.now in let e = first_read ids c.first-item.result c.first-item.is (omega arith) in
    let rest = between 1 (length ids) ids in
    let p = first_ready s (length c.args.scratch.now) c.args.of c.args.at ids c.first-item.result rest e c.requires.ready in
    let w : c.part_words-wide.result ≡ words s.types p.type_is = c.part_words-wide.ensures p.type_is (subst (λ types. slice_get (part_types types c.args.of) c.args.at ≡ Some p.type_is) (sym c.types.ensures) p.part_is) ∙ ap (λ types. words types p.type_is) c.types.ensures in
    let z = ap (all_sizes s) e in let some = node_some_size s c.first-item.result in let l = ap length e in let back = c.split_at_mut-part.ensures.back_len in
    let pw = p.wide in let same : length c.fill.new.scratch ≡ length c.args.scratch.now = omega arith in
    λ _ alive. (omega (arith, z, some), (alive, (c.requires.seen, (c.requires.layout, (subst (λ n. AreReady s n rest (drop (c.args.at + 1) (part_types s.types c.args.of))) (sym same) p.others, (omega (arith, pw, w, back, c.requires.wide), (c.requires.stands, omega (arith, l, c.requires.few))))))))

pub fill_parts-returns-in_err-fill-in-len1-up : goal.fill_parts-returns-in_err-fill-in-len1-up
fill_parts-returns-in_err-fill-in-len1-up g t c =
    let s = c.args.sight.now.spec.now in let m = now_moment s c.args.sight.now.rings.now c.args.sight.now.row.now in let ids = c.args.ids.now in
    let e = first_read ids c.first-item.result c.first-item.is (omega arith) in let first = c.first-item.result in let rest = between 1 (length ids) ids in
    let p = err_from_is_err_and c.from_residual.result c.from_residual.ensures.1 in
    record {
      ok = rw p.1 tt;
      err = rw p.1 (rw p.2 (ap (λ is. all_values m (terms_of (closed s) is)) e ∙ cons_first m s first rest c.in_err-fill-in-len1-up.field-0.0 c.in_err-fill-in-len1-up.ensures.err));
      steps = omega (arith, ap (nodes_weight s) e, c.in_err-fill-in-len1-up.ensures.steps);
    }

pub fill_parts-returns-in_ok-fill-in-len1-up : goal.fill_parts-returns-in_ok-fill-in-len1-up
fill_parts-returns-in_ok-fill-in-len1-up g t c =
    let s = c.args.sight.now.spec.now in let ids = c.args.ids.now in let e = first_read ids c.first-item.result c.first-item.is (omega arith) in
    let z = ap (nodes_weight s) e in let m = now_moment s c.args.sight.now.rings.now c.args.sight.now.row.now in let first = c.first-item.result in
    let rest = between 1 (length ids) ids in let v = c.in_ok-fill-in-len1-up.ensures.ok in
    record {
      ok = IfOk-weaker c.fill_parts.result (λ _. all_values m (terms_of (closed s) rest) ≡ Ok c.fill_parts.new.out) (λ _. all_values m (terms_of (closed s) ids) ≡ Ok (c.fill.new.out ++ c.fill_parts.new.out)) (λ _ g. ap (λ is. all_values m (terms_of (closed s) is)) e ∙ cons_value m s first rest c.fill.new.out c.fill_parts.new.out v g) c.fill_parts.ensures.ok;
      err = IfErr-weaker c.fill_parts.result (λ z. all_values m (terms_of (closed s) rest) ≡ Err z) (λ z. all_values m (terms_of (closed s) ids) ≡ Err z) (λ z g. ap (λ is. all_values m (terms_of (closed s) is)) e ∙ cons_second m s first rest c.fill.new.out z v g) c.fill_parts.ensures.err;
      steps = omega (arith, z, c.in_ok-fill-in-len1-up.ensures.steps, c.fill_parts.ensures.steps);
    }
