use Rattle.std.proofs.Common.{◌≡◌, ⊎_elim, ◌+◌, ◌<◌, ◌++◌, length, map, Some, refl, ◌∙◌, sym, ap, subst, arith}
use Rattle.std.specs.Prelude.{slice_get}
use Rattle.std.proofs.lemmas.Option.{slice_get_read}
use Rattle.stream_core.specs.declared.node.Node.{Node}
use Rattle.stream_core.specs.declared.spec.LibItem.{LibItem}
use Rattle.stream_core.specs.Ordered.{all_parts, args_of}
use Rattle.stream_core.specs.Weights.{IsGoodNode}
use Rattle.stream_core.proofs.GoodNodes.{good_node}
use Rattle.recursion_check.specs.Graph.{node_next}
use Rattle.recursion_check.specs.Walked.{edge}
use Rattle.recursion_check.proofs.Places.{parts_fit}
use Rattle.recursion_check.proofs.edges.push_node.Goals as goal

pub bounds-libs-k : goal.bounds-libs-k
bounds-libs-k c =
    let s = c.args.spec.now in
    let g : c.in-Lib.k < length s.libs = subst (IsGoodNode s) c.in-Lib.is (good_node s c.requires.typed c.args.id c.node.result.now c.node.ensures.node) in
    omega (arith, g, ap length c.libs.ensures)

pub push_all-requires-in-Lib : goal.push_all-requires-in-Lib
push_all-requires-in-Lib c =
    let s = c.args.spec.now in
    let k = c.in-Lib.k in
    let x = c.index-libs-k.result in
    let g : k < length s.libs = subst (IsGoodNode s) c.in-Lib.is (good_node s c.requires.typed c.args.id c.node.result.now c.node.ensures.node) in
    let e : slice_get s.libs k ≡ Some x = ap (λ xs. slice_get xs k) (sym c.libs.ensures) ∙ slice_get_read c.libs.result.now (length c.libs.result.now) k x refl (omega (arith, g, ap length c.libs.ensures)) c.index-libs-k.is in
    let own = c.as_slice.ensures ∙ ap (λ (y : LibItem). y.args) (sym c.index-libs-k.is) in
    parts_fit s c.requires.typed (length c.defs-defs.result.now) c.args.id c.node.result.now c.as_slice.result.now (ap length c.defs-defs.ensures) c.node.ensures.node (own ∙ sym (ap args_of e) ∙ sym (ap (all_parts s.libs) c.in-Lib.is)) c.requires.room

pub returns-in_ok-push_all-in-Lib : goal.returns-in_ok-push_all-in-Lib
returns-in_ok-push_all-in-Lib c =
    let s = c.args.spec.now in
    let k = c.in-Lib.k in
    let x = c.index-libs-k.result in
    let g : k < length s.libs = subst (IsGoodNode s) c.in-Lib.is (good_node s c.requires.typed c.args.id c.node.result.now c.node.ensures.node) in
    let e : slice_get s.libs k ≡ Some x = ap (λ xs. slice_get xs k) (sym c.libs.ensures) ∙ slice_get_read c.libs.result.now (length c.libs.result.now) k x refl (omega (arith, g, ap length c.libs.ensures)) c.index-libs-k.is in
    let own = c.as_slice.ensures ∙ ap (λ (y : LibItem). y.args) (sym c.index-libs-k.is) ∙ sym (ap args_of e) in
    let is = c.node.ensures.node ∙ ap Some c.in-Lib.is in
    c.in_ok-push_all-in-Lib.ensures
    ∙ ap (λ m. c.args.todo.now.items ++ map (edge c.args.from) (map (λ j. m + j) c.as_slice.result.now)) (ap length c.defs-defs.ensures)
    ∙ ap (λ ys. c.args.todo.now.items ++ map (edge c.args.from) (map (λ j. length s.defs + j) ys)) own
    ∙ ap (λ o. c.args.todo.now.items ++ map (edge c.args.from) (node_next s o)) (sym is)

pub push_all-requires-in-Array : goal.push_all-requires-in-Array
push_all-requires-in-Array c =
    let s = c.args.spec.now in
    let n = c.node.result.now in
    let own : c.as_slice-in-Array.result.now ≡ all_parts s.libs n = c.as_slice-in-Array.ensures ∙ sym (⊎_elim (λ h. ap (all_parts s.libs) h.1) (λ r. ⊎_elim (λ h. ap (all_parts s.libs) h.1) (λ q. ⊎_elim (λ h. ap (all_parts s.libs) h.1) (λ h. ap (all_parts s.libs) h.1) q) r) c.in-Array.is) in
    parts_fit s c.requires.typed (length c.defs-defs.result.now) c.args.id n c.as_slice-in-Array.result.now (ap length c.defs-defs.ensures) c.node.ensures.node own c.requires.room

pub returns-in_ok-push_all-in-Array : goal.returns-in_ok-push_all-in-Array
returns-in_ok-push_all-in-Array c =
    let s = c.args.spec.now in
    let f = λ (n : Node). node_next s (Some n) in
    let own : node_next s (Some c.node.result.now) ≡ map (λ j. length s.defs + j) c.in-Array.es = ⊎_elim (λ h. ap f h.1) (λ r. ⊎_elim (λ h. ap f h.1) (λ q. ⊎_elim (λ h. ap f h.1) (λ h. ap f h.1) q) r) c.in-Array.is in
    c.in_ok-push_all-in-Array.ensures
    ∙ ap (λ m. c.args.todo.now.items ++ map (edge c.args.from) (map (λ j. m + j) c.as_slice-in-Array.result.now)) (ap length c.defs-defs.ensures)
    ∙ ap (λ ys. c.args.todo.now.items ++ map (edge c.args.from) (map (λ j. length s.defs + j) ys)) c.as_slice-in-Array.ensures
    ∙ ap (λ ys. c.args.todo.now.items ++ map (edge c.args.from) ys) (sym own)
    ∙ ap (λ o. c.args.todo.now.items ++ map (edge c.args.from) (node_next s o)) (sym c.node.ensures.node)
