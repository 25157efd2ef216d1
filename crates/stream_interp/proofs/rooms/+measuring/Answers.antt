use Rattle.std.proofs.Common.{◌≡◌, ◌+◌, ◌<◌, length, ⊎_elim, refl, sym, ap, ◌∙◌, subst, arith}
use Rattle.std.specs.Prelude.{IfOk, IfSome}
use Rattle.std.specs.List.{AllByRecursion}
use Rattle.stream_core.specs.declared.node.Node.TheVariants as node
use Rattle.stream_core.specs.Parts.{parts}
use Rattle.stream_core.specs.Signature.{signature_of}
use Rattle.stream_core.specs.Term.{Term, build, closed, closed_def, def, tree, trees}
use Rattle.stream_core.specs.WellTyped.{HasType}
use Rattle.stream_core.proofs.NodeSizes.{all_sizes, array_size, node_size, parts_there}
use Rattle.stream_interp.specs.Reading.{IsNoDef}
use Rattle.stream_interp.specs.Room.{nodes_room, room}
use Rattle.stream_interp.proofs.FormRooms.{array_room, no_room, struct_room}
use Rattle.stream_interp.proofs.PartWidths.{array_stands, struct_stands}
use Rattle.stream_interp.proofs.ReadyForms.{form_same, no_larger}
use Rattle.stream_interp.proofs.rooms.+measuring.Goals as goal

pub room_at-room_of-requires : goal.room_at-room_of-requires
room_at-room_of-requires t c =
    let s = c.args.spec.now in
    let w = c.requires.founded in
    let b = c.behind-end.ensures.behind in
    let end = c.behind-end.result in
    let form = c.node.result.now in
    let less = no_larger s c.args.id end form b (c.node.ensures.closed w) in
    let h = c.requires.typed.nodes end b.there in
    let has = subst (λ (a : Term). HasType (signature_of (trees s)) a h.0) (c.node.ensures.tree w.ordered) h.1 in
    let no_def = subst (λ o. IfSome o IsNoDef) c.node.ensures.node c.behind-end.ensures.no_def in
    (omega (arith, less), (w, (c.requires.typed, (parts_there s end form b.there (c.node.ensures.below w), (no_def, (h.0, has))))))

pub room_at-returns : goal.room_at-returns
room_at-returns t c =
    let s = c.args.spec.now in
    let e = form_same s (room s.types) (λ d a. refl) c.args.id c.behind-end.result c.node.result.now c.behind-end.ensures.behind (c.node.ensures.closed c.requires.founded) in
    subst (λ v. IfOk c.room_of.result (λ n. n ≡ v)) (sym e) c.room_of.ensures

pub room_of-beside-requires : goal.room_of-beside-requires
room_of-beside-requires t c =
    let s = c.args.spec.now in
    let h = subst (λ f. HasType (signature_of (trees s)) (build s.libs def (tree s.nodes s.libs) f) c.requires.has.0) c.in-Index.is c.requires.has.1 in
    array_stands s.types c.in-Index.of c.requires.has.0 h.0 h.1

pub room_of-beside-requires-in-Field : goal.room_of-beside-requires-in-Field
room_of-beside-requires-in-Field t c =
    let s = c.args.spec.now in
    let h = subst (λ f. HasType (signature_of (trees s)) (build s.libs def (tree s.nodes s.libs) f) c.requires.has.0) c.in-Field.is c.requires.has.1 in
    struct_stands s.types c.in-Field.of h.0.fields h.0.struct_is

pub room_of-greatest-requires-in-Array : goal.room_of-greatest-requires-in-Array
room_of-greatest-requires-in-Array t c =
    let s = c.args.spec.now in
    let es = c.in-Array.es in
    let e = c.as_slice.ensures in
    let z : node_size s c.args.node.now ≡ 1 + all_sizes s es = ⊎_elim (λ h. ap (node_size s) h.1 ∙ array_size s (node.Array h.0 es) es refl) (λ h. ap (node_size s) h.1 ∙ array_size s (node.Record h.0 es) es refl) c.in-Array.is in
    let y = ap (all_sizes s) e in
    let p : AllByRecursion (λ j. j < length s.nodes) es = ⊎_elim (λ h. subst (λ n. AllByRecursion (λ j. j < length s.nodes) (parts n)) h.1 c.requires.parts) (λ h. subst (λ n. AllByRecursion (λ j. j < length s.nodes) (parts n)) h.1 c.requires.parts) c.in-Array.is in
    (omega (arith, z, y), (c.requires.founded, (c.requires.typed, subst (AllByRecursion (λ j. j < length s.nodes)) (sym e) p)))

pub room_of-returns-in-Array : goal.room_of-returns-in-Array
room_of-returns-in-Array t c =
    let s = c.args.spec.now in
    let form = c.args.node.now in
    let es = c.in-Array.es in
    let r : room s.types (build s.libs (closed_def s) (closed s) form) ≡ nodes_room s es = ⊎_elim (λ h. array_room s form h.0 es h.1) (λ h. struct_room s form h.0 es h.1) c.in-Array.is in
    let e = ap (nodes_room s) c.as_slice.ensures in
    subst (λ v. IfOk c.greatest-in-Array.result (λ n. n ≡ v)) (e ∙ sym r) c.greatest-in-Array.ensures

pub room_of-returns-in_default : goal.room_of-returns-in_default
room_of-returns-in_default t c =
    let s = c.args.spec.now in
    let d = c.in_default in
    no_room s.types s.libs (closed_def s) (closed s) c.args.node.now c.requires.no_def d.not-Un d.not-Bin d.not-Shift d.not-Cast d.not-And d.not-Or d.not-Implies d.not-If d.not-Index d.not-Field d.not-Array d.not-Record
