-- The line of a call, by the parts of its handler's parameters.
use Rattle.std.proofs.Common.{◌≡◌, ℕ, zero, suc, ◌<◌, Bool, true, false, List, [], ◌∷◌, length, map, get_or, Option, Some, sym, ap, ◌∙◌, subst}
use Rattle.std.proofs.Common.{append-nil, arith}
use Rattle.std.specs.Prelude.{slice_get}
use Rattle.std.specs.List.{flat_map, list_all}
use Rattle.std.specs.Option.{option_map}
use Rattle.std.proofs.lemmas.Bool.{and_parts}
use Rattle.std.proofs.lemmas.Option.{get_or_from_slice_get, slice_get-map, slice_get_within}
use Rattle.std.proofs.lemmas.List.Concat.{flat_map-cons}
use Rattle.stream_types.specs.declared.types.TypeEntry.{TypeEntry}
use Rattle.stream_types.specs.Types.{AreWords, leaves}
use Rattle.c99_tree.specs.declared.types.CProto.{CProto}
use Rattle.c99_tree.specs.declared.unit.Unit.{Unit as CUnit}
use Rattle.c99_tree.specs.Lookup.{is_defined}
use Rattle.c99_tree.specs.Step.{Called}
use Rattle.c99_tree.specs.Typed.{IsCallOf}
use Rattle.c99_tree.specs.WellFormed.{IsWellFormed}
use Rattle.extern_rows.specs.declared.event.Piece.{Piece}
use Rattle.extern_rows.specs.Events.{Fits, event_text}
use Rattle.extern_rows.specs.ValueTexts.{EventOf, typed_event_text}
use Rattle.extern_rows.proofs.ValuePieces.{events_show_values}
use Rattle.c_runner.specs.Read.{read_type, read_types}
use Rattle.c_runner.specs.Executed.{line_of_call, of_handler}
use Rattle.c_runner.specs.Lines.{handler_shape, shapes_of}
use Rattle.c_runner.proofs.ReadRows.{first_types, values_worded}

one_passes : {X : Type 0} (p : X → Bool) (xs : List X) (i : ℕ) (x : X) → list_all p xs ≡ true → slice_get xs i ≡ Some x → p x ≡ true
one_passes p [] i x h e = absurd (cc e)
one_passes p (y ∷ xs) zero x h e = let same : y ≡ x = cc e in subst (λ z. p z ≡ true) same (and_parts (p y) (list_all p xs) h).0
one_passes p (y ∷ xs) (suc i) x h e = one_passes p xs i x (and_parts (p y) (list_all p xs) h).1 e

one_line : (types : List TypeEntry) (n : ℕ) (e : EventOf) → flat_map (typed_event_text types n) (e ∷ []) ≡ typed_event_text types n e
one_line types n e = flat_map-cons (typed_event_text types n) e [] ∙ append-nil (typed_event_text types n e)

call_words : (u : CUnit) → IsWellFormed u → (call : Called) (c : IsCallOf u call)
    → AreWords (flat_map (leaves (read_types u.types)) (map (read_type u.types) c.handler.params)) call.words
call_words u w call c =
    let p = first_types u w.types_first in
    let defined = one_passes (λ (h : CProto). list_all (is_defined u.types) h.params) u.handlers call.handler c.handler p.2 c.is in
    subst (λ (ws : List ℕ). AreWords (flat_map (leaves (read_types u.types)) (map (read_type u.types) c.handler.params)) ws) (sym c.words)
    (values_worded u.types p.0 c.handler.params defined c.arguments c.typed)

-- a call's words fit the parts of its handler's parameters, which show its line
pub call_line : (u : CUnit) → IsWellFormed u → (n : ℕ) (call : Called) (c : IsCallOf u call)
    → Fits (handler_shape u c.handler) call.words × (event_text n false c.handler.name (handler_shape u c.handler) call.words ≡ line_of_call u n call)
call_line u w n call c =
    let types : List TypeEntry = read_types u.types in
    let event : EventOf = record { mark = false; name = c.handler.name; args = map (read_type u.types) c.handler.params; words = call.words } in
    let shows = events_show_values types n event (call_words u w call c) in
    let line : line_of_call u n call ≡ typed_event_text types n event =
    ap (λ (o : Option CProto). flat_map (typed_event_text types n) (of_handler u o call.words)) c.is ∙ one_line types n event in
    (shows.fits, shows.text ∙ sym line)

-- ---- shapes by number

pub shape_at : (u : CUnit) (shapes : List (List Piece)) (i : ℕ) (h : CProto) → shapes ≡ shapes_of u → slice_get u.handlers i ≡ Some h
    → slice_get shapes i ≡ Some (handler_shape u h)
shape_at u shapes i h is there =
    ap (λ (v : List (List Piece)). slice_get v i) is ∙ slice_get-map (handler_shape u) u.handlers i ∙ ap (option_map (handler_shape u)) there

-- an element by its place
pub picked : {X : Type 0} (xs ys : List X) (i : ℕ) (x y : X) → ys ≡ xs → slice_get xs i ≡ Some x → y ≡ get_or ys i y → y ≡ x
picked xs ys i x y e there is = is ∙ ap (λ (zs : List _). get_or zs i y) e ∙ get_or_from_slice_get xs i x y there

pub got : {X : Type 0} (xs ys : List X) (i : ℕ) (x d : X) → ys ≡ xs → slice_get xs i ≡ Some x → get_or ys i d ≡ x
got xs ys i x d e there = ap (λ (zs : List _). get_or zs i d) e ∙ get_or_from_slice_get xs i x d there

pub within : {X : Type 0} (xs ys : List X) (i : ℕ) (x : X) → ys ≡ xs → slice_get xs i ≡ Some x → i < length ys
within xs ys i x e there = let low = slice_get_within xs i x there in omega (arith, ap length e, low)

pub call_is : (e : Called) (h : ℕ) (ws : List ℕ) → h ≡ e.handler → ws ≡ e.words → record { handler = h; words = ws } ≡ e
call_is e h ws a b = λ j. record { handler = a j; words = b j }
