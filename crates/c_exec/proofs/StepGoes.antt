-- A call of `step`, on what a machine keeps.
use Rattle.std.proofs.Common.{◌≡◌, ℕ, ◌+◌, ◌≤◌, List, [], ◌∷◌, ◌++◌, length, Option, Some, None, refl, sym, ap, ◌∙◌, subst, append_assoc, arith}
use Rattle.std.specs.List.{flat_map, sum_by}
use Rattle.std.specs.Option.{option_map, option_map_or, option_and_then}
use Rattle.std.proofs.lemmas.List.{append-nil}
use Rattle.c99_tree.specs.declared.types.CVar.{CVar}
use Rattle.c99_tree.specs.declared.types.CDef.{CDef}
use Rattle.c99_tree.specs.declared.unit.Unit.{Unit as CUnit}
use Rattle.c99_tree.specs.Tree.{statements}
use Rattle.c99_tree.specs.Values.{Value, Shape, shape_of, filled, row_values, words_of}
use Rattle.c99_tree.specs.Evaluation.{Statics}
use Rattle.c99_tree.specs.Step.{extern_values, at_entry, step}
use Rattle.c99_tree.specs.Typed.{IsStatics, IsRow}
use Rattle.c99_tree.specs.WellFormed.{is_statement_there, is_there, each_statement, each_part, IsWellFormed}
use Rattle.c99_tree.proofs.TypedShapes.{IfSome, map_has, then_has}
use Rattle.c99_tree.proofs.TypedRuns.{unit_ruled, at_entry-is, externs_are}
use Rattle.c99_tree.proofs.WordsAgain.{filled_words}
use Rattle.sm_io.proofs.Truths.{right_passes}
use Rattle.c_exec.specs.Going.{Memory, Rooms, act_all}
use Rattle.c_exec.specs.Layout.{locals_width}
use Rattle.c_exec.specs.Machine.{words_of_statics}
use Rattle.c_exec.specs.Needs.{most_need, call_count, call_words, rooms_for}
use Rattle.c_exec.specs.Resolving.{acts_for}
use Rattle.c_exec.proofs.Follows.{Follows, Agrees}
use Rattle.c_exec.proofs.StatementsGo.{KnownAll, RoomyAll, statements_go}

-- ---- the words of a row

pub filled_all_of_it : (s : Shape) (ws : List ℕ) (o : Option (Value × List ℕ)) → filled s ws ≡ o → IfSome o (λ a. words_of a.0 ++ a.1 ≡ ws)
filled_all_of_it s ws None e = tt
filled_all_of_it s ws (Some a) e = sym (filled_words s ws a.1 a.0 e)

row_more : (ds : List CDef) (xs : List CVar) (ws : List ℕ) → ((ys : List ℕ) → IfSome (row_values ds xs ys) (λ a. flat_map words_of a.0 ++ a.1 ≡ ys))
    → (o : Option Shape)
    → IfSome {A = List Value × List ℕ} (option_and_then (λ (s : Shape). option_and_then (λ (a : Value × List ℕ). option_map (λ (b : List Value × List ℕ). (a.0 ∷ b.0, b.1)) (row_values ds xs a.1)) (filled s ws)) o)
    (λ a. flat_map words_of a.0 ++ a.1 ≡ ws)
row_more ds xs ws again None = tt
row_more ds xs ws again (Some s) =
    then_has (λ (a : Value × List ℕ). option_map (λ (b : List Value × List ℕ). (a.0 ∷ b.0, b.1)) (row_values ds xs a.1)) (filled s ws)
    (λ a. words_of a.0 ++ a.1 ≡ ws) (λ b. flat_map words_of b.0 ++ b.1 ≡ ws) (filled_all_of_it s ws (filled s ws) refl)
    (λ a p. map_has (λ (b : List Value × List ℕ). (a.0 ∷ b.0, b.1)) (row_values ds xs a.1) (λ b. flat_map words_of b.0 ++ b.1 ≡ a.1)
    (λ b. flat_map words_of b.0 ++ b.1 ≡ ws) (again a.1)
    (λ b q. append_assoc (words_of a.0) (flat_map words_of b.0) b.1 ∙ ap (λ (z : List ℕ). words_of a.0 ++ z) q ∙ p))

row_again : (ds : List CDef) (xs : List CVar) (ws : List ℕ) → IfSome (row_values ds xs ws) (λ a. flat_map words_of a.0 ++ a.1 ≡ ws)
row_again ds [] ws = refl
row_again ds (x ∷ xs) ws = row_more ds xs ws (row_again ds xs) (shape_of ds x.ty)

row_is : (row : List ℕ) (o : Option (List Value × List ℕ)) → IfSome o (λ a. flat_map words_of a.0 ++ a.1 ≡ row)
    → option_map (λ (a : List Value × List ℕ). a.1) o ≡ Some [] → row ≡ flat_map words_of (option_map_or (λ (a : List Value × List ℕ). a.0) o [])
row_is row None h e = absurd (cc e)
row_is row (Some a) h e =
    let left : a.1 ≡ [] = cc e in
    sym h ∙ ap (λ (z : List ℕ). flat_map words_of a.0 ++ z) left ∙ append-nil (flat_map words_of a.0)

row_words : (u : CUnit) (row : List ℕ) → IsRow u row → row ≡ flat_map words_of (extern_values u row)
row_words u row h = row_is row (row_values u.types u.externs row) (row_again u.types u.externs row) h

-- ---- the call

entry_follows : (u : CUnit) (s : Statics) (m : Memory) → m.statics ≡ words_of_statics s → length m.locals ≡ locals_width u
    → m.handlers ≡ [] → m.ends ≡ [] → m.words ≡ [] → Follows u [] (at_entry u s) m
entry_follows u s m e l a b c =
    subst (λ (z : Memory). Follows u [] (at_entry u s) z) (sym emptied)
    (record {
      statics = e;
      wide = l;
      held = λ r ring g n. absurd (cc n);
      paired = refl;
      rises = refl;
      calls = refl;
      few = omega arith;
      short = omega arith;
    })
  where
    made : List ℕ → List ℕ → List ℕ → Memory
    made hs es ws = record { statics = m.statics; locals = m.locals; handlers = hs; ends = es; words = ws }

    emptied : m ≡ record { statics = m.statics; locals = m.locals; handlers = []; ends = []; words = [] }
    emptied = ap (λ (hs : List ℕ). made hs m.ends m.words) a ∙ ap (λ (es : List ℕ). made [] es m.words) b ∙ ap (made [] []) c

unit_known : (u : CUnit) → IsWellFormed u → KnownAll u [] (statements u)
unit_known u w = record {
  ruled = unit_ruled u w;
  there = right_passes (each_statement (is_statement_there u) u) (each_part (is_there u) u) w.used_there;
}

all_fits : (n : ℕ) → n ≤ n
all_fits n = omega arith

none_before : (n : ℕ) → 0 + n ≤ n
none_before n = omega arith

unit_roomy : (u : CUnit) → RoomyAll u (rooms_for (acts_for u)) [] (statements u)
unit_roomy u = record {
  pile = all_fits (most_need (acts_for u));
  handlers = none_before (sum_by call_count (acts_for u));
  ends = none_before (sum_by call_count (acts_for u));
  words = none_before (sum_by call_words (acts_for u));
}

-- the statements of a program, on words as they lie before a call, do what the call does
pub step_goes : (u : CUnit) (s : Statics) (row : List ℕ) (rs : Rooms) (m : Memory) → IsWellFormed u → IsStatics u s → IsRow u row
    → rs ≡ rooms_for (acts_for u) → m.statics ≡ words_of_statics s → length m.locals ≡ locals_width u
    → m.handlers ≡ [] → m.ends ≡ [] → m.words ≡ []
    → Agrees u (statements u) (act_all rs row (acts_for u) m) (step u s row)
step_goes u s row rs m w h g e i l a b c =
    subst (λ (z : Rooms). Agrees u (statements u) (act_all z row (acts_for u) m) (step u s row)) (sym e)
    (statements_go u (rooms_for (acts_for u)) row (extern_values u row) [] (statements u) (at_entry u s) m w.types_first (externs_are u row g)
    (row_words u row g) (unit_known u w) (unit_roomy u) (at_entry-is u s h) (entry_follows u s m i l a b c))
