-- Data of worked rows: specifications with forms of the library, whose buffers are rings behind those of the streams.
use Rattle.std.specs.Prelude.{◌≡◌, List, [], ◌∷◌, codes, map}
use Rattle.stream_types.specs.declared.scalar.Scalar.TheVariants as scalar
use Rattle.stream_types.specs.declared.scalar.Ty.TheVariants as ty
use Rattle.stream_core.specs.declared.node.LibForm.{LibForm}
use Rattle.stream_core.specs.declared.node.LibForm.TheVariants as form
use Rattle.stream_core.specs.Term.{Term, extern, majority, agreed, lib, end, more, TreeSpec, TreeRoot, TreeLib, without_defs}
use Rattle.stream_core.specs.Lower.{lowered_spec}
use Rattle.c99_tree.specs.declared.unit.Unit.{Unit as CUnit}
use Rattle.ring_codegen.specs.Translation.{translation}
use Rattle.ring_codegen.specs.TranslationRows.{root, trigger, yes, spec_of}
use Rattle.ring_codegen.specs.ExpressionRows.{item}

abbrev pub bool_root : Term → TreeRoot
bool_root a = root (ty.Scalar scalar.Bool) a

abbrev pub word_root : Term → TreeRoot
word_root a = root (ty.Scalar scalar.Word8) a

abbrev pub form_item : LibForm → List Term → TreeLib
form_item f args = record { form = f; args = args; at = 0 }

-- (spec l (extern p Bool) (extern q Bool) (trigger a true (since p q) (once-in 0 0 q) (historically-in 2 4 p)))
abbrev pub history : TreeSpec
history = record (spec_of (codes "l") []
    (item (codes "p") (ty.Scalar scalar.Bool) ∷ item (codes "q") (ty.Scalar scalar.Bool) ∷ [])
    []
    (trigger (codes "a") yes
    (bool_root (lib 0 form.Since (more (extern 0) (more (extern 1) end)))
    ∷ bool_root (lib 1 (form.OnceIn 0 0) (more (extern 1) end))
    ∷ bool_root (lib 2 (form.HistoricallyIn 2 4) (more (extern 0) end)) ∷ []) ∷ [])) {
      libs = form_item form.Since (extern 0 ∷ extern 1 ∷ []) ∷ form_item (form.OnceIn 0 0) (extern 1 ∷ []) ∷ form_item (form.HistoricallyIn 2 4) (extern 0 ∷ []) ∷ [];
    }

-- (spec v (extern a Word8) (extern b Word8) (extern c Word8)
-- (trigger m true (majority a b c) (agreed a b c) (window-max 2 a) (window-sum 2 a)) (trigger k (clock 2 1)))
abbrev pub votes : TreeSpec
votes = record (spec_of (codes "v") []
    (item (codes "a") (ty.Scalar scalar.Word8) ∷ item (codes "b") (ty.Scalar scalar.Word8) ∷ item (codes "c") (ty.Scalar scalar.Word8) ∷ [])
    []
    (trigger (codes "m") yes
    (word_root (majority scalar.Word8 (more (extern 0) (more (extern 1) (more (extern 2) end))))
    ∷ bool_root (agreed scalar.Word8 (more (extern 0) (more (extern 1) (more (extern 2) end))))
    ∷ word_root (lib 0 (form.WindowMax 2 scalar.Word8) (more (extern 0) end))
    ∷ word_root (lib 1 (form.WindowSum 2 scalar.Word8) (more (extern 0) end)) ∷ [])
    ∷ trigger (codes "k") (lib 2 (form.Clock 2 1) end) [] ∷ [])) {
      libs = form_item (form.WindowMax 2 scalar.Word8) (extern 0 ∷ []) ∷ form_item (form.WindowSum 2 scalar.Word8) (extern 0 ∷ []) ∷ form_item (form.Clock 2 1) [] ∷ [];
    }

-- the program of a specification with library forms and defs
abbrev pub lowered_program : TreeSpec → CUnit
lowered_program s = translation (without_defs (lowered_spec s)) s.name

pub record BuffersAreRings : Type 0 where
  pub history_rings : map (λ r. r.name) (lowered_program history).rings ≡ codes "1" ∷ codes "2" ∷ codes "3" ∷ []
  pub history_lengths : map (λ r. r.len) (lowered_program history).rings ≡ 1 ∷ 1 ∷ 4 ∷ []
  pub history_storage : (lowered_program history).storage ≡ 12
  pub votes_storage : (lowered_program votes).storage ≡ 9
