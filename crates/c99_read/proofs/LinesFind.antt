-- The lines of a header are read as they were written.
use Rattle.std.proofs.Common.{◌≡◌, ℕ, ◌<◌, true, false, not, List, [], ◌∷◌, ◌++◌, length, map, Some, None, refl, sym, ap, ◌∙◌, append_assoc, append-nil, codes, arith}
use Rattle.std.specs.Fmt.{decimal}
use Rattle.std.specs.List.{list_all, flat_map}
use Rattle.std.proofs.lemmas.Bool.{and_parts}
use Rattle.sm_io.specs.Words.{is_name}
use Rattle.c99_tree.specs.declared.types.CScalar.TheVariants as t
use Rattle.c99_tree.specs.declared.types.CTy.{CTy}
use Rattle.c99_tree.specs.declared.types.CTy.TheVariants as ty
use Rattle.c99_tree.specs.declared.types.CVar.{CVar}
use Rattle.c99_tree.specs.declared.types.CDef.{CDef}
use Rattle.c99_tree.specs.declared.types.CDef.TheVariants as def
use Rattle.c99_tree.specs.declared.types.CProto.{CProto}
use Rattle.c99_tree.specs.Words.{is_element, elem_type}
use Rattle.c99_tree.specs.Spelling.{type_text, with_commas, params_text, field_text, type_line, extern_line, handler_line, is_spelled_type, is_spelled_var, is_spelled_def, is_spelled_handler, is_u32}
use Rattle.c99_read.specs.Front.{behind, begins}
use Rattle.c99_read.specs.LineAt.{var_at, field_at, is_field, def_at, extern_at, param_at, params_at, handler_at, is_handler}
use Rattle.c99_read.proofs.FrontFinds.{behind_front, ends, word_front, after_word_front, name_word, name_no_cp, not_step, name_finds, array_of-is, ReadsLines, all_find, anything}
use Rattle.c99_read.proofs.TypeFinds.{type_finds, array_word, array_word-word}

pub var_finds : (v : CVar) (x : List ℕ) → is_spelled_var v ≡ true → ends x ≡ true → var_at (type_text v.ty ++ (32 ∷ (v.name ++ x))) ≡ Some (v, x)
unfolding var_at behind
var_finds v x h e =
    let p = and_parts (is_name v.name) (is_spelled_type v.ty) h in
    rw (type_finds v.ty (32 ∷ (v.name ++ x)) p.1 refl, name_finds v.name x p.0 e) refl

no_brace : (k : CTy) (y : List ℕ) → begins (codes "}") (type_text k ++ y) ≡ false
unfolding behind
no_brace (ty.Scalar t.Bool) y = refl
no_brace (ty.Scalar _) y = refl
no_brace (ty.Struct x) y = refl
no_brace (ty.Array x n) y = refl

field_starts : (v : CVar) (y : List ℕ) → is_field (field_text v ++ y) ≡ true
unfolding behind
field_starts v y =
    let regroup : field_text v ++ y ≡ 32 ∷ (type_text v.ty ++ (32 ∷ (v.name ++ (59 ∷ y)))) = simp append_assoc in
    ap is_field regroup ∙ ap not (no_brace v.ty (32 ∷ (v.name ++ (59 ∷ y))))

fields : ReadsLines is_field anything field_at field_text is_spelled_var
unfolding field_at behind
fields = record {
  starts = λ v y h. field_starts v y;
  finds = λ v y h e.
      let regroup : field_text v ++ y ≡ 32 ∷ (type_text v.ty ++ (32 ∷ (v.name ++ (59 ∷ y)))) = simp append_assoc in
      ap field_at regroup ∙ rw (var_finds v (59 ∷ y) h refl) refl;
  goes = λ v y h. refl;
  long = λ v h. omega arith;
}

pub array_pieces : (a b x c n d t e f g y : List ℕ) → (a ++ b) ++ x ++ c ++ n ++ d ++ t ++ e ++ n ++ f ++ g ++ y ≡ a ++ ((b ++ x ++ c ++ n) ++ (d ++ (t ++ (e ++ (n ++ ((f ++ g) ++ y))))))
array_pieces a b x c n d t e f g y = simp append_assoc

def_finds : (d : CDef) (y : List ℕ) → is_spelled_def d ≡ true → def_at (type_line d ++ y) ≡ Some (d, y)
unfolding def_at behind
def_finds (def.Struct x all) y h =
    let p = and_parts (is_name x) (list_all is_spelled_var all) h in
    let ending : List ℕ = codes " };\n" ++ y in
    let rest : List ℕ = codes " {" ++ (flat_map field_text all ++ ending) in
    let regroup : type_line (def.Struct x all) ++ y ≡ codes "struct " ++ (x ++ (codes " {" ++ (flat_map field_text all ++ (codes " };\n" ++ y)))) = simp append_assoc in
    ap def_at regroup ∙ rw (word_front x rest (name_word x p.0) refl, after_word_front x rest (name_word x p.0) refl, name_no_cp (codes "arr_") x p.0, p.0, all_find fields all ending (omega arith) refl refl p.1) refl
def_finds (def.Array x n) y h =
    let p = and_parts (is_element x) (is_u32 n) h in
    let w = array_word-word x n p.0 p.1 in
    let d : List ℕ = decimal n ++ (codes "]; };\n" ++ y) in
    let e : List ℕ = type_text (elem_type x) ++ (codes " e[" ++ d) in
    let rest : List ℕ = codes " { " ++ e in
    let regroup : type_line (def.Array x n) ++ y ≡ codes "struct " ++ (array_word x n ++ rest) =
    array_pieces (codes "struct ") (codes "cp_arr_") x (codes "_") (decimal n) (codes " { ") (type_text (elem_type x)) (codes " e[") (codes "]; };") (codes "\n") y in
    ap def_at regroup ∙ rw (word_front (array_word x n) rest w refl, after_word_front (array_word x n) rest w refl, array_of-is x n p.0 p.1, behind_front (type_text (elem_type x)) (codes " e[" ++ d), behind_front (decimal n) (codes "]; };\n" ++ y)) refl

def_starts : (d : CDef) (y : List ℕ) → begins (codes "struct ") (type_line d ++ y) ≡ true
unfolding behind
def_starts (def.Struct x all) y = refl
def_starts (def.Array x n) y = refl

def_long : (d : CDef) → 0 < length (type_line d)
def_long (def.Struct x all) = omega arith
def_long (def.Array x n) = omega arith

pub defs : ReadsLines (begins (codes "struct ")) anything def_at type_line is_spelled_def
defs = record { starts = λ d y h. def_starts d y; finds = λ d y h e. def_finds d y h; goes = λ d y h. refl; long = λ d h. def_long d }

pub externs : ReadsLines (begins (codes "extern ")) anything extern_at extern_line is_spelled_var
unfolding extern_at behind
externs = record {
  starts = λ v y h. refl;
  finds = λ v y h e.
      let regroup : extern_line v ++ y ≡ codes "extern " ++ (type_text v.ty ++ (32 ∷ (v.name ++ (codes ";\n" ++ y)))) = simp append_assoc in
      ap extern_at regroup ∙ rw (var_finds v (codes ";\n" ++ y) h refl) refl;
  goes = λ v y h. refl;
  long = λ v h. omega arith;
}

-- ---- handlers

abbrev pub param_text : CTy → List ℕ
param_text k = codes ", " ++ type_text k

params : ReadsLines (begins (codes ", ")) ends param_at param_text is_spelled_type
unfolding param_at behind
params = record {
  starts = λ k y h. refl;
  finds = λ k y h e. type_finds k y h e;
  goes = λ k y h. refl;
  long = λ k h. omega arith;
}

pub with_commas-is : (k : CTy) (ks : List CTy) → with_commas (map type_text (k ∷ ks)) ≡ type_text k ++ flat_map param_text ks
with_commas-is k [] = sym (append-nil (type_text k))
with_commas-is k (l ∷ ks) = ap (λ (x : List ℕ). type_text k ++ codes ", " ++ x) (with_commas-is l ks) ∙ simp append_assoc

no_void : (k : CTy) (y : List ℕ) → behind (codes "void") (type_text k ++ y) ≡ None
unfolding behind
no_void (ty.Scalar t.Bool) y = refl
no_void (ty.Scalar _) y = refl
no_void (ty.Struct x) y = refl
no_void (ty.Array x n) y = refl

params_end : (ks : List CTy) (y : List ℕ) → ends (flat_map param_text ks ++ (41 ∷ y)) ≡ true
params_end [] y = refl
params_end (k ∷ ks) y = refl

params_find : (ks : List CTy) (y : List ℕ) → list_all is_spelled_type ks ≡ true → params_at (params_text ks ++ (41 ∷ y)) ≡ Some (ks, 41 ∷ y)
unfolding params_at behind
params_find [] y h = refl
params_find (k ∷ ks) y h =
    let p = and_parts (is_spelled_type k) (list_all is_spelled_type ks) h in
    let rest : List ℕ = flat_map param_text ks ++ (41 ∷ y) in
    let regroup : params_text (k ∷ ks) ++ (41 ∷ y) ≡ type_text k ++ (flat_map param_text ks ++ (41 ∷ y)) = ap (λ (x : List ℕ). x ++ (41 ∷ y)) (with_commas-is k ks) ∙ simp append_assoc in
    ap params_at regroup ∙ rw (no_void k rest, type_finds k rest p.0 (params_end ks y), all_find params ks (41 ∷ y) (omega arith) refl refl p.1) refl

handler_starts : (h : CProto) (y : List ℕ) → is_spelled_handler h ≡ true → is_handler (handler_line h ++ y) ≡ true
unfolding behind
handler_starts h y s =
    let n = (and_parts (is_name h.name) (list_all is_spelled_type h.params) s).0 in
    let rest : List ℕ = 40 ∷ (params_text h.params ++ (codes ");\n" ++ y)) in
    let regroup : handler_line h ++ y ≡ codes "void " ++ (h.name ++ (40 ∷ (params_text h.params ++ (codes ");\n" ++ y)))) = simp append_assoc in
    ap is_handler regroup ∙ rw (word_front h.name rest (name_word h.name n) refl, not_step h.name n) refl

handler_finds : (h : CProto) (y : List ℕ) → is_spelled_handler h ≡ true → handler_at (handler_line h ++ y) ≡ Some (h, y)
unfolding handler_at behind
handler_finds h y s =
    let p = and_parts (is_name h.name) (list_all is_spelled_type h.params) s in
    let regroup : handler_line h ++ y ≡ codes "void " ++ (h.name ++ (40 ∷ (params_text h.params ++ (41 ∷ (59 ∷ (10 ∷ y)))))) = simp append_assoc in
    ap handler_at regroup ∙ rw (name_finds h.name (40 ∷ (params_text h.params ++ (41 ∷ (59 ∷ (10 ∷ y))))) p.0 refl, params_find h.params (59 ∷ (10 ∷ y)) p.1) refl

pub handlers : ReadsLines is_handler anything handler_at handler_line is_spelled_handler
handlers = record { starts = handler_starts; finds = λ h y s e. handler_finds h y s; goes = λ h y s. refl; long = λ h s. omega arith }
