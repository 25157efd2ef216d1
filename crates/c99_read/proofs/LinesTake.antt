-- The lines that are found stand there.
use Rattle.std.proofs.Common.{◌≡◌, ℕ, Bool, true, List, [], ◌∷◌, ◌++◌, length, Option, Some, None, refl, sym, ap, subst, ◌∙◌, append_assoc, codes}
use Rattle.std.specs.Fmt.{decimal}
use Rattle.std.specs.List.{list_all, flat_map}
use Rattle.std.proofs.lemmas.Bool.{and_from}
use Rattle.sm_io.specs.Words.{is_name}
use Rattle.c99_tree.specs.declared.types.CTy.{CTy}
use Rattle.c99_tree.specs.declared.types.CVar.{CVar}
use Rattle.c99_tree.specs.declared.types.CDef.{CDef}
use Rattle.c99_tree.specs.declared.types.CDef.TheVariants as def
use Rattle.c99_tree.specs.declared.types.CProto.{CProto}
use Rattle.c99_tree.specs.Words.{is_element, elem_type}
use Rattle.c99_tree.specs.Spelling.{type_text, params_text, field_text, type_line, extern_line, handler_line, is_spelled_type, is_spelled_var, is_spelled_def, is_spelled_handler, is_u32}
use Rattle.c99_read.specs.Front.{◌>>=◌, behind, word, after_word, name_at, array_of, all_at, after_all, begins}
use Rattle.c99_read.specs.TypeAt.{type_at}
use Rattle.c99_read.specs.LineAt.{var_of, var_at, field_at, is_field, array_def_at, struct_def_at, def_of_word, def_at, extern_at, param_at, params_by, params_at, proto_of, handler_at}
use Rattle.c99_read.proofs.FrontFinds.{behind_is}
use Rattle.c99_read.proofs.FrontTakes.{bound, paired, step, meet, guarded, word_whole, name_takes, array_takes, TakesLines, after_all_takes, many_takes}
use Rattle.c99_read.proofs.TypeTakes.{type_takes}
use Rattle.c99_read.proofs.TypeFinds.{array_word}
use Rattle.c99_read.proofs.LinesFind.{param_text, with_commas-is, array_pieces}

-- this text is that of this, which is spelled, and then the rest
pub record Taken {A : Type 0} (f : A → List ℕ) (ok : A → Bool) (s : List ℕ) (a : A) (x : List ℕ) : Type 0 where
  pub is : s ≡ f a ++ x
  pub spelled : ok a ≡ true

abbrev var_text : CVar → List ℕ
var_text v = type_text v.ty ++ codes " " ++ v.name

var_pieces : (t b n x : List ℕ) → t ++ (b ++ (n ++ x)) ≡ t ++ b ++ n ++ x
var_pieces t b n x = simp append_assoc

var_takes : (s : List ℕ) (v : CVar) (x : List ℕ) → var_at s ≡ Some (v, x) → Taken var_text is_spelled_var s v x
unfolding var_at
var_takes s v x h =
    let t = bound (type_at s) (λ t. behind (codes " ") t.1 >>= λ r. name_at r >>= λ x. Some (var_of t.0 x.0, x.1)) (v, x) h in
    let r = bound (behind (codes " ") t.0.1) (λ r. name_at r >>= λ x. Some (var_of t.0.0 x.0, x.1)) (v, x) t.2 in
    let n = bound (name_at r.0) (λ x. Some (var_of t.0.0 x.0, x.1)) (v, x) r.2 in
    let p = paired (var_of t.0.0 n.0.0) v n.0.1 x n.2 in
    let k = type_takes s t.0.0 t.0.1 t.1 in
    let m = name_takes r.0 n.0.0 n.0.1 n.1 in
    let all : s ≡ type_text t.0.0 ++ (codes " " ++ (n.0.0 ++ x)) = step (type_text t.0.0) k.0 (step (codes " ") (behind_is (codes " ") t.0.1 r.0 r.1) (step n.0.0 m.0 p.1)) in
    subst (λ (y : CVar). Taken var_text is_spelled_var s y x) p.0 (record { is = all ∙ var_pieces (type_text t.0.0) (codes " ") n.0.0 x; spelled = and_from (is_name n.0.0) (is_spelled_type t.0.0) m.1 k.1 })

framed_pieces : (a t b n e c x : List ℕ) → a ++ ((t ++ b ++ n) ++ ((e ++ c) ++ x)) ≡ a ++ t ++ b ++ n ++ e ++ c ++ x
framed_pieces a t b n e c x = simp append_assoc

field_pieces : (a t b n e x : List ℕ) → a ++ ((t ++ b ++ n) ++ (e ++ x)) ≡ a ++ t ++ b ++ n ++ e ++ x
field_pieces a t b n e x = simp append_assoc

field_takes : (s : List ℕ) (v : CVar) (x : List ℕ) → field_at s ≡ Some (v, x) → (s ≡ field_text v ++ x) × (is_spelled_var v ≡ true)
unfolding field_at
field_takes s v x h =
    let r = bound (behind (codes " ") s) (λ r. var_at r >>= λ x. behind (codes ";") x.1 >>= λ t. Some (x.0, t)) (v, x) h in
    let n = bound (var_at r.0) (λ x. behind (codes ";") x.1 >>= λ t. Some (x.0, t)) (v, x) r.2 in
    let t = bound (behind (codes ";") n.0.1) (λ t. Some (n.0.0, t)) (v, x) n.2 in
    let p = paired n.0.0 v t.0 x t.2 in
    let k = var_takes r.0 n.0.0 n.0.1 n.1 in
    let all : s ≡ codes " " ++ (var_text n.0.0 ++ (codes ";" ++ x)) = step (codes " ") (behind_is (codes " ") s r.0 r.1) (step (var_text n.0.0) k.is (behind_is (codes ";") n.0.1 t.0 t.1 ∙ ap (λ (z : List ℕ). codes ";" ++ z) p.1)) in
    (subst (λ (y : CVar). s ≡ field_text y ++ x) p.0 (all ∙ field_pieces (codes " ") (type_text n.0.0.ty) (codes " ") n.0.0.name (codes ";") x), subst (λ (y : CVar). is_spelled_var y ≡ true) p.0 k.spelled)

pub fields_taken : TakesLines field_at field_text is_spelled_var
fields_taken = record { takes = field_takes }

extern_takes : (s : List ℕ) (v : CVar) (x : List ℕ) → extern_at s ≡ Some (v, x) → (s ≡ extern_line v ++ x) × (is_spelled_var v ≡ true)
unfolding extern_at
extern_takes s v x h =
    let r = bound (behind (codes "extern ") s) (λ r. var_at r >>= λ x. behind (codes ";\n") x.1 >>= λ t. Some (x.0, t)) (v, x) h in
    let n = bound (var_at r.0) (λ x. behind (codes ";\n") x.1 >>= λ t. Some (x.0, t)) (v, x) r.2 in
    let t = bound (behind (codes ";\n") n.0.1) (λ t. Some (n.0.0, t)) (v, x) n.2 in
    let p = paired n.0.0 v t.0 x t.2 in
    let k = var_takes r.0 n.0.0 n.0.1 n.1 in
    let all : s ≡ codes "extern " ++ (var_text n.0.0 ++ (codes ";\n" ++ x)) = step (codes "extern ") (behind_is (codes "extern ") s r.0 r.1) (step (var_text n.0.0) k.is (behind_is (codes ";\n") n.0.1 t.0 t.1 ∙ ap (λ (z : List ℕ). codes ";\n" ++ z) p.1)) in
    (subst (λ (y : CVar). s ≡ extern_line y ++ x) p.0 (all ∙ framed_pieces (codes "extern ") (type_text n.0.0.ty) (codes " ") n.0.0.name (codes ";") (codes "\n") x), subst (λ (y : CVar). is_spelled_var y ≡ true) p.0 k.spelled)

pub externs_taken : TakesLines extern_at extern_line is_spelled_var
externs_taken = record { takes = extern_takes }

-- ---- definitions

struct_pieces : (a w b f c l x : List ℕ) → a ++ (w ++ (b ++ (f ++ ((c ++ l) ++ x)))) ≡ a ++ w ++ b ++ f ++ c ++ l ++ x
struct_pieces a w b f c l x = simp append_assoc

struct_def_takes : (w rest : List ℕ) (d : CDef) (x : List ℕ) → struct_def_at w rest ≡ Some (d, x) → Taken type_line is_spelled_def (codes "struct " ++ (w ++ rest)) d x
struct_def_takes w rest d x h =
    let g = guarded (is_name w) (behind (codes " {") rest >>= (λ r. all_at is_field field_at r >>= λ all. behind (codes " };\n") all.1 >>= λ t. Some (def.Struct w all.0, t))) (d, x) h in
    let r = bound (behind (codes " {") rest) (λ r. all_at is_field field_at r >>= λ all. behind (codes " };\n") all.1 >>= λ t. Some (def.Struct w all.0, t)) (d, x) g.1 in
    let a = bound (all_at is_field field_at r.0) (λ all. behind (codes " };\n") all.1 >>= λ t. Some (def.Struct w all.0, t)) (d, x) r.2 in
    let t = bound (behind (codes " };\n") a.0.1) (λ t. Some (def.Struct w a.0.0, t)) (d, x) a.2 in
    let p = paired (def.Struct w a.0.0) d t.0 x t.2 in
    let k = many_takes is_field fields_taken (length r.0) r.0 a.0.0 a.0.1 a.1 in
    let all : rest ≡ codes " {" ++ (flat_map field_text a.0.0 ++ (codes " };\n" ++ x)) = step (codes " {") (behind_is (codes " {") rest r.0 r.1) (step (flat_map field_text a.0.0) k.0 (behind_is (codes " };\n") a.0.1 t.0 t.1 ∙ ap (λ (z : List ℕ). codes " };\n" ++ z) p.1)) in
    subst (λ (y : CDef). Taken type_line is_spelled_def (codes "struct " ++ (w ++ rest)) y x) p.0 (record {
      is = ap (λ (z : List ℕ). codes "struct " ++ (w ++ z)) all ∙ struct_pieces (codes "struct ") w (codes " {") (flat_map field_text a.0.0) (codes " };") (codes "\n") x;
      spelled = and_from (is_name w) (list_all is_spelled_var a.0.0) g.0 k.1;
    })

array_named : (w x : List ℕ) (n : ℕ) → w ≡ x ++ codes "_" ++ decimal n → codes "cp_arr_" ++ w ≡ array_word x n
array_named w x n h = ap (λ (z : List ℕ). codes "cp_arr_" ++ z) h ∙ simp append_assoc

array_def_takes : (a rest : List ℕ) (d : CDef) (x : List ℕ) → array_def_at a rest ≡ Some (d, x) → Taken type_line is_spelled_def (codes "struct " ++ ((codes "cp_arr_" ++ a) ++ rest)) d x
array_def_takes w rest d x h =
    let p = bound (array_of w) (λ p. behind (codes " { ") rest >>= λ a. behind (type_text (elem_type p.0)) a >>= λ b. behind (codes " e[") b >>= λ c. behind (decimal p.1) c >>= λ d. behind (codes "]; };\n") d >>= λ r. Some (def.Array p.0 p.1, r)) (d, x) h in
    let t : List ℕ = type_text (elem_type p.0.0) in
    let n : List ℕ = decimal p.0.1 in
    let a = bound (behind (codes " { ") rest) (λ a. behind t a >>= λ b. behind (codes " e[") b >>= λ c. behind n c >>= λ d. behind (codes "]; };\n") d >>= λ r. Some (def.Array p.0.0 p.0.1, r)) (d, x) p.2 in
    let b = bound (behind t a.0) (λ b. behind (codes " e[") b >>= λ c. behind n c >>= λ d. behind (codes "]; };\n") d >>= λ r. Some (def.Array p.0.0 p.0.1, r)) (d, x) a.2 in
    let c = bound (behind (codes " e[") b.0) (λ c. behind n c >>= λ d. behind (codes "]; };\n") d >>= λ r. Some (def.Array p.0.0 p.0.1, r)) (d, x) b.2 in
    let e = bound (behind n c.0) (λ d. behind (codes "]; };\n") d >>= λ r. Some (def.Array p.0.0 p.0.1, r)) (d, x) c.2 in
    let r = bound (behind (codes "]; };\n") e.0) (λ r. Some (def.Array p.0.0 p.0.1, r)) (d, x) e.2 in
    let q = paired (def.Array p.0.0 p.0.1) d r.0 x r.2 in
    let k = array_takes w p.0.0 p.0.1 p.1 in
    let named : codes "cp_arr_" ++ w ≡ array_word p.0.0 p.0.1 = array_named w p.0.0 p.0.1 k.is in
    let all : rest ≡ codes " { " ++ (t ++ (codes " e[" ++ (n ++ (codes "]; };\n" ++ x)))) = step (codes " { ") (behind_is (codes " { ") rest a.0 a.1) (step t (behind_is t a.0 b.0 b.1) (step (codes " e[") (behind_is (codes " e[") b.0 c.0 c.1)
    (step n (behind_is n c.0 e.0 e.1) (behind_is (codes "]; };\n") e.0 r.0 r.1 ∙ ap (λ (z : List ℕ). codes "]; };\n" ++ z) q.1)))) in
    subst (λ (y : CDef). Taken type_line is_spelled_def (codes "struct " ++ ((codes "cp_arr_" ++ w) ++ rest)) y x) q.0 (record {
      is = ap (λ (z : List ℕ). codes "struct " ++ z) (meet (codes "cp_arr_" ++ w) rest (array_word p.0.0 p.0.1) (codes " { " ++ (t ++ (codes " e[" ++ (n ++ (codes "]; };\n" ++ x))))) named all)
          ∙ sym (array_pieces (codes "struct ") (codes "cp_arr_") p.0.0 (codes "_") n (codes " { ") t (codes " e[") (codes "]; };") (codes "\n") x);
      spelled = and_from (is_element p.0.0) (is_u32 p.0.1) k.elem k.len;
    })

def_takes : (s : List ℕ) (d : CDef) (x : List ℕ) → def_at s ≡ Some (d, x) → Taken type_line is_spelled_def s d x
unfolding def_at
def_takes s d x h =
    let r = bound (behind (codes "struct ") s) (λ r. def_of_word (behind (codes "cp_arr_") (word r)) (word r) (after_word r)) (d, x) h in
    let all : s ≡ codes "struct " ++ (word r.0 ++ after_word r.0) = behind_is (codes "struct ") s r.0 r.1 ∙ ap (λ (z : List ℕ). codes "struct " ++ z) (word_whole r.0) in
    subst (λ (z : List ℕ). Taken type_line is_spelled_def z d x) (sym all) (by (behind (codes "cp_arr_") (word r.0)) r.0 r.2 (λ a k. behind_is (codes "cp_arr_") (word r.0) a k))
  where
    by : (o : Option (List ℕ)) (r : List ℕ) → def_of_word o (word r) (after_word r) ≡ Some (d, x) → ((a : List ℕ) → o ≡ Some a → word r ≡ codes "cp_arr_" ++ a) → Taken type_line is_spelled_def (codes "struct " ++ (word r ++ after_word r)) d x
    by None r k f = struct_def_takes (word r) (after_word r) d x k
    by (Some a) r k f = subst (λ (z : List ℕ). Taken type_line is_spelled_def (codes "struct " ++ (z ++ after_word r)) d x) (sym (f a refl)) (array_def_takes a (after_word r) d x k)

pub defs_taken : TakesLines def_at type_line is_spelled_def
defs_taken = record { takes = λ s d x h. let t = def_takes s d x h in (t.is, t.spelled) }

-- ---- handlers

param_takes : (s : List ℕ) (k : CTy) (x : List ℕ) → param_at s ≡ Some (k, x) → (s ≡ param_text k ++ x) × (is_spelled_type k ≡ true)
unfolding param_at
param_takes s k x h =
    let r = bound (behind (codes ", ") s) type_at (k, x) h in
    let t = type_takes r.0 k x r.2 in
    (step (codes ", ") (behind_is (codes ", ") s r.0 r.1) t.0, t.1)

params_taken : TakesLines param_at param_text is_spelled_type
params_taken = record { takes = param_takes }

params_take : (s : List ℕ) (ks : List CTy) (x : List ℕ) → params_at s ≡ Some (ks, x) → Taken params_text (list_all is_spelled_type) s ks x
unfolding params_at
params_take s ks x h = by (behind (codes "void") s) h (λ r k. behind_is (codes "void") s r k)
  where
    by : (o : Option (List ℕ)) → params_by s o ≡ Some (ks, x) → ((r : List ℕ) → o ≡ Some r → s ≡ codes "void" ++ r) → Taken params_text (list_all is_spelled_type) s ks x
    by (Some r) k f =
        let p = paired [] ks r x k in
        subst (λ (y : List CTy). Taken params_text (list_all is_spelled_type) s y x) p.0 (record { is = f r refl ∙ ap (λ (z : List ℕ). codes "void" ++ z) p.1; spelled = refl })
    by None k f =
        let t = bound (type_at s) (λ t. after_all (t.0 ∷ []) (all_at (begins (codes ", ")) param_at t.1)) (ks, x) k in
        let a = after_all_takes t.0.0 (all_at (begins (codes ", ")) param_at t.0.1) ks x t.2 in
        let m = type_takes s t.0.0 t.0.1 t.1 in
        let n = many_takes (begins (codes ", ")) params_taken (length t.0.1) t.0.1 a.0.0 a.0.1 a.1 in
        let all : s ≡ type_text t.0.0 ++ (flat_map param_text a.0.0 ++ x) = step (type_text t.0.0) m.0 (n.0 ∙ ap (λ (z : List ℕ). flat_map param_text a.0.0 ++ z) a.3) in
        subst (λ (y : List CTy). Taken params_text (list_all is_spelled_type) s y x) a.2 (record {
          is = all ∙ sym (append_assoc (type_text t.0.0) (flat_map param_text a.0.0) x) ∙ ap (λ (z : List ℕ). z ++ x) (sym (with_commas-is t.0.0 a.0.0));
          spelled = and_from (is_spelled_type t.0.0) (list_all is_spelled_type a.0.0) m.1 n.1;
        })

handler_pieces : (a n b p c l x : List ℕ) → a ++ (n ++ (b ++ (p ++ ((c ++ l) ++ x)))) ≡ a ++ n ++ b ++ p ++ c ++ l ++ x
handler_pieces a n b p c l x = simp append_assoc

handler_takes : (s : List ℕ) (h : CProto) (x : List ℕ) → handler_at s ≡ Some (h, x) → Taken handler_line is_spelled_handler s h x
unfolding handler_at
handler_takes s h x e =
    let r = bound (behind (codes "void ") s) (λ r. name_at r >>= λ h. behind (codes "(") h.1 >>= λ t. params_at t >>= λ ts. behind (codes ");\n") ts.1 >>= λ x. Some (proto_of h.0 ts.0, x)) (h, x) e in
    let n = bound (name_at r.0) (λ h. behind (codes "(") h.1 >>= λ t. params_at t >>= λ ts. behind (codes ");\n") ts.1 >>= λ x. Some (proto_of h.0 ts.0, x)) (h, x) r.2 in
    let t = bound (behind (codes "(") n.0.1) (λ t. params_at t >>= λ ts. behind (codes ");\n") ts.1 >>= λ x. Some (proto_of n.0.0 ts.0, x)) (h, x) n.2 in
    let ts = bound (params_at t.0) (λ ts. behind (codes ");\n") ts.1 >>= λ x. Some (proto_of n.0.0 ts.0, x)) (h, x) t.2 in
    let y = bound (behind (codes ");\n") ts.0.1) (λ x. Some (proto_of n.0.0 ts.0.0, x)) (h, x) ts.2 in
    let p = paired (proto_of n.0.0 ts.0.0) h y.0 x y.2 in
    let m = name_takes r.0 n.0.0 n.0.1 n.1 in
    let k = params_take t.0 ts.0.0 ts.0.1 ts.1 in
    let all : s ≡ codes "void " ++ (n.0.0 ++ (codes "(" ++ (params_text ts.0.0 ++ (codes ");\n" ++ x)))) =
    step (codes "void ") (behind_is (codes "void ") s r.0 r.1) (step n.0.0 m.0 (step (codes "(") (behind_is (codes "(") n.0.1 t.0 t.1) (step (params_text ts.0.0) k.is (behind_is (codes ");\n") ts.0.1 y.0 y.1 ∙ ap (λ (z : List ℕ). codes ");\n" ++ z) p.1)))) in
    subst (λ (z : CProto). Taken handler_line is_spelled_handler s z x) p.0 (record {
      is = all ∙ handler_pieces (codes "void ") n.0.0 (codes "(") (params_text ts.0.0) (codes ");") (codes "\n") x;
      spelled = and_from (is_name n.0.0) (list_all is_spelled_type ts.0.0) m.1 k.spelled;
    })

pub handlers_taken : TakesLines handler_at handler_line is_spelled_handler
handlers_taken = record { takes = λ s h x e. let t = handler_takes s h x e in (t.is, t.spelled) }
