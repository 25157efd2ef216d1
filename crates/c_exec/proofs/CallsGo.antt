-- A call of a handler, on what a machine keeps.
use Rattle.std.proofs.Common.{◌≡◌, ℕ, ◌+◌, ◌≤◌, Bool, true, false, List, [], ◌∷◌, ◌++◌, length, map, Option, Some, None, Result, Ok, Err, refl, sym, ap, ◌∙◌, subst, arith}
use Rattle.std.specs.Prelude.{IsTrue, IfOk, max, nat_eq, if◌then◌else◌}
use Rattle.std.specs.List.{sum_by}
use Rattle.std.specs.Option.{option_map_or}
use Rattle.std.proofs.lemmas.List.{length-append}
use Rattle.c99_tree.specs.declared.types.CTy.TheVariants as ty
use Rattle.c99_tree.specs.declared.types.CProto.{CProto}
use Rattle.c99_tree.specs.declared.undefined.Undefined.{Undefined}
use Rattle.c99_tree.specs.declared.unit.Unit.{Unit as CUnit}
use Rattle.c99_tree.specs.Tree.{Expr, Exprs, Stmt, calls}
use Rattle.c99_tree.specs.CTypes.{is_zero}
use Rattle.c99_tree.specs.Lookup.{handler_of, place_of_handler}
use Rattle.c99_tree.specs.Values.{Value, Values, number_in, words_of, words_of_all}
use Rattle.c99_tree.specs.Typing.{types_of}
use Rattle.c99_tree.specs.Evaluation.{Met, done, ◌>>=◌, evaluate, evaluate_all}
use Rattle.c99_tree.specs.Step.{Called, Progress, with_call, params_of, called_if, carry_out}
use Rattle.c99_tree.specs.Typed.{IsValueOf}
use Rattle.c99_tree.specs.WellFormed.{list_of, types_come_first, fit_params}
use Rattle.c99_tree.proofs.LookedUp.{same_number}
use Rattle.c99_tree.proofs.TypedValues.{fit_types, params_fit, types_long}
use Rattle.c99_tree.proofs.TypedStatements.{IsProgress, premises}
use Rattle.c_exec.specs.Codes.{Op, nothing}
use Rattle.c_exec.specs.Going as going
use Rattle.c_exec.specs.Going.{Memory, Rooms, go, act}
use Rattle.c_exec.specs.Machine.{words_of_statics}
use Rattle.c_exec.specs.Needs.{need, wide, call_count, call_words}
use Rattle.c_exec.specs.Piles.{top, put_on}
use Rattle.c_exec.specs.Resolving.{scalar_of, code_of, code_of_values, act_for}
use Rattle.c_exec.proofs.Simulates.{put-fits}
use Rattle.c_exec.proofs.ExpressionsGo.{zero_word}
use Rattle.c_exec.proofs.ListsGo.{Lays, met_of, onto_all, put_all_behind, nothing_lays, values_lay}
use Rattle.c_exec.proofs.CodeGoes.{scalar_given}
use Rattle.c_exec.proofs.StaticsLaid.{expression_goes, expressions_go}
use Rattle.c_exec.proofs.CallsMore.{calls_more, rises_more}
use Rattle.c_exec.proofs.Follows.{Follows, Agrees, Roomy, before_it, counted, follows_nothing, sims_agree}
use Rattle.c_exec.proofs.Known.{Known, guard_good, arguments_good, scalar_expr}

-- ---- the words of arguments

behind_agrees : (u : CUnit) (before : List Stmt) (k : ℕ) (r : Result Values Undefined) (n : ℕ) (f : Values → Met Progress) (g : List ℕ → Met Memory)
    → IfOk (done (Ok []) >>= put_all_behind (met_of r n)).value (λ xs. length xs ≤ k)
    → ((vs : Values) → length (words_of_all vs) ≤ k → Agrees u before (g (words_of_all vs)) (f vs))
    → Agrees u before (onto_all [] (done (Ok []) >>= put_all_behind (met_of r n)) >>= g) (met_of r n >>= f)
behind_agrees u before k (Ok vs) n f g l h =
    let a = h vs l in
    let same = a.count in
    let counts : (0 + (n + 0)) + (g (words_of_all vs)).count ≡ n + (f vs).count = omega (arith, same) in
    record { value = a.value; count = counts }
behind_agrees u before k (Err e) n f g l h = let counts : 0 + n ≡ n = omega arith in record { value = refl; count = counts }

-- what resolved expressions leave, and the values that they stand for
lays_agree : (u : CUnit) (before : List Stmt) (room : ℕ) (held ws : List ℕ) (a : Op) (m : Met Values) (f : Values → Met Progress) (g : List ℕ → Met Memory)
    → held ≡ ws → Lays room ws a (done (Ok []) >>= put_all_behind m) → need a ≤ room
    → ((vs : Values) → length (words_of_all vs) ≤ wide a → Agrees u before (g (words_of_all vs)) (f vs))
    → Agrees u before (go room held a [] >>= g) (m >>= f)
lays_agree u before room held ws a m f g e l n h =
    let fits : 0 + need a ≤ room = omega (arith, n) in
    subst (λ (z : Met (List ℕ)). Agrees u before (z >>= g) (m >>= f)) (sym (ap (λ (ys : List ℕ). go room ys a []) e ∙ l.goes [] fits))
    (behind_agrees u before (wide a) m.value m.count f g l.long h)

-- ---- one more call

more_calls : (rs : Rooms) (h : ℕ) (ws : List ℕ) (m : Memory) → length m.handlers + 1 ≤ rs.handlers → length m.ends + 1 ≤ rs.ends
    → length m.words + length ws ≤ rs.words
    → going.with_call rs h ws m
    ≡ record m { handlers = m.handlers ++ h ∷ []; ends = m.ends ++ length (m.words ++ ws) ∷ []; words = m.words ++ ws }
more_calls rs h ws m a b c =
    ap (λ (xs : List ℕ). going.with_words rs h xs m) (put-fits rs.words m.words ws c)
    ∙ ap (λ (hs : List ℕ). record m { handlers = hs; ends = put_on rs.ends m.ends (length (m.words ++ ws) ∷ []); words = m.words ++ ws })
    (put-fits rs.handlers m.handlers (h ∷ []) a)
    ∙ ap (λ (es : List ℕ). record m { handlers = m.handlers ++ h ∷ []; ends = es; words = m.words ++ ws })
    (put-fits rs.ends m.ends (length (m.words ++ ws) ∷ []) b)

follows_call : (u : CUnit) (rs : Rooms) (before : List Stmt) (x : List ℕ) (guard : Expr) (args : Exprs) (p : Progress) (m : Memory) (ws : List ℕ)
    → Follows u before p m → Roomy u rs before (calls x guard args) → length ws ≤ wide (code_of_values u (params_of u x) nothing args)
    → Follows u (before ++ calls x guard args ∷ []) (with_call (record { handler = place_of_handler u x; words = ws }) p)
    (going.with_call rs (place_of_handler u x) ws m)
follows_call u rs before x guard args p m ws f r l =
    let s : Stmt = calls x guard args in
    let h : ℕ = place_of_handler u x in
    let few = f.few in
    let short = f.short in
    let paired = f.paired in
    let handlers : sum_by call_count (map (act_for u) before) + 1 ≤ rs.handlers = r.handlers in
    let ends : sum_by call_count (map (act_for u) before) + 1 ≤ rs.ends = r.ends in
    let words : sum_by call_words (map (act_for u) before) + wide (code_of_values u (params_of u x) nothing args) ≤ rs.words = r.words in
    let calls_counted : sum_by call_count (map (act_for u) (before ++ s ∷ [])) ≡ sum_by call_count (map (act_for u) before) + 1 =
    counted call_count u before s in
    let words_counted : sum_by call_words (map (act_for u) (before ++ s ∷ []))
    ≡ sum_by call_words (map (act_for u) before) + wide (code_of_values u (params_of u x) nothing args) = counted call_words u before s in
    let more_words = length-append m.words ws in
    let more_handlers : length (m.handlers ++ h ∷ []) ≡ length m.handlers + 1 = length-append m.handlers (h ∷ []) in
    let more_ends : length (m.ends ++ length (m.words ++ ws) ∷ []) ≡ length m.ends + 1 = length-append m.ends (length (m.words ++ ws) ∷ []) in
    subst (λ (z : Memory). Follows u (before ++ s ∷ []) (with_call (record { handler = h; words = ws }) p) z)
    (sym (more_calls rs h ws m (omega (arith, few, handlers)) (omega (arith, few, paired, ends)) (omega (arith, short, l, words))))
    (record {
      statics = f.statics;
      wide = f.wide;
      held = λ q ring g n. f.held q ring g (before_it q before s refl n);
      paired = omega (arith, more_handlers, more_ends, paired);
      rises = rises_more 0 m.ends (length m.words) (length (m.words ++ ws)) f.rises (omega (arith, more_words));
      calls = calls_more 0 m.handlers m.ends m.words ws h f.paired f.rises ∙ ap (λ (cs : List Called). cs ++ record { handler = h; words = ws } ∷ []) f.calls;
      few = omega (arith, few, more_handlers, calls_counted);
      short = omega (arith, short, more_words, words_counted, l);
    })

-- ---- the statement

if_agrees : (u : CUnit) (before : List Stmt) (c d : Bool) (a b : Met Memory) (x y : Met Progress) → c ≡ d → Agrees u before a x → Agrees u before b y
    → Agrees u before (if c then a else b) (if d then x else y)
if_agrees u before c d a b x y e h g =
    subst (λ (z : Bool). Agrees u before (if c then a else b) (if z then x else y)) e (same c)
  where
    same : (z : Bool) → Agrees u before (if z then a else b) (if z then x else y)
    same true = h
    same false = g

-- each argument fits its parameter
args_fit : (u : CUnit) (args : Exprs) (o : Option CProto) → option_map_or (λ (q : CProto). nat_eq (length (list_of args)) (length q.params)) o false ≡ true
    → option_map_or (λ (q : CProto). fit_params (types_of u args) q.params) o false ≡ true
    → fit_types (types_of u args) (option_map_or (λ (q : CProto). q.params) o []) ≡ true
args_fit u args None n f = absurd (cc n)
args_fit u args (Some proto) n f =
    params_fit (types_of u args) proto.params (types_long u args ∙ same_number (length (list_of args)) (length proto.params) n) f

pub call_goes : (u : CUnit) (rs : Rooms) (before : List Stmt) (x : List ℕ) (guard : Expr) (args : Exprs) (p : Progress) (m : Memory) (row : List ℕ)
    (xs : List Value) → IsTrue (types_come_first u) → Known u before (calls x guard args) → IsProgress u before p → Follows u before p m
    → Roomy u rs before (calls x guard args)
    → Agrees u (before ++ calls x guard args ∷ []) (act rs row (act_for u (calls x guard args)) m) (carry_out u xs (calls x guard args) p)
call_goes u rs before x guard args p m row xs first k h f r =
    let s : Stmt = calls x guard args in
    let ws : List ℕ = words_of_statics p.statics in
    let c = premises u before s p k.ruled h in
    let scalar = scalar_expr u guard k.ruled.scalar in
    let good = guard_good u guard args k.ruled.ranged k.there in
    let all_good = arguments_good u guard args k.ruled.ranged k.there in
    let fit = args_fit u args (handler_of u x) k.ruled.full k.ruled.fitting in
    let code : Op = code_of_values u (params_of u x) nothing args in
    let lays = values_lay u p.statics rs.pile ws (params_of u x) nothing (done (Ok [])) args
    (expressions_go u p.statics rs.pile args (params_of u x) first c all_good fit) (nothing_lays rs.pile ws) in
    let pile : max (need (code_of u guard)) (need code) ≤ rs.pile = r.pile in
    let guard_room : need (code_of u guard) ≤ rs.pile = omega (arith, pile) in
    let code_room : need code ≤ rs.pile = omega (arith, pile) in
    let given : Values → Met Progress = λ vs. done (Ok (with_call (record { handler = place_of_handler u x; words = words_of_all vs }) p)) in
    let calls_it : List ℕ → Met Memory = λ ys. done (Ok (going.with_call rs (place_of_handler u x) ys m)) in
    sims_agree u (before ++ s ∷ []) rs.pile m.statics ws (code_of u guard) (evaluate u p.statics guard) (λ v. called_if u x args p (number_in v))
    (λ g. if nat_eq (top g) 0 then done (Ok m) else (go rs.pile m.statics code [] >>= calls_it))
    (IsValueOf u.types (ty.Scalar (scalar_of u guard))) f.statics
    (expression_goes u p.statics rs.pile guard (ty.Scalar scalar.0) first c good scalar.1) guard_room
    (scalar_given u p.statics c guard good.ranges scalar)
    (λ v q. if_agrees u (before ++ s ∷ []) (nat_eq (top (words_of v)) 0) (is_zero (number_in v)) (done (Ok m)) (go rs.pile m.statics code [] >>= calls_it)
    (done (Ok p)) (evaluate_all u p.statics (params_of u x) args >>= given) (zero_word u.types (scalar_of u guard) [] v q)
    (record { value = follows_nothing u before s p m (λ z. refl) f; count = refl })
    (lays_agree u (before ++ s ∷ []) rs.pile m.statics ws code (evaluate_all u p.statics (params_of u x) args) given calls_it f.statics lays code_room
    (λ vs l. record { value = follows_call u rs before x guard args p m (words_of_all vs) f r l; count = refl })))
