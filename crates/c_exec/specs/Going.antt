-- What resolved expressions and statements do to words.
use Rattle.std.specs.Prelude.{ℕ, ◌+◌, ◌*◌, nat_eq, if◌then◌else◌, List, [], ◌∷◌, length, take, drop, Result, Ok, Err}
use Rattle.c99_tree.specs.declared.types.CScalar.TheVariants as t
use Rattle.c99_tree.specs.declared.undefined.Undefined.{Undefined}
use Rattle.c99_tree.specs.Evaluation.{Met, done, meets, ◌>>=◌}
use Rattle.c_exec.specs.Codes.{Op, word, load, elem, un, bin, choose, conv, met, part, pick, chain, nothing, Act, copies, calls, nexts, stores, moves, puts}
use Rattle.c_exec.specs.Piles.{top, below, put_on, kept}
use Rattle.c_exec.specs.Runs.{written}
use Rattle.c_exec.specs.WordNumbers.{unary_word, binary_word, converted_word, is_decided, decision, subscript}

-- the word of a result, put on a pile
abbrev pub put_result : ℕ → List ℕ → Result ℕ Undefined → Result (List ℕ) Undefined
put_result room st (Ok w) = Ok (put_on room st (w ∷ []))
put_result room st (Err e) = Err e

-- the words of an element, put on a pile, where its place is known
abbrev pub put_element : ℕ → ℕ → ℕ → List ℕ → List ℕ → Result ℕ Undefined → Result (List ℕ) Undefined
put_element room at n ws st (Ok k) = Ok (put_on room st (take n (drop (at + k * n) ws)))
put_element room at n ws st (Err e) = Err e

-- an element alone of those above a base
abbrev pub keep_element : ℕ → ℕ → List ℕ → Result ℕ Undefined → Result (List ℕ) Undefined
keep_element base n st (Ok k) = Ok (kept base (k * n) n st)
keep_element base n st (Err e) = Err e

-- a pile of this room after an expression, which reads these words of the statics
unfoldable pub go : ℕ → List ℕ → Op → List ℕ → Met (List ℕ)
go room ws (word w) st = done (Ok (put_on room st (w ∷ [])))
go room ws (load at n) st = done (Ok (put_on room st (take n (drop at ws))))
go room ws (elem at n len t a) st =
    meets 1 (go room ws a st >>= λ x. done (put_element room at n ws (below x) (subscript t (top x) len)))
go room ws (un op t a) st = meets 1 (go room ws a st >>= λ x. done (put_result room (below x) (unary_word op t (top x))))
go room ws (bin op s t a b) st =
    meets 1 (go room ws a st >>= λ x.
    if is_decided op (top x) then done (Ok (put_on room (below x) (decision op ∷ [])))
    else (go room ws b x >>= λ y. done (put_result room (below (below y)) (binary_word op s t (top (below y)) (top y)))))
go room ws (choose c a b) st =
    meets 1 (go room ws c st >>= λ x. if nat_eq (top x) 0 then go room ws b (below x) else go room ws a (below x))
go room ws (conv s t a) st = go room ws a st >>= λ x. done (put_result room (below x) (converted_word s t (top x)))
go room ws (met a) st = meets 1 (go room ws a st)
go room ws (part off n a) st = meets 1 (go room ws a st >>= λ x. done (Ok (kept (length st) off n x)))
go room ws (pick n len a i) st =
    meets 2 (go room ws a st >>= λ x. go room ws i x >>= λ y. done (keep_element (length st) n (below y) (subscript t.U32 (top y) len)))
go room ws (chain a b) st = go room ws a st >>= λ x. go room ws b x
go room ws nothing st = done (Ok st)

-- ---- statements

-- the words that a machine keeps: the statics, the locals, and the calls' handlers, ends and words
pub record Memory : Type 0 where
  pub statics : List ℕ
  pub locals : List ℕ
  pub handlers : List ℕ
  pub ends : List ℕ
  pub words : List ℕ

-- how many words there is room for: of a pile, and of the calls' handlers, ends and words
pub record Rooms : Type 0 where
  pub pile : ℕ
  pub handlers : ℕ
  pub ends : ℕ
  pub words : ℕ

abbrev pub with_words : Rooms → ℕ → List ℕ → Memory → Memory
with_words rs h words m =
    record m { handlers = put_on rs.handlers m.handlers (h ∷ []); ends = put_on rs.ends m.ends (length words ∷ []); words = words }

abbrev pub with_call : Rooms → ℕ → List ℕ → Memory → Memory
with_call rs h ws m = with_words rs h (put_on rs.words m.words ws) m

abbrev pub store_at : ℕ → ℕ → ℕ → Memory → Result ℕ Undefined → Result Memory Undefined
store_at at n from m (Ok k) = Ok (record m { statics = written (at + k * n) (take n (drop from m.locals)) m.statics })
store_at at n from m (Err e) = Err e

-- a statement, while the externs hold a row
abbrev pub act : Rooms → List ℕ → Act → Memory → Met Memory
act rs row (copies at n) m = done (Ok (record m { statics = written at (take n (drop at row)) m.statics }))
act rs row (calls h guard args) m =
    go rs.pile m.statics guard [] >>= λ g.
    if nat_eq (top g) 0 then done (Ok m) else (go rs.pile m.statics args [] >>= λ ws. done (Ok (with_call rs h ws m)))
act rs row (nexts at a) m = go rs.pile m.statics a [] >>= λ ws. done (Ok (record m { locals = written at ws m.locals }))
act rs row (stores at n len t a from) m =
    meets 1 (go rs.pile m.statics a [] >>= λ x. done (store_at at n from m (subscript t (top x) len)))
act rs row (moves at a) m = go rs.pile m.statics a [] >>= λ ws. done (Ok (record m { statics = written at ws m.statics }))
act rs row (puts at n from) m = done (Ok (record m { statics = written at (take n (drop from m.locals)) m.statics }))

unfoldable pub act_all : Rooms → List ℕ → List Act → Memory → Met Memory
act_all rs row [] m = done (Ok m)
act_all rs row (a ∷ more) m = act rs row a m >>= act_all rs row more

-- ---- what the code leaves

-- what a result and the words that are there say together: the words, or what is undefined
abbrev pub left_by : {A : Type 0} → Result (Unit {0}) Undefined → A → Result A Undefined
left_by (Ok done) x = Ok x
left_by (Err e) x = Err e
