-- How much room resolved expressions and statements need.
use Rattle.std.specs.Prelude.{ℕ, ◌+◌, max, List, [], ◌∷◌}
use Rattle.std.specs.List.{sum_by}
use Rattle.c_exec.specs.Codes.{Op, word, load, elem, un, bin, choose, conv, met, part, pick, chain, nothing, Act, copies, calls, nexts, stores, moves, puts}
use Rattle.c_exec.specs.Going.{Rooms}

-- how many words an expression's value has at most
abbrev pub wide : Op → ℕ
wide (word w) = 1
wide (load at n) = n
wide (elem at n len t a) = n
wide (un op t a) = 1
wide (bin op s t a b) = 1
wide (choose c a b) = max (wide a) (wide b)
wide (conv s t a) = 1
wide (met a) = wide a
wide (part off n a) = n
wide (pick n len a i) = n
wide (chain a b) = wide a + wide b
wide nothing = 0

-- how many words more than before lie on the pile at most
abbrev pub need : Op → ℕ
need (word w) = 1
need (load at n) = n
need (elem at n len t a) = max (need a) n
need (un op t a) = max (need a) 1
need (bin op s t a b) = max (need a) (1 + need b)
need (choose c a b) = max (need c) (max (need a) (need b))
need (conv s t a) = max (need a) 1
need (met a) = need a
need (part off n a) = max (need a) n
need (pick n len a i) = max (max (need a) n) (wide a + need i)
need (chain a b) = max (need a) (wide a + need b)
need nothing = 0

-- the same of a statement's expressions, each by itself
abbrev pub act_need : Act → ℕ
act_need (copies at n) = 0
act_need (calls h guard args) = max (need guard) (need args)
act_need (nexts at a) = need a
act_need (stores at n len t a from) = need a
act_need (moves at a) = need a
act_need (puts at n from) = 0

abbrev pub most_need : List Act → ℕ
most_need [] = 0
most_need (a ∷ more) = max (act_need a) (most_need more)

-- a call, and the words of its arguments
abbrev pub call_count : Act → ℕ
call_count (calls h guard args) = 1
call_count _ = 0

abbrev pub call_words : Act → ℕ
call_words (calls h guard args) = wide args
call_words _ = 0

-- the room for these statements, each carried out once
abbrev pub rooms_for : List Act → Rooms
rooms_for acts = record { pile = most_need acts; handlers = sum_by call_count acts; ends = sum_by call_count acts; words = sum_by call_words acts }
