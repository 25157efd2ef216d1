-- The handlers that triggers name, and their calls.
use Rattle.std.specs.Prelude.{ℕ, List, [], ◌∷◌, ◌++◌, map, nat_eq, if◌then◌else◌, Option, Some, None, slice_get}
use Rattle.std.specs.List.{list_any, position_or_len}
use Rattle.std.specs.Cmp.Lexicographic.{pointwise}
use Rattle.stream_core.specs.Term.{TreeSpec, TreeTrigger}
use Rattle.stream_core.specs.Eval.{Who, trigger, observer, Event, log}

-- the names, each once, behind those that came before
abbrev pub handlers_after : List (List ℕ) → List TreeTrigger → List (List ℕ)
handlers_after seen [] = seen
handlers_after seen (x ∷ xs) = handlers_after (if list_any (pointwise nat_eq x.name) seen then seen else seen ++ x.name ∷ []) xs

-- the triggers' names, each once, in the order of their first triggers
abbrev pub handlers : TreeSpec → List (List ℕ)
handlers s = handlers_after [] s.triggers

-- a call of a handler, by the handler's place, with the words of its arguments
pub record Call : Type 0 where
  pub handler : ℕ
  pub words : List ℕ

abbrev pub trigger_name : Option TreeTrigger → List ℕ
trigger_name None = []
trigger_name (Some x) = x.name

-- the place of a trigger's handler
abbrev pub handler_of : TreeSpec → ℕ → ℕ
handler_of s i = position_or_len (pointwise nat_eq (trigger_name (slice_get s.triggers i))) (handlers s)

-- an observer calls nothing
abbrev pub call_of : TreeSpec → Who → List ℕ → List Call
call_of s (trigger i) words = record { handler = handler_of s i; words = words } ∷ []
call_of s (observer i) words = []

abbrev pub calls_of : TreeSpec → List Event → List Call
calls_of s [] = []
calls_of s (e ∷ es) = call_of s e.who e.words ++ calls_of s es

-- the log without the observers, each trigger as the place of its handler
abbrev pub calls : TreeSpec → List (List ℕ) → ℕ → List (List Call)
calls s h n = map (calls_of s) (log s h n)
