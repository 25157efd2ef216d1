-- Answers that came well.
use Rattle.std.specs.Prelude.{Result, Ok, Err, OnOk, IfOk}

pub on_then : {X E : Type 0} {A B : Type 0} (r : Result X E) → (A → B) → OnOk r A → OnOk r B
on_then (Ok x) f a = f a
on_then (Err e) f a = tt

pub if_then : {X E : Type 0} {A B : X → Type 0} (r : Result X E) → ((x : X) → A x → B x) → IfOk r A → IfOk r B
if_then (Ok x) f a = f x a
if_then (Err e) f a = tt

pub on_each : {X E : Type 0} {I : Type 0} (A : I → Type 0) (r : Result X E) → ((i : I) → OnOk r (A i)) → OnOk r ((i : I) → A i)
on_each A (Ok x) f = f
on_each A (Err e) f = tt
