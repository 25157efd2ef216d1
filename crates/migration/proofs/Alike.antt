-- Evaluations that give the same value, whatever they count.
use Rattle.std.proofs.Common.{◌≡◌, ℕ, Bool, true, false, Option, Some, None, Result, Ok, Err, refl, ap, subst}
use Rattle.std.specs.Prelude.{IfOk, if◌then◌else◌}
use Rattle.c99_tree.specs.declared.expr.CBin.{CBin}
use Rattle.c99_tree.specs.declared.types.CTy.{CTy}
use Rattle.c99_tree.specs.declared.undefined.Undefined.{Undefined}
use Rattle.c99_tree.specs.CTypes.{truth, is_zero}
use Rattle.c99_tree.specs.Values.{Value, number, number_in}
use Rattle.c99_tree.specs.Evaluation.{Met, done, after, ◌>>=◌, number_result, decides, binary, both, settled, chosen}

after_alike : {A B : Type 0} (r : Result A Undefined) (m n : ℕ) (f g : A → Met B) → ((x : A) → (f x).value ≡ (g x).value)
    → (after r m f).value ≡ (after r n g).value
after_alike (Ok x) m n f g h = h x
after_alike (Err e) m n f g h = refl

-- the one and then the other
pub then_alike : {A B : Type 0} (a b : Met A) (f g : A → Met B) → a.value ≡ b.value → ((x : A) → (f x).value ≡ (g x).value) → (a >>= f).value ≡ (b >>= g).value
then_alike a b f g e h = subst (λ r. (after a.value a.count f).value ≡ (after r b.count g).value) e (after_alike a.value a.count b.count f g h)

after_alike_where : {A B : Type 0} (P : A → Type 0) (r : Result A Undefined) (m n : ℕ) (f g : A → Met B) → IfOk r P
    → ((x : A) → P x → (f x).value ≡ (g x).value) → (after r m f).value ≡ (after r n g).value
after_alike_where P (Ok x) m n f g p h = h x p
after_alike_where P (Err e) m n f g p h = refl

-- the one and then the other, which is alike after each value that the one may give
pub then_alike_where : {A B : Type 0} (P : A → Type 0) (a b : Met A) (f g : A → Met B) → a.value ≡ b.value → IfOk b.value P
    → ((x : A) → P x → (f x).value ≡ (g x).value) → (a >>= f).value ≡ (b >>= g).value
then_alike_where P a b f g e p h =
    subst (λ r. IfOk r P → (after a.value a.count f).value ≡ (after r b.count g).value) e (λ q. after_alike_where P a.value a.count b.count f g q h) p

-- what follows a value that is known
pub after_known : {A B : Type 0} (m : Met A) (x : A) (f : A → Met B) → m.value ≡ Ok x → (m >>= f).value ≡ (f x).value
after_known m x f e = ap (λ r. (after r m.count f).value) e

after_any : {A B : Type 0} (r : Result A Undefined) (n : ℕ) (f : A → Met B) (Q : B → Type 0) → ((x : A) → IfOk (f x).value Q) → IfOk (after r n f).value Q
after_any (Ok x) n f Q h = h x
after_any (Err e) n f Q h = tt

-- what holds of all that follows
pub then_any : {A B : Type 0} (m : Met A) (f : A → Met B) (Q : B → Type 0) → ((x : A) → IfOk (f x).value Q) → IfOk (m >>= f).value Q
then_any m f Q h = after_any m.value m.count f Q h

pub if_any : {A : Type 0} (b : Bool) (x y : Met A) (Q : A → Type 0) → IfOk x.value Q → IfOk y.value Q → IfOk (if b then x else y).value Q
if_any true x y Q h g = h
if_any false x y Q h g = g

pub if_alike : {A : Type 0} (b : Bool) (x y z w : Met A) → x.value ≡ z.value → y.value ≡ w.value → (if b then x else y).value ≡ (if b then z else w).value
if_alike true x y z w h g = h
if_alike false x y z w h g = g

-- a binary operator
pub both_alike : (o : Option Bool) (op : CBin) (l m r s : Met Value) → l.value ≡ m.value → r.value ≡ s.value → (both o op l r).value ≡ (both o op m s).value
both_alike (Some t) op l m r s h g =
    then_alike l m
    (λ (x : Value). if decides t (number_in x) then done (Ok (number (truth t))) else (r >>= λ (y : Value). done (number_result (binary op (number_in x)
    (number_in y)))))
    (λ (x : Value). if decides t (number_in x) then done (Ok (number (truth t))) else (s >>= λ (y : Value). done (number_result (binary op (number_in x)
    (number_in y))))) h
    (λ x. if_alike (decides t (number_in x)) (done (Ok (number (truth t)))) (r >>= λ (y : Value). done (number_result (binary op (number_in x) (number_in y))))
    (done (Ok (number (truth t)))) (s >>= λ (y : Value). done (number_result (binary op (number_in x) (number_in y)))) refl
    (then_alike r s (λ (y : Value). done (number_result (binary op (number_in x) (number_in y)))) (λ (y : Value). done (number_result (binary op (number_in x)
    (number_in y)))) g (λ y. refl)))
both_alike None op l m r s h g =
    then_alike l m (λ (x : Value). r >>= λ (y : Value). done (number_result (binary op (number_in x) (number_in y))))
    (λ (x : Value). s >>= λ (y : Value). done (number_result (binary op (number_in x) (number_in y)))) h
    (λ x. then_alike r s (λ (y : Value). done (number_result (binary op (number_in x) (number_in y)))) (λ (y : Value). done
    (number_result (binary op (number_in x) (number_in y)))) g (λ y. refl))

-- `?:`
pub chosen_alike : (o p : Option CTy) (c d a e b f : Met Value) → o ≡ p → c.value ≡ d.value → a.value ≡ e.value → b.value ≡ f.value → (chosen o c a b).value ≡
    (chosen p d e f).value
chosen_alike o p c d a e b f t hc ha hb =
    then_alike c d (λ (x : Value). (if is_zero (number_in x) then b else a) >>= λ (y : Value). done (settled o y))
    (λ (x : Value). (if is_zero (number_in x) then f else e) >>= λ (y : Value). done (settled p y)) hc
    (λ x. then_alike (if is_zero (number_in x) then b else a) (if is_zero (number_in x) then f else e) (λ (y : Value). done (settled o y))
    (λ (y : Value). done (settled p y))
    (if_alike (is_zero (number_in x)) b a f e hb ha) (λ y. ap (λ (q : Option CTy). settled q y) t))
