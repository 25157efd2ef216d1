-- A demonstration's expressions and initial values have their types.
use Rattle.std.proofs.Common.{◌≡◌, ℕ, zero, suc, ◌+◌, ◌%◌, ◌<◌, ◌≤◌, ◌^◌, true, List, [], ◌∷◌, length, map, refl, sym, ap, ◌∙◌, subst, arith}
use Rattle.std.specs.Prelude.{slice_get, Some, IsTrue, nat_lt, ◌&&◌}
use Rattle.std.specs.List.{range_with_len}
use Rattle.std.proofs.lemmas.Bool.Decides.{nat_tests}
use Rattle.stream_types.specs.declared.scalar.Scalar.TheVariants as scalar
use Rattle.stream_types.specs.Numbers.{is_word}
use Rattle.stream_types.specs.Types.{AreWords, leaves, repeated}
use Rattle.stream_core.specs.Signature.{Signature, StreamSignature, signature_of, stream_signature}
use Rattle.stream_core.specs.Term.{dropped, lit, stream, value_count}
use Rattle.stream_core.specs.WellTyped.{AreInitial, HasType, bool, word32}
use Rattle.stream_core.proofs.Premises.{no_types}
use Rattle.stream_core.proofs.Wide.{counted}
use Rattle.demo.specs.Demonstration.{ahead, demo_guard, demo_spec, demo_stream}

-- ---- initial values

small_word : (n : ℕ) → n < 2 ^ 32 → IsTrue (is_word scalar.Word32 n)
small_word n h = grind (arith, nat_tests, h)

words_from : (a n : ℕ) → a + n ≤ 2 ^ 32 → AreWords (repeated n (leaves [] word32)) (range_with_len a n)
words_from a zero h = tt
words_from a (suc n) h = (small_word a (omega (arith, h)), words_from (a + 1) n (omega (arith, h)))

pub stream_words : (i : ℕ) → i < 1000 → AreWords (repeated (ahead i + 1) (leaves [] word32)) (demo_stream i).init
stream_words i h = words_from i (ahead i + 1) (omega (arith, h))

pub stream_values : (i : ℕ) → i < 1000 → value_count [] word32 (demo_stream i).init ≡ ahead i + 1
stream_values i h = counted [] no_types word32 (demo_stream i).init (ahead i + 1) tt (stream_words i h)

pub stream_initial : (i : ℕ) → i < 1000 → AreInitial [] word32 (demo_stream i).init
stream_initial i h =
    let c = stream_values i h in
    record {
      some = omega (arith, c);
      most = omega (arith, c);
      values = subst (λ n. AreWords (repeated n (leaves [] word32)) (demo_stream i).init) (sym c) (stream_words i h);
      flat = omega arith;
    }

-- ---- expressions

pub get_ranged : {X Y : Type 0} (f : ℕ → X) (g : X → Y) (a n i j : ℕ) → i < n → j ≡ a + i → slice_get (map g (map f (range_with_len a n))) i ≡ Some (g (f j))
get_ranged f g a zero i j h e = absurd (omega (arith, h))
get_ranged f g a (suc n) zero j h e = ap (λ k. Some (g (f k))) (omega (arith, e))
get_ranged f g a (suc n) (suc i) j h e = get_ranged f g (a + 1) n i j (omega (arith, h)) (omega (arith, e))

abbrev demo_signature : ℕ → Signature
demo_signature k = signature_of (demo_spec k)

signature_at : (k i : ℕ) → i < k → slice_get (demo_signature k).streams i ≡ Some (stream_signature [] (demo_stream i))
signature_at k i h = get_ranged demo_stream (stream_signature []) 0 k i i h (omega arith)

pub drop_typed : (k i : ℕ) → i < 1000 → i < k → HasType (signature_of (demo_spec k)) (dropped i (ahead i)) word32
drop_typed k i few h = record {
  stream = stream_signature [] (demo_stream i);
  is = signature_at k i h;
  type_is = refl;
  within = let c = stream_values i few in omega (arith, c);
}

pub read_typed : (k i : ℕ) → i < k → HasType (signature_of (demo_spec k)) (stream i) word32
read_typed k i h = record { stream = stream_signature [] (demo_stream i); is = signature_at k i h; type_is = refl }

pub lit_typed : (k w : ℕ) → w < 2 ^ 32 → HasType (signature_of (demo_spec k)) (lit scalar.Word32 w) word32
lit_typed k w h = (small_word w h, refl)

pub stream_typed : (k i : ℕ) → i < 1000 → i < k → HasType (signature_of (demo_spec k)) (demo_stream i).expr word32
stream_typed k i few h = (refl, drop_typed k i few h, lit_typed k 1 (omega arith), refl)

pub guard_typed : (k i : ℕ) → i < k → HasType (signature_of (demo_spec k)) (demo_guard i).expr bool
guard_typed k i h = (refl, (refl, read_typed k i h, lit_typed k 7 (omega arith), refl), lit_typed k 0 (omega arith), refl)
