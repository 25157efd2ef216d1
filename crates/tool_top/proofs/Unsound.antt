-- What is known of a sound specification, and how a fault of soundness stops a run.
use Rattle.std.specs.Prelude.{◌≡◌, ℕ, List, None}
use Rattle.std.proofs.Common.{refl, sym, subst, inr}
use Rattle.stream_core.specs.Value.{SpecValue}
use Rattle.stream_core.specs.Soundness.{cycle, too_many_decls, too_many_words, root_too_heavy, spec_too_heavy}
use Rattle.stream_core.specs.Meaning.{IsFirstFault}
use Rattle.recursion_check.specs.declared.fault.SoundFault.{SoundFault}
use Rattle.recursion_check.specs.declared.fault.SoundFault.TheVariants as unsound
use Rattle.recursion_check.specs.Judged.{Blames}
use Rattle.tool_top.specs.declared.outcome.Outcome.{Outcome}
use Rattle.tool_top.specs.Analysis.{IsTypedText, Means, HasFirstFault, Stops, stop_of_soundness}

pub blamed : (text : List ℕ) (s : SpecValue) → IsTypedText text s → (fault : SoundFault) → Blames s fault → Stops (HasFirstFault text) (stop_of_soundness fault)
blamed text s typed (unsound.Cycle at) h = inr (inr (inr (s, typed, cycle at, h, refl)))
blamed text s typed unsound.TooManyDecls h = inr (inr (inr (s, typed, too_many_decls, h, refl)))
blamed text s typed unsound.TooManyWords h = inr (inr (inr (s, typed, too_many_words, h, refl)))
blamed text s typed (unsound.RootTooHeavy at) h = inr (inr (inr (s, typed, root_too_heavy at, h, refl)))
blamed text s typed unsound.SpecTooHeavy h = inr (inr (inr (s, typed, spec_too_heavy, h, refl)))
blamed text s typed unsound.Memory h = tt

pub means_so : (text : List ℕ) (s x : SpecValue) → IsTypedText text s → x ≡ s → IsFirstFault s None → Means text x
means_so text s x typed is sound = subst (Means text) (sym is) (record { typed = typed; sound = sound })

pub stops_so : (text : List ℕ) (s : SpecValue) (fault : SoundFault) (stop : Outcome) → IsTypedText text s → Blames s fault → stop ≡ stop_of_soundness fault → Stops (HasFirstFault text) stop
stops_so text s fault stop typed blame is = subst (Stops (HasFirstFault text)) (sym is) (blamed text s typed fault blame)
