-- What is known of `compile`.
use Rattle.std.specs.Prelude.{◌≡◌, ℕ, List, [], ◌∷◌, Option, Some, None, Result, Ok, Err, IfSome}
use Rattle.std.proofs.Common.{sym, subst, refl, ◌∙◌, lit≤}
use Rattle.sm_io.specs.Files.{Files}
use Rattle.sm_io.specs.Fetch.{fetched}
use Rattle.stream_core.specs.Value.{SpecValue}
use Rattle.tool_top.specs.Analysis.{Means, HasFirstFault}
use Rattle.tool_top.specs.Answer.{IsRefusal, Names, TellsShelfFaults}
use Rattle.tool_top.specs.Command.{CommandValue, compile}
use Rattle.tool_top.specs.Compile.{IsCompiled}
use Rattle.tool_top.specs.Outside.{Outside}
use Rattle.tool_top.specs.Putting.{Puts}
use Rattle.tool_top.specs.Runs.{Completes}
use Rattle.tool_top.specs.Wanted.{Unread, text_file, text_limit, contents}
use Rattle.tool_top.specs.declared.outcome.Outcome.{Outcome}
use Rattle.tool_top.specs.declared.outcome.Outcome.TheVariants.{Done, Refused, Usage, Hazard, Undefined, BadRow, ReadFault, WriteFault, Missing, NoMemory}
use Rattle.tool_top.specs.declared.outcome.Refusal.{Refusal}
use Rattle.tool_top.proofs.Settled.{IsMaking, absent, making_completes, one_file, texts_missing}

abbrev pub SoundTexts : Type 0
SoundTexts = (text : List ℕ) (s : SpecValue) (a : Refusal) → Means text s → HasFirstFault text a → ⊥

abbrev pub OneFault : Type 0
OneFault = (text : List ℕ) (a b : Refusal) → HasFirstFault text a → HasFirstFault text b → a ≡ b

refused_once : OneFault → (spec name : List ℕ) (read : Result (List (List ℕ)) Unread) (a b : Refusal) → IsRefusal (compile spec name) read a → IsRefusal (compile spec name) read b → a ≡ b
refused_once one spec name (Ok []) a b h k = absurd h
refused_once one spec name (Ok (text ∷ [])) a b h k = one text a b h k
refused_once one spec name (Ok (text ∷ other ∷ more)) a b h k = absurd h
refused_once one spec name (Err unread) a b h k = h.1 ∙ sym k.1

not_refused : SoundTexts → (spec name : List ℕ) (files : Files) (header source : List ℕ) (a : Refusal) → IsCompiled spec name files header source
    → IsRefusal (compile spec name) (contents files (text_file spec)) a → ⊥
not_refused sound spec name files header source a c h =
    sound c.text c.program.means a c.program.source_is (subst (λ read. IsRefusal (compile spec name) read a) c.text_is h)

pub compile_makes : SoundTexts → OneFault → (spec name : List ℕ) → IsMaking (compile spec name) (IsCompiled spec name)
compile_makes sound one spec name = record {
  once = λ files a b. refused_once one spec name (contents files (text_file spec)) a b;
  fine = λ files header source a. not_refused sound spec name files header source a;
  there = λ files header source file c. texts_missing (contents files (text_file spec)) (c.text ∷ []) file c.text_is;
  quiet = λ before after h. h;
}

pub compile_completes : SoundTexts → OneFault → (row : CommandValue) (spec name : List ℕ) (before after : Outside) (a : Outcome) → compile spec name ≡ row
    → IfSome before.files (λ m. Puts (compile spec name) name (IsCompiled spec name) m after.files a) → TellsShelfFaults before.shelf_faults after.shelf_faults a → Completes row before after a
compile_completes sound one row spec name before after a is h faults =
    subst (λ r. Completes r before after a) is (making_completes (compile spec name) name (IsCompiled spec name) (compile_makes sound one spec name) before after a h faults)

-- ---- the file that is told missing

named : (spec name : List ℕ) (files new : Option Files) (outcome : Outcome) → IfSome files (λ m. Puts (compile spec name) name (IsCompiled spec name) m new outcome) → Names (compile spec name) files outcome spec
named spec name (Some m) new Missing h = one_file spec (fetched m spec text_limit) h.0.0 h.0.1
named spec name None new Missing h = (text_limit, (0, lit≤ tt, refl))
named spec name files new (BadRow line fault) h = tt
named spec name files new Done h = tt
named spec name files new NoMemory h = tt
named spec name files new ReadFault h = tt
named spec name files new WriteFault h = tt
named spec name files new (Refused a) h = tt
named spec name files new Usage h = tt
named spec name files new (Hazard step kind) h = tt
named spec name files new (Undefined step kind) h = tt

pub names_of : (row : CommandValue) (spec name : List ℕ) (files new : Option Files) (outcome : Outcome) → compile spec name ≡ row
    → IfSome files (λ m. Puts (compile spec name) name (IsCompiled spec name) m new outcome) → Names row files outcome spec
names_of row spec name files new outcome is h = subst (λ r. Names r files outcome spec) is (named spec name files new outcome h)
