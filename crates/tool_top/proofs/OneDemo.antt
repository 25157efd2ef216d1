-- A demonstration has one outcome, and is done where the output didn't fail.
use Rattle.std.proofs.Common.{◌≡◌, ℕ, refl, subst}
use Rattle.tool_top.specs.Answer.{IsFinished, IsSettled}
use Rattle.tool_top.specs.Command.{CommandValue, demo}
use Rattle.tool_top.specs.Demo.{IsDemoAnswer, RunsDemo, WritesLine, line_for}
use Rattle.tool_top.specs.Outside.{Outside, OutFailed}
use Rattle.tool_top.specs.Runs.{Completes}
use Rattle.tool_top.specs.declared.outcome.Outcome.{Outcome}
use Rattle.tool_top.specs.declared.outcome.Outcome.TheVariants.{Done, Refused, Usage, Hazard, Undefined, BadRow, ReadFault, WriteFault, Missing, NoMemory}

-- a settled demonstration is done
settled_done : (a : Outcome) → IsSettled a → IsDemoAnswer a → a ≡ Done
settled_done Done s p = refl
settled_done (Refused refusal) s p = absurd p
settled_done Usage s p = absurd p
settled_done (Hazard step kind) s p = absurd p
settled_done (Undefined step kind) s p = absurd p
settled_done (BadRow line fault) s p = absurd p
settled_done ReadFault s p = absurd p
settled_done WriteFault s p = absurd s
settled_done Missing s p = absurd p
settled_done NoMemory s p = absurd s

pub one_demo : (streams steps : ℕ) (before after before' after' : Outside) (a b : Outcome) → IsSettled a → IsSettled b
    → RunsDemo streams steps before after a → RunsDemo streams steps before' after' b → a ≡ b
one_demo streams steps before after before' after' a b s t h k = both a b (settled_done a s h.possible) (settled_done b t k.possible)
  where
    both : (x y : Outcome) → x ≡ Done → y ≡ Done → x ≡ y
    both x y p q = cc

-- it is finished where the output didn't fail
pub demo_completes : (row : CommandValue) (streams steps : ℕ) (before after : Outside) (a : Outcome) → demo streams steps ≡ row → IsDemoAnswer a
    → WritesLine (line_for streams steps) before.taken after.taken before.out_faults after.out_faults a → Completes row before after a
demo_completes row streams steps before after a is possible line = subst (λ r. Completes r before after a) is (finished a possible line)
  where
    finished : (x : Outcome) → IsDemoAnswer x → WritesLine (line_for streams steps) before.taken after.taken before.out_faults after.out_faults x → ¬ OutFailed before after → IsFinished x
    finished Done p w quiet = tt
    finished (Refused refusal) p w quiet = absurd p
    finished Usage p w quiet = absurd p
    finished (Hazard step kind) p w quiet = absurd p
    finished (Undefined step kind) p w quiet = absurd p
    finished (BadRow line fault) p w quiet = absurd p
    finished ReadFault p w quiet = absurd p
    finished WriteFault p w quiet = absurd (quiet w.failed)
    finished Missing p w quiet = absurd p
    finished NoMemory p w quiet = tt
