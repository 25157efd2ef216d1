-- Two files spell one program or have one fault.
use Rattle.std.specs.Prelude.{◌≡◌, ℕ, List, [], ◌∷◌, Some, None, Result, Ok, Err}
use Rattle.std.proofs.Common.{sym, subst, refl, ap, ◌∙◌}
use Rattle.sm_io.specs.Files.{Files}
use Rattle.c99_tree.specs.declared.unit.Unit.{Unit as CUnit}
use Rattle.c99_tree.specs.Spelling.{Spells}
use Rattle.c99_tree.specs.WellFormed.{IsWellFormed}
use Rattle.migration.specs.Migration.{misused}
use Rattle.tool_top.proofs.Programs.{OneUnit}
use Rattle.tool_top.specs.Programs.{HasFault, HasOldUse, HasProgramFault, IsUnitIn, ProgramFault, not_header, not_source, not_well_formed, of_program, old_use}
use Rattle.tool_top.specs.Wanted.{Unread, contents, unit_files}
use Rattle.tool_top.specs.declared.outcome.Refusal.{Refusal}

never : {P : Type 0} → ⊥ → P
never h = absurd h

one_kind : (header source : List ℕ) (f g : ProgramFault) → HasFault header source f → HasFault header source g → f ≡ g
one_kind header source not_header not_header h k = refl
one_kind header source not_header not_source h k = never (h k.0.0 k.0.1 k.0.2)
one_kind header source not_header not_well_formed h k = never (h k.0 source k.1)
one_kind header source not_source not_header h k = never (k h.0.0 h.0.1 h.0.2)
one_kind header source not_source not_source h k = refl
one_kind header source not_source not_well_formed h k = never (h.1 k.0 k.1)
one_kind header source not_well_formed not_header h k = never (k h.0 source h.1)
one_kind header source not_well_formed not_source h k = never (k.1 h.0 h.1)
one_kind header source not_well_formed not_well_formed h k = refl

pub one_program_fault : (header source : List ℕ) (a b : Refusal) → HasProgramFault header source a → HasProgramFault header source b → a ≡ b
one_program_fault header source a b h k = h.2 ∙ ap of_program (one_kind header source h.0 k.0 h.1 k.1) ∙ sym k.2

spelled_fault : OneUnit → (header source : List ℕ) (u : CUnit) (f : ProgramFault) → Spells u header source → IsWellFormed u → HasFault header source f → ⊥
spelled_fault one header source u not_header spelled formed h = h u source spelled
spelled_fault one header source u not_source spelled formed h = h.1 u spelled
spelled_fault one header source u not_well_formed spelled formed h = h.2 (subst IsWellFormed (one u h.0 header source spelled h.1) formed)

pub program_has_no_fault : OneUnit → (header source : List ℕ) (u : CUnit) (a : Refusal) → Spells u header source → IsWellFormed u → HasProgramFault header source a → ⊥
program_has_no_fault one header source u a spelled formed h = spelled_fault one header source u h.0 spelled formed h.1

same_number : (m n : ℕ) → Some m ≡ Some n → m ≡ n
same_number m n h = cc

pub one_old_use : OneUnit → (header source : List ℕ) (a b : Refusal) → HasOldUse header source a → HasOldUse header source b → a ≡ b
one_old_use one header source a b h k =
    h.told
    ∙ ap old_use (same_number h.number k.number (sym h.first ∙ ap misused (one h.unit k.unit header source h.spelled k.spelled) ∙ k.first))
    ∙ sym k.told

some_not_none : (n : ℕ) → Some n ≡ None → ⊥
some_not_none n h = cc

pub used_as_of_old : OneUnit → (header source : List ℕ) (u : CUnit) (a : Refusal) → Spells u header source → misused u ≡ None → HasOldUse header source a → ⊥
used_as_of_old one header source u a spelled used h =
    some_not_none h.number (sym h.first ∙ ap misused (one h.unit u header source h.spelled spelled) ∙ used)

-- ---- files

same_header : (read : Result (List (List ℕ)) Unread) (h s h' s' : List ℕ) → read ≡ Ok (h ∷ s ∷ []) → read ≡ Ok (h' ∷ s' ∷ []) → h' ≡ h
same_header read h s h' s' a b = cc

same_source : (read : Result (List (List ℕ)) Unread) (h s h' s' : List ℕ) → read ≡ Ok (h ∷ s ∷ []) → read ≡ Ok (h' ∷ s' ∷ []) → s' ≡ s
same_source read h s h' s' a b = cc

-- a program that the same texts spell
pub spelled_here : (name : List ℕ) (files : Files) (u : CUnit) (x : IsUnitIn name files u) (header source : List ℕ) → contents files (unit_files name) ≡ Ok (header ∷ source ∷ []) → Spells u header source
spelled_here name files u x header source is =
    let read = contents files (unit_files name) in
    subst (λ s. Spells u header s) (same_source read header source x.header x.source is x.texts_are)
    (subst (λ h. Spells u h x.source) (same_header read header source x.header x.source is x.texts_are) x.spelled)

pub one_unit_in : OneUnit → (name : List ℕ) (files : Files) (u v : CUnit) → IsUnitIn name files u → IsUnitIn name files v → u ≡ v
one_unit_in one name files u v x y = one u v x.header x.source x.spelled (spelled_here name files v y x.header x.source x.texts_are)
