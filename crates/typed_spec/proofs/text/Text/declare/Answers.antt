use Rattle.std.proofs.Common.{◌++◌, [], ◌∷◌, sym, subst}
use Rattle.std.specs.Prelude.{OnOk}
use Rattle.std.proofs.lemmas.Result.{on_ok_weaker}
use Rattle.spec_text.specs.declared.surface.Decl.{Decl}
use Rattle.typed_text.specs.ReadSpec.{extern_names, stream_names, def_names}
use Rattle.typed_spec.specs.Texts.{AreNumbered}
use Rattle.typed_spec.proofs.KindNames.{no_more}
use Rattle.typed_spec.proofs.text.Text.declare.Goals as goal

pub returns-in-Extern-clause-externs : goal.returns-in-Extern-clause-externs
returns-in-Extern-clause-externs c = λ all h.
    subst (λ (y : Decl). OnOk c.add.result (AreNumbered (all ++ extern_names (y ∷ [])) c.add.new.self)) (sym c.in-Extern.is) (c.add.ensures.numbers all h)

pub returns-in-Extern-clause-streams : goal.returns-in-Extern-clause-streams
returns-in-Extern-clause-streams c = λ all h.
    subst (λ (y : Decl). OnOk c.add.result (AreNumbered (all ++ stream_names (y ∷ [])) c.args.self.now.streams)) (sym c.in-Extern.is)
    (on_ok_weaker c.add.result (λ e. no_more all c.args.self.now.streams h) c.add.ensures.count)

pub returns-in-Extern-clause-defs : goal.returns-in-Extern-clause-defs
returns-in-Extern-clause-defs c = λ all h.
    subst (λ (y : Decl). OnOk c.add.result (AreNumbered (all ++ def_names (y ∷ [])) c.args.self.now.defs)) (sym c.in-Extern.is)
    (on_ok_weaker c.add.result (λ e. no_more all c.args.self.now.defs h) c.add.ensures.count)

pub returns-in-Stream-clause-externs : goal.returns-in-Stream-clause-externs
returns-in-Stream-clause-externs c = λ all h.
    subst (λ (y : Decl). OnOk c.add-in-Stream.result (AreNumbered (all ++ extern_names (y ∷ [])) c.args.self.now.externs)) (sym c.in-Stream.is)
    (on_ok_weaker c.add-in-Stream.result (λ e. no_more all c.args.self.now.externs h) c.add-in-Stream.ensures.count)

pub returns-in-Stream-clause-streams : goal.returns-in-Stream-clause-streams
returns-in-Stream-clause-streams c = λ all h.
    subst (λ (y : Decl). OnOk c.add-in-Stream.result (AreNumbered (all ++ stream_names (y ∷ [])) c.add-in-Stream.new.self)) (sym c.in-Stream.is) (c.add-in-Stream.ensures.numbers all h)

pub returns-in-Stream-clause-defs : goal.returns-in-Stream-clause-defs
returns-in-Stream-clause-defs c = λ all h.
    subst (λ (y : Decl). OnOk c.add-in-Stream.result (AreNumbered (all ++ def_names (y ∷ [])) c.args.self.now.defs)) (sym c.in-Stream.is)
    (on_ok_weaker c.add-in-Stream.result (λ e. no_more all c.args.self.now.defs h) c.add-in-Stream.ensures.count)

pub returns-in-Def-clause-externs : goal.returns-in-Def-clause-externs
returns-in-Def-clause-externs c = λ all h.
    subst (λ (y : Decl). OnOk c.add-in-Def.result (AreNumbered (all ++ extern_names (y ∷ [])) c.args.self.now.externs)) (sym c.in-Def.is)
    (on_ok_weaker c.add-in-Def.result (λ e. no_more all c.args.self.now.externs h) c.add-in-Def.ensures.count)

pub returns-in-Def-clause-streams : goal.returns-in-Def-clause-streams
returns-in-Def-clause-streams c = λ all h.
    subst (λ (y : Decl). OnOk c.add-in-Def.result (AreNumbered (all ++ stream_names (y ∷ [])) c.args.self.now.streams)) (sym c.in-Def.is)
    (on_ok_weaker c.add-in-Def.result (λ e. no_more all c.args.self.now.streams h) c.add-in-Def.ensures.count)

pub returns-in-Def-clause-defs : goal.returns-in-Def-clause-defs
returns-in-Def-clause-defs c = λ all h.
    subst (λ (y : Decl). OnOk c.add-in-Def.result (AreNumbered (all ++ def_names (y ∷ [])) c.add-in-Def.new.self)) (sym c.in-Def.is) (c.add-in-Def.ensures.numbers all h)
