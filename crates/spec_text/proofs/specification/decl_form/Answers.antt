use Rattle.spec_text.proofs.specification.decl_form.Goals as goal

pub returns-in-Struct : goal.returns-in-Struct
returns-in-Struct c = rw c.in-Struct.is (c.struct_decl.ensures c.args.version)

pub returns-in-Extern : goal.returns-in-Extern
returns-in-Extern c = rw c.in-Extern.is (c.extern_decl.ensures c.args.version)

pub returns-in-Def : goal.returns-in-Def
returns-in-Def c = rw c.in-Def.is (c.def_decl.ensures c.args.version)

pub returns-in-Trigger : goal.returns-in-Trigger
returns-in-Trigger c = rw c.in-Trigger.is (c.trigger_decl.ensures c.args.version)

pub returns-in-Observer : goal.returns-in-Observer
returns-in-Observer c = rw c.in-Observer.is (c.observer_decl.ensures c.args.version)
