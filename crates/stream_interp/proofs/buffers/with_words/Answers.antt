use Rattle.std.proofs.Common.{◌≡◌, ◌+◌, ap, sym, ◌∙◌, subst}
use Rattle.std.specs.Prelude.{IfOk}
use Rattle.stream_types.specs.TypeList.{Stands}
use Rattle.stream_types.specs.Types.{words}
use Rattle.stream_interp.proofs.buffers.with_words.Goals as goal

pub words-requires : goal.words-requires
words-requires c = subst (λ types. Stands types c.args.ty) (sym c.types.ensures) c.requires

pub returns : goal.returns
returns c =
    let e = c.words.ensures.value ∙ ap (λ types. words types c.args.ty) c.types.ensures in
    subst (λ w. IfOk c.added.result (λ n. n ≡ c.args.before + w)) e c.added.ensures
