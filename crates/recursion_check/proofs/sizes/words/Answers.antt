use Rattle.std.proofs.Common.{◌≡◌, ◌+◌, min, ◌∙◌, sym, ap, arith}
use Rattle.recursion_check.specs.Counted.{streams_words, libs_words, externs_words}
use Rattle.recursion_check.proofs.Counting.{words_are}
use Rattle.recursion_check.proofs.sizes.words.Goals as goal

pub returns : goal.returns
returns c =
    let s = c.args.spec.now in
    let a = ap streams_words c.streams.ensures in
    let b = ap libs_words c.libs.ensures in
    let d = ap (λ t. externs_words t c.externs.result.now) c.types.ensures ∙ ap (externs_words s.types) c.externs.ensures in
    let e : c.stream_words-total.result + c.lib_words-total.result + c.extern_words.result ≡ min (streams_words s.streams + libs_words s.libs + externs_words s.types s.externs) 262145 = omega (arith, a, b, d) in
    e ∙ ap (λ n. min n 262145) (sym (words_are s c.requires))
