use Rattle.std.proofs.Common.{◌≡◌, ◌∙◌, length, ap, arith}
use Rattle.std.proofs.lemmas.List.{get_or_read}
use Rattle.stream_interp.proofs.RowParts.{extern_read, firsts_length, place_of_extern}
use Rattle.stream_interp.proofs.reads.extern_part.Goals as goal

pub index-first-requires : goal.index-first-requires
index-first-requires c =
    let s = c.args.sight.now.spec.now in
    let v = c.args.sight.now.layout.now.firsts in
    let there = (place_of_extern s.types 0 s.externs c.args.x c.requires.typed.0 c.requires.typed.1).there in
    let l : length v.items ≡ length s.externs = ap length c.requires.layout ∙ firsts_length s.types 0 s.externs in
    omega (arith, v.ok.0, l, there)

pub returns : goal.returns
returns c =
    let s = c.args.sight.now.spec.now in
    let v = c.args.sight.now.layout.now.firsts in
    let there = (place_of_extern s.types 0 s.externs c.args.x c.requires.typed.0 c.requires.typed.1).there in
    let l : length v.items ≡ length s.externs = ap length c.requires.layout ∙ firsts_length s.types 0 s.externs in
    let read = get_or_read v.items c.args.x c.index-first.result.now (omega (arith, l, there)) c.index-first.ensures 0 in
    let h = extern_read s c.args.sight.now.rings.now c.args.sight.now.row.now c.requires.seen v.items c.requires.layout c.args.x c.args.wide c.index-first.result.now c.requires.typed.0 c.requires.typed.1 c.requires.typed.2 read in
    record { part = c.run_of.ensures ∙ h.0; wide = ap length c.run_of.ensures ∙ h.1 }
