use Rattle.std.proofs.Common.{◌≡◌, drop}
use Rattle.std.specs.List.{prefix_len}
use Rattle.std.proofs.lemmas.List.{take_rest}
use Rattle.std.proofs.lemmas.Result.{err_from_is_err_and}
use Rattle.spec_forest.proofs.Taken.{takes-blank, takes-left, takes-right, takes-comment, takes-word, refuses-left, refuses-right}
use Rattle.spec_forest.proofs.Faults.{bad-byte}
use Rattle.spec_forest.specs.Tokens.{is_letter}
use Rattle.spec_forest.specs.Scanning.{held, levels}
use Rattle.spec_forest.proofs.scan.Scanner.take.Goals as goal

pub returns-in_err-enter-in-Left-clause-takes : goal.returns-in_err-enter-in-Left-clause-takes
returns-in_err-enter-in-Left-clause-takes c =
    let p = err_from_is_err_and c.from_residual.result c.from_residual.ensures.1 in
    rw (p.1, p.2) (refuses-left c.args.text.now c.args.at c.args.self.now c.enter.new.self c.in_err-enter-in-Left.field-0.0 c.requires.scanned c.requires.short c.requires.within c.in-Left.ensures c.in_err-enter-in-Left.ensures)

pub returns-in_err-leave-in-Right-clause-takes : goal.returns-in_err-leave-in-Right-clause-takes
returns-in_err-leave-in-Right-clause-takes c =
    let p = err_from_is_err_and c.from_residual-in_err-leave-in-Right.result c.from_residual-in_err-leave-in-Right.ensures.1 in
    rw (p.1, p.2) (refuses-right c.args.text.now c.args.at c.args.self.now c.leave.new.self c.in_err-leave-in-Right.field-0.0 c.requires.scanned c.requires.short c.requires.within c.in-Right.ensures c.in_err-leave-in-Right.ensures)

pub returns-in-Blank-clause-takes : goal.returns-in-Blank-clause-takes
returns-in-Blank-clause-takes c = takes-blank c.args.text.now c.args.at c.args.self.now c.requires.scanned c.requires.within c.in-Blank.ensures

pub returns-in_ok-enter-in-Left-clause-takes : goal.returns-in_ok-enter-in-Left-clause-takes
returns-in_ok-enter-in-Left-clause-takes c =
    let a = c.in_ok-enter-in-Left.ensures in
    takes-left c.args.text.now c.args.at c.args.self.now c.enter.new.self c.requires.scanned c.requires.within c.in-Left.ensures a.0 a.1 a.2

pub returns-in_ok-leave-in-Right-clause-takes : goal.returns-in_ok-leave-in-Right-clause-takes
returns-in_ok-leave-in-Right-clause-takes c =
    let a = c.in_ok-leave-in-Right.ensures in
    takes-right c.args.text.now c.args.at c.args.self.now c.leave.new.self c.requires.scanned c.requires.within c.in-Right.ensures a.0 a.1

pub returns-in-Mark-clause-takes : goal.returns-in-Mark-clause-takes
returns-in-Mark-clause-takes c =
    takes-comment c.args.text.now c.args.at c.comment_len.result c.args.self.now c.requires.scanned c.requires.within c.in-Mark.ensures
    (rw (take_rest c.args.text.now c.args.at) at c.comment_len.ensures)

pub returns-in_ok-atom-in-Letter-clause-takes : goal.returns-in_ok-atom-in-Letter-clause-takes
returns-in_ok-atom-in-Letter-clause-takes c =
    let count : c.atom_len-len.result ≡ prefix_len is_letter (drop c.args.at c.args.text.now) = rw (take_rest c.args.text.now c.args.at) at c.atom_len-len.ensures.count in
    takes-word c.args.text.now c.args.at c.atom_len-len.result c.args.self.now c.atom.new.self c.requires.scanned c.requires.within c.in-Letter.ensures count
    c.in_ok-atom-in-Letter.ensures.levels (rw (take_rest c.args.text.now c.args.at, count) at c.in_ok-atom-in-Letter.ensures.held)

pub returns-in-Bad-clause-takes : goal.returns-in-Bad-clause-takes
returns-in-Bad-clause-takes c = bad-byte c.args.text.now c.args.at (levels c.args.self.now) (held c.args.self.now) c.requires.scanned c.requires.short c.requires.within c.in-Bad.ensures
