use Rattle.std.proofs.Common.{◌≡◌, rules}
use Rattle.recursion_check.specs.declared.fault.SoundFault.TheVariants as fault
use Rattle.demo.proofs.Fine.{memory_alone}
use Rattle.demo.proofs.run.demo.Goals as goal

pub unreachable-requires : goal.unreachable-requires
unreachable-requires c =
    let s = c.in_ok-make_spec.field-0 in
    let m : c.in-Err.field-0.1 ≡ fault.Memory = memory_alone c.args.streams c.requires s c.in_ok-make_spec.ensures.trees c.in-Err.field-0.1 c.in-Err.ensures.judged.1 in
    search (rules, m)
