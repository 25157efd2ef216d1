-- What a scan answers.
use Rattle.std.specs.Prelude.{◌≡◌, ℕ, List, Option, Some, None, IfSome, Result, Ok, Err}
use Rattle.spec_forest.specs.declared.fault.ScanFault.{ScanFault}
use Rattle.spec_forest.specs.declared.fault.ScanFault.TheVariants.{TextTooLong, BadByte, Unbalanced, TooDeep, Memory}
use Rattle.spec_forest.specs.Scan.{TextFault, text_too_long, bad_byte, unbalanced, too_deep, scan_fault}

-- the text's fault that an answer tells; want of memory is none
abbrev pub text_fault : ScanFault → Option TextFault
text_fault TextTooLong = Some text_too_long
text_fault (BadByte at) = Some (bad_byte at)
text_fault (Unbalanced at) = Some (unbalanced at)
text_fault (TooDeep at) = Some (too_deep at)
text_fault Memory = None

-- An answer is the text's first fault, or tells that there is none. Want of memory is free.
abbrev pub TellsFault : {X : Type 0} → List ℕ → Result X ScanFault → Type 0
TellsFault text (Ok _) = scan_fault text ≡ None
TellsFault text (Err e) = IfSome (text_fault e) (λ fault. scan_fault text ≡ Some fault)
