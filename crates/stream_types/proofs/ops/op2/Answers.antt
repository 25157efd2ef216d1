use Rattle.stream_types.proofs.Ranges.{op2_answered}
use Rattle.stream_types.proofs.ops.op2.Goals as goal

pub returns-in-Int8-clause-word : goal.returns-in-Int8-clause-word
returns-in-Int8-clause-word g c = op2_answered _ _ _ _ _ _ c.in-Int8.is c.op2_at-in-Int8.ensures c.requires.fits c.requires.a c.requires.b

pub returns-in-Int16-clause-word : goal.returns-in-Int16-clause-word
returns-in-Int16-clause-word g c = op2_answered _ _ _ _ _ _ c.in-Int16.is c.op2_at-in-Int16.ensures c.requires.fits c.requires.a c.requires.b

pub returns-in-Int32-clause-word : goal.returns-in-Int32-clause-word
returns-in-Int32-clause-word g c = op2_answered _ _ _ _ _ _ c.in-Int32.is c.op2_at-in-Int32.ensures c.requires.fits c.requires.a c.requires.b

pub returns-in-Word8-clause-word : goal.returns-in-Word8-clause-word
returns-in-Word8-clause-word g c = op2_answered _ _ _ _ _ _ c.in-Word8.is c.op2_at-in-Word8.ensures c.requires.fits c.requires.a c.requires.b

pub returns-in-Word16-clause-word : goal.returns-in-Word16-clause-word
returns-in-Word16-clause-word g c = op2_answered _ _ _ _ _ _ c.in-Word16.is c.op2_at-in-Word16.ensures c.requires.fits c.requires.a c.requires.b

pub returns-in-Word32-clause-word : goal.returns-in-Word32-clause-word
returns-in-Word32-clause-word g c = op2_answered _ _ _ _ _ _ c.in-Word32.is c.op2_at-in-Word32.ensures c.requires.fits c.requires.a c.requires.b
