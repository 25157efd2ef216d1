use Rattle.tool_top.proofs.Unsound.{means_so, stops_so}
use Rattle.tool_top.proofs.analysis.analyse.Goals as goal

pub returns-in-Ok-sound : goal.returns-in-Ok-sound
returns-in-Ok-sound c = means_so c.args.text.now c.in-Ok.spec c.in-Ok-sound.sound c.in-Ok.ensures c.in-Ok-sound.ensures.judged.0 c.in-Ok-sound.ensures.judged.1

pub returns : goal.returns
returns c = stops_so c.args.text.now c.in-Ok.spec c.in-Err-sound.fault c.stop_of_soundness.result c.in-Ok.ensures c.in-Err-sound.ensures.judged.1 c.stop_of_soundness.ensures
