use Rattle.transcript.specs.Log.{state}
use Rattle.transcript.proofs.Logs.{observed}
use Rattle.transcript.proofs.Transcript.observe_ext.Goals as goal

pub returns-clause-steps : goal.returns-clause-steps
returns-clause-steps c = observed (state c.args.self.now) c.args.e c.requires.room c.requires.canon
