use Rattle.gkr.specs.Transcripts.{mark}
use Rattle.transcript.specs.Source.{supplied}
use Rattle.transcript.specs.Log.{state}
use Rattle.transcript.proofs.Logs.{four_grown, sampled}
use Rattle.transcript.proofs.Transcript.take_ext.Goals as goal

pub returns-clause-steps : goal.returns-clause-steps
returns-clause-steps c =
    let t = c.args.self.now in
    let x = c.load-x in
    sampled (state t) (supplied t.challenges.now) x.result t.sponge c.requires.room x.ensures
    (four_grown t.log.now t.put (mark x.result.c0) (mark x.result.c1) (mark x.result.c2) (mark x.result.c3) c.requires.room t.sponge)
