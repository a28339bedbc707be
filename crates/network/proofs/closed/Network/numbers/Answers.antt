use Rattle.network.proofs.Soundness.{sound_of}
use Rattle.network.proofs.closed.Network.numbers.Goals as goal

pub returns-clause-sound : goal.returns-clause-sound
returns-clause-sound c = sound_of c.args.self.now.wiring
