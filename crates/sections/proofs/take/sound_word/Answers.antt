-- `sections::take::sound_word` meets its contract.
use Rattle.sections.proofs.Taking.{taking}
use Rattle.sections.proofs.take.sound_word.Goals as goal

pub returns-in-Score : goal.returns-in-Score
returns-in-Score c = search taking

pub returns-in-Pcm : goal.returns-in-Pcm
returns-in-Pcm c = search taking
