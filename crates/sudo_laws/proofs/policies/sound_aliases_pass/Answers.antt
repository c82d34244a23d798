use Rattle.sudo_laws.proofs.PassLemmas.{passes_if_sound}
use Rattle.sudo_laws.proofs.policies.sound_aliases_pass.Goals as goal

pub returns : goal.returns
returns c = passes_if_sound
