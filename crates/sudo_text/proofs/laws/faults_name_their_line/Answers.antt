use Rattle.sudo_text.proofs.FaultPlace.{faults_placed}
use Rattle.sudo_text.proofs.laws.faults_name_their_line.Goals as goal

pub returns : goal.returns
returns c = faults_placed
