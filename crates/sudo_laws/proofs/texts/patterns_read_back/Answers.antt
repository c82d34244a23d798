use Rattle.sudo_laws.proofs.PatternTexts.{host_read, path_read}
use Rattle.sudo_laws.proofs.texts.patterns_read_back.Goals as goal

pub returns-clause-hosts : goal.returns-clause-hosts
returns-clause-hosts c = host_read

pub returns-clause-paths : goal.returns-clause-paths
returns-clause-paths c = path_read
