use Rattle.audit_files.proofs.RisingNumbers.{sent_rises}
use Rattle.audit_files.proofs.laws.numbers_rise.Goals as goal

pub returns : goal.returns
returns c = λ text requests. sent_rises text requests
