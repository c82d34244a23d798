-- The texts of faults, as the program prints them; those of a policy are in run_base.
use Rattle.std.specs.Prelude.{ℕ, List, [], ◌++◌, Option, None, Some, codes, decimal}
use Rattle.audit_files.specs.declared.fault.FileFault.{FileFault}
use Rattle.audit_files.specs.declared.fault.FileFault.TheVariants as file_faults
use Rattle.sudo_match.specs.declared.fault.DirFault.{DirFault}
use Rattle.sudo_match.specs.declared.fault.DirFault.TheVariants as directories
use Rattle.run_base.specs.FaultTexts.{no_memory}
use Rattle.audit_commands.specs.declared.requests_fault.RequestsFault.{RequestsFault}
use Rattle.audit_commands.specs.declared.requests_fault.RequestsFault.TheVariants as requests

-- `row ROW: ` and a fault
abbrev pub row_text : ℕ → List ℕ → List ℕ
row_text row what = codes "row " ++ decimal row ++ codes ": " ++ what

-- the fault of a users file, a hosts file or a requests file
abbrev pub file_fault_text : FileFault → List ℕ
file_fault_text file_faults.Header = codes "bad header"
file_fault_text (file_faults.BadRow row) = row_text row (codes "bad row")
file_fault_text (file_faults.OutOfOrder row) = row_text row (codes "out of order")
file_fault_text (file_faults.RowAfterClose row) = row_text row (codes "row after close")
file_fault_text file_faults.TooMany = codes "too many rows"
file_fault_text file_faults.Read = codes "read failed"
file_fault_text file_faults.Memory = no_memory

-- the fault of users and hosts that form no directory
abbrev pub directory_fault_text : DirFault → List ℕ
directory_fault_text (directories.UserTwice name) = codes "user " ++ name ++ codes " twice"
directory_fault_text (directories.HostTwice name) = codes "host " ++ name ++ codes " twice"
directory_fault_text (directories.GroupClash name) = codes "group " ++ name ++ codes " clashes"
directory_fault_text (directories.NoGroup user) = codes "user " ++ user ++ codes " has no group"
directory_fault_text directories.NoRoot = codes "no user root"
directory_fault_text directories.Memory = no_memory

-- a sender, and what it states wrongly
abbrev pub sender_text : List ℕ → List ℕ → List ℕ
sender_text sender what = codes "sender " ++ sender ++ what

-- a request of a sender, and a fault
abbrev pub request_text : List ℕ → ℕ → List ℕ → List ℕ
request_text sender number what = sender_text sender (codes ": request " ++ decimal number ++ what)

-- the number of the part, if the sender has several
abbrev pub part_text : Option ℕ → List ℕ
part_text None = []
part_text (Some part) = codes " part " ++ decimal part

-- the fault of the requests of an audit
abbrev pub requests_fault_text : RequestsFault → List ℕ
requests_fault_text (requests.File sender part fault) =
    sender_text sender (part_text part ++ codes ": " ++ file_fault_text fault)
requests_fault_text (requests.Twice sender number) = request_text sender number (codes " twice")
requests_fault_text (requests.ClosedTwice sender) = sender_text sender (codes ": closed twice")
requests_fault_text (requests.PastClose sender number) = request_text sender number (codes " past close")
requests_fault_text (requests.NotClosed sender) = sender_text sender (codes ": not closed")
requests_fault_text (requests.Missing sender number) = request_text sender number (codes " missing")
requests_fault_text requests.TooManySenders = codes "too many senders"
requests_fault_text requests.TooManyParts = codes "too many parts"
requests_fault_text requests.NoThread = codes "no thread"
