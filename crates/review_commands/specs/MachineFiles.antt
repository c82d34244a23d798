-- What files state of a machine beside its policy: links to folders, netgroups, addresses, and whether all known hosts have one name.
-- And the faults of such files.
use Rattle.std.specs.Prelude.{◌≡◌, ℕ, Bool, not, List, ◌++◌, bytes_eq, codes, find, map, Option, option_map, Ok, Err}
use Rattle.audit_commands.specs.FaultTexts.{file_fault_text}
use Rattle.audit_commands.specs.Faults.{file_status}
use Rattle.audit_files.specs.Faults.{IsNotOutOfMemory}
use Rattle.audit_files.specs.Feeding.{Ahead}
use Rattle.audit_files.specs.Files.{IsRead}
use Rattle.audit_files.specs.Hosts.{machines}
use Rattle.audit_files.specs.Links.{links}
use Rattle.audit_files.specs.Netgroups.{triples}
use Rattle.sudo_match.specs.declared.people.Machine.{Machine}
use Rattle.sudo_match.specs.Matching.{short_name}
use Rattle.review_cautions.specs.declared.link.Link.{Link}
use Rattle.review_commands.specs.Addresses.{host_addresses}
use Rattle.review_commands.specs.declared.machine_file.MachineFile.{MachineFile}
use Rattle.review_commands.specs.declared.machine_file.MachineFile.TheVariants.{Addresses, Hosts, Links, Netgroups}
use Rattle.review_commands.specs.declared.machine_file.MachineFileFault.{MachineFileFault}
use Rattle.review_commands.specs.declared.machine_file.MachineFileFault.TheVariants as faults
use Rattle.run_base.specs.FaultLines.{error_line, open_explained, open_printed}
use Rattle.run_base.specs.Faults.{open_status}

-- the link of a path to a folder
abbrev pub link_of_paths : List ℕ × List ℕ → Link
link_of_paths paths = record { from = paths.0; to = paths.1 }

-- the links are those that the bytes ahead of the reader state
abbrev pub AreLinks : Option Ahead → List Link → Type 0
AreLinks ahead found =
    (rows : List (List ℕ × List ℕ)) × IsRead links ahead (Ok rows) × (found ≡ map link_of_paths rows)

-- why there are no links, no netgroups, no addresses: the file is refused, or memory failed
abbrev pub IsNoLinks : Option Ahead → MachineFileFault → Type 0
IsNoLinks ahead (faults.Unopened fault) = ⊥
IsNoLinks ahead (faults.Refused file fault) = (file ≡ Links) × (IsNotOutOfMemory fault → IsRead links ahead (Err fault))

abbrev pub AreNoNetgroups : Option Ahead → MachineFileFault → Type 0
AreNoNetgroups ahead (faults.Unopened fault) = ⊥
AreNoNetgroups ahead (faults.Refused file fault) =
    (file ≡ Netgroups) × (IsNotOutOfMemory fault → IsRead triples ahead (Err fault))

abbrev pub AreNoAddresses : Option Ahead → MachineFileFault → Type 0
AreNoAddresses ahead (faults.Unopened fault) = ⊥
AreNoAddresses ahead (faults.Refused file fault) =
    (file ≡ Addresses) × (IsNotOutOfMemory fault → IsRead host_addresses ahead (Err fault))

-- a host has the short name of this name
abbrev pub is_called : List ℕ → Machine → Bool
is_called name m = bytes_eq (short_name m.name) (short_name name)

-- the name of the first host with another short name, if there is one
abbrev pub other_host : List ℕ → List Machine → Option (List ℕ)
other_host name hosts = option_map (λ m. m.name) (find (λ m. not (is_called name m)) hosts)

-- the bytes ahead of the reader state hosts of this short name alone, or this is the first one with another
abbrev pub IsOtherHost : List ℕ → Option Ahead → Option (List ℕ) → Type 0
IsOtherHost name ahead found = (hosts : List Machine) × IsRead machines ahead (Ok hosts) × (found ≡ other_host name hosts)

abbrev pub AreNoHosts : Option Ahead → MachineFileFault → Type 0
AreNoHosts ahead (faults.Unopened fault) = ⊥
AreNoHosts ahead (faults.Refused file fault) = (file ≡ Hosts) × (IsNotOutOfMemory fault → IsRead machines ahead (Err fault))

-- the hint that `%h` is not read, with the known host of another name
abbrev pub other_host_line : List ℕ → List ℕ → List ℕ → List ℕ
other_host_line program name other =
    error_line program (codes "hint: %h is not read: the hosts file has " ++ (other ++ (codes ", which is not " ++ name)))

abbrev pub machine_file_name : MachineFile → List ℕ
machine_file_name Links = codes "links"
machine_file_name Netgroups = codes "netgroups"
machine_file_name Hosts = codes "hosts"
machine_file_name Addresses = codes "addresses"

-- 3: the file is refused. 4: opening, reading or memory failed.
abbrev pub machine_file_status : MachineFileFault → ℕ
machine_file_status (faults.Unopened fault) = open_status fault
machine_file_status (faults.Refused file fault) = file_status fault

abbrev pub machine_file_printed : List ℕ → MachineFileFault → List ℕ
machine_file_printed program (faults.Unopened fault) = open_printed program fault
machine_file_printed program (faults.Refused file fault) =
    error_line program (machine_file_name file ++ (codes ": " ++ file_fault_text fault))

abbrev pub machine_file_explained : List ℕ → MachineFileFault → List ℕ
machine_file_explained program (faults.Unopened fault) = open_explained program fault
machine_file_explained program (faults.Refused file fault) = machine_file_printed program (faults.Refused file fault)
