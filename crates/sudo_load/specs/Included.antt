-- The files and folders that the include lines of one file name.
use Rattle.std.specs.Prelude.{◌≡◌, ℕ, Bool, true, false, List, [], Option, Result, Ok, Err}
use Rattle.std.specs.List.{filter_map}
use Rattle.std.specs.Option.{option_map}
use Rattle.sudo_grammar.specs.declared.policy.Entry.{Entry}
use Rattle.sudo_grammar.specs.declared.fault.ParseFault.{ParseFault}
use Rattle.sudo_load.specs.declared.fault.Want.{Want}
use Rattle.sudo_load.specs.declared.fault.Want.TheVariants.{File, Folder}
use Rattle.sudo_load.specs.Files.{HasContent}
use Rattle.sudo_load.specs.Unfolding.{include_of}

abbrev pub want_of : Bool × List ℕ → Want
want_of (true, path) = Folder path
want_of (false, path) = File path

-- the file or folder that a line of the file at a path names, if it is an include line
abbrev pub wanted_by : List ℕ → Entry → Option Want
wanted_by file entry = option_map want_of (include_of file entry.body)

-- the files and folders that the include lines name, in order; none if the file has a fault
abbrev pub named_by : List ℕ → Result (List Entry) ParseFault → List Want
named_by file (Ok entries) = filter_map (wanted_by file) entries
named_by file (Err fault) = []

-- the files and folders that the include lines of the file at a path, with a text, name
abbrev pub IncludedBy : List ℕ → List ℕ → List Want → Type 0
IncludedBy file text wants = (read : Result (List Entry) ParseFault) × HasContent 0 text read × (wants ≡ named_by file read)
