use Rattle.std.proofs.Common.{◌≡◌, ◌<◌, length}
use Rattle.sudo_match.specs.Pattern.{is_folder_path}
use Rattle.sudo_verdict.specs.Numbers.{path_number, path_number_from}
use Rattle.sudo_verdict.proofs.index.numbers.path_number.Given as goal

abbrev pub invariant-loop-ch : goal.invariant-loop-ch
invariant-loop-ch l = record {
  below : l.number < 16384;
  same : path_number l.path ≡ path_number_from (is_folder_path l.path) l.number l.left;
}

abbrev pub decreases-loop-ch : goal.decreases-loop-ch
decreases-loop-ch l = length l.left
