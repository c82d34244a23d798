-- The texts of the files of a policy.
use Rattle.std.specs.Prelude.{ℕ, List, [], ◌∷◌, map, unwrap_or}
use Rattle.sudo_load.specs.declared.supply.Supply.{Supply}
use Rattle.run_base.specs.Holding.{file_at}

-- the text of the file at a path, empty if there is no file
abbrev pub text_at : List Supply → List ℕ → List ℕ
text_at handed path = unwrap_or (file_at handed path) []

-- the texts of the files at these paths
abbrev pub texts_at : List Supply → List (List ℕ) → List (List ℕ)
texts_at handed paths = map (text_at handed) paths

-- the texts of the files of a policy, in the order of their paths: that of the main file, and those that were read for what
-- it includes
abbrev pub texts_of : List ℕ → List Supply → List (List ℕ) → List (List ℕ)
texts_of main handed [] = []
texts_of main handed (path ∷ included) = main ∷ texts_at handed included
