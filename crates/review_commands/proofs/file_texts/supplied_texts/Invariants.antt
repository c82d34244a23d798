use Rattle.std.proofs.Common.{◌≡◌, ◌∷◌, take, map}
use Rattle.review_commands.specs.FileTexts.{texts_at}
use Rattle.review_commands.proofs.file_texts.supplied_texts.Given as goal

-- the texts of the main file and of the paths so far
abbrev pub invariant-loop-path : goal.invariant-loop-path
invariant-loop-path l = map (λ t. t.now) l.texts.items ≡ l.main ∷ texts_at l.supplies (take l.path-index l.paths)
