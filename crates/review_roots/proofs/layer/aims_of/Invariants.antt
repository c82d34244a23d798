use Rattle.std.proofs.Common.{◌≡◌, ◌-◌, drop, map, take}
use Rattle.std.specs.Prelude.{All}
use Rattle.review_roots.specs.Body.Found.{IsAimed, TellLike, aims_from}
use Rattle.review_roots.proofs.layer.aims_of.Given as goal

abbrev pub invariant-loop-index : goal.invariant-loop-index
invariant-loop-index l = record {
  aims : map (λ a. a.aim) l.aims.items ≡ aims_from l.sought l.level l.start (take (l.index - l.start) (drop l.start l.found));
  aimed : All (IsAimed l.steps) l.aims.items;
  level : All (λ a. a.aim.level ≡ l.level) l.aims.items;
  counted : All (λ a. a.aim.counted ≡ l.sought.counted) l.aims.items;
  like : TellLike l.aims.items;
}
