-- The roster of an audit: sources with the same name are the parts of one sender.
use Rattle.std.specs.Prelude.{ℕ, ◌+◌, List, [], ◌∷◌, not, bytes_eq, filter, map, take, count_by, if◌then◌else◌}

-- the names other than this one
abbrev pub without : List ℕ → List (List ℕ) → List (List ℕ)
without name names = filter (λ other. not (bytes_eq name other)) names

-- each name once, in the order of first appearance
abbrev pub roster : List (List ℕ) → List (List ℕ)
roster [] = []
roster (name ∷ names) = name ∷ without name (roster names)

-- the index of the first name equal to this one, from 0; the number of names if there is none
abbrev pub index_in : List ℕ → List (List ℕ) → ℕ
index_in name [] = 0
index_in name (other ∷ names) = if bytes_eq other name then 0 else 1 + index_in name names

-- the index of each name in a roster
abbrev pub indices_in : List (List ℕ) → List (List ℕ) → List ℕ
indices_in roster names = map (λ name. index_in name roster) names

-- the owner of each source, given the sources' names: the index of its sender in the roster
abbrev pub owners : List (List ℕ) → List ℕ
owners names = indices_in (roster names) names

-- the number of the source at this index among the sources of its name, from 1
abbrev pub part_number : List (List ℕ) → ℕ → List ℕ → ℕ
part_number names index name = 1 + count_by (λ other. bytes_eq other name) (take index names)
