-- Lists of watchers by literal. (own)
use Rattle.std.specs.Prelude.{ℕ, ◌==◌, Bool, List, [], slice_index_or, slice_set}
use Rattle.std.specs.List.{list_any}
use Rattle.pp_clause.specs.Literal.{Literal}
use Rattle.pp_trail.specs.Marks.{code}
use Rattle.pp_watch.specs.declared.watcher.Watcher.{Watcher}

-- the watchers of a literal, whose list stands at its code
abbrev pub watchers_of : List (List Watcher) → Literal → List Watcher
watchers_of lists l = slice_index_or lists (code l) []

-- the lists with these watchers of the literal
abbrev pub with_watchers : List (List Watcher) → Literal → List Watcher → List (List Watcher)
with_watchers lists l ws = slice_set lists (code l) ws

-- whether the clause with this number is among the watchers
abbrev pub is_among : ℕ → List Watcher → Bool
is_among number ws = list_any (λ w. w.number == number) ws
