-- What the entries of shelves in memory show. Source: own.
use Rattle.std.specs.Prelude.{ℕ, List, map, string_bytes}
use Rattle.pp_seam.specs.declared.entries.Entry.{Entry}

-- the path and the bytes of an entry
abbrev pub entry_of : Entry → List ℕ × List ℕ
entry_of e = (string_bytes e.path, e.bytes.items)

-- the paths and the bytes of entries
abbrev pub entries_of : List Entry → List (List ℕ × List ℕ)
entries_of entries = map entry_of entries
