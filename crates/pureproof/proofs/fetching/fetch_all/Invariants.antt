use Rattle.std.proofs.Common.{◌≡◌, All, List, ◌++◌, ℕ, map, take}
use Rattle.pp_front.specs.Programs.{IsShort, bytes_of}
use Rattle.pp_words.specs.Told.{texts}
use Rattle.pureproof.specs.Fetched.{AreHeld}
use Rattle.pureproof.proofs.fetching.fetch_all.Given as goal

abbrev pub invariant-loop-path : goal.invariant-loop-path
invariant-loop-path g l =
    AreHeld (g.S.Shelf.held l.initial.shelf) (texts (take l.path-index l.files)) (map bytes_of l.sources.items)
    × (g.S.Shelf.asked l.shelf ≡ g.S.Shelf.asked l.initial.shelf ++ texts (take l.path-index l.files))
    × All IsShort l.sources.items × (g.S.Shelf.failed l.shelf ≡ g.S.Shelf.failed l.initial.shelf)
    × ((p : List ℕ) → g.S.Shelf.held l.shelf p ≡ g.S.Shelf.held l.initial.shelf p)
