-- A check that is listed belongs to one of the program's functions.
use Rattle.std.proofs.Common.{ℕ, suc, ◌+◌, ◌<◌, List, [], ◌∷◌, map, length, ap, ◌∙◌, subst, arith}
use Rattle.std.specs.List.{All}
use Rattle.std.specs.Option.{option_map}
use Rattle.std.proofs.lemmas.List.Elements.{All-append, All-map, All-nil, All-same, All-weaker}
use Rattle.std.proofs.lemmas.Option.{get_or_from_slice_get, slice_get-map, slice_get_within}
use Rattle.pp_prog.specs.declared.expr.Function.{Function}
use Rattle.pp_prog.specs.declared.program.Program.{Program}
use Rattle.pp_prog.specs.declared.types.TypeTable.{TypeTable}
use Rattle.pp_prog.specs.Listing.{function_checks}
use Rattle.pp_prog.specs.Valid.{Entry, entry, entry_of, listing, listing_from}
use Rattle.pp_prog.proofs.Sure.{is_valid}
use Rattle.pp_sound.specs.Sound.{IsCheckOf}

-- the entry is of one of the first n functions
abbrev OwnerIsBelow : ℕ → Entry → Type 0
OwnerIsBelow n e = e.1 < n

owners_below : (types : TypeTable) (all fs : List Function) (m : ℕ)
    → All (OwnerIsBelow (m + length fs)) (listing_from types all m fs)
owners_below types all [] m = All-nil (OwnerIsBelow (m + 0))
owners_below types all (f ∷ fs) m =
    let IsBelow = OwnerIsBelow (m + length (f ∷ fs)) in
    All-append IsBelow (map (entry_of m) (function_checks types all f)) (listing_from types all (suc m) fs)
    (All-map IsBelow (entry_of m) (function_checks types all f) (λ k d lt. omega arith))
    (All-weaker (OwnerIsBelow (suc m + length fs)) IsBelow (λ e below. omega (arith, below))
    (listing_from types all (suc m) fs) (owners_below types all fs (suc m)))

pub owner_within : (p : Program) (i c : ℕ) → IsCheckOf p i c → i < length p.functions
owner_within p i c check =
    let IsBelow = OwnerIsBelow (0 + length p.functions) in
    let entries = map entry p.checks in
    let all = All-same IsBelow entries (listing p.types p.functions) (is_valid p).listed
    (owners_below p.types p.functions p.functions 0) in
    let at = slice_get-map entry p.checks c ∙ ap (option_map entry) check.listed in
    let e = entry check.check in
    let below = subst IsBelow (get_or_from_slice_get entries c e e at) (all c e (slice_get_within entries c e at)) in
    omega (arith, below, check.owner)
