-- Which programs are valid. Source: own.
use Rattle.std.specs.Prelude.{◌≡◌, ◌↔◌, ◌<◌, ◌^◌, ℕ, suc, Bool, true, false, ◌&&◌, List, [], ◌∷◌, ◌++◌, map, Option}
use Rattle.std.specs.Prelude.{Some, None, is_none, is_some, length, slice_get, Contains, IsTrue}
use Rattle.std.specs.List.{list_all}
use Rattle.pp_prog.specs.declared.check.Check.{Check}
use Rattle.pp_prog.specs.declared.check.CheckKind.{CheckKind}
use Rattle.pp_prog.specs.declared.expr.Expr.{Expr}
use Rattle.pp_prog.specs.declared.expr.Function.{Function}
use Rattle.pp_prog.specs.declared.expr.Pattern.{Pattern}
use Rattle.pp_prog.specs.declared.id.CheckId.{CheckId}
use Rattle.pp_prog.specs.declared.sort.Sort.{Sort}
use Rattle.pp_prog.specs.declared.types.Ctor.{Ctor}
use Rattle.pp_prog.specs.declared.types.Datatype.{Datatype}
use Rattle.pp_prog.specs.declared.types.TypeTable.{TypeTable}
use Rattle.pp_prog.specs.declared.value.Value.{Value}
use Rattle.pp_prog.specs.Sorts.{has_sort, param_sorts}
use Rattle.pp_prog.specs.Table.{is_sort}
use Rattle.pp_prog.specs.Fits.{fits_one}
use Rattle.pp_prog.specs.ExprSorts.{is_sorted}
use Rattle.pp_prog.specs.Calls.{OneGroup}
use Rattle.pp_prog.specs.Listing.{Site, plain, division, assertion, precondition, measure, matching, postcondition}
use Rattle.pp_prog.specs.Listing.{function_sites, function_checks}

-- the sorts of a function's parameters and of its result are in range
abbrev pub is_in_range : List Datatype → Function → Bool
is_in_range datatypes f = list_all (is_sort datatypes) (param_sorts f.params) && is_sort datatypes f.result

-- each value of the sort fits one of the patterns
abbrev pub Covers : List Ctor → Sort → List Pattern → Type 0
Covers ctors s patterns = (v : Value) → IsTrue (has_sort ctors v s) → IsTrue (fits_one patterns v)

abbrev pub has_precondition : Option Function → Bool
has_precondition None = false
has_precondition (Some g) = is_some g.pre

abbrev pub is_written : List Expr → Bool
is_written [] = false
is_written (e ∷ es) = true

abbrev pub has_measure : Option Function → Bool
has_measure None = false
has_measure (Some g) = is_written g.measure

-- a check without its place, which whoever makes the program tells: its number, the function that it belongs to, and
-- its kind
abbrev pub Entry : Type 0
Entry = ℕ × ℕ × CheckKind

abbrev pub entry : Check → Entry
entry c = (c.id.0, c.function.0, c.kind)

abbrev pub entry_of : ℕ → CheckId × CheckKind → Entry
entry_of f c = (c.0.0, f, c.1)

module _ (types : TypeTable) (functions : List Function) where
  -- the site of function f carries a check exactly where it can fail: a division always; a call's precondition where
  -- the called function has one; a call's measure where both are of one group and have measures; a match where the
  -- patterns of its cases without a guard don't cover the sort of the matched value
  abbrev pub Carries : ℕ → Site → Type 0
  Carries f (plain check) = IsTrue (is_none check)
  Carries f (division check) = IsTrue (is_some check)
  Carries f (assertion check) = Unit {0}
  Carries f (precondition g check) = is_some check ≡ has_precondition (slice_get functions g.0)
  Carries f (measure g check) =
      IsTrue (is_some check) ↔ (OneGroup functions f g.0 × IsTrue (has_measure (slice_get functions f))
      × IsTrue (has_measure (slice_get functions g.0)))
  Carries f (matching s patterns check) = IsTrue (is_none check) ↔ Covers types.ctors s patterns
  Carries f (postcondition check) = Unit {0}

  -- each site of each function carries a check exactly where it can fail
  abbrev pub AllCarry : Type 0
  AllCarry = (f : ℕ) (function : Function) → slice_get functions f ≡ Some function → (site : Site)
      → Contains (function_sites types functions function) site → Carries f site

  -- the checks of functions, the first of which has the number f, in order
  abbrev pub listing_from : ℕ → List Function → List Entry
  listing_from f [] = []
  listing_from f (function ∷ rest) =
      map (entry_of f) (function_checks types functions function) ++ listing_from (suc f) rest

  -- the checks of all functions, in order
  abbrev pub listing : List Entry
  listing = listing_from 0 functions

-- the functions and their checks are a program over these types
pub record IsValid (types : TypeTable) (functions : List Function) (checks : List Check) : Type 0 where
  pub few_functions : length functions < 2 ^ 32
  pub few_checks : length checks < 2 ^ 32
  pub in_range : IsTrue (list_all (is_in_range types.datatypes) functions)
  pub sorted : IsTrue (list_all (is_sorted types functions) functions)
  pub carried : AllCarry types functions
  pub listed : map entry checks ≡ listing types functions
  pub numbered : (i : ℕ) (c : Check) → slice_get checks i ≡ Some c → c.id.0 ≡ i
