-- The cases of a match, as a match goes through them.
use Rattle.std.proofs.Common.{◌≡◌, ℕ, Bool, true, false, ◌||◌, List, [], ◌∷◌, Option, Some, None, refl}
use Rattle.std.proofs.lemmas.Bool.{or_parts}
use Rattle.pp_prog.specs.declared.expr.Expr.{Expr}
use Rattle.pp_prog.specs.declared.expr.Pattern.{Pattern}
use Rattle.pp_prog.specs.declared.id.CheckId.{CheckId}
use Rattle.pp_prog.specs.declared.program.Program.{Program}
use Rattle.pp_prog.specs.declared.sort.Sort.{Sort}
use Rattle.pp_prog.specs.declared.value.Value.{Value}
use Rattle.pp_prog.specs.ExprSorts.{Arm, alike, arm_sort, arms_like, arms_sort}
use Rattle.pp_prog.specs.Fits.{fits, fits_one}
use Rattle.pp_prog.specs.Listing.{matching, unless_guarded}
use Rattle.pp_eval.specs.Meaning.{or_next, taken}
use Rattle.pp_eval.specs.Part.{Part}
use Rattle.pp_sound.specs.Sound.{IsCheckOf}
use Rattle.pp_prog.proofs.ValueSorts.{Has}
use Rattle.pp_sound.proofs.Parts.{IsFine, IsSorted, MayStop, fine_then, fine_value}
use Rattle.pp_sound.proofs.Sites.{IsMet}
use Rattle.pp_prog.proofs.PartSorts.{alike_are}

or_rest : (a b : Bool) → a ≡ false → (a || b) ≡ true → b ≡ true
or_rest false b e h = h
or_rest true b e h = cc

-- the case has a guard, or its pattern doesn't fit the value
abbrev pub IsMissed : Option Expr → Pattern → Value → Type 0
IsMissed guard pattern v = fits_one (unless_guarded guard pattern []) v ≡ false

module _ (p : Program) (s u : Sort) (scope : List Sort) where
  -- each case has the sort u, at a matched value of sort s
  abbrev pub EachArm : List Arm → Type 0
  EachArm [] = Unit {0}
  EachArm (arm ∷ arms) = (arm_sort p.types p.functions arm s scope ≡ Some u) × EachArm arms

  each_like : (t : Option Sort) (arms : List Arm) → arms_like p.types p.functions t arms s scope ≡ Some u → (t ≡ Some u)
      × EachArm arms
  each_like t [] h = (h, tt)
  each_like t (arm ∷ arms) h =
      let here = arm_sort p.types p.functions arm s scope in
      let rest = each_like (alike t here) arms h in
      let both = alike_are t here u rest.0 in
      (both.0, (both.1, rest.1))

  pub each_arm : (arms : List Arm) → arms_sort p.types p.functions arms s scope ≡ Some u → EachArm arms
  each_arm [] h = cc
  each_arm (arm ∷ arms) h = each_like (arm_sort p.types p.functions arm s scope) arms h

module _ (p : Program) (i : ℕ) where
  -- what holds of a value that reaches the cases with these unguarded patterns: one fits, or the match's check is one
  -- of function number i
  abbrev pub MayReach : Option CheckId → List Pattern → Value → Type 0
  MayReach None patterns v = fits_one patterns v ≡ true
  MayReach (Some c) patterns v = IsCheckOf p i c.0

  pub reaches_first : (s : Sort) (patterns : List Pattern) (check : Option CheckId)
      → IsMet p i (matching s patterns check) → (v : Value) → Has p.types.ctors s v → MayReach check patterns v
  reaches_first s patterns None met v has = met.carries.0 refl v has
  reaches_first s patterns (Some c) met v has = met.own

  pub reaches_next : (check : Option CheckId) (guard : Option Expr) (pattern : Pattern) (rest : List Pattern)
      (v : Value) → IsMissed guard pattern v → MayReach check (unless_guarded guard pattern rest) v
      → MayReach check rest v
  reaches_next None None pattern rest v missed may = or_rest (fits pattern v) (fits_one rest v)
      (or_parts (fits pattern v) false missed).0 may
  reaches_next None (Some guard) pattern rest v missed may = may
  reaches_next (Some c) guard pattern rest v missed may = may

-- what a case gives: a value of the sort, or nothing, where it is missed
abbrev pub IsTaken : Program → Sort → Type 0 → Option Value → Type 0
IsTaken p u missed None = missed
IsTaken p u missed (Some v) = Has p.types.ctors u v

module _ (p : Program) (D : Type 0) (i : ℕ) (u : Sort) (missed : Type 0) where
  -- the next case where this one gives nothing
  pub or_next_fine : (o : Option Value) (next : Part Value) → IsTaken p u missed o → (missed → IsSorted p D i u next)
      → IsSorted p D i u (or_next o next)
  or_next_fine None next h k = k h
  or_next_fine (Some v) next h k = fine_value h

  -- the body's value where the guard is true, and nothing where it is false
  pub taken_fine : (t : Bool) (body : Part Value) → IsSorted p D i u body → (t ≡ false → missed)
      → IsFine (MayStop p D i) (IsTaken p u missed) (taken t body)
  taken_fine true body h k = fine_then h (λ v has. fine_value has)
  taken_fine false body h k = fine_value (k refl)
