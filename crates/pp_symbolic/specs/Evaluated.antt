-- When the steps of a run can be performed over a domain, and what is left of them: the symbols of the arguments, and
-- the literal of the step that is asked for. Source: own.
use Rattle.std.specs.Prelude.{◌≡◌, ◌≤◌, ◌<◌, ◌^◌, ℕ, ◌+◌, Bool, List, ◌++◌, Some, All, IsTrue, length, map, slice_get}
use Rattle.std.specs.Prelude.{sum}
use Rattle.std.specs.List.{list_all}
use Rattle.pp_prog.specs.declared.sort.Sort.{Sort}
use Rattle.pp_prog.specs.declared.sort.Sort.TheVariants as sort
use Rattle.pp_prog.specs.declared.types.TypeTable.{TypeTable}
use Rattle.pp_prog.specs.declared.value.Value.{Value}
use Rattle.pp_prog.specs.Sizes.{height_at}
use Rattle.pp_prog.specs.Sorts.{have_sorts}
use Rattle.pp_prog.specs.Table.{is_sort}
use Rattle.pp_gate.specs.declared.gate.Gate.{Gate}
use Rattle.pp_gate.specs.Circuit.{IsOf}
use Rattle.pp_domain.specs.declared.symbol.Symbol.{Symbol}
use Rattle.pp_domain.specs.declared.symbol.Symbol.TheVariants as symbol
use Rattle.pp_domain.specs.Naming.{Naming}
use Rattle.pp_domain.specs.Sense.{Sense, Good, Extended}
use Rattle.pp_domain.specs.Symbols.{AreSymbols, SymbolsStand}
use Rattle.pp_steps.specs.declared.step.Step.{Step}
use Rattle.pp_steps.specs.Frames.{numbers, open_step}
use Rattle.pp_steps.specs.Gates.{AllHigh, Heights, all_gates, open_gates}
use Rattle.pp_steps.specs.Known.{AllTell}
use Rattle.pp_steps.specs.Meaning.{Missing, Obeys, Values}
use Rattle.pp_steps.specs.Reads.{AllRead}
use Rattle.pp_steps.specs.Sorted.{AllSorted, Sorts}
use Rattle.pp_steps_run.specs.Told.{AreValues}
use Rattle.pp_build.specs.Registers.{IsKnown}
use Rattle.pp_build.specs.Unknown.{AreUpTo, StandUpTo}
use Rattle.pp_symbolic.specs.declared.frame.Frame.{Frame}

-- The steps begin with the arguments, whose sorts are these, look at earlier ones, and have sorts; the step that is
-- asked for is a truth value; and there is room for all of them, where the arguments have the asked height.
pub record CanEvaluate (types : TypeTable) (gs : List Gate) (params : List Sort) (depth : ℕ) (steps : List Step)
    (asked most : ℕ)
    : Type 0 where
  pub sorts : Sorts
  pub heights : Heights
  pub rest : List Step
  pub split : steps ≡ map open_step params ++ rest
  pub reads : AllRead 0 steps
  pub sorted : AllSorted types sorts 0 steps
  pub arguments : map sorts (numbers 0 params) ≡ params
  pub truth : sorts asked ≡ sort.Bool
  pub stands : asked < length steps
  pub in_range : IsTrue (list_all (is_sort types.datatypes) params)
  pub some_depth : 1 ≤ depth
  pub tall : (k : ℕ) (s : Sort) → slice_get params k ≡ Some s → heights k ≡ height_at depth s
  pub high : AllHigh types sorts heights (length params) rest
  pub few : sum (map (open_gates types depth) params) + all_gates types sorts heights (length params) rest ≤ most
  pub room : length gs + most ≤ 2 ^ 30

module _ {D T : Type 0} (m : Sense D T) (types : TypeTable) where
  -- what is known of all steps, by their registers, under an assignment and where values obey the steps
  pub record AllKnown (e : D) (a : ℕ → Bool) (n : Naming) (σ : Sorts) (ρ : Values) (params : List Sort)
      (steps : List Step) (rs : List (Symbol T)) : Type 0 where
    pub tell : AllTell ρ (IsKnown m types e a n σ ρ rs) 0 steps
    pub arguments : All (IsKnown m types e a n σ ρ rs) (numbers 0 params)

  -- the registers of the steps, from the arguments on
  pub record IsEvaluated (d : D) (gs : List Gate) (params : List Sort) (depth : ℕ) (steps : List Step) (asked : ℕ)
      (σ : Sorts) (e : D) (hs : List Gate) (frame : Frame T) : Type 0 where
    pub ok : frame.circuit_ok ≡ m.ok e
    pub ok_of : IsOf hs (m.ok e)
    pub fails_of : IsOf hs frame.fails
    pub symbols : AreSymbols m e hs params frame.arguments
    -- the arguments stand for values up to the depth, and can stand for any
    pub bounded : (n : Naming) (a : ℕ → Bool) → Good m types e hs n a
        → StandUpTo m types e a n params depth frame.arguments
    pub chosen : (n : Naming) (a : ℕ → Bool) (vs : List Value) → Good m types d gs n a → AreUpTo types params depth vs
        → (x : Extended m types gs n a e hs) × SymbolsStand m e x.next n frame.arguments vs
    -- the literal is that of the step that is asked for
    pub registers : List (Symbol T)
    pub fails : slice_get registers asked ≡ Some (symbol.Bit frame.fails)
    pub known : (n : Naming) (a : ℕ → Bool) (ρ : Values) (missing : Missing) (vs : List Value) → Good m types e hs n a
        → Obeys types.ctors missing ρ 0 steps → SymbolsStand m e a n frame.arguments vs
        → IsTrue (have_sorts types.ctors vs params) → AreValues ρ (numbers 0 params) vs
        → AllKnown e a n σ ρ params steps registers
