-- Where a guess run fails the check, there are values with their sorts that say so, and a naming that a domain admits
-- names them all.
use Rattle.std.proofs.Common.{◌≡◌, ◌≤◌, ◌<◌, ℕ, ◌+◌, ◌*◌, true, List, [], ◌∷◌, ◌++◌, map, All, Some, length}
use Rattle.std.proofs.Common.{slice_get, refl, sym}
use Rattle.std.specs.List.{sum_by}
use Rattle.std.proofs.lemmas.List.{append-nil}
use Rattle.std.proofs.Common.{ap, ◌∙◌, subst, arith}
use Rattle.std.proofs.Math.Logic.{∥∥₁_map}
use Rattle.std.proofs.lemmas.Option.{same_Some, slice_get_within}
use Rattle.pp_prog.specs.declared.expr.Function.{Function}
use Rattle.pp_prog.specs.declared.id.CheckId.{CheckId}
use Rattle.pp_prog.specs.declared.id.CtorId.{CtorId}
use Rattle.pp_prog.specs.declared.program.Program.{Program}
use Rattle.pp_prog.specs.declared.sort.Sort.{Sort}
use Rattle.pp_prog.specs.declared.sort.Sort.TheVariants as sort
use Rattle.pp_prog.specs.declared.types.TypeTable.{TypeTable}
use Rattle.pp_prog.specs.declared.value.Value.{Value}
use Rattle.pp_prog.specs.Sorts.{param_sorts}
use Rattle.pp_prog.specs.Table.{HaveValues, is_sort}
use Rattle.pp_prog.proofs.ValueSorts.{Has}
use Rattle.pp_sound.specs.Sound.{IsCalled}
use Rattle.pp_guess_runs.specs.Answers.{Answering, IsAnswering}
use Rattle.pp_guess_runs.specs.Guess.{fails, guess}
use Rattle.pp_induction.specs.Ends.{GuessFails}
use Rattle.pp_domain.specs.Laws.{AdmittedFor}
use Rattle.pp_domain.specs.Naming.{IsDefault, Names, NamesAll, NamesFields, Naming}
use Rattle.pp_domain.specs.Sense.{Sense}
use Rattle.pp_steps.proofs.Counting.{zero_plus}
use Rattle.pp_steps.specs.declared.step.Step.{Step}
use Rattle.pp_steps.specs.declared.step.Step.TheVariants as steps
use Rattle.pp_steps.specs.Guesses.{guess_steps}
use Rattle.pp_steps.specs.Meaning.{Missing, Values}
use Rattle.pp_steps.specs.Sorted.{Selects}
use Rattle.pp_steps_run.specs.Told.{AreValues}
use Rattle.pp_build.specs.Followed.{AreNamed, LooksNamed}
use Rattle.pp_build.proofs.StepLists.{sorted_at}
use Rattle.pp_guess_steps.specs.Laws.{HaveGuessSorts, IsSortedGuess}
use Rattle.pp_guess_steps.proofs.Laws.{guesses_suppose}
use Rattle.pp_guess_steps.proofs.Existing.{guesses_read}
use Rattle.pp_guess_values.specs.NamedGuess.{IsNamedGuess, IsShort, all_looked_at, fields_at, looked_at}
use Rattle.pp_guess_values.proofs.Arguments.{arguments_are_steps, holds_of_values}
use Rattle.pp_guess_values.proofs.Defaults.{default_field, default_field_is, default_of}
use Rattle.pp_guess_values.proofs.Failing.{field_sort_stands, own_missing, sorted_values}
use Rattle.pp_guess_values.proofs.Listing.{all_fields, each_look, each_value, few_listed, first_is_default, listed}
use Rattle.pp_guess_values.proofs.Looking.{field_was_asked, guess_looks_before}
use Rattle.pp_guess_values.proofs.OwnFields.{has_few_fields, tree_fields}

-- for each list of fewer values than the domain's limit there is a naming, as the laws of a domain have it
abbrev pub HasNamings : {D T : Type 0} → Sense D T → TypeTable → D → Type 0
HasNamings m types d = (vs : List Value) → length vs < m.limit d → AdmittedFor m types d vs

at_most_below : (a b c : ℕ) → a ≤ b → b < c → a < c
at_most_below a b c le lt = omega (arith, le, lt)

module _ (p : Program) (f : Function) (check : CheckId) (n : ℕ)
    (run : HaveGuessSorts p.types (guess_steps p.functions f check n) (param_sorts f.params))
    (inhabited : HaveValues p.types.datatypes p.types.ctors) where
  abbrev Steps : List Step
  Steps = (guess_steps p.functions f check n).steps

  abbrev default : Sort → Value
  default = default_of p.types inhabited

  abbrev field : CtorId → ℕ → Value
  field = default_field p.types inhabited

  -- ---- values with their sorts, and a naming of all that is listed

  module _ (ρ : Values) (sorted : (k : ℕ) → k < length Steps → Has p.types.ctors (run.sorts k) (ρ k)) where
    abbrev Listed : List Value
    Listed = listed p.types inhabited run.sorts ρ Steps

    listed_is_short : (limit : ℕ) → IsShort p.types run.sorts Steps limit → length Listed < limit
    listed_is_short limit short =
        at_most_below (length Listed)
        (2 * length Steps + sum_by (fields_at short.most run.sorts) (all_looked_at Steps)) limit
        (few_listed p.types inhabited run.sorts ρ Steps (fields_at short.most run.sorts)
        (λ k lt. has_few_fields p.types.ctors short.most short.fields (run.sorts k) (ρ k) (sorted k lt))
        (guesses_read p.functions f check n).reads) short.few

    module _ (naming : Naming) (all : NamesAll p.types naming Listed) where
      value_is_named : (k : ℕ) → k < length Steps → Names p.types naming (ρ k)
      value_is_named k lt = each_value p.types inhabited run.sorts ρ Steps (Names p.types naming) all.names k lt

      are_named : AreNamed p.types naming run.sorts ρ (length Steps)
      are_named = record {
        sorted = sorted;
        named = value_is_named;
      }

      args_are_named : (args : List Value) → AreValues ρ (guess_steps p.functions f check n).arguments args
          → All (Names p.types naming) args
      args_are_named args are =
          holds_of_values (Names p.types naming) ρ (length Steps) value_is_named
          (guess_steps p.functions f check n).arguments args (arguments_are_steps p.functions f check n) are

      default_is_first : (k : ℕ) → k < length Steps → (s : Sort) → run.sorts k ≡ s
          → is_sort p.types.datatypes s ≡ true → IsDefault naming s (default s)
      default_is_first k lt sort.Int is stands = refl
      default_is_first k lt sort.Bool is stands = refl
      default_is_first k lt (sort.Tree d) is stands =
          all.firsts d (default (sort.Tree d))
          (first_is_default p.types inhabited run.sorts 0 Steps _ k d lt (ap run.sorts (zero_plus k) ∙ is)
          stands)

      module _ (missing : Missing) (same : (c : CtorId) (place : ℕ) → missing.field c place ≡ field c place) where
        field_is_default : (k : ℕ) (c : CtorId) (i a : ℕ) → slice_get Steps k ≡ Some (steps.CtorField c i a)
            → IsDefault naming (run.sorts k) (missing.field c i)
        field_is_default k c i a at =
            let made : Selects p.types run.sorts c i a (run.sorts k) =
            sorted_at p.types run.sorts 0 Steps k k (steps.CtorField c i a) run.sorted at (sym (zero_plus k)) in
            subst (IsDefault naming (run.sorts k))
            (sym (same c i
            ∙ default_field_is p.types inhabited c made.ctor i (run.sorts k) made.stands made.field))
            (default_is_first k (slice_get_within Steps k (steps.CtorField c i a) at) (run.sorts k) refl
            (field_sort_stands p c made.ctor i (run.sorts k) made.stands made.field))

        -- the fields of the tree that a step looks at, which is that of step number a
        fields_named : (k : ℕ) (s : Step) → slice_get Steps k ≡ Some s → (a : ℕ) → looked_at s ≡ a ∷ []
            → NamesFields p.types naming (ρ a)
        fields_named k s at a look c fields is =
            subst (All (Names p.types naming)) (append-nil fields)
            (subst (λ l. All (Names p.types naming) (l ++ [])) (tree_fields c fields (ρ a) is)
            (subst (λ l. All (Names p.types naming) (all_fields (map ρ l))) look
            (each_look p.types inhabited run.sorts ρ Steps (Names p.types naming) all.names k s at)))

        looks_named : (k : ℕ) (s : Step) → slice_get Steps k ≡ Some s
            → LooksNamed p.types naming run.sorts ρ missing k s
        looks_named k (steps.Open s) at = tt
        looks_named k (steps.Int z) at = tt
        looks_named k (steps.Bool b) at = tt
        looks_named k (steps.Not a) at = tt
        looks_named k (steps.Both a b) at = tt
        looks_named k (steps.Choose c a b) at = tt
        looks_named k (steps.Unary op a) at = tt
        looks_named k (steps.Binary op a b) at = tt
        looks_named k (steps.Construct c fields) at = tt
        looks_named k (steps.IsCtor c i a) at = fields_named k (steps.IsCtor c i a) at a refl
        looks_named k (steps.CtorField c i a) at =
            let asks = field_was_asked Steps (guess_looks_before p.functions f check n) k c i a at in record {
              fields = fields_named asks.number (steps.IsCtor asks.ctor asks.count a) asks.at a refl;
              default = field_is_default k c i a at;
            }
        looks_named k (steps.Field a i) at = fields_named k (steps.Field a i) at a refl
        looks_named k (steps.IsAlike a b) at = tt
        looks_named k (steps.GoesDown a b) at = tt
        looks_named k (steps.HasAnswer c) at = tt
        looks_named k (steps.Answer c) at = tt

  -- ---- a guess run that fails

  module _ {D T : Type 0} (m : Sense D T) (d : D) (namings : HasNamings m p.types d)
      (short : IsShort p.types run.sorts Steps (m.limit d)) (args : List Value) (i : ℕ)
      (called : IsCalled p i f args) (W : Answering) (answering : IsAnswering p W)
      (failed : guess p.types.ctors p.functions f check args n W ≡ fails) where
    abbrev missing : Missing
    missing = own_missing p n inhabited W

    run_values : IsSortedGuess p f check n missing args run.sorts
    run_values = sorted_values p f check n run inhabited args i called W answering

    admitted_naming : AdmittedFor m p.types d (Listed run_values.values run_values.sorted)
    admitted_naming = namings (Listed run_values.values run_values.sorted)
        (listed_is_short run_values.values run_values.sorted (m.limit d) short)

    named_guess : IsNamedGuess m d p f check n run.sorts
    named_guess =
        let ρ = run_values.values in
        let x = admitted_naming in
        record {
          args = args;
          args_sorted = called.arguments;
          missing = missing;
          values = ρ;
          guess = run_values.guess;
          supposed = guesses_suppose p.types.ctors p.functions f check args n W field ρ failed run_values.guess;
          naming = x.naming;
          admitted = x.admitted;
          reaches = x.reaches;
          args_named = args_are_named ρ run_values.sorted x.naming x.names args run_values.guess.arguments;
          are = are_named ρ run_values.sorted x.naming x.names;
          looked = looks_named ρ run_values.sorted x.naming x.names missing (λ c place. refl);
        }

-- where some guess run of round n fails the check, and fewer values have to be named than the domain's limit, there are
-- such values
pub failing_guess_is_named : {D T : Type 0} (m : Sense D T) (p : Program) (d : D) → HasNamings m p.types d
    → (i : ℕ) (f : Function) → slice_get p.functions i ≡ Some f → (check : CheckId) (n : ℕ) → GuessFails p i check n
    → (run : HaveGuessSorts p.types (guess_steps p.functions f check n) (param_sorts f.params))
    → IsShort p.types run.sorts (guess_steps p.functions f check n).steps (m.limit d)
    → ∥ IsNamedGuess m d p f check n run.sorts ∥₁
failing_guess_is_named m p d namings i f here check n wrong run short =
    let same : wrong.function ≡ f = same_Some wrong.function f (sym wrong.called.function ∙ here) in
    ∥∥₁_map p.types.inhabited (λ inhabited. named_guess p f check n run inhabited m d namings short wrong.args i
    (subst (λ g. IsCalled p i g wrong.args) same wrong.called) wrong.answers wrong.answering
    (subst (λ g. guess p.types.ctors p.functions g check wrong.args n wrong.answers ≡ fails) same wrong.failed))
