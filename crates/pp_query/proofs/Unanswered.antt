-- Where no open call has an answer, the values that follow from chosen ones have the sorts of the steps.
use Rattle.std.proofs.Common.{◌≡◌, ◌<◌, ℕ, suc, ◌+◌, true, List, [], ◌∷◌, length, None, arith}
use Rattle.pp_prog.specs.declared.id.CtorId.{CtorId}
use Rattle.pp_prog.specs.declared.types.TypeTable.{TypeTable}
use Rattle.pp_prog.specs.declared.value.Value.{Value}
use Rattle.pp_prog.specs.Table.{is_sort}
use Rattle.pp_prog.proofs.ValueSorts.{Has}
use Rattle.pp_steps.specs.declared.step.Step.{Step}
use Rattle.pp_steps.specs.declared.step.Step.TheVariants as steps
use Rattle.pp_steps.specs.Meaning.{Missing, Values}
use Rattle.pp_steps.specs.Reads.{AllRead, Reads}
use Rattle.pp_steps.specs.Sorted.{AllSorted, IsSorted, Sorts}
use Rattle.pp_steps_exist.proofs.Solve.{set, solved, value}
use Rattle.pp_demand_steps.specs.Laws.{AnswersAlike}
use Rattle.pp_guess_steps.specs.Laws.{AnswersHaveSorts, FieldsHaveSorts}
use Rattle.pp_guess_steps.proofs.Labels.{IsLabelled}
use Rattle.pp_guess_steps.proofs.SolvedSorted.{solved_have}

-- no open call has an answer, and these values stand for missing fields
abbrev pub unanswered : (CtorId → ℕ → Value) → Missing
unanswered field = record { field = field; answer = λ wait g params result args. None }

-- so no two have different ones
pub never_answered : (field : CtorId → ℕ → Value) → AnswersAlike (unanswered field)
never_answered field w v g params result args x y one other = absurd (cc)

module _ (types : TypeTable) (field : CtorId → ℕ → Value) (chosen : Values) (σ : Sorts)
    (fields : FieldsHaveSorts types (unanswered field))
    (choices : (k : ℕ) → is_sort types.datatypes (σ k) ≡ true → Has types.ctors (σ k) (chosen k)) where
  -- the values before number k have their sorts
  abbrev HaveBefore : ℕ → Values → Type 0
  HaveBefore k ρ = (i : ℕ) → i < k → Has types.ctors (σ i) (ρ i)

  abbrev Solved : ℕ → List Step → Values → Values
  Solved = solved types.ctors (unanswered field) chosen

  none_answered : AnswersHaveSorts types [] (unanswered field)
  none_answered wait g args v is have = cc

  -- after a step that is no call, or as good as none
  after_one : (k : ℕ) (s : Step) (ρ : Values) → Reads k s → IsSorted types σ s (σ k) → IsLabelled [] s
      → HaveBefore k ρ → HaveBefore (suc k) (Solved k (s ∷ []) ρ)
  after_one k s ρ r h l all i lt =
      solved_have types [] (unanswered field) chosen σ fields none_answered choices k (s ∷ []) ρ (r, tt) (h, tt)
      (l, tt) all i (omega (arith, lt))

  after_step : (k : ℕ) (s : Step) (ρ : Values) → Reads k s → IsSorted types σ s (σ k) → HaveBefore k ρ
      → HaveBefore (suc k) (Solved k (s ∷ []) ρ)
  after_step k (steps.Open s) ρ r h all = after_one k (steps.Open s) ρ r h tt all
  after_step k (steps.Int n) ρ r h all = after_one k (steps.Int n) ρ r h tt all
  after_step k (steps.Bool b) ρ r h all = after_one k (steps.Bool b) ρ r h tt all
  after_step k (steps.Not a) ρ r h all = after_one k (steps.Not a) ρ r h tt all
  after_step k (steps.Both a b) ρ r h all = after_one k (steps.Both a b) ρ r h tt all
  after_step k (steps.Choose c a b) ρ r h all = after_one k (steps.Choose c a b) ρ r h tt all
  after_step k (steps.Unary op a) ρ r h all = after_one k (steps.Unary op a) ρ r h tt all
  after_step k (steps.Binary op a b) ρ r h all = after_one k (steps.Binary op a b) ρ r h tt all
  after_step k (steps.Construct c ns) ρ r h all = after_one k (steps.Construct c ns) ρ r h tt all
  after_step k (steps.IsCtor c n a) ρ r h all = after_one k (steps.IsCtor c n a) ρ r h tt all
  after_step k (steps.CtorField c i a) ρ r h all = after_one k (steps.CtorField c i a) ρ r h tt all
  after_step k (steps.Field a i) ρ r h all = after_one k (steps.Field a i) ρ r h tt all
  after_step k (steps.IsAlike a b) ρ r h all = after_one k (steps.IsAlike a b) ρ r h tt all
  after_step k (steps.GoesDown a b) ρ r h all = after_one k (steps.GoesDown a b) ρ r h tt all
  -- it has none, and its answer is any value
  after_step k (steps.HasAnswer c) ρ r h all = after_one k (steps.Bool _) ρ tt h.2 tt all
  after_step k (steps.Answer c) ρ r h all = after_one k (steps.Open c.result) ρ tt (h.1, h.2) tt all

  pub solved_sorted : (k : ℕ) (ss : List Step) (ρ : Values) → AllRead k ss → AllSorted types σ k ss → HaveBefore k ρ
      → HaveBefore (k + length ss) (Solved k ss ρ)
  solved_sorted k [] ρ r h all i lt = all i (omega (arith, lt))
  solved_sorted k (s ∷ ss) ρ r h all i lt =
      solved_sorted (suc k) ss (set ρ k (value types.ctors (unanswered field) chosen ρ k s)) r.1 h.1
      (after_step k s ρ r.0 h.0 all) i (omega (arith, lt))
