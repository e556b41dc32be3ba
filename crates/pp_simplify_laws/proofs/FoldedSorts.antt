-- Folded steps have the sorts of the old ones.
use Rattle.std.proofs.Common.{◌≡◌, ℕ, ◌+◌, List, [], ◌∷◌, length, map, slice_get, Some, refl, sym, ap}
use Rattle.std.proofs.Common.{◌∙◌, subst, inl, inr}
use Rattle.std.specs.Option.{option_map}
use Rattle.std.proofs.lemmas.Option.{same_Some, slice_get-map}
use Rattle.pp_prog.specs.declared.sort.Sort.{Sort}
use Rattle.pp_prog.specs.declared.types.Ctor.{Ctor}
use Rattle.pp_prog.specs.declared.types.TypeTable.{TypeTable}
use Rattle.pp_steps.proofs.Counting.{zero_plus}
use Rattle.pp_steps.specs.declared.step.Step.{Step}
use Rattle.pp_steps.specs.declared.step.Step.TheVariants as steps
use Rattle.pp_steps.specs.Compile.{number_or}
use Rattle.pp_steps.specs.Reads.{AllRead}
use Rattle.pp_steps.specs.Sorted.{AllSorted, Constructs, IsSorted, Selects, Sorts}
use Rattle.pp_simplify.specs.Folded.{Folding, folded, folded_from, next, source}
use Rattle.pp_simplify.specs.Names.{named}
use Rattle.pp_simplify.specs.Operands.{operands, renamed}
use Rattle.pp_simplify.proofs.Naming.{IsSource, named_push, source_or}
use Rattle.pp_simplify.proofs.Turns.{Reading, push_length, reading_next}
use Rattle.pp_simplify_laws.specs.Laws.{SortedFolded}
use Rattle.pp_simplify_laws.proofs.FoldedValues.{each_all}
use Rattle.pp_simplify_laws.proofs.Folds.{folded_sorted, sorted_at, sorted_push}
use Rattle.pp_simplify_laws.proofs.Forms.{sorted_renamed}

module _ (types : TypeTable) (σ : Sorts) where
  -- the field that is selected is the one that was made
  field_sorted : (made selected : Ctor) (fields : List ℕ) (place m : ℕ) (t : Sort) → made ≡ selected
      → map σ fields ≡ made.fields → slice_get selected.fields place ≡ Some t → slice_get fields place ≡ Some m
      → σ m ≡ t
  field_sorted made selected fields place m t same are is at =
      same_Some (σ m) t (sym (slice_get-map σ fields place ∙ ap (option_map σ) at)
      ∙ ap (λ l. slice_get l place) are ∙ ap (λ (c : Ctor). slice_get c.fields place) same ∙ is)

  -- a step has the sort of its source
  pub source_sorted : (news : List Step) → AllSorted types σ 0 news → (t : Step) (m : ℕ) (v : Sort)
      → IsSorted types σ t v → IsSource news t m → σ m ≡ v
  source_sorted news all t m v sorted (inl h) =
      let is : IsSorted types σ (steps.Choose h.test m m) v = subst (λ x. IsSorted types σ x v) h.is sorted in is.1
  source_sorted news all t m v sorted (inr h) =
      let selects : Selects types σ h.ctor h.place h.operand v = subst (λ x. IsSorted types σ x v) h.is sorted in
      let made : Constructs types σ h.made h.fields (σ (0 + h.operand)) =
      sorted_at types σ 0 news h.operand (steps.Construct h.made h.fields) all h.at in
      field_sorted made.ctor selects.ctor h.fields h.place m v
      (same_Some made.ctor selects.ctor (sym made.stands ∙ ap (slice_get types.ctors) (sym h.same) ∙ selects.stands))
      made.fields selects.field h.there

  -- what stands in the place of a step has the same sort
  pub next_sorted : (f : Folding) (s : Step) (v : Sort) → SortedFolded types σ f → IsSorted types σ s v
      → IsSorted types σ (folded f.steps (renamed (named f.names) s)) v
  next_sorted f s v h sorted =
      folded_sorted types σ f.steps h.sorted (renamed (named f.names) s) v
      (sorted_renamed (named f.names) types σ σ s v
      (each_all (λ a. σ (named f.names a) ≡ σ a) (operands s) h.same) sorted)

  pub sorted_next : (f : Folding) (s : Step) → Reading f → SortedFolded types σ f
      → IsSorted types σ s (σ (length f.steps)) → SortedFolded types σ (next f s)
  sorted_next f s reading h sorted =
      let k = length f.steps in
      let t = folded f.steps (renamed (named f.names) s) in
      let is = next_sorted f s (σ k) h sorted in
      record {
        sorted = sorted_push types σ 0 f.steps t h.sorted
            (subst (λ n. IsSorted types σ t (σ n)) (sym (zero_plus k)) is);
        same = named_push (λ i n. σ n ≡ σ i) f.names (source f.steps t) h.same
            (subst (λ n. σ (number_or n (source f.steps t)) ≡ σ n) (sym reading.many)
            (source_or f.steps (λ n. σ n ≡ σ k) k t refl
            (λ n o. source_sorted f.steps h.sorted t n (σ k) is o)));
      }

  pub sorted_from : (f : Folding) (ss : List Step) → Reading f → AllRead (length f.steps) ss → SortedFolded types σ f
      → AllSorted types σ (length f.steps) ss → SortedFolded types σ (folded_from f ss)
  sorted_from f [] reading reads h sorted = h
  sorted_from f (s ∷ ss) reading reads h sorted =
      let next_many = sym (push_length f.steps (folded f.steps (renamed (named f.names) s))) in
      sorted_from (next f s) ss (reading_next f s reading reads.0)
      (subst (λ n. AllRead n ss) next_many reads.1) (sorted_next f s reading h sorted.0)
      (subst (λ n. AllSorted types σ n ss) next_many sorted.1)
