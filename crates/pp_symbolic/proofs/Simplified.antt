-- Folded and pruned steps can be performed where the old ones can.
use Rattle.std.proofs.Common.{◌≡◌, ℕ, zero, suc, ◌+◌, ◌≤◌, ◌<◌, List, [], ◌∷◌, length, map}
use Rattle.std.proofs.Common.{Some, None, refl, sym, ap, ◌∙◌, subst, arith, length-append}
use Rattle.std.specs.Prelude.{slice_get, sum, All, if◌then◌else◌}
use Rattle.std.proofs.lemmas.List.{length-map}
use Rattle.std.proofs.lemmas.List.Elements.{All-cons, All-head, All-nil, All-tail}
use Rattle.std.proofs.lemmas.Option.{same_Some, slice_get_within}
use Rattle.pp_prog.specs.declared.sort.Sort.{Sort}
use Rattle.pp_prog.specs.declared.sort.Sort.TheVariants as sort
use Rattle.pp_prog.specs.declared.types.TypeTable.{TypeTable}
use Rattle.pp_prog.specs.declared.value.Value.{Value}
use Rattle.pp_prog.specs.Sizes.{height_at}
use Rattle.pp_gate.specs.declared.gate.Gate.{Gate}
use Rattle.pp_steps.proofs.Counting.{add_suc, plus_zero}
use Rattle.pp_steps.specs.declared.step.Step.{Step}
use Rattle.pp_steps.specs.Frames.{numbers, open_step}
use Rattle.pp_steps.specs.Gates.{open_gates}
use Rattle.pp_steps.specs.Meaning.{Values}
use Rattle.pp_steps.specs.Sorted.{Sorts}
use Rattle.pp_steps_run.specs.Told.{AreValues}
use Rattle.pp_simplify.specs.Folded.{all_folded}
use Rattle.pp_simplify.specs.Marks.{is_marked}
use Rattle.pp_simplify.specs.Names.{named}
use Rattle.pp_simplify.specs.Pruned.{IsPruned}
use Rattle.pp_simplify_laws.specs.Kept.{kept_heights, kept_sorts}
use Rattle.pp_simplify_laws.specs.Laws.{AreLevel}
use Rattle.pp_simplify_laws.proofs.FoldLaws.{folded_fit, folded_last, folded_read, folded_sorted}
use Rattle.pp_simplify_laws.proofs.Laws.{pruned_fit, pruned_keep, pruned_last, pruned_read, pruned_sorted}
use Rattle.pp_symbolic.specs.Evaluated.{CanEvaluate}

-- ---- what is the same of the first numbers

-- the functions agree on the numbers from k on, as many as the list has
abbrev AgreeFrom : {X Y : Type 0} → (ℕ → X) → (ℕ → X) → ℕ → List Y → Type 0
AgreeFrom f g k ys = (i : ℕ) → i < k + length ys → g i ≡ f i

less_end : (k n : ℕ) → k < k + suc n
less_end k n = omega arith

less_next : (i k n : ℕ) → i < suc k + n → i < k + suc n
less_next i k n h = omega arith

map_first : {X Y : Type 0} (f g : ℕ → X) (k : ℕ) (ys : List Y) → AgreeFrom f g k ys
    → map g (numbers k ys) ≡ map f (numbers k ys)
map_first f g k [] e = refl
map_first f g k (y ∷ ys) e =
    ap (λ x. x ∷ map g (numbers (suc k) ys)) (e k (less_end k (length ys)))
    ∙ ap (λ l. f k ∷ l) (map_first f g (suc k) ys (λ i lt. e i (less_next i k (length ys) lt)))

pub values_first : {Y : Type 0} (ρ τ : Values) (k : ℕ) (ys : List Y) (vs : List Value) → AgreeFrom ρ τ k ys
    → AreValues ρ (numbers k ys) vs → AreValues τ (numbers k ys) vs
values_first ρ τ k [] [] e are = tt
values_first ρ τ k [] (v ∷ vs) e are = are
values_first ρ τ k (y ∷ ys) [] e are = are
values_first ρ τ k (y ∷ ys) (v ∷ vs) e are = (
  e k (less_end k (length ys)) ∙ are.0,
  values_first ρ τ (suc k) ys vs (λ i lt. e i (less_next i k (length ys) lt)) are.1,
)

pub known_first : {Y : Type 0} (K J : ℕ → Type 0) (k : ℕ) (ys : List Y) → ((i : ℕ) → i < k + length ys → K i → J i)
    → All K (numbers k ys) → All J (numbers k ys)
known_first K J k [] go all = All-nil J
known_first K J k (y ∷ ys) go all =
    All-cons J k (numbers (suc k) ys) (go k (less_end k (length ys)) (All-head K k (numbers (suc k) ys) all))
    (known_first K J (suc k) ys (λ i lt. go i (less_next i k (length ys) lt)) (All-tail K k (numbers (suc k) ys) all))

zero_plus : (i n : ℕ) → i < 0 + n → i < n
zero_plus i n h = omega arith

few_more : (a b c n : ℕ) → b ≤ c → a + c ≤ n → a + b ≤ n
few_more a b c n h g = omega arith

no_later : {a b n m : ℕ} → a ≤ b → b < n → m ≡ n → a < m
no_later h l e = omega arith

plus_none : (k : ℕ) → k ≡ 0 + k
plus_none k = omega arith

some_at : {X : Type 0} (xs : List X) (k : ℕ) → k < length xs → (x : X) × (slice_get xs k ≡ Some x)
some_at [] k lt = absurd (omega arith)
some_at (x ∷ xs) zero lt = (x, refl)
some_at (x ∷ xs) (suc k) lt = some_at xs k (omega arith)

-- the sort of a numbered step
sort_at : {Y : Type 0} (σ : Sorts) (j : ℕ) (ys : List Y) (ss : List Sort) (k : ℕ) (s : Sort) → map σ (numbers j ys) ≡ ss
    → slice_get ss k ≡ Some s → σ (j + k) ≡ s
sort_at σ j [] ss k s e at = absurd (let none : slice_get ss k ≡ None = ap (λ l. slice_get l k) (sym e) in cc)
sort_at σ j (y ∷ ys) ss zero s e at =
    ap σ (plus_zero j) ∙ same_Some (σ j) s (ap (λ l. slice_get l 0) e ∙ at)
sort_at σ j (y ∷ ys) ss (suc k) s e at =
    ap σ (add_suc j k)
    ∙ sort_at σ (suc j) ys (map σ (numbers (suc j) ys)) k s refl (ap (λ l. slice_get l (suc k)) e ∙ at)

level_at : (h : ℕ) (s : Sort) → height_at h s ≡ height_at (height_at h s) s
level_at h sort.Int = refl
level_at h sort.Bool = refl
level_at h (sort.Tree d) = refl

-- ---- the steps

module _ (types : TypeTable) (gs : List Gate) (params : List Sort) (depth : ℕ) (old : List Step) (asked most : ℕ)
    (can : CanEvaluate types gs params depth old asked most)
  where
    -- the arguments are among the steps
    pub arguments_stand : length params ≤ length old
    arguments_stand =
        let e = ap length can.split ∙ length-append (map open_step params) can.rest in
        let n = length-map params open_step in omega arith

    -- an argument is as high as a value of its sort
    arguments_level : AreLevel can.sorts can.heights (length params)
    arguments_level k lt =
        let here = some_at params k lt in
        let tall = can.tall k here.0 here.1 in
        let is = sort_at can.sorts 0 params params k here.0 can.arguments here.1 in
        tall ∙ level_at depth here.0
        ∙ ap (λ s. height_at (height_at depth here.0) s) (sym (ap can.sorts (plus_none k) ∙ is))
        ∙ ap (λ h. height_at h (can.sorts k)) (sym tall)

    pub can_folded : CanEvaluate types gs params depth (all_folded old).steps (named (all_folded old).names asked) most
    can_folded =
        let fit = folded_fit old params can.rest can.split can.reads types can.sorts can.heights can.sorted
        arguments_level can.high in
        let last = folded_last old can.reads in
        let sorted = folded_sorted old can.reads types can.sorts can.sorted in
        record {
          sorts = can.sorts;
          heights = fit.heights;
          rest = fit.steps;
          split = fit.split;
          reads = folded_read old can.reads;
          sorted = sorted.sorted;
          arguments = can.arguments;
          truth = sorted.same asked ∙ can.truth;
          stands = no_later (last.low asked) can.stands last.many;
          in_range = can.in_range;
          some_depth = can.some_depth;
          tall = λ k s at. fit.front k (slice_get_within params k s at) ∙ can.tall k s at;
          high = fit.high;
          few = few_more (sum (map (open_gates types depth) params)) _ _ most fit.few can.few;
          room = can.room;
        }

    module _ (new : List Step) (is : IsPruned (length params) asked old new) where
      pub can_pruned : CanEvaluate types gs params depth new asked most
      can_pruned =
          let kept = is_marked is.marks in
          let are = pruned_keep (length params) asked old new is in
          let fit = pruned_fit (length params) asked old new is params can.rest refl can.split types can.sorts
          can.heights
          can.high in
          let last = pruned_last (length params) asked old new is in
          record {
            sorts = kept_sorts kept can.sorts;
            heights = kept_heights kept can.heights;
            rest = fit.steps;
            split = fit.split;
            reads = pruned_read (length params) asked old new is can.reads;
            sorted = pruned_sorted (length params) asked old new is types can.sorts can.sorted;
            arguments = map_first can.sorts (kept_sorts kept can.sorts) 0 params
                (λ i lt. ap (λ b. if b then can.sorts i else sort.Bool) (are.front i (zero_plus i (length params) lt)))
                ∙ can.arguments;
            truth = ap (λ b. if b then can.sorts asked else sort.Bool) are.target ∙ can.truth;
            stands = subst (λ n. asked < n) (sym last) can.stands;
            in_range = can.in_range;
            some_depth = can.some_depth;
            tall = λ k s at.
                ap (λ b. if b then can.heights k else 0) (are.front k (slice_get_within params k s at))
                ∙ can.tall k s at;
            high = fit.high;
            few = few_more (sum (map (open_gates types depth) params)) _ _ most fit.few can.few;
            room = can.room;
          }
