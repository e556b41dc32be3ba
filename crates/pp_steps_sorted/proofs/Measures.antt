-- The steps that compare measures are well sorted where both have one list of sorts.
use Rattle.std.proofs.Common.{◌≡◌, ℕ, suc, false, List, [], ◌∷◌, map, Option, Some, None, refl, sym, ◌∙◌}
use Rattle.pp_tree.specs.declared.operator.BinaryOp.TheVariants.{Equal}
use Rattle.pp_prog.specs.declared.id.CheckId.{CheckId}
use Rattle.pp_prog.specs.declared.sort.Sort.{Sort}
use Rattle.pp_prog.specs.declared.sort.Sort.TheVariants as sort
use Rattle.pp_prog.specs.declared.types.TypeTable.{TypeTable}
use Rattle.pp_steps.specs.declared.step.Step.TheVariants as steps
use Rattle.pp_steps.specs.Compile.{one}
use Rattle.pp_steps.specs.Frames.{Frame, descending, falling, lower, shaped}
use Rattle.pp_steps.specs.Piece.{asks, plain}
use Rattle.pp_steps.specs.Sorted.{Sorts}
use Rattle.pp_steps_sorted.proofs.Pieces.{AreOf, IsOf, WellSorted, demand_sorted, joined_sorted, none_sorted}
use Rattle.pp_steps_sorted.proofs.Pieces.{one_sorted, plain_sorted}
use Rattle.pp_steps_sorted.proofs.Steps.{equal_makes}

module _ (types : TypeTable) (σ : Sorts) where
  false_sorted : (k alive : ℕ) → σ alive ≡ sort.Bool
      → WellSorted types σ (IsOf types σ sort.Bool) k (one (steps.Bool false) k alive)
  false_sorted k alive a = one_sorted types σ (steps.Bool false) sort.Bool k alive (λ is. (is, is)) a

  falling_sorted : (new old : List ℕ) (k alive : ℕ) → map σ new ≡ map σ old → σ alive ≡ sort.Bool
      → WellSorted types σ (IsOf types σ sort.Bool) k (falling new old k alive)
  falling_sorted [] old k alive h a = false_sorted k alive a
  falling_sorted (x ∷ xs) [] k alive h a = false_sorted k alive a
  falling_sorted (x ∷ []) (y ∷ ys) k alive h a =
      let here : σ x ≡ σ y = cc in
      one_sorted types σ (steps.GoesDown x y) sort.Bool k alive (λ is. ((here, is), is)) a
  falling_sorted (x ∷ z ∷ xs) (y ∷ ys) k alive h a =
      let here : σ x ≡ σ y = cc in
      let rest : map σ (z ∷ xs) ≡ map σ ys = cc in
      let first = steps.GoesDown x y ∷ steps.Binary Equal x y ∷ [] in
      joined_sorted types σ k (plain first k alive) _
      (plain_sorted types σ {R = λ n. (σ n ≡ sort.Bool) × (σ (suc k) ≡ sort.Bool)} k first k alive
      (λ all.
      let same = equal_makes types σ x y (suc k) here all.1.0 in
      (((here, all.0), (same.0, tt)), (all.0, same.1), a)))
      (λ p. joined_sorted types σ _ (falling (z ∷ xs) ys _ alive) _ (falling_sorted (z ∷ xs) ys _ alive rest a)
      (λ q. plain_sorted types σ {R = IsOf types σ sort.Bool} _ (steps.Both (suc k) _ ∷ steps.Choose k k _ ∷ [])
      (suc _) alive
      (λ all.
      let down = all.1.0 ∙ p.out.0 in
      (((p.out.1, q.out, all.0), ((p.out.0, p.out.0 ∙ sym down, all.0 ∙ sym down), tt)), down, a))))

  shaped_sorted : (new old : List ℕ) (k test alive : ℕ) → map σ new ≡ map σ old → σ test ≡ sort.Bool
      → σ alive ≡ sort.Bool
      → WellSorted types σ (IsOf types σ sort.Bool) k (shaped new old k test alive)
  shaped_sorted [] [] k test alive h t a = none_sorted types σ {R = IsOf types σ sort.Bool} k test alive t a
  shaped_sorted [] (y ∷ ys) k test alive h t a = false_sorted k alive a
  shaped_sorted (x ∷ xs) [] k test alive h t a = false_sorted k alive a
  shaped_sorted (x ∷ xs) (y ∷ ys) k test alive h t a =
      let here : σ x ≡ σ y = cc in
      let rest : map σ xs ≡ map σ ys = cc in
      let first = steps.IsAlike x y ∷ steps.Both test k ∷ [] in
      joined_sorted types σ k (plain first (suc k) alive) _
      (plain_sorted types σ {R = IsOf types σ sort.Bool} k first (suc k) alive
      (λ all. (((here, all.0), ((t, all.0, all.1.0), tt)), all.1.0, a)))
      (λ p. shaped_sorted xs ys _ _ alive rest p.out a)

  lower_sorted : (new old : List ℕ) (k alive : ℕ) → map σ new ≡ map σ old → σ alive ≡ sort.Bool
      → WellSorted types σ (IsOf types σ sort.Bool) k (lower new old k alive)
  lower_sorted new old k alive h a =
      joined_sorted types σ k (falling new old k alive) _ (falling_sorted new old k alive h a)
      (λ p. shaped_sorted new old _ _ alive h p.out a)

  -- the measure values of the frame, if it has any, are of these sorts
  abbrev pub FrameOf : List Sort → Frame → Type 0
  FrameOf ss None = Unit {0}
  FrameOf ss (Some ns) = AreOf types σ ss ns

  -- where there is a check, both frames have one list of sorts
  pub descending_sorted : (asked check : Option CheckId) (olds news : List Sort) (old new : Frame) (k alive : ℕ)
      → ((c : CheckId) → check ≡ Some c → news ≡ olds) → FrameOf olds old → FrameOf news new → σ alive ≡ sort.Bool
      → WellSorted types σ (IsOf types σ sort.Bool) k (descending asked check old new k alive)
  descending_sorted asked None olds news old new k alive same o n a =
      none_sorted types σ {R = IsOf types σ sort.Bool} k alive alive a a
  descending_sorted asked (Some c) olds news None new k alive same o n a =
      none_sorted types σ {R = IsOf types σ sort.Bool} k alive alive a a
  descending_sorted asked (Some c) olds news (Some old) None k alive same o n a =
      none_sorted types σ {R = IsOf types σ sort.Bool} k alive alive a a
  descending_sorted asked (Some c) olds news (Some old) (Some new) k alive same o n a =
      joined_sorted types σ k (lower new old k alive) _
      (lower_sorted new old k alive (n ∙ same c refl ∙ sym o) a)
      (λ p. demand_sorted types σ (asks asked (Some c)) _ _ _ p.alive p.out)
