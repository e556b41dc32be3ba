-- The forms of expressions: their steps are well sorted where those of their parts are.
use Rattle.std.proofs.Common.{◌≡◌, ℕ, zero, suc, List, [], ◌∷◌, ◌++◌, map, Option, Some, slice_get, refl, sym, ◌∙◌}
use Rattle.std.proofs.Common.{subst, append_assoc, append-nil}
use Rattle.std.specs.Prelude.{slice_index_or}
use Rattle.pp_prog.specs.declared.id.CheckId.{CheckId}
use Rattle.pp_prog.specs.declared.id.CtorId.{CtorId}
use Rattle.pp_prog.specs.declared.sort.Sort.{Sort}
use Rattle.pp_prog.specs.declared.sort.Sort.TheVariants as sort
use Rattle.pp_prog.specs.declared.types.Ctor.{Ctor}
use Rattle.pp_prog.specs.declared.types.TypeTable.{TypeTable}
use Rattle.pp_steps.specs.declared.step.Step.{Step}
use Rattle.pp_steps.specs.declared.step.Step.TheVariants as steps
use Rattle.pp_steps.specs.Compile.{Compiling, all, all_from, branches, one, unless, when}
use Rattle.pp_steps.specs.Piece.{after, asks, bind, demand, possible}
use Rattle.pp_steps.specs.Sorted.{Sorts}
use Rattle.pp_steps_sorted.proofs.Pieces.{AreOf, IsOf, Makes, WellSorted, choice_sorted, demand_sorted, joined_sorted}
use Rattle.pp_steps_sorted.proofs.Pieces.{none_sorted, of_more, one_sorted, possible_sorted, unless_sorted, when_sorted}
use Rattle.pp_steps_sorted.proofs.Steps.{construct_makes}

module _ (types : TypeTable) (σ : Sorts) where
  -- in a scope of these sorts the piece has an outcome of the sort
  abbrev pub Compiles : List Sort → Sort → Compiling → Type 0
  Compiles scope s m =
      (k : ℕ) (env : List ℕ) (reach : ℕ) → AreOf types σ scope env → σ reach ≡ sort.Bool
      → WellSorted types σ (IsOf types σ s) k (m k env reach)

  pub variable_is : (env : List ℕ) (scope : List Sort) (i : ℕ) (s : Sort) → AreOf types σ scope env
      → slice_get scope i ≡ Some s → σ (slice_index_or env i 0) ≡ s
  variable_is [] [] i s e h = absurd (cc)
  variable_is [] (t ∷ ts) i s e h = absurd (cc)
  variable_is (n ∷ env) [] i s e h = absurd (cc)
  variable_is (n ∷ env) (t ∷ ts) zero s e h = let is : t ≡ s = cc in let here : σ n ≡ t = cc in here ∙ is
  variable_is (n ∷ env) (t ∷ ts) (suc i) s e h = let rest : map σ env ≡ ts = cc in variable_is env ts i s rest h

  pub val_compiles : (m n : Compiling) (scope : List Sort) (t s : Sort) → Compiles scope t m
      → Compiles (scope ++ t ∷ []) s n
      → Compiles scope s (λ k env reach. bind k (m k env reach) (λ i x alive. n i (env ++ x ∷ []) alive))
  val_compiles m n scope t s hm hn k env reach e r =
      joined_sorted types σ k (m k env reach) _ (hm k env reach e r)
      (λ w. hn _ _ _ (of_more types σ scope t env _ e w.out) w.alive)

  -- a step of the outcome
  pub map_compiles : (m : Compiling) (step : ℕ → Step) (scope : List Sort) (t s : Sort) → Compiles scope t m
      → ((k a : ℕ) → σ a ≡ t → Makes types σ s k (step a))
      → Compiles scope s (λ k env reach. bind k (m k env reach) (λ n x alive. one (step x) n alive))
  map_compiles m step scope t s hm makes k env reach e r =
      joined_sorted types σ k (m k env reach) _ (hm k env reach e r)
      (λ x. one_sorted types σ (step _) s _ _ (makes _ _ x.out) x.alive)

  branches_sorted : (a b : Compiling) (scope : List Sort) (s : Sort) → Compiles scope s a → Compiles scope s b
      → (k : ℕ) (env : List ℕ) (taken missed : ℕ) → AreOf types σ scope env → σ taken ≡ sort.Bool
      → σ missed ≡ sort.Bool
      → WellSorted types σ (IsOf types σ s) k (branches a b k env taken missed)
  branches_sorted a b scope s ha hb k env taken missed e t m =
      let x = a k env taken in
      let y = b (after k x) env missed in
      choice_sorted types σ s k taken x (possible y) t (ha k env taken e t)
      (possible_sorted types σ s (after k x) y (hb (after k x) env missed e m))

  pub if_compiles : (c a b : Compiling) (scope : List Sort) (s : Sort) → Compiles scope sort.Bool c
      → Compiles scope s a → Compiles scope s b
      → Compiles scope s (λ k env reach. bind k (c k env reach)
      (λ n x alive. bind n (when n alive x)
      (λ m taken _. bind m (unless m alive x) (λ l missed _. branches a b l env taken missed))))
  if_compiles c a b scope s hc ha hb k env reach e r =
      joined_sorted types σ k (c k env reach) _ (hc k env reach e r)
      (λ x. joined_sorted types σ _ (when _ _ _) _ (when_sorted types σ _ _ _ x.alive x.out)
      (λ w. joined_sorted types σ _ (unless _ _ _) _ (unless_sorted types σ _ _ _ x.alive x.out)
      (λ u. branches_sorted a b scope s ha hb _ env _ _ e w.out u.out)))

  pub assert_compiles : (asked check : Option CheckId) (c rest : Compiling) (scope : List Sort) (s : Sort)
      → Compiles scope sort.Bool c → Compiles scope s rest
      → Compiles scope s (λ k env reach. bind k (c k env reach)
      (λ n x alive. bind n (demand (asks asked check) n alive x) (λ m _ going. rest m env going)))
  assert_compiles asked check c rest scope s hc hr k env reach e r =
      joined_sorted types σ k (c k env reach) _ (hc k env reach e r)
      (λ x. joined_sorted types σ _ (demand (asks asked check) _ _ _) _
      (demand_sorted types σ (asks asked check) _ _ _ x.alive x.out)
      (λ d. hr _ env _ e d.alive))

  -- ---- lists

  -- each has the sort at its place, and none is left over
  abbrev pub AllCompile : List Sort → List Compiling → List Sort → Type 0
  AllCompile scope [] [] = Unit {0}
  AllCompile scope [] (t ∷ ts) = ⊥
  AllCompile scope (m ∷ ms) [] = ⊥
  AllCompile scope (m ∷ ms) (t ∷ ts) = Compiles scope t m × AllCompile scope ms ts

  all_after : (ms : List Compiling) (scope before ts : List Sort) → AllCompile scope ms ts
      → (done : List ℕ) (k : ℕ) (env : List ℕ) (reach : ℕ) → AreOf types σ before done → AreOf types σ scope env
      → σ reach ≡ sort.Bool
      → WellSorted types σ (AreOf types σ (before ++ ts)) k (all_from done ms k env reach)
  all_after [] scope before [] h done k env reach d e r =
      none_sorted types σ {R = AreOf types σ (before ++ [])} k done reach (d ∙ sym (append-nil before)) r
  all_after [] scope before (t ∷ ts) h done k env reach d e r = absurd h
  all_after (m ∷ ms) scope before [] h done k env reach d e r = absurd h
  all_after (m ∷ ms) scope before (t ∷ ts) h done k env reach d e r =
      let x = m k env reach in
      let next = all_from (done ++ x.out ∷ []) ms (after k x) env x.alive in
      joined_sorted types σ k x next (h.0 k env reach e r)
      (λ w. subst (λ ss. WellSorted types σ (AreOf types σ ss) (after k x) next) (append_assoc before (t ∷ []) ts)
      (all_after ms scope (before ++ t ∷ []) ts h.1 (done ++ x.out ∷ []) (after k x) env x.alive
      (of_more types σ before t done x.out d w.out) e w.alive))

  pub all_sorted : (ms : List Compiling) (scope ts : List Sort) → AllCompile scope ms ts
      → (k : ℕ) (env : List ℕ) (reach : ℕ) → AreOf types σ scope env → σ reach ≡ sort.Bool
      → WellSorted types σ (AreOf types σ ts) k (all ms k env reach)
  all_sorted ms scope ts h k env reach e r = all_after ms scope [] ts h [] k env reach refl e r

  pub construct_compiles : (ms : List Compiling) (scope : List Sort) (c : CtorId) (ctor : Ctor)
      → slice_get types.ctors c.0 ≡ Some ctor → AllCompile scope ms ctor.fields
      → Compiles scope (sort.Tree ctor.of)
      (λ k env reach. bind k (all ms k env reach) (λ n xs alive. one (steps.Construct c xs) n alive))
  construct_compiles ms scope c ctor is h k env reach e r =
      joined_sorted types σ k (all ms k env reach) _ (all_sorted ms scope ctor.fields h k env reach e r)
      (λ xs. one_sorted types σ (steps.Construct c _) (sort.Tree ctor.of) _ _
      (construct_makes types σ c ctor _ _ is xs.out) xs.alive)
