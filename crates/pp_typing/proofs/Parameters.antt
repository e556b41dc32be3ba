-- Parameters with their sorts, one at a time.
use Rattle.std.proofs.Common.{◌≡◌, ◌∙◌, ℕ, zero, suc, ◌+◌, ◌<◌, List, [], ◌∷◌, ◌++◌, length, map, drop, get_or}
use Rattle.std.proofs.Common.{Some, None, refl, sym, ap, append_assoc}
use Rattle.std.proofs.lemmas.List.{append-nil, drop_more, map-append}
use Rattle.std.proofs.lemmas.Option.{get_or_from_slice_get, slice_get_within}
use Rattle.std.proofs.Math.Seq.{drop-nil}
use Rattle.std.specs.Prelude.{slice_get}
use Rattle.pp_rules.specs.Bodies.{param_scope, typed_params}
use Rattle.pp_rules.specs.Scope.{Scope}
use Rattle.pp_tree.specs.declared.class.Param.{Param}
use Rattle.pp_tree.specs.Plain.{Word, ParamTree}
use Rattle.pp_tree.specs.Shown.{param_of}
use Rattle.pp_typed.specs.declared.sort.GenericSort.{GenericSort}
use Rattle.pp_typed.specs.declared.typed.TypedParam.{TypedParam}
use Rattle.pp_typing.specs.declared.scope.Local.{Local}
use Rattle.pp_typing.specs.Views.{scope_of, shown}

absent : {X : Type 0} (xs : List X) (i : ℕ) → slice_get xs i ≡ None → drop i xs ≡ []
absent [] i e = drop-nil i
absent (x ∷ xs) zero e = cc
absent (x ∷ xs) (suc i) e = absent xs i e

present : {X : Type 0} (xs : List X) (i : ℕ) (x : X) → slice_get xs i ≡ Some x → drop i xs ≡ x ∷ drop (i + 1) xs
present xs i x e =
    drop_more xs i x (slice_get_within xs i x e) ∙ ap (λ y. y ∷ drop (i + 1) xs) (get_or_from_slice_get xs i x x e)

without_sorts : (ps : List ParamTree) → typed_params ps [] ≡ []
without_sorts [] = refl
without_sorts (p ∷ ps) = refl

-- the parameters from a place on
abbrev params_from : List Param → List GenericSort → ℕ → List TypedParam
params_from ps ss i = typed_params (map param_of (drop i ps)) (drop i ss)

abbrev typed_param : Param → GenericSort → TypedParam
typed_param p s = record { name = p.name.now; of = s }

module _ (ps : List Param) (ss : List GenericSort) (i : ℕ) where
  pub from_turn : (p : Param) (s : GenericSort) → i < length ps → slice_get ss i ≡ Some s
      → params_from ps ss i ≡ typed_param (get_or ps i p) s ∷ params_from ps ss (i + 1)
  from_turn p s lt e =
      ap (λ l. typed_params (map param_of l) (drop i ss)) (drop_more ps i p lt)
      ∙ ap (typed_params (map param_of (get_or ps i p ∷ drop (i + 1) ps))) (present ss i s e)

  pub from_end : slice_get ss i ≡ None → params_from ps ss i ≡ []
  from_end e = ap (typed_params (map param_of (drop i ps))) (absent ss i e) ∙ without_sorts (map param_of (drop i ps))

  pub params_turn : (whole done more : List TypedParam) (p : Param) (n : Word) (of s : GenericSort) → i < length ps
      → slice_get ss i ≡ Some s → whole ≡ done ++ params_from ps ss i → n ≡ (get_or ps i p).name.now → of ≡ s
      → more ≡ done ++ record { name = n; of = of } ∷ [] → whole ≡ more ++ params_from ps ss (i + 1)
  params_turn whole done more p n of s lt e is named sort push =
      let same : typed_param (get_or ps i p) s ≡ record { name = n; of = of } = cc in
      is ∙ ap (λ l. done ++ l) (from_turn p s lt e)
      ∙ sym (append_assoc done (typed_param (get_or ps i p) s ∷ []) (params_from ps ss (i + 1)))
      ∙ ap (λ z. (done ++ z ∷ []) ++ params_from ps ss (i + 1)) same
      ∙ ap (λ l. l ++ params_from ps ss (i + 1)) (sym push)

  pub params_end : (whole done : List TypedParam) → slice_get ss i ≡ None → whole ≡ done ++ params_from ps ss i
      → done ≡ whole
  params_end whole done e is = sym (is ∙ ap (λ l. done ++ l) (from_end e) ∙ append-nil done)

  pub locals_turn : (whole : Scope) (done more : List Local) (l : Local) (p : Param) (s : GenericSort) → i < length ps
      → slice_get ss i ≡ Some s → whole ≡ scope_of done ++ param_scope (params_from ps ss i) → more ≡ done ++ l ∷ []
      → l.name.now ≡ (get_or ps i p).name.now → l.of ≡ s
      → whole ≡ scope_of more ++ param_scope (params_from ps ss (i + 1))
  locals_turn whole done more l p s lt e is push named sort =
      let rest = param_scope (params_from ps ss (i + 1)) in
      let same : shown l ≡ ((get_or ps i p).name.now, s) = cc in
      is ∙ ap (λ z. scope_of done ++ param_scope z) (from_turn p s lt e)
      ∙ ap (λ z. scope_of done ++ z ∷ rest) (sym same)
      ∙ sym (append_assoc (scope_of done) (shown l ∷ []) rest)
      ∙ ap (λ z. z ++ rest) (sym (map-append shown done (l ∷ [])))
      ∙ ap (λ z. scope_of z ++ rest) (sym push)

  pub locals_end : (whole : Scope) (done : List Local) → slice_get ss i ≡ None
      → whole ≡ scope_of done ++ param_scope (params_from ps ss i) → scope_of done ≡ whole
  locals_end whole done e is =
      sym (is ∙ ap (λ z. scope_of done ++ param_scope z) (from_end e) ∙ append-nil (scope_of done))
