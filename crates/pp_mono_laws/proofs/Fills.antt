-- The instances of typed units are told by the units, and what is used on the way is used in the end.
use Rattle.std.proofs.Common.{◌≡◌, ◌⊎◌, ◌↔◌, ◌<◌, ◌≤◌, ℕ, suc, ◌+◌, List, [], ◌∷◌, ◌++◌, length, Contains, Some}
use Rattle.std.proofs.Common.{slice_get, refl, sym, ap, ◌∙◌, subst, inl, inr, ⊎_elim, arith}
use Rattle.std.proofs.lemmas.Bool.{cases_lt}
use Rattle.std.proofs.lemmas.List.Elements.{Contains-append_left}
use Rattle.std.proofs.lemmas.Option.{same_Some, slice_get_within}
use Rattle.pp_instances.proofs.Kept.{nothing_in}
use Rattle.pp_instances.specs.Closure.{AreInstances, Distinct, Filled, FillsOver, HasInstance, Used, at_first}
use Rattle.pp_instances.specs.Closure.{at_start, by_use, has_none, has_some}
use Rattle.pp_instances.specs.Uses.{at_ints}
use Rattle.pp_instances.specs.declared.member.Member.{Member}
use Rattle.pp_typed.specs.declared.typed.Typed.{Typed}
use Rattle.pp_mono_laws.proofs.Ordered.{head_in, head_or_tail, tail_in}

-- a list without one of its elements
record Without (ys : List Member) (y : Member) : Type 0 where
  pub rest : List Member
  pub size : length ys ≡ suc (length rest)
  pub each : (m : Member) → Contains ys m → (y ≡ m) ⊎ Contains rest m

without : (ys : List Member) (y : Member) → Contains ys y → Without ys y
without [] y has = absurd (nothing_in y has)
without (z ∷ ys) y has =
    ⊎_elim (λ same. record {
      rest = ys;
      size = refl;
      each = λ m there. ⊎_elim (λ is. inl (sym same ∙ is)) (λ h. inr h) (head_or_tail z ys m there);
    })
    (λ behind. let w = without ys y behind in
    record {
      rest = z ∷ w.rest;
      size = ap suc w.size;
      each = λ m there. ⊎_elim (λ is. inr (subst (λ k. Contains (z ∷ w.rest) k) is (head_in z w.rest)))
          (λ h. ⊎_elim (λ is. inl is) (λ k. inr (tail_in z w.rest m k)) (w.each m h)) (head_or_tail z ys m there);
    }) (head_or_tail z ys y has)

-- distinct members of a list are no more than the list has
fit_in : (xs ys : List Member) → Distinct xs → ((m : Member) → Contains xs m → Contains ys m) → length xs ≤ length ys
fit_in [] ys once more = omega arith
fit_in (x ∷ xs) ys once more =
    let w = without ys x (more x (head_in x xs)) in
    let fits = fit_in xs w.rest once.1
    (λ m has. ⊎_elim (λ is. absurd (once.0 (subst (λ k. Contains xs k) (sym is) has))) (λ h. h)
    (w.each m (more m (tail_in x xs m has)))) in
    let size = w.size in
    omega arith

module _ (typed : Typed) where
  -- the seeds are told by how many functions have been looked at
  one_filling : {f g : ℕ} {s t : List Member} → Filled typed f s → Filled typed g t → f ≡ g → s ≡ t
  one_filling at_first at_first e = refl
  one_filling at_first (has_some g t q i) e = absurd (omega (arith, e))
  one_filling at_first (has_none g t d q lacks at) e = absurd (omega (arith, e))
  one_filling (has_some f s p i) at_first e = absurd (omega (arith, e))
  one_filling (has_some f s p i) (has_some g t q j) e = one_filling p q (omega (arith, e))
  one_filling (has_some f s p i) (has_none g t d q lacks at) e =
      let n : f ≡ g = omega (arith, e) in
      absurd (lacks (subst (λ l. HasInstance typed l g) (one_filling p q n) (subst (λ k. HasInstance typed s k) n i)))
  one_filling (has_none f s d p lacks at) at_first e = absurd (omega (arith, e))
  one_filling (has_none f s d p lacks at) (has_some g t q j) e =
      let n : f ≡ g = omega (arith, e) in
      absurd (lacks (subst (λ k. HasInstance typed s k) (sym n)
      (subst (λ l. HasInstance typed l g) (sym (one_filling p q n)) j)))
  one_filling (has_none f s d p lacks at) (has_none g t k q nor there) e =
      let n : f ≡ g = omega (arith, e) in
      let same : d ≡ k = same_Some _ _ (sym at ∙ ap (slice_get typed.defs) n ∙ there) in
      ap (λ l. l ++ at_ints f d ∷ []) (one_filling p q n) ∙ ap (λ i. t ++ at_ints i d ∷ []) n
      ∙ ap (λ z. t ++ at_ints g z ∷ []) same

  -- the seeds grow
  seeds_grow : {f g : ℕ} {s t : List Member} → Filled typed f s → Filled typed g t → f ≤ g → (m : Member)
      → Contains s m → Contains t m
  seeds_grow p at_first le m has = subst (λ l. Contains l m) (one_filling p at_first (omega (arith, le))) has
  seeds_grow {f = f} p (has_some g t q i) le m has =
      ⊎_elim (λ lt. seeds_grow p q (omega (arith, lt)) m has)
      (λ ge. subst (λ l. Contains l m) (one_filling p (has_some g t q i) (omega (arith, le, ge))) has)
      (cases_lt f (g + 1))
  seeds_grow {f = f} p (has_none g t d q lacks at) le m has =
      ⊎_elim (λ lt. Contains-append_left t (at_ints g d ∷ []) m (seeds_grow p q (omega (arith, lt)) m has))
      (λ ge. subst (λ l. Contains l m) (one_filling p (has_none g t d q lacks at) (omega (arith, le, ge))) has)
      (cases_lt f (g + 1))

  -- behind the last function they don't
  seeds_stay : {f g : ℕ} {s t : List Member} → Filled typed f s → Filled typed g t → length typed.defs ≤ g → g ≤ f
      → s ≡ t
  seeds_stay at_first q all le = one_filling at_first q (omega (arith, le))
  seeds_stay {g = g} (has_some f s p i) q all le =
      ⊎_elim (λ lt. seeds_stay p q all (omega (arith, lt)))
      (λ ge. one_filling (has_some f s p i) q (omega (arith, le, ge))) (cases_lt g (f + 1))
  seeds_stay {g = g} (has_none f s d p lacks at) q all le =
      ⊎_elim (λ lt. let within = slice_get_within typed.defs f d at in absurd (omega (arith, lt, all, within)))
      (λ ge. one_filling (has_none f s d p lacks at) q (omega (arith, le, ge))) (cases_lt g (f + 1))

  seeds_last : {f : ℕ} {s t : List Member} → Filled typed f s → Filled typed (length typed.defs) t → (m : Member)
      → Contains s m → Contains t m
  seeds_last {f = f} p q m has =
      ⊎_elim (λ lt. seeds_grow p q (omega (arith, lt)) m has)
      (λ ge. subst (λ l. Contains l m) (seeds_stay p q (omega arith) ge) has) (cases_lt f (length typed.defs))

  uses_grow : {s t : List Member} → ((m : Member) → Contains s m → Contains t m) → {n : Member}
      → Used typed s n → Used typed t n
  uses_grow more (at_start m has) = at_start m (more m has)
  uses_grow more (by_use m n u used) = by_use m n (uses_grow more u) used

  pub instances_are : (ms ns : List Member) → AreInstances typed ms → AreInstances typed ns → (m : Member)
      → Contains ms m → Contains ns m
  instances_are ms ns p q m has =
      (q.closure.members m).1 (uses_grow (seeds_last p.filled q.filled) ((p.closure.members m).0 has))

  pub overfull_are_many : (ms : List Member) (limit : ℕ) → AreInstances typed ms
      → FillsOver typed limit ↔ (limit < length ms)
  overfull_are_many ms limit p = (
    λ fills. (
        let over = fills.over in
        let last = seeds_last fills.filled p.filled in
        let fits = fit_in over.some ms over.once
        (λ m has. (p.closure.members m).1 (uses_grow last (over.used m has))) in
        let many = over.many in
        omega arith
        ),
    λ many. record {
      seeds = p.seeds;
      looked = length typed.defs;
      filled = p.filled;
      over = record { some = ms; once = p.closure.once; many = many; used = λ m has. (p.closure.members m).0 has };
    },
  )
