-- What the folded steps tell the old ones tell.
use Rattle.std.proofs.Common.{◌≡◌, ◌⊎◌, ℕ, zero, suc, ◌+◌, ◌<◌, Bool, true, false, List, [], ◌∷◌, length, map}
use Rattle.std.proofs.Common.{slice_get}
use Rattle.std.proofs.Common.{Option, Some, None, Contains, refl, sym, ap, ◌∙◌, subst, inl, inr, arith}
use Rattle.std.specs.Prelude.{All}
use Rattle.std.proofs.lemmas.Option.{same_Some}
use Rattle.std.proofs.lemmas.List.Elements.{All-cons, All-head, All-nil, All-tail}
use Rattle.pp_prog.specs.declared.id.CtorId.{CtorId}
use Rattle.pp_prog.specs.declared.types.Ctor.{Ctor}
use Rattle.pp_steps.proofs.Counting.{add_suc, plus_zero, zero_plus}
use Rattle.pp_steps.specs.declared.step.Step.{Step}
use Rattle.pp_steps.specs.declared.step.Step.TheVariants as steps
use Rattle.pp_steps.specs.Compile.{number_or}
use Rattle.pp_steps.specs.Known.{AllTell, Tells}
use Rattle.pp_steps.specs.Meaning.{Missing, Obeys, Values, bit}
use Rattle.pp_steps.specs.Reads.{AllRead, Below, Reads}
use Rattle.pp_simplify.specs.Folded.{Folding, both, bool_at, chosen, folded, folded_from, next, source, tested, turned}
use Rattle.pp_simplify.specs.Literals.{computed}
use Rattle.pp_simplify.specs.Names.{named}
use Rattle.pp_simplify.specs.Operands.{Each, operands, renamed}
use Rattle.pp_simplify.proofs.Cones.{reads_below}
use Rattle.pp_simplify.proofs.Stating.{stated_by}
use Rattle.pp_simplify.proofs.Naming.{IsSource, is_source}
use Rattle.pp_simplify.proofs.Turns.{Reading, push_length, reading_next}
use Rattle.pp_simplify_laws.specs.Fully.{IsFully, folded_known, fully, made_of}
use Rattle.pp_simplify_laws.specs.Laws.{AgreeFolded}
use Rattle.pp_simplify_laws.proofs.Folds.{bit_at, folded_tells}
use Rattle.pp_simplify_laws.proofs.FoldedValues.{agrees_next}
use Rattle.pp_simplify_laws.proofs.Forms.{IsGiven, tells_renamed}
use Rattle.pp_simplify_laws.proofs.Stays.{name_here, names_stay, step_here, steps_stay}

tells_at : (ρ : Values) (K : ℕ → Type 0) (k : ℕ) (ss : List Step) (i : ℕ) (s : Step) → AllTell ρ K k ss
    → slice_get ss i ≡ Some s → Tells ρ K s (k + i)
tells_at ρ K k [] i s all at = absurd (cc)
tells_at ρ K k (x ∷ ss) zero s all at =
    subst (λ j. Tells ρ K s j) (sym (plus_zero k)) (subst (λ y. Tells ρ K y k) (same_Some x s at) all.0)
tells_at ρ K k (x ∷ ss) (suc i) s all at =
    subst (λ j. Tells ρ K s j) (sym (add_suc k i)) (tells_at ρ K (suc k) ss i s all.1 at)

contains_at : (ns : List ℕ) (i n : ℕ) → slice_get ns i ≡ Some n → Contains ns n
contains_at [] i n at = absurd (cc)
contains_at (x ∷ ns) zero n at = (0, omega arith, same_Some x n at)
contains_at (x ∷ ns) (suc i) n at = let c = contains_at ns i n at in (suc c.0, omega (arith, c.1), c.2)

nothing_in : (x : ℕ) → Contains [] x → ⊥
nothing_in x c = absurd (omega (arith, c.1))

each_below : (P : ℕ → Type 0) (k : ℕ) (ns : List ℕ) → Below k ns → ((a : ℕ) → a < k → P a) → Each P ns
each_below P k [] b go = tt
each_below P k (n ∷ ns) b go = (go n b.0, each_below P k ns b.1 go)

-- ---- where a choice comes from

-- the source of a folded choice is the operand that is chosen
module _ (ctors : List Ctor) (missing : Missing) (ρ : Values) (news : List Step) (obeys : Obeys ctors missing ρ 0 news)
    (c a b m : ℕ)
  where
    abbrev Chosen : Type 0
    Chosen = ((bit (ρ c) ≡ true) × (a ≡ m)) ⊎ ((bit (ρ c) ≡ false) × (b ≡ m))

    only : (d e n : ℕ) → IsSource news (steps.Choose d e n) m → (e ≡ m) × (n ≡ m)
    only d e n (inl h) = let is = h.is in ((cc), (cc))
    only d e n (inr h) = let is = h.is in absurd (cc)

    no_bool : (v : Bool) → IsSource news (steps.Bool v) m → ⊥
    no_bool v (inl h) = let is = h.is in absurd (cc)
    no_bool v (inr h) = let is = h.is in absurd (cc)

    either : (t : Bool) → bit (ρ c) ≡ t → (a ≡ m) × (b ≡ m) → Chosen
    either true e is = inl (e, is.0)
    either false e is = inr (e, is.1)

    chosen_from : (o x y : Option Bool) → bool_at news c ≡ o → IsSource news (chosen c a b o x y) m → Chosen
    chosen_from (Some true) (Some w) y e is = absurd (no_bool w is)
    chosen_from (Some true) None y e is = inl (bit_at ctors missing ρ news obeys c true e, (only c a a is).0)
    chosen_from (Some false) x (Some w) e is = absurd (no_bool w is)
    chosen_from (Some false) x None e is = inr (bit_at ctors missing ρ news obeys c false e, (only c b b is).0)
    chosen_from None x y e is = either (bit (ρ c)) refl (only c a b is)

-- ---- steps that have no source

turned_unnamed : (news : List Step) (a : ℕ) (o : Option Bool) → source news (turned a o) ≡ None
turned_unnamed news a None = refl
turned_unnamed news a (Some b) = refl

both_unnamed : (news : List Step) (a b : ℕ) (x y : Option Bool) → source news (both a b x y) ≡ None
both_unnamed news a b (Some false) y = refl
both_unnamed news a b (Some true) (Some w) = refl
both_unnamed news a b (Some true) None = refl
both_unnamed news a b None (Some false) = refl
both_unnamed news a b None (Some true) = refl
both_unnamed news a b None None = refl

tested_unnamed : (news : List Step) (c : CtorId) (n a : ℕ) (o : Option Step) → source news (tested c n a o) ≡ None
tested_unnamed news c n a (Some (steps.Construct d fields)) = refl
tested_unnamed news c n a o = refl

-- ---- and that make nothing

turned_makes : (a : ℕ) (o : Option Bool) → made_of (Some (turned a o)) ≡ []
turned_makes a None = refl
turned_makes a (Some b) = refl

both_makes : (a b : ℕ) (x y : Option Bool) → made_of (Some (both a b x y)) ≡ []
both_makes a b (Some false) y = refl
both_makes a b (Some true) (Some w) = refl
both_makes a b (Some true) None = refl
both_makes a b None (Some false) = refl
both_makes a b None (Some true) = refl
both_makes a b None None = refl

chosen_makes : (c a b : ℕ) (o x y : Option Bool) → made_of (Some (chosen c a b o x y)) ≡ []
chosen_makes c a b (Some true) (Some w) y = refl
chosen_makes c a b (Some true) None y = refl
chosen_makes c a b (Some false) x (Some w) = refl
chosen_makes c a b (Some false) x None = refl
chosen_makes c a b None x y = refl

tested_makes : (c : CtorId) (n a : ℕ) (o : Option Step) → made_of (Some (tested c n a o)) ≡ []
tested_makes c n a (Some (steps.Construct d fields)) = refl
tested_makes c n a o = refl

-- ---- one step

module _ (ctors : List Ctor) (missing : Missing) (ρ : Values) (K : ℕ → Type 0) (f : Folding) (reading : Reading f)
    (agree : AgreeFolded ctors missing ρ f) (all : Folding) (tells : AllTell ρ K 0 all.steps)
    (stay : (k : ℕ) → k < length f.steps → slice_get all.steps k ≡ slice_get f.steps k)
    (stay_named : (k : ℕ) → k < length f.steps → named all.names k ≡ named f.names k)
  where
    abbrev r : ℕ → ℕ
    r = named f.names

    abbrev n : ℕ
    n = length f.steps

    abbrev J : ℕ → Type 0
    J = folded_known all K

    given : (a : ℕ) → a < n → J a → IsFully all.steps K (r a)
    given a lt known = subst (IsFully all.steps K) (stay_named a lt) known

    known_of : (k : ℕ) → IsFully all.steps K k → K k
    known_of k (fully j known fields) = known

    fields_of : (k x : ℕ) → IsFully all.steps K k → Contains (made_of (slice_get all.steps k)) x → IsFully all.steps K x
    fields_of k x (fully j known fields) c = fields x c

    is_given : (a : ℕ) → a < n → IsGiven r ρ ρ J K a
    is_given a lt = record { value = agree.same a; known = λ known. known_of (r a) (given a lt known) }

    module _ (s : Step) (reads : Reads n s)
        (here : slice_get all.steps n ≡ Some (folded f.steps (renamed r s)))
        (name : named all.names n ≡ number_or n (source f.steps (folded f.steps (renamed r s))))
      where
        abbrev t : Step
        t = folded f.steps (renamed r s)

        -- what the step in its place tells
        tells_named : Tells ρ K (renamed r s) n
        tells_named = folded_tells ctors missing ρ f.steps agree.obeys K n (renamed r s)
            (subst (λ j. Tells ρ K t j) (zero_plus n) (tells_at ρ K 0 all.steps n t tells here))

        all_given : Each (IsGiven r ρ ρ J K) (operands s)
        all_given = each_below (IsGiven r ρ ρ J K) n (operands s) (reads_below n s reads) is_given

        -- where nothing else has its value and it makes nothing
        plain : source f.steps t ≡ None → made_of (Some t) ≡ [] → Tells ρ J s n
        plain unnamed makes = tells_renamed r ρ ρ J K n s all_given
            (λ known. subst (IsFully all.steps K) (sym (name ∙ ap (number_or n) unnamed))
            (fully n known
            (λ x c. absurd (nothing_in x (subst (λ l. Contains l x) (ap made_of here ∙ makes) c)))))
            tells_named

        -- where another step has its value
        pub other : (m : ℕ) → source f.steps t ≡ Some m → IsFully all.steps K m → J n
        other m is known = subst (IsFully all.steps K) (sym (name ∙ ap (number_or n) is)) known

    abbrev Here : Step → Type 0
    Here s = slice_get all.steps n ≡ Some (folded f.steps (renamed r s))

    abbrev Name : Step → Type 0
    Name s = named all.names n ≡ number_or n (source f.steps (folded f.steps (renamed r s)))

    choose_tells : (c a b : ℕ) → Reads n (steps.Choose c a b) → Here (steps.Choose c a b) → Name (steps.Choose c a b)
        → Tells ρ J (steps.Choose c a b) n
    choose_tells c a b reads here name = by (source f.steps (folded f.steps (renamed r (steps.Choose c a b)))) refl
      where
        from : (m : ℕ) → source f.steps (folded f.steps (renamed r (steps.Choose c a b))) ≡ Some m
            → ((bit (ρ (r c)) ≡ true) × (r a ≡ m)) ⊎ ((bit (ρ (r c)) ≡ false) × (r b ≡ m))
        from m is = chosen_from ctors missing ρ f.steps agree.obeys (r c) (r a) (r b) m
            (bool_at f.steps (r c)) (bool_at f.steps (r a)) (bool_at f.steps (r b)) refl
            (is_source f.steps (folded f.steps (renamed r (steps.Choose c a b))) m is)

        by : (o : Option ℕ) → source f.steps (folded f.steps (renamed r (steps.Choose c a b))) ≡ o
            → Tells ρ J (steps.Choose c a b) n
        by None is = plain (steps.Choose c a b) reads here name is
            (chosen_makes (r c) (r a) (r b) (bool_at f.steps (r c)) (bool_at f.steps (r a)) (bool_at f.steps (r b)))
        by (Some m) is = λ x y z. elim (from m is) [
          | inl p ↦
              other (steps.Choose c a b) reads here name m is (subst (IsFully all.steps K) p.1
              (given a reads.1 (y (sym (ap bit (agree.same c)) ∙ p.0))))
          | inr p ↦
              other (steps.Choose c a b) reads here name m is (subst (IsFully all.steps K) p.1
              (given b reads.2 (z (sym (ap bit (agree.same c)) ∙ p.0))))
        ]

    field_tells : (c : CtorId) (i a : ℕ) → Reads n (steps.CtorField c i a) → Here (steps.CtorField c i a)
        → Name (steps.CtorField c i a) → Tells ρ J (steps.CtorField c i a) n
    field_tells c i a reads here name = by (source f.steps (steps.CtorField c i (r a))) refl
      where
        below : r a < n
        below = let low = reading.low a in omega arith

        part : (m : ℕ) → IsSource f.steps (steps.CtorField c i (r a)) m → IsFully all.steps K (r a)
            → IsFully all.steps K m
        part m (inl h) known = let is = h.is in absurd (cc)
        part m (inr h) known =
            let is = h.is in
            let same : h.operand ≡ r a = cc in
            let at = ap (slice_get f.steps) (sym same) ∙ h.at in
            fields_of (r a) m known
            (subst (λ l. Contains l m) (sym (ap made_of (stay (r a) below ∙ at)))
            (contains_at h.fields h.place m h.there))

        by : (o : Option ℕ) → source f.steps (steps.CtorField c i (r a)) ≡ o → Tells ρ J (steps.CtorField c i a) n
        by None is = plain (steps.CtorField c i a) reads here name is refl
        by (Some m) is = λ x fields tree. other (steps.CtorField c i a) reads here name m is
            (part m (is_source f.steps (steps.CtorField c i (r a)) m is) (given a reads x))

    construct_tells : (c : CtorId) (fields : List ℕ) → Reads n (steps.Construct c fields)
        → Here (steps.Construct c fields) → Name (steps.Construct c fields) → Tells ρ J (steps.Construct c fields) n
    construct_tells c fields reads here name = λ known.
        subst (IsFully all.steps K) (sym name)
        (fully n (tells_named (steps.Construct c fields) reads here name (all_known fields reads known))
        (λ x o. each fields reads known x (subst (λ l. Contains l x) (ap made_of here) o)))
      where
        all_known : (ns : List ℕ) → Below n ns → All J ns → All K (map r ns)
        all_known [] b known = All-nil K
        all_known (x ∷ ns) b known =
            All-cons K (r x) (map r ns) (known_of (r x) (given x b.0 (All-head J x ns known)))
            (all_known ns b.1 (All-tail J x ns known))

        each : (ns : List ℕ) → Below n ns → All J ns → (x : ℕ) → Contains (map r ns) x → IsFully all.steps K x
        each [] b known x o = absurd (nothing_in x o)
        each (y ∷ ns) b known x (zero, lt, e) =
            subst (IsFully all.steps K) e (given y b.0 (All-head J y ns known))
        each (y ∷ ns) b known x (suc i, lt, e) = each ns b.1 (All-tail J y ns known) x (i, omega arith, e)

    pub next_tells : (s : Step) → Reads n s → Here s → Name s → Tells ρ J s n
    next_tells (steps.Not a) reads here name =
        plain (steps.Not a) reads here name (turned_unnamed f.steps (r a) (bool_at f.steps (r a)))
        (turned_makes (r a) (bool_at f.steps (r a)))
    next_tells (steps.Both a b) reads here name =
        plain (steps.Both a b) reads here name
        (both_unnamed f.steps (r a) (r b) (bool_at f.steps (r a)) (bool_at f.steps (r b)))
        (both_makes (r a) (r b) (bool_at f.steps (r a)) (bool_at f.steps (r b)))
    next_tells (steps.IsCtor c m a) reads here name =
        plain (steps.IsCtor c m a) reads here name (tested_unnamed f.steps c m (r a) (slice_get f.steps (r a)))
        (tested_makes c m (r a) (slice_get f.steps (r a)))
    next_tells (steps.Choose c a b) reads here name = choose_tells c a b reads here name
    next_tells (steps.CtorField c i a) reads here name = field_tells c i a reads here name
    next_tells (steps.Construct c fields) reads here name = construct_tells c fields reads here name
    next_tells s reads here name =
        plain s reads here name
        (stated_by (λ t. source f.steps t ≡ None) (renamed r s) (computed f.steps (renamed r s)) refl (λ n e. refl)
        (λ b e. refl))
        (stated_by (λ t. made_of (Some t) ≡ []) (renamed r s) (computed f.steps (renamed r s)) refl (λ n e. refl)
        (λ b e. refl))

-- ---- all steps

module _ (ctors : List Ctor) (missing : Missing) (ρ : Values) (K : ℕ → Type 0) where
  pub tells_from : (f : Folding) (ss : List Step) → Reading f → AllRead (length f.steps) ss
      → AgreeFolded ctors missing ρ f → Obeys ctors missing ρ (length f.steps) ss
      → AllTell ρ K 0 (folded_from f ss).steps
      → AllTell ρ (folded_known (folded_from f ss) K) (length f.steps) ss
  tells_from f [] reading reads agree obeys tells = tt
  tells_from f (s ∷ ss) reading reads agree obeys tells =
      let n = length f.steps in
      let all = folded_from f (s ∷ ss) in
      let next_many = push_length f.steps (folded f.steps (renamed (named f.names) s)) in
      let within = λ (k : ℕ) (lt : k < n). subst (λ m. k < m) (sym reading.many) lt in (
        next_tells ctors missing ρ K f reading agree all tells (steps_stay f (s ∷ ss))
            (λ k lt. names_stay f (s ∷ ss) k (within k lt)) s reads.0 (step_here f s ss)
            (subst (λ m. named all.names m ≡ number_or m (source f.steps (folded f.steps (renamed (named f.names) s))))
            reading.many (name_here f s ss)),
        subst (λ m. AllTell ρ (folded_known all K) m ss) next_many
            (tells_from (next f s) ss (reading_next f s reading reads.0)
            (subst (λ m. AllRead m ss) (sym next_many) reads.1)
            (agrees_next ctors missing ρ f s reading agree obeys.0)
            (subst (λ m. Obeys ctors missing ρ m ss) (sym next_many) obeys.1) tells),
      )
