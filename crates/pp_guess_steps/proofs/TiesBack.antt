-- Each call that stands and waits for fewer rounds than have passed was unfolded: what the tie says of it holds.
use Rattle.std.proofs.Common.{◌≡◌, ◌<◌, ◌⊎◌, inl, inr, ℕ, zero, suc, ◌+◌, Bool, true, false, List, [], ◌∷◌, ◌++◌}
use Rattle.std.proofs.Common.{length}
use Rattle.std.proofs.Common.{refl, sym, ap, ◌∙◌, subst, arith, Contains}
use Rattle.std.specs.Prelude.{nat_eq}
use Rattle.std.proofs.lemmas.Bool.{cases_lt, eq-eqb}
use Rattle.pp_prog.specs.declared.expr.Function.{Function}
use Rattle.pp_prog.specs.declared.id.CheckId.{CheckId}
use Rattle.pp_prog.specs.declared.types.Ctor.{Ctor}
use Rattle.pp_steps.proofs.Counting.{zero_plus}
use Rattle.pp_steps.specs.declared.step.Step.{Step}
use Rattle.pp_steps.specs.declared.step.Step.TheVariants as steps
use Rattle.pp_steps.specs.Guesses.{Standing, all_agreeing, all_unfolded, calls_before, calls_from, guess_steps}
use Rattle.pp_steps.specs.Guesses.{one_unfolded, standing, unfolded_call}
use Rattle.pp_steps.specs.Meaning.{Missing, Obeys, Values}
use Rattle.pp_steps.specs.Piece.{Piece, after, joined, plain}
use Rattle.pp_steps_run.specs.Told.{AllOf, IsMade, On}
use Rattle.pp_steps_run.proofs.Pieces.{all_join, all_left, all_right, made_left, made_right, obeys_left, obeys_right}
use Rattle.pp_guess_steps.proofs.ClosedAlways.{unfolding_closed}
use Rattle.std.proofs.lemmas.List.Elements.{Contains-append_cases}
use Rattle.pp_checks.proofs.Tallest.{head_or}
use Rattle.pp_guess_steps.proofs.Members.{nothing_in}
use Rattle.pp_guess_steps.proofs.CallsPaired.{IsNoCall, pattern_fits, simple_quiet}
use Rattle.pp_guess_steps.proofs.StandingAgree.{mid, standing_at, standing_cons, with_stands}

-- ---- how long calls wait

abbrev WaitsOf : ℕ → Step → Type 0
WaitsOf w (steps.HasAnswer c) = c.wait ≡ w
WaitsOf w (steps.Answer c) = Unit {0}
WaitsOf w (steps.Open s) = Unit {0}
WaitsOf w (steps.Int n) = Unit {0}
WaitsOf w (steps.Bool b) = Unit {0}
WaitsOf w (steps.Not a) = Unit {0}
WaitsOf w (steps.Both a b) = Unit {0}
WaitsOf w (steps.Choose c a b) = Unit {0}
WaitsOf w (steps.Unary op a) = Unit {0}
WaitsOf w (steps.Binary op a b) = Unit {0}
WaitsOf w (steps.Construct c fields) = Unit {0}
WaitsOf w (steps.IsCtor c n a) = Unit {0}
WaitsOf w (steps.CtorField c i a) = Unit {0}
WaitsOf w (steps.Field a i) = Unit {0}
WaitsOf w (steps.IsAlike a b) = Unit {0}
WaitsOf w (steps.GoesDown a b) = Unit {0}

abbrev Waits : ℕ → List Step → Type 0
Waits w = AllOf (WaitsOf w)

quiet_waits : (w : ℕ) (s : Step) → IsNoCall s → Waits w (s ∷ [])
quiet_waits w (steps.HasAnswer c) h = absurd h
quiet_waits w (steps.Answer c) h = absurd h
quiet_waits w (steps.Open s) h = (tt, tt)
quiet_waits w (steps.Int n) h = (tt, tt)
quiet_waits w (steps.Bool b) h = (tt, tt)
quiet_waits w (steps.Not a) h = (tt, tt)
quiet_waits w (steps.Both a b) h = (tt, tt)
quiet_waits w (steps.Choose c a b) h = (tt, tt)
quiet_waits w (steps.Unary op a) h = (tt, tt)
quiet_waits w (steps.Binary op a b) h = (tt, tt)
quiet_waits w (steps.Construct c fields) h = (tt, tt)
quiet_waits w (steps.IsCtor c n a) h = (tt, tt)
quiet_waits w (steps.CtorField c i a) h = (tt, tt)
quiet_waits w (steps.Field a i) h = (tt, tt)
quiet_waits w (steps.IsAlike a b) h = (tt, tt)
quiet_waits w (steps.GoesDown a b) h = (tt, tt)

abbrev HasWait : ℕ → Standing → Type 0
HasWait w c = c.call.wait ≡ w

one_waits : (w : ℕ) (s : Step) (k : ℕ) → WaitsOf w s → AllOf (HasWait w) (standing k (s ∷ []))
one_waits w (steps.HasAnswer c) k h = (h, tt)
one_waits w (steps.Answer c) k h = tt
one_waits w (steps.Open s) k h = tt
one_waits w (steps.Int n) k h = tt
one_waits w (steps.Bool b) k h = tt
one_waits w (steps.Not a) k h = tt
one_waits w (steps.Both a b) k h = tt
one_waits w (steps.Choose c a b) k h = tt
one_waits w (steps.Unary op a) k h = tt
one_waits w (steps.Binary op a b) k h = tt
one_waits w (steps.Construct c fields) k h = tt
one_waits w (steps.IsCtor c n a) k h = tt
one_waits w (steps.CtorField c i a) k h = tt
one_waits w (steps.Field a i) k h = tt
one_waits w (steps.IsAlike a b) k h = tt
one_waits w (steps.GoesDown a b) k h = tt

all_wait : (w : ℕ) (ss : List Step) (k : ℕ) → Waits w ss → AllOf (HasWait w) (standing k ss)
all_wait w [] k h = tt
all_wait w (s ∷ ss) k h = subst (λ l. AllOf (HasWait w) l) (sym (standing_cons s k ss))
    (all_join (HasWait w) (standing k (s ∷ [])) (standing (suc k) ss) (one_waits w s k h.0) (all_wait w ss (suc k) h.1))

one_of : (w : ℕ) (cs : List Standing) → AllOf (HasWait w) cs → (c : Standing) → Contains cs c → c.call.wait ≡ w
one_of w [] h c has = absurd (nothing_in c has)
one_of w (x ∷ xs) h c has = by (head_or x c xs has) (λ later. one_of w xs h.1 c later)
  where
    by : (x ≡ c) ⊎ Contains xs c → (Contains xs c → c.call.wait ≡ w) → c.call.wait ≡ w
    by (inl is) rest = ap (λ z. z.call.wait) (sym is) ∙ h.0
    by (inr later) rest = rest later

not_later : (w n : ℕ) → w < suc n → w ≡ suc n → ⊥
not_later w n h e = omega (arith, h, e)

earlier : (w n : ℕ) → w < suc n → (w < n) ⊎ (w ≡ n)
earlier w n h = elim (cases_lt w n) [
  | inl l ↦ inl l
  | inr g ↦ inr (omega (arith, h, g))
]

module _ (functions : List Function) (f : Function) (check : CheckId) where
  new_wait : (n : ℕ) (k : ℕ) (cs : List Standing) → Waits (suc n) (all_unfolded functions n k cs).steps
  new_wait n k cs = unfolding_closed (Waits (suc n)) (all_join (WaitsOf (suc n))) tt
      (λ s h. quiet_waits (suc n) s (simple_quiet s h))
      (pattern_fits (Waits (suc n)) (all_join (WaitsOf (suc n))) tt (quiet_waits (suc n)))
      functions (λ w. w ≡ suc n) (λ w fit k reach g pre down args. (fit, (tt, (tt, tt)))) n refl k cs

  module _ (ctors : List Ctor) (missing : Missing) (ρ : Values) where
    abbrev Made : {A : Type 0} → ℕ → Piece A → Type 0
    Made k x = IsMade ctors missing ρ k x

    abbrev pub Tied : Standing → Type 0
    Tied c = (k : ℕ) × Made k (unfolded_call functions k c) × On ρ (unfolded_call functions k c).out

    one_tied : (b : Bool) (k : ℕ) (c : Standing) → Made k (one_unfolded functions b k c)
        → AllOf (On ρ) (one_unfolded functions b k c).out → b ≡ true → Tied c
    one_tied false k c h on e = cc
    one_tied true k c h on e =
        let x = unfolded_call functions k c in
        let z : Piece (List ℕ) = plain [] (x.out ∷ []) 0 in
        (k, made_left ctors missing ρ k x z h, on.0)

    all_tied : (n : ℕ) (cs : List Standing) (k : ℕ) → Made k (all_unfolded functions n k cs)
        → AllOf (On ρ) (all_unfolded functions n k cs).out → (c : Standing) → Contains cs c → c.call.wait ≡ n → Tied c
    all_tied n [] k h on c has e = absurd (nothing_in c has)
    all_tied n (x ∷ xs) k h on c has e =
        let p = one_unfolded functions (nat_eq x.call.wait n) k x in
        let i = after k p in
        let q = all_unfolded functions n i xs in
        let z : Piece (List ℕ) = plain [] (p.out ++ q.out) 0 in
        let hq = made_left ctors missing ρ i q z (made_right ctors missing ρ k p (joined q z) h) in
        let rest : Contains xs c → Tied c = λ later. all_tied n xs i hq (all_right (On ρ) p.out q.out on) c later e in
        by (head_or x c xs has)
        (one_tied (nat_eq x.call.wait n) k x (made_left ctors missing ρ k p (joined q z) h)
        (all_left (On ρ) p.out q.out on)) rest
      where
        by : (x ≡ c) ⊎ Contains xs c → (nat_eq x.call.wait n ≡ true → Tied x) → (Contains xs c → Tied c) → Tied c
        by (inl is) now rest =
            subst (λ z. Tied z) is (now (eq-eqb x.call.wait n (ap (λ z. z.call.wait) is ∙ e)))
        by (inr later) now rest = rest later

    pub tied_at : (n : ℕ) → Obeys ctors missing ρ 0 (guess_steps functions f check n).steps
        → AllOf (On ρ) (guess_steps functions f check n).supposed → (c : Standing)
        → Contains (standing 0 (guess_steps functions f check n).steps) c → c.call.wait < n → Tied c
    tied_at zero h on c has lt = absurd (omega (arith, lt))
    tied_at (suc n) h on c has lt =
        let g = guess_steps functions f check n in
        let k = length g.steps in
        let x = all_unfolded functions n k (standing 0 g.steps) in
        let m = mid functions n g in
        let y = all_agreeing (length m.steps) (calls_before k (standing 0 m.steps)) (calls_from k (standing 0 m.steps))
        m.true_one in
        let hm = obeys_left ctors missing ρ 0 m.steps y.steps h in
        let om = all_left (On ρ) m.supposed y.out on in
        let made : Made k x = record {
          steps = subst (λ i. Obeys ctors missing ρ i x.steps) (zero_plus k)
              (obeys_right ctors missing ρ 0 g.steps x.steps hm);
        } in
        let place = subst (λ l. Contains l c) (with_stands k m ∙ standing_at g.steps x.steps) has in
        by (Contains-append_cases (standing 0 g.steps) (standing k x.steps) c place) (earlier c.call.wait n lt)
        (λ old less. tied_at n (obeys_left ctors missing ρ 0 g.steps x.steps hm) (all_left (On ρ) g.supposed x.out om) c
        old less)
        (λ old same. all_tied n (standing 0 g.steps) k made (all_right (On ρ) g.supposed x.out om) c old same)
        (λ new. one_of (suc n) (standing k x.steps) (all_wait (suc n) x.steps k (new_wait n k (standing 0 g.steps))) c
        new)
      where
        by : {Old New : Type 0} → Old ⊎ New → (c.call.wait < n) ⊎ (c.call.wait ≡ n) → (Old → c.call.wait < n → Tied c)
            → (Old → c.call.wait ≡ n → Tied c) → (New → c.call.wait ≡ suc n) → Tied c
        by (inl old) (inl less) a b z = a old less
        by (inl old) (inr same) a b z = b old same
        by (inr new) t a b z = absurd (not_later c.call.wait n lt (z new))
