-- What is known of a call: that its precondition is false, or its measure values, and for some its value.
use Rattle.std.proofs.Common.{◌≡◌, ℕ, Bool, true, false, List, Option, Some, None, Ok, Err, slice_get, refl, sym, ap}
use Rattle.std.proofs.Common.{◌∙◌, subst, ◌⊎◌, inl, inr, eq-eqb}
use Rattle.std.specs.Prelude.{⊤}
use Rattle.pp_prog.specs.declared.expr.Function.{Function}
use Rattle.pp_prog.specs.declared.id.CheckId.{CheckId}
use Rattle.pp_prog.specs.declared.id.FunctionId.{FunctionId}
use Rattle.pp_prog.specs.declared.types.Ctor.{Ctor}
use Rattle.pp_prog.specs.declared.value.Value.{Value}
use Rattle.pp_eval.specs.declared.outcome.Outcome.TheVariants.{Done}
use Rattle.pp_eval.specs.declared.outcome.Stop.{Stop}
use Rattle.pp_eval.specs.declared.outcome.Stop.TheVariants.{Deep, Fails}
use Rattle.pp_eval.specs.Invocation.{allowed, calls_to, descends, enters, frame_of}
use Rattle.pp_eval.specs.Meaning.{CallMeaning, Frame, meaning}
use Rattle.pp_eval.specs.Measure.{is_below}
use Rattle.pp_eval.specs.Part.{Part, and_then, either, failed, inside}
use Rattle.pp_eval.specs.Runs.{run}
use Rattle.pp_run_laws.proofs.Eventually.{Eventually, both_eventually, mapped}
use Rattle.pp_run_laws.proofs.Follows.{Comes, Follows, Stops, comes_inside, follows_comes, follows_eventually}
use Rattle.pp_run_laws.proofs.Follows.{follows_later, follows_lost, follows_same, follows_then}
use Rattle.pp_run_laws.proofs.Parts.{entered_call, failed_stays, refused_call}
use Rattle.pp_run_laws.proofs.Stops.{failed_stops}
use Rattle.pp_guess_runs.specs.Guess.{compared, is_check, one_less, or_deep, own_call}
use Rattle.pp_induction.proofs.Views.{IsKept, NotInner, View, called_over, calls_in, deep_lost, frame_in, in_called}
use Rattle.pp_induction.proofs.Views.{in_own, in_run}

-- the call is refused by the precondition, or reaches its body in a frame, and has the value if one is known
pub data Fate : Type 0 where
  refused : Fate
  reaches : Frame → Option Value → Fate

-- a call whose precondition came to this
abbrev admitted : Option CheckId → Bool → Part ⊤
admitted pre t = either t (Ok tt) (failed pre)

-- what a call comes to that has the fate, from the frame `old`
abbrev pub fate_part : List Ctor → Frame → Option Fate → Option CheckId → Option CheckId → Part Value
fate_part ctors old None pre down = Err Deep
fate_part ctors old (Some refused) pre down = failed pre
fate_part ctors old (Some (reaches new value)) pre down = and_then (descends ctors down old new) (λ _. or_deep value)

module _ (ctors : List Ctor) (fs : List Function) where
  -- the part of a contract comes to this value in real runs and in called frames
  pub record IsContract {A : Type 0} (part : CallMeaning → Part A) (a : A) : Type 0 where
    pub run : Comes (λ m. part (calls_to ctors fs m)) a
    pub called : (n : ℕ) → Comes (λ m. part (called_over ctors fs n m)) a

  -- the call of h, which has the number g, has this value: the body in its frame, the run, and each call of a called
  -- frame
  pub record HasValue (g : FunctionId) (h : Function) (args : List Value) (new : Frame) (v : Value) : Type 0 where
    pub body : Comes (λ m. meaning (calls_to ctors fs m) h.body new args) v
    pub done : Eventually (λ m. run ctors fs h args m ≡ Done v)
    pub called : (n : ℕ) (frame : Frame) (pre down : Option CheckId)
        → Comes (λ m. called_over ctors fs n m frame g pre down args) v

  abbrev pub MayHaveValue : FunctionId → Function → List Value → Frame → Option Value → Type 0
  MayHaveValue g h args new None = Unit {0}
  MayHaveValue g h args new (Some v) = HasValue g h args new v

  pub record Reached (g : FunctionId) (h : Function) (args : List Value) (new : Frame) (known : Option Value) : Type 0
    where
      pub allowed : IsContract (λ c. allowed c h.pre args) true
      pub measured : IsContract (λ c. frame_of c h.measure args) new
      pub value : MayHaveValue g h args new known

  -- the fate is that of the call of h, which has the number g
  abbrev pub IsTold : FunctionId → Function → List Value → Fate → Type 0
  IsTold g h args refused = IsContract (λ c. allowed c h.pre args) false
  IsTold g h args (reaches new value) = Reached g h args new value

  abbrev pub IsToldCall : FunctionId → List Value → Option Fate → Type 0
  IsToldCall g args None = Unit {0}
  IsToldCall g args (Some fate) = (h : Function) × (slice_get fs g.0 ≡ Some h) × IsTold g h args fate

  -- the comparison of measures passes, or fails the site's check
  pub record FailsDescent (down : Option CheckId) (old new : Frame) : Type 0 where
    pub check : CheckId
    pub site : down ≡ Some check
    pub part : descends ctors down old new ≡ Err (Fails check)

  pub descent : (down : Option CheckId) (old new : Frame)
      → (descends ctors down old new ≡ Ok tt) ⊎ FailsDescent down old new
  descent None old new = inl refl
  descent (Some c) None new = inl refl
  descent (Some c) (Some old) None = inl refl
  descent (Some c) (Some old) (Some new) = by (is_below ctors new old) refl
    where
      by : (t : Bool) → is_below ctors new old ≡ t
          → (descends ctors (Some c) (Some old) (Some new) ≡ Ok tt) ⊎ FailsDescent (Some c) (Some old) (Some new)
      by true e = inl (ap (λ t. either t (Ok tt) (Err (Fails c))) e)
      by false e = inr (record { check = c; site = refl; part = ap (λ t. either t (Ok tt) (Err (Fails c))) e })

  module _ (old : Frame) (g : FunctionId) (args : List Value) (pre down : Option CheckId) where
    -- the calls that are made up are followed in a view
    abbrev pub IsFollowed : View → Option Fate → Type 0
    IsFollowed v fate =
        Follows NotInner (IsKept v) (fate_part ctors old fate pre down)
        (λ m. calls_in ctors fs v m (frame_in v old) g pre down args)

    failed_same : (S : Stop → Type 0) → Follows {A = Value} NotInner S (failed pre) (λ m. failed pre)
    failed_same S = follows_same (failed pre) (failed_stops NotInner tt Value pre (λ c _. tt))

    descends_same : (S : Stop → Type 0) (new : Frame)
        → Follows {A = ⊤} NotInner S (descends ctors down old new) (λ m. descends ctors down old new)
    descends_same S new = follows_same (descends ctors down old new) (by (descent down old new))
      where
        by : (descends ctors down old new ≡ Ok tt) ⊎ FailsDescent down old new
            → Stops NotInner (descends ctors down old new)
        by (inl e) = subst (Stops NotInner) (sym e) tt
        by (inr f) = subst (Stops NotInner) (sym f.part) tt

    -- nothing is known of the call's value, or it is that of the parts
    known_follows : (v : View) (known : Option Value) (parts : ℕ → Part Value)
        → ((w : Value) → known ≡ Some w → Comes parts w) → Follows NotInner (IsKept v) (or_deep known) parts
    known_follows v None parts h = follows_lost tt (deep_lost v)
    known_follows v (Some w) parts h = follows_comes (h w refl)

    module _ (h : Function) (is : slice_get fs g.0 ≡ Some h) where
      value_known : (new : Frame) (known : Option Value) → MayHaveValue g h args new known → (w : Value)
          → known ≡ Some w → HasValue g h args new w
      value_known new None has w e = cc
      value_known new (Some v) has w e = let same : v ≡ w = cc in subst (HasValue g h args new) same has

      run_follows : (fate : Fate) → IsTold g h args fate → IsFollowed in_run (Some fate)
      run_follows refused told =
          follows_later (follows_eventually (failed_same (IsKept in_run)) (mapped told.run (λ m e.
          ap (λ o. enters (calls_to ctors fs m) ctors o old g pre down args) is ∙ refused_call (calls_to ctors fs m)
          ctors h args e old g pre down)))
      run_follows (reaches new known) told =
          follows_later (follows_eventually
          (follows_then (descends_same (IsKept in_run) new)
          (λ _. known_follows in_run known (λ m. inside g (meaning (calls_to ctors fs m) h.body new args))
          (λ w e. comes_inside g (value_known new known told.value w e).body)))
          (both_eventually told.allowed.run told.measured.run (λ m a f.
          ap (λ o. enters (calls_to ctors fs m) ctors o old g pre down args) is ∙ entered_call (calls_to ctors fs m)
          ctors h args new a f old g pre down)))

      -- ---- in a guess run's own frame

      module _ (c : CheckId) (contracts outer : CallMeaning) where
        goes_on : (t : Bool) → allowed contracts h.pre args ≡ Ok t
            → own_call ctors c contracts outer (Some h) old g pre down args
            ≡ and_then (admitted pre t) (λ _. and_then (compared ctors c contracts h.measure g down old args)
            (λ _. outer old g pre down args))
        goes_on t e =
            ap (λ q. and_then q (λ _. and_then (compared ctors c contracts h.measure g down old args)
            (λ _. outer old g pre down args)))
            (ap (λ q. and_then (inside g q) (λ t. either t (Ok tt) (failed pre))) e)

        own_refused : allowed contracts h.pre args ≡ Ok false
            → own_call ctors c contracts outer (Some h) old g pre down args ≡ failed pre
        own_refused e = goes_on false e ∙ failed_stays pre _

        own_reached : (new : Frame) → allowed contracts h.pre args ≡ Ok true
            → frame_of contracts h.measure args ≡ Ok new
            → own_call ctors c contracts outer (Some h) old g pre down args
            ≡ and_then (either (is_check c down) (descends ctors down old new) (Ok tt)) (λ _. outer old g pre down args)
        own_reached new a f =
            goes_on true a
            ∙ ap (λ q. and_then (either (is_check c down) (and_then (inside g q) (λ new. descends ctors down old new))
            (Ok tt)) (λ _. outer old g pre down args)) f

      -- where another measure check fails, it isn't looked at
      compared_follows : (c : CheckId) (n : ℕ) (new : Frame) (part : Part Value) (parts : ℕ → Part Value)
          → Follows NotInner (IsKept (in_own c n)) part parts
          → Follows NotInner (IsKept (in_own c n)) (and_then (descends ctors down old new) (λ _. part))
          (λ m. and_then (either (is_check c down) (descends ctors down old new) (Ok tt)) (λ _. parts m))
      compared_follows c n new part parts follows = by (descent down old new) (is_check c down) refl
        where
          S : Stop → Type 0
          S = IsKept (in_own c n)

          by : (descends ctors down old new ≡ Ok tt) ⊎ FailsDescent down old new → (t : Bool) → is_check c down ≡ t
              → Follows NotInner (IsKept (in_own c n)) (and_then (descends ctors down old new) (λ _. part))
              (λ m. and_then (either (is_check c down) (descends ctors down old new) (Ok tt)) (λ _. parts m))
          by (inl e) true is_t =
              subst (λ t. Follows NotInner (IsKept (in_own c n)) (and_then (descends ctors down old new) (λ _. part))
              (λ m. and_then (either t (descends ctors down old new) (Ok tt)) (λ _. parts m))) (sym is_t)
              (subst (λ q. Follows NotInner (IsKept (in_own c n)) (and_then q (λ _. part))
              (λ m. and_then q (λ _. parts m))) (sym e) follows)
          by (inl e) false is_t =
              subst (λ t. Follows NotInner (IsKept (in_own c n)) (and_then (descends ctors down old new) (λ _. part))
              (λ m. and_then (either t (descends ctors down old new) (Ok tt)) (λ _. parts m))) (sym is_t)
              (subst (λ q. Follows NotInner (IsKept (in_own c n)) (and_then q (λ _. part)) parts) (sym e) follows)
          by (inr f) true is_t =
              subst (λ t. Follows NotInner (IsKept (in_own c n)) (and_then (descends ctors down old new) (λ _. part))
              (λ m. and_then (either t (descends ctors down old new) (Ok tt)) (λ _. parts m))) (sym is_t)
              (subst (λ q. Follows NotInner (IsKept (in_own c n)) (and_then q (λ _. part))
              (λ m. and_then q (λ _. parts m))) (sym f.part) (follows_same {A = Value} (Err (Fails f.check)) tt))
          by (inr f) false is_t =
              subst (λ q. Follows NotInner (IsKept (in_own c n)) (and_then q (λ _. part))
              (λ m. and_then (either (is_check c down) (descends ctors down old new) (Ok tt)) (λ _. parts m)))
              (sym f.part)
              (follows_lost tt (λ same.
              let no : true ≡ false = sym (eq-eqb f.check.0 c.0 same) ∙ sym (ap (is_check c) f.site) ∙ is_t in cc))

      own_follows : (c : CheckId) (n : ℕ) (fate : Fate) → IsTold g h args fate → IsFollowed (in_own c n) (Some fate)
      own_follows c n refused told =
          follows_eventually (failed_same (IsKept (in_own c n))) (mapped (told.called (one_less n)) (λ m e.
          ap (λ o. own_call ctors c (called_over ctors fs (one_less n) m) (called_over ctors fs n m) o old g pre down
          args) is
          ∙ own_refused c (called_over ctors fs (one_less n) m) (called_over ctors fs n m) e))
      own_follows c n (reaches new known) told =
          follows_eventually
          (compared_follows c n new (or_deep known) (λ m. called_over ctors fs n m old g pre down args)
          (known_follows (in_own c n) known (λ m. called_over ctors fs n m old g pre down args)
          (λ w e. (value_known new known told.value w e).called n old pre down)))
          (both_eventually (told.allowed.called (one_less n)) (told.measured.called (one_less n)) (λ m a f.
          ap (λ o. own_call ctors c (called_over ctors fs (one_less n) m) (called_over ctors fs n m) o old g pre down
          args) is
          ∙ own_reached c (called_over ctors fs (one_less n) m) (called_over ctors fs n m) new a f))

      called_follows : (n : ℕ) (fate : Fate) → IsTold g h args fate → IsFollowed (in_called n) (Some fate)
      called_follows n refused told = by pre
        where
          by : (check : Option CheckId) → Follows NotInner (IsKept (in_called n)) (failed check)
              (λ m. called_over ctors fs n m None g pre down args)
          by None = follows_lost tt (λ s. s)
          by (Some d) = follows_lost tt (λ s. s)
      called_follows n (reaches new known) told = by (descent down old new)
        where
          by : (descends ctors down old new ≡ Ok tt) ⊎ FailsDescent down old new
              → IsFollowed (in_called n) (Some (reaches new known))
          by (inl e) =
              subst (λ q. Follows NotInner (IsKept (in_called n)) (and_then q (λ _. or_deep known))
              (λ m. called_over ctors fs n m None g pre down args)) (sym e)
              (known_follows (in_called n) known _ (λ w e. (value_known new known told.value w e).called n None pre
              down))
          by (inr f) =
              subst (λ q. Follows NotInner (IsKept (in_called n)) (and_then q (λ _. or_deep known))
              (λ m. called_over ctors fs n m None g pre down args)) (sym f.part)
              (follows_lost tt (λ s. s))

    -- what a call comes to that is told is followed in each view
    pub fate_follows : (v : View) (fate : Option Fate) → IsToldCall g args fate → IsFollowed v fate
    fate_follows v None told = follows_lost tt (deep_lost v)
    fate_follows in_run (Some fate) told = run_follows told.0 told.1 fate told.2
    fate_follows (in_own c n) (Some fate) told = own_follows told.0 told.1 c n fate told.2
    fate_follows (in_called n) (Some fate) told = called_follows told.0 told.1 n fate told.2
