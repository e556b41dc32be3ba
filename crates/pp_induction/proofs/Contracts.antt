-- The precondition and the measure list of a function, which call functions whose calls are known.
use Rattle.std.proofs.Common.{◌≡◌, ◌⊎◌, ℕ, Bool, true, false, List, Option, Some, None, Ok, map, ap, ◌∙◌, inl, inr}
use Rattle.pp_list.specs.Joined.{joined}
use Rattle.pp_prog.specs.declared.expr.Expr.{Expr}
use Rattle.pp_prog.specs.declared.expr.Function.{Function}
use Rattle.pp_prog.specs.declared.id.CheckId.{CheckId}
use Rattle.pp_prog.specs.declared.program.Program.{Program}
use Rattle.pp_prog.specs.declared.value.Value.{Value}
use Rattle.pp_prog.specs.Calls.{calls, contract_calls, pre_calls}
use Rattle.pp_prog.specs.ExprSorts.{is_sorted_pre}
use Rattle.pp_prog.specs.Listing.{pre_sites}
use Rattle.pp_prog.specs.Sorts.{param_sorts}
use Rattle.pp_eval.specs.declared.outcome.Outcome.TheVariants.{Outside}
use Rattle.pp_eval.specs.Invocation.{allowed, frame_of}
use Rattle.pp_eval.specs.Meaning.{CallMeaning, Frame, meaning}
use Rattle.pp_eval.specs.Part.{and_then, either}
use Rattle.pp_eval.specs.Runs.{finished, started}
use Rattle.pp_sound.specs.Sound.{IsCalled, IsCheckOf}
use Rattle.pp_sound.proofs.Calls.{condition_fine, whole}
use Rattle.pp_sound.proofs.Exprs.{AreGood}
use Rattle.pp_sound.proofs.Parts.{IsAny, IsFine, MayStop, fine_value}
use Rattle.pp_sound.proofs.Sites.{AreMet}
use Rattle.pp_run_laws.proofs.Depends.{allowed_same, frame_same, same_left, same_right}
use Rattle.pp_run_laws.proofs.Eventually.{both_eventually, mapped}
use Rattle.pp_run_laws.proofs.Follows.{Comes}
use Rattle.pp_run_laws.proofs.MeasureSorts.{IsFrameOf, frame_sorted}
use Rattle.pp_induction.specs.Ends.{IsSettled}
use Rattle.pp_induction.proofs.Callees.{AreKnown}
use Rattle.pp_induction.proofs.Parts.{allowed_follows, frame_follows}
use Rattle.pp_induction.proofs.Refuted.{FailIn, Settled, part_settles, refuted, runs_in}
use Rattle.pp_induction.proofs.Views.{View, calls_in}

module _ (p : Program) (i : ℕ) (f : Function) (args : List Value) where
  -- the precondition is true, and the measure list comes to the frame
  pub record Enters (new : Frame) : Type 0 where
    pub allowed : (v : View) → Comes (λ m. allowed (calls_in p.types.ctors p.functions v m) f.pre args) true
    pub measured : (v : View) → Comes (λ m. frame_of (calls_in p.types.ctors p.functions v m) f.measure args) new
    pub sorted : IsFrameOf p f.measure (param_sorts f.params) new

  -- the precondition is false, or true, and then the measure list comes to a frame
  abbrev pub Contracts : Type 0
  Contracts =
      ((v : View) → Comes (λ m. allowed (calls_in p.types.ctors p.functions v m) f.pre args) false)
      ⊎ ((new : Frame) × Enters new)

  module _ (called : IsCalled p i f args) (settled : (c : CheckId) → IsCheckOf p i c.0 → IsSettled p i c)
      (known : AreKnown p i None (contract_calls f)) where
    allowed_fine : (D : Type 0) (cs : CallMeaning) → AreGood p D i cs
        → IsFine (MayStop p D i) (IsAny {A = Bool}) (allowed cs f.pre args)
    allowed_fine D cs good = let w = whole p i f called.function in by f.pre w.pre_sorted w.pre_met
      where
        by : (pre : Option Expr) → is_sorted_pre p.types p.functions pre (param_sorts f.params) ≡ true
            → AreMet p i (pre_sites p.types p.functions pre (param_sorts f.params))
            → IsFine (MayStop p D i) (IsAny {A = Bool}) (allowed cs pre args)
        by None sorted met = fine_value tt
        by (Some pre) sorted met =
            condition_fine p D i cs good pre (param_sorts f.params) sorted met None args called.arguments

    stops_first : (c : CheckId) → FailIn c (λ v m. allowed (calls_in p.types.ctors p.functions v m) f.pre args)
        → FailIn c (runs_in p i f args called)
    stops_first c stops v kept =
        mapped (stops v kept) (λ m e. ap (λ q. and_then q (λ allows. either allows
        (started (calls_in p.types.ctors p.functions v m) f args) (Ok Outside))) e)

    pre_settles : Settled (IsAny {A = Bool}) (λ v m. allowed (calls_in p.types.ctors p.functions v m) f.pre args)
    pre_settles =
        part_settles p i None (contract_calls f) known IsAny (λ cs. allowed cs f.pre args) _ allowed_fine
        (λ cs same. allowed_same _ cs f.pre (same_left (pre_calls f.pre) (joined (map calls f.measure)) _ cs same) args)
        (λ v. allowed_follows p i (contract_calls f) known v f.pre args)
        (λ c is stops. refuted p i f args called c (settled c is) (stops_first c stops))

    stops_second : (c : CheckId) → ((v : View)
        → Comes (λ m. allowed (calls_in p.types.ctors p.functions v m) f.pre args) true)
        → FailIn c (λ v m. frame_of (calls_in p.types.ctors p.functions v m) f.measure args)
        → FailIn c (runs_in p i f args called)
    stops_second c first stops v kept =
        both_eventually (first v) (stops v kept) (λ m a e.
        let cs = calls_in p.types.ctors p.functions v m in
        ap (λ q. and_then q (λ allows. either allows (started cs f args) (Ok Outside))) a
        ∙ ap (λ q. and_then q (λ frame. and_then (meaning cs f.body frame args)
        (λ w. finished cs f.post frame args w))) e)

    measure_settles : ((v : View) → Comes (λ m. allowed (calls_in p.types.ctors p.functions v m) f.pre args) true)
        → Settled (IsFrameOf p f.measure (param_sorts f.params))
        (λ v m. frame_of (calls_in p.types.ctors p.functions v m) f.measure args)
    measure_settles first =
        let w = whole p i f called.function in
        part_settles p i None (contract_calls f) known (IsFrameOf p f.measure (param_sorts f.params))
        (λ cs. frame_of cs f.measure args) _
        (λ D cs good. frame_sorted p D i cs good f.measure (param_sorts f.params) w.measure_sorted w.measure_met args
        called.arguments)
        (λ cs same. frame_same _ cs f.measure (same_right (pre_calls f.pre) (joined (map calls f.measure)) _ cs same)
        args)
        (λ v. frame_follows p i (contract_calls f) known v f.measure args)
        (λ c is stops. refuted p i f args called c (settled c is) (stops_second c first stops))

    -- where the calls of its precondition and its measure list are known, they settle
    pub contracts_settle : Contracts
    contracts_settle = let s = pre_settles in by s.value s.comes
      where
        by : (t : Bool) → ((v : View) → Comes (λ m. allowed (calls_in p.types.ctors p.functions v m) f.pre args) t)
            → Contracts
        by false comes = inl comes
        by true comes =
            let m = measure_settles comes in
            inr (m.value, record { allowed = comes; measured = m.comes; sorted = m.holds })
