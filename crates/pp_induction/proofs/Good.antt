-- No run of a function that is good fails a check.
use Rattle.std.proofs.Common.{◌≡◌, ◌⊎◌, ℕ, ◌≤◌, List, Bool, true, false, refl, sym, ◌∙◌, arith, inl, inr}
use Rattle.std.specs.Prelude.{nat_lt}
use Rattle.std.proofs.lemmas.Bool.{ltb-false, ltb-true}
use Rattle.pp_prog.specs.declared.expr.Function.{Function}
use Rattle.pp_prog.specs.declared.id.CheckId.{CheckId}
use Rattle.pp_prog.specs.declared.types.Ctor.{Ctor}
use Rattle.pp_prog.specs.declared.value.Value.{Value}
use Rattle.pp_eval.specs.declared.outcome.Outcome.{Outcome}
use Rattle.pp_eval.specs.declared.outcome.Outcome.TheVariants.{Deep, Done, Fails, Outside}
use Rattle.pp_eval.specs.Runs.{run}
use Rattle.pp_eval.proofs.Lasts.{lasts}
use Rattle.pp_induction.specs.Ends.{GoodNeverFail}
use Rattle.pp_induction.proofs.Ranks.{settled_are_good}

-- a run isn't Deep, so it is the same with more fuel
abbrev IsEnded : Outcome → Type 0
IsEnded o = o ≡ Deep → ⊥

module _ (ctors : List Ctor) (functions : List Function) (f : Function) (args : List Value) where
  -- runs that aren't Deep are the same
  same_ends : (n m : ℕ) → IsEnded (run ctors functions f args n) → IsEnded (run ctors functions f args m)
      → run ctors functions f args n ≡ run ctors functions f args m
  same_ends n m first second = by (nat_lt n m) refl
    where
      by : (b : Bool) → nat_lt n m ≡ b → run ctors functions f args n ≡ run ctors functions f args m
      by true e =
          let le : n ≤ m = (let lt = ltb-true n m e in omega arith) in sym (lasts ctors functions f args n m le first)
      by false e = lasts ctors functions f args m n (ltb-false n m e) second

  module _ (c : CheckId) (n : ℕ) (fails : run ctors functions f args n ≡ Fails c) where
    fails_ended : IsEnded (run ctors functions f args n)
    fails_ended deep = let no : Fails c ≡ Deep = sym fails ∙ deep in cc

    never_outside : (m : ℕ) → run ctors functions f args m ≡ Outside → ⊥
    never_outside m outside =
        let ended : IsEnded (run ctors functions f args m) =
        λ deep. (let no : Outside ≡ Deep = sym outside ∙ deep in cc) in
        let no : Fails c ≡ Outside = sym fails ∙ same_ends n m fails_ended ended ∙ outside in cc

    never_done : (m : ℕ) (v : Value) → run ctors functions f args m ≡ Done v → ⊥
    never_done m v done =
        let ended : IsEnded (run ctors functions f args m) =
        λ deep. (let no : Done v ≡ Deep = sym done ∙ deep in cc) in
        let no : Fails c ≡ Done v = sym fails ∙ same_ends n m fails_ended ended ∙ done in cc

pub good_never_fail : GoodNeverFail
good_never_fail plan p is_plan i settled g c cone n f args called fails =
    let good = settled_are_good plan p is_plan i settled g f cone called.function args called.arguments in
    by good.0 good.1
  where
    by : (m : ℕ) → (run p.types.ctors p.functions f args m ≡ Outside)
        ⊎ ((v : Value) × (run p.types.ctors p.functions f args m ≡ Done v)) → ⊥
    by m (inl outside) = never_outside p.types.ctors p.functions f args c n fails m outside
    by m (inr done) = never_done p.types.ctors p.functions f args c n fails m done.0 done.1
