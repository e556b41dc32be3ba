-- What is true of one program of sources is true of the other.
use Rattle.std.proofs.Common.{◌≡◌, ◌<◌, ◌+◌, ℕ, List, codes, length, sym, ap, ◌∙◌, subst}
use Rattle.std.specs.Prelude.{Some, slice_get}
use Rattle.pp_answers.proofs.Once.{AreAlike, swapped}
use Rattle.pp_answers.specs.Claims.{AreLinesOf, InvalidFails, IsStatusOf, LineSays, OpenIsSearched, ValidIsGood}
use Rattle.pp_eval.specs.Runs.{AreArguments, IsGood, run as run_of}
use Rattle.pp_induct.specs.declared.limits.Limits.{Limits}
use Rattle.pp_induction.specs.Ends.{NoLowRunFails}
use Rattle.pp_modes.specs.declared.status.Status.{Status}
use Rattle.pp_print.specs.Lines.{invalid_text}
use Rattle.pp_prog.specs.declared.expr.Function.{Function}
use Rattle.pp_prog.specs.declared.id.CheckId.{CheckId}
use Rattle.pp_prog.specs.declared.program.Program.{Program}
use Rattle.pp_prog.specs.declared.types.TypeTable.{TypeTable}
use Rattle.pp_prog.specs.declared.value.Value.{Value}
use Rattle.pp_sound.specs.Counterexample.{IsCounterexample}
use Rattle.pp_sound.specs.Sound.{IsCalled, IsCheckOf}

module _ (p q : Program) (alike : AreAlike p q) where
  pub same_run : (f : Function) (args : List Value) (n : ℕ)
      → run_of p.types.ctors p.functions f args n ≡ run_of q.types.ctors q.functions f args n
  same_run f args n =
      ap (λ (t : TypeTable). run_of t.ctors p.functions f args n) alike.types
      ∙ ap (λ fs. run_of q.types.ctors fs f args n) alike.functions

  pub good_there : (f : Function) → IsGood p.types.ctors p.functions f → IsGood q.types.ctors q.functions f
  good_there f h =
      subst (λ (t : TypeTable). IsGood t.ctors q.functions f) alike.types
      (subst (λ fs. IsGood p.types.ctors fs f) alike.functions h)

  abbrev pub check_there : (i c : ℕ) → IsCheckOf p i c → IsCheckOf q i c
  check_there i c own = record {
    check = own.check;
    listed = ap (λ cs. slice_get cs c) (sym alike.checks) ∙ own.listed;
    owner = own.owner;
  }

  called_there : (i : ℕ) (f : Function) (args : List Value) → IsCalled p i f args → IsCalled q i f args
  called_there i f args called = record {
    function = ap (λ fs. slice_get fs i) (sym alike.functions) ∙ called.function;
    arguments = subst (λ (t : TypeTable). AreArguments t.ctors (Some f) args) alike.types called.arguments;
  }

  pub counterexample_there : (i : ℕ) (c : CheckId) (n d : ℕ) (args : List Value) → IsCounterexample p i c n d args
      → IsCounterexample q i c n d args
  counterexample_there i c n d args h = record {
    function = h.function;
    called = called_there i h.function args h.called;
    low = h.low;
    fails = sym (same_run h.function args n) ∙ h.fails;
  }

  -- ---- the claims

  pub lines_there : (lines : List (List ℕ)) (s : Status) → AreLinesOf p lines s → AreLinesOf q lines s
  lines_there lines s h = record {
    size = h.size ∙ ap (λ (fs : List Function). length fs + 1) alike.functions;
    names = subst (λ (fs : List Function). (i : ℕ) → i < length fs → LineSays fs lines (codes ": ") i) alike.functions
        h.names;
    status = subst (λ (fs : List Function). IsStatusOf fs lines s) alike.functions h.status;
  }

  pub valid_there : (i : ℕ) (f : Function) (line : List ℕ) → ValidIsGood p i f line → ValidIsGood q i f line
  valid_there i f line h s = good_there f (h s)

module _ (p q : Program) (alike : AreAlike p q) (limits : Limits) (i : ℕ) (f : Function) (line : List ℕ) where
  pub invalid_there : InvalidFails limits p i f line → InvalidFails limits q i f line
  invalid_there h s =
      let n = h s in
      record {
        number = n.number;
        own = check_there p q alike i n.number.0 n.own;
        args = n.args;
        fuel = n.fuel;
        asked = n.asked;
        fails = counterexample_there p q alike i n.number n.fuel limits.depth n.args n.fails;
        printed = n.printed
            ∙ ap (λ (t : TypeTable). invalid_text t.ctors f.name n.own.check.kind n.own.check.place f.params n.args)
            alike.types;
      }

  pub none_there : (c : CheckId) (n d : ℕ) → NoLowRunFails p i c n d → NoLowRunFails q i c n d
  none_there c n d none g args called low fails =
      none g args (called_there q p (swapped alike) i g args called) low (same_run p q alike g args n ∙ fails)

  pub open_there : OpenIsSearched limits p i f line → OpenIsSearched limits q i f line
  open_there h s =
      let n = h s in
      record {
        number = n.number;
        own = check_there p q alike i n.number.0 n.own;
        round = n.round;
        asked = n.asked;
        none = none_there n.number n.round limits.depth n.none;
        reason = n.reason;
        printed = n.printed;
      }
