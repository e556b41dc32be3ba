-- What is known of the register of a performed step where all registers before it are known.
use Rattle.std.proofs.Common.{◌≡◌, ℕ, ◌<◌, Bool, true, false, List, [], ◌∷◌, ◌++◌, length, All}
use Rattle.std.proofs.Common.{sym, ◌∙◌, subst, arith}
use Rattle.std.proofs.lemmas.List.Elements.{All-cons}
use Rattle.pp_prog.specs.declared.types.TypeTable.{TypeTable}
use Rattle.pp_prog.specs.declared.value.Value.{Value}
use Rattle.pp_prog.specs.declared.value.Value.TheVariants.{Tree}
use Rattle.pp_gate.specs.declared.gate.Gate.{Gate}
use Rattle.pp_gate.proofs.Places.{at_left, at_next, at_some}
use Rattle.pp_domain.specs.declared.symbol.Symbol.{Symbol}
use Rattle.pp_domain.specs.Naming.{Naming}
use Rattle.pp_domain.specs.Moves.{Moves}
use Rattle.pp_domain.specs.Sense.{Sense, Good, Extended}
use Rattle.pp_domain.specs.Symbols.{SymbolStands}
use Rattle.pp_domain.proofs.Symbols.{SymbolStands_later}
use Rattle.pp_steps.specs.declared.step.Step.{Step}
use Rattle.pp_steps.specs.declared.step.Step.TheVariants as steps
use Rattle.pp_steps.specs.Gates.{Heights}
use Rattle.pp_steps.specs.Known.{Tells}
use Rattle.pp_steps.specs.Meaning.{Does, Missing, Values}
use Rattle.pp_steps.specs.Reads.{Below, Reads}
use Rattle.pp_steps.specs.Sorted.{Sorts}
use Rattle.std.proofs.lemmas.Option.{same_Some}
use Rattle.pp_build.specs.StepGates.{KeepsLooks, looked_trees}
use Rattle.pp_build.specs.Registers.{AreExpanded, AreRegisters, IsKnown}
use Rattle.pp_build.specs.Followed.{CanFollow, Compares, Goes}
use Rattle.pp_build.specs.Performed.{CanPerform, IsPerformed}
use Rattle.pp_domain.specs.Symbols.{IsSymbol, symbol_height}
use Rattle.pp_steps.specs.Gates.{height_of}

-- the step tells its value from those of all its operands
abbrev pub IsDetermined : Values → Step → Type 0
IsDetermined ρ (steps.Open s) = ⊥
IsDetermined ρ (steps.CtorField c i a) = (fields : List Value) × (ρ a ≡ Tree c fields)
IsDetermined ρ (steps.HasAnswer c) = ⊥
IsDetermined ρ (steps.Answer c) = ⊥
IsDetermined ρ s = Unit {0}

all_below : (K : ℕ → Type 0) (k : ℕ) (ns : List ℕ) → Below k ns → ((i : ℕ) → i < k → K i) → All K ns
all_below K k [] below all = λ i d lt. absurd (omega arith)
all_below K k (n ∷ ns) below all = All-cons K n ns (all n below.0) (all_below K k ns below.1 all)

pub told : (ρ : Values) (K : ℕ → Type 0) (k : ℕ) (s : Step) → Reads k s → IsDetermined ρ s
    → ((i : ℕ) → i < k → K i) → Tells ρ K s k → K k
told ρ K k (steps.Open s) reads is all tells = absurd is
told ρ K k (steps.Int n) reads is all tells = tells
told ρ K k (steps.Bool b) reads is all tells = tells
told ρ K k (steps.Not a) reads is all tells = tells (all a reads)
told ρ K k (steps.Both a b) reads is all tells = tells (all a reads.0) (λ e. all b reads.1)
told ρ K k (steps.Choose c a b) reads is all tells =
    tells (all c reads.0) (λ e. all a reads.1) (λ e. all b reads.2)
told ρ K k (steps.Unary op a) reads is all tells = tells (all a reads)
told ρ K k (steps.Binary op a b) reads is all tells = tells (all a reads.0) (all b reads.1)
told ρ K k (steps.Construct c fields) reads is all tells = tells (all_below K k fields reads all)
told ρ K k (steps.IsCtor c n a) reads is all tells = tells (all a reads)
told ρ K k (steps.CtorField c i a) reads is all tells = tells (all a reads) is.0 is.1
told ρ K k (steps.Field a i) reads is all tells = tells (all a reads)
told ρ K k (steps.IsAlike a b) reads is all tells = tells (all a reads.0) (all b reads.1)
told ρ K k (steps.GoesDown a b) reads is all tells = tells (all a reads.0) (all b reads.1)
told ρ K k (steps.HasAnswer c) reads is all tells = absurd is
told ρ K k (steps.Answer c) reads is all tells = absurd is

module _ {D T : Type 0} (m : Sense D T) (types : TypeTable) (d e : D) (gs hs : List Gate) (k : ℕ)
    (moves : Moves m types d gs e hs k) (σ : Sorts) (η : Heights) (rs : List (Symbol T))
    (are : AreRegisters m d gs σ η rs) (r : Symbol T) where
  -- an earlier register, after the step
  pub known_after : (s : Step) (n : Naming) (a : ℕ → Bool) (ρ : Values) (missing : Missing)
      → CanFollow m types d gs rs s σ n a ρ missing → (x : Extended m types gs n a e hs) (i : ℕ) → i < length rs
      → IsKnown m types e x.next n σ ρ (rs ++ r ∷ []) i
  known_after s n a ρ missing can x i lt =
      let y = at_some rs i lt in record {
        register = y.0;
        at = at_left rs (r ∷ []) i y.0 y.1;
        stands = SymbolStands_later m types d e gs hs k n a x.next (σ i) y.0 (ρ i) moves (are.of i y.0 y.1) x.agree
            (can.stand i y.0 y.1);
        sorted = can.are.sorted i (omega arith);
      }

  -- where the assignment goes on, the step's register stands for its value
  pub goes_on : (s : Step) (n : Naming) (a : ℕ → Bool) (ρ : Values) (missing : Missing)
      → (can : CanFollow m types d gs rs s σ n a ρ missing) → Reads (length rs) s → IsDetermined ρ s
      → (x : Extended m types gs n a e hs)
      → (Good m types e hs n x.next → Does types.ctors missing ρ s (ρ (length rs))
      → Tells ρ (IsKnown m types e x.next n σ ρ (rs ++ r ∷ [])) s (length rs))
      → Goes m types gs n a e hs r (ρ (length rs))
  goes_on s n a ρ missing can reads is x tells =
      let own = told ρ (IsKnown m types e x.next n σ ρ (rs ++ r ∷ [])) (length rs) s reads is
      (known_after s n a ρ missing can x) (tells x.good can.does) in
      let same : own.register ≡ r = same_Some own.register r (sym own.at ∙ at_next rs [] r) in
      (x, subst (λ y. SymbolStands m e x.next n y (ρ (length rs))) same own.stands)

-- the step tells its value from those of its operands, whatever they are
abbrev pub IsPlain : Step → Type 0
IsPlain (steps.Open s) = ⊥
IsPlain (steps.CtorField c i a) = ⊥
IsPlain (steps.GoesDown a b) = ⊥
IsPlain (steps.HasAnswer c) = ⊥
IsPlain (steps.Answer c) = ⊥
IsPlain s = Unit {0}

-- in an exact domain each step compares well
pub all_compared : {D T : Type 0} (m : Sense D T) (types : TypeTable) (σ : Sorts) (s : Step) → m.exact ≡ true
    → Compares m types σ s
all_compared m types σ (steps.Open s) exact = tt
all_compared m types σ (steps.Int z) exact = tt
all_compared m types σ (steps.Bool b) exact = tt
all_compared m types σ (steps.Not a) exact = tt
all_compared m types σ (steps.Both a b) exact = tt
all_compared m types σ (steps.Choose c a b) exact = tt
all_compared m types σ (steps.Unary op a) exact = tt
all_compared m types σ (steps.Binary op a b) exact = tt
all_compared m types σ (steps.Construct c fields) exact = tt
all_compared m types σ (steps.IsCtor c i a) exact = tt
all_compared m types σ (steps.CtorField c i a) exact = tt
all_compared m types σ (steps.Field a i) exact = tt
all_compared m types σ (steps.IsAlike a b) exact = tt
all_compared m types σ (steps.GoesDown a b) exact = λ of same. exact
all_compared m types σ (steps.HasAnswer c) exact = tt
all_compared m types σ (steps.Answer c) exact = tt

determined : (ρ : Values) (s : Step) → IsPlain s → IsDetermined ρ s
determined ρ (steps.Open s) plain = absurd plain
determined ρ (steps.Int z) plain = tt
determined ρ (steps.Bool b) plain = tt
determined ρ (steps.Not a) plain = tt
determined ρ (steps.Both a b) plain = tt
determined ρ (steps.Choose c a b) plain = tt
determined ρ (steps.Unary op a) plain = tt
determined ρ (steps.Binary op a b) plain = tt
determined ρ (steps.Construct c fields) plain = tt
determined ρ (steps.IsCtor c i a) plain = tt
determined ρ (steps.CtorField c i a) plain = absurd plain
determined ρ (steps.Field a i) plain = tt
determined ρ (steps.IsAlike a b) plain = tt
determined ρ (steps.GoesDown a b) plain = absurd plain
determined ρ (steps.HasAnswer c) plain = absurd plain
determined ρ (steps.Answer c) plain = absurd plain

module _ {D T : Type 0} (m : Sense D T) (types : TypeTable) (d e : D) (gs hs : List Gate) (k : ℕ)
    (moves : Moves m types d gs e hs k) (rs : List (Symbol T)) (step : Step) (can : CanPerform m types d gs rs step)
    (r : Symbol T) where
  -- a step whose register is known where its operands are: so it follows wherever a good assignment goes on
  pub performed : IsPlain step → KeepsLooks m d e can.sorts can.seen (length rs) step
      → AreExpanded m e (rs ++ r ∷ []) (looked_trees (length rs) step) → IsSymbol m e hs (can.sorts (length rs)) r
      → symbol_height m e r ≡ height_of types can.sorts can.heights (length rs) step
      → (m.exact ≡ true → (n : Naming) (a : ℕ → Bool) → Good m types d gs n a → Extended m types gs n a e hs)
      → (m.exact ≡ false → (n : Naming) (a : ℕ → Bool) (ρ : Values) (missing : Missing)
      → CanFollow m types d gs rs step can.sorts n a ρ missing → Extended m types gs n a e hs)
      → ((n : Naming) (a : ℕ → Bool) (ρ : Values) (missing : Missing) → Good m types e hs n a
      → Does types.ctors missing ρ step (ρ (length rs))
      → Tells ρ (IsKnown m types e a n can.sorts ρ (rs ++ r ∷ [])) step (length rs))
      → IsPerformed m types d gs rs step can.sorts can.heights can.seen e hs r
  performed plain looks expanded of high extends goes known = record {
    of = of;
    high = high;
    extends = extends;
    looks = looks;
    expanded = expanded;
    follows = λ inexact n a ρ missing follow.
        goes_on m types d e gs hs k moves can.sorts can.heights rs can.registers r step n a ρ missing follow can.reads
        (determined ρ step plain)
        (goes inexact n a ρ missing follow)
        (λ good does. known n (goes inexact n a ρ missing follow).next ρ missing good does);
    known = λ n a ρ missing good compared does. known n a ρ missing good does;
  }
