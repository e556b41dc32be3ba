-- What is known of checks after a list of turns. Source: own.
use Rattle.std.specs.Prelude.{◌≡◌, ◌<◌, ℕ, suc, nat_eq, if◌then◌else◌, IfSome, List, [], ◌∷◌, MatchOption, Some, None}
use Rattle.std.specs.Prelude.{length, slice_get}
use Rattle.pp_prog.specs.declared.id.CheckId.{CheckId}
use Rattle.pp_prog.specs.declared.program.Program.{Program}
use Rattle.pp_induct.specs.declared.limits.Limits.{Limits}
use Rattle.pp_induct.specs.Reports.{AreLimits, IsEnd}
use Rattle.pp_sound.specs.Sound.{IsCheckOf}
use Rattle.pp_verify.specs.declared.shared.Shared.{Shared}
use Rattle.pp_verify.specs.Rounds.{HasCome}
use Rattle.pp_verify.specs.Shared.{AreShared}
use Rattle.pp_turns.specs.declared.part.Turn.{Turn}
use Rattle.pp_turns.specs.declared.turns.Turns.{Turns}

-- how often the list names check number c
abbrev pub times : ℕ → List CheckId → ℕ
times c [] = 0
times c (name ∷ names) = if nat_eq name.0 c then suc (times c names) else times c names

-- after so many turns of a check it has ended in a round below this number, or stands at the round of this number
abbrev pub HasTurned : ℕ → Turn → Type 0
HasTurned k turn = MatchOption turn.end (turn.progress.round ≡ k) (λ end. turn.progress.round < k)

-- so it is with each check after the turns of this list
abbrev pub AreTurned : List CheckId → List Turn → Type 0
AreTurned names turns =
    (c : ℕ) (turn : Turn) → slice_get turns c ≡ Some turn → HasTurned (times c names) turn

-- the list names each check once more than there are rounds after the first one
abbrev pub IsNamedEnough : Program → Limits → List CheckId → Type 0
IsNamedEnough p limits names = (c : ℕ) → c < length p.checks → limits.rounds < times c names

-- what a turn of check number c leaves: the round, the end and the work of every other check
pub record TouchesOnly (c : ℕ) (before after : Turns) : Type 0 where
  pub limits : after.limits ≡ before.limits
  pub size : length after.checks ≡ length before.checks
  pub others : (d : ℕ) → (d ≡ c → ⊥) → slice_get after.checks d ≡ slice_get before.checks d

module _ (p : Program) where
  -- nothing was done yet for check number c
  pub record IsFirst (c : ℕ) (turn : Turn) : Type 0 where
    pub own : IsCheckOf p turn.progress.function.0 c
    pub check : turn.progress.check.0 ≡ c
    pub round : turn.progress.round ≡ 0
    pub unended : turn.end ≡ None

  abbrev pub AreFirst : List Turn → Type 0
  AreFirst turns = (c : ℕ) (turn : Turn) → slice_get turns c ≡ Some turn → IsFirst c turn

  -- of check number c: the work on it has come to its round, and its end, if there is one, is one
  pub record IsTurn (limits : Limits) (c : ℕ) (turn : Turn) : Type 0 where
    pub check : turn.progress.check.0 ≡ c
    pub come : HasCome p limits turn.progress
    pub ended : IfSome turn.end (IsEnd p limits turn.progress.function.0 turn.progress.check)

  -- what the checks of each function share, by its number, is so
  abbrev pub AreAllShared : Limits → List Shared → Type 0
  AreAllShared limits shared = (i : ℕ) (s : Shared) → slice_get shared i ≡ Some s → AreShared p limits i s

  -- the checks are those of the program, each with its work and its end
  pub record AreTurns (turns : Turns) : Type 0 where
    pub limits : AreLimits turns.limits
    pub size : length turns.checks ≡ length p.checks
    pub each : (c : ℕ) (turn : Turn) → slice_get turns.checks c ≡ Some turn → IsTurn turns.limits c turn
    pub functions : length turns.shared.items ≡ length p.functions
    pub shared : AreAllShared turns.limits turns.shared.items
