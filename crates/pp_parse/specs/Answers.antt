-- What the parser's answers mean.
use Rattle.std.specs.Prelude.{ℕ, ◌≡◌, ◌⊎◌, List, [], ◌∷◌, ◌++◌, Option, Some, None, MatchOption, Result, MatchResult}
use Rattle.pp_tokens.specs.declared.token.Token.{Token}
use Rattle.pp_tree.specs.Plain.{Word, UnitTree}
use Rattle.pp_tree.specs.Roots.{too_high, unit_roots}
use Rattle.pp_grammar.specs.Automaton.{run, start}
use Rattle.pp_grammar.specs.Frames.{State, between, within, failed, done, syntax_at, unsupported_at}
use Rattle.pp_grammar.specs.LeftOut.{first_unused}
use Rattle.pp_grammar.specs.Words.{word}
use Rattle.pp_parse_state.specs.declared.fault.Stop.{Stop}
use Rattle.pp_parse_state.specs.declared.fault.Stop.TheVariants as stop
use Rattle.pp_parse.specs.declared.fault.ParseFault.{ParseFault}
use Rattle.pp_parse.specs.declared.fault.ParseFault.TheVariants.{Syntax, TooDeep, Unsupported, Memory}
use Rattle.pp_parse_items.specs.Shown.{Fails}

-- the automaton neither stopped nor came to the end of a unit
abbrev pub IsOpen : State → Type 0
IsOpen (between d inside m) = Unit {0}
IsOpen (within d inside s m) = Unit {0}
IsOpen _ = ⊥

-- the refusal names this, unless memory is wanting
abbrev pub IsUnsupported : ParseFault → Word → ℕ → Type 0
IsUnsupported (Unsupported w at) v place = (w ≡ v) × (at ≡ place)
IsUnsupported Memory v place = Unit {0}
IsUnsupported _ v place = ⊥

-- the refusal is that for which the automaton stops, unless memory is wanting
abbrev pub IsStop : ParseFault → Stop → Type 0
IsStop f (stop.Unsupported w at) = IsUnsupported f w.now at
IsStop (Syntax at) (stop.Syntax place) = at ≡ place
IsStop Memory (stop.Syntax place) = ⊥
IsStop Memory stop.Memory = Unit {0}
IsStop _ _ = ⊥

-- what the run over all tokens answers, unless memory is wanting
abbrev pub Reads : {T : Type 0} → (T → UnitTree) → Result (Option T) Stop → State → Type 0
Reads unit r st = MatchResult r (λ o. MatchOption o (IsOpen st) (λ u. st ≡ done (unit u))) (λ e. Fails e st)

-- The tokens spell the unit: they have no reserved word that the grammar doesn't use, and the automaton comes to
-- its end. No tree of it is higher than 64.
pub record IsAnswer (text : Word) (ts : List Token) (u : UnitTree) : Type 0 where
  pub used : first_unused ts ≡ None
  pub reads : run text ts start ≡ done u
  pub low : too_high (unit_roots u) ≡ None

-- a tree of the unit that stands at the offset is higher than 64
pub record IsTooDeep (text : Word) (ts : List Token) (at : ℕ) : Type 0 where
  pub used : first_unused ts ≡ None
  pub unit : UnitTree
  pub reads : run text ts start ≡ done unit
  pub high : too_high (unit_roots unit) ≡ Some at

-- the last of the tokens begins at the offset
abbrev pub IsLast : List Token → ℕ → Type 0
IsLast ts at = (front : List Token) × (t : Token) × (ts ≡ front ++ t ∷ []) × (t.from ≡ at)

-- the automaton stops there, or at the last token without a unit
pub record IsSyntax (text : Word) (ts : List Token) (at : ℕ) : Type 0 where
  pub used : first_unused ts ≡ None
  pub stops : (run text ts start ≡ failed (syntax_at at)) ⊎ (IsOpen (run text ts start) × IsLast ts at)

-- why each refusal comes; want of memory has no cause in the tokens
abbrev pub IsRefusal : ParseFault → Word → List Token → Type 0
IsRefusal (Syntax at) text ts = IsSyntax text ts at
IsRefusal (TooDeep at) text ts = IsTooDeep text ts at
IsRefusal (Unsupported w at) text ts =
    MatchOption (first_unused ts) (run text ts start ≡ failed (unsupported_at w at))
    (λ t. (w ≡ word text t) × (at ≡ t.from))
IsRefusal Memory text ts = Unit {0}
