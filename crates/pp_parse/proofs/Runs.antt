-- The run over all tokens, one token at a time.
use Rattle.std.proofs.Common.{ℕ, ◌≡◌, ◌+◌, ◌-◌, ◌<◌, ◌≤◌, length, length-append, get_or, take, drop, arith, List, []}
use Rattle.std.proofs.Common.{◌∷◌, ◌++◌, All, refl, ap, sym, ◌∙◌, subst, Bool, true, false, cond, Option, Some}
use Rattle.std.proofs.lemmas.List.{take_more, drop_more, drop_all, take_all}
use Rattle.std.proofs.lemmas.List.Elements.{All-head, All-tail}
use Rattle.pp_tokens.specs.declared.token.Token.{Token}
use Rattle.pp_tokens.specs.declared.token.TokenKind.TheVariants.{End}
use Rattle.pp_tokens.specs.Cutting.{token}
use Rattle.pp_tokens.specs.Spans.{HasEnd}
use Rattle.pp_tree.specs.Plain.{Word}
use Rattle.pp_grammar.specs.Automaton.{run, step}
use Rattle.pp_grammar.specs.Frames.{Parsed, State, Fault, failed, syntax_at, unsupported_at}
use Rattle.pp_grammar.specs.LeftOut.{first_unused, is_unused}
use Rattle.pp_parse_state.specs.declared.fault.Stop.{Stop}
use Rattle.pp_parse_state.specs.declared.fault.Stop.TheVariants.{Memory, Syntax, Unsupported}
use Rattle.pp_parse_state.specs.Shown.{Shown}
use Rattle.pp_parse_items.specs.declared.place.Place.{Place}
use Rattle.pp_parse_items.specs.declared.place.Place.TheVariants.{Between, Within, Done}
use Rattle.pp_parse.specs.Answers.{IsLast, IsOpen}
use Rattle.pp_parse_items.specs.Shown.{Fails, state_of}

-- ---- the first unused word is a token

pub chosen : (P : Token → Type 0) (b : Bool) (x t : Token) (o : Option Token) → cond b (Some x) o ≡ Some t → P x
    → (o ≡ Some t → P t) → P t
chosen P true x t o e here there = let same : x ≡ t = cc in subst P same here
chosen P false x t o e here there = there e

pub unused_holds : (P : Token → Type 0) (ts : List Token) (t : Token) → All P ts → first_unused ts ≡ Some t → P t
unused_holds P [] t all e = cc
unused_holds P (x ∷ xs) t all e =
    chosen P (is_unused x.kind) x t (first_unused xs) e (All-head P x xs all)
    (unused_holds P xs t (All-tail P x xs all))

-- ---- there is a last token

pub some_tokens : (n : ℕ) (ts : List Token) → HasEnd n ts → 0 < length ts
some_tokens n ts h = omega (arith, ap length h.whole, length-append h.front (token End n n ∷ []))

pub last_is : (ts : List Token) (t : Token) → 0 < length ts → t ≡ get_or ts (length ts - 1) t → IsLast ts t.from
last_is ts t some is =
    let n : (length ts - 1) + 1 ≡ length ts = omega arith in (
      take (length ts - 1) ts,
      t,
      sym (take_all (length ts) ts (omega arith)) ∙ ap (λ k. take k ts) (sym n)
          ∙ take_more ts (length ts - 1) t (omega arith) ∙ ap (λ u. take (length ts - 1) ts ++ u ∷ []) (sym is),
      refl,
    )

-- ---- one token

run_one : (text : Word) (ts : List Token) (i : ℕ) (d : Token) (st : State) → i < length ts
    → run text (drop i ts) st ≡ run text (drop (i + 1) ts) (step text (get_or ts i d) st)
run_one text ts i d st below = ap (λ us. run text us st) (drop_more ts i d below)

pub run_turn : (text : Word) (ts : List Token) (i : ℕ) (d : Token) (st new r : State) → i < length ts
    → step text (get_or ts i d) st ≡ new → run text (drop i ts) st ≡ r → run text (drop (i + 1) ts) new ≡ r
run_turn text ts i d st new r below one so_far = ap (run text (drop (i + 1) ts)) (sym one)
    ∙ sym (run_one text ts i d st below) ∙ so_far

-- nothing follows a fault
run_failed : (text : Word) (ts : List Token) (f : Fault) → run text ts (failed f) ≡ failed f
run_failed text [] f = refl
run_failed text (t ∷ ts) f = run_failed text ts f

pub fails_run : (e : Stop) (text : Word) (ts : List Token) (i : ℕ) (d : Token) (st r : State) → i < length ts
    → Fails e (step text (get_or ts i d) st) → run text (drop i ts) st ≡ r → Fails e r
fails_run Memory text ts i d st r below h so_far = tt
fails_run (Syntax at) text ts i d st r below h so_far =
    sym so_far ∙ run_one text ts i d st below ∙ ap (run text (drop (i + 1) ts)) h
    ∙ run_failed text (drop (i + 1) ts) (syntax_at at)
fails_run (Unsupported w at) text ts i d st r below h so_far =
    sym so_far ∙ run_one text ts i d st below ∙ ap (run text (drop (i + 1) ts)) h
    ∙ run_failed text (drop (i + 1) ts) (unsupported_at w.now at)

-- behind the last token
pub run_ended : (text : Word) (ts : List Token) (i : ℕ) (st r : State) → length ts ≤ i → run text (drop i ts) st ≡ r
    → st ≡ r
run_ended text ts i st r end so_far = ap (λ us. run text us st) (sym (drop_all i ts end)) ∙ so_far

-- the parser neither stopped nor came to the end of a unit
pub still_open : (d : Parsed) (s : Shown) (p : Place) (r : State) → ((u : _) → p ≡ Done u → ⊥)
    → state_of d s p ≡ r → IsOpen r
still_open d s (Between inside m) r unlike is = let P : State → Type 0 = λ x. IsOpen x in subst P is tt
still_open d s (Within inside m) r unlike is = let P : State → Type 0 = λ x. IsOpen x in subst P is tt
still_open d s (Done u) r unlike is = absurd (unlike u refl)
