-- The parser's answers, in the words of the grammar.
use Rattle.std.proofs.Common.{ℕ, ◌≡◌, ◌-◌, ◌<◌, ◌⊎◌, inl, inr, length, arith, List, [], ◌∷◌, ◌++◌, append_assoc, refl}
use Rattle.std.proofs.Common.{sym, ◌∙◌, subst, Option, Some, None, MatchOption, Result, Ok, Err, IfOk, IfErr}
use Rattle.pp_tokens.specs.declared.token.Token.{Token}
use Rattle.pp_tree.specs.Count.{UnitFewCases}
use Rattle.pp_tree.specs.Offsets.{UnitOffsets}
use Rattle.pp_tree.specs.Plain.{Word, UnitTree}
use Rattle.pp_tree.specs.Roots.{too_high, unit_roots}
use Rattle.pp_grammar.specs.Automaton.{run, start}
use Rattle.pp_grammar.specs.Frames.{State, between, within, failed, done, syntax_at, unsupported_at}
use Rattle.pp_grammar.specs.LeftOut.{HasLeftOut, first_unused, is_unused}
use Rattle.pp_grammar.specs.Units.{SpellsUnit}
use Rattle.pp_grammar.specs.Words.{word}
use Rattle.pp_grammar_sound.proofs.SoundItems.{sound}
use Rattle.pp_grammar_complete.proofs.Complete.{complete}
use Rattle.pp_grammar_laws.specs.Laws.{SpellsNone, BeginsToken}
use Rattle.pp_grammar_laws.proofs.FaultItems.{fault_begins, unsupported_is_left_out}
use Rattle.pp_grammar_laws.proofs.Sizes.{offsets_begin, few_nodes, few_cases}
use Rattle.pp_grammar_laws.proofs.Unique.{unique, failed_spells_none}
use Rattle.pp_grammar_laws.proofs.Unused.{unused_spells_none}
use Rattle.pp_parse.specs.declared.fault.ParseFault.{ParseFault}
use Rattle.pp_parse.specs.declared.fault.ParseFault.TheVariants.{Syntax, TooDeep, Unsupported, Memory}
use Rattle.pp_parse.specs.Answers.{IsAnswer, IsLast, IsOpen, IsRefusal, IsUnsupported}
use Rattle.pp_parse.specs.Spelled.{IsWhy, StandsAtToken, IsHigh, AnswersUnit, RefusesWord, HasFewNodes}
use Rattle.pp_parse.proofs.Roots.{too_high_at}
use Rattle.pp_parse.proofs.Runs.{chosen}

-- ---- tokens

last_begins : (ts : List Token) (at : ℕ) → IsLast ts at → BeginsToken ts at
last_begins ts at h = record { front = h.0; token = h.1; rest = []; whole = h.2; place = h.3 }

unused_behind : (ts front us : List Token) (t : Token) → ts ≡ front ++ us → first_unused us ≡ Some t
    → BeginsToken ts t.from
unused_behind ts front [] t is e = cc
unused_behind ts front (x ∷ us) t is e =
    chosen (λ y. BeginsToken ts y.from) (is_unused x.kind) x t (first_unused us) e
    (record { front = front; token = x; rest = us; whole = is; place = refl })
    (unused_behind ts (front ++ x ∷ []) us t (is ∙ sym (append_assoc front (x ∷ []) us)))

unused_begins : (ts : List Token) (t : Token) → first_unused ts ≡ Some t → BeginsToken ts t.from
unused_begins ts t e = unused_behind ts [] ts t refl e

begins_at : (ts : List Token) (m n : ℕ) → m ≡ n → BeginsToken ts n → BeginsToken ts m
begins_at ts m n is h = let P : ℕ → Type 0 = λ k. BeginsToken ts k in subst P (sym is) h

-- ---- runs

not_done : (st : State) (u : UnitTree) → IsOpen st → st ≡ done u → ⊥
not_done (between d inside m) u h e = cc
not_done (within d inside s m) u h e = cc
not_done (failed f) u h e = h
not_done (done v) u h e = h

module _ (text : Word) (ts : List Token) where
  open_spells_none : IsOpen (run text ts start) → SpellsNone text ts
  open_spells_none h u spelled = not_done (run text ts start) u h (complete text ts u spelled)

  -- the cases of a refusal as unsupported
  by_unused : {A : Type 0} (w : Word) (at : ℕ) (o : Option Token) → first_unused ts ≡ o
      → MatchOption o (run text ts start ≡ failed (unsupported_at w at)) (λ t. (w ≡ word text t) × (at ≡ t.from))
      → (first_unused ts ≡ None → run text ts start ≡ failed (unsupported_at w at) → A)
      → ((t : Token) → first_unused ts ≡ Some t → w ≡ word text t → at ≡ t.from → A) → A
  by_unused w at None is h none some = none is h
  by_unused w at (Some t) is h none some = some t is h.0 h.1

  left_out : (w : Word) (at : ℕ) (o : Option Token)
      → MatchOption o (run text ts start ≡ failed (unsupported_at w at)) (λ t. (w ≡ word text t) × (at ≡ t.from))
      → MatchOption o (HasLeftOut text ts w at) (λ t. (w ≡ word text t) × (at ≡ t.from))
  left_out w at None h = unsupported_is_left_out text ts w at h
  left_out w at (Some t) h = h

  unsupported_spells_none : (w : Word) (at : ℕ) → IsRefusal (Unsupported w at) text ts → SpellsNone text ts
  unsupported_spells_none w at h =
      by_unused w at (first_unused ts) refl h (λ used stops. failed_spells_none text ts (unsupported_at w at) stops)
      (λ t is w_is at_is. unused_spells_none text ts t is)

  syntax_spells_none : (at : ℕ)
      → (run text ts start ≡ failed (syntax_at at)) ⊎ (IsOpen (run text ts start) × IsLast ts at)
      → SpellsNone text ts
  syntax_spells_none at (inl stops) = failed_spells_none text ts (syntax_at at) stops
  syntax_spells_none at (inr h) = open_spells_none h.0

  syntax_begins : (at : ℕ) → (run text ts start ≡ failed (syntax_at at)) ⊎ (IsOpen (run text ts start) × IsLast ts at)
      → BeginsToken ts at
  syntax_begins at (inl stops) = fault_begins text ts (syntax_at at) stops
  syntax_begins at (inr h) = last_begins ts at h.1

  why : (f : ParseFault) → IsRefusal f text ts → IsWhy f text ts
  why (Syntax at) h = record { unspelled = syntax_spells_none at h.stops; used = h.used }
  why (TooDeep at) h = record { unit = h.unit; spelled = sound text ts h.unit h.reads; high = h.high }
  why (Unsupported w at) h =
      record { unspelled = unsupported_spells_none w at h; named = left_out w at (first_unused ts) h }
  why Memory h = tt

  stands : (f : ParseFault) → IsRefusal f text ts → StandsAtToken f ts
  stands (Syntax at) h = syntax_begins at h.stops
  stands (TooDeep at) h =
      too_high_at (BeginsToken ts) h.unit at (offsets_begin text ts h.unit (sound text ts h.unit h.reads)) h.high
  stands (Unsupported w at) h =
      by_unused w at (first_unused ts) refl h (λ used stops. fault_begins text ts (unsupported_at w at) stops)
      (λ t is w_is at_is. begins_at ts at t.from at_is (unused_begins ts t is))
  stands Memory h = tt

  high : (f : ParseFault) (u : UnitTree) → IsRefusal f text ts → SpellsUnit text ts u → IsHigh f u
  high (Syntax at) u h spelled = syntax_spells_none at h.stops u spelled
  high (TooDeep at) u h spelled =
      let same : h.unit ≡ u = unique text ts h.unit u (sound text ts h.unit h.reads) spelled in
      let P : UnitTree → Type 0 = λ v. too_high (unit_roots v) ≡ Some at in
      subst P same h.high
  high (Unsupported w at) u h spelled = unsupported_spells_none w at h u spelled
  high Memory u h spelled = tt

  refuses : (f : ParseFault) (t : Token) → IsRefusal f text ts → first_unused ts ≡ Some t
      → IsUnsupported f (word text t) t.from
  refuses (Syntax at) t h is = let e = h.used in cc
  refuses (TooDeep at) t h is = let e = h.used in cc
  refuses (Unsupported w at) t h is =
      let P : Option Token → Type 0 =
      λ o. MatchOption o (run text ts start ≡ failed (unsupported_at w at))
      (λ x. (w ≡ word text x) × (at ≡ x.from)) in
      subst P is h
  refuses Memory t h is = tt

  -- ---- the answers

  module _ {T : Type 0} (unit : T → UnitTree) where
    pub is_spelled : (r : Result T ParseFault) → IfOk r (λ v. IsAnswer text ts (unit v))
        → IfOk r (λ v. SpellsUnit text ts (unit v))
    is_spelled (Ok v) h = sound text ts (unit v) h.reads
    is_spelled (Err f) h = tt

    pub is_low : (r : Result T ParseFault) → IfOk r (λ v. IsAnswer text ts (unit v))
        → IfOk r (λ v. too_high (unit_roots (unit v)) ≡ None)
    is_low (Ok v) h = h.low
    is_low (Err f) h = tt

    pub is_why : (r : Result T ParseFault) → IfErr r (λ f. IsRefusal f text ts) → IfErr r (λ f. IsWhy f text ts)
    is_why (Ok v) h = tt
    is_why (Err f) h = why f h

    pub stands_at_token : (r : Result T ParseFault) → IfErr r (λ f. IsRefusal f text ts)
        → IfErr r (λ f. StandsAtToken f ts)
    stands_at_token (Ok v) h = tt
    stands_at_token (Err f) h = stands f h

    pub answers_unit : (r : Result T ParseFault) → IfOk r (λ v. IsAnswer text ts (unit v))
        → IfErr r (λ f. IsRefusal f text ts) → (u : UnitTree) → SpellsUnit text ts u → AnswersUnit unit r u
    answers_unit (Ok v) h k u spelled = unique text ts (unit v) u (sound text ts (unit v) h.reads) spelled
    answers_unit (Err f) h k u spelled = high f u k spelled

    pub refuses_word : (r : Result T ParseFault) → IfOk r (λ v. IsAnswer text ts (unit v))
        → IfErr r (λ f. IsRefusal f text ts) → (t : Token) → first_unused ts ≡ Some t
        → RefusesWord r (word text t) t.from
    refuses_word (Ok v) h k t is = let e = h.used in let no : None ≡ Some t = sym e ∙ is in cc
    refuses_word (Err f) h k t is = refuses f t k is

    pub offsets_at_tokens : (r : Result T ParseFault) → IfOk r (λ v. IsAnswer text ts (unit v))
        → IfOk r (λ v. UnitOffsets (BeginsToken ts) (unit v))
    offsets_at_tokens (Ok v) h = offsets_begin text ts (unit v) (sound text ts (unit v) h.reads)
    offsets_at_tokens (Err f) h = tt

    pub has_few_nodes : 0 < length ts → (r : Result T ParseFault) → IfOk r (λ v. IsAnswer text ts (unit v))
        → IfOk r (λ v. HasFewNodes (length ts - 1) (unit v))
    has_few_nodes some (Ok v) h =
        few_nodes text ts (unit v) (sound text ts (unit v) h.reads) (length ts - 1) (omega arith)
    has_few_nodes some (Err f) h = tt

    pub has_few_cases : 0 < length ts → (r : Result T ParseFault) → IfOk r (λ v. IsAnswer text ts (unit v))
        → IfOk r (λ v. UnitFewCases (length ts - 1) (unit v))
    has_few_cases some (Ok v) h =
        few_cases text ts (unit v) (sound text ts (unit v) h.reads) (length ts - 1) (omega arith)
    has_few_cases some (Err f) h = tt
